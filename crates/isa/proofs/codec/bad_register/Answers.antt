-- `bad_register` meets its contract: an instruction's registers stand first among its six. Assumes nothing.
use mathlib.Core.Path.{sym, ap, ◌∙◌}
use Prim.Native.Nat.{◌≤◌}
use lib.ListN.{length}
use Rattle.std.proofs.lemmas.List.{length-take-le}
use Rattle.isa.specs.Codec.{first_bad}
use Rattle.isa.specs.TableLaws.{row_bounds}
use Rattle.isa.specs.EncodeLaws.{six_regs}
use Rattle.isa.proofs.codec.bad_register.Goals as goal
use Rattle.isa.proofs.codec.bad_register.Goals.{After-registers-n}

stand : (c : After-registers-n) → c.registers-n.result ≤ length c.parts_of-p.result.1
stand c = rw (c.registers-n.ensures, c.parts_of-p.ensures) (row_bounds _).regs

pub slice_bounds-r-end : goal.slice_bounds-r-end
slice_bounds-r-end c = stand c

pub slice_bounds-first_bad-end : goal.slice_bounds-first_bad-end
slice_bounds-first_bad-end c = sym (length-take-le _ _ (stand (goal.at-slice_bounds-first_bad-end c).After-registers-n))

pub returns : goal.returns
returns c = c.first_bad.ensures ∙ ap first_bad (rw (c.registers-n.ensures, c.parts_of-p.ensures) (six_regs c.args.i))
