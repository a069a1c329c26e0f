-- `Instr::refers` meets its contract: each arm is told the opcode's kind. Assumes nothing.
use mathlib.Core.Path.{sym, ap, ◌∙◌}
use Rattle.isa.specs.declared.opcode.Kind.TheVariants.{Other}
use Rattle.isa.specs.Refers.{aim_of, refers_by}
use Rattle.isa.specs.ToldLaws.{refers_told}
use Rattle.isa.proofs.instr.Instr.refers.Goals as goal

pub returns-in-Other : goal.returns-in-Other
unfolding refers_by
returns-in-Other c =
    refers_told c.args.self c.parts_of-p.result c.kind-kind.result Other c.aim.result c.parts_of-p.ensures
    c.kind-kind.ensures c.in-Other.is (sym (c.aim.ensures ∙ ap aim_of c.flow.ensures))

pub returns-in-Registers : goal.returns-in-Registers
unfolding refers_by
returns-in-Registers c = search refers_told

pub returns-in-Constant : goal.returns-in-Constant
unfolding refers_by
returns-in-Constant c = search refers_told
