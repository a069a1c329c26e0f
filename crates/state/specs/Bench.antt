-- The bench step (document 01, What changes shape here: Mov, Ldi, Add to GtU; 50, then 16, then the operation's own fault).
use Rattle.std.specs.Prelude.{ℕ, Option, Some, None}
use Rattle.words.specs.Choice.{pick}
use Rattle.isa.specs.declared.instr.Instr.{Instr}
use Rattle.isa.specs.Forms.{form_of}
use Rattle.isa.specs.Kinds.{register_op}
use Rattle.isa.specs.Codec.{first_bad}
use Rattle.state.specs.declared.regs.RegFile.{RegFile}
use Rattle.state.specs.declared.regs.Stepped.{Stepped}
use Rattle.state.specs.Regs.{refused, register_step}
use Rattle.isa.specs.declared.codec.DecodeError.TheVariants.{BadRegister}
use Rattle.state.specs.declared.fault.Fault.TheVariants.{NotRegister, Decode}

-- a register of 16 or more refuses the step
abbrev pub unless_bad_register : Option ℕ → RegFile → Stepped → Stepped
unless_bad_register (Some r) f s = refused f (Decode (BadRegister r))
unless_bad_register None f s = s

-- the file after an instruction and its number; every refusal leaves the file as it was
abbrev pub bench_of : Instr → RegFile → Stepped
bench_of i f = pick (register_op (form_of i).op) (unless_bad_register (first_bad (form_of i).regs) f (register_step i f)) (refused f NotRegister)
