-- `Instr::flow` meets its contract: each arm is told the opcode, and the last that it is one of those that go on. Assumes nothing.
use mathlib.Core.Path.{refl}
use Rattle.isa.specs.declared.flow.Flow.TheVariants.{Next}
use Rattle.words.specs.Lists.{member}
use Rattle.isa.specs.Table.{row_of}
use Rattle.isa.specs.Forms.{form_of, instr_of}
use Rattle.isa.specs.Flow.{flow_of}
use Rattle.isa.specs.ToldLaws.{flow_told}
use Rattle.isa.specs.TestLaws.{goes_on, goes_on_lem}
use Rattle.isa.proofs.Tags.{in_arm}
use borrow.Enum.Refused.{opened}
use Rattle.isa.proofs.instr.Instr.flow.Goals as goal

pub returns-in_default : goal.returns-in_default
unfolding member row_of
returns-in_default c =
    let i = c.args.self in
    let p = c.parts_of-p.result in
    flow_told i p p.0 Next c.parts_of-p.ensures refl (goes_on_lem p.0 (form_of i).regs p.2 (in_arm goes_on refl p.0 (opened c.in_default.in_default-own.keys7)))

pub returns-in-Halt : goal.returns-in-Halt
unfolding flow_of instr_of
returns-in-Halt c = search flow_told

pub returns-in-Jmp : goal.returns-in-Jmp
unfolding flow_of instr_of
returns-in-Jmp c = search flow_told

pub returns-in-Jz : goal.returns-in-Jz
unfolding flow_of instr_of
returns-in-Jz c = search flow_told

pub returns-in-Jnz : goal.returns-in-Jnz
unfolding flow_of instr_of
returns-in-Jnz c = search flow_told

pub returns-in-Call : goal.returns-in-Call
unfolding flow_of instr_of
returns-in-Call c = search flow_told

pub returns-in-Ret : goal.returns-in-Ret
unfolding flow_of instr_of
returns-in-Ret c = search flow_told
