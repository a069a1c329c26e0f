-- Where control goes after an instruction (document 01, The run).
use Rattle.isa.specs.declared.instr.Instr.{Instr}
use Rattle.isa.specs.declared.instr.Instr.TheVariants as instr
use Rattle.isa.specs.declared.flow.Flow.{Flow}
use Rattle.isa.specs.declared.flow.Flow.TheVariants.{Next, Stop, Jump, Branch, Enter, Return}

-- a jump to its target, a branch there or on, a call there and back by a return; the end by Halt; from every other on to the next
unfoldable pub flow_of : Instr → Flow
flow_of instr.Halt = Stop
flow_of instr.Nop = Next
flow_of (instr.Mov d a) = Next
flow_of (instr.Ldi d imm) = Next
flow_of (instr.Ldc d idx) = Next
flow_of (instr.Add d a b) = Next
flow_of (instr.Sub d a b) = Next
flow_of (instr.Mul d a b) = Next
flow_of (instr.Div d a b) = Next
flow_of (instr.Rem d a b) = Next
flow_of (instr.AddW d a b) = Next
flow_of (instr.SubW d a b) = Next
flow_of (instr.MulW d a b) = Next
flow_of (instr.MulHi d a b) = Next
flow_of (instr.DivW dlo dhi alo ahi blo bhi) = Next
flow_of (instr.RemW dlo dhi alo ahi blo bhi) = Next
flow_of (instr.And d a b) = Next
flow_of (instr.Or d a b) = Next
flow_of (instr.Xor d a b) = Next
flow_of (instr.Not d a) = Next
flow_of (instr.Shl d a b) = Next
flow_of (instr.Shr d a b) = Next
flow_of (instr.Eq d a b) = Next
flow_of (instr.LtU d a b) = Next
flow_of (instr.GtU d a b) = Next
flow_of (instr.Push a) = Next
flow_of (instr.Pop d) = Next
flow_of (instr.MLoad d a) = Next
flow_of (instr.MStore a b) = Next
flow_of (instr.Jmp target) = Jump target
flow_of (instr.Jz a target) = Branch target
flow_of (instr.Jnz a target) = Branch target
flow_of (instr.Call target) = Enter target
flow_of instr.Ret = Return
flow_of (instr.SLoad d a) = Next
flow_of (instr.SStore a b) = Next
flow_of (instr.Send a b c) = Next
flow_of (instr.Emit a b c) = Next
flow_of (instr.Hash a b c) = Next
flow_of (instr.VerifyMl a b c) = Next
flow_of (instr.VerifySlh a b c) = Next
flow_of (instr.MerkleVerify a b c) = Next
flow_of (instr.Addr a b c) = Next
