-- Which group an instruction belongs to, and its operands there (document 01, The run).
use Rattle.isa.specs.declared.instr.Instr.{Instr}
use Rattle.isa.specs.declared.instr.Instr.TheVariants as instr
use Rattle.machine.specs.declared.action.Action.{Action}
use Rattle.machine.specs.declared.action.Action.TheVariants as action
use Rattle.machine.specs.declared.action.Move.TheVariants as move
use Rattle.machine.specs.declared.action.Jump.TheVariants as jump
use Rattle.machine.specs.declared.action.Access.TheVariants as access
use Rattle.machine.specs.declared.action.Post.TheVariants as post
use Rattle.machine.specs.declared.action.Check.TheVariants as check

unfoldable pub action_of : Instr → Action
action_of instr.Halt = action.Halt
action_of instr.Nop = action.Nop
action_of (instr.Mov d a) = action.Registers
action_of (instr.Ldi d imm) = action.Registers
action_of (instr.Ldc d idx) = action.Moves (move.Ldc d idx)
action_of (instr.Add d a b) = action.Registers
action_of (instr.Sub d a b) = action.Registers
action_of (instr.Mul d a b) = action.Registers
action_of (instr.Div d a b) = action.Registers
action_of (instr.Rem d a b) = action.Registers
action_of (instr.AddW d a b) = action.Registers
action_of (instr.SubW d a b) = action.Registers
action_of (instr.MulW d a b) = action.Registers
action_of (instr.MulHi d a b) = action.Registers
action_of (instr.DivW dlo dhi alo ahi blo bhi) = action.Registers
action_of (instr.RemW dlo dhi alo ahi blo bhi) = action.Registers
action_of (instr.And d a b) = action.Registers
action_of (instr.Or d a b) = action.Registers
action_of (instr.Xor d a b) = action.Registers
action_of (instr.Not d a) = action.Registers
action_of (instr.Shl d a b) = action.Registers
action_of (instr.Shr d a b) = action.Registers
action_of (instr.Eq d a b) = action.Registers
action_of (instr.LtU d a b) = action.Registers
action_of (instr.GtU d a b) = action.Registers
action_of (instr.Push a) = action.Moves (move.Push a)
action_of (instr.Pop d) = action.Moves (move.Pop d)
action_of (instr.MLoad d a) = action.Moves (move.MLoad d a)
action_of (instr.MStore a b) = action.Moves (move.MStore a b)
action_of (instr.Jmp target) = action.Jumps (jump.Jmp target)
action_of (instr.Jz a target) = action.Jumps (jump.Jz a target)
action_of (instr.Jnz a target) = action.Jumps (jump.Jnz a target)
action_of (instr.Call target) = action.Jumps (jump.Call target)
action_of instr.Ret = action.Jumps jump.Ret
action_of (instr.SLoad d a) = action.Storage (access.SLoad d a)
action_of (instr.SStore a b) = action.Storage (access.SStore a b)
action_of (instr.Send a b c) = action.Posts (post.Send a b c)
action_of (instr.Emit a b c) = action.Posts (post.Emit a b c)
action_of (instr.Hash a b c) = action.Hash a b c
action_of (instr.VerifyMl a b c) = action.Checks (check.VerifyMl b)
action_of (instr.VerifySlh a b c) = action.Checks (check.VerifySlh b)
action_of (instr.MerkleVerify a b c) = action.Checks (check.MerkleVerify b)
action_of (instr.Addr a b c) = action.Checks check.Addr
