-- An instruction as opcode, registers in order and number (document 01, Codec: isa.rs's operand order).
use Rattle.std.specs.Prelude.{ℕ, List, [], ◌∷◌}
use Rattle.words.specs.Lists.{nth}
use Rattle.isa.specs.declared.opcode.OpCode.{OpCode}
use Rattle.isa.specs.declared.opcode.OpCode.TheVariants as op
use Rattle.isa.specs.declared.instr.Instr.{Instr}
use Rattle.isa.specs.declared.instr.Instr.TheVariants as instr
use Rattle.isa.specs.declared.instr.Parts.{Parts}

pub record Form : Type 0 where
  pub op : OpCode
  pub regs : List ℕ
  pub number : ℕ

abbrev pub form : OpCode → List ℕ → ℕ → Form
form o r n = record { op = o; regs = r; number = n }

-- opcode, registers and number of an instruction; 0 where it has no number
unfoldable pub form_of : Instr → Form
form_of instr.Halt = form op.Halt [] 0
form_of instr.Nop = form op.Nop [] 0
form_of (instr.Mov d a) = form op.Mov (d ∷ a ∷ []) 0
form_of (instr.Ldi d imm) = form op.Ldi (d ∷ []) imm
form_of (instr.Ldc d idx) = form op.Ldc (d ∷ []) idx
form_of (instr.Add d a b) = form op.Add (d ∷ a ∷ b ∷ []) 0
form_of (instr.Sub d a b) = form op.Sub (d ∷ a ∷ b ∷ []) 0
form_of (instr.Mul d a b) = form op.Mul (d ∷ a ∷ b ∷ []) 0
form_of (instr.Div d a b) = form op.Div (d ∷ a ∷ b ∷ []) 0
form_of (instr.Rem d a b) = form op.Rem (d ∷ a ∷ b ∷ []) 0
form_of (instr.AddW d a b) = form op.AddW (d ∷ a ∷ b ∷ []) 0
form_of (instr.SubW d a b) = form op.SubW (d ∷ a ∷ b ∷ []) 0
form_of (instr.MulW d a b) = form op.MulW (d ∷ a ∷ b ∷ []) 0
form_of (instr.MulHi d a b) = form op.MulHi (d ∷ a ∷ b ∷ []) 0
form_of (instr.DivW dlo dhi alo ahi blo bhi) = form op.DivW (dlo ∷ dhi ∷ alo ∷ ahi ∷ blo ∷ bhi ∷ []) 0
form_of (instr.RemW dlo dhi alo ahi blo bhi) = form op.RemW (dlo ∷ dhi ∷ alo ∷ ahi ∷ blo ∷ bhi ∷ []) 0
form_of (instr.And d a b) = form op.And (d ∷ a ∷ b ∷ []) 0
form_of (instr.Or d a b) = form op.Or (d ∷ a ∷ b ∷ []) 0
form_of (instr.Xor d a b) = form op.Xor (d ∷ a ∷ b ∷ []) 0
form_of (instr.Not d a) = form op.Not (d ∷ a ∷ []) 0
form_of (instr.Shl d a b) = form op.Shl (d ∷ a ∷ b ∷ []) 0
form_of (instr.Shr d a b) = form op.Shr (d ∷ a ∷ b ∷ []) 0
form_of (instr.Eq d a b) = form op.Eq (d ∷ a ∷ b ∷ []) 0
form_of (instr.LtU d a b) = form op.LtU (d ∷ a ∷ b ∷ []) 0
form_of (instr.GtU d a b) = form op.GtU (d ∷ a ∷ b ∷ []) 0
form_of (instr.Push a) = form op.Push (a ∷ []) 0
form_of (instr.Pop d) = form op.Pop (d ∷ []) 0
form_of (instr.MLoad d a) = form op.MLoad (d ∷ a ∷ []) 0
form_of (instr.MStore a b) = form op.MStore (a ∷ b ∷ []) 0
form_of (instr.Jmp target) = form op.Jmp [] target
form_of (instr.Jz a target) = form op.Jz (a ∷ []) target
form_of (instr.Jnz a target) = form op.Jnz (a ∷ []) target
form_of (instr.Call target) = form op.Call [] target
form_of instr.Ret = form op.Ret [] 0
form_of (instr.SLoad d a) = form op.SLoad (d ∷ a ∷ []) 0
form_of (instr.SStore a b) = form op.SStore (a ∷ b ∷ []) 0
form_of (instr.Send a b c) = form op.Send (a ∷ b ∷ c ∷ []) 0
form_of (instr.Emit a b c) = form op.Emit (a ∷ b ∷ c ∷ []) 0
form_of (instr.Hash a b c) = form op.Hash (a ∷ b ∷ c ∷ []) 0
form_of (instr.VerifyMl a b c) = form op.VerifyMl (a ∷ b ∷ c ∷ []) 0
form_of (instr.VerifySlh a b c) = form op.VerifySlh (a ∷ b ∷ c ∷ []) 0
form_of (instr.MerkleVerify a b c) = form op.MerkleVerify (a ∷ b ∷ c ∷ []) 0
form_of (instr.Addr a b c) = form op.Addr (a ∷ b ∷ c ∷ []) 0

-- the instruction of an opcode, of the registers that a list begins with and of a number
unfoldable pub instr_of : OpCode → List ℕ → ℕ → Instr
instr_of op.Halt r n = instr.Halt
instr_of op.Nop r n = instr.Nop
instr_of op.Mov r n = instr.Mov (nth r 0) (nth r 1)
instr_of op.Ldi r n = instr.Ldi (nth r 0) n
instr_of op.Ldc r n = instr.Ldc (nth r 0) n
instr_of op.Add r n = instr.Add (nth r 0) (nth r 1) (nth r 2)
instr_of op.Sub r n = instr.Sub (nth r 0) (nth r 1) (nth r 2)
instr_of op.Mul r n = instr.Mul (nth r 0) (nth r 1) (nth r 2)
instr_of op.Div r n = instr.Div (nth r 0) (nth r 1) (nth r 2)
instr_of op.Rem r n = instr.Rem (nth r 0) (nth r 1) (nth r 2)
instr_of op.AddW r n = instr.AddW (nth r 0) (nth r 1) (nth r 2)
instr_of op.SubW r n = instr.SubW (nth r 0) (nth r 1) (nth r 2)
instr_of op.MulW r n = instr.MulW (nth r 0) (nth r 1) (nth r 2)
instr_of op.MulHi r n = instr.MulHi (nth r 0) (nth r 1) (nth r 2)
instr_of op.DivW r n = instr.DivW (nth r 0) (nth r 1) (nth r 2) (nth r 3) (nth r 4) (nth r 5)
instr_of op.RemW r n = instr.RemW (nth r 0) (nth r 1) (nth r 2) (nth r 3) (nth r 4) (nth r 5)
instr_of op.And r n = instr.And (nth r 0) (nth r 1) (nth r 2)
instr_of op.Or r n = instr.Or (nth r 0) (nth r 1) (nth r 2)
instr_of op.Xor r n = instr.Xor (nth r 0) (nth r 1) (nth r 2)
instr_of op.Not r n = instr.Not (nth r 0) (nth r 1)
instr_of op.Shl r n = instr.Shl (nth r 0) (nth r 1) (nth r 2)
instr_of op.Shr r n = instr.Shr (nth r 0) (nth r 1) (nth r 2)
instr_of op.Eq r n = instr.Eq (nth r 0) (nth r 1) (nth r 2)
instr_of op.LtU r n = instr.LtU (nth r 0) (nth r 1) (nth r 2)
instr_of op.GtU r n = instr.GtU (nth r 0) (nth r 1) (nth r 2)
instr_of op.Push r n = instr.Push (nth r 0)
instr_of op.Pop r n = instr.Pop (nth r 0)
instr_of op.MLoad r n = instr.MLoad (nth r 0) (nth r 1)
instr_of op.MStore r n = instr.MStore (nth r 0) (nth r 1)
instr_of op.Jmp r n = instr.Jmp n
instr_of op.Jz r n = instr.Jz (nth r 0) n
instr_of op.Jnz r n = instr.Jnz (nth r 0) n
instr_of op.Call r n = instr.Call n
instr_of op.Ret r n = instr.Ret
instr_of op.SLoad r n = instr.SLoad (nth r 0) (nth r 1)
instr_of op.SStore r n = instr.SStore (nth r 0) (nth r 1)
instr_of op.Send r n = instr.Send (nth r 0) (nth r 1) (nth r 2)
instr_of op.Emit r n = instr.Emit (nth r 0) (nth r 1) (nth r 2)
instr_of op.Hash r n = instr.Hash (nth r 0) (nth r 1) (nth r 2)
instr_of op.VerifyMl r n = instr.VerifyMl (nth r 0) (nth r 1) (nth r 2)
instr_of op.VerifySlh r n = instr.VerifySlh (nth r 0) (nth r 1) (nth r 2)
instr_of op.MerkleVerify r n = instr.MerkleVerify (nth r 0) (nth r 1) (nth r 2)
instr_of op.Addr r n = instr.Addr (nth r 0) (nth r 1) (nth r 2)

-- the first six registers, with zeroes after the last
abbrev pub six : List ℕ → List ℕ
six r = nth r 0 ∷ nth r 1 ∷ nth r 2 ∷ nth r 3 ∷ nth r 4 ∷ nth r 5 ∷ []

-- a form with its registers in an array of six
abbrev pub padded : Form → Parts
padded f = (f.op, six f.regs, f.number)
