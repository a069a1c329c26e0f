-- The opcode table (document 01, Codec and The run: isa.rs's bytes and operands, meter.rs's base prices).
use Rattle.std.specs.Prelude.{ℕ, ◌+◌, List, [], ◌∷◌, eqb, Option, Some, None}
use Rattle.words.specs.Choice.{pick}
use Rattle.isa.specs.declared.opcode.OpCode.{OpCode}
use Rattle.isa.specs.declared.opcode.OpCode.TheVariants.{Halt, Nop, Mov, Ldi, Ldc, Add, Sub, Mul, Div, Rem, AddW, SubW, MulW, MulHi, DivW, RemW, And, Or, Xor, Not, Shl, Shr, Eq, LtU, GtU, Push, Pop, MLoad, MStore, Jmp, Jz, Jnz, Call, Ret, SLoad, SStore, Send, Emit, Hash, VerifyMl, VerifySlh, MerkleVerify, Addr}
use Rattle.isa.specs.declared.opcode.OpRow.{OpRow}

abbrev pub op_row : ℕ → ℕ → ℕ → ℕ → OpRow
op_row byte regs wide price = (byte, regs, wide, price)

-- byte, registers, bytes of number after them, base price
unfoldable pub row_of : OpCode → OpRow
row_of Halt = op_row 0 0 0 0
row_of Nop = op_row 1 0 0 1
row_of Mov = op_row 2 2 0 1
row_of Ldi = op_row 3 1 8 1
row_of Ldc = op_row 4 1 2 1
row_of Add = op_row 16 3 0 2
row_of Sub = op_row 17 3 0 2
row_of Mul = op_row 18 3 0 3
row_of Div = op_row 19 3 0 4
row_of Rem = op_row 20 3 0 4
row_of AddW = op_row 24 3 0 2
row_of SubW = op_row 25 3 0 2
row_of MulW = op_row 26 3 0 3
row_of MulHi = op_row 27 3 0 3
row_of DivW = op_row 28 6 0 8
row_of RemW = op_row 29 6 0 8
row_of And = op_row 32 3 0 1
row_of Or = op_row 33 3 0 1
row_of Xor = op_row 34 3 0 1
row_of Not = op_row 35 2 0 1
row_of Shl = op_row 36 3 0 1
row_of Shr = op_row 37 3 0 1
row_of Eq = op_row 40 3 0 1
row_of LtU = op_row 41 3 0 1
row_of GtU = op_row 42 3 0 1
row_of Push = op_row 48 1 0 2
row_of Pop = op_row 49 1 0 2
row_of MLoad = op_row 56 2 0 3
row_of MStore = op_row 57 2 0 3
row_of Jmp = op_row 64 0 4 2
row_of Jz = op_row 65 1 4 2
row_of Jnz = op_row 66 1 4 2
row_of Call = op_row 67 0 4 3
row_of Ret = op_row 68 0 0 2
row_of SLoad = op_row 80 2 0 100
row_of SStore = op_row 81 2 0 500
row_of Send = op_row 96 3 0 200
row_of Emit = op_row 97 3 0 200
row_of Hash = op_row 112 3 0 200
row_of VerifyMl = op_row 113 3 0 60000
row_of VerifySlh = op_row 114 3 0 340000
row_of MerkleVerify = op_row 115 3 0 512
row_of Addr = op_row 118 3 0 4000

abbrev pub byte_of : OpCode → ℕ
byte_of o = (row_of o).0

abbrev pub regs_of : OpCode → ℕ
regs_of o = (row_of o).1

abbrev pub wide_of : OpCode → ℕ
wide_of o = (row_of o).2

abbrev pub price_of : OpCode → ℕ
price_of o = (row_of o).3

-- how many bytes an instruction of this opcode takes
abbrev pub length_of : OpCode → ℕ
length_of o = 1 + regs_of o + wide_of o

-- every opcode, once
abbrev pub opcodes : List OpCode
opcodes =
    Halt ∷ Nop ∷ Mov ∷ Ldi ∷ Ldc ∷ Add ∷ Sub ∷ Mul ∷ Div ∷ Rem ∷ AddW ∷ SubW ∷ MulW ∷ MulHi ∷ DivW ∷ RemW ∷
    And ∷ Or ∷ Xor ∷ Not ∷ Shl ∷ Shr ∷ Eq ∷ LtU ∷ GtU ∷ Push ∷ Pop ∷ MLoad ∷ MStore ∷ Jmp ∷ Jz ∷ Jnz ∷ Call ∷
    Ret ∷ SLoad ∷ SStore ∷ Send ∷ Emit ∷ Hash ∷ VerifyMl ∷ VerifySlh ∷ MerkleVerify ∷ Addr ∷ []

-- the opcode among these that has a byte
unfoldable pub op_with : ℕ → List OpCode → Option OpCode
op_with b [] = None
op_with b (o ∷ os) = pick (eqb b (byte_of o)) (Some o) (op_with b os)

unfoldable pub op_at : ℕ → Option OpCode
unfolding op_with
op_at b = op_with b opcodes
