-- Kinds of opcodes: those that work on registers alone (document 01, What changes shape here: Mov, Ldi, Add to GtU), Ldc, the others.
use Rattle.std.specs.Prelude.{Bool, true, false}
use Rattle.isa.specs.declared.opcode.OpCode.{OpCode}
use Rattle.isa.specs.declared.opcode.OpCode.TheVariants.{Halt, Nop, Mov, Ldi, Ldc, Add, Sub, Mul, Div, Rem, AddW, SubW, MulW, MulHi, DivW, RemW, And, Or, Xor, Not, Shl, Shr, Eq, LtU, GtU, Push, Pop, MLoad, MStore, Jmp, Jz, Jnz, Call, Ret, SLoad, SStore, Send, Emit, Hash, VerifyMl, VerifySlh, MerkleVerify, Addr}
use Rattle.isa.specs.declared.opcode.Kind.{Kind}
use Rattle.isa.specs.declared.opcode.Kind.TheVariants.{Registers, Constant, Other}

unfoldable pub kind_of : OpCode → Kind
kind_of Halt = Other
kind_of Nop = Other
kind_of Mov = Registers
kind_of Ldi = Registers
kind_of Ldc = Constant
kind_of Add = Registers
kind_of Sub = Registers
kind_of Mul = Registers
kind_of Div = Registers
kind_of Rem = Registers
kind_of AddW = Registers
kind_of SubW = Registers
kind_of MulW = Registers
kind_of MulHi = Registers
kind_of DivW = Registers
kind_of RemW = Registers
kind_of And = Registers
kind_of Or = Registers
kind_of Xor = Registers
kind_of Not = Registers
kind_of Shl = Registers
kind_of Shr = Registers
kind_of Eq = Registers
kind_of LtU = Registers
kind_of GtU = Registers
kind_of Push = Other
kind_of Pop = Other
kind_of MLoad = Other
kind_of MStore = Other
kind_of Jmp = Other
kind_of Jz = Other
kind_of Jnz = Other
kind_of Call = Other
kind_of Ret = Other
kind_of SLoad = Other
kind_of SStore = Other
kind_of Send = Other
kind_of Emit = Other
kind_of Hash = Other
kind_of VerifyMl = Other
kind_of VerifySlh = Other
kind_of MerkleVerify = Other
kind_of Addr = Other

abbrev pub is_registers : Kind → Bool
is_registers Registers = true
is_registers Constant = false
is_registers Other = false

-- whether an opcode works on registers alone
abbrev pub register_op : OpCode → Bool
register_op o = is_registers (kind_of o)
