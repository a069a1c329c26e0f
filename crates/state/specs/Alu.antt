-- The values of operations on words (document 01, The run: Add, Sub, Mul fault on overflow; W wraps; shift counts modulo 64).
use Rattle.std.specs.Prelude.{ℕ, ◌+◌, ◌-◌, ◌*◌, ◌/◌, ◌%◌, ◌^◌, ◌==◌, bit_and, bit_or, bit_xor, nat_le, nat_lt, Result, Ok, Err}
use Rattle.words.specs.Choice.{pick, bit}
use Rattle.state.specs.declared.alu.Op.{Op}
use Rattle.state.specs.declared.alu.Op.TheVariants.{Add, Sub, Mul, Div, Rem, AddW, SubW, MulW, MulHi, And, Or, Xor, Shl, Shr, Eq, LtU, GtU}
use Rattle.state.specs.declared.alu.Wanted.{Wanted}
use Rattle.state.specs.declared.alu.Wanted.TheVariants.{Quotient, Rest}
use Rattle.state.specs.declared.fault.Fault.{Fault}
use Rattle.state.specs.declared.fault.Fault.TheVariants.{Overflow, DivByZero}

-- a value that must be a word, else overflow
abbrev pub word : ℕ → Result ℕ Fault
word v = pick (nat_lt v (2 ^ 64)) (Ok v) (Err Overflow)

-- a difference that must not be below 0, else overflow
abbrev pub difference : ℕ → ℕ → Result ℕ Fault
difference x y = pick (nat_le y x) (Ok (x - y)) (Err Overflow)

-- a value over a divisor that must not be 0
abbrev pub over : ℕ → ℕ → Result ℕ Fault
over d v = pick (d == 0) (Err DivByZero) (Ok v)

-- what is wanted of a division
abbrev pub part_of : Wanted → ℕ → ℕ → ℕ
part_of Quotient n d = n / d
part_of Rest n d = n % d

-- the value of an operation on two words
unfoldable pub alu_of : Op → ℕ → ℕ → Result ℕ Fault
alu_of Add x y = word (x + y)
alu_of Sub x y = difference x y
alu_of Mul x y = word (x * y)
alu_of Div x y = over y (x / y)
alu_of Rem x y = over y (x % y)
alu_of AddW x y = Ok ((x + y) % 2 ^ 64)
alu_of SubW x y = Ok ((x + (2 ^ 64 - y)) % 2 ^ 64)
alu_of MulW x y = Ok (x * y % 2 ^ 64)
alu_of MulHi x y = Ok (x * y / 2 ^ 64)
alu_of And x y = Ok (bit_and x y)
alu_of Or x y = Ok (bit_or x y)
alu_of Xor x y = Ok (bit_xor x y)
alu_of Shl x y = Ok (x * 2 ^ (y % 64) % 2 ^ 64)
alu_of Shr x y = Ok (x / 2 ^ (y % 64))
alu_of Eq x y = Ok (bit (x == y))
alu_of LtU x y = Ok (bit (nat_lt x y))
alu_of GtU x y = Ok (bit (nat_lt y x))
