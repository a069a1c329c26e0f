-- Targets: each must be an instruction start (document 01, Container).
use Rattle.std.specs.Prelude.{Bool, List, ℕ, zero, suc, ◌+◌, leb, length, Option, Some, None, Result, Ok, Err}
use Rattle.words.specs.Choice.{pick}
use Rattle.words.specs.Lists.{member}
use Rattle.isa.specs.Refers.{refers_to}
use Rattle.isa.specs.Codec.{decode_at}
use Rattle.isa.specs.declared.flow.Refers.{Refers}
use Rattle.isa.specs.declared.flow.Refers.TheVariants.{Const, Target, Nothing}
use Rattle.isa.specs.declared.instr.Instr.{Instr}
use Rattle.isa.specs.declared.codec.DecodeError.{DecodeError}

-- the first target, in code order, that is no start
unfoldable pub bad_or : Refers → List ℕ → Option ℕ → Option ℕ
bad_or (Target t) starts next = pick (member t starts) next (Some t)
bad_or (Const k) starts next = next
bad_or Nothing starts next = next

unfoldable pub target_by : Result (Instr × ℕ) DecodeError → List ℕ → (ℕ → Option ℕ) → Option ℕ
target_by (Err e) starts next = None
target_by (Ok (i, n)) starts next = bad_or (refers_to i) starts (next n)

unfoldable pub bad_target : (turns : ℕ) (code starts : List ℕ) (place : ℕ) → Option ℕ
bad_target zero code starts place = None
bad_target (suc t) code starts place =
    pick (leb (length code) place) None (target_by (decode_at code place) starts (λ n. bad_target t code starts (place + n)))

-- ---- as the code answers

-- a target must be a start
unfoldable pub target_stands : Refers → (start : ℕ → Bool) → Result Unit ℕ
target_stands (Target t) start = pick (start t) (Ok tt) (Err t)
target_stands (Const k) start = Ok tt
target_stands Nothing start = Ok tt

-- the first target that is no start
unfoldable pub stands_of : Option ℕ → Result Unit ℕ
stands_of None = Ok tt
stands_of (Some t) = Err t
