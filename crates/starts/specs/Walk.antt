-- The reading of the code that verify does: the instruction starts met from 0 on, to its end, to the first place that cannot be decoded or to an Ldc without its constant (document 01, Container).
use Rattle.std.specs.Prelude.{List, [], ◌∷◌, ℕ, zero, suc, ◌+◌, ltb, leb, length, Result, Ok, Err}
use Rattle.words.specs.Choice.{pick}
use Rattle.isa.specs.Refers.{refers_to}
use Rattle.isa.specs.Codec.{decode_at}
use Rattle.isa.specs.declared.flow.Refers.{Refers}
use Rattle.isa.specs.declared.flow.Refers.TheVariants.{Const, Target, Nothing}
use Rattle.isa.specs.declared.instr.Instr.{Instr}
use Rattle.isa.specs.declared.codec.DecodeError.{DecodeError}
use Rattle.starts.specs.declared.scan_answers.ScanError.{ScanError}

-- the starts met, and how the reading ended
pub record Walk : Type 0 where
  pub starts : List ℕ
  pub end : Result Unit ScanError

unfoldable pub ended : Result Unit ScanError → Walk
ended e = record { starts = []; end = e }

unfoldable pub met : ℕ → Walk → Walk
met place w = record { starts = place ∷ w.starts; end = w.end }

-- a constant's index must be below their number
unfoldable pub index_of : Refers → (consts : ℕ) → Result Unit ℕ
index_of (Const k) consts = pick (ltb k consts) (Ok tt) (Err k)
index_of (Target t) consts = Ok tt
index_of Nothing consts = Ok tt

unfoldable pub unless_bad : Refers → (consts : ℕ) → Walk → Walk
unless_bad (Const k) consts w = pick (ltb k consts) w (ended (Err (ScanError.BadConst k)))
unless_bad (Target t) consts w = w
unless_bad Nothing consts w = w

unfoldable pub walk_by : Result (Instr × ℕ) DecodeError → (consts place : ℕ) → (ℕ → Walk) → Walk
walk_by (Err e) consts place next = ended (Err (ScanError.Undecodable place e))
walk_by (Ok (i, n)) consts place next = met place (unless_bad (refers_to i) consts (next (place + n)))

-- from a place on; every instruction takes a byte or more, so as many turns as the code has bytes are enough
unfoldable pub walk : (turns : ℕ) (code : List ℕ) (consts place : ℕ) → Walk
walk zero code consts place = ended (Ok tt)
walk (suc t) code consts place =
    pick (leb (length code) place) (ended (Ok tt)) (walk_by (decode_at code place) consts place (λ next. walk t code consts next))

unfoldable pub walk_of : (code : List ℕ) (consts : ℕ) → Walk
walk_of code consts = walk (length code) code consts 0
