-- Instruction starts: the places met reading the code from 0 to its end or to the first place that cannot be decoded (document 01, Container).
use Rattle.std.specs.Prelude.{List, [], ◌∷◌, ℕ, zero, suc, ◌+◌, leb, length, Result, Ok, Err}
use Rattle.words.specs.Choice.{pick}
use Rattle.isa.specs.Codec.{decode_at}
use Rattle.isa.specs.declared.instr.Instr.{Instr}
use Rattle.isa.specs.declared.codec.DecodeError.{DecodeError}

unfoldable pub starts_by : Result (Instr × ℕ) DecodeError → (place : ℕ) → (ℕ → List ℕ) → List ℕ
starts_by (Err e) place next = []
starts_by (Ok (i, n)) place next = place ∷ next (place + n)

-- from a place on; every instruction takes a byte or more, so as many turns as the code has bytes are enough
unfoldable pub starts_from : (turns : ℕ) (code : List ℕ) (place : ℕ) → List ℕ
starts_from zero code place = []
starts_from (suc t) code place = pick (leb (length code) place) [] (starts_by (decode_at code place) place (λ next. starts_from t code next))

unfoldable pub starts_of : List ℕ → List ℕ
starts_of code = starts_from (length code) code 0
