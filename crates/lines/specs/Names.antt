-- The name of each number (document 01, Numbers returned).
use Rattle.std.specs.Prelude.{List, [], ◌∷◌, ℕ, eqb}
use Prim.Native.String.{String}
use Rattle.words.specs.Choice.{pick}
use Rattle.text.specs.Ascii.{ascii}

pub record Named : Type 0 where
  pub number : ℕ
  pub name : String

abbrev named : ℕ → String → Named
named n s = record { number = n; name = s }

-- a number's name in a list, or what stands in where it is not there
unfoldable pub name_in : List Named → ℕ → List ℕ → List ℕ
name_in [] n other = other
name_in (x ∷ xs) n other = pick (eqb n x.number) (ascii x.name) (name_in xs n other)

-- from the Rust: what ends a run, decode's refusals with it
abbrev pub run_names : List Named
run_names =
    named 1 "OutOfMeter" ∷ named 2 "Overflow" ∷ named 3 "DivByZero" ∷ named 4 "StackOverflow" ∷ named 5 "StackUnderflow" ∷
    named 6 "BadMemory" ∷ named 7 "BadJump" ∷ named 8 "BadConst" ∷ named 9 "UnknownSelector" ∷ named 10 "BadScheme" ∷
    named 11 "EffectsTooLarge" ∷ named 12 "UndeclaredSlot" ∷ named 13 "CryptoFault" ∷ named 14 "Malformed" ∷
    named 15 "UnknownOpcode" ∷ named 16 "BadRegister" ∷ named 17 "Truncated" ∷ []

-- from the Rust: what verify refuses
abbrev pub verify_names : List Named
verify_names =
    named 21 "CodeTooLarge" ∷ named 22 "ConstsTooLarge" ∷ named 23 "EntriesTooLarge" ∷ named 24 "UndecodableCode" ∷
    named 25 "ConstIndexOutOfRange" ∷ named 26 "MisalignedTarget" ∷ named 27 "EntryOffsetMisaligned" ∷
    named 28 "DuplicateSelector" ∷ named 29 "AccessListTooLarge" ∷ []

-- added
abbrev pub added_names : List Named
added_names =
    named 41 "BadTag" ∷ named 42 "Short" ∷ named 43 "Trailing" ∷ named 44 "BadBuffer" ∷ named 45 "BadTable" ∷
    named 46 "BadReply" ∷ named 47 "NoReply" ∷ named 48 "NoRoom" ∷ named 49 "BadList" ∷ named 50 "NotRegister" ∷ []

unfoldable pub added_name : ℕ → List ℕ
added_name n = name_in added_names n (ascii "Unnamed")

unfoldable pub later_name : ℕ → List ℕ
later_name n = name_in verify_names n (added_name n)

unfoldable pub name_of : ℕ → List ℕ
name_of n = name_in run_names n (later_name n)
