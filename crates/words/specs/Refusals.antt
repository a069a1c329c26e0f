-- A refusal or a fault by document 01's number and its argument, 0 where it has none (Numbers returned).
use Rattle.std.specs.Prelude.{ℕ}
use Rattle.words.specs.declared.refusal.Refusal.{Refusal}

abbrev pub refusal : (number argument : ℕ) → Refusal
refusal n a = record { number = n; argument = a }
