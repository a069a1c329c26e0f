-- A choice by a test, and the few words on tests that the rules use.
use Rattle.std.specs.Prelude.{Bool, true, false, ℕ}

-- the first where the test holds, else the second
abbrev pub pick : {A : Type 0} → Bool → A → A → A
pick true a b = a
pick false a b = b

abbrev pub both : Bool → Bool → Bool
both a b = pick a b false

abbrev pub either : Bool → Bool → Bool
either a b = pick a true b

-- 1 for yes, 0 for no
abbrev pub bit : Bool → ℕ
bit a = pick a 1 0
