-- Durable targets (document 01, The run: Send, Emit): equal bytes of the two kinds are two targets.
use Rattle.std.specs.Prelude.{Bool, true, false, List, [], ◌∷◌, ℕ, ◌*◌, length, take, eqb, leb, Option, Some, None}
use Rattle.words.specs.Choice.{pick, both, either}
use Rattle.effects.specs.Log.{Effect}

-- a target: 0 for a transfer's, 1 for a mint's, and its bytes
pub record Target : Type 0 where
  pub kind : ℕ
  pub bytes : List ℕ

-- the word of a mint: the selector MINT, 0x4D494E54, then four zero bytes
abbrev pub mint_word : ℕ
mint_word = 1296649812 * 4294967296

-- an event with the selector MINT and at least 40 bytes
unfoldable pub mints : ℕ → ℕ → ℕ → Bool
mints kind word size = both (eqb kind 1) (both (eqb word mint_word) (leb 40 size))

-- a transfer's target is all its bytes, a mint's its first 32; nothing else has one
unfoldable pub target_of : Effect → Option Target
target_of e =
    pick (eqb e.kind 0) (Some (record { kind = 0; bytes = e.bytes }))
    (pick (mints e.kind e.word (length e.bytes)) (Some (record { kind = 1; bytes = take 32 e.bytes })) None)

-- two lists are equal
unfoldable pub same : List ℕ → List ℕ → Bool
same [] [] = true
same [] (y ∷ ys) = false
same (x ∷ xs) [] = false
same (x ∷ xs) (y ∷ ys) = both (eqb x y) (same xs ys)

-- a target is there, and is this one
unfoldable pub is_target : Target → Option Target → Bool
is_target t None = false
is_target t (Some u) = both (eqb u.kind t.kind) (same u.bytes t.bytes)

-- a target is there
unfoldable pub has_target : Option Target → Bool
has_target None = false
has_target (Some u) = true

-- some effect has this target
unfoldable pub known_in : Target → List Effect → Bool
known_in t [] = false
known_in t (e ∷ es) = either (is_target t (target_of e)) (known_in t es)

-- some effect has a target
unfoldable pub any_target : List Effect → Bool
any_target [] = false
any_target (e ∷ es) = either (has_target (target_of e)) (any_target es)
