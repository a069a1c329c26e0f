-- An arm of a match by the tags of its opcodes: what a test of the whole table says there. Assumes nothing.
use Prim.Native.Nat.{ℕ}
use mathlib.Core.Path.{◌≡◌, refl, sym, subst}
use mathlib.Core.List.{List, [], ◌∷◌}
use mathlib.Core.Bool.{Bool, true, false, not}
use lib.Dec.{T}
use mir.Val.{has_key}
use types.Run.{OneOf, miss}
use denote.Enum.Declared.{tag_of}
use Rattle.words.specs.Choice.{pick}
use Rattle.isa.specs.declared.opcode.OpCode.{OpCode}
use Rattle.isa.specs.Table.{opcodes}
use Rattle.isa.specs.TableLaws.{all_of, tests_where}
use Rattle.isa.specs.contracts.opcode.OpCode.{the_type}

-- the tags of the listed opcodes that pass a test
abbrev pub tags_of : (OpCode → Bool) → List OpCode → List ℕ
tags_of f [] = []
tags_of f (o ∷ os) = pick (f o) (tag_of the_type o ∷ tags_of f os) (tags_of f os)

-- whether an opcode's tag is one of theirs
abbrev pub tagged : (OpCode → Bool) → OpCode → Bool
tagged f o = has_key (tags_of f opcodes) (tag_of the_type o)

has : (ks : List ℕ) (x : ℕ) → OneOf ks x → has_key ks x ≡ true
has ks x h = go (has_key ks x) refl
  where
    go : (t : Bool) → has_key ks x ≡ t → has_key ks x ≡ true
    go true e = e
    go false e = absurd (miss ks x (subst (λ (t : Bool). T (not t)) (sym e) tt) h)

pub is_tagged : (f : OpCode → Bool) (o : OpCode) → OneOf (tags_of f opcodes) (tag_of the_type o) → tagged f o ≡ true
is_tagged f o = has (tags_of f opcodes) (tag_of the_type o)

-- the opcodes of an arm that has the tags of those that pass a test pass it
pub in_arm : (f : OpCode → Bool) → all_of (λ (o : OpCode). pick (tagged f o) (f o) true) opcodes ≡ true →
    (o : OpCode) → OneOf (tags_of f opcodes) (tag_of the_type o) → f o ≡ true
in_arm f h o k = tests_where (tagged f) f h o (is_tagged f o k)
