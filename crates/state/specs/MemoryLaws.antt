-- What the proofs of loads and stores cite. Assumes nothing.
use Rattle.std.specs.Prelude.{◌≡◌, ℕ, ◌+◌, ◌≤◌, true, false, List, length, refl, Option, Some, None}
use Rattle.std.proofs.Common.{ap, ◌∙◌, leb-true}
use Rattle.std.proofs.Math.Seq.{paste}
use Rattle.words.specs.Bytes.{be_bytes}
use Rattle.words.specs.Choice.{pick}
use Rattle.state.specs.Memory.{inside, region_of, stored_at, written_at}
use Rattle.state.specs.RegionLaws.{missed, found}

pub part_within : (size offset len start end : ℕ) (r : Option (ℕ × ℕ)) → r ≡ region_of size offset len → r ≡ Some (start, end) → start + len ≤ size
part_within size offset len start end r e k =
    let f = found size offset len r e start end k in
    rw f.begin (leb-true (offset + len) size f.within)

-- the two ends of what puts bytes
put_inside : (mem out new : List ℕ) (offset len start end : ℕ) (r : Option (ℕ × ℕ)) → r ≡ region_of (length mem) offset len → r ≡ Some (start, end)
    → out ≡ paste mem start new len
    → (true ≡ inside (length mem) offset len) × (out ≡ pick (inside (length mem) offset len) (paste mem offset new len) mem)
put_inside mem out new offset len start end r e k h =
    let f = found (length mem) offset len r e start end k in
    rw f.within (refl, h ∙ ap (λ (i : ℕ). paste mem i new len) f.begin)

put_outside : (mem new : List ℕ) (offset len : ℕ) (r : Option (ℕ × ℕ)) → r ≡ region_of (length mem) offset len → r ≡ None
    → (false ≡ inside (length mem) offset len) × (mem ≡ pick (inside (length mem) offset len) (paste mem offset new len) mem)
put_outside mem new offset len r e k = rw (missed (length mem) offset len r e k) (refl, refl)

-- of a store
pub store_inside : (mem out : List ℕ) (offset v start end : ℕ) (r : Option (ℕ × ℕ)) → r ≡ region_of (length mem) offset 8 → r ≡ Some (start, end)
    → out ≡ paste mem start (be_bytes 8 v) 8
    → (true ≡ inside (length mem) offset 8) × (out ≡ stored_at mem offset v)
unfolding stored_at
store_inside mem out offset v = put_inside mem out (be_bytes 8 v) offset 8

pub store_outside : (mem : List ℕ) (offset v : ℕ) (r : Option (ℕ × ℕ)) → r ≡ region_of (length mem) offset 8 → r ≡ None
    → (false ≡ inside (length mem) offset 8) × (mem ≡ stored_at mem offset v)
unfolding stored_at
store_outside mem offset v = put_outside mem (be_bytes 8 v) offset 8

-- of a write
pub write_inside : (mem out bytes : List ℕ) (offset start end : ℕ) (r : Option (ℕ × ℕ)) → r ≡ region_of (length mem) offset (length bytes) → r ≡ Some (start, end)
    → out ≡ paste mem start bytes (length bytes)
    → (true ≡ inside (length mem) offset (length bytes)) × (out ≡ written_at mem offset bytes)
unfolding written_at
write_inside mem out bytes offset = put_inside mem out bytes offset (length bytes)

pub write_outside : (mem bytes : List ℕ) (offset : ℕ) (r : Option (ℕ × ℕ)) → r ≡ region_of (length mem) offset (length bytes) → r ≡ None
    → (false ≡ inside (length mem) offset (length bytes)) × (mem ≡ written_at mem offset bytes)
unfolding written_at
write_outside mem bytes offset = put_outside mem bytes offset (length bytes)
