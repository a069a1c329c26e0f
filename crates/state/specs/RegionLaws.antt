-- What a region tells: it lies inside from its offset on, or it does not. Assumes nothing.
use Rattle.std.specs.Prelude.{◌≡◌, ℕ, ◌+◌, ◌-◌, ◌≤◌, Bool, true, false, List, length, take, drop, refl, Option, Some, None, unwrap_or}
use Rattle.std.proofs.Common.{sym, ap, ◌∙◌, arith, leb-true}
use Rattle.words.specs.Choice.{pick}
use Rattle.state.specs.Memory.{inside, PartFound, region_of}

module _ (size offset len : ℕ) (x : Option (ℕ × ℕ)) (h : x ≡ region_of size offset len) where
  pub missed : x ≡ None → inside size offset len ≡ false
  missed k = go (inside size offset len) refl (sym h ∙ k)
    where
      go : (t : Bool) → inside size offset len ≡ t → pick {A = Option (ℕ × ℕ)} t (Some (offset, offset + len)) None ≡ None → inside size offset len ≡ false
      go true t z = absurd (let w : ◌≡◌ {A = ℕ} 0 1 = cc in omega arith)
      go false t z = t

  module _ (start end : ℕ) (k : x ≡ Some (start, end)) where
    pub found : PartFound size offset len start end
    found = go (inside size offset len) refl (sym h ∙ k)
      where
        go : (t : Bool) → inside size offset len ≡ t → pick {A = Option (ℕ × ℕ)} t (Some (offset, offset + len)) None ≡ Some (start, end) → PartFound size offset len start end
        go true t z = record { within = t; begin = ap (λ (o : Option (ℕ × ℕ)). (unwrap_or o (start, end)).0) (sym z); stop = ap (λ (o : Option (ℕ × ℕ)). (unwrap_or o (start, end)).1) (sym z) }
        go false t z = absurd (let w : ◌≡◌ {A = ℕ} 0 1 = cc in omega arith)

    pub part_ordered : start ≤ end
    part_ordered = omega (arith, found.begin, found.stop)

    pub part_ends : end ≤ size
    part_ends = omega (arith, found.stop, leb-true (offset + len) size found.within)

-- its bytes
module _ (mem : List ℕ) (offset len : ℕ) (x : Option (ℕ × ℕ)) (h : x ≡ region_of (length mem) offset len) (start end : ℕ) (k : x ≡ Some (start, end)) where
  pub part_is : take (end - start) (drop start mem) ≡ take len (drop offset mem)
  part_is =
      let f = found (length mem) offset len x h start end k in
      let n : end - start ≡ len = omega (arith, f.begin, f.stop) in
      rw (n, f.begin)
