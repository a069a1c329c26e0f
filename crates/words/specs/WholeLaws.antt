-- An answer that counts whole rows that pass a test: what it says, and when. Assumes nothing.
use Rattle.std.specs.Prelude.{◌≡◌, refl, Bool, true, false, ℕ, ◌*◌, ◌/◌, ◌%◌, ◌<◌, eqb}
use Rattle.std.proofs.Common.{sym, ap, ◌∙◌, arith, div-add-mod', eq-eqb, ne_eqb, eqb-true}
use Rattle.std.proofs.Math.Nat.{mul-div_left, mul-mod_left}
use Rattle.words.specs.Choice.{pick}
use Rattle.words.specs.Whole.{whole_of}

module _ {A : Type 0} (test : ℕ → Bool) (count : ℕ → A) (bad : A) (len w : ℕ) where
  -- whole rows: the test decides
  pub whole_rows : len % w ≡ 0 → (b : Bool) → b ≡ test (len / w) → pick b (count (len / w)) bad ≡ whole_of test count bad len w
  whole_rows h b e = rw (eq-eqb (len % w) 0 h, e)

  -- no whole rows
  pub whole_part : (len % w ≡ 0 → ⊥) → bad ≡ whole_of test count bad len w
  whole_part h = rw (ne_eqb (len % w) 0 h)

-- what the answer can be
data Verdict {A : Type 0} (test : ℕ → Bool) (count : ℕ → A) (bad : A) (len w : ℕ) : Type 0 where
  taken : whole_of test count bad len w ≡ count (len / w) → len ≡ len / w * w → test (len / w) ≡ true → Verdict test count bad len w
  refused : whole_of test count bad len w ≡ bad → Verdict test count bad len w

module _ {A : Type 0} (test : ℕ → Bool) (count : ℕ → A) (bad : A) (len w : ℕ) where
  verdict : Verdict test count bad len w
  verdict = go (eqb (len % w) 0) refl (test (len / w)) refl
    where
      go : (c : Bool) → eqb (len % w) 0 ≡ c → (d : Bool) → test (len / w) ≡ d → Verdict test count bad len w
      go true p true q = taken (rw (p, q)) (omega (arith, div-add-mod' len w, eqb-true (len % w) 0 p)) q
      go true p false q = refused (rw (p, q))
      go false p d q = refused (rw p)

  -- n whole rows that pass are counted
  pub whole_counted : 0 < w → (n : ℕ) → len ≡ n * w → test n ≡ true → whole_of test count bad len w ≡ count n
  whole_counted h n l t =
      let d : len / w ≡ n = ap (λ (m : ℕ). m / w) l ∙ mul-div_left n h in
      let m : len % w ≡ 0 = ap (λ (k : ℕ). k % w) l ∙ mul-mod_left n w in
      rw (d, eq-eqb (len % w) 0 m, t)

  -- nothing else is
  pub counted_whole : ((m n : ℕ) → count m ≡ count n → m ≡ n) → ((n : ℕ) → bad ≡ count n → ⊥) → (n : ℕ) → whole_of test count bad len w ≡ count n
      → (len ≡ n * w) × (test n ≡ true)
  counted_whole inj apart n e = go verdict
    where
      go : Verdict test count bad len w → (len ≡ n * w) × (test n ≡ true)
      go (taken q l t) = let m : len / w ≡ n = inj (len / w) n (sym q ∙ e) in (rw (← m) l, rw (← m) t)
      go (refused q) = absurd (apart n (sym q ∙ e))

  -- the rest is bad
  pub else_refused : ((n : ℕ) → len ≡ n * w → test n ≡ true → ⊥) → whole_of test count bad len w ≡ bad
  else_refused never = go verdict
    where
      go : Verdict test count bad len w → whole_of test count bad len w ≡ bad
      go (taken q l t) = absurd (never (len / w) l t)
      go (refused q) = q
