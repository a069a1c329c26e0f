-- The reader refuses exactly where the rules refuse (document 01: 41, 42, 43). Assumes nothing.
use Rattle.std.specs.Prelude.{◌≡◌, refl, Bool, true, false, List, [], ◌∷◌, ◌++◌, ◌⊎◌, ℕ, ◌≤◌, ◌<◌, leb, eqb, length, take, drop}
use Rattle.std.proofs.Common.{sym, ap, ◌∙◌, inl, inr, arith, le-leb, leb-true, leb-false, eq-eqb, ne_eqb, eqb-true}
use Rattle.std.proofs.lemmas.Bool.{lt-leb, eqb-false}
use Rattle.words.specs.Bytes.{num, be_bytes, Bytes}
use Rattle.words.proofs.BytesTheorems.{read_back_all, write_back}
use Rattle.container.specs.Container.{Container, tag}
use Rattle.container.specs.Canonical.{canonical, Writable}
use Rattle.container.specs.Reader.{Parsed, short, read, container, refused, whole, read_of}
use Rattle.container_writer.specs.ReadBackTheorems.{begun}
use Rattle.container_writer.specs.WrittenTheorems.{begins_with}
use Rattle.container.specs.declared.reader.ReadError.TheVariants.{BadTag, Short, Trailing}

-- the first four bytes are the tag's
abbrev pub Tagged : List ℕ → Type 0
Tagged s = take 4 s ≡ be_bytes 4 tag

-- a writable container's canonical bytes, and then t
pub record CanonicalThen (s t : List ℕ) : Type 0 where
  pub found : Container
  pub fine : Writable found
  pub is : s ≡ canonical found ++ t

tag_number : (s : List ℕ) → Tagged s → num (take 4 s) ≡ tag
tag_number s e = ap num e ∙ read_back_all 4 tag (omega arith)

number_tag : (s : List ℕ) → Bytes s → 4 ≤ length s → num (take 4 s) ≡ tag → Tagged s
number_tag s k h e = sym (write_back 4 s h k) ∙ ap (be_bytes 4) e

-- every list of bytes is one of these
data Outcome (s : List ℕ) : Type 0 where
  few : length s < 4 → Outcome s
  wrong : 4 ≤ length s → (Tagged s → ⊥) → Outcome s
  cut : 4 ≤ length s → Tagged s → container (drop 4 s) ≡ short → Outcome s
  stands : (t : List ℕ) → CanonicalThen s t → Outcome s

outcome : (s : List ℕ) → Bytes s → Outcome s
outcome s k = by (leb 4 (length s)) refl (eqb (num (take 4 s)) tag) refl (container (drop 4 s)) refl
  where
    by : (x : Bool) → leb 4 (length s) ≡ x → (y : Bool) → eqb (num (take 4 s)) tag ≡ y → (p : Parsed Container) → container (drop 4 s) ≡ p → Outcome s
    by false q y r p e = few (leb-false 4 (length s) q)
    by true q false r p e = wrong (leb-true 4 (length s) q) (λ z. eqb-false (num (take 4 s)) tag r (tag_number s z))
    by true q true r short e = cut (leb-true 4 (length s) q) (number_tag s k (leb-true 4 (length s) q) (eqb-true (num (take 4 s)) tag r)) e
    by true q true r (read c t) e =
        let b = begins_with s c t k (leb-true 4 (length s) q) (eqb-true (num (take 4 s)) tag r) e in
        stands t (record { found = c; fine = b.fine; is = b.is })

-- what each is answered
few_short : (s : List ℕ) → length s < 4 → read_of s ≡ refused Short
unfolding read_of
few_short s h = rw (lt-leb 4 (length s) h)

pub bad_tag_then : (s : List ℕ) → Bytes s → 4 ≤ length s → (Tagged s → ⊥) → read_of s ≡ refused BadTag
unfolding read_of
bad_tag_then s k h n = rw (le-leb 4 (length s) h, ne_eqb (num (take 4 s)) tag (λ e. n (number_tag s k h e)))

cut_short : (s : List ℕ) → 4 ≤ length s → Tagged s → container (drop 4 s) ≡ short → read_of s ≡ refused Short
unfolding read_of whole
cut_short s h g e = rw (le-leb 4 (length s) h, eq-eqb (num (take 4 s)) tag (tag_number s g), e)

begun_whole : (s t : List ℕ) (b : CanonicalThen s t) → read_of s ≡ whole (read b.found t)
begun_whole s t b = ap read_of b.is ∙ begun b.found b.fine t

-- 41: four bytes stand and are not the tag
pub bad_tag_when : (s : List ℕ) → Bytes s → read_of s ≡ refused BadTag → (4 ≤ length s) × (Tagged s → ⊥)
unfolding whole
bad_tag_when s k h = by (outcome s k)
  where
    by : Outcome s → (4 ≤ length s) × (Tagged s → ⊥)
    by (few l) = let a = few_short s l in absurd (let z : ◌≡◌ {A = ℕ} 0 1 = cc in omega arith)
    by (wrong l n) = (l, n)
    by (cut l g e) = let a = cut_short s l g e in absurd (let z : ◌≡◌ {A = ℕ} 0 1 = cc in omega arith)
    by (stands [] b) = let a = begun_whole s [] b in absurd (let z : ◌≡◌ {A = ℕ} 0 1 = cc in omega arith)
    by (stands (x ∷ t) b) = let a = begun_whole s (x ∷ t) b in absurd (let z : ◌≡◌ {A = ℕ} 0 1 = cc in omega arith)

-- 43: a writable container's canonical bytes and at least one more
pub trailing_then : (s : List ℕ) (x : ℕ) (t : List ℕ) → CanonicalThen s (x ∷ t) → read_of s ≡ refused Trailing
unfolding whole
trailing_then s x t b = begun_whole s (x ∷ t) b

pub trailing_when : (s : List ℕ) → Bytes s → read_of s ≡ refused Trailing → (x : ℕ) × (t : List ℕ) × CanonicalThen s (x ∷ t)
unfolding whole
trailing_when s k h = by (outcome s k)
  where
    by : Outcome s → (x : ℕ) × (t : List ℕ) × CanonicalThen s (x ∷ t)
    by (few l) = let a = few_short s l in absurd (let z : ◌≡◌ {A = ℕ} 0 1 = cc in omega arith)
    by (wrong l n) = let a = bad_tag_then s k l n in absurd (let z : ◌≡◌ {A = ℕ} 0 1 = cc in omega arith)
    by (cut l g e) = let a = cut_short s l g e in absurd (let z : ◌≡◌ {A = ℕ} 0 1 = cc in omega arith)
    by (stands [] b) = let a = begun_whole s [] b in absurd (let z : ◌≡◌ {A = ℕ} 0 1 = cc in omega arith)
    by (stands (x ∷ t) b) = (x, t, b)

-- 42: fewer than four bytes, or the tag and no writable container's bytes
abbrev pub EndsTooSoon : List ℕ → Type 0
EndsTooSoon s = (length s < 4) ⊎ ((4 ≤ length s) × Tagged s × ((t : List ℕ) → CanonicalThen s t → ⊥))

pub short_when : (s : List ℕ) → Bytes s → read_of s ≡ refused Short → EndsTooSoon s
unfolding whole
short_when s k h = by (outcome s k)
  where
    none : (t : List ℕ) → CanonicalThen s t → ⊥
    none [] b = let a = begun_whole s [] b in let z : ◌≡◌ {A = ℕ} 0 1 = cc in omega arith
    none (x ∷ t) b = let a = begun_whole s (x ∷ t) b in let z : ◌≡◌ {A = ℕ} 0 1 = cc in omega arith

    by : Outcome s → EndsTooSoon s
    by (few l) = inl l
    by (wrong l n) = let a = bad_tag_then s k l n in absurd (let z : ◌≡◌ {A = ℕ} 0 1 = cc in omega arith)
    by (cut l g e) = inr (l, g, none)
    by (stands t b) = absurd (none t b)

pub short_then : (s : List ℕ) → Bytes s → EndsTooSoon s → read_of s ≡ refused Short
short_then s k (inl l) = few_short s l
short_then s k (inr r) = by (outcome s k)
  where
    by : Outcome s → read_of s ≡ refused Short
    by (few l) = few_short s l
    by (wrong l n) = absurd (n r.1)
    by (cut l g e) = cut_short s l g e
    by (stands t b) = absurd (r.2 t b)
