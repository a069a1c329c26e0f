-- What a container that was read tells of its bytes. Assumes nothing.
use Rattle.std.specs.Prelude.{◌≡◌, refl, Bool, true, false, List, [], ◌∷◌, ℕ, ◌+◌, ◌-◌, ◌*◌, ◌≤◌, leb, eqb, length, take, drop, Ok, Err}
use Rattle.std.proofs.Common.{sym, ap, ◌∙◌, arith, length-drop, length-take-le, leb-true, leb-false, eqb-true}
use Rattle.std.proofs.Math.Nat.{add-sub_cancel_left}
use Rattle.words.specs.Choice.{pick}
use Rattle.words.specs.Bytes.{num}
use Rattle.container.specs.Container.{Container, tag}
use Rattle.container.specs.Reader.{Parsed, short, read, part, number, counted, entries, container, Read, done, refused, whole, read_of, layout_of, reading_of}
use Rattle.container.specs.LaidOut.{LaidOut}
use Rattle.container.specs.ParseLaws.{part_there, part_short}
use Rattle.container.specs.EntryToldLaws.{both_read, after, counted_told}
use Rattle.container.specs.EntriesLaws.{entries_told}
use Rattle.container.specs.declared.reader.Layout.{Layout}
use Rattle.container.specs.declared.reader.ReadError.{ReadError}
use Rattle.container.specs.declared.reader.ReadError.TheVariants.{BadTag, Short}

-- bytes that were read at a place
pub record PartTold (s : List ℕ) (at n : ℕ) (b t : List ℕ) : Type 0 where
  pub bytes : b ≡ take n (drop at s)
  pub rest : t ≡ drop (at + n) s
  pub room : n ≤ length s - at

pub part_told : (s : List ℕ) (at n : ℕ) (b t : List ℕ) → part n (drop at s) ≡ read b t → PartTold s at n b t
part_told s at n b t h = by (leb n (length s - at)) refl
  where
    by : (x : Bool) → leb n (length s - at) ≡ x → PartTold s at n b t
    by true q = let l = leb-true n (length s - at) q in let d = part_there s at n l in record { bytes = cc; rest = cc; room = l }
    by false q = let d = part_short s at n (leb-false n (length s - at) q) in absurd (let z : ◌≡◌ {A = ℕ} 0 1 = cc in omega arith)

-- a number that was read at a place
pub record NumberTold (s : List ℕ) (at w v : ℕ) (t : List ℕ) : Type 0 where
  pub value : v ≡ num (take w (drop at s))
  pub rest : t ≡ drop (at + w) s
  pub room : w ≤ length s - at

pub number_told : (s : List ℕ) (at w v : ℕ) (t : List ℕ) → number w (drop at s) ≡ read v t → NumberTold s at w v t
unfolding number
number_told s at w v t h =
    let x = both_read (part w (drop at s)) _ v t h in
    let p = part_told s at w x.first x.rest x.is in
    let e = x.then in
    let a : v ≡ num x.first = cc in
    let b : t ≡ x.rest = cc in
    record { value = a ∙ ap num p.bytes; rest = b ∙ p.rest; room = p.room }

-- the parts of a container that was read after its tag
pub record BodyTold (s : List ℕ) (c : Container) (t : List ℕ) : Type 0 where
  pub size : length c.code ≡ num (take 4 (drop 4 s))
  pub code : c.code ≡ take (length c.code) (drop 8 s)
  pub room : 8 + length c.code ≤ length s
  pub consts : counted (drop (8 + length c.code) s) ≡ read c.consts (drop (12 + length c.code + length c.consts * 8) s)
  pub count : length c.entries ≡ num (take 4 (drop (12 + length c.code + length c.consts * 8) s))
  pub entries : entries (length c.entries) (drop (16 + length c.code + length c.consts * 8) s) ≡ read c.entries t
  pub within : 16 + length c.code + length c.consts * 8 ≤ length s

body_told : (s : List ℕ) (c : Container) (t : List ℕ) → container (drop 4 s) ≡ read c t → BodyTold s c t
unfolding container
body_told s c t h =
    let x1 = both_read (number 4 (drop 4 s)) _ c t h in
    let n1 = number_told s 4 4 x1.first x1.rest x1.is in
    let n = x1.first in
    let x2 = both_read (part n x1.rest) _ c t x1.then in
    let p2 = part_told s 8 n x2.first x2.rest (ap (part n) (sym n1.rest) ∙ x2.is) in
    let x3 = both_read (counted x2.rest) _ c t x2.then in
    let k3 = counted_told s (8 + n) x3.first x3.rest (ap counted (sym p2.rest) ∙ x3.is) in
    let next = after (8 + n) x3.first in
    let x4 = both_read (number 4 x3.rest) _ c t x3.then in
    let n4 = number_told s next 4 x4.first x4.rest (ap (number 4) (sym k3.0) ∙ x4.is) in
    let m = x4.first in
    let x5 = both_read (entries m x4.rest) _ c t x4.then in
    let e5 : entries m (drop (next + 4) s) ≡ read x5.first x5.rest = ap (entries m) (sym n4.rest) ∙ x5.is in
    let r5 = entries_told s m (next + 4) x5.first x5.rest (omega (arith, n4.room, k3.1)) e5 in
    let z = x5.then in
    let found : Container = record { code = x2.first; consts = x3.first; entries = x5.first } in
    let a : found ≡ c = cc in
    let b : x5.rest ≡ t = cc in
    let l : length x2.first ≡ n = ap length p2.bytes ∙ length-take-le n (drop 8 s) (rw length-drop p2.room) in
    let q : 12 + length x2.first + length x3.first * 8 ≡ next = omega arith in
    let w : 16 + length x2.first + length x3.first * 8 ≡ next + 4 = omega arith in
    let told : BodyTold s found x5.rest = record {
      size = l ∙ n1.value;
      code = rw l p2.bytes;
      room = omega (arith, p2.room, n1.room);
      consts = rw (q, l) (ap counted (sym p2.rest) ∙ x3.is ∙ ap (read x3.first) k3.0);
      count = rw q (r5.count ∙ n4.value);
      entries = rw (w, r5.count) e5;
      within = omega (arith, n4.room, k3.1);
    } in
    rw (a, b) at told

-- a container that was read, and its layout
pub record ReadTold (s : List ℕ) (l : Layout) : Type 0 where
  pub found : Container
  pub is : read_of s ≡ done found
  pub layout : l ≡ layout_of found
  pub body : BodyTold s found []

-- the tag stands, and all after it is read
pub read_done : (s : List ℕ) (c : Container) → read_of s ≡ done c → (4 ≤ length s) × (num (take 4 s) ≡ tag) × (container (drop 4 s) ≡ read c [])
unfolding read_of whole
read_done s c h = by (leb 4 (length s)) (eqb (num (take 4 s)) tag) refl refl (container (drop 4 s)) refl h
  where
    by : (x y : Bool) → leb 4 (length s) ≡ x → eqb (num (take 4 s)) tag ≡ y → (p : Parsed Container) → container (drop 4 s) ≡ p →
        pick x (pick y (whole p) (refused BadTag)) (refused Short) ≡ done c → (4 ≤ length s) × (num (take 4 s) ≡ tag) × (container (drop 4 s) ≡ read c [])
    by true true q r (read d []) e k = let a : d ≡ c = cc in (leb-true 4 (length s) q, eqb-true (num (take 4 s)) tag r, rw a at e)
    by true true q r (read d (x ∷ t)) e k = absurd (let z : ◌≡◌ {A = ℕ} 0 1 = cc in omega arith)
    by true true q r short e k = absurd (let z : ◌≡◌ {A = ℕ} 0 1 = cc in omega arith)
    by true false q r p e k = absurd (let z : ◌≡◌ {A = ℕ} 0 1 = cc in omega arith)
    by false y q r p e k = absurd (let z : ◌≡◌ {A = ℕ} 0 1 = cc in omega arith)

pub read_told : (s : List ℕ) (l : Layout) → Ok l ≡ reading_of (read_of s) → ReadTold s l
unfolding reading_of
read_told s l h = by (read_of s) refl h
  where
    by : (r : Read) → read_of s ≡ r → Ok l ≡ reading_of r → ReadTold s l
    by (done c) e k = record { found = c; is = e; layout = cc; body = body_told s c [] (read_done s c e).2 }
    by (refused x) e k = absurd (let z : ◌≡◌ {A = ℕ} 0 1 = cc in omega arith)

pub refused_told : (s : List ℕ) (x : ReadError) → Err x ≡ reading_of (read_of s) → read_of s ≡ refused x
unfolding reading_of
refused_told s x h = by (read_of s) refl h
  where
    by : (r : Read) → read_of s ≡ r → Err x ≡ reading_of r → read_of s ≡ refused x
    by (done c) e k = absurd (let z : ◌≡◌ {A = ℕ} 0 1 = cc in omega arith)
    by (refused y) e k = let a : x ≡ y = cc in rw a e

-- what was read, with its code as a part of the bytes
pub laid : (s : List ℕ) (l : Layout) (r : ReadTold s l) → LaidOut s (take (l.code_at + l.code - l.code_at) (drop l.code_at s)) l r.found
unfolding layout_of
laid s l r = record {
  code = rw (r.layout, add-sub_cancel_left 8 (length r.found.code)) (sym r.body.code);
  layout = r.layout;
  entries = rw r.layout r.body.entries;
}

pub code_within : (s : List ℕ) (l : Layout) → ReadTold s l → (l.code_at ≡ 8) × (8 + l.code ≤ length s)
unfolding layout_of
code_within s l r = (ap (λ (x : Layout). x.code_at) r.layout, rw (ap (λ (x : Layout). x.code) r.layout) r.body.room)
