-- Bytes that read as a container are its canonical bytes. Assumes nothing.
use Rattle.std.specs.Prelude.{◌≡◌, refl, Bool, true, false, List, [], ◌∷◌, ◌++◌, ℕ, zero, suc, ◌+◌, ◌*◌, ◌^◌, ◌≤◌, ◌<◌, leb, ltb, length, take, drop, get_or}
use Rattle.std.proofs.Common.{sym, ap, ◌∙◌, append_assoc, append-nil, arith, length-drop, take-append-drop, take_all, length-take-le, get_or-append-add, get_or-drop, leb-true, ltb-true, ltb-false}
use Rattle.std.proofs.Math.ListN.{get_or-append, get_or-eq_default}
use Rattle.words.specs.Choice.{pick}
use Rattle.words.specs.Bytes.{num, be_bytes, Bytes, words_of}
use Rattle.words.proofs.BytesTheorems.{write_back, num_below}
use Rattle.container.specs.Container.{Entry, Container, tag}
use Rattle.container.specs.Canonical.{word_bytes, counted_bytes, entry_bytes, entries_bytes, canonical, Words, CountedWords, WritableEntry, WritableEntries, Writable}
use Rattle.container.specs.Reader.{short, read, part, number, counted, entry, entries, container, done, read_of}
use Rattle.words.specs.BytesLaws.{length_words}
use Rattle.container.specs.EntryToldLaws.{both_read}
use Rattle.container.specs.ReadToldLaws.{read_done}
use Rattle.container_writer.specs.ReadBackTheorems.{read_after_write}

front_bytes : (b t : List ℕ) → Bytes (b ++ t) → Bytes b
front_bytes b t h k = by (ltb k (length b)) refl
  where
    by : (x : Bool) → ltb k (length b) ≡ x → get_or b k 0 < 256
    by true q = rw (get_or-append b t 0 k (ltb-true k (length b) q)) at (h k)
    by false q = rw (get_or-eq_default b 0 (ltb-false k (length b) q)) (omega arith)

back_bytes : (b t : List ℕ) → Bytes (b ++ t) → Bytes t
back_bytes b t h k = rw (get_or-append-add b t k 0) at (h (length b + k))

-- bytes that begin with those of something good
pub record BeginsWith (b s t : List ℕ) (good : Type 0) : Type 0 where
  pub is : s ≡ b ++ t
  pub fine : good
  pub rest : Bytes t

part_split : (n : ℕ) (s b t : List ℕ) → part n s ≡ read b t → Bytes s → BeginsWith b s t ((length b ≡ n) × Bytes b)
unfolding part
part_split n s b t h k = by (leb n (length s)) refl h
  where
    by : (x : Bool) → leb n (length s) ≡ x → pick x (read (take n s) (drop n s)) short ≡ read b t → BeginsWith b s t ((length b ≡ n) × Bytes b)
    by true q e =
        let x : take n s ≡ b = cc in
        let y : drop n s ≡ t = cc in
        let z : s ≡ b ++ t = sym (take-append-drop n s) ∙ (λ i. x i ++ y i) in
        let all : Bytes (b ++ t) = rw z at k in
        record { is = z; fine = (ap length (sym x) ∙ length-take-le n s (leb-true n (length s) q), front_bytes b t all); rest = back_bytes b t all }
    by false q e = absurd (let z : ◌≡◌ {A = ℕ} 0 1 = cc in omega arith)

number_bytes : (w : ℕ) (b : List ℕ) → length b ≡ w → Bytes b → (be_bytes w (num b) ≡ b) × (num b < 256 ^ w)
number_bytes w b e k =
    let all : take w b ≡ b = take_all w b (omega arith) in
    (rw all at (write_back w b (omega arith) k), rw all at (num_below w b (omega arith) k))

number_split : (w : ℕ) (s : List ℕ) (v : ℕ) (t : List ℕ) → number w s ≡ read v t → Bytes s → BeginsWith (be_bytes w v) s t (v < 256 ^ w)
unfolding number
number_split w s v t h k =
    let x = both_read (part w s) _ v t h in
    let p = part_split w s x.first x.rest x.is k in
    let b = x.first in
    let e = x.then in
    let val : num b ≡ v = cc in
    let u : x.rest ≡ t = cc in
    let m = number_bytes w b p.fine.0 p.fine.1 in
    let back : be_bytes w v ≡ b = ap (be_bytes w) (sym val) ∙ m.0 in
    let small : v < 256 ^ w = rw val at m.1 in
    record { is = p.is ∙ (λ i. sym back i ++ u i); fine = small; rest = rw u at p.rest }

words_split : (n : ℕ) (b : List ℕ) → length b ≡ n * 8 → Bytes b → (word_bytes (words_of n b) ≡ b) × Words (words_of n b)
unfolding word_bytes words_of
words_split zero [] e k = (refl, tt)
words_split zero (x ∷ b) e k = absurd (omega arith)
words_split (suc n) b e k =
    let l : 8 ≤ length b = omega arith in
    let r = words_split n (drop 8 b) (length-drop 8 b ∙ omega arith) (λ j. rw get_or-drop (k (8 + j))) in
    (rw (write_back 8 b l k, r.0) (take-append-drop 8 b), (num_below 8 b l k, r.1))

counted_split : (s ws t : List ℕ) → counted s ≡ read ws t → Bytes s → BeginsWith (counted_bytes ws) s t (CountedWords ws)
unfolding counted counted_bytes
counted_split s ws t h k =
    let x = both_read (number 4 s) _ ws t h in
    let n = number_split 4 s x.first x.rest x.is k in
    let y = both_read (part (x.first * 8) x.rest) _ ws t x.then in
    let p = part_split (x.first * 8) x.rest y.first y.rest y.is n.rest in
    let w = words_split x.first y.first p.fine.0 p.fine.1 in
    let e = y.then in
    let a : words_of x.first y.first ≡ ws = cc in
    let u : y.rest ≡ t = cc in
    let l : length ws ≡ x.first = ap length (sym a) ∙ length_words x.first y.first in
    let b : y.first ≡ word_bytes ws = sym w.0 ∙ ap word_bytes a in
    record {
      is = n.is ∙ ap (λ (z : List ℕ). be_bytes 4 x.first ++ z) (p.is ∙ (λ i. b i ++ u i))
          ∙ ap (λ (m : ℕ). be_bytes 4 m ++ (word_bytes ws ++ t)) (sym l) ∙ sym (append_assoc (be_bytes 4 (length ws)) (word_bytes ws) t);
      fine = record { count = rw l n.fine; words = rw a at w.1 };
      rest = rw u at p.rest;
    }

behind : (b : List ℕ) {x y : List ℕ} → x ≡ y → b ++ x ≡ b ++ y
behind b e = ap (λ (z : List ℕ). b ++ z) e

six : (a b c d e f t : List ℕ) → a ++ (b ++ (c ++ (d ++ (e ++ (f ++ t))))) ≡ (a ++ (b ++ (c ++ (d ++ (e ++ f))))) ++ t
six a b c d e f t = simp append_assoc

five : (a b c d e t : List ℕ) → a ++ (b ++ (c ++ (d ++ (e ++ t)))) ≡ (a ++ (b ++ (c ++ (d ++ e)))) ++ t
five a b c d e t = simp append_assoc

-- what was read is what was found
moved : {A : Type 0} (B : A → List ℕ) (G : A → Type 0) (s : List ℕ) (a b : A) (u t : List ℕ) → read a u ≡ read b t → BeginsWith (B a) s u (G a) →
    BeginsWith (B b) s t (G b)
moved B G s a b u t h x =
    let p : a ≡ b = cc in
    let q : u ≡ t = cc in
    rw (p, q) at x

entry_split : (s : List ℕ) (e : Entry) (t : List ℕ) → entry s ≡ read e t → Bytes s → BeginsWith (entry_bytes e) s t (WritableEntry e)
unfolding entry entry_bytes
entry_split s e t h k =
    let x1 = both_read (number 4 s) _ e t h in
    let n1 = number_split 4 s x1.first x1.rest x1.is k in
    let x2 = both_read (number 4 x1.rest) _ e t x1.then in
    let n2 = number_split 4 x1.rest x2.first x2.rest x2.is n1.rest in
    let x3 = both_read (counted x2.rest) _ e t x2.then in
    let r = counted_split x2.rest x3.first x3.rest x3.is n2.rest in
    let x4 = both_read (counted x3.rest) _ e t x3.then in
    let w = counted_split x3.rest x4.first x4.rest x4.is r.rest in
    let x5 = both_read (counted x4.rest) _ e t x4.then in
    let kr = counted_split x4.rest x5.first x5.rest x5.is w.rest in
    let x6 = both_read (counted x5.rest) _ e t x5.then in
    let kw = counted_split x5.rest x6.first x6.rest x6.is kr.rest in
    let f : Entry = record {
      selector = x1.first;
      offset = x2.first;
      reads = x3.first;
      writes = x4.first;
      keyed_reads = x5.first;
      keyed_writes = x6.first;
    } in
    let a = be_bytes 4 x1.first in
    let b = be_bytes 4 x2.first in
    let c3 = counted_bytes x3.first in
    let c4 = counted_bytes x4.first in
    let c5 = counted_bytes x5.first in
    let c6 = counted_bytes x6.first in
    let told : BeginsWith (entry_bytes f) s x6.rest (WritableEntry f) = record {
      is = n1.is ∙ behind a (n2.is ∙ behind b (r.is ∙ behind c3 (w.is ∙ behind c4 (kr.is ∙ behind c5 kw.is)))) ∙ six a b c3 c4 c5 c6 x6.rest;
      fine = record { selector = n1.fine; offset = n2.fine; reads = r.fine; writes = w.fine; keyed_reads = kr.fine; keyed_writes = kw.fine };
      rest = kw.rest;
    } in
    moved entry_bytes WritableEntry s f e x6.rest t x6.then told

entries_split : (n : ℕ) (s : List ℕ) (es : List Entry) (t : List ℕ) → entries n s ≡ read es t → Bytes s →
    BeginsWith (entries_bytes es) s t (WritableEntries es × (length es ≡ n))
unfolding entries entries_bytes
entries_split zero s es t h k =
    moved entries_bytes (λ (es : List Entry). WritableEntries es × (length es ≡ zero)) s [] es s t h (record { is = refl; fine = (tt, refl); rest = k })
entries_split (suc n) s es t h k =
    let x = both_read (entry s) _ es t h in
    let e = entry_split s x.first x.rest x.is k in
    let y = both_read (entries n x.rest) _ es t x.then in
    let r = entries_split n x.rest y.first y.rest y.is e.rest in
    moved entries_bytes (λ (es : List Entry). WritableEntries es × (length es ≡ suc n)) s (x.first ∷ y.first) es y.rest t y.then
    (record {
      is = e.is ∙ ap (λ (z : List ℕ). entry_bytes x.first ++ z) r.is ∙ sym (append_assoc (entry_bytes x.first) (entries_bytes y.first) y.rest);
      fine = ((e.fine, r.fine.0), ap suc r.fine.1);
      rest = r.rest;
    })

-- a container's bytes after the tag
abbrev body : Container → List ℕ
body c = be_bytes 4 (length c.code) ++ (c.code ++ (counted_bytes c.consts ++ (be_bytes 4 (length c.entries) ++ entries_bytes c.entries)))

pub body_split : (s : List ℕ) (c : Container) (t : List ℕ) → container s ≡ read c t → Bytes s → BeginsWith (body c) s t (Writable c)
unfolding container
body_split s c t h k =
    let x1 = both_read (number 4 s) _ c t h in
    let n1 = number_split 4 s x1.first x1.rest x1.is k in
    let x2 = both_read (part x1.first x1.rest) _ c t x1.then in
    let p2 = part_split x1.first x1.rest x2.first x2.rest x2.is n1.rest in
    let x3 = both_read (counted x2.rest) _ c t x2.then in
    let k3 = counted_split x2.rest x3.first x3.rest x3.is p2.rest in
    let x4 = both_read (number 4 x3.rest) _ c t x3.then in
    let n4 = number_split 4 x3.rest x4.first x4.rest x4.is k3.rest in
    let x5 = both_read (entries x4.first x4.rest) _ c t x4.then in
    let e5 = entries_split x4.first x4.rest x5.first x5.rest x5.is n4.rest in
    let f : Container = record { code = x2.first; consts = x3.first; entries = x5.first } in
    let n = be_bytes 4 (length x2.first) in
    let k = counted_bytes x3.first in
    let m = be_bytes 4 (length x5.first) in
    let a : s ≡ n ++ x1.rest = n1.is ∙ ap (λ (z : ℕ). be_bytes 4 z ++ x1.rest) (sym p2.fine.0) in
    let b : x3.rest ≡ m ++ x4.rest = n4.is ∙ ap (λ (z : ℕ). be_bytes 4 z ++ x4.rest) (sym e5.fine.1) in
    moved body Writable s f c x5.rest t x5.then
    (record {
      is = a ∙ behind n (p2.is ∙ behind x2.first (k3.is ∙ behind k (b ∙ behind m e5.is)))
          ∙ five n x2.first k m (entries_bytes x5.first) x5.rest;
      fine = record { code = rw p2.fine.0 n1.fine; bytes = p2.fine.1; consts = k3.fine; count = rw e5.fine.1 n4.fine; entries = e5.fine.0 };
      rest = e5.rest;
    })

-- the tag is its bytes
tag_split : (s : List ℕ) → 4 ≤ length s → num (take 4 s) ≡ tag → Bytes s → s ≡ be_bytes 4 tag ++ drop 4 s
tag_split s h e k = sym (take-append-drop 4 s) ∙ ap (λ (z : List ℕ). z ++ drop 4 s) (sym (write_back 4 s h k) ∙ ap (be_bytes 4) e)

-- bytes after whose tag a container is read begin with its canonical bytes
pub begins_with : (s : List ℕ) (c : Container) (t : List ℕ) → Bytes s → 4 ≤ length s → num (take 4 s) ≡ tag → container (drop 4 s) ≡ read c t →
    BeginsWith (canonical c) s t (Writable c)
unfolding canonical
begins_with s c t k h e r =
    let b = body_split (drop 4 s) c t r (λ j. rw get_or-drop (k (4 + j))) in
    record {
      is = tag_split s h e k ∙ ap (λ (z : List ℕ). be_bytes 4 tag ++ z) b.is ∙ sym (append_assoc (be_bytes 4 tag) (body c) t);
      fine = b.fine;
      rest = b.rest;
    }

pub written_after_read : (s : List ℕ) (c : Container) → Bytes s → read_of s ≡ done c → (s ≡ canonical c) × Writable c
written_after_read s c k h =
    let r = read_done s c h in
    let b = begins_with s c [] k r.0 r.1 r.2 in
    (b.is ∙ append-nil (canonical c), b.fine)

-- no two containers have the same canonical bytes
pub canonical_one : (c d : Container) → Writable c → Writable d → canonical c ≡ canonical d → c ≡ d
canonical_one c d h k e =
    let a = read_after_write c h in
    let b = read_after_write d k in
    let f : read_of (canonical c) ≡ read_of (canonical d) = ap read_of e in
    let z : done c ≡ done d = sym a ∙ f ∙ b in
    cc
