-- A record pasted into a log part by part. Assumes nothing.
use Rattle.std.specs.Prelude.{◌≡◌, Some, None}
use Rattle.std.proofs.Math.Path.{refl, ap}
use Rattle.std.proofs.Common.{sym, ◌∙◌, mod-eq_of_lt, take_all, drop-drop, le-leb}
use mathlib.Core.List.{List, [], ◌∷◌, ◌++◌, append_assoc}
use Prim.Native.Nat.{ℕ, ◌+◌, ◌≤◌, ◌<◌}
use native.Mathlib.Omega.{arith}
use Rattle.std.proofs.Math.ListN.{length, take, drop, length-append}
use Rattle.std.proofs.Math.Seq.{paste, take-paste, drop-paste}
use Rattle.std.proofs.lemmas.Bool.{lt-leb}
use Rattle.words.specs.Bytes.{be_bytes}
use Rattle.words.specs.BytesLaws.{length_be_bytes}
use Rattle.effects.specs.Log.{Effect, record_of}
use Rattle.effects.specs.LogLaws.{length_record}
use Rattle.effects.specs.Appended.{grown_of, Appended}

-- what is pasted behind what was pasted is pasted with it
paste_more : (d t u x y : List ℕ) (end m k : ℕ) → length x ≡ m → length y ≡ k → end + m ≤ length d
    → t ≡ paste d end x m → u ≡ paste t (end + m) y k → u ≡ paste d end (x ++ y) (m + k)
paste_more d t u x y end m k lx ly h p q =
    let tx : take m x ≡ x = take_all m x (omega arith) in
    let ty : take k y ≡ y = take_all k y (omega arith) in
    let txy : take (m + k) (x ++ y) ≡ x ++ y = take_all (m + k) (x ++ y) (omega (arith, length-append x y)) in
    let front : take (end + m) t ≡ take end d ++ x =
    ap (take (end + m)) p ∙ take-paste d end x m (omega arith) (omega arith) ∙ ap (λ (l : List ℕ). take end d ++ l) tx in
    let n : end + m + k ≡ end + (m + k) = omega arith in
    let rest : drop (end + m + k) t ≡ drop (end + (m + k)) d =
    sym (drop-drop k (end + m) t) ∙ ap (λ (l : List ℕ). drop k (drop (end + m) l)) p ∙
    ap (drop k) (drop-paste d end x m (omega arith) (omega arith)) ∙ drop-drop k (end + m) d ∙ ap (λ (j : ℕ). drop j d) n in
    q ∙ (λ i. (front i ++ ty i) ++ rest i) ∙ ap (λ (l : List ℕ). l ++ drop (end + (m + k)) d) (append_assoc (take end d) x y) ∙
    (λ i. (take end d ++ sym txy i) ++ drop (end + (m + k)) d)

module _ (e : Effect) (end : ℕ) (t : List ℕ) where
  pub no_room : length t < end + length e.bytes + 13 → Appended e end t t None
  unfolding grown_of
  no_room l = record { answer = rw (lt-leb (end + length e.bytes + 13) (length t) l); bytes = refl }

  -- data, kind, word and length, each behind the one before
  module _ (l : end + length e.bytes + 13 ≤ length t) (small : e.kind < 256) where
    kind_byte : be_bytes 1 e.kind ≡ e.kind ∷ []
    unfolding be_bytes
    kind_byte = rw (mod-eq_of_lt small)

    pub pasted : (a b c d : List ℕ)
        → a ≡ paste t end e.bytes (length e.bytes)
        → b ≡ paste a (end + length e.bytes) (be_bytes 1 e.kind) 1
        → c ≡ paste b (end + length e.bytes + 1) (be_bytes 8 e.word) 8
        → d ≡ paste c (end + length e.bytes + 9) (be_bytes 4 (length e.bytes)) 4
        → d ≡ paste t end (record_of e) (length e.bytes + 13)
    unfolding record_of
    pasted a b c d pa pb pc pd =
        let x : List ℕ = e.bytes in
        let n : ℕ = length x in
        let y : List ℕ = be_bytes 1 e.kind in
        let w : List ℕ = be_bytes 8 e.word in
        let z : List ℕ = be_bytes 4 n in
        let ly : length y ≡ 1 = length_be_bytes 1 e.kind in
        let lw : length w ≡ 8 = length_be_bytes 8 e.word in
        let lz : length z ≡ 4 = length_be_bytes 4 n in
        let i : end + n + 1 ≡ end + (n + 1) = omega arith in
        let j : end + n + 9 ≡ end + (n + 1 + 8) = omega arith in
        let m : n + 1 + 8 + 4 ≡ n + 13 = omega arith in
        let qb : b ≡ paste t end (x ++ y) (n + 1) = paste_more t a b x y end n 1 refl ly (omega arith) pa pb in
        let qc : c ≡ paste t end ((x ++ y) ++ w) (n + 1 + 8) =
        paste_more t b c (x ++ y) w end (n + 1) 8 (omega (arith, length-append x y)) lw (omega arith) qb (pc ∙ ap (λ (o : ℕ). paste b o w 8) i) in
        let qd : d ≡ paste t end (((x ++ y) ++ w) ++ z) (n + 1 + 8 + 4) =
        paste_more t c d ((x ++ y) ++ w) z end (n + 1 + 8) 4 (omega (arith, length-append x y, length-append (x ++ y) w)) lz (omega arith)
        qc (pd ∙ ap (λ (o : ℕ). paste c o z 4) j) in
        let whole : ((x ++ y) ++ w) ++ z ≡ x ++ (e.kind ∷ (w ++ z)) = ap (λ (v : List ℕ). ((x ++ v) ++ w) ++ z) kind_byte ∙ simp append_assoc in
        qd ∙ (λ k. paste t end (whole k) (m k))

    pub appended : (d : List ℕ) → d ≡ paste t end (record_of e) (length e.bytes + 13) → Appended e end t d (Some (end + length e.bytes + 13))
    unfolding grown_of
    appended d p =
        let n : ℕ = length e.bytes + 13 in
        let o : end + length e.bytes + 13 ≡ end + n = omega arith in
        let r : length (record_of e) ≡ n = length_record e in
        let f : take (end + n) d ≡ take end t ++ record_of e =
        ap (take (end + n)) p ∙ take-paste t end (record_of e) n (omega arith) (omega arith) ∙
        ap (λ (x : List ℕ). take end t ++ x) (take_all n (record_of e) (omega arith)) in
        let b : drop (end + n) d ≡ drop (end + n) t = ap (drop (end + n)) p ∙ drop-paste t end (record_of e) n (omega arith) (omega arith) in
        record { answer = rw (le-leb (end + length e.bytes + 13) (length t) l); bytes = rw o (f, b) }
