-- Rows written one after another to the front of bytes. Assumes nothing.
use Rattle.std.specs.Prelude.{◌≡◌, refl, true, false, List, ◌∷◌, ◌++◌, ℕ, suc, ◌+◌, ◌*◌, ◌≤◌, ◌<◌, length, take, drop}
use Rattle.std.proofs.Common.{sym, ap, ◌∙◌, arith, append_assoc, take-append-drop, length-drop, drop-drop, drop_at, length-take-le, get_or-drop, take-add, take_all}
use Rattle.std.proofs.Math.Seq.{paste}
use Rattle.std.proofs.lemmas.List.Edits.{take-paste, drop-paste, length-paste}
use Rattle.words.specs.Bytes.{Bytes}
use Rattle.words.proofs.BytesTheorems.{write_back, bytes_take, bytes_drop}
use Rattle.tables.specs.Rows.{Row, row_in, bytes_of}
use Rattle.changes.specs.ChangeList.{changed}
use Rattle.changes.specs.Changed.{sameb, written}
use Rattle.changes.specs.LeftLaws.{whole_rows, left_by_lem, left_none}

-- the bytes that a row was read from come back
row_bytes : (x : List ℕ) (rs : List Row) → Bytes x → length x ≡ 40 → bytes_of 40 (row_in 40 x ∷ rs) ≡ x ++ bytes_of 40 rs
unfolding bytes_of row_in
row_bytes x rs b h =
    let k = write_back 32 x (omega arith) b in
    let v = write_back 8 (drop 32 x) (omega (arith, length-drop 32 x)) (λ i. rw get_or-drop (b (32 + i))) in
    (λ i. k i ++ (v i ++ bytes_of 40 rs)) ∙ sym (append_assoc (take 32 x) (take 8 (drop 32 x)) (bytes_of 40 rs)) ∙
    ap (λ (a : List ℕ). a ++ bytes_of 40 rs) (sym (take-add 32 8 x) ∙ take_all 40 x (omega arith))

-- a row laid down at `to`, of rows that are written from there on
row_written : (x out u : List ℕ) (rs : List Row) (to : ℕ) → Bytes u → length x ≡ 40 →
    to + 40 ≤ length out → u ≡ paste out to x (length x) →
    take to out ++ written (row_in 40 x ∷ rs) (drop to out) ≡ take (to + 40) u ++ written rs (drop (to + 40) u)
row_written x out u rs to b l room p =
    let q : u ≡ paste out to x 40 = p ∙ ap (paste out to x) l in
    let front : take (to + 40) u ≡ take to out ++ x =
    ap (take (to + 40)) q ∙ take-paste out to x 40 (omega arith) (omega arith) ∙
    ap (λ (a : List ℕ). take to out ++ a) (take_all 40 x (omega arith)) in
    let back : drop (to + 40) u ≡ drop (to + 40) out = ap (drop (to + 40)) q ∙ drop-paste out to x 40 (omega arith) (omega arith) in
    let n : ℕ = length rs in
    let s : to + suc n * 40 ≡ (to + 40) + n * 40 = omega arith in
    let rest : drop (suc n * 40) (drop to out) ≡ drop (n * 40) (drop (to + 40) out) =
    drop-drop (suc n * 40) to out ∙ ap (λ (a : ℕ). drop a out) s ∙ sym (drop-drop (n * 40) (to + 40) out) in
    let part : drop to (take (to + 40) u) ≡ x = ap (drop to) front ∙ drop_at (take to out) x to (length-take-le to out (omega arith)) in
    let small : Bytes x = rw part at (bytes_drop to (take (to + 40) u) (bytes_take (to + 40) u b)) in
    let bytes : bytes_of 40 (row_in 40 x ∷ rs) ≡ x ++ bytes_of 40 rs = row_bytes x rs small l in
    (λ i. take to out ++ (bytes i ++ rest i))
    ∙ ap (λ (a : List ℕ). take to out ++ a) (append_assoc x (bytes_of 40 rs) (drop (n * 40) (drop (to + 40) out)))
    ∙ sym (append_assoc (take to out) x (bytes_of 40 rs ++ drop (n * 40) (drop (to + 40) out)))
    ∙ sym (λ i. front i ++ (bytes_of 40 rs ++ drop (n * 40) (back i)))

-- rows are written up to `to`; what changed of those in the bytes r that are left decides the rest
pub record Writing (ss ls all : List Row) (out₀ out : List ℕ) (to : ℕ) (r : List ℕ) : Type 0 where
  pub room : to + length (changed ss ls (whole_rows r)) * 40 ≤ length out
  pub rest : written (changed ss ls all) out₀ ≡ take to out ++ written (changed ss ls (whole_rows r)) (drop to out)
  pub size : length out ≡ length out₀

module _ {ss ls all : List Row} {out₀ : List ℕ} where
  pub writing_start : (r : List ℕ) → whole_rows r ≡ all → length (changed ss ls all) * 40 ≤ length out₀ → Writing ss ls all out₀ out₀ 0 r
  writing_start r e h =
      let q : changed ss ls (whole_rows r) ≡ changed ss ls all = ap (changed ss ls) e in
      record { room = omega (arith, ap length q); rest = ap (λ (rs : List Row). written rs out₀) (sym q); size = refl }

  module _ {out : List ℕ} {to : ℕ} {r : List ℕ} (w : Writing ss ls all out₀ out to r) where
    pub writing_end : length r < 40 → out ≡ written (changed ss ls all) out₀
    unfolding bytes_of
    writing_end h = sym (w.rest ∙ ap (λ (rs : List Row). take to out ++ written rs (drop to out)) (left_none ss ls r h) ∙ take-append-drop to out)

    module _ (x t : List ℕ) (e : r ≡ x ++ t) (l : length x ≡ 40) where
      pub writing_same : true ≡ sameb ss ls (row_in 40 x) → Writing ss ls all out₀ out to t
      writing_same s =
          let q : changed ss ls (whole_rows r) ≡ changed ss ls (whole_rows t) = left_by_lem r x t e l ss ls true s in
          record {
            room = omega (arith, ap length q, w.room);
            rest = w.rest ∙ ap (λ (rs : List Row). take to out ++ written rs (drop to out)) q;
            size = w.size;
          }

      pub room_new : false ≡ sameb ss ls (row_in 40 x) → to + 40 + length (changed ss ls (whole_rows t)) * 40 ≤ length out
      room_new s = omega (arith, ap length (left_by_lem r x t e l ss ls false s), w.room)

      pub writing_new : false ≡ sameb ss ls (row_in 40 x) → (u : List ℕ) → Bytes u → u ≡ paste out to x (length x) → Writing ss ls all out₀ u (to + 40) t
      writing_new s u b p =
          let fit : to + 40 ≤ length out = omega (arith, room_new s) in
          let lu : length u ≡ length out = ap length p ∙ length-paste out to x (length x) (omega arith) (omega arith) in
          record {
            room = omega (arith, room_new s, lu);
            rest =
                w.rest ∙ ap (λ (rs : List Row). take to out ++ written rs (drop to out)) (left_by_lem r x t e l ss ls false s)
                ∙ row_written x out u (changed ss ls (whole_rows t)) to b l fit p;
            size = lu ∙ w.size;
          }
