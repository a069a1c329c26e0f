-- A log's last record: where its parts lie in the bytes. Assumes nothing.
use Rattle.std.specs.Prelude.{◌≡◌, refl, List, [], ◌∷◌, ◌++◌, ℕ, ◌+◌, ◌-◌, ◌≤◌, length, take, drop, get_or}
use Rattle.std.proofs.Common.{sym, ap, ◌∙◌, append_assoc, arith, length-append, take-append-drop, take_at, drop_at, length-take-le}
use Rattle.std.proofs.lemmas.List.{get_or_at}
use Rattle.words.specs.Bytes.{num, be_bytes}
use Rattle.words.specs.BytesLaws.{length_be_bytes}
use Rattle.words.proofs.BytesTheorems.{read_back_all}
use Rattle.effects.specs.Log.{Effect, record_of, log_of, FitTrailers}

pub length_record : (e : Effect) → length (record_of e) ≡ length e.bytes + 13
unfolding record_of
length_record e =
    let w : List ℕ = be_bytes 8 e.word in
    let z : List ℕ = be_bytes 4 (length e.bytes) in
    length-append e.bytes (e.kind ∷ (w ++ z)) ∙ omega (arith, length-append w z, length_be_bytes 8 e.word, length_be_bytes 4 (length e.bytes))

pub length_log : (e : Effect) (es : List Effect) → length (log_of (e ∷ es)) ≡ length (log_of es) + length e.bytes + 13
unfolding log_of
length_log e es = omega (arith, length-append (log_of es) (record_of e), length_record e)

-- a log that ends at 0 has no records
pub log_none : (es : List Effect) → length (log_of es) ≡ 0 → es ≡ []
log_none [] h = refl
log_none (e ∷ es) h = absurd (omega (arith, length_log e es))

-- what stands in bytes whose first `at` are a log, of its newest record
pub record Newest (log : List ℕ) (at : ℕ) (e : Effect) (es : List Effect) : Type 0 where
  pub end : at ≡ length (log_of es) + length e.bytes + 13
  pub front : take (length (log_of es)) log ≡ log_of es
  pub bytes : take (length e.bytes) (drop (length (log_of es)) log) ≡ e.bytes
  pub kind : get_or log (at - 13) 0 ≡ e.kind
  pub word : num (take 8 (drop (at - 12) log)) ≡ e.word
  pub size : num (take 4 (drop (at - 4) log)) ≡ length e.bytes

-- a part that is known by what stands before it
part : (log a x r : List ℕ) (k n : ℕ) → log ≡ a ++ (x ++ r) → length a ≡ k → length x ≡ n → take n (drop k log) ≡ x
part log a x r k n e la lx = ap (λ (l : List ℕ). take n (drop k l)) e ∙ ap (take n) (drop_at a (x ++ r) k la) ∙ take_at x r n lx

pub newest : (log : List ℕ) (at : ℕ) (e : Effect) (es : List Effect) → at ≤ length log → FitTrailers (e ∷ es) → take at log ≡ log_of (e ∷ es) → Newest log at e es
unfolding log_of record_of
newest log at e es l s q =
    let a : List ℕ = log_of es in
    let d : List ℕ = e.bytes in
    let k : ℕ = e.kind in
    let w : List ℕ = be_bytes 8 e.word in
    let z : List ℕ = be_bytes 4 (length d) in
    let r : List ℕ = drop at log in
    let lw : length w ≡ 8 = length_be_bytes 8 e.word in
    let lz : length z ≡ 4 = length_be_bytes 4 (length d) in
    let end : at ≡ length a + length d + 13 = sym (length-take-le at log l) ∙ ap length q ∙ length_log e es in
    let whole : log ≡ a ++ (d ++ (k ∷ (w ++ (z ++ r)))) = sym (take-append-drop at log) ∙ ap (λ (x : List ℕ). x ++ r) q ∙ simp append_assoc in
    let by_kind : log ≡ (a ++ d) ++ (k ∷ (w ++ (z ++ r))) = whole ∙ simp append_assoc in
    let by_word : log ≡ (a ++ (d ++ (k ∷ []))) ++ (w ++ (z ++ r)) = whole ∙ simp append_assoc in
    let by_size : log ≡ (a ++ (d ++ (k ∷ w))) ++ (z ++ r) = whole ∙ simp append_assoc in
    let lk : length (a ++ d) ≡ at - 13 = omega (arith, length-append a d) in
    let lo : length (a ++ (d ++ (k ∷ []))) ≡ at - 12 = omega (arith, length-append a (d ++ (k ∷ [])), length-append d (k ∷ [])) in
    let lp : length (a ++ (d ++ (k ∷ w))) ≡ at - 4 = omega (arith, length-append a (d ++ (k ∷ w)), length-append d (k ∷ w)) in
    record {
      end = end;
      front = ap (take (length a)) whole ∙ take_at a _ (length a) refl;
      bytes = part log a d _ (length a) (length d) whole refl refl;
      kind = ap (λ (x : List ℕ). get_or x (at - 13) 0) by_kind ∙ get_or_at (a ++ d) k (w ++ (z ++ r)) 0 (at - 13) lk;
      word = ap num (part log (a ++ (d ++ (k ∷ []))) w (z ++ r) (at - 12) 8 by_word lo lw) ∙ read_back_all 8 e.word s.0;
      size = ap num (part log (a ++ (d ++ (k ∷ w))) z r (at - 4) 4 by_size lp lz) ∙ read_back_all 4 (length d) s.1;
    }
