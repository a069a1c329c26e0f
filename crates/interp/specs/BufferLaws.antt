-- Buffers zeroed and a preload laid over memory. Assumes nothing.
use Rattle.std.specs.Prelude.{◌≡◌, List, [], ◌++◌, ℕ, ◌+◌, ◌≤◌, ◌<◌, length, take, drop}
use Rattle.std.proofs.Common.{sym, ap, ◌∙◌, arith, drop_of_length-le, take_all, length-append, length-drop, length-take-le}
use Rattle.std.proofs.lemmas.List.{length-replicate, length-take}
use Rattle.std.proofs.Math.Seq.{paste}
use Rattle.interp.specs.Call.{wiped}

module _ (mem pre u : List ℕ) where
  pub preload_short : length pre ≤ length mem → u ≡ paste mem 0 pre (length pre) → u ≡ take (length mem) pre ++ drop (length pre) mem
  preload_short h e =
      let z : 0 + length pre ≡ length pre = omega arith in
      e ∙ (λ i. (take_all (length pre) pre (omega arith) ∙ sym (take_all (length mem) pre h)) i ++ drop (z i) mem)

  pub preload_long : length mem < length pre → u ≡ paste mem 0 (take (length mem) pre) (length (take (length mem) pre)) →
      u ≡ take (length mem) pre ++ drop (length pre) mem
  preload_long h e =
      let n : length (take (length mem) pre) ≡ length mem = length-take-le (length mem) pre (omega arith) in
      let a : take (length (take (length mem) pre)) (take (length mem) pre) ≡ take (length mem) pre = take_all (length (take (length mem) pre)) (take (length mem) pre) (omega arith) in
      let b : drop (0 + length (take (length mem) pre)) mem ≡ [] = drop_of_length-le mem {i = 0 + length (take (length mem) pre)} (omega arith) in
      let c : drop (length pre) mem ≡ [] = drop_of_length-le mem {i = length pre} (omega arith) in
      e ∙ (λ i. a i ++ (b ∙ sym c) i)

-- zeroes are as many as there were bytes
pub length_wiped : (l : List ℕ) → length (wiped l) ≡ length l
length_wiped l = length-replicate {A = ℕ} (length l) 0

-- the preload over memory that was zeroed
pub preload_wiped : (mem pre m u : List ℕ) → m ≡ wiped mem → u ≡ take (length m) pre ++ drop (length pre) m →
    u ≡ take (length mem) pre ++ drop (length pre) (wiped mem)
preload_wiped mem pre m u z e = e ∙ (λ i. take ((ap length z ∙ length_wiped mem) i) pre ++ drop (length pre) (z i))

-- memory stays as long with a preload laid over it
pub laid_length : (mem pre : List ℕ) → length (take (length mem) pre ++ drop (length pre) (wiped mem)) ≡ length mem
laid_length mem pre =
    length-append (take (length mem) pre) (drop (length pre) (wiped mem))
    ∙ omega (arith, length-take (length mem) pre, length-drop (length pre) (wiped mem), length_wiped mem)
