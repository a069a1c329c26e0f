-- A turn of the pass over the targets. Assumes nothing.
use Rattle.std.specs.Prelude.{◌≡◌, refl, Bool, true, false, List, ℕ, ◌+◌, ◌-◌, ◌≤◌, ◌<◌, length, Option, Some, None, Result, Ok, Err}
use Rattle.std.proofs.Common.{◌∙◌, arith}
use Rattle.words.specs.Choice.{pick}
use Rattle.words.specs.Lists.{member}
use Rattle.isa.specs.Codec.{decode_at}
use Rattle.isa.specs.declared.instr.Instr.{Instr}
use Rattle.isa.specs.declared.codec.DecodeError.{DecodeError}
use Rattle.isa.specs.Refers.{refers_to}
use Rattle.container_verify.specs.Targets.{bad_or, target_by, bad_target, target_stands, stands_of}
use Rattle.starts.specs.Marks.{marked, Holds}
use Rattle.starts.specs.SweepLaws.{Sweep, at_end, on}
use Rattle.isa.specs.declared.flow.Refers.{Refers}
use Rattle.isa.specs.declared.flow.Refers.TheVariants.{Const, Target, Nothing}

-- from a place on, with as many turns as bytes are left
abbrev ahead : (code starts : List ℕ) (place : ℕ) → Option ℕ
ahead code starts place = bad_target (length code - place) code starts place

aims : (code starts : List ℕ) → Sweep code None (λ p d k. target_by d starts (λ n. k (p + n))) (λ t p. bad_target t code starts p)
unfolding bad_target target_by
aims code starts = record {
  none = λ p. refl;
  turn = λ t p. refl;
  here = λ p e k l. refl;
  next = λ p i n k l h. rw h;
}

or_else_lem : (r : Refers) (map starts : List ℕ) → Holds map starts → (next : Option ℕ) → Ok tt ≡ target_stands r (marked map) → bad_or r starts next ≡ next
unfolding bad_or target_stands
or_else_lem (Target t) map starts h next e = by (member t starts) (e ∙ rw (h.at t))
  where
    by : (b : Bool) → ◌≡◌ {A = Result Unit ℕ} (Ok tt) (pick b (Ok tt) (Err t)) → pick b next (Some t) ≡ next
    by true e = refl
    by false e = absurd (let z : ◌≡◌ {A = ℕ} 0 1 = cc in omega arith)
or_else_lem (Const k) map starts h next e = refl
or_else_lem Nothing map starts h next e = refl

or_bad : (r : Refers) (map starts : List ℕ) → Holds map starts → (next : Option ℕ) (t : ℕ) → Err t ≡ target_stands r (marked map) → bad_or r starts next ≡ Some t
unfolding bad_or target_stands
or_bad (Target u) map starts h next t e = by (member u starts) (e ∙ rw (h.at u))
  where
    by : (b : Bool) → ◌≡◌ {A = Result Unit ℕ} (Err t) (pick b (Ok tt) (Err u)) → pick b next (Some u) ≡ Some t
    by true e = absurd (let z : ◌≡◌ {A = ℕ} 0 1 = cc in omega arith)
    by false e = let k : t ≡ u = cc in rw k
or_bad (Const k) map starts h next t e = absurd (let z : ◌≡◌ {A = ℕ} 0 1 = cc in omega arith)
or_bad Nothing map starts h next t e = absurd (let z : ◌≡◌ {A = ℕ} 0 1 = cc in omega arith)

-- what is left of the code decides
pub record Aiming (code map : List ℕ) (place : ℕ) : Type 0 where
  pub left : (starts : List ℕ) → Holds map starts → bad_target (length code) code starts 0 ≡ ahead code starts place

module _ (code map : List ℕ) (place : ℕ) (i : Aiming code map place) where
  pub aim_end : length code ≤ place → (starts : List ℕ) → Holds map starts → Ok tt ≡ stands_of (bad_target (length code) code starts 0)
  unfolding stands_of
  aim_end l starts h = rw (i.left starts h, at_end code None _ _ (aims code starts) place l)

  module _ (l : place < length code) where
    by_decode : (starts : List ℕ) → Holds map starts →
        bad_target (length code) code starts 0 ≡ target_by (decode_at code place) starts (λ n. ahead code starts (place + n))
    by_decode starts h = i.left starts h ∙ on code None _ _ (aims code starts) place l

    pub aim_refused : (e : DecodeError) → decode_at code place ≡ Err e → (starts : List ℕ) → Holds map starts →
        Ok tt ≡ stands_of (bad_target (length code) code starts 0)
    unfolding stands_of target_by
    aim_refused e d starts h = rw (by_decode starts h, d)

    module _ (x : Instr) (n : ℕ) (d : decode_at code place ≡ Ok (x, n)) where
      pub aim_bad : (t : ℕ) → Err t ≡ target_stands (refers_to x) (marked map) → (starts : List ℕ) → Holds map starts →
          Err t ≡ stands_of (bad_target (length code) code starts 0)
      unfolding stands_of target_by
      aim_bad t b starts h = rw (by_decode starts h, d, or_bad (refers_to x) map starts h (ahead code starts (place + n)) t b)

      pub aim_on : Ok tt ≡ target_stands (refers_to x) (marked map) → Aiming code map (place + n)
      unfolding target_by
      aim_on b = record { left = λ starts h. by_decode starts h ∙ rw d (or_else_lem (refers_to x) map starts h (ahead code starts (place + n)) b) }
