-- The front was checked to be n rows.
use Rattle.std.specs.Prelude.{Option, Some, None}
use Rattle.std.specs.Option.{option_eq}
use Rattle.std.proofs.Common.{arith, ◌≤◌, ◌*◌, length, sym, ap, ◌∙◌, refl, ◌≡◌, ℕ, true}
use Rattle.std.proofs.Math.Dec.{eqb}
use Rattle.std.proofs.Math.Nat.{le-div_iff_mul-le}
use Rattle.std.proofs.lemmas.Bool.{eqb-true}
use Rattle.replay_stores.specs.FrontLaws.{front_table}
use Rattle.replay_stores.proofs.sorted.Goals as goal

same_some : (o : Option ℕ) (n : ℕ) → option_eq eqb o (Some n) ≡ true → o ≡ Some n
same_some None n e = cc
same_some (Some m) n e = ap Some (eqb-true m n e)

pub returns-then-n-t : goal.returns-then-n-t
returns-then-n-t c = λ e.
    let a = c.args in
    let within : a.n * a.w ≤ length a.t.now =
    (le-div_iff_mul-le {k = a.w} {x = a.n} {y = length a.t.now} (omega (arith, c.requires))).0 c.if-n-t.true in
    let whole : c.check.result ≡ Some a.n = same_some _ _ (sym c.eq.ensures ∙ e) in
    front_table a.w a.n a.n a.t.now c.requires within (sym c.check.ensures ∙ whole) refl
