-- What verify answers, from what the code finds on its way. Assumes nothing.
use Rattle.std.specs.Prelude.{◌≡◌, refl, ℕ, ◌*◌, ◌≤◌, ◌<◌, length, drop, replicate, Option, Some, None, Result, Ok, Err, MatchResult, IsErrAnd}
use Rattle.std.proofs.Common.{sym, ◌∙◌, arith}
use Rattle.std.proofs.Math.Path.{ap}
use mathlib.Core.List.{List, []}
use borrow.Author.Tests.{le-leb, lt-leb}
use Rattle.container.specs.Container.{Entry, Container}
use Rattle.container.specs.Reader.{read, entries, read_of, layout_of}
use Rattle.container.specs.ReadToldLaws.{ReadTold}
use Rattle.starts.specs.Walk.{Walk, walk_of}
use Rattle.container_verify.specs.Targets.{bad_target, stands_of}
use Rattle.starts.specs.Marks.{Marks, Holds}
use Rattle.starts.proofs.WalkLaws.{starts_within, holds_marked}
use Rattle.container_verify.specs.Verify.{first_refusal, entries_refusal, target_refusal, code_refusal, verify_of, verified_by, verified_of}
use Rattle.container_verify.specs.Checks.{as_check}
use Rattle.container_verify.specs.CheckLaws.{passed, failed}
use Rattle.container.specs.LaidOut.{LaidOut}
use Rattle.container.specs.declared.reader.Layout.{Layout}
use Rattle.container_verify.specs.declared.verify.VerifyError.{VerifyError}
use Rattle.container_verify.specs.declared.verify.VerifyError.TheVariants.{CodeTooLarge, ConstsTooLarge, EntriesTooLarge, MisalignedTarget}
use Rattle.starts.specs.declared.scan_answers.ScanError.{ScanError}
use Rattle.container_verify.specs.declared.verify.Invalid.{Invalid}

-- targets, then entries: what each pass answered
module _ (s code map : List ℕ) (l : Layout) (r : Result Unit ℕ) (tested : (starts : List ℕ) → Holds map starts → r ≡ stands_of (bad_target (length code) code starts 0))
    (q : Result Unit VerifyError) (mapped : MatchResult r (λ x. q ≡ Ok x) (λ t. IsErrAnd q (λ y. y ≡ MisalignedTarget t)))
    (c : Container) (starts : List ℕ) (a : LaidOut s code l c) (h : Holds map starts) where
  targets : q ≡ as_check (target_refusal (bad_target (length c.code) c.code starts 0))
  unfolding stands_of target_refusal as_check
  targets = by (bad_target (length c.code) c.code starts 0) r (rw a.code at (tested starts h)) mapped
    where
      refused : (t : ℕ) (q : Result Unit VerifyError) → IsErrAnd q (λ y. y ≡ MisalignedTarget t) → q ≡ Err (MisalignedTarget t)
      refused t (Ok x) k = absurd k
      refused t (Err y) k = rw k

      by : (o : Option ℕ) (r : Result Unit ℕ) → r ≡ stands_of o → MatchResult r (λ x. q ≡ Ok x) (λ t. IsErrAnd q (λ y. y ≡ MisalignedTarget t)) →
          q ≡ as_check (target_refusal o)
      by None r e m = rw e at m
      by (Some t) r e m = refused t q (rw e at m)

  pub target_failed : (e : VerifyError) → q ≡ Err e → Err e ≡ as_check (code_refusal (Ok tt) starts c)
  unfolding code_refusal first_refusal as_check
  target_failed e k = rw (failed (target_refusal (bad_target (length c.code) c.code starts 0)) e (sym k ∙ targets))

  pub targets_passed : q ≡ Ok tt → (p : Result Unit VerifyError) →
      ((es : List Entry) (t starts : List ℕ) → entries l.entries (drop l.entries_at s) ≡ read es t →
      Holds map starts → p ≡ as_check (entries_refusal [] starts es)) →
      p ≡ as_check (code_refusal (Ok tt) starts c)
  unfolding code_refusal first_refusal
  targets_passed e p checked =
      checked c.entries [] starts a.entries h ∙ rw (passed (target_refusal (bad_target (length c.code) c.code starts 0)) (sym e ∙ targets))

-- sizes, then the code
module _ (s code : List ℕ) (l : Layout) (c : Container) (a : LaidOut s code l c) where
  sizes : (l.code ≡ length c.code) × (l.consts ≡ length c.consts) × (l.entries ≡ length c.entries)
  unfolding layout_of
  sizes = (ap (λ (x : Layout). x.code) a.layout, ap (λ (x : Layout). x.consts) a.layout, ap (λ (x : Layout). x.entries) a.layout)

  pub code_small : l.code ≤ 65536 → length c.code ≤ 65536
  code_small h = omega (arith, sizes)

  pub large_code : 65536 < l.code → Err CodeTooLarge ≡ as_check (verify_of c)
  unfolding verify_of as_check
  large_code h = rw (lt-leb (length c.code) 65536 (omega (arith, sizes)))

  pub many_consts : l.code ≤ 65536 → 4096 < l.consts → Err ConstsTooLarge ≡ as_check (verify_of c)
  unfolding verify_of as_check
  many_consts h k = rw (le-leb (length c.code) 65536 (omega (arith, sizes)), lt-leb (length c.consts) 4096 (omega (arith, sizes)))

  pub many_entries : l.code ≤ 65536 → l.consts ≤ 4096 → 256 < l.entries → Err EntriesTooLarge ≡ as_check (verify_of c)
  unfolding verify_of as_check
  many_entries h k m = rw (
    le-leb (length c.code) 65536 (omega (arith, sizes)),
    le-leb (length c.consts) 4096 (omega (arith, sizes)),
    lt-leb (length c.entries) 256 (omega (arith, sizes)),
  )

  pub within_sizes : l.code ≤ 65536 → l.consts ≤ 4096 → l.entries ≤ 256 →
      as_check (code_refusal (walk_of c.code (length c.consts)).end (walk_of c.code (length c.consts)).starts c) ≡ as_check (verify_of c)
  unfolding verify_of
  within_sizes h k m = rw (
    le-leb (length c.code) 65536 (omega (arith, sizes)),
    le-leb (length c.consts) 4096 (omega (arith, sizes)),
    le-leb (length c.entries) 256 (omega (arith, sizes)),
  )

  -- how the reading of the code ended
  same_walk : walk_of code l.consts ≡ walk_of c.code (length c.consts)
  same_walk = rw (a.code, sizes.1)

  pub code_stopped : (r : Result Unit ScanError) → r ≡ (walk_of code l.consts).end →
      as_check (code_refusal r (walk_of c.code (length c.consts)).starts c)
      ≡ as_check (code_refusal (walk_of c.code (length c.consts)).end (walk_of c.code (length c.consts)).starts c)
  code_stopped r e =
      ap (λ (x : Result Unit ScanError). as_check (code_refusal x (walk_of c.code (length c.consts)).starts c)) (e ∙ ap (λ (w : Walk). w.end) same_walk)

  pub code_held : (n : ℕ) (map : List ℕ) → length c.code ≤ 8 * n → Marks (replicate n 0) (walk_of code l.consts).starts map →
      Holds map (walk_of c.code (length c.consts)).starts
  code_held n map h m =
      let k : length code ≤ 8 * n = rw a.code h in
      rw same_walk at (holds_marked n (walk_of code l.consts).starts map (λ p q. starts_within code l.consts p (omega (arith, k))) m)

abbrev pub verdict : Result Unit VerifyError → Layout → Result Layout Invalid
verdict (Ok tt) l = Ok l
verdict (Err e) l = Err (Invalid.Refused e)

pub verdict_is : (s : List ℕ) (l : Layout) (r : ReadTold s l) (q : Result Unit VerifyError) → q ≡ as_check (verify_of r.found) → verdict q l ≡ verified_of (read_of s)
unfolding verified_of verified_by as_check
verdict_is s l r q e = rw (r.is, e, r.layout) (by (verify_of r.found))
  where
    by : (o : Option VerifyError) → verdict (as_check o) (layout_of r.found) ≡ verified_by o r.found
    by None = refl
    by (Some x) = refl
