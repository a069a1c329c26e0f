-- Each end of a call is the definition's. Assumes nothing.
use Rattle.std.specs.Prelude.{◌≡◌, refl, Bool, List, ℕ, eqb, length, Ok, Err, Result}
use Rattle.std.proofs.Math.Path.{sym, ap}
use Rattle.std.proofs.Common.{◌∙◌, eqb-true}
use Rattle.std.proofs.Math.Bool.{true, false}
use Rattle.words.specs.Choice.{both}
use Rattle.words.specs.Refusals.{refusal}
use Rattle.words.specs.declared.refusal.Refusal.{Refusal}
use Rattle.words.specs.ChoiceLaws.{both_left, both_right}
use Rattle.container.specs.Reader.{read_of}
use Rattle.opening.specs.Opening.{Lent, Opening, sizes_fit, opening_read, opening_of}
use Rattle.opening.specs.Opened.{input_of, ToldOf, Opens}
use Rattle.opening.specs.declared.open.Call.{Call}
use Rattle.opening.specs.declared.open.Opened.{Opened}
use Rattle.interp.specs.Call.{called, refused_as, running, call_of}
use Rattle.interp.specs.Entered.{Entered}
use Rattle.interp.specs.declared.answer.Answer.{Answer}

module _ (c : Call) (s st ld rp pre : List ℕ) (b : Lent) (fit : Bool) (q : fit ≡ sizes_fit b) where
  -- a buffer of another size: 44, and nothing touched
  pub call_bad : fit ≡ false → (r : Answer) → r ≡ refused_as (refusal 44 0) 0 → called r b ≡ call_of (input_of c s st ld rp pre) b
  unfolding call_of opening_of running
  call_bad k r e = let w : sizes_fit b ≡ false = sym q ∙ k in rw (w, e)

  module _ (k : fit ≡ true) (o : Result Opened Refusal) (t : Opens c s st ld rp o) where
    opened : opening_of (input_of c s st ld rp pre) b ≡ opening_read (input_of c s st ld rp pre) b (read_of s)
    unfolding opening_of
    opened = let w : sizes_fit b ≡ true = sym q ∙ k in rw w

    -- a refused opening: its number, no fetch, nothing touched
    pub call_refused : (n : Refusal) → o ≡ Err n → (r : Answer) → r ≡ refused_as n 0 → called r b ≡ call_of (input_of c s st ld rp pre) b
    unfolding call_of running
    call_refused n p r e =
        let u : ToldOf (input_of c s st ld rp pre) b (Err n) = rw p at (t pre b) in
        rw (opened, u, e)

    -- an accepted one
    unfoldable pub call_entered : (x : Opened) → o ≡ Ok x → Entered x c.limit c.host s st ld rp pre b
    call_entered x p =
        let u : ToldOf (input_of c s st ld rp pre) b (Ok x) = rw p at (t pre b) in
        let w : sizes_fit b ≡ true = sym q ∙ k in
        let m = both_left (eqb (length b.run.memory) 65536) (both (eqb (length b.run.stack) 1024) (eqb (length b.starts) 8192)) w in
        let v = both_right (eqb (length b.run.memory) 65536) (both (eqb (length b.run.stack) 1024) (eqb (length b.starts) 8192)) w in
        record {
          input = input_of c s st ld rp pre;
          found = u;
          container = refl;
          store = refl;
          loader = refl;
          replies = refl;
          preload = refl;
          limit_is = refl;
          host_is = refl;
          memory_size = eqb-true (length b.run.memory) 65536 m;
          stack_size = eqb-true (length b.run.stack) 1024 (both_left (eqb (length b.run.stack) 1024) (eqb (length b.starts) 8192) v);
          starts_size = eqb-true (length b.starts) 8192 (both_right (eqb (length b.run.stack) 1024) (eqb (length b.starts) 8192) v);
        }

    pub call_runs : (x : Opened) (p : o ≡ Ok x) (r : Answer) (a : Lent) →
        ((y : Entered x c.limit c.host s st ld rp pre b) → called r a ≡ running (opening_read y.input b (read_of y.input.container)) b)
        → called r a ≡ call_of (input_of c s st ld rp pre) b
    unfolding call_of call_entered
    call_runs x p r a e = e (call_entered x p) ∙ ap (λ (y : Opening). running y b) (sym opened)
