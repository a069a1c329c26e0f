-- What the checks of store, loader and replies decide. Assumes nothing.
use Rattle.std.specs.Prelude.{◌≡◌, refl, Bool, true, false, not, List, ℕ, eqb, Option, Some, None, Result, Ok, Err}
use Rattle.std.proofs.Common.{◌∙◌, arith}
use Rattle.words.specs.Choice.{pick, both}
use Rattle.tables.specs.Checked.{checked_of, checked_if}
use Rattle.replies.specs.Replies.{replies_of}
use Rattle.tables.specs.Answers.{checked_number}
use Rattle.replies.specs.Answers.{replies_number}
use Rattle.keys.specs.declared.look.TableRows.{TableRows}
use Rattle.opening.specs.Opening.{tables_number}
use Rattle.opening.specs.Opened.{input_of}
use Rattle.opening.specs.Parts.{Checks}
use Rattle.opening.specs.declared.open.Call.{Call}
use Rattle.state.specs.declared.fault.Fault.{Fault}
use Rattle.state.specs.declared.fault.Fault.TheVariants.{BadTable, BadReply}

-- a loader that is bad is there
bad_there : (p : Bool) (t : List ℕ) → checked_if p 40 t ≡ None → (p ≡ true) × (checked_of 40 t ≡ None)
bad_there true t e = (refl, e)
bad_there false t e = absurd (let z : ◌≡◌ {A = ℕ} 0 1 = cc in omega arith)

-- one that is there has the rows that were counted
there : (p : Bool) (t : List ℕ) (m : ℕ) → checked_if p 40 t ≡ Some m → p ≡ true → checked_of 40 t ≡ Some m
there true t m e h = e
there false t m e h = absurd (let z : ◌≡◌ {A = ℕ} 0 1 = cc in omega arith)

-- one that is counted does not refuse
passes : (p : Bool) (t : List ℕ) (m r : ℕ) → checked_if p 40 t ≡ Some m → pick (both p (not (eqb (checked_number (checked_of 40 t)) 0))) 45 r ≡ r
unfolding checked_number
passes true t m r e = rw e
passes false t m r e = refl

-- the replies are checked last
abbrev pub tables_by : Option ℕ → TableRows → Result TableRows Fault
tables_by (Some k) n = Ok n
tables_by None n = Err BadReply

module _ (c : Call) (st ld rp : List ℕ) where
  pub store_bad : checked_of 40 st ≡ None → Checks c st ld rp (Err BadTable)
  unfolding checked_number
  store_bad e = λ s pre. record { number = 45; is = rw e; some = refl; tells = refl }

  module _ (n : ℕ) (h : checked_of 40 st ≡ Some n) where
    pub loader_bad : checked_if c.has_loader 40 ld ≡ None → Checks c st ld rp (Err BadTable)
    unfolding checked_number
    loader_bad e = let b = bad_there c.has_loader ld e in λ s pre. record { number = 45; is = rw (h, b.0, b.1); some = refl; tells = refl }

    module _ (m : ℕ) (l : checked_if c.has_loader 40 ld ≡ Some m) where
      replies_decide : (s pre : List ℕ) → tables_number (input_of c s st ld rp pre) ≡ replies_number (replies_of rp)
      unfolding checked_number
      replies_decide s pre = rw h (passes c.has_loader ld m (replies_number (replies_of rp)) l)

      pub replied : (r : Option ℕ) → replies_of rp ≡ r → Checks c st ld rp (tables_by r (record { store = n; has_loader = c.has_loader; loader = m }))
      unfolding replies_number
      replied None e = λ s pre. record { number = 46; is = replies_decide s pre ∙ rw e; some = refl; tells = refl }
      replied (Some k) e = λ s pre. record {
        number = replies_decide s pre ∙ rw e;
        store = h;
        has_loader = refl;
        loader = there c.has_loader ld m l;
      }
