-- What the code is told of an instruction's group and of a payment. Assumes nothing.
use Rattle.std.specs.Prelude.{◌≡◌, refl, Bool, true, false, ℕ, ◌+◌, leb, Option, Some, None}
use Rattle.std.proofs.Common.{sym, ap, ◌∙◌}
use Rattle.words.specs.Choice.{pick}
use Rattle.meter.specs.Meter.{charge_of}
use Rattle.meter.specs.declared.Meter.{Meter}
use Rattle.machine.specs.RunParts.{with_meter, with_used}
use Rattle.machine.specs.Does.{paid_by}
use Rattle.machine.specs.declared.run.Run.{Run}

-- what a charge of the run's meter makes of the run
abbrev after_charge : Run → Option Meter → Option Run
after_charge r (Some m) = Some (with_meter r m)
after_charge r None = None

after_charge_lem : (r : Run) (p : ℕ) → after_charge r (charge_of r.meter p) ≡ paid_by r p
after_charge_lem r p = go (leb (r.meter.used + p) r.meter.limit)
  where
    go : (t : Bool) → after_charge r (pick t (Some (record { used = r.meter.used + p; limit = r.meter.limit })) None) ≡ pick t (Some (with_used r (r.meter.used + p))) None
    go true = refl
    go false = refl

module _ (r : Run) (p : ℕ) (x : Option Meter) (e : x ≡ charge_of r.meter p) where
  pub paid_done : (m : Meter) → x ≡ Some m → after_charge r (Some m) ≡ paid_by r p
  paid_done m k = ap (after_charge r) (sym k ∙ e) ∙ after_charge_lem r p

  pub paid_out : x ≡ None → None ≡ paid_by r p
  paid_out k = ap (after_charge r) (sym k ∙ e) ∙ after_charge_lem r p
