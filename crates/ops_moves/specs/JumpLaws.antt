-- Each end of a jump is its rule's. Assumes nothing.
use Rattle.std.specs.Prelude.{◌≡◌, refl, Bool, true, false, List, ℕ, ◌/◌, ◌<◌, leb, eqb, length}
use Rattle.std.proofs.Math.Path.{sym}
use Rattle.std.proofs.Common.{◌∙◌, arith, leb-true, leb-false, eq-eqb, ne_eqb}
use Rattle.words.specs.Choice.{pick}
use Rattle.starts.specs.Marks.{marked}
use Rattle.starts.specs.MarkLaws.{past_map}
use Rattle.state.specs.declared.regs.RegFile.{RegFile}
use Rattle.machine.specs.Machine.{Machine}
use Rattle.machine.specs.Rules.{Rule}
use Rattle.machine.specs.Sound.{machine_of}
use Rattle.machine.specs.Does.{goes, stops}
use Rattle.machine.proofs.TurnLaws.{need_on, need_stops}
use Rattle.machine.specs.RunParts.{with_place}
use Rattle.machine.specs.SoundLaws.{place_sound}
use Rattle.machine.specs.declared.run.Run.{Run}
use Rattle.machine.specs.declared.turn.Turn.{Turn}
use Rattle.ops_moves.specs.Around.{Around, DoesIn, JumpsTo}
use Rattle.ops_moves.specs.MoveLaws.{move_goes_on}
use Rattle.state.specs.declared.fault.Fault.TheVariants.{BadJump}

-- a marked place is within the map
within_map : (map : List ℕ) (p : ℕ) → marked map p ≡ true → p / 8 < length map
within_map map p h = go (leb (length map) (p / 8)) refl
  where
    go : (t : Bool) → leb (length map) (p / 8) ≡ t → p / 8 < length map
    go true q = let z = past_map map p (leb-true (length map) (p / 8) q) in absurd (let w : ◌≡◌ {A = ℕ} 0 1 = cc in omega arith)
    go false q = leb-false (length map) (p / 8) q

module _ (r : Run) (target : ℕ) (map : List ℕ) (b : Bool) (e : b ≡ marked map target) where
  pub jumps_on : b ≡ true → JumpsTo r target map (goes (with_place r target))
  unfolding machine_of
  jumps_on k x f mem st lm holds l so =
      let low = within_map map target (sym e ∙ k) in
      let on = place_sound so target (omega arith) in
      need_on 7
      (sym (holds.at target) ∙ sym e ∙ k)
      (move_goes_on x (with_place r target) f mem st l on)

  pub jumps_not : b ≡ false → JumpsTo r target map (stops r BadJump)
  jumps_not k x f mem st lm holds l so =
      need_stops BadJump 7 refl (omega arith)
      (sym (holds.at target) ∙ sym e ∙ k)

-- a jump on a register's value: the first rule where it is 0, else the second
module _ (x : Around) (r : Run) (f : RegFile) (mem st : List ℕ) (v w : ℕ) (e : v ≡ w) (zero other : Machine → Rule) (t : Turn) where
  pub on_zero : v ≡ 0 → DoesIn x r f mem st mem st zero t → DoesIn x r f mem st mem st (λ m. pick (eqb w 0) (zero m) (other m)) t
  on_zero h y l so = rw (eq-eqb w 0 (sym e ∙ h)) (y l so)

  pub on_other : (v ≡ 0 → ⊥) → DoesIn x r f mem st mem st other t → DoesIn x r f mem st mem st (λ m. pick (eqb w 0) (zero m) (other m)) t
  on_other h y l so = rw (ne_eqb w 0 (λ z. h (e ∙ z))) (y l so)
