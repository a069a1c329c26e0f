-- `scan` meets its contract. The loop's invariant: what is left of the code decides, and completes the map. Assumes nothing.
use Rattle.std.specs.Prelude.{Ok}
use mathlib.Core.Path.{◌≡◌, sym, ap, ◌∙◌}
use Prim.Native.Nat.{ℕ}
use native.Mathlib.Omega.{arith}
use Rattle.isa.specs.Codec.{decode_at}
use Rattle.isa.specs.RoundTripTheorems.{Place, decode_place}
use Rattle.isa.specs.declared.instr.Instr.{Instr}
use Rattle.isa.specs.declared.flow.Refers.{Refers}
use Rattle.isa.specs.Refers.{refers_to}
use Rattle.starts.specs.Walk.{ended, met, index_of}
use Rattle.starts.proofs.ScanLaws.{scan_begins, scan_end, scan_refused, scan_bad, scan_on}
use Rattle.starts.proofs.scan.scan.Goals as goal
use Rattle.starts.proofs.scan.scan.Goals.{After-index_of}

pub loop-place-init : goal.loop-place-init
loop-place-init c = scan_begins _ _ _

pub shape_of-map-in-Err : goal.shape_of-map-in-Err
shape_of-map-in-Err c =
    c.loop-place.invariant.size

pub returns-in-Err : goal.returns-in-Err
unfolding ended
returns-in-Err c = let whole =
    scan_refused _ _ _ c.loop-place.place c.loop-place.map c.loop-place.invariant c.loop-place-test.true _
    (sym c.decode.ensures ∙ c.in-Err.is)
    in record { answer = whole.0; map = whole.1 }

abbrev here : After-index_of → ℕ
here c = c.loop-place.place

abbrev instr : After-index_of → Instr
instr c = c.in-Ok.decoded.0

abbrev size : After-index_of → ℕ
size c = c.in-Ok.decoded.1

decoded : (c : After-index_of) → decode_at c.args.code.now (here c) ≡ Ok (instr c, size c)
decoded c =
    sym c.decode.ensures ∙ c.in-Ok.is

placed : (c : After-index_of) → Place c.args.code.now (here c) (instr c) (size c)
placed c = decode_place c.args.code.now (here c) (instr c) (size c) (decoded c)

-- whether its constant stands
index : (c : After-index_of) → c.index_of.result ≡ index_of (refers_to (instr c)) c.args.consts
index c = c.index_of.ensures ∙ ap (λ (r : Refers). index_of r c.args.consts) c.refers.ensures

pub shape_of-map-in-Err-index_of : goal.shape_of-map-in-Err-index_of
shape_of-map-in-Err-index_of c =
    c.mark.auto.map ∙ c.loop-place.invariant.size

pub returns-in-Err-index_of : goal.returns-in-Err-index_of
unfolding ended met
returns-in-Err-index_of c = let whole =
    scan_bad _ _ _ c.loop-place.place c.loop-place.map c.loop-place.invariant c.loop-place-test.true _ _ (decoded (goal.at-returns-in-Err-index_of c).After-index_of) _ c.mark.ensures _
    (sym (index (goal.at-returns-in-Err-index_of c).After-index_of) ∙ c.in-Err-index_of.is)
    in record { answer = whole.0; map = whole.1 }

pub overflow_add-place : goal.overflow_add-place
overflow_add-place c = let p = placed (goal.at-overflow_add-place c).After-index_of in omega (arith, p.within)

pub loop-place-smaller : goal.loop-place-smaller
loop-place-smaller c = let p = placed (goal.at-loop-place-smaller c).After-index_of in omega (arith, p.within, p.least)

pub loop-place-preserved : goal.loop-place-preserved
loop-place-preserved c =
    scan_on _ _ _ c.loop-place.place c.loop-place.map c.loop-place.invariant c.loop-place-test.true _ _ (decoded (goal.at-loop-place-preserved c).After-index_of) _ c.mark.ensures
    (sym (index (goal.at-loop-place-preserved c).After-index_of) ∙ c.in_default.is)

pub shape_of-map : goal.shape_of-map
shape_of-map c = c.loop-place.invariant.size

pub returns : goal.returns
unfolding ended
returns c = let whole =
    scan_end _ _ _ c.loop-place.place c.loop-place.map c.loop-place.invariant c.loop-place-test.false
    in record { answer = whole.0; map = whole.1 }
