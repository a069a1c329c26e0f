-- `targets` meets its contract. The loop's invariant: what is left of the code decides. Assumes nothing.
use Rattle.std.specs.Prelude.{Ok}
use Rattle.std.proofs.lemmas.Result.{err_from_is_err_and}
use mathlib.Core.Path.{◌≡◌, sym, ap, ◌∙◌}
use Prim.Native.Nat.{ℕ}
use native.Mathlib.Omega.{arith}
use Rattle.isa.specs.Codec.{decode_at}
use Rattle.isa.specs.RoundTripTheorems.{Place, decode_place}
use Rattle.isa.specs.declared.instr.Instr.{Instr}
use Rattle.isa.specs.declared.flow.Refers.{Refers}
use Rattle.isa.specs.Refers.{refers_to}
use Rattle.starts.specs.Marks.{marked}
use Rattle.container_verify.specs.Targets.{target_stands}
use Rattle.container_verify.specs.TargetLaws.{aim_end, aim_refused, aim_bad, aim_on}
use Rattle.container_verify.proofs.targets.targets.Goals as goal
use Rattle.container_verify.proofs.targets.targets.Goals.{After-target_of}

pub returns-in_default : goal.returns-in_default
returns-in_default c =
    aim_refused _ _ c.loop-place.place c.loop-place.invariant c.loop-place-test.true _ (sym c.decode.ensures ∙ c.in_default.is)

abbrev here : After-target_of → ℕ
here c = c.loop-place.place

abbrev instr : After-target_of → Instr
instr c = c.in-Ok.i

abbrev size : After-target_of → ℕ
size c = c.in-Ok.n

decoded : (c : After-target_of) → decode_at c.args.code.now (here c) ≡ Ok (instr c, size c)
decoded c =
    sym c.decode.ensures ∙ c.in-Ok.is

placed : (c : After-target_of) → Place c.args.code.now (here c) (instr c) (size c)
placed c = decode_place c.args.code.now (here c) (instr c) (size c) (decoded c)

-- whether its target is marked
aimed : (c : After-target_of) → c.target_of.result ≡ target_stands (refers_to (instr c)) (marked c.args.map.now)
aimed c = c.target_of.ensures ∙ ap (λ (r : Refers). target_stands r (marked c.args.map.now)) c.refers.ensures

pub returns-in_err-target_of : goal.returns-in_err-target_of
returns-in_err-target_of c =
    let p = err_from_is_err_and c.from_residual.result c.from_residual.ensures.1 in
    let a = (goal.at-returns-in_err-target_of c).After-target_of in
    rw (p.1, p.2) (aim_bad _ _ c.loop-place.place c.loop-place.invariant c.loop-place-test.true _ _ (decoded a) _ (sym c.in_err-target_of.was ∙ aimed a))

pub overflow_add-place : goal.overflow_add-place
overflow_add-place c = let p = placed (goal.at-overflow_add-place c).After-target_of in omega (arith, p.within)

pub loop-place-smaller : goal.loop-place-smaller
loop-place-smaller c = let p = placed (goal.at-loop-place-smaller c).After-target_of in omega (arith, p.within, p.least)

pub loop-place-preserved : goal.loop-place-preserved
loop-place-preserved c =
    aim_on _ _ c.loop-place.place c.loop-place.invariant c.loop-place-test.true _ _ (decoded (goal.at-loop-place-preserved c).After-target_of) (sym c.in_ok-target_of.was ∙ aimed (goal.at-loop-place-preserved c).After-target_of)

pub returns : goal.returns
returns c = aim_end _ _ c.loop-place.place c.loop-place.invariant c.loop-place-test.false
