-- `is_start` meets its contract. The loop's invariant: what is left of the code decides. Assumes nothing.
use Rattle.std.specs.Prelude.{Ok}
use mathlib.Core.Path.{◌≡◌, sym, ◌∙◌}
use native.Mathlib.Omega.{arith}
use Rattle.isa.specs.Codec.{decode_at}
use Rattle.isa.specs.RoundTripTheorems.{Place, decode_place}
use Rattle.opening.specs.StartLaws.{read_begins, read_end, read_refused, read_here, read_on}
use Rattle.opening.proofs.unmapped.is_start.Goals as goal
use Rattle.opening.proofs.unmapped.is_start.Goals.{In-Ok}

pub loop-place-init : goal.loop-place-init
loop-place-init c = read_begins _ _

pub returns-in_default : goal.returns-in_default
returns-in_default c =
    read_refused _ _ c.loop-place.place c.loop-place.invariant c.loop-place-test.true _ (sym c.decode.ensures ∙ c.in_default.is)

-- the instruction that a turn decoded, and where
decoded : (c : In-Ok) →
    decode_at c.args.code.now c.loop-place.place
    ≡ Ok (c.in-Ok.field-0-0, c.in-Ok.n)
decoded c =
    sym c.decode.ensures ∙ c.in-Ok.is

placed : (c : In-Ok) → Place c.args.code.now c.loop-place.place c.in-Ok.field-0-0 c.in-Ok.n
placed c = decode_place _ c.loop-place.place _ _ (decoded c)

pub returns-then-place-offset : goal.returns-then-place-offset
returns-then-place-offset c =
    read_here _ _ c.loop-place.place c.loop-place.invariant c.loop-place-test.true _ _ (decoded (goal.at-returns-then-place-offset c).In-Ok) c.if-place-offset.true

pub overflow_add-place : goal.overflow_add-place
overflow_add-place c = let p = placed (goal.at-overflow_add-place c).In-Ok in omega (arith, p.within)

pub loop-place-smaller : goal.loop-place-smaller
loop-place-smaller c = let p = placed (goal.at-loop-place-smaller c).In-Ok in omega (arith, p.within, p.least)

pub loop-place-preserved : goal.loop-place-preserved
loop-place-preserved c =
    read_on _ _ c.loop-place.place c.loop-place.invariant c.loop-place-test.true _ _ (decoded (goal.at-loop-place-preserved c).In-Ok) c.if-place-offset.false

pub returns : goal.returns
returns c = read_end _ _ c.loop-place.place c.loop-place.invariant c.loop-place-test.false
