-- Push appends to what is stacked, pop takes the last off it, and neither touches the rest. Assumes nothing.
use Rattle.std.specs.Prelude.{◌≡◌, ℕ, suc, ◌+◌, ◌-◌, ◌<◌, ◌≤◌, Bool, true, false, List, [], ◌∷◌, ◌++◌, length, drop, ◌==◌, slice_index, slice_index_or, slice_set, refl, Some, None}
use Rattle.std.proofs.Common.{sym, ap, ◌∙◌, add-one, arith, take-suc, take-suc-set, drop-set-lt, get_or-set_same}
use Rattle.std.proofs.lemmas.Bool.{eqb-false}
use Rattle.words.specs.Choice.{pick}
use Rattle.state.specs.Stack.{stacked, pop_of}
use Rattle.state.specs.StackLaws.{pop_some}

pub push_appends : (words : List ℕ) (depth v : ℕ) → depth < length words → stacked (slice_set words depth v) (depth + 1) ≡ stacked words depth ++ (v ∷ [])
push_appends words depth v h = rw add-one (take-suc-set words depth v h)

pub push_leaves : (words : List ℕ) (depth v : ℕ) → drop (depth + 1) (slice_set words depth v) ≡ drop (depth + 1) words
push_leaves words depth v = drop-set-lt (depth + 1) words depth v (omega arith)

pub pop_takes : (words : List ℕ) (depth v : ℕ) → depth ≤ length words → pop_of words depth ≡ Some v → stacked words depth ≡ stacked words (depth - 1) ++ (v ∷ [])
pop_takes words depth v h = go (depth == 0) refl
  where
    go : (t : Bool) → (depth == 0) ≡ t → pick t None (Some (slice_index words (depth - 1))) ≡ Some v
        → stacked words depth ≡ stacked words (depth - 1) ++ (v ∷ [])
    go true t e = absurd (let z : ◌≡◌ {A = ℕ} 0 1 = cc in omega arith)
    go false t e =
        let some = eqb-false depth 0 t in
        let n : depth ≡ suc (depth - 1) = omega (arith, some) in
        let w : slice_index_or words (depth - 1) 0 ≡ v = cc in
        ap (stacked words) n ∙ take-suc words (depth - 1) 0 (omega arith) ∙ ap (λ (x : ℕ). stacked words (depth - 1) ++ (x ∷ [])) w

pub pop_pushed : (words : List ℕ) (depth v : ℕ) → depth < length words → pop_of (slice_set words depth v) (depth + 1) ≡ Some v
pop_pushed words depth v h =
    let n : depth + 1 - 1 ≡ depth = omega arith in
    sym (pop_some (slice_set words depth v) (depth + 1) (λ z. omega arith)) ∙ ap (λ (i : ℕ). Some (slice_index (slice_set words depth v) i)) n
    ∙ ap Some (get_or-set_same words depth v 0 h)
