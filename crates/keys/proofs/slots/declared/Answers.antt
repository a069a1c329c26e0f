-- `keys::slots::declared` meets its contract: a key whose first 24 bytes are 0 is the number in the others, and no other key is a slot's. Assumes nothing.
use Rattle.std.specs.Prelude.{◌≡◌, ℕ, true, false}
use Rattle.std.proofs.Common.{sym, ap, ◌∙◌}
use Rattle.words.specs.Bytes.{words_in}
use Rattle.words.specs.Lists.{member}
use Rattle.keys.specs.SlotLaws.{is_slot, no_slot}
use Rattle.keys.proofs.slots.declared.Goals as goal

pub returns-then-all_zero : goal.returns-then-all_zero
returns-then-all_zero c =
    let zero = c.all_zero.ensures.0 c.if-all_zero.true in
    c.listed.ensures ∙ ap (λ (y : ℕ). member y (words_in c.args.list.now)) (is_slot c.args.key.now c.args.list.now c.told-key _ zero c.read.ensures)

pub returns-else-all_zero : goal.returns-else-all_zero
returns-else-all_zero c =
    c.if-all_zero.false ∙ no_slot c.args.key.now c.args.list.now c.told-key (λ i. (c.type_inv.list i).fits)
    (λ z. let f : true ≡ false = sym (c.all_zero.ensures.1 z) ∙ c.if-all_zero.false in absurd cc)
