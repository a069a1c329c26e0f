-- `replies::reply::good` meets its contract: at each `&&` the tests so far. Assumes nothing.
use Rattle.std.specs.Prelude.{◌≡◌, Bool, ◌+◌, ◌≤◌, drop, leb}
use Rattle.std.proofs.Common.{sym, ap, ◌∙◌, arith, le-leb, eq-eqb, ne_eqb}
use Rattle.std.proofs.lemmas.Bool.{lt-leb}
use Rattle.words.specs.BytesLaws.{rest}
use Rattle.words.specs.Choice.{both}
use Rattle.words.specs.ChoiceLaws.{both_right}
use Rattle.replies.specs.Reply.{zeros, good_register, good_region, good_reply}
use Rattle.replies.specs.Walks.{after_zeros}
use Rattle.replies.specs.ReplyLaws.{good_told, region_length}
use Rattle.replies.proofs.reply.good.Goals as goal
use Rattle.replies.proofs.reply.good.Goals.{
  Joined-r-le14,
  Joined-register_fits,
  Joined-region_fits,
  Then-region_fits,
  then-r-le14,
  else-r-le14,
  then-register_fits,
  else-register_fits,
  then-region_fits,
  else-region_fits,
}

first : (c : Joined-r-le14) → let r = c.parse-r.result in c.if-r-le14.value ≡ both (leb r.outcome 14) (good_register r.register r.value)
first c = elim c.if-r-le14.branch [
  | then-r-le14 w ↦ rw (le-leb c.parse-r.result.outcome 14 w.if-r-le14.true) (w.value-is ∙ w.register_fits.ensures)
  | else-r-le14 w ↦ let e = lt-leb c.parse-r.result.outcome 14 w.if-r-le14.false in rw e (w.value-is ∙ e)
]

second : (c : Joined-register_fits) → let r = c.parse-r.result in c.if-register_fits.value ≡ both c.if-r-le14.value (good_region r.length r.offset)
second c =
    let more = λ (b : Bool). both b (good_region c.parse-r.result.length c.parse-r.result.offset) in
    elim c.if-register_fits.branch [
      | then-register_fits w ↦ w.value-is ∙ w.region_fits.ensures ∙ ap more (sym w.if-register_fits.true)
      | else-register_fits w ↦ w.value-is ∙ w.if-register_fits.false ∙ ap more (sym w.if-register_fits.false)
    ]

third : (c : Joined-region_fits) → c.if-region_fits.value ≡ both c.if-register_fits.value (zeros (drop (c.parse-r.result.length + 15) c.args.row.now))
third c =
    let more = λ (b : Bool). both b (zeros (drop (c.parse-r.result.length + 15) c.args.row.now)) in
    elim c.if-region_fits.branch [
      | then-region_fits w ↦ w.value-is ∙ w.all_zero.ensures ∙ ap zeros (rest _ c.args.row.now) ∙ ap more (sym w.if-region_fits.true)
      | else-region_fits w ↦ w.value-is ∙ w.if-region_fits.false ∙ ap more (sym w.if-region_fits.false)
    ]

told : (c : Joined-region_fits) → good_reply c.args.row.now ≡ both c.if-region_fits.value (after_zeros c.args.row.now c.parse-r.result)
told c =
    let r = c.parse-r.result in
    rw (third c, second (goal.at-Joined-region_fits c).Joined-register_fits, first (goal.at-Joined-region_fits c).Joined-r-le14)
    (good_told c.args.row.now r c.requires c.parse-r.ensures)

-- a region that fits is short
short : (c : Then-region_fits) → c.parse-r.result.length ≤ 32
short c =
    region_length _ c.parse-r.result.offset
    (both_right c.if-r-le14.value _ (sym (second (goal.at-Then-region_fits c).Joined-register_fits) ∙ c.if-region_fits.true))

pub overflow_add-r : goal.overflow_add-r
overflow_add-r c = omega (arith, short (goal.at-overflow_add-r c).Then-region_fits)

pub slice_bounds-all_zero-count : goal.slice_bounds-all_zero-count
slice_bounds-all_zero-count c = omega (arith, short (goal.at-slice_bounds-all_zero-count c).Then-region_fits)

pub slice_bounds-all_zero-start : goal.slice_bounds-all_zero-start
slice_bounds-all_zero-start c = omega (arith, short (goal.at-slice_bounds-all_zero-start c).Then-region_fits)

pub returns-then-r-eq0 : goal.returns-then-r-eq0
returns-then-r-eq0 c =
    let e = eq-eqb _ 0 c.if-r-eq0.true in
    e ∙ sym (told (goal.at-returns-then-r-eq0 c).Joined-region_fits ∙ rw (c.if-all_zero.true, e))

pub returns-then-r : goal.returns-then-r
returns-then-r c =
    c.all_zero-then-r.ensures ∙ ap zeros (rest 2 c.args.row.now)
    ∙ sym (told (goal.at-returns-then-r c).Joined-region_fits ∙ rw (c.if-all_zero.true, ne_eqb _ 0 c.if-r-eq0.false, eq-eqb _ 255 c.if-r.true))

pub returns-else-r : goal.returns-else-r
returns-else-r c =
    let e = ne_eqb _ 255 c.if-r.false in
    e ∙ sym (told (goal.at-returns-else-r c).Joined-region_fits ∙ rw (c.if-all_zero.true, ne_eqb _ 0 c.if-r-eq0.false, e))

pub returns-else-all_zero : goal.returns-else-all_zero
returns-else-all_zero c = c.if-all_zero.false ∙ sym (told (goal.at-returns-else-all_zero c).Joined-region_fits ∙ rw c.if-all_zero.false)
