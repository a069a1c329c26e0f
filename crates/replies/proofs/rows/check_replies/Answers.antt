-- `replies::rows::check_replies` meets its contract: the rows that are left decide. Assumes nothing.
use Rattle.std.specs.Prelude.{Some, None, Bool, true, false, ℕ}
use Rattle.std.proofs.Common.{sym, ◌∙◌, arith}
use Rattle.words.specs.WholeLaws.{whole_rows, whole_part}
use Rattle.replies.specs.Replies.{good_replies, replies_of}
use Rattle.replies.specs.RepliesLaws.{replies_on, replies_stop, replies_end}
use Rattle.replies.proofs.rows.check_replies.Goals as goal
use Rattle.replies.proofs.rows.check_replies.Goals.{Start}

-- the first n rows are good
abbrev test : Start → ℕ → Bool
test s n = good_replies n s.args.s.now

pub returns-then-s-ne0 : goal.returns-then-s-ne0
unfolding replies_of
returns-then-s-ne0 c = whole_part (test (goal.at-returns-then-s-ne0 c).Start) Some None _ 48 c.if-s-ne0.true

pub returns-then-not-good : goal.returns-then-not-good
unfolding replies_of
returns-then-not-good c =
    let (cut, size) = c.in-Some.ensures.steps.1 in
    let stop = replies_stop _ _ _ cut (size ∙ c.loop-row.invariant.size) c.if-not-good.ensures in
    whole_rows (test (goal.at-returns-then-not-good c).Start) Some None _ 48 c.if-s-ne0.false false (sym (c.loop-row.invariant.left ∙ stop))

pub loop-row-preserved : goal.loop-row-preserved
loop-row-preserved c =
    let (cut, size) = c.in-Some.ensures.steps.1 in
    record {
      size = c.in-Some.ensures.steps.0 ∙ c.loop-row.invariant.size;
      left = c.loop-row.invariant.left ∙ replies_on _ _ _ cut (size ∙ c.loop-row.invariant.size) c.if-not-good.ensures;
    }

pub returns : goal.returns
unfolding replies_of
returns c =
    let end = replies_end _ (omega (arith, c.in-None.ensures.steps.1.0, c.loop-row.invariant.size)) in
    whole_rows (test (goal.at-returns c).Start) Some None _ 48 c.if-s-ne0.false true (sym (c.loop-row.invariant.left ∙ end))
