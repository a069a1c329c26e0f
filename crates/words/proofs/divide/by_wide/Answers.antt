-- `words::divide::by_wide` meets its contract: the quotient of the upper words is an estimate. Assumes nothing.
use Prim.Native.Nat.{◌/◌, ◌^◌, ◌≤◌, ◌<◌}
use native.Mathlib.Omega.{arith}
use lib.Count.{count_leading_zeros}
use borrow.Author.Rules.{rules}
use Rattle.words.specs.Wide.{wide}
use Rattle.words.proofs.Words.{Estimate}
use Rattle.words.proofs.divide.Laws.{normal, by_upper}
use Rattle.words.proofs.divide.by_wide.Goals as goal
use Rattle.words.proofs.divide.by_wide.Goals.{After-upper-u, Start}

few : (c : Start) → count_leading_zeros 64 c.args.d.hi < 64
few c = (normal c.args.d.hi c.requires (search rules)).0

-- what the upper words of n and d give
uppers : (c : After-upper-u) → let u = c.upper-u.result in let v = c.upper-v.result in let a = c.args in
    (2 ^ 32 ≤ v.lo) × (u.hi < v.lo) × (Estimate a.n a.d (wide u / v.lo))
uppers c =
    let v = c.upper-v in
    by_upper c.args.n c.args.d c.upper-u.result v.result c.requires
    (search rules) (search rules) (search rules) (search rules) c.upper-u.ensures v.ensures

pub by_large-requires : goal.by_large-requires
by_large-requires c = let h = uppers c in (h.0, h.1)

pub descend-requires : goal.descend-requires
descend-requires c = rw c.by_large.ensures (uppers c.before).2

pub overflow_cast-s : goal.overflow_cast-s
overflow_cast-s c = omega (arith, few c.before)

pub upper-v-requires : goal.upper-v-requires
upper-v-requires c = few c.before

pub upper-u-requires : goal.upper-u-requires
upper-u-requires c = few c.before.before
