-- `words::divide::two_by_one` meets its contract: the power of two keeps the quotient. Assumes nothing.
use mathlib.Core.Path.{◌∙◌}
use Prim.Native.Nat.{◌^◌, ◌<◌}
use native.Mathlib.Nat.{lt_trans}
use native.Mathlib.Omega.{arith}
use lib.Pow.{pow_pos}
use lib.Count.{count_leading_zeros}
use mir.Facts.{Fits-bits}
use borrow.Author.Rules.{rules}
use Rattle.words.proofs.divide.Laws.{normal, Scaled, scaled, scaled_quotient}
use Rattle.words.proofs.divide.two_by_one.Goals as goal
use Rattle.words.proofs.divide.two_by_one.Goals.{After-shifted-p, Start}

few : (c : Start) → count_leading_zeros 64 c.args.v < 64
few c = (normal c.args.v (omega arith) (search rules)).0

facts : (c : After-shifted-p) → Scaled c.args.hi c.args.v (2 ^ count_leading_zeros 64 c.args.v) c.shifted-p.result
facts c =
    scaled c.args.hi c.args.lo c.args.v c.shifted-p.result c.requires (search rules) (search rules) c.shifted-p.ensures

pub overflow_add-hi : goal.overflow_add-hi
overflow_add-hi c = let f = facts c.before in rw f.upper (Fits-bits 64 tt (lt_trans f.top f.fits))

pub by_large-requires : goal.by_large-requires
by_large-requires c = let f = facts c.before in rw (f.upper, f.divisor) (f.large, f.top)

pub returns : goal.returns
returns c =
    let f = facts c.before.before in
    let a = c.args in
    let zeros = count_leading_zeros 64 a.v in
    rw (f.upper, f.divisor) at c.by_large.ensures
    ∙ scaled_quotient a.hi a.lo a.v (2 ^ zeros) c.shifted-p.result (pow_pos zeros) c.shifted-p.ensures

pub overflow_cast-s : goal.overflow_cast-s
overflow_cast-s c = omega (arith, few c)

pub shifted-p-requires : goal.shifted-p-requires
shifted-p-requires c = few c

pub overflow_shl-hi : goal.overflow_shl-hi
overflow_shl-hi c = few c.before

pub overflow_shl-v : goal.overflow_shl-v
overflow_shl-v c = few c.before.before
