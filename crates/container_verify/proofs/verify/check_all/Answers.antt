-- `check_all` meets its contract, a law for each size. Assumes nothing.
use mathlib.Core.Path.{◌∙◌}
use Rattle.container_verify.specs.VerifyLaws.{large_code, many_consts, many_entries, within_sizes, code_small}
use Rattle.container_verify.proofs.verify.check_all.Goals as goal

pub returns-then-l-gt-MAX_CODE : goal.returns-then-l-gt-MAX_CODE
returns-then-l-gt-MAX_CODE c = λ x a. large_code _ _ _ x a c.if-l-gt-MAX_CODE.true

pub returns-then-l-gt-MAX_CONSTS : goal.returns-then-l-gt-MAX_CONSTS
returns-then-l-gt-MAX_CONSTS c = λ x a. many_consts _ _ _ x a c.if-l-gt-MAX_CODE.false c.if-l-gt-MAX_CONSTS.true

pub returns-then-l-gt-MAX_ENTRIES : goal.returns-then-l-gt-MAX_ENTRIES
returns-then-l-gt-MAX_ENTRIES c =
    λ x a. many_entries _ _ _ x a c.if-l-gt-MAX_CODE.false c.if-l-gt-MAX_CONSTS.false c.if-l-gt-MAX_ENTRIES.true

pub returns : goal.returns
returns c =
    λ x a. c.check_code.ensures x a (code_small _ _ _ x a c.if-l-gt-MAX_CODE.false)
    ∙ within_sizes _ _ _ x a c.if-l-gt-MAX_CODE.false c.if-l-gt-MAX_CONSTS.false c.if-l-gt-MAX_ENTRIES.false
