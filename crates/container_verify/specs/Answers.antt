-- Document 01's number and argument for each case of verify's answers (Numbers returned); 0 0 when done.
use Rattle.std.specs.Prelude.{Result, Ok, Err}
use Rattle.words.specs.Refusals.{refusal}
use Rattle.words.specs.declared.refusal.Refusal.{Refusal}
use Rattle.container_verify.specs.declared.verify.VerifyError.{VerifyError}
use Rattle.container_verify.specs.declared.verify.VerifyError.TheVariants as verify
use Rattle.container.specs.Answers.{read_error}
use Rattle.container.specs.declared.reader.Layout.{Layout}
use Rattle.container_verify.specs.declared.verify.Invalid.{Invalid}

-- selectors as numbers
abbrev pub verify_error : VerifyError → Refusal
verify_error verify.CodeTooLarge = refusal 21 0
verify_error verify.ConstsTooLarge = refusal 22 0
verify_error verify.EntriesTooLarge = refusal 23 0
verify_error (verify.UndecodableCode place e) = refusal 24 place
verify_error (verify.ConstIndexOutOfRange index) = refusal 25 index
verify_error (verify.MisalignedTarget target) = refusal 26 target
verify_error (verify.EntryOffsetMisaligned selector) = refusal 27 selector
verify_error (verify.DuplicateSelector selector) = refusal 28 selector
verify_error (verify.AccessListTooLarge selector) = refusal 29 selector

abbrev pub invalid_refusal : Invalid → Refusal
invalid_refusal (Invalid.Unreadable e) = read_error e
invalid_refusal (Invalid.Refused e) = verify_error e

abbrev pub verified_answer : Result Layout Invalid → Refusal
verified_answer (Ok l) = refusal 0 0
verified_answer (Err e) = invalid_refusal e
