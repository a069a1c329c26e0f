-- verify, a function of the container alone (document 01, Container): sizes, the code, the targets, then entry by entry.
use Rattle.std.specs.Prelude.{List, [], ◌∷◌, ℕ, leb, length, Option, Some, None, Result, Ok, Err}
use Rattle.words.specs.Choice.{pick}
use Rattle.words.specs.Lists.{member}
use Rattle.container.specs.Container.{Entry, slot_count, Container}
use Rattle.container.specs.Reader.{Read, done, refused, layout_of}
use Rattle.starts.specs.Walk.{walk_of}
use Rattle.container_verify.specs.Targets.{bad_target}
use Rattle.container_verify.specs.declared.verify.VerifyError.{VerifyError}
use Rattle.container_verify.specs.declared.verify.VerifyError.TheVariants.{CodeTooLarge, ConstsTooLarge, EntriesTooLarge, UndecodableCode, ConstIndexOutOfRange, MisalignedTarget, EntryOffsetMisaligned, DuplicateSelector, AccessListTooLarge}
use Rattle.starts.specs.declared.scan_answers.ScanError.{ScanError}
use Rattle.container.specs.declared.reader.Layout.{Layout}
use Rattle.container_verify.specs.declared.verify.Invalid.{Invalid}

-- an entry: its selector is new, its offset an instruction start, its slots at most 4096
unfoldable pub entry_refusal : (seen starts : List ℕ) → Entry → Option VerifyError
entry_refusal seen starts e =
    pick (member e.selector seen) (Some (DuplicateSelector e.selector))
    (pick (member e.offset starts) (pick (leb (slot_count e) 4096) None (Some (AccessListTooLarge e.selector)))
    (Some (EntryOffsetMisaligned e.selector)))

unfoldable pub first_refusal : Option VerifyError → Option VerifyError → Option VerifyError
first_refusal (Some e) next = Some e
first_refusal None next = next

unfoldable pub entries_refusal : (seen starts : List ℕ) → List Entry → Option VerifyError
entries_refusal seen starts [] = None
entries_refusal seen starts (e ∷ es) = first_refusal (entry_refusal seen starts e) (entries_refusal (e.selector ∷ seen) starts es)

unfoldable pub target_refusal : Option ℕ → Option VerifyError
target_refusal None = None
target_refusal (Some t) = Some (MisalignedTarget t)

-- the code could not be read to its end
abbrev pub scan_refusal : ScanError → VerifyError
scan_refusal (ScanError.Undecodable place e) = UndecodableCode place e
scan_refusal (ScanError.BadConst k) = ConstIndexOutOfRange k

-- what the reading of the code ended with; if with its end, the targets, then the entries
unfoldable pub code_refusal : Result Unit ScanError → (starts : List ℕ) → Container → Option VerifyError
code_refusal (Err e) starts c = Some (scan_refusal e)
code_refusal (Ok tt) starts c =
    first_refusal (target_refusal (bad_target (length c.code) c.code starts 0)) (entries_refusal [] starts c.entries)

unfoldable pub verify_of : Container → Option VerifyError
verify_of c =
    let w = walk_of c.code (length c.consts) in
    pick (leb (length c.code) 65536)
    (pick (leb (length c.consts) 4096)
    (pick (leb (length c.entries) 256) (code_refusal w.end w.starts c) (Some EntriesTooLarge))
    (Some ConstsTooLarge))
    (Some CodeTooLarge)

-- bytes are read first (41 to 43)
unfoldable pub verified_by : Option VerifyError → Container → Result Layout Invalid
verified_by None c = Ok (layout_of c)
verified_by (Some e) c = Err (Invalid.Refused e)

unfoldable pub verified_of : Read → Result Layout Invalid
verified_of (refused e) = Err (Invalid.Unreadable e)
verified_of (done c) = verified_by (verify_of c) c
