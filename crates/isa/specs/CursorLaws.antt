-- What the proof of two reads through one Cursor cites. Assumes nothing.
use Rattle.std.specs.Prelude.{ℕ, ◌≡◌, List, Result}
use Rattle.std.proofs.Common.{ap, ◌∙◌}
use Rattle.std.specs.Borrow.{Bor}
use Rattle.isa.specs.declared.codec.ReadAt.{ReadAt}
use Rattle.isa.specs.declared.cursor.Cursor.{Cursor}
use Rattle.isa.specs.declared.cursor.TwoReads.{TwoReads}
use Rattle.isa.specs.Reads.{reads, byte_read, reg_read}
use Rattle.isa.specs.Cursor.{cursor_at, CursorReads, then_reg, byte_then_reg}
use Rattle.isa.specs.declared.codec.DecodeError.{DecodeError}

abbrev pub two_reads : Result ℕ DecodeError → Result ℕ DecodeError → ℕ → TwoReads
two_reads b r n = record { byte = b; reg = r; at = n }

pub two_reads_lem : (s : Bor (List ℕ)) (n : ℕ) (c d e : Cursor) (b r : Result ℕ DecodeError) → c ≡ cursor_at s n → CursorReads byte_read c d b → CursorReads reg_read d e r →
    two_reads b r e.at ≡ byte_then_reg s.now n
two_reads_lem s n c d e b r made first second =
    let held : d.code ≡ s = first.0 ∙ ap (λ (x : Cursor). x.code) made in
    let p : reads b d.at ≡ byte_read s.now n = first.1 ∙ ap (λ (x : Cursor). byte_read x.code.now x.at) made in
    let q : reads r e.at ≡ reg_read s.now d.at = second.1 ∙ ap (λ (x : Bor (List ℕ)). reg_read x.now d.at) held in
    ap (λ (x : ReadAt). two_reads b x.got x.at) q ∙ ap (then_reg s.now) p
