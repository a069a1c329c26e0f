-- Verdict's lines from their pieces, and which one a container gets. Assumes nothing.
use Rattle.std.specs.Prelude.{◌≡◌, List, ℕ, ◌≤◌, ◌<◌, length, Result}
use Rattle.std.proofs.Common.{arith, le-leb}
use Rattle.text.specs.Ascii.{ascii}
use Rattle.text.specs.Decimal.{field_of}
use Rattle.text.specs.LaidLaws.{field_room, laid_next}
use Rattle.words.specs.Laid.{Laid}
use Rattle.std.proofs.lemmas.Bool.{lt-leb}
use Rattle.words.specs.Refusals.{refusal}
use Rattle.words.specs.declared.refusal.Refusal.{Refusal}
use Rattle.container.specs.Reader.{read_of}
use Rattle.container_verify.specs.Verify.{verified_of}
use Rattle.container.specs.declared.reader.Layout.{Layout}
use Rattle.lines.specs.VerdictLine.{newline, ok_line, no_line, line_for, line_of}
use Rattle.container_verify.specs.declared.verify.Invalid.{Invalid}

pub no_laid : (d u v w : List ℕ) (a : Refusal) (r s t : ℕ) → 96 ≤ length d → Laid d 0 (field_of (ascii "no ") a.number) u r →
    Laid u r (field_of (ascii " ") a.argument) v s → Laid v s newline w t → Laid d 0 (no_line a) w t
unfolding no_line ascii
no_laid d u v w a r s t h x y z =
    let last : s ≤ 44 = omega (arith, field_room d u (ascii "no ") 0 a.number r x, field_room u v (ascii " ") r a.argument s y) in
    laid_next (omega (arith, z.end)) (laid_next (omega arith) x y) z

pub ok_laid : (d u v w e : List ℕ) (l : Layout) (r s t q : ℕ) → 96 ≤ length d → Laid d 0 (field_of (ascii "ok code=") l.code) u r →
    Laid u r (field_of (ascii " consts=") l.consts) v s → Laid v s (field_of (ascii " entries=") l.entries) w t → Laid w t newline e q →
    Laid d 0 (ok_line l) e q
unfolding ok_line ascii
ok_laid d u v w e l r s t q h x y z end =
    let second : s ≤ 56 = omega (arith, field_room d u (ascii "ok code=") 0 l.code r x, field_room u v (ascii " consts=") r l.consts s y) in
    let third : t ≤ 85 = omega (arith, second, field_room v w (ascii " entries=") s l.entries t z) in
    laid_next (omega (arith, end.end)) (laid_next (omega arith) (laid_next (omega arith) x y) z) end

-- what is too long has the line of 48
pub long_is : (s : List ℕ) → 49152 < length s → line_of s ≡ no_line (refusal 48 0)
unfolding line_of
long_is s h = rw (lt-leb (length s) 49152 h)

module _ (d u : List ℕ) (r : ℕ) where
  pub line_short : (s : List ℕ) (v : Result Layout Invalid) → length s ≤ 49152 → v ≡ verified_of (read_of s) →
      Laid d 0 (line_for v) u r → Laid d 0 (line_of s) u r
  unfolding line_of
  line_short s v h e x = rw (le-leb (length s) 49152 h, ← e) x
