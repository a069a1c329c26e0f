-- The line that verdict prints for a container's bytes (document 01, Container).
use Rattle.std.specs.Prelude.{List, [], ◌∷◌, ◌++◌, ℕ, leb, length, Result, Ok, Err}
use Rattle.words.specs.Choice.{pick}
use Rattle.text.specs.Ascii.{ascii}
use Rattle.text.specs.Decimal.{field_of}
use Rattle.words.specs.Refusals.{refusal}
use Rattle.words.specs.declared.refusal.Refusal.{Refusal}
use Rattle.container.specs.Reader.{read_of}
use Rattle.container_verify.specs.Verify.{verified_of}
use Rattle.container_verify.specs.Answers.{invalid_refusal}
use Rattle.container.specs.declared.reader.Layout.{Layout}
use Rattle.container_verify.specs.declared.verify.Invalid.{Invalid}

abbrev pub newline : List ℕ
newline = 10 ∷ []

-- "ok code=1 consts=0 entries=1"
unfoldable pub ok_line : Layout → List ℕ
ok_line l =
    ((field_of (ascii "ok code=") l.code ++ field_of (ascii " consts=") l.consts) ++ field_of (ascii " entries=") l.entries) ++ newline

-- "no 24 5": number and argument
unfoldable pub no_line : Refusal → List ℕ
no_line a = (field_of (ascii "no ") a.number ++ field_of (ascii " ") a.argument) ++ newline

unfoldable pub line_for : Result Layout Invalid → List ℕ
line_for (Ok l) = ok_line l
line_for (Err e) = no_line (invalid_refusal e)

-- more than 49152 bytes are 48
unfoldable pub line_of : List ℕ → List ℕ
line_of s = pick (leb (length s) 49152) (line_for (verified_of (read_of s))) (no_line (refusal 48 0))
