-- What the writer answers and leaves in the output, from what the code finds. Assumes nothing.
use Rattle.std.specs.Prelude.{◌≡◌, refl, Bool, true, false, List, ℕ, ◌+◌, ◌*◌, ◌^◌, ◌≤◌, ◌<◌, ltb, length, Option, Some, None, Result, Ok, Err, is_some}
use Rattle.std.proofs.Common.{sym, ap, ◌∙◌, arith, take_all}
use borrow.Author.Tests.{ltb-true, ltb-false, le-ltb, lt-ltb, le-leb, lt-leb}
use Rattle.container.specs.Container.{Entry, Container}
use Rattle.container.specs.Canonical.{canonical}
use Rattle.container_writer.specs.Writer.{listed, with_code, to_write, written_of, writer_output_by, writer_output}
use Rattle.words.specs.Laid.{Laid}
use Rattle.words.specs.Lists.{nth}
use Rattle.container_writer.specs.WriterLaws.{listed_so}
use Rattle.container_writer.specs.WriterSizeLaws.{listed_size}
use Rattle.container_writer.specs.WriterParts.{or_empty, container_of}
use Rattle.container_writer.specs.declared.writer.WriteError.{WriteError}

-- no container to write
pub long_code : (code consts list : List ℕ) → 2 ^ 32 ≤ length code → to_write code consts list ≡ None
unfolding to_write
long_code code consts list h = rw (le-ltb (length code) (2 ^ 32) h)

pub long_consts : (code consts list : List ℕ) → length code < 2 ^ 32 → 2 ^ 32 ≤ length consts → to_write code consts list ≡ None
unfolding to_write
long_consts code consts list h k = rw (lt-ltb (length code) (2 ^ 32) h, le-ltb (length consts) (2 ^ 32) k)

with_code_lem : (code consts : List ℕ) (o : Option (List Entry)) → is_some o ≡ true →
    with_code code consts o ≡ Some (record { code = code; consts = consts; entries = or_empty o })
unfolding with_code
with_code_lem code consts None s = let z : ◌≡◌ {A = ℕ} 0 1 = cc in absurd (omega arith)
with_code_lem code consts (Some es) s = refl

with_none : (code consts : List ℕ) (o : Option (List Entry)) → is_some o ≡ false → with_code code consts o ≡ None
unfolding with_code
with_none code consts None s = refl
with_none code consts (Some es) s = let z : ◌≡◌ {A = ℕ} 0 1 = cc in absurd (omega arith)

module _ (code consts list : List ℕ) (h : length code < 2 ^ 32) (k : length consts < 2 ^ 32) where
  pub no_list : is_some (listed list) ≡ false → to_write code consts list ≡ None
  unfolding to_write
  no_list s = rw (lt-ltb (length code) (2 ^ 32) h, lt-ltb (length consts) (2 ^ 32) k) (with_none code consts (listed list) s)

  -- the container to write
  pub a_list : is_some (listed list) ≡ true → to_write code consts list ≡ Some (container_of code consts list)
  unfolding to_write
  a_list s = rw (lt-ltb (length code) (2 ^ 32) h, lt-ltb (length consts) (2 ^ 32) k) (with_code_lem code consts (listed list) s)

-- and where there is one, it is that of the list
pub record ListSound (code consts list : List ℕ) (c : Container) : Type 0 where
  pub short_code : length code < 2 ^ 32
  pub short_consts : length consts < 2 ^ 32
  pub lists : is_some (listed list) ≡ true
  pub is : c ≡ container_of code consts list

pub sound : (code consts list : List ℕ) (c : Container) → to_write code consts list ≡ Some c → ListSound code consts list c
sound code consts list c e = by (ltb (length code) (2 ^ 32)) (ltb (length consts) (2 ^ 32)) (is_some (listed list)) refl refl refl
  where
    never : to_write code consts list ≡ None → ⊥
    never n = let z : None ≡ Some c = sym n ∙ e in let w : ◌≡◌ {A = ℕ} 0 1 = cc in omega arith

    by : (x y z : Bool) → ltb (length code) (2 ^ 32) ≡ x → ltb (length consts) (2 ^ 32) ≡ y → is_some (listed list) ≡ z → ListSound code consts list c
    by false y z p q r = absurd (never (long_code code consts list (ltb-false (length code) (2 ^ 32) p)))
    by true false z p q r = absurd (never (long_consts code consts list (ltb-true (length code) (2 ^ 32) p) (ltb-false (length consts) (2 ^ 32) q)))
    by true true false p q r = absurd (never (no_list code consts list (ltb-true (length code) (2 ^ 32) p) (ltb-true (length consts) (2 ^ 32) q) r))
    by true true true p q r =
        let h = ltb-true (length code) (2 ^ 32) p in
        let k = ltb-true (length consts) (2 ^ 32) q in
        let s : Some c ≡ Some (container_of code consts list) = sym e ∙ a_list code consts list h k r in
        record { short_code = h; short_consts = k; lists = r; is = cc }

-- an answer with the output that goes with it
abbrev pub WriteAnswers : Option Container → (out : List ℕ) → Result ℕ WriteError → List ℕ → Type 0
WriteAnswers o out r e = (r ≡ written_of o out) × (e ≡ writer_output o out)

pub answer_refused : (o : Option Container) (out : List ℕ) → o ≡ None → WriteAnswers o out (Err WriteError.BadList) out
unfolding written_of writer_output writer_output_by
answer_refused o out e = rw e (refl, refl)

pub no_room : (o : Option Container) (out : List ℕ) (c : Container) → o ≡ Some c → length out < length (canonical c) → WriteAnswers o out (Err WriteError.NoRoom) out
unfolding written_of writer_output writer_output_by
no_room o out c e h = rw (e, lt-leb (length (canonical c)) (length out) h) (refl, refl)

pub written_done : (o : Option Container) (out : List ℕ) (c : Container) → o ≡ Some c → length (canonical c) ≤ length out →
    written_of o out ≡ Ok (length (canonical c))
unfolding written_of
written_done o out c e h = rw (e, le-leb (length (canonical c)) (length out) h)

pub answer_done : (o : Option Container) (out v : List ℕ) (c : Container) (r : ℕ) → o ≡ Some c → length (canonical c) ≤ length out →
    Laid out 0 (canonical c) v r → WriteAnswers o out (Ok r) v
unfolding writer_output writer_output_by
answer_done o out v c r e h l =
    let w = written_done o out c e h in
    let n : r ≡ length (canonical c) = omega (arith, l.end) in
    let z : 0 + length (canonical c) ≡ length (canonical c) = omega arith in
    (ap Ok n ∙ sym w, rw (w, e) (l.is ∙ rw (z, take_all (length (canonical c)) (canonical c) (omega arith))))

-- the clauses of the answer and of the output, apart
module _ (o : Option Container) (out : List ℕ) where
  pub bad_answer : o ≡ None → Err WriteError.BadList ≡ written_of o out
  bad_answer e = (answer_refused o out e).0

  pub bad_output : o ≡ None → out ≡ writer_output o out
  bad_output e = (answer_refused o out e).1

-- a list that is one: its first number, and whether there is room for its container
module _ (code consts list : List ℕ) (s : is_some (listed list) ≡ true) where
  pub first_stands : 0 < length list
  first_stands = (listed_so list s).stands

  pub first_small : nth list 0 < 2 ^ 32
  first_small = (listed_so list s).small

  pub first_fits : nth list 0 * 24 ≤ 8 + length code + length consts * 8 + length list * 8
  first_fits = omega (arith, listed_size code consts list s)

  module _ (out : List ℕ) (h : length code < 2 ^ 32) (k : length consts < 2 ^ 32) where
    pub short_answer : length out < length (canonical (container_of code consts list)) → Err WriteError.NoRoom ≡ written_of (to_write code consts list) out
    short_answer l = (no_room (to_write code consts list) out (container_of code consts list) (a_list code consts list h k s) l).0

    pub short_output : length out < length (canonical (container_of code consts list)) → out ≡ writer_output (to_write code consts list) out
    short_output l = (no_room (to_write code consts list) out (container_of code consts list) (a_list code consts list h k s) l).1

    pub answer_laid : length (canonical (container_of code consts list)) ≤ length out → (v : List ℕ) (r : ℕ) → Laid out 0 (canonical (container_of code consts list)) v r →
        WriteAnswers (to_write code consts list) out (Ok r) v
    answer_laid l v r d = answer_done (to_write code consts list) out v (container_of code consts list) r (a_list code consts list h k s) l d

pub ruleset write_laws = (long_code, long_consts, no_list, bad_answer, bad_output, first_stands, first_small, first_fits, listed_size, short_answer, short_output)
