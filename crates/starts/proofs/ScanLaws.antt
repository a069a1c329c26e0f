-- A turn of the reading of the code, and what it leaves in the map. Assumes nothing.
use Rattle.std.specs.Prelude.{◌≡◌, refl, Bool, true, false, ℕ, ◌+◌, ◌-◌, ◌≤◌, ◌<◌, eqb, ltb, Result, Ok, Err}
use Rattle.std.proofs.Common.{sym, ◌∙◌, arith, length-set}
use Rattle.std.proofs.Math.Path.{ap}
use mathlib.Core.List.{List, [], ◌∷◌}
use Rattle.std.proofs.Math.Nat.{sub-zero}
use Rattle.std.proofs.Math.ListN.{length}
use Rattle.words.specs.Choice.{pick, either}
use Rattle.words.specs.Lists.{member}
use Rattle.isa.specs.Codec.{decode_at}
use Rattle.isa.specs.declared.instr.Instr.{Instr}
use Rattle.isa.specs.declared.codec.DecodeError.{DecodeError}
use Rattle.starts.specs.Walk.{Walk, ended, met, unless_bad, walk_by, walk, walk_of, index_of}
use Rattle.isa.specs.Refers.{refers_to}
use Rattle.starts.specs.Marks.{marked, mark_in, Marks}
use Rattle.starts.specs.MarkLaws.{mark_at}
use Rattle.starts.specs.SweepLaws.{Sweep, at_end, on}
use Rattle.isa.specs.declared.flow.Refers.{Refers}
use Rattle.isa.specs.declared.flow.Refers.TheVariants.{Const, Target, Nothing}
use Rattle.starts.specs.declared.scan_answers.ScanError.TheVariants as ScanError

-- from a place on, with as many turns as bytes are left
abbrev pub walk_from : (code : List ℕ) (consts place : ℕ) → Walk
walk_from code consts place = walk (length code - place) code consts place

walks : (code : List ℕ) (consts : ℕ) → Sweep code (ended (Ok tt)) (λ p d k. walk_by d consts p k) (λ t p. walk t code consts p)
unfolding walk walk_by
walks code consts = record {
  none = λ p. refl;
  turn = λ t p. refl;
  here = λ p e k l. refl;
  next = λ p i n k l h. rw h;
}

pub from_start : (code : List ℕ) (consts : ℕ) → walk_of code consts ≡ walk_from code consts 0
unfolding walk_of
from_start code consts = rw sub-zero

unless_within : (r : Refers) (consts : ℕ) (w : Walk) → index_of r consts ≡ Ok tt → unless_bad r consts w ≡ w
unfolding index_of unless_bad
unless_within (Const k) consts w h = by (ltb k consts) h
  where
    by : (t : Bool) → pick {A = Result Unit ℕ} t (Ok tt) (Err k) ≡ Ok tt → pick t w (ended (Err (ScanError.BadConst k))) ≡ w
    by true h = refl
    by false h = absurd (let z : ◌≡◌ {A = ℕ} 0 1 = cc in omega arith)
unless_within (Target t) consts w h = refl
unless_within Nothing consts w h = refl

unless_bad_lem : (r : Refers) (consts k : ℕ) (w : Walk) → index_of r consts ≡ Err k → unless_bad r consts w ≡ ended (Err (ScanError.BadConst k))
unfolding index_of unless_bad
unless_bad_lem (Const j) consts k w h = by (ltb j consts) h
  where
    by : (t : Bool) → pick {A = Result Unit ℕ} t (Ok tt) (Err j) ≡ Err k → pick t w (ended (Err (ScanError.BadConst j))) ≡ ended (Err (ScanError.BadConst k))
    by true h = absurd (let z : ◌≡◌ {A = ℕ} 0 1 = cc in omega arith)
    by false h = let e : j ≡ k = cc in rw e
unless_bad_lem (Target t) consts k w h = absurd (let z : ◌≡◌ {A = ℕ} 0 1 = cc in omega arith)
unless_bad_lem Nothing consts k w h = absurd (let z : ◌≡◌ {A = ℕ} 0 1 = cc in omega arith)

module _ (code : List ℕ) (consts place : ℕ) where
  pub walk_end : length code ≤ place → walk_from code consts place ≡ ended (Ok tt)
  walk_end h = at_end code (ended (Ok tt)) _ _ (walks code consts) place h

  module _ (h : place < length code) where
    by_decode : walk_from code consts place ≡ walk_by (decode_at code place) consts place (λ q. walk_from code consts q)
    by_decode = on code (ended (Ok tt)) _ _ (walks code consts) place h

    pub walk_refused : (e : DecodeError) → decode_at code place ≡ Err e → walk_from code consts place ≡ ended (Err (ScanError.Undecodable place e))
    unfolding walk_by
    walk_refused e d = by_decode ∙ rw d

    module _ (i : Instr) (n : ℕ) (d : decode_at code place ≡ Ok (i, n)) where
      pub walk_bad : (k : ℕ) → index_of (refers_to i) consts ≡ Err k → walk_from code consts place ≡ met place (ended (Err (ScanError.BadConst k)))
      unfolding walk_by
      walk_bad k b = by_decode ∙ rw (d, unless_bad_lem (refers_to i) consts k (walk_from code consts (place + n)) b)

      pub walk_on : index_of (refers_to i) consts ≡ Ok tt → walk_from code consts place ≡ met place (walk_from code consts (place + n))
      unfolding walk_by
      walk_on b = by_decode ∙ rw (d, unless_within (refers_to i) consts (walk_from code consts (place + n)) b)

-- ---- the map

pub marks_none : (map : List ℕ) → Marks map [] map
unfolding member
marks_none map = record { size = refl; at = λ p h. refl }

pub length_mark : (map : List ℕ) (p : ℕ) → length (mark_in map p) ≡ length map
unfolding mark_in
length_mark map p = simp length-set

pub marks_more : (map : List ℕ) (place : ℕ) (ws after : List ℕ) → Marks (mark_in map place) ws after → Marks map (place ∷ ws) after
unfolding member
marks_more map place ws after m =
    let l : length (mark_in map place) ≡ length map = length_mark map place in
    record { size = m.size ∙ l; at = λ p h. m.at p (rw l h) ∙ rw (mark_at map place p h) (swap (eqb place p) (member p ws) (marked map p)) }
  where
    swap : (a b c : Bool) → either b (either a c) ≡ either (either a b) c
    swap true true c = refl
    swap true false c = refl
    swap false true c = refl
    swap false false c = refl

-- what is left of the reading decides: its end, and what a map comes to
pub record Scanning (code : List ℕ) (consts : ℕ) (start : List ℕ) (place : ℕ) (map : List ℕ) : Type 0 where
  pub end : (walk_of code consts).end ≡ (walk_from code consts place).end
  pub finish : (after : List ℕ) → Marks map (walk_from code consts place).starts after → Marks start (walk_of code consts).starts after
  pub size : length map ≡ length start

pub scan_begins : (code : List ℕ) (consts : ℕ) (map : List ℕ) → Scanning code consts map 0 map
scan_begins code consts map =
    let e = from_start code consts in
    record { end = ap (λ (w : Walk). w.end) e; finish = λ after m. rw e m; size = refl }

-- a reading that ends as it was answered, with its starts marked
abbrev pub Scanned : (code : List ℕ) (consts : ℕ) (start : List ℕ) → Walk → (after : List ℕ) → Type 0
Scanned code consts start w after = (w.end ≡ (walk_of code consts).end) × Marks start (walk_of code consts).starts after

module _ (code : List ℕ) (consts : ℕ) (start : List ℕ) (place : ℕ) (map : List ℕ) (i : Scanning code consts start place map) where
  stopped : (w : Walk) → walk_from code consts place ≡ w → (after : List ℕ) → Marks map w.starts after → Scanned code consts start w after
  stopped w e after m = (sym (i.end ∙ ap (λ (w : Walk). w.end) e), i.finish after (rw e m))

  pub scan_end : length code ≤ place → Scanned code consts start (ended (Ok tt)) map
  unfolding ended
  scan_end h = stopped (ended (Ok tt)) (walk_end code consts place h) map (marks_none map)

  module _ (h : place < length code) where
    pub scan_refused : (e : DecodeError) → decode_at code place ≡ Err e → Scanned code consts start (ended (Err (ScanError.Undecodable place e))) map
    unfolding ended
    scan_refused e d = stopped (ended (Err (ScanError.Undecodable place e))) (walk_refused code consts place h e d) map (marks_none map)

    module _ (x : Instr) (n : ℕ) (d : decode_at code place ≡ Ok (x, n)) (after : List ℕ) (m : after ≡ mark_in map place) where
      pub scan_bad : (k : ℕ) → index_of (refers_to x) consts ≡ Err k → Scanned code consts start (met place (ended (Err (ScanError.BadConst k)))) after
      unfolding ended met
      scan_bad k b =
          stopped (met place (ended (Err (ScanError.BadConst k)))) (walk_bad code consts place h x n d k b) after
          (marks_more map place [] after (rw (← m) (marks_none after)))

      pub scan_on : index_of (refers_to x) consts ≡ Ok tt → Scanning code consts start (place + n) after
      unfolding met
      scan_on b =
          let e = walk_on code consts place h x n d b in
          record {
            end = i.end ∙ ap (λ (w : Walk). w.end) e;
            finish = λ last k. i.finish last (rw e (marks_more map place (walk_from code consts (place + n)).starts last (rw (← m) k)));
            size = ap length m ∙ length_mark map place ∙ i.size;
          }
