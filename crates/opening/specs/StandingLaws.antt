-- Where the words of a container that was read stand in its bytes. Assumes nothing.
use Rattle.std.specs.Prelude.{◌≡◌, refl, List, ℕ, ◌+◌, ◌*◌, ◌≤◌, ◌<◌, length, drop}
use Rattle.std.proofs.Common.{sym, ap, subst, ◌∙◌, arith}
use Rattle.words.specs.Bytes.{Bytes, words_of}
use Rattle.isa.specs.DecodeLaws.{read_within}
use Rattle.container.specs.Container.{Entry}
use Rattle.container.specs.Reader.{Parsed, read, and_then, part, number, counted, entry, layout_of}
use Rattle.container.specs.Entries.{placed}
use Rattle.words.specs.BytesLaws.{length_words}
use Rattle.container.specs.EntryLaws.{lists, head}
use Rattle.container.specs.EntryToldLaws.{both_read, after, counted_told, entry_told, EntryFound}
use Rattle.container.specs.ReadToldLaws.{number_told, part_told, ReadTold}
use Rattle.container.specs.declared.reader.Layout.{Layout}
use Rattle.container.specs.declared.entries.EntryLayout.{EntryLayout}
use Rattle.opening.specs.Opened.{Standing, Listed}

-- a counted list's words stand after its count
standing : (s : List ℕ) (at : ℕ) (ws t : List ℕ) → counted (drop at s) ≡ read ws t → Standing s (at + 4) (length ws) ws
unfolding counted
standing s at ws t h =
    let x = both_read (number 4 (drop at s)) _ ws t h in
    let c = number_told s at 4 x.first x.rest x.is in
    let n = x.first in
    let y = both_read (part (n * 8) x.rest) _ ws t x.then in
    let p = part_told s (at + 4) (n * 8) y.first y.rest (ap (part (n * 8)) (sym c.rest) ∙ y.is) in
    let e = y.then in
    let w : words_of n y.first ≡ ws = cc in
    let l : length ws ≡ n = ap length (sym w) ∙ length_words n y.first in
    record { within = omega (arith, l, p.room, c.room); are = rw (l, ← p.bytes) w }

-- a list, then the rest read from the place after it
pub record ListTold {B : Type 0} (s : List ℕ) (at : ℕ) (f : List ℕ → List ℕ → Parsed B) (b : B) (t : List ℕ) : Type 0 where
  pub words : List ℕ
  pub stand : Standing s (at + 4) (length words) words
  pub then : f words (drop (after at words) s) ≡ read b t

list_told : {B : Type 0} (s : List ℕ) (at : ℕ) (f : List ℕ → List ℕ → Parsed B) (b : B) (t : List ℕ) → and_then (counted (drop at s)) f ≡ read b t →
    ListTold s at f b t
list_told s at f b t h =
    let x = both_read (counted (drop at s)) f b t h in
    record { words = x.first; stand = standing s at x.first x.rest x.is; then = rw (counted_told s at x.first x.rest x.is).0 at x.then }

-- the lists of an entry, and its offset
pub record EntryStands (s : List ℕ) (e : Entry) (l : EntryLayout) : Type 0 where
  pub reads : Listed s l.reads e.reads
  pub writes : Listed s l.writes e.writes
  pub keyed_reads : Listed s l.keyed_reads e.keyed_reads
  pub keyed_writes : Listed s l.keyed_writes e.keyed_writes
  pub offset : e.offset < 4294967296

lists_placed : (s : List ℕ) (at sel off : ℕ) (e : Entry) (t : List ℕ) → off < 4294967296 → lists sel off (drop (at + 8) s) ≡ read e t →
    EntryStands s e (placed at e)
unfolding placed
lists_placed s at sel off e t small h =
    let r = list_told s (at + 8) _ e t h in
    let w = list_told s (after (at + 8) r.words) _ e t r.then in
    let kr = list_told s (after (after (at + 8) r.words) w.words) _ e t w.then in
    let last = after (after (after (at + 8) r.words) w.words) kr.words in
    let kw = list_told s last _ e t kr.then in
    stand r.words w.words kr.words kw.words (drop (after last kw.words) s) r.stand w.stand kr.stand kw.stand kw.then
  where
    stand : (r w kr kw u : List ℕ) → Standing s (at + 8 + 4) (length r) r → Standing s (after (at + 8) r + 4) (length w) w →
        Standing s (after (after (at + 8) r) w + 4) (length kr) kr → Standing s (after (after (after (at + 8) r) w) kr + 4) (length kw) kw →
        read (record { selector = sel; offset = off; reads = r; writes = w; keyed_reads = kr; keyed_writes = kw }) u ≡ read e t → EntryStands s e (placed at e)
    stand r w kr kw u a b c d z =
        let found : Entry = record { selector = sel; offset = off; reads = r; writes = w; keyed_reads = kr; keyed_writes = kw } in
        let is : found ≡ e = cc in
        let first : at + 8 + 4 ≡ at + 12 = omega arith in
        let stands : EntryStands s found (placed at found) = record { reads = rw first at a; writes = rw first at b; keyed_reads = rw first at c; keyed_writes = rw first at d; offset = small } in
        subst (λ (f : Entry). EntryStands s f (placed at f)) is stands

entry_placed : (s : List ℕ) (at : ℕ) (e : Entry) (t : List ℕ) → Bytes s → entry (drop at s) ≡ read e t → EntryStands s e (placed at e)
entry_placed s at e t all h =
    let told = entry_told s at e t h in
    let room : at + 8 ≤ length s = omega (arith, told.on, told.within) in
    lists_placed s at _ _ e t (read_within s (at + 4) 4 _ (omega (arith, room)) all refl) (sym (head s at room) ∙ h)

pub entry_stands : (s : List ℕ) (at : ℕ) (l : EntryLayout) (f : EntryFound s at l) → Bytes s → EntryStands s f.found l
entry_stands s at l f all = rw f.layout (entry_placed s at f.found (drop l.end s) all f.is)

pub consts_stand : (s : List ℕ) (l : Layout) (r : ReadTold s l) → Standing s l.consts_at l.consts r.found.consts
unfolding layout_of
consts_stand s l r =
    let n = length r.found.code in
    let e : 8 + n + 4 ≡ 12 + n = omega arith in
    rw (r.layout, ← e) (standing s (8 + n) r.found.consts _ r.body.consts)
