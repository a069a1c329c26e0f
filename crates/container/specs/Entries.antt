-- Where a counted list and an entry stand, counted from a place (document 01, Container).
use Rattle.std.specs.Prelude.{List, [], ◌∷◌, ℕ, ◌+◌, ◌*◌, eqb, length, take, drop, Option, Some, None}
use Rattle.words.specs.Choice.{pick}
use Rattle.container.specs.Container.{Entry}
use Rattle.container.specs.Reader.{Parsed, short, read}
use Rattle.container.specs.declared.entries.Slots.{Slots}
use Rattle.container.specs.declared.entries.EntryLayout.{EntryLayout}

abbrev pub slots : (first count : ℕ) → Slots
slots first count = record { at = first; count = count }

-- the bytes of a list's words
abbrev pub slot_bytes : List ℕ → Slots → List ℕ
slot_bytes s l = take (l.count * 8) (drop l.at s)

-- the list at a place: its words stand after four bytes of count
unfoldable pub list_at : ℕ → Parsed (List ℕ) → Option (Slots × ℕ)
list_at at short = None
list_at at (read ws t) = Some (slots (at + 4) (length ws), at + 4 + length ws * 8)

-- an entry at a place: selector and offset take eight bytes, then list stands after list
unfoldable pub placed : ℕ → Entry → EntryLayout
placed at e =
    let r = length e.reads in
    let w = length e.writes in
    let kr = length e.keyed_reads in
    let kw = length e.keyed_writes in
    let writes = at + 12 + r * 8 in
    let keyed_reads = writes + 4 + w * 8 in
    let keyed_writes = keyed_reads + 4 + kr * 8 in
    record {
      selector = e.selector;
      offset = e.offset;
      reads = slots (at + 12) r;
      writes = slots (writes + 4) w;
      keyed_reads = slots (keyed_reads + 4) kr;
      keyed_writes = slots (keyed_writes + 4) kw;
      end = keyed_writes + 4 + kw * 8;
    }

-- all slots of an entry that was read
abbrev pub slots_of : EntryLayout → ℕ
slots_of l = l.reads.count + l.writes.count + l.keyed_reads.count + l.keyed_writes.count

unfoldable pub entry_at : ℕ → Parsed Entry → Option EntryLayout
entry_at at short = None
entry_at at (read e t) = Some (placed at e)

-- the place after entries that stand from a place on
unfoldable pub ends : ℕ → List Entry → ℕ
ends at [] = at
ends at (e ∷ es) = ends (placed at e).end es

unfoldable pub entries_end : ℕ → Parsed (List Entry) → Option ℕ
entries_end at short = None
entries_end at (read es t) = Some (ends at es)

-- the first entry with a selector, of entries that stand from a place on
unfoldable pub found_in : (selector at : ℕ) → List Entry → Option EntryLayout
found_in selector at [] = None
found_in selector at (e ∷ es) = pick (eqb e.selector selector) (Some (placed at e)) (found_in selector (placed at e).end es)
