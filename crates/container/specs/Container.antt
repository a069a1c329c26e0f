-- A container: code, constants and entries, each with a selector, an offset and four lists of slots (document 01, Container).
use Rattle.std.specs.Prelude.{List, ℕ, ◌+◌, length}

pub record Entry : Type 0 where
  pub selector : ℕ
  pub offset : ℕ
  pub reads : List ℕ
  pub writes : List ℕ
  pub keyed_reads : List ℕ
  pub keyed_writes : List ℕ

-- all slots that an entry declares
unfoldable pub slot_count : Entry → ℕ
slot_count e = length e.reads + length e.writes + length e.keyed_reads + length e.keyed_writes

pub record Container : Type 0 where
  pub code : List ℕ
  pub consts : List ℕ
  pub entries : List Entry

-- QVM1, its first four bytes
abbrev pub tag : ℕ
tag = 0x51564D31
