-- Lines as they are printed, computed from the definitions. Assumes nothing.
use Rattle.std.specs.Prelude.{◌≡◌, refl, [], ◌∷◌, ◌*◌}
use Rattle.text.specs.Decimal.{last_digits, digit_count, decimal_of, field_of}
use Rattle.words.specs.Bytes.{be_bytes}
use Rattle.text.specs.Ascii.{ascii}
use Rattle.text.specs.Hex.{digit_of, hex_of}
use Rattle.lines.specs.Names.{name_in, added_name, later_name, name_of}
use Rattle.lines.specs.AnswerLines.{end_word, fault_line, end_line, used_line}
use Rattle.lines.specs.EffectLines.{transfer_line, selector_of, event_line}

pub lines_read :
    (end_line 0 0 9 ≡ ascii "halted")
    × (end_line 9 0 0 ≡ ascii "refused 9 UnknownSelector 0")
    × (end_line 15 5 1 ≡ ascii "faulted 15 UnknownOpcode 5")
    × (used_line 812 1000 ≡ ascii "used 812 of 1000")
    × (transfer_line 5 (10 ∷ 255 ∷ []) ≡ ascii "transfer 5 to 0aff")
    × (event_line (1380270404 * 4294967296) (0 ∷ 37 ∷ []) ≡ ascii "event 52454144 length 2 data 0025")
unfolding ascii digit_of hex_of last_digits digit_count decimal_of field_of be_bytes name_in added_name later_name name_of
    end_word fault_line end_line used_line transfer_line selector_of event_line
lines_read = (refl, refl, refl, refl, refl, refl)
