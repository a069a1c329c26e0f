-- Numbers as they are read, computed from the definitions. Assumes nothing.
use Rattle.std.specs.Prelude.{◌≡◌, refl, Some, None}
use Rattle.text.specs.Ascii.{ascii}
use Rattle.text.specs.Number.{with_digit, parsed_from, parsed_of}

pub numbers_read : (parsed_of (ascii "120") ≡ Some 120) × (parsed_of (ascii "18446744073709551616") ≡ None) × (parsed_of (ascii "1x") ≡ None)
unfolding ascii with_digit parsed_from parsed_of
numbers_read = (refl, refl, refl)
