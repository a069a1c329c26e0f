-- Document 01's number and argument for each case of the codec's answers (Numbers returned).
use Rattle.std.specs.Prelude.{ℕ, Result, Ok, Err}
use Rattle.words.specs.Refusals.{refusal}
use Rattle.words.specs.declared.refusal.Refusal.{Refusal}
use Rattle.isa.specs.declared.codec.DecodeError.{DecodeError}
use Rattle.isa.specs.declared.codec.DecodeError.TheVariants as decode
use Rattle.isa.specs.declared.codec.EncodeError.{EncodeError}
use Rattle.isa.specs.declared.codec.EncodeError.TheVariants as encode
use Rattle.isa.specs.declared.instr.Instr.{Instr}

abbrev pub decode_error : DecodeError → Refusal
decode_error (decode.UnknownOpcode byte) = refusal 15 byte
decode_error (decode.BadRegister byte) = refusal 16 byte
decode_error decode.Truncated = refusal 17 0

-- done is 0, with the length read
abbrev pub decoded_answer : Result (Instr × ℕ) DecodeError → Refusal
decoded_answer (Ok (i, length)) = refusal 0 length
decoded_answer (Err e) = decode_error e

abbrev pub encode_error : EncodeError → Refusal
encode_error (encode.BadRegister byte) = refusal 16 byte
encode_error encode.NoRoom = refusal 48 0

-- done is 0, with the length written
abbrev pub encoded_answer : Result ℕ EncodeError → Refusal
encoded_answer (Ok length) = refusal 0 length
encoded_answer (Err e) = encode_error e
