-- A fault by document 01's number and its argument (Numbers returned); a reply's fault by the number that the reply tells.
use Rattle.std.specs.Prelude.{ℕ, Option, Some, None}
use Rattle.words.specs.Refusals.{refusal}
use Rattle.words.specs.declared.refusal.Refusal.{Refusal}
use Rattle.isa.specs.Answers.{decode_error}
use Rattle.state.specs.declared.fault.Fault.{Fault}
use Rattle.state.specs.declared.fault.Fault.TheVariants as fault

abbrev pub fault_refusal : Fault → Refusal
fault_refusal fault.OutOfMeter = refusal 1 0
fault_refusal fault.Overflow = refusal 2 0
fault_refusal fault.DivByZero = refusal 3 0
fault_refusal fault.StackOverflow = refusal 4 0
fault_refusal fault.StackUnderflow = refusal 5 0
fault_refusal fault.BadMemory = refusal 6 0
fault_refusal fault.BadJump = refusal 7 0
fault_refusal fault.BadConst = refusal 8 0
fault_refusal fault.UnknownSelector = refusal 9 0
fault_refusal fault.EffectsTooLarge = refusal 11 0
fault_refusal fault.UndeclaredSlot = refusal 12 0
fault_refusal fault.Malformed = refusal 14 0
fault_refusal (fault.Decode e) = decode_error e
fault_refusal fault.BadBuffer = refusal 44 0
fault_refusal fault.BadTable = refusal 45 0
fault_refusal fault.BadReply = refusal 46 0
fault_refusal fault.NoReply = refusal 47 0
fault_refusal fault.NoRoom = refusal 48 0
fault_refusal fault.NotRegister = refusal 50 0
fault_refusal (fault.Told n) = refusal n 0

-- its number, 0 where there is none
abbrev pub fault_number : Option Fault → ℕ
fault_number None = 0
fault_number (Some f) = (fault_refusal f).number
