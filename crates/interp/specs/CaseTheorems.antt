-- Document 01's first run cases, computed: one Halt with a limit of 13 and of 12, and no code at all. Assumes nothing.
use Rattle.std.specs.Prelude.{◌≡◌, refl, false, List, [], ◌∷◌, ◌++◌, ℕ, replicate}
use Rattle.words.specs.Bytes.{num, num_from, words_of}
use Rattle.words.specs.Lists.{member}
use Rattle.isa.specs.Table.{row_of, op_with, op_at}
use Rattle.isa.specs.Forms.{form_of, instr_of}
use Rattle.isa.specs.Codec.{refusal_in, unless, operands_of, after_opcode, decode_list, decode_at}
use Rattle.tables.specs.Rows.{rows}
use Rattle.tables.specs.Checked.{risingb, checked_of}
use Rattle.tables.specs.Answers.{checked_number}
use Rattle.replies.specs.Answers.{replies_number}
use Rattle.replies.specs.Replies.{good_replies, replies_of}
use Rattle.container.specs.Reader.{part, number, counted, entry, entries, container, whole, read_of}
use Rattle.starts.specs.Starts.{starts_by, starts_from, starts_of}
use Rattle.container.specs.Container.{slot_count}
use Rattle.container.specs.CaseTheorems.{example_bytes}
use Rattle.keys.specs.Lent as tables
use Rattle.effects.specs.Log.{log_of}
use Rattle.machine.specs.Actions.{action_of}
use Rattle.machine.specs.Lent.{replies_in, replies_left}
use Rattle.machine.specs.Rules.{play}
use Rattle.machine.specs.Turns.{act_of, rule_of, step_of, fetch_of, turn_of, end_of, run_of}
use Rattle.opening.specs.Opening.{Lent, matching, env_of, machine_for, opening_at, opening_one, opening_in, opening_read, opening_of}
use Rattle.opening.specs.Opened.{entry_call, input_of}
use Rattle.interp.specs.Call.{lent_as, running, call_of}
use Rattle.interp.specs.declared.answer.Answer.{Answer}
use Rattle.machine.specs.declared.host.Host.{Host}

-- buffers of the right sizes, tables and log without room
abbrev lent : Lent
lent = lent_as (replicate 65536 0) (replicate 1024 0) (tables.key_bufs [] [] [] [] []) [] (replicate 8192 0)

abbrev host : Host
host = record { genesis = 0; ml_signed = 0; slh_signed = 0 }

-- a call of the entry abcd in these bytes, with nothing lent but the buffers
abbrev answer_to : List ℕ → (limit : ℕ) → Answer
answer_to s limit = (call_of (input_of (entry_call 0x61626364 limit host false) s [] [] [] []) lent).answer

-- the same container without its code
abbrev empty_bytes : List ℕ
empty_bytes = 0x51 ∷ 0x56 ∷ 0x4D ∷ 0x31 ∷ replicate 11 0 ++ (1 ∷ 0x61 ∷ 0x62 ∷ 0x63 ∷ 0x64 ∷ replicate 20 0)

-- an answer's number, fetches and used
pub record Says (a : Answer) (number fetches used : ℕ) : Type 0 where
  pub number_is : a.end.number ≡ number
  pub fetches_is : a.fetches ≡ fetches
  pub used_is : a.used ≡ used

pub run_cases : Says (answer_to example_bytes 13) 0 1 13 × Says (answer_to example_bytes 12) 1 0 0 × Says (answer_to empty_bytes 4) 14 0 0
unfolding num num_from words_of member row_of op_with op_at form_of instr_of refusal_in unless operands_of after_opcode decode_list decode_at rows risingb checked_of checked_number replies_number good_replies replies_of part number counted entry entries container whole read_of starts_by starts_from starts_of slot_count log_of action_of replies_in replies_left play act_of rule_of step_of fetch_of turn_of end_of run_of matching env_of machine_for opening_at opening_one opening_in opening_read opening_of running call_of
run_cases = (
  record { number_is = refl; fetches_is = refl; used_is = refl },
  record { number_is = refl; fetches_is = refl; used_is = refl },
  record { number_is = refl; fetches_is = refl; used_is = refl },
)
