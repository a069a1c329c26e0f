-- Document 01's container, computed: it is verified. Assumes nothing.
use Rattle.std.specs.Prelude.{◌≡◌, refl, Ok}
use Rattle.words.specs.Bytes.{num, num_from}
use Rattle.words.specs.Lists.{member}
use Rattle.isa.specs.Table.{row_of, op_with, op_at}
use Rattle.isa.specs.Forms.{form_of, instr_of}
use Rattle.isa.specs.Codec.{refusal_in, unless, operands_of, after_opcode, decode_list, decode_at}
use Rattle.isa.specs.Refers.{aim_of, refers_by, refers_to}
use Rattle.starts.specs.Walk.{ended, met, unless_bad, walk_by, walk, walk_of}
use Rattle.container_verify.specs.Targets.{bad_or, target_by, bad_target}
use Rattle.container_verify.specs.Verify.{entry_refusal, first_refusal, entries_refusal, target_refusal, code_refusal, verify_of, verified_by, verified_of}
use Rattle.isa.specs.Kinds.{kind_of}
use Rattle.isa.specs.Flow.{flow_of}
use Rattle.container.specs.Container.{slot_count}
use Rattle.container.specs.Reader.{done, layout_of}
use Rattle.container.specs.CaseTheorems.{example}

pub example_verified : verified_of (done example) ≡ Ok (layout_of example)
unfolding member row_of op_with op_at form_of instr_of refusal_in unless operands_of after_opcode decode_list decode_at num num_from kind_of flow_of aim_of refers_by refers_to ended met unless_bad walk_by walk walk_of bad_or target_by bad_target slot_count entry_refusal first_refusal entries_refusal target_refusal code_refusal verify_of verified_by verified_of
example_verified = refl
