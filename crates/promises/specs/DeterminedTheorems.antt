-- Determinacy of every public call: any two outcomes that its contract allows for the same arguments coincide. Assumes nothing.
use Rattle.std.specs.Prelude.{◌≡◌, refl, List, ℕ}
use Rattle.std.proofs.Common.{sym, ◌∙◌}
use contract.Lifetimes.{Lfts}
use denote.Triple.Clauses.{Lasts, at_exit}
use borrow.Fn.Kind.{ParamKind, ResultKind}
use borrow.Fn.Kinds.{Out, Dens, res_t, ended_of}
use Rattle.isa.proofs.opcode.OpCode.from_byte.Kinds as from-byte-kinds
use Rattle.isa.proofs.opcode.OpCode.from_byte.Reads as from_byte
use Rattle.isa.proofs.opcode.OpCode.byte.Kinds as op-byte-kinds
use Rattle.isa.proofs.opcode.OpCode.byte.Reads as op-byte
use Rattle.isa.proofs.opcode.OpCode.length.Kinds as op-length-kinds
use Rattle.isa.proofs.opcode.OpCode.length.Reads as op-length
use Rattle.isa.proofs.opcode.OpCode.price.Kinds as price-kinds
use Rattle.isa.proofs.opcode.OpCode.price.Reads as price
use Rattle.isa.proofs.codec.decode.Kinds as decode-kinds
use Rattle.isa.proofs.codec.decode.Reads as decode
use Rattle.isa.proofs.codec.encode.Kinds as encode-kinds
use Rattle.isa.proofs.codec.encode.Reads as encode
use Rattle.isa.proofs.codec.read_byte.Kinds as read-byte-kinds
use Rattle.isa.proofs.codec.read_byte.Reads as read_byte
use Rattle.isa.proofs.codec.read_reg.Kinds as read-reg-kinds
use Rattle.isa.proofs.codec.read_reg.Reads as read_reg
use Rattle.isa.proofs.codec.RefusalFromDecodeError.from.Kinds as decode-refusal-kinds
use Rattle.isa.proofs.codec.RefusalFromDecodeError.from.Reads as decode-refusal
use Rattle.isa.proofs.codec.RefusalFromEncodeError.from.Kinds as encode-refusal-kinds
use Rattle.isa.proofs.codec.RefusalFromEncodeError.from.Reads as encode-refusal
use Rattle.isa.proofs.cursor.byte_then_reg.Kinds as byte-then-reg-kinds
use Rattle.isa.proofs.cursor.byte_then_reg.Reads as byte-then-reg
use Rattle.meter.proofs.hash_variable.Kinds as hash-variable-kinds
use Rattle.meter.proofs.hash_variable.Reads as hash-variable
use Rattle.meter.proofs.message_variable.Kinds as message-variable-kinds
use Rattle.meter.proofs.message_variable.Reads as message-variable
use Rattle.meter.proofs.merkle_variable.Kinds as merkle-variable-kinds
use Rattle.meter.proofs.merkle_variable.Reads as merkle-variable
use Rattle.meter.proofs.dispatch.Kinds as dispatch-kinds
use Rattle.meter.proofs.dispatch.Reads as dispatch
use Rattle.meter.proofs.Meter.charge.Kinds as charge-kinds
use Rattle.meter.proofs.Meter.charge.Reads as charge
use Rattle.state.proofs.regs.RegFile.new.Kinds as regs-new-kinds
use Rattle.state.proofs.regs.RegFile.new.Reads as regs-new
use Rattle.state.proofs.regs.RegFile.reg.Kinds as regs-reg-kinds
use Rattle.state.proofs.regs.RegFile.reg.Reads as regs-reg
use Rattle.state.proofs.regs.RegFile.set_reg.Kinds as set-reg-kinds
use Rattle.state.proofs.regs.RegFile.set_reg.Reads as set_reg
use Rattle.state.proofs.regs.RegFile.set_wide.Kinds as set-wide-kinds
use Rattle.state.proofs.regs.RegFile.set_wide.Reads as set-wide
use Rattle.state.proofs.regs.RegFile.step.Kinds as regs-step-kinds
use Rattle.state.proofs.regs.RegFile.step.Reads as regs-step
use Rattle.state.proofs.memory.mem_region.Kinds as mem-region-kinds
use Rattle.state.proofs.memory.mem_region.Reads as mem-region
use Rattle.state.proofs.memory.mem_load.Kinds as mem-load-kinds
use Rattle.state.proofs.memory.mem_load.Reads as mem-load
use Rattle.state.proofs.memory.mem_store.Kinds as mem-store-kinds
use Rattle.state.proofs.memory.mem_store.Reads as mem-store
use Rattle.state.proofs.memory.mem_write.Kinds as mem-write-kinds
use Rattle.state.proofs.memory.mem_write.Reads as mem-write
use Rattle.state.proofs.stack.push.Kinds as stack-push-kinds
use Rattle.state.proofs.stack.push.Reads as stack_push
use Rattle.state.proofs.bench.bench_by_value.Kinds as bench-by-value-kinds
use Rattle.state.proofs.bench.bench_by_value.Reads as bench-by-value
use Rattle.state.proofs.bench.bench_local.Kinds as bench-local-kinds
use Rattle.state.proofs.bench.bench_local.Reads as bench-local
use Rattle.container.proofs.reader.read.Kinds as container-read-kinds
use Rattle.container.proofs.reader.read.Reads as container-read
use Rattle.container_verify.proofs.verify.verify.Kinds as verify-kinds
use Rattle.container_verify.proofs.verify.verify.Reads as verify
use Rattle.container.proofs.reader.RefusalFromReadError.from.Kinds as read-refusal-kinds
use Rattle.container.proofs.reader.RefusalFromReadError.from.Reads as read-refusal
use Rattle.container_verify.proofs.verify.RefusalFromVerifyError.from.Kinds as verify-refusal-kinds
use Rattle.container_verify.proofs.verify.RefusalFromVerifyError.from.Reads as verify-refusal
use Rattle.container.proofs.offsets.entry_offset.Kinds as entry-offset-kinds
use Rattle.container.proofs.offsets.entry_offset.Reads as entry-offset
use Rattle.container_writer.proofs.writer.write.Kinds as container-write-kinds
use Rattle.container_writer.proofs.writer.write.Reads as container-write
use Rattle.changes.proofs.change_list.Kinds as change-list-kinds
use Rattle.changes.proofs.change_list.Reads as change-list
use Rattle.changes.proofs.merge.merge.Kinds as merge-kinds
use Rattle.changes.proofs.merge.merge.Reads as merge
use Rattle.opening.proofs.open.Call.for_entry.Kinds as for-entry-kinds
use Rattle.opening.proofs.open.Call.for_entry.Reads as for-entry
use Rattle.opening.proofs.open.Call.for_genesis.Kinds as for-genesis-kinds
use Rattle.opening.proofs.open.Call.for_genesis.Reads as for-genesis
use Rattle.interp.proofs.call.run.Kinds as run-kinds
use Rattle.interp.proofs.call.run.Reads as run
use Rattle.gateway.proofs.calls.qvm_for_entry.Kinds as qvm-for-entry-kinds
use Rattle.gateway.proofs.calls.qvm_for_entry.Reads as qvm-for-entry
use Rattle.gateway.proofs.calls.qvm_for_genesis.Kinds as qvm-for-genesis-kinds
use Rattle.gateway.proofs.calls.qvm_for_genesis.Reads as qvm-for-genesis
use Rattle.gateway.proofs.containers.qvm_verify.Kinds as qvm-verify-kinds
use Rattle.gateway.proofs.containers.qvm_verify.Reads as qvm-verify
use Rattle.gateway.proofs.containers.qvm_entry_offset.Kinds as qvm-entry-offset-kinds
use Rattle.gateway.proofs.containers.qvm_entry_offset.Reads as qvm-entry-offset
use Rattle.gateway.proofs.containers.qvm_canonical_bytes.Kinds as qvm-canonical-bytes-kinds
use Rattle.gateway.proofs.containers.qvm_canonical_bytes.Reads as qvm-canonical-bytes
use Rattle.gateway.proofs.settled.qvm_change_list.Kinds as qvm-change-list-kinds
use Rattle.gateway.proofs.settled.qvm_change_list.Reads as qvm-change-list

-- stated over the contract as its callers learn it: two results, and two contents of what was lent at exit
abbrev pub Determined : (n : ℕ) (ps : List (ParamKind n)) (r : ResultKind n) → Out n ps r → Type 0
Determined n ps r learnt =
    (κs : Lfts n) (a : Dens κs ps) (x y : (res_t r κs).Denot) (u v : Lasts (ended_of n ps r) κs a)
    → learnt κs a x (at_exit (ended_of n ps r) κs a u) → learnt κs a y (at_exit (ended_of n ps r) κs a v) → (x ≡ y) × (u ≡ v)

-- ---- the codec

pub from_byte_determined : Determined _ from-byte-kinds.ps from-byte-kinds.r from_byte.Learnt
from_byte_determined κs a x y u v p q = (p ∙ sym q, refl)

pub op_byte_determined : Determined _ op-byte-kinds.ps op-byte-kinds.r op-byte.Learnt
op_byte_determined κs a x y u v p q = (p ∙ sym q, refl)

pub op_length_determined : Determined _ op-length-kinds.ps op-length-kinds.r op-length.Learnt
op_length_determined κs a x y u v p q = (p ∙ sym q, refl)

pub price_determined : Determined _ price-kinds.ps price-kinds.r price.Learnt
price_determined κs a x y u v p q = (p ∙ sym q, refl)

pub decode_determined : Determined _ decode-kinds.ps decode-kinds.r decode.Learnt
decode_determined κs a x y u v p q = (p ∙ sym q, refl)

pub encode_determined : Determined _ encode-kinds.ps encode-kinds.r encode.Learnt
encode_determined κs a x y u v p q = (p.0 ∙ sym q.0, λ i. (tt, ((p.1 ∙ sym q.1) i, tt)))

pub read_byte_determined : Determined _ read-byte-kinds.ps read-byte-kinds.r read_byte.Learnt
read_byte_determined κs a x y u v p q = (p ∙ sym q, refl)

pub read_reg_determined : Determined _ read-reg-kinds.ps read-reg-kinds.r read_reg.Learnt
read_reg_determined κs a x y u v p q = (p ∙ sym q, refl)

pub decode_refusal_determined : Determined _ decode-refusal-kinds.ps decode-refusal-kinds.r decode-refusal.Learnt
decode_refusal_determined κs a x y u v p q = (p ∙ sym q, refl)

pub encode_refusal_determined : Determined _ encode-refusal-kinds.ps encode-refusal-kinds.r encode-refusal.Learnt
encode_refusal_determined κs a x y u v p q = (p ∙ sym q, refl)

pub byte_then_reg_determined : Determined _ byte-then-reg-kinds.ps byte-then-reg-kinds.r byte-then-reg.Learnt
byte_then_reg_determined κs a x y u v p q = (p ∙ sym q, refl)

-- ---- prices and the meter

pub hash_variable_determined : Determined _ hash-variable-kinds.ps hash-variable-kinds.r hash-variable.Learnt
hash_variable_determined κs a x y u v p q = (p ∙ sym q, refl)

pub message_variable_determined : Determined _ message-variable-kinds.ps message-variable-kinds.r message-variable.Learnt
message_variable_determined κs a x y u v p q = (p ∙ sym q, refl)

pub merkle_variable_determined : Determined _ merkle-variable-kinds.ps merkle-variable-kinds.r merkle-variable.Learnt
merkle_variable_determined κs a x y u v p q = (p ∙ sym q, refl)

pub dispatch_determined : Determined _ dispatch-kinds.ps dispatch-kinds.r dispatch.Learnt
dispatch_determined κs a x y u v p q = (p ∙ sym q, refl)

pub charge_determined : Determined _ charge-kinds.ps charge-kinds.r charge.Learnt
charge_determined κs a x y u v p q = (p ∙ sym q, refl)

-- ---- registers, memory and the stack

pub regs_new_determined : Determined _ regs-new-kinds.ps regs-new-kinds.r regs-new.Learnt
regs_new_determined κs a x y u v p q = (p ∙ sym q, refl)

pub regs_reg_determined : Determined _ regs-reg-kinds.ps regs-reg-kinds.r regs-reg.Learnt
regs_reg_determined κs a x y u v p q = (p ∙ sym q, refl)

pub set_reg_determined : Determined _ set-reg-kinds.ps set-reg-kinds.r set_reg.Learnt
set_reg_determined κs a x y u v p q = (p ∙ sym q, refl)

pub set_wide_determined : Determined _ set-wide-kinds.ps set-wide-kinds.r set-wide.Learnt
set_wide_determined κs a x y u v p q = (p ∙ sym q, refl)

pub regs_step_determined : Determined _ regs-step-kinds.ps regs-step-kinds.r regs-step.Learnt
regs_step_determined κs a x y u v p q = (p ∙ sym q, refl)

pub mem_region_determined : Determined _ mem-region-kinds.ps mem-region-kinds.r mem-region.Learnt
mem_region_determined κs a x y u v p q = (p ∙ sym q, refl)

pub mem_load_determined : Determined _ mem-load-kinds.ps mem-load-kinds.r mem-load.Learnt
mem_load_determined κs a x y u v p q = (p ∙ sym q, refl)

pub mem_store_determined : Determined _ mem-store-kinds.ps mem-store-kinds.r mem-store.Learnt
mem_store_determined κs a x y u v p q = (p.0 ∙ sym q.0, λ i. ((p.1 ∙ sym q.1) i, (tt, (tt, tt))))

pub mem_write_determined : Determined _ mem-write-kinds.ps mem-write-kinds.r mem-write.Learnt
mem_write_determined κs a x y u v p q = (p.0 ∙ sym q.0, λ i. ((p.1 ∙ sym q.1) i, (tt, (tt, tt))))

pub stack_push_determined : Determined _ stack-push-kinds.ps stack-push-kinds.r stack_push.Learnt
stack_push_determined κs a x y u v p q = (p.0 ∙ sym q.0, λ i. ((p.1 ∙ sym q.1) i, (tt, (tt, tt))))

pub bench_by_value_determined : Determined _ bench-by-value-kinds.ps bench-by-value-kinds.r bench-by-value.Learnt
bench_by_value_determined κs a x y u v p q = (p ∙ sym q, refl)

pub bench_local_determined : Determined _ bench-local-kinds.ps bench-local-kinds.r bench-local.Learnt
bench_local_determined κs a x y u v p q = (p ∙ sym q, refl)

-- ---- containers

pub container_read_determined : Determined _ container-read-kinds.ps container-read-kinds.r container-read.Learnt
container_read_determined κs a x y u v p q = (p ∙ sym q, refl)

pub verify_determined : Determined _ verify-kinds.ps verify-kinds.r verify.Learnt
verify_determined κs a x y u v p q = (p ∙ sym q, refl)

pub read_refusal_determined : Determined _ read-refusal-kinds.ps read-refusal-kinds.r read-refusal.Learnt
read_refusal_determined κs a x y u v p q = (p ∙ sym q, refl)

pub verify_refusal_determined : Determined _ verify-refusal-kinds.ps verify-refusal-kinds.r verify-refusal.Learnt
verify_refusal_determined κs a x y u v p q = (p ∙ sym q, refl)

pub entry_offset_determined : Determined _ entry-offset-kinds.ps entry-offset-kinds.r entry-offset.Learnt
entry_offset_determined κs a x y u v p q = (p ∙ sym q, refl)

pub container_write_determined : Determined _ container-write-kinds.ps container-write-kinds.r container-write.Learnt
container_write_determined κs a x y u v p q = (p.0 ∙ sym q.0, λ i. (tt, (tt, (tt, ((p.1 ∙ sym q.1) i, tt)))))

-- ---- the change list and the new store

pub change_list_determined : Determined _ change-list-kinds.ps change-list-kinds.r change-list.Learnt
change_list_determined κs a x y u v p q = (p.0 ∙ sym q.0, λ i. (tt, (tt, (tt, (tt, (tt, ((p.1 ∙ sym q.1) i, tt)))))))

pub merge_determined : Determined _ merge-kinds.ps merge-kinds.r merge.Learnt
merge_determined κs a x y u v p q = (p.0 ∙ sym q.0, λ i. (tt, (tt, (tt, ((p.1 ∙ sym q.1) i, tt)))))

-- ---- the two calls

pub for_entry_determined : Determined _ for-entry-kinds.ps for-entry-kinds.r for-entry.Learnt
for_entry_determined κs a x y u v p q = (p ∙ sym q, refl)

pub for_genesis_determined : Determined _ for-genesis-kinds.ps for-genesis-kinds.r for-genesis.Learnt
for_genesis_determined κs a x y u v p q = (p ∙ sym q, refl)

pub run_determined : Determined _ run-kinds.ps run-kinds.r run.Learnt
run_determined κs a x y u v p q =
    let same = p ∙ sym q in (
      λ i. (same i).answer,
      λ i. (
        tt,
        (
          tt,
          (
            tt,
            (
              tt,
              (
                tt,
                (
                  tt,
                  (
                    (same i).lent.run.memory,
                    (
                      (same i).lent.run.stack,
                      (
                        (same i).lent.starts,
                        (
                          (same i).lent.run.keys.changes,
                          ((same i).lent.run.keys.fetched, ((same i).lent.run.keys.may_read, ((same i).lent.run.keys.may_write, ((same i).lent.run.keys.paid, ((same i).lent.run.log, tt))))),
                        ),
                      ),
                    ),
                  ),
                ),
              ),
            ),
          ),
        ),
      ),
    )

pub qvm_for_entry_determined : Determined _ qvm-for-entry-kinds.ps qvm-for-entry-kinds.r qvm-for-entry.Learnt
qvm_for_entry_determined κs a x y u v p q =
    let same = p ∙ sym q in
    (λ i. (same i).given.number, λ i. (tt, (tt, (tt, (tt, (tt, (tt, (tt, (tt, (tt, (tt, (tt, ((same i).lent.run.memory, ((same i).lent.run.stack, ((same i).lent.starts, ((same i).lent.run.keys.changes, ((same i).lent.run.keys.fetched, ((same i).lent.run.keys.may_read, ((same i).lent.run.keys.may_write, ((same i).lent.run.keys.paid, ((same i).lent.run.log, ((same i).given.answer, tt))))))))))))))))))))))

pub qvm_for_genesis_determined : Determined _ qvm-for-genesis-kinds.ps qvm-for-genesis-kinds.r qvm-for-genesis.Learnt
qvm_for_genesis_determined κs a x y u v p q =
    let same = p ∙ sym q in
    (λ i. (same i).given.number, λ i. (tt, (tt, (tt, (tt, (tt, (tt, (tt, (tt, (tt, (tt, ((same i).lent.run.memory, ((same i).lent.run.stack, ((same i).lent.starts, ((same i).lent.run.keys.changes, ((same i).lent.run.keys.fetched, ((same i).lent.run.keys.may_read, ((same i).lent.run.keys.may_write, ((same i).lent.run.keys.paid, ((same i).lent.run.log, ((same i).given.answer, tt)))))))))))))))))))))

pub qvm_verify_determined : Determined _ qvm-verify-kinds.ps qvm-verify-kinds.r qvm-verify.Learnt
qvm_verify_determined κs a x y u v p q = let same = p ∙ sym q in (λ i. (same i).number, λ i. (tt, ((same i).answer, tt)))

pub qvm_entry_offset_determined : Determined _ qvm-entry-offset-kinds.ps qvm-entry-offset-kinds.r qvm-entry-offset.Learnt
qvm_entry_offset_determined κs a x y u v p q = let same = p ∙ sym q in (λ i. (same i).number, λ i. (tt, (tt, ((same i).answer, tt))))

pub qvm_canonical_bytes_determined : Determined _ qvm-canonical-bytes-kinds.ps qvm-canonical-bytes-kinds.r qvm-canonical-bytes.Learnt
qvm_canonical_bytes_determined κs a x y u v p q =
    let same = p ∙ sym q in (λ i. (same i).given.number, λ i. (tt, (tt, (tt, ((same i).lent, ((same i).given.answer, tt))))))

pub qvm_change_list_determined : Determined _ qvm-change-list-kinds.ps qvm-change-list-kinds.r qvm-change-list.Learnt
qvm_change_list_determined κs a x y u v p q =
    let same = p ∙ sym q in (λ i. (same i).given.number, λ i. (tt, (tt, (tt, (tt, (tt, ((same i).lent, ((same i).given.answer, tt))))))))
