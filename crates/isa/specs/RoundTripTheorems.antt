-- Decoding and encoding undo one another (demand 2). Assumes nothing.
use Prim.Native.Nat.{ℕ, zero, suc, ◌+◌, ◌^◌, ◌≤◌, ◌<◌}
use Rattle.std.specs.Prelude.{◌≡◌, refl, List, [], ◌∷◌, ◌++◌, Bool, true, false, ltb, leb, eqb, get_or, drop, ℕ, Option, Some, None, Result, Ok}
use Rattle.std.proofs.Math.Path.{sym, ap}
use Rattle.std.proofs.Common.{◌∙◌, append_assoc, length-append, take-append-drop, take_at, drop_at, take_all, get_or-drop, lt-ltb, le-leb, leb-true, ltb-true, ne_eqb}
use native.Mathlib.Omega.{arith}
use Rattle.std.proofs.Math.ListN.{length, take, length-drop}
use Rattle.std.proofs.Math.Seq.{take-add, length-take-le}
use Rattle.words.specs.Choice.{pick}
use Rattle.words.specs.Bytes.{num, be_bytes, Bytes}
use Rattle.words.specs.BytesLaws.{length_be_bytes}
use Rattle.words.proofs.BytesTheorems.{bytes_drop, read_back_all, write_back, num_below}
use Rattle.isa.specs.declared.opcode.OpCode.{OpCode}
use Rattle.isa.specs.declared.instr.Instr.{Instr}
use Rattle.isa.specs.Table.{regs_of, wide_of, length_of, op_at}
use Rattle.isa.specs.TableLaws.{known, row_bounds, opcode_byte}
use Rattle.isa.specs.Forms.{Form, form, form_of, instr_of}
use Rattle.isa.specs.ComputedLaws.{from}
use Rattle.isa.specs.FormLaws.{from_take, taken, rebuilt, same_regs, length_regs}
use Rattle.isa.specs.Codec.{first_bad, unless, operands_of, after_opcode, decode_list, decode_at, instr_bytes, encoded_with, encoded_of, output_after, output_of}
use Rattle.isa.specs.DecodeLaws.{refusal_by, refusal_is}
use Rattle.isa.specs.EncodeLaws.{length_bytes}
use Rattle.isa.specs.Range.{InRange, StandsIn}
use Rattle.isa.specs.declared.codec.DecodeError.{DecodeError}
use Rattle.std.specs.Result.{result_unwrap_or}

-- ---- registers below 16 are those among which none is bad

below_none : (r : List ℕ) → ((k : ℕ) → get_or r k 0 < 16) → first_bad r ≡ None
unfolding first_bad
below_none [] h = refl
below_none (x ∷ r) h = rw (lt-ltb x 16 (h 0)) (below_none r (λ k. h (suc k)))

picked : (t : Bool) (f : Option ℕ) (b : ℕ) → pick t f (Some b) ≡ None → (t ≡ true) × (f ≡ None)
picked true f b h = (refl, h)
picked false f b h = absurd (let z : ◌≡◌ {A = ℕ} 0 1 = cc in omega arith)

none_below : (r : List ℕ) → first_bad r ≡ None → (k : ℕ) → get_or r k 0 < 16
unfolding first_bad
none_below [] h k = omega arith
none_below (x ∷ r) h zero = ltb-true x 16 (picked (ltb x 16) (first_bad r) x h).0
none_below (x ∷ r) h (suc k) = none_below r (picked (ltb x 16) (first_bad r) x h).1 k

-- ---- what is encoded is decoded again

-- operands that stand and have no bad register are decoded
operands_stand : (o : OpCode) (s : List ℕ) → first_bad (take (regs_of o) s) ≡ None → regs_of o + wide_of o ≤ length s →
    operands_of o s ≡ Ok (instr_of o s (num (take (wide_of o) (drop (regs_of o) s))), length_of o)
unfolding operands_of unless
operands_stand o s h l = rw (refusal_is (regs_of o) (wide_of o) s, h, le-leb (regs_of o + wide_of o) (length s) l)

operands_back : (i : Instr) → InRange i → (t : List ℕ) →
    operands_of (form_of i).op ((form_of i).regs ++ (be_bytes (wide_of (form_of i).op) (form_of i).number ++ t)) ≡ Ok (i, length_of (form_of i).op)
operands_back i ok t =
    let o = (form_of i).op in
    let r = (form_of i).regs in
    let n = (form_of i).number in
    let b = be_bytes (wide_of o) n in
    let s = r ++ (b ++ t) in
    let lb : length b ≡ wide_of o = length_be_bytes (wide_of o) n in
    let first : take (regs_of o) s ≡ r = take_at r (b ++ t) (regs_of o) (length_regs i) in
    let room : regs_of o + wide_of o ≤ length s = omega (arith, length-append r (b ++ t), length-append b t, length_regs i) in
    let there : regs_of o ≤ length s = omega arith in
    let mine : regs_of o ≤ length r = omega (arith, length_regs i) in
    let value : num (take (wide_of o) (drop (regs_of o) s)) ≡ n =
    rw (drop_at r (b ++ t) (regs_of o) (length_regs i), take_at b t (wide_of o) lb) (read_back_all (wide_of o) n ok.number) in
    let same : from 0 (regs_of o) s ≡ from 0 (regs_of o) r =
    from_take (regs_of o) s there ∙ first ∙ sym (from_take (regs_of o) r mine ∙ take_all (regs_of o) r (omega (arith, length_regs i))) in
    operands_stand o s (ap first_bad first ∙ below_none r ok.regs) room
    ∙ ap (λ (j : Instr). Ok (j, length_of o)) (ap (instr_of o s) value ∙ same_regs o s r n same ∙ rebuilt i)

-- an instruction in range, followed by anything, decodes to itself and its length
pub encode_decode : (i : Instr) → InRange i → (t : List ℕ) → decode_list (instr_bytes i ++ t) ≡ Ok (i, length (instr_bytes i))
unfolding decode_list after_opcode instr_bytes
encode_decode i ok t =
    let o = (form_of i).op in
    let b = be_bytes (wide_of o) (form_of i).number in
    rw (known o, append_assoc (form_of i).regs b t) (operands_back i ok t ∙ ap (λ (n : ℕ). Ok (i, n)) (sym (length_bytes i)))

-- ---- what is decoded is encoded again

opcode_of : (x : Option OpCode) (b : ℕ) (s : List ℕ) (i : Instr) (n : ℕ) → after_opcode x b s ≡ Ok (i, n) → (o : OpCode) × (x ≡ Some o) × (operands_of o s ≡ Ok (i, n))
unfolding after_opcode
opcode_of (Some o) b s i n h = (o, refl, h)
opcode_of None b s i n h = absurd (let z : ◌≡◌ {A = ℕ} 0 1 = cc in omega arith)

-- what decoded operands tell
pub record OperandsRead (o : OpCode) (s : List ℕ) (i : Instr) (n : ℕ) : Type 0 where
  pub good : first_bad (take (regs_of o) s) ≡ None
  pub room : regs_of o + wide_of o ≤ length s
  pub instr : instr_of o s (num (take (wide_of o) (drop (regs_of o) s))) ≡ i
  pub size : length_of o ≡ n

operands_read : (o : OpCode) (s : List ℕ) (i : Instr) (n : ℕ) → operands_of o s ≡ Ok (i, n) → OperandsRead o s i n
unfolding operands_of unless
operands_read o s i n h =
    by (first_bad (take (regs_of o) s)) (leb (regs_of o + wide_of o) (length s)) refl refl (rw (refusal_is (regs_of o) (wide_of o) s) at h)
  where
    by : (f : Option ℕ) (t : Bool) → first_bad (take (regs_of o) s) ≡ f → leb (regs_of o + wide_of o) (length s) ≡ t →
        unless (refusal_by f t) (Ok (instr_of o s (num (take (wide_of o) (drop (regs_of o) s))), length_of o)) ≡ Ok (i, n) → OperandsRead o s i n
    by (Some b) t p q k = absurd (let z : ◌≡◌ {A = ℕ} 0 1 = cc in omega arith)
    by None true p q k = record { good = p; room = leb-true (regs_of o + wide_of o) (length s) q; instr = ap (λ (r : Result (Instr × ℕ) DecodeError). (result_unwrap_or r (i, n)).0) k; size = ap (λ (r : Result (Instr × ℕ) DecodeError). (result_unwrap_or r (i, n)).1) k }
    by None false p q k = absurd (let z : ◌≡◌ {A = ℕ} 0 1 = cc in omega arith)

-- an opcode without a number keeps none, and writes none
no_number : (w v : ℕ) → be_bytes w (pick (eqb w 0) 0 v) ≡ be_bytes w v
unfolding be_bytes
no_number zero v = refl
no_number (suc w) v = rw (ne_eqb (suc w) 0 (λ e. omega arith))

number_within : (w v : ℕ) → v < 256 ^ w → pick (eqb w 0) 0 v < 256 ^ w
number_within zero v h = omega arith
number_within (suc w) v h = rw (ne_eqb (suc w) 0 (λ e. omega arith)) h

module _ (b : ℕ) (s : List ℕ) (all : Bytes (b ∷ s)) (o : OpCode) (found : op_at b ≡ Some o) where
  after : Bytes (drop (regs_of o) s)
  after k = rw get_or-drop (all (suc (regs_of o + k)))

  stands_here : (i : Instr) (n : ℕ) → OperandsRead o s i n → StandsIn i n (b ∷ s) 0
  unfolding instr_bytes
  stands_here i n r =
      let k = regs_of o in
      let w = wide_of o in
      let v = num (take w (drop k s)) in
      let there : k ≤ length s = omega (arith, r.room) in
      let left : w ≤ length (drop k s) = rw length-drop (omega (arith, r.room)) in
      let is : form_of i ≡ form o (take k s) (pick (eqb w 0) 0 v) =
      ap form_of (sym r.instr) ∙ taken o s v ∙ rw (from_take k s there) in
      let long : length_of o ≡ suc (k + w) = omega arith in
      let bytes : instr_bytes i ≡ take n (b ∷ s) =
      rw (is, no_number w v, write_back w (drop k s) left after, ← opcode_byte b o found, ← r.size, long, ← take-add k w s) in
      record {
        in_range = record {
          regs = rw is (none_below (take k s) r.good);
          number = rw is (number_within w v (num_below w (drop k s) left after));
        };
        bytes = sym bytes;
        size = sym (ap length bytes ∙ length-take-le n (b ∷ s) (omega (arith, r.size, r.room)));
      }

decoded_list : (s : List ℕ) (i : Instr) (n : ℕ) → Bytes s → decode_list s ≡ Ok (i, n) → StandsIn i n s 0
unfolding decode_list
decoded_list [] i n all h = absurd (let z : ◌≡◌ {A = ℕ} 0 1 = cc in omega arith)
decoded_list (b ∷ s) i n all h =
    let x = opcode_of (op_at b) b s i n h in
    stands_here b s all x.0 x.1 i n (operands_read x.0 s i n x.2)

-- where decode answers an instruction and a length, the bytes of that instruction, in range, stand there
pub decode_stands : (code : List ℕ) (place : ℕ) (i : Instr) (n : ℕ) → Bytes code → decode_at code place ≡ Ok (i, n) → StandsIn i n code place
unfolding decode_at
decode_stands code place i n all h =
    let r = decoded_list (drop place code) i n (bytes_drop place code all) h in
    record { in_range = r.in_range; bytes = r.bytes; size = r.size }

-- and where they stand, decode answers them: it refuses only where no instruction in range stands
pub stands_decode : (code : List ℕ) (place : ℕ) (i : Instr) (n : ℕ) → StandsIn i n code place → decode_at code place ≡ Ok (i, n)
unfolding decode_at
stands_decode code place i n r =
    let whole : instr_bytes i ++ drop n (drop place code) ≡ drop place code = rw (← r.bytes) (take-append-drop n (drop place code)) in
    rw r.size (rw whole at (encode_decode i r.in_range (drop n (drop place code))))

-- the length is the opcode's, from 1 to 10, and within the code
pub record Place (code : List ℕ) (place : ℕ) (i : Instr) (n : ℕ) : Type 0 where
  pub opcode : n ≡ length_of (form_of i).op
  pub least : 1 ≤ n
  pub most : n ≤ 10
  pub within : place + n ≤ length code

place_list : (s : List ℕ) (i : Instr) (n : ℕ) → decode_list s ≡ Ok (i, n) → Place s 0 i n
unfolding decode_list
place_list [] i n h = absurd (let z : ◌≡◌ {A = ℕ} 0 1 = cc in omega arith)
place_list (b ∷ s) i n h =
    let x = opcode_of (op_at b) b s i n h in
    let r = operands_read x.0 s i n x.2 in
    let e : (form_of i).op ≡ x.0 = ap (λ (j : Instr). (form_of j).op) (sym r.instr) ∙ ap (λ (f : Form). f.op) (taken x.0 s (num (take (wide_of x.0) (drop (regs_of x.0) s)))) in
    record {
      opcode = rw e (sym r.size);
      least = omega (arith, r.size);
      most = omega (arith, r.size, (row_bounds x.0).length);
      within = omega (arith, r.size, r.room);
    }

pub decode_place : (code : List ℕ) (place : ℕ) (i : Instr) (n : ℕ) → decode_at code place ≡ Ok (i, n) → Place code place i n
unfolding decode_at
decode_place code place i n h =
    let r = place_list (drop place code) i n h in
    record { opcode = r.opcode; least = r.least; most = r.most; within = omega (arith, length-drop place code, r.within, r.least) }

-- ---- encode's answer and output

-- what is in range and has room is encoded
pub encode_done : (i : Instr) (out : List ℕ) → InRange i → length (instr_bytes i) ≤ length out → encoded_of i out ≡ Ok (length (instr_bytes i))
unfolding encoded_of encoded_with
encode_done i out ok h = rw (below_none (form_of i).regs ok.regs, le-leb (length (instr_bytes i)) (length out) h)

-- and stands in the output, which decodes to it
pub encode_output : (i : Instr) (out : List ℕ) → InRange i → length (instr_bytes i) ≤ length out → output_of i out ≡ instr_bytes i ++ drop (length (instr_bytes i)) out
unfolding output_of output_after
encode_output i out ok h = rw (encode_done i out ok h)

pub encode_stands : (i : Instr) (out : List ℕ) → InRange i → length (instr_bytes i) ≤ length out → decode_at (output_of i out) 0 ≡ Ok (i, length (instr_bytes i))
unfolding decode_at
encode_stands i out ok h = rw (encode_output i out ok h) (encode_decode i ok (drop (length (instr_bytes i)) out))

-- decoded bytes encode back to exactly those bytes
pub decode_encode : (code : List ℕ) (place : ℕ) (i : Instr) (n : ℕ) (out : List ℕ) → Bytes code → decode_at code place ≡ Ok (i, n) → n ≤ length out →
    (encoded_of i out ≡ Ok n) × (output_of i out ≡ take n (drop place code) ++ drop n out)
decode_encode code place i n out all h room =
    let r = decode_stands code place i n all h in
    let l : length (instr_bytes i) ≤ length out = omega (arith, r.size) in
    (rw r.size (encode_done i out r.in_range l), rw (r.bytes, r.size) (encode_output i out r.in_range l))
