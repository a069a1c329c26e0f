-- What passes a constructor's test is that constructor; which opcodes' flow is on to the next instruction. Assumes nothing.
use Rattle.std.specs.Prelude.{ℕ, ◌≡◌, refl, Bool, true, false, not, List, [], ◌∷◌, map}
use Rattle.std.proofs.Common.{arith}
use Rattle.words.specs.Lists.{member}
use Rattle.isa.specs.declared.opcode.OpCode.{OpCode}
use Rattle.isa.specs.declared.opcode.OpCode.TheVariants.{Halt, Jmp, Jz, Jnz, Call, Ret}
use Rattle.isa.specs.declared.flow.Flow.{Flow}
use Rattle.isa.specs.declared.flow.Flow.TheVariants.{Next, Stop, Jump, Branch, Enter, Return}
use Rattle.isa.specs.Table.{row_of, byte_of}
use Rattle.isa.specs.TableLaws.{tests_where}
use Rattle.isa.specs.Forms.{instr_of}
use Rattle.isa.specs.Flow.{flow_of}

abbrev is_next : Flow → Bool
is_next Next = true
is_next Stop = false
is_next (Jump place) = false
is_next (Branch place) = false
is_next (Enter place) = false
is_next Return = false

none : {A : Type 0} {x y : A} → false ≡ true → x ≡ y
none h = absurd (let z : ◌≡◌ {A = ℕ} 0 1 = cc in omega arith)

next_is : (f : Flow) → is_next f ≡ true → f ≡ Next
next_is Next h = refl
next_is Stop h = none h
next_is (Jump place) h = none h
next_is (Branch place) h = none h
next_is (Enter place) h = none h
next_is Return h = none h

-- all opcodes but these go on
abbrev pub goes_on : OpCode → Bool
goes_on o = not (member (byte_of o) (map byte_of (Halt ∷ Jmp ∷ Jz ∷ Jnz ∷ Call ∷ Ret ∷ [])))

pub goes_on_lem : (o : OpCode) (r : List ℕ) (n : ℕ) → goes_on o ≡ true → flow_of (instr_of o r n) ≡ Next
unfolding member row_of flow_of instr_of
goes_on_lem o r n h = next_is (flow_of (instr_of o r n)) (tests_where goes_on (λ (p : OpCode). is_next (flow_of (instr_of p r n))) refl o h)
