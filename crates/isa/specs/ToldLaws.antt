-- What an arm of a match is told decides what a function by cases gives there. Assumes nothing.
use Rattle.std.specs.Prelude.{ℕ, ◌%◌, ◌<◌, ◌≡◌, List}
use Rattle.std.proofs.Common.{sym, ap, ◌∙◌, mod-eq_of_lt}
use Rattle.isa.specs.declared.opcode.OpCode.{OpCode}
use Rattle.isa.specs.declared.opcode.Kind.{Kind}
use Rattle.isa.specs.declared.instr.Instr.{Instr}
use Rattle.isa.specs.declared.instr.Parts.{Parts}
use Rattle.isa.specs.declared.flow.Flow.{Flow}
use Rattle.isa.specs.declared.flow.Refers.{Refers}
use Rattle.isa.specs.Forms.{form_of, padded, instr_of}
use Rattle.isa.specs.FormLaws.{rebuilt}
use Rattle.isa.specs.Flow.{flow_of}
use Rattle.isa.specs.Kinds.{kind_of}
use Rattle.isa.specs.Refers.{refers_by, refers_to}

told : {A B : Type 0} (f : A → B) {x y : A} {z : B} → x ≡ y → f y ≡ z → z ≡ f x
told f e h = sym (ap f e ∙ h)

pub instr_told : (o p : OpCode) (r : List ℕ) (n : ℕ) (i : Instr) → o ≡ p → instr_of p r n ≡ i → i ≡ instr_of o r n
instr_told o p r n i = told (λ (q : OpCode). instr_of q r n)

-- a number within its width stays when it is cut to it
pub cut_told : (o p : OpCode) (r : List ℕ) (n m : ℕ) (i : Instr) → o ≡ p → n < m → instr_of p r (n % m) ≡ i → i ≡ instr_of o r n
cut_told o p r n m i e l h = instr_told o p r n i e (ap (instr_of p r) (sym (mod-eq_of_lt l)) ∙ h)

-- an instruction of which the opcode is told
pub flow_told : (i : Instr) (p : Parts) (o : OpCode) (f : Flow) → p ≡ padded (form_of i) → p.0 ≡ o → flow_of (instr_of o (form_of i).regs p.2) ≡ f →
    f ≡ flow_of i
flow_told i p o f parts op h =
    let of : o ≡ (form_of i).op = sym op ∙ ap (λ (q : Parts). q.0) parts in
    sym h ∙ (λ j. flow_of (instr_of (of j) (form_of i).regs (parts j).2)) ∙ ap flow_of (rebuilt i)

-- and its kind
pub refers_told : (i : Instr) (p : Parts) (k l : Kind) (r : Refers) → p ≡ padded (form_of i) → k ≡ kind_of p.0 → k ≡ l → refers_by l p.2 (flow_of i) ≡ r →
    r ≡ refers_to i
unfolding refers_to
refers_told i p k l r parts kind is h =
    let of : l ≡ kind_of (form_of i).op = sym is ∙ kind ∙ ap (λ (q : Parts). kind_of q.0) parts in
    sym h ∙ (λ j. refers_by (of j) (parts j).2 (flow_of i))
