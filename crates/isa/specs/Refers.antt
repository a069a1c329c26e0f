-- What an instruction refers to: Ldc to a constant by its index, a jump, a branch or a call to its target (document 01, Container).
use Rattle.std.specs.Prelude.{ℕ}
use Rattle.isa.specs.declared.opcode.Kind.{Kind}
use Rattle.isa.specs.declared.opcode.Kind.TheVariants.{Registers, Constant, Other}
use Rattle.isa.specs.declared.instr.Instr.{Instr}
use Rattle.isa.specs.declared.flow.Flow.{Flow}
use Rattle.isa.specs.declared.flow.Flow.TheVariants.{Next, Stop, Jump, Branch, Enter, Return}
use Rattle.isa.specs.declared.flow.Refers.{Refers}
use Rattle.isa.specs.declared.flow.Refers.TheVariants.{Const, Target, Nothing}
use Rattle.isa.specs.Forms.{form_of}
use Rattle.isa.specs.Kinds.{kind_of}
use Rattle.isa.specs.Flow.{flow_of}

-- the place that a flow names
unfoldable pub aim_of : Flow → Refers
aim_of Next = Nothing
aim_of Stop = Nothing
aim_of (Jump place) = Target place
aim_of (Branch place) = Target place
aim_of (Enter place) = Target place
aim_of Return = Nothing

-- by an instruction's kind, number and flow
unfoldable pub refers_by : Kind → ℕ → Flow → Refers
refers_by Registers number flow = Nothing
refers_by Constant number flow = Const number
refers_by Other number flow = aim_of flow

unfoldable pub refers_to : Instr → Refers
refers_to i = refers_by (kind_of (form_of i).op) (form_of i).number (flow_of i)
