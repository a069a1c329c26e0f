-- Jumps: a target must be an instruction start (7). A call pushes first, a return pops first; an untaken jump is not checked (document 01, The run).
use Rattle.std.specs.Prelude.{ℕ, eqb}
use Rattle.words.specs.Choice.{pick}
use Rattle.words.specs.Lists.{member}
use Rattle.state.specs.Regs.{reg}
use Rattle.machine.specs.Machine.{Env, Machine, pc_to}
use Rattle.machine.specs.Rules.{Rule, next, need}
use Rattle.machine.specs.MoveRules.{pushing, popping}
use Rattle.machine.specs.declared.action.Jump.{Jump}
use Rattle.machine.specs.declared.action.Jump.TheVariants.{Jmp, Jz, Jnz, Call, Ret}

abbrev pub jumping : Env → ℕ → Machine → Rule
jumping e target m = need (member target e.starts) 7 (next (pc_to m target))

unfoldable pub jump_of : Env → Jump → Machine → Rule
jump_of e (Jmp target) m = jumping e target m
jump_of e (Jz a target) m = pick (eqb (reg m.regs a) 0) (jumping e target m) (next m)
jump_of e (Jnz a target) m = pick (eqb (reg m.regs a) 0) (next m) (jumping e target m)
jump_of e (Call target) m = pushing m m.pc (jumping e target)
jump_of e Ret m = popping m (jumping e)
