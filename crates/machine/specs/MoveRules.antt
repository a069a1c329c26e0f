-- Constants, the stack and memory (document 01, Numbers returned: 8, 4, 5, 6).
use Rattle.std.specs.Prelude.{List, [], ◌∷◌, ℕ, ltb, length, take, drop, get_or}
use Rattle.words.specs.Bytes.{num}
use Rattle.state.specs.Regs.{reg}
use Rattle.state.specs.Memory.{inside, stored_at}
use Rattle.machine.specs.Machine.{Env, Machine, reg_to, memory_to, stack_to}
use Rattle.machine.specs.Rules.{Rule, next, need, stop}
use Rattle.machine.specs.declared.action.Move.{Move}
use Rattle.machine.specs.declared.action.Move.TheVariants.{Ldc, Push, Pop, MLoad, MStore}

-- a word onto a stack of at most 1024 (4)
abbrev pub pushing : Machine → ℕ → (Machine → Rule) → Rule
pushing m v then = need (ltb (length m.stack) 1024) 4 (then (stack_to m (v ∷ m.stack)))

-- the last word off the stack (5)
abbrev pub popping_from : List ℕ → Machine → (ℕ → Machine → Rule) → Rule
popping_from [] m then = stop 5 m
popping_from (v ∷ st) m then = then v (stack_to m st)

abbrev pub popping : Machine → (ℕ → Machine → Rule) → Rule
popping m then = popping_from m.stack m then

unfoldable pub move_of : Env → Move → Machine → Rule
move_of e (Ldc d k) m = need (ltb k (length e.consts)) 8 (next (reg_to m d (get_or e.consts k 0)))
move_of e (Push a) m = pushing m (reg m.regs a) next
move_of e (Pop d) m = popping m (λ v p. next (reg_to p d v))
move_of e (MLoad d a) m = need (inside (length m.memory) (reg m.regs a) 8) 6 (next (reg_to m d (num (take 8 (drop (reg m.regs a) m.memory)))))
move_of e (MStore a b) m =
    need (inside (length m.memory) (reg m.regs a) 8) 6 (next (memory_to m (stored_at m.memory (reg m.regs a) (reg m.regs b))))
