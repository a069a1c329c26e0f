-- The parts of what a Hash may authorise, as the code takes them.
use Rattle.std.specs.Prelude.{ℕ, ◌+◌, leb}
use Rattle.words.specs.Choice.{pick}
use Rattle.keys.specs.Known.{Keys}
use Rattle.keys.specs.Steps.{keyed}
use Rattle.keys.specs.declared.authorise.KeyPlan.{KeyPlan}
use Rattle.machine.specs.Machine.{Env, Machine, keys_to, keyed_to}
use Rattle.machine.specs.Rules.{Rule, next, need}
use Rattle.machine.specs.CryptoRules.{authorising}

-- authorising by a plan, once it is paid
abbrev pub settling : KeyPlan → Keys → Machine → Rule
settling p want m = need (leb (m.keyed + p.bytes) 1048576) 11 (need p.room 48 (next (keys_to (keyed_to m (m.keyed + p.bytes)) want)))

-- a key made from a base
abbrev pub admitting : Env → (base k : ℕ) → Machine → Rule
admitting e base k m = pick (keyed e.keys base) (authorising e base k m) (next m)
