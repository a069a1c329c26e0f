-- Which register an access reads its key by.
use Rattle.std.specs.Prelude.{ℕ}
use Rattle.machine.specs.declared.action.Access.{Access}
use Rattle.machine.specs.declared.action.Access.TheVariants.{SLoad, SStore}

-- the register that says where the key of an access stands
abbrev pub key_register : Access → ℕ
key_register (SLoad d a) = a
key_register (SStore a b) = a
