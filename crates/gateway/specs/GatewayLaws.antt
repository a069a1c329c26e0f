-- Equal calls come to the same. Assumes nothing.
use Rattle.std.specs.Prelude.{◌≡◌, List, ℕ}
use Rattle.opening.specs.Opening.{Lent}
use Rattle.opening.specs.Opened.{input_of}
use Rattle.opening.specs.declared.open.Call.{Call}
use Rattle.gateway.specs.Boundary.{Told}
use Rattle.gateway.specs.Gateway.{gateway_of}

pub same_call : (k j : Call) (s st ld rp pre : List ℕ) (b : Lent) (l : List ℕ) (t : Told Lent) → k ≡ j → t ≡ gateway_of (input_of k s st ld rp pre) b l →
    t ≡ gateway_of (input_of j s st ld rp pre) b l
same_call k j s st ld rp pre b l t e h = rw (← e) h
