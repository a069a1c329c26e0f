use Prim.Native.Nat.{◌-◌}
use lib.ListN.{length}
use Rattle.starts.proofs.ScanLaws.{Scanning}
use Rattle.starts.proofs.scan.scan.Given as goal

abbrev pub invariant-loop-place : goal.invariant-loop-place
invariant-loop-place l = Scanning l.code l.consts l.initial.map l.place l.map

abbrev pub decreases-loop-place : goal.decreases-loop-place
decreases-loop-place l = length l.code - l.place
