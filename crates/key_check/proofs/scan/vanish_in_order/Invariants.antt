use Rattle.key_check.proofs.Scanning.{Scanned}
use Rattle.key_check.proofs.scan.vanish_in_order.Given as goal

abbrev pub invariant-loop-corner : goal.invariant-loop-corner
invariant-loop-corner l = Scanned l.corners l.corner-index l.last
