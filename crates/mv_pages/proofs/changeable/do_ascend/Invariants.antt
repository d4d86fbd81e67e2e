use Rattle.std.proofs.Common.{◌≡◌, drop}
use Rattle.mv_pages.specs.Lows.{alive_lows, ascend, ascend_from}
use Rattle.mv_pages.proofs.changeable.do_ascend.Given as goal

abbrev pub invariant-loop-e : goal.invariant-loop-e
invariant-loop-e l = ascend (alive_lows l.entries l.version) ≡ ascend_from l.last (alive_lows (drop l.e-index l.entries) l.version)
