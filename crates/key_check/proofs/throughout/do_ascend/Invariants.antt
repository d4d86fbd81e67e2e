use Rattle.std.proofs.Common.{◌≡◌, drop}
use Rattle.mv_pages.specs.Lows.{ascend, ascend_from}
use Rattle.key_check.proofs.throughout.do_ascend.Given as goal

abbrev pub invariant-loop-low : goal.invariant-loop-low
invariant-loop-low l = ascend l.lows ≡ ascend_from l.last (drop l.low-index l.lows)
