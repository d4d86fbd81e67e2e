use Rattle.std.proofs.Common.{◌≡◌, take}
use Rattle.mv_pages.specs.Lows.{alive_lows}
use Rattle.key_check.proofs.throughout.put_lows.Given as goal

abbrev pub invariant-loop-e : goal.invariant-loop-e
invariant-loop-e l = l.lows.items ≡ alive_lows (take l.e-index l.entries) l.version
