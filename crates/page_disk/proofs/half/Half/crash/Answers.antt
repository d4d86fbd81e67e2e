use Rattle.std.proofs.Common.{arith}
use Rattle.page_disk.proofs.CrashLemmas.{undone-is_synced, refilled-is_filled}
use Rattle.page_disk.proofs.half.Half.crash.Goals as goal

pub returns-clause-pages : goal.returns-clause-pages
returns-clause-pages c = grind (arith, undone-is_synced, refilled-is_filled)
