use Rattle.std.proofs.Common.{arith}
use Rattle.page_disk.specs.HistoryLaws.{history_of-fits}
use Rattle.page_disk.proofs.CrashLemmas.{area_may_be_left}
use Rattle.page_disk.proofs.mem_disk.MemDisk.crash.Goals as goal

pub returns-clause-left : goal.returns-clause-left
returns-clause-left c = grind (arith, history_of-fits)

pub returns-clause-may_be_left : goal.returns-clause-may_be_left
returns-clause-may_be_left c = grind (arith, history_of-fits, area_may_be_left)
