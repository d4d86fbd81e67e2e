use Rattle.mv_pages.proofs.Later.{later_changeable, later_count}
use Rattle.mv_pages.proofs.LivingLows.{later_lows}
use Rattle.mv_pages.proofs.laws.later_laws.Goals as goal

pub returns-clause-changeable : goal.returns-clause-changeable
returns-clause-changeable c = λ v w es late last can. later_changeable v w es late last can

pub returns-clause-alive : goal.returns-clause-alive
returns-clause-alive c = λ v w low es late can. later_count v w low es can.last late can.past

pub returns-clause-lows : goal.returns-clause-lows
returns-clause-lows c = λ v w es late can. later_lows v w es can.last late can.past
