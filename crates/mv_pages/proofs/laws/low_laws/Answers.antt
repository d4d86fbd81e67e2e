use Rattle.std.proofs.Common.{refl, None}
use Rattle.std.specs.Prelude.{IsTrue}
use Rattle.mv_pages.proofs.Order.{ordered}
use Rattle.mv_pages.proofs.LowOrder.{ascends, put_ascends, put_each, put_first, put_fewer}
use Rattle.mv_pages.proofs.LowsAround.{low_at_put, low_above_put}
use Rattle.mv_pages.proofs.laws.low_laws.Goals as goal

pub returns-clause-alive : goal.returns-clause-alive
returns-clause-alive c = λ level v es entries can. ascends v es None (ordered es entries.order) can.once (λ k d h. refl)

pub returns-clause-ascending : goal.returns-clause-ascending
returns-clause-ascending c = λ low lows up. put_ascends low lows None refl up

pub returns-clause-each : goal.returns-clause-each
returns-clause-each c = λ test low lows here all. put_each (λ l. IsTrue (test l)) low lows here all

pub returns-clause-first : goal.returns-clause-first
returns-clause-first c = λ low first lows le. put_first low first lows le

pub returns-clause-fewer : goal.returns-clause-fewer
returns-clause-fewer c = λ low lows. put_fewer low lows

pub returns-clause-at : goal.returns-clause-at
returns-clause-at c = λ low key lows up. low_at_put low lows None key up

pub returns-clause-above : goal.returns-clause-above
returns-clause-above c = λ low key lows. low_above_put low lows key
