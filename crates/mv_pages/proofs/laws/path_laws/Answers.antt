use Rattle.std.proofs.Common.{None}
use Rattle.mv_pages.proofs.LowOrder.{path_low, next_low, same_path}
use Rattle.mv_pages.proofs.LowsAround.{low_at_from, low_above_before, low_between}
use Rattle.mv_pages.proofs.laws.path_laws.Goals as goal

pub returns-clause-low : goal.returns-clause-low
returns-clause-low c = λ entries key v. path_low entries key v

pub returns-clause-next : goal.returns-clause-next
returns-clause-next c = λ entries key v. next_low entries key v

pub returns-clause-same : goal.returns-clause-same
returns-clause-same c = λ entries key other v same. same_path entries key other v same

pub returns-clause-from : goal.returns-clause-from
returns-clause-from c = λ lows key low at. low_at_from lows key low at

pub returns-clause-before : goal.returns-clause-before
returns-clause-before c = λ lows key next at. low_above_before lows key next at

pub returns-clause-between : goal.returns-clause-between
returns-clause-between c = λ lows key other up le ends. low_between lows None key other up le ends
