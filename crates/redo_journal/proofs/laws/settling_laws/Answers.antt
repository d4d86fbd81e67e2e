use Rattle.redo_journal.proofs.GroupLemmas.{holds_unbroken, breaks_one}
use Rattle.redo_journal.proofs.SettledLemmas.{settles_one}
use Rattle.redo_journal.proofs.CommitLemmas.{idle_settles, armed_settles}
use Rattle.redo_journal.proofs.laws.settling_laws.Goals as goal

pub returns-clause-one : goal.returns-clause-one
returns-clause-one c = settles_one c.one_spelling.ensures

pub returns-clause-apart : goal.returns-clause-apart
returns-clause-apart c = λ x images page holds breaks. holds_unbroken c.one_spelling.ensures holds breaks

pub returns-clause-first : goal.returns-clause-first
returns-clause-first c = λ x page other a b. breaks_one c.one_spelling.ensures a b

pub returns-clause-idle : goal.returns-clause-idle
returns-clause-idle c = idle_settles

pub returns-clause-armed : goal.returns-clause-armed
returns-clause-armed c = armed_settles
