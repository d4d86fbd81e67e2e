use Rattle.page_space.proofs.Giving.{none_within}
use Rattle.page_space.proofs.Staging.{none_put}
use Rattle.page_space.proofs.space.Space.begin.Goals as goal

pub invariant_of-result-clause-within : goal.invariant_of-result-clause-within
invariant_of-result-clause-within g c = none_within _ _ c.new.ensures.map

pub returns-clause-map : goal.returns-clause-map
returns-clause-map g c = (none_put _ _ _ _ c.new.ensures.map c.copied.ensures.value).0

pub returns-clause-in_order : goal.returns-clause-in_order
returns-clause-in_order g c = (none_put _ _ _ _ c.new.ensures.map c.copied.ensures.value).2

pub returns-clause-chain : goal.returns-clause-chain
returns-clause-chain g c = (none_put _ _ _ _ c.new.ensures.map c.copied.ensures.value).1
