use Rattle.page_space.proofs.Unique.{held_opens}
use Rattle.page_space.proofs.laws.held_opens.Goals as goal

pub returns : goal.returns
returns c = held_opens c.settling_laws.ensures.one c.settling_laws.ensures.apart c.one_spelling.ensures
