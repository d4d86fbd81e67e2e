use Rattle.page_space.proofs.Created.{created_space}
use Rattle.page_space.proofs.laws.created_holds.Goals as goal

pub returns : goal.returns
returns c = created_space
