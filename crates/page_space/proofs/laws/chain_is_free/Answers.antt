use Rattle.page_space.proofs.Walking.{chain_free}
use Rattle.page_space.proofs.laws.chain_is_free.Goals as goal

pub returns : goal.returns
returns c = chain_free
