use Rattle.page_cache.proofs.Kept.{keeps_few}
use Rattle.page_cache.proofs.cache.Cache.few_law.Goals as goal

pub returns : goal.returns
returns c = keeps_few _ _ c.len-len.ensures.valid.1
