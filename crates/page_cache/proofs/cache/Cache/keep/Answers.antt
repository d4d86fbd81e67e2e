use Rattle.page_cache.proofs.Kept.{kept-put}
use Rattle.page_cache.proofs.cache.Cache.keep.Goals as goal

pub returns-in-Ok-Some-clause-also : goal.returns-in-Ok-Some-clause-also
returns-in-Ok-Some-clause-also c = kept-put c.push.result _ _ _ _ _ _ c.copied.ensures.pages c.in-Some.ensures.value c.push.ensures.entries c.push.ensures.err

pub returns-in-Ok-None-clause-also : goal.returns-in-Ok-None-clause-also
returns-in-Ok-None-clause-also c = kept-put c.push.result _ _ _ _ _ _ c.copied.ensures.pages c.in-Some.ensures.value c.push.ensures.entries c.push.ensures.err
