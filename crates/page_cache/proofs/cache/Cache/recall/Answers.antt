use Rattle.std.proofs.Common.{◌∙◌, ap, ℕ}
use Rattle.lru.specs.LruCache.{LruCache}
use Rattle.page_cache.proofs.Kept.{Room, kept, kept-promoted}
use Rattle.page_cache.proofs.cache.Cache.recall.Goals as goal

pub returns-in-Some-clause-same : goal.returns-in-Some-clause-same
returns-in-Some-clause-same c = λ p. ap (λ (l : LruCache ℕ Room). kept l.entries p) c.get.follows.holds-at-none ∙ kept-promoted c.args.page p _

pub returns-in-None-clause-same : goal.returns-in-None-clause-same
returns-in-None-clause-same c = λ p. ap (λ (l : LruCache ℕ Room). kept l.entries p) c.get.follows.holds-at-none ∙ kept-promoted c.args.page p _
