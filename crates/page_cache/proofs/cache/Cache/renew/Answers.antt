use Rattle.page_cache.specs.Cache.{kept_pages}
use Rattle.page_cache.proofs.Agreement.{renewed-agrees}
use Rattle.page_cache.proofs.cache.Cache.renew.Goals as goal

pub returns-clause-agrees : goal.returns-clause-agrees
returns-clause-agrees c = renewed-agrees (kept_pages c.args.self.now) _ c.args.page c.args.buf.now c.rewrite.ensures.pages
