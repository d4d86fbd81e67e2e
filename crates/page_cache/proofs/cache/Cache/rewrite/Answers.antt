use Rattle.std.proofs.Common.{◌∙◌, ap, sym}
use Rattle.std.specs.Option.{option_copied_mut}
use Rattle.page_cache.proofs.Kept.{kept-set}
use Rattle.page_cache.proofs.cache.Cache.rewrite.Goals as goal

pub returns-in-Some-clause-pages : goal.returns-in-Some-clause-pages
returns-in-Some-clause-pages c = λ p. kept-set c.args.page p _ _ _ (sym c.peek_mut.ensures.value ∙ ap option_copied_mut c.in-Some.is)
