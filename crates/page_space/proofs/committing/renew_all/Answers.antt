use Rattle.std.proofs.Common.{◌≡◌, None, refl, sym, ◌∙◌, rules}
use Rattle.page_cache.specs.Cache.{kept_pages}
use Rattle.redo_journal.specs.Images.{coming}
use Rattle.page_space.proofs.Renewing.{none_renewed, one_renewed}
use Rattle.page_space.proofs.committing.renew_all.Goals as goal

pub loop-page-init : goal.loop-page-init
loop-page-init c = (λ p. rw (c.in_order-rest.ensures.all, c.in_order-rest.ensures.map), refl)

pub loop-page-preserved : goal.loop-page-preserved
loop-page-preserved c = (
  λ p. one_renewed (kept_pages c.loop-page.cache) (kept_pages c.renew.new.self) _ _ (coming c.next.new.self) c.in-Some.ensures.once c.renew.ensures.pages p
      ∙ rw c.in-Some.ensures.some at (c.loop-page.invariant.0 p),
  c.renew.ensures.capacity ∙ c.loop-page.invariant.1,
)

pub returns-clause-pages : goal.returns-clause-pages
returns-clause-pages c = λ p.
    let none : c.next.result ≡ None = search rules in
    sym (none_renewed (kept_pages c.loop-page.cache) p) ∙ rw (c.next.ensures.none none) at (c.loop-page.invariant.0 p)
