use Rattle.std.proofs.Common.{sym, ◌∙◌}
use Rattle.std.proofs.lemmas.Option.{none-some}
use Rattle.page_layout.specs.declared.super_page.Super.{Super}
use Rattle.settled_pages.proofs.settled.SettledPages.params.Goals as goal

pub returns-in-None-clause-none : goal.returns-in-None-clause-none
returns-in-None-clause-none g c = λ told long params s.
    let value : Super = record { params = params } in
    let bytes = rw c.in-Some.is at c.in_ok-page.ensures.some in
    none-some value (sym c.in-None.is ∙ c.read.ensures.only value tt s.rules (bytes told ∙ s.spelled))
