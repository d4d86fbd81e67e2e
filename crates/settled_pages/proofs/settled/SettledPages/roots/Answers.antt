use Rattle.std.proofs.Common.{◌∙◌, subst}
use Rattle.page_disk.specs.Image.{Image}
use Rattle.page_space.specs.Opening.{HasNoMeta}
use Rattle.settled_pages.specs.Shown.{pages_shown}
use Rattle.settled_pages.proofs.RootLemmas.{no_params, no_meta}
use Rattle.settled_pages.proofs.settled.SettledPages.roots.Goals as goal

pub returns-in-None-clause-none : goal.returns-in-None-clause-none
returns-in-None-clause-none g c = λ told params meta map h.
    let none = rw c.in-None.is at c.in_ok-params.ensures.none in
    no_params c.settling_laws.ensures.one _ _ (c.requires told).settles params meta map h (none told)

pub returns-in-None-2-clause-none : goal.returns-in-None-2-clause-none
returns-in-None-2-clause-none g c = λ told params meta map h.
    let some = rw c.in-Some.is at c.in_ok-params.ensures.some in
    let none = rw c.in-None-2.is at c.in_ok-meta-in-Some.ensures.none in
    no_meta c.settling_laws.ensures.one _ _ (c.requires told).settles params meta map h c.one_spelling.ensures _ (some told)
    (subst (λ (x : Image). HasNoMeta (pages_shown x c.args.self.now) c.in-Some.params.pages) c.params.ensures.reads.image (none (c.params.ensures.reads.tells ∙ told)))
