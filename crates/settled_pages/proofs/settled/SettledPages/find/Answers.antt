use Rattle.std.proofs.Common.{◌∙◌, subst}
use Rattle.page_disk.specs.Image.{Image}
use Rattle.page_space.specs.Settling.{IsBadAt}
use Rattle.settled_pages.proofs.FaultLemmas.{found_or_no_memory}
use Rattle.settled_pages.proofs.RootLemmas.{never_bad}
use Rattle.settled_pages.proofs.settled.SettledPages.find.Goals as goal

pub returns-in-Armed-clause-found : goal.returns-in-Armed-clause-found
returns-in-Armed-clause-found g c = λ told pages settles.
    found_or_no_memory c.armed.result _ c.armed.ensures.only c.armed.ensures.bad
    (λ page bad. never_bad (g.D.Disk.image c.args.disk.now) pages c.settling_laws.ensures.apart settles page
    (subst (λ (x : Image). IsBadAt x page) c.gate_on.ensures.reads.image (bad (c.gate_on.ensures.reads.tells ∙ told))))
