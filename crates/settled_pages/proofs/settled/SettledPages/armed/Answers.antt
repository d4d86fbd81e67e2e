use Rattle.std.proofs.Common.{◌∙◌, ap, length}
use Rattle.page_disk.specs.Image.{Image}
use Rattle.settled_pages.proofs.ArmedLemmas.{found_is}
use Rattle.settled_pages.proofs.settled.SettledPages.armed.Goals as goal

pub returns-clause-ok : goal.returns-clause-ok
returns-clause-ok g c = λ told.
    let first = c.len.ensures.tells ∙ told in
    found_is _ _ _ c.in_ok-end.end (c.len-2.ensures.image ∙ c.len.ensures.image) (c.requires told) (c.in_ok-area.ensures.ok told)
    (c.in_ok-end.ensures.ok first ∙ ap (λ (x : Image). length x.journal) c.len.ensures.image) (c.in_ok-found.ensures.held (c.len-2.ensures.tells ∙ first))
    c.in_ok-found.ensures.before c.in_ok-found.ensures.last
