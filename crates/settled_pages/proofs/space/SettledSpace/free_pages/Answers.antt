use Rattle.std.proofs.Common.{◌∙◌, ap, subst, length, length-append, arith, [], ◌∷◌}
use Rattle.page_disk.specs.Image.{page_at}
use Rattle.page_layout.specs.declared.free_page.FreePage.{FreePage}
use Rattle.page_space.specs.Chain.{LeadsOn}
use Rattle.settled_pages.specs.Looked.{Looked}
use Rattle.settled_pages.specs.Shown.{pages_shown}
use Rattle.settled_pages.proofs.ChainLemmas.{more_walked, all_walked, walk_breaks, walk_lasts}
use Rattle.settled_pages.proofs.space.SettledSpace.free_pages.Goals as goal

pub returns-then-len-allotted-clause-none : goal.returns-then-len-allotted-clause-none
returns-then-len-allotted-clause-none g c = λ told order.
    walk_lasts _ _ (c.loop-page.invariant.walked told) c.loop-page-test.true (omega (arith, c.if-len-allotted.true, c.len.ensures)) order

pub returns-in-None-clause-none : goal.returns-in-None-clause-none
returns-in-None-clause-none g c = λ told order.
    let inv = c.loop-page.invariant in
    let none = rw c.in-None.is at c.in_ok-next.ensures.none in
    walk_breaks _ _ (inv.walked told) c.loop-page-test.true
    (subst (λ (k : Looked). (free : FreePage) → LeadsOn (page_at (pages_shown k.image k.found)) k.meta.allotted c.loop-page.page free → ⊥) inv.looked
    (none (ap (λ (k : Looked). k.tells) inv.looked ∙ told))) order

pub loop-page-preserved : goal.loop-page-preserved
loop-page-preserved g c =
    let inv = c.loop-page.invariant in
    let some = rw c.in-Some.is at c.in_ok-next.ensures.some in
    let pushed = c.in-Ok.ensures.items in
    let size = ap length pushed ∙ length-append c.loop-page.pages.items (c.loop-page.page ∷ []) in
    record {
      walked = λ told.
          rw pushed (more_walked _ _ (inv.walked told) c.in-Some.next c.loop-page-test.true
          (subst (λ (k : Looked). LeadsOn (page_at (pages_shown k.image k.found)) k.meta.allotted c.loop-page.page (record { next = c.in-Some.next })) inv.looked
          (some (ap (λ (k : Looked). k.tells) inv.looked ∙ told))));
      few = omega (arith, size, c.if-len-allotted.false, c.len.ensures);
      looked = c.next_free.ensures.looked ∙ inv.looked;
      faults = c.in_ok-next.ensures.reads.faults ∙ inv.faults;
      reads = omega (arith, size);
      rise = omega arith;
    }

pub returns-clause-some : goal.returns-clause-some
returns-clause-some g c = λ told. all_walked _ _ (c.loop-page.invariant.walked told) c.loop-page-test.false
