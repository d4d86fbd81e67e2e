use Rattle.std.proofs.Common.{inl, inr}
use Rattle.span_planes.specs.SpanHolds.{without_degree}
use Rattle.span_planes.proofs.NoVersionSpans.{space_of}
use Rattle.span_planes.proofs.looking.look.Goals as goal

pub returns-in-Err-BadJournal-clause-seen : goal.returns-in-Err-BadJournal-clause-seen
returns-in-Err-BadJournal-clause-seen g c = λ told may.
    let x = g.E.Disk.image c.args.second.now in
    let bad = rw c.in-Err-BadJournal.field-0-is at c.in-Err-BadJournal.ensures.bad in
    elim may [
      | inl none ↦ absurd (elim (c.in-Err-BadJournal.ensures.always_empty told none) [ inl is ↦ cc | inr is ↦ cc ])
      | inr held ↦ (c.held_opens.ensures x (without_degree c.args.params.now) held.meta held.pages (space_of c.args.params.now x held)).not_bad _ (bad told)
    ]
