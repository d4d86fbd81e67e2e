use Rattle.std.proofs.Common.{◌≡◌, true, IsTrue, sym, subst}
use Rattle.page_warehouse.specs.Shown.{meta_in, params_in}
use Rattle.redo_journal.specs.Gates.{is_empty}
use Rattle.compact_store.specs.Kept.{kept}
use Rattle.compact_store.specs.Putting.{IsReady}
use Rattle.compact_store.specs.declared.compacting.Compacted.TheVariants.{Disk}
use Rattle.compact_store.proofs.Filled.{new_ready, new_failed, some_of_any}
use Rattle.compact_store.proofs.compacting.compact.Given
use Rattle.compact_store.proofs.compacting.compact.Goals.{In-Done}
use Rattle.compact_store.proofs.compacting.compact.Goals as goal

-- the new warehouse is ready for any history
ready : (g : Given.Over) (c : In-Done g) → IsTrue (g.E.Disk.tells c.args.second) → is_empty (g.E.Disk.image c.args.second) ≡ true
    → IsReady g.E.Disk g.X.DomIndex (params_in c.args.house.now) c.args.second c.in-Done.second
ready g c told empty =
    new_ready g.E.Disk g.X.DomIndex c.created_holds.ensures (params_in c.args.house.now) c.params.result c.args.second c.in-Done.second c.params.ensures.value c.params.ensures.in_range c.args.house.now.dims
    (subst IsTrue (sym c.in-Done.ensures.tells) told) (c.in-Done.ensures.made told).1 c.in-Done.ensures.settled (c.in-Done.ensures.any_moment told empty)

pub returns-in-Done-clause-leaves : goal.returns-in-Done-clause-leaves
returns-in-Done-clause-leaves g c = λ h held le told empty.
    c.compact_to.ensures.leaves h c.args.second held (c.last-last.ensures.held true h held) (ready g (goal.at.returns-in-Done-clause-leaves g c).In-Done told empty)

pub returns-in-Done-clause-some : goal.returns-in-Done-clause-some
returns-in-Done-clause-some g c = λ le told empty. c.compact_to.ensures.some c.args.second (ready g (goal.at.returns-in-Done-clause-some g c).In-Done told empty)

pub returns-in-Done-clause-sound : goal.returns-in-Done-clause-sound
returns-in-Done-clause-sound g c = λ h e page held le told empty.
    c.compact_to.ensures.sound h c.args.second e page held (c.last-last.ensures.held true h held) (ready g (goal.at.returns-in-Done-clause-sound g c).In-Done told empty)

pub returns-in-Disk-clause-leaves : goal.returns-in-Disk-clause-leaves
returns-in-Disk-clause-leaves g c = λ h held le told empty.
    new_failed g.E.Disk g.X.DomIndex c.created_holds.ensures (params_in c.args.house.now) c.params.result (kept h c.args.version) c.args.second c.in-Disk.second
    c.params.ensures.value c.params.ensures.in_range c.args.house.now.dims (c.in-Disk.ensures.any_moment told empty)

pub returns-in-Disk-clause-some : goal.returns-in-Disk-clause-some
returns-in-Disk-clause-some g c = λ le told empty.
    some_of_any g.E.Disk g.X.DomIndex (params_in c.args.house.now) (meta_in c.args.house.now) c.args.version c.args.second (Disk c.in-Disk.second) (λ e rows so. cc) (λ whole.
    new_failed g.E.Disk g.X.DomIndex c.created_holds.ensures (params_in c.args.house.now) c.params.result whole c.args.second c.in-Disk.second
    c.params.ensures.value c.params.ensures.in_range c.args.house.now.dims (c.in-Disk.ensures.any_moment told empty))
