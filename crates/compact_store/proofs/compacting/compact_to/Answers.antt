use Rattle.std.proofs.Common.{◌≡◌, ℕ, ◌≤◌, Err, List, drop, length, sym, ◌∙◌, ap, subst, arith}
use Rattle.bw_types.specs.History.{History, last_version}
use Rattle.bw_types.specs.Lawful.{IsLawful}
use Rattle.page_warehouse.specs.declared.event.Event.{Event}
use Rattle.page_warehouse.specs.Shown.{meta_in, params_in}
use Rattle.compact_store.specs.Compacted.{LeavesPart, LeavesSome}
use Rattle.compact_store.specs.Cuts.{batches_of, count_to}
use Rattle.compact_store.specs.Keeping.{IsKept}
use Rattle.compact_store.specs.Kept.{kept}
use Rattle.compact_store.proofs.Cutting.{all_there, all_versions, kept_cut, later_there}
use Rattle.compact_store.proofs.Filled.{ended_damaged, ended_undone, nothing_gathered, some_of_any}
use Rattle.compact_store.proofs.KeptLaws.{kept_lawful}
use Rattle.compact_store.proofs.compacting.compact_to.Given
use Rattle.compact_store.proofs.compacting.compact_to.Goals.{After-deref-in-Ok}
use Rattle.compact_store.proofs.compacting.compact_to.Goals as goal

-- the events that are gathered, from the version on
left : (g : Given.Over) (c : After-deref-in-Ok g) → c.events_after-later.result.now ≡ drop (count_to c.args.version c.in-Ok.kept.events.items) c.in-Ok.kept.events.items
left g c = c.events_after-later.ensures ∙ ap (λ (es : List Event). drop (count_to c.args.version es) es) c.deref.ensures.value

-- of a history that they are of, the last version is the one that the meta page tells
last_told : (g : Given.Over) (c : After-deref-in-Ok g) → c.args.last ≡ last_version (c.in-Ok.ensures.told).0
last_told g c = c.requires.last ∙ sym (c.in-Ok.ensures.told).2.version

-- where the disk holds a history, the batches are those that are kept of it
are_kept : (g : Given.Over) (c : After-deref-in-Ok g) → (h : History) → c.args.last ≡ last_version h → IsKept h c.args.version c.in-Ok.kept.adds.items c.in-Ok.kept.events.items
    → batches_of c.args.version c.args.last c.deref-in-Ok.result.now c.events_after-later.result.now ≡ kept h c.args.version
are_kept g c h all is =
    ap (λ (es : List Event). batches_of c.args.version c.args.last es c.events_after-later.result.now) c.deref-in-Ok.ensures.value
    ∙ kept_cut h c.args.version c.args.last c.in-Ok.kept.adds.items c.in-Ok.kept.events.items c.events_after-later.result.now all is (left g c)

pub fill-requires-clause-all : goal.fill-requires-clause-all
fill-requires-clause-all g c =
    let told = c.in-Ok.ensures.told in
    all_there told.0 c.args.version c.args.last c.deref-in-Ok.result.now c.in-Ok.kept.events.items c.events_after-later.result.now (last_told g c) told.1 (left g c)
    (omega (arith, c.in-Ok.ensures.room.0, ap (length {A = Event}) c.deref-in-Ok.ensures.value))

pub returns-in-Ok-clause-leaves : goal.returns-in-Ok-clause-leaves
returns-in-Ok-clause-leaves g c = λ h start held all ready.
    let params = params_in c.args.house.now in
    subst (λ (k : History). LeavesPart g.E.Disk g.X.DomIndex params k start c.fill.result) (are_kept g (goal.at.returns-in-Ok-clause-leaves g c).After-deref-in-Ok h all (c.in-Ok.ensures.found h held))
    (c.fill.ensures.leaves params start ready)

pub returns-in-Ok-clause-some : goal.returns-in-Ok-clause-some
returns-in-Ok-clause-some g c = λ start ready.
    let at = (goal.at.returns-in-Ok-clause-some g c).After-deref-in-Ok in
    let told = c.in-Ok.ensures.told in
    record {
      whole = batches_of c.args.version c.args.last c.deref-in-Ok.result.now c.events_after-later.result.now;
      last = all_versions told.0 c.args.version c.args.last c.deref-in-Ok.result.now c.in-Ok.kept.events.items c.events_after-later.result.now (last_told g at) told.1 (left g at) c.requires.versions ∙ c.requires.last;
      later = λ e rows done. (
        told.0,
        told.2,
        later_there told.0 c.args.version c.args.last c.deref-in-Ok.result.now c.in-Ok.kept.events.items c.events_after-later.result.now (last_told g at) told.1 (left g at),
      );
      leaves = c.fill.ensures.leaves (params_in c.args.house.now) start ready;
    }

pub returns-in-Ok-clause-sound : goal.returns-in-Ok-clause-sound
returns-in-Ok-clause-sound g c = λ h start e page held all ready.
    let params = params_in c.args.house.now in
    let le : c.args.version ≤ last_version h = subst (λ (n : ℕ). c.args.version ≤ n) all c.requires.versions in
    c.fill.ensures.sound params start e page ready
    (subst (λ (k : History). IsLawful params k) (sym (are_kept g (goal.at.returns-in-Ok-clause-sound g c).After-deref-in-Ok h all (c.in-Ok.ensures.found h held))) (kept_lawful params h c.args.version held.1.lawful le).0)

pub returns-in-Err-clause-leaves : goal.returns-in-Err-clause-leaves
returns-in-Err-clause-leaves g c = λ h start held all ready.
    let params = params_in c.args.house.now in
    subst (λ r. LeavesPart g.E.Disk g.X.DomIndex params (kept h c.args.version) start r) (sym c.ended.ensures)
    (nothing_gathered g.E.Disk g.X.DomIndex params (kept h c.args.version) start c.args.second c.in-Err.fault (ready.0 (kept h c.args.version)))

pub returns-in-Err-clause-some : goal.returns-in-Err-clause-some
returns-in-Err-clause-some g c = λ start ready.
    let params = params_in c.args.house.now in
    subst (λ r. LeavesSome g.E.Disk g.X.DomIndex params (meta_in c.args.house.now) c.args.version start r) (sym c.ended.ensures)
    (some_of_any g.E.Disk g.X.DomIndex params (meta_in c.args.house.now) c.args.version start _ (ended_undone c.in-Err.fault c.args.second) (λ whole. nothing_gathered g.E.Disk g.X.DomIndex params whole start c.args.second c.in-Err.fault (ready.0 whole)))

pub returns-in-Err-clause-sound : goal.returns-in-Err-clause-sound
returns-in-Err-clause-sound g c = λ h start e page held all ready is.
    c.gather_kept.ensures.sound h page held (c.in-Err.is ∙ ap Err (ended_damaged c.in-Err.fault c.args.second e page (sym c.ended.ensures ∙ is)))
