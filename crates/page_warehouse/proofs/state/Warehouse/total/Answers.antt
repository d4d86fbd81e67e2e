use Rattle.std.proofs.Common.{refl}
use Rattle.bw_types.specs.Answers.{sum_at, count_at, integral_at}
use Rattle.bw_types.specs.declared.query.Kind.TheVariants.{Sum, Count, Integral}
use Rattle.corner_forest.specs.Answers.{count_of, sum_of}
use Rattle.history_laws.specs.Entries.{history_entries}
use Rattle.corner_weights.specs.PlaneSums.{integral_at as entered_integral_at}
use Rattle.page_space.specs.Shown.{disk_of, map_of, meta_of, params_of, IsInOrder}
use Rattle.page_warehouse.proofs.Answered.{integral_given}
use Rattle.page_warehouse.proofs.Opened.{trees_here}
use Rattle.page_warehouse.proofs.Queried.{answered, balanced_here, forest_here, if_ok, reads_at_most, small_here}
use Rattle.page_warehouse.proofs.state.Warehouse.total.Goals as goal

pub returns-in-Sum-clause-answers : goal.returns-in-Sum-clause-answers
returns-in-Sum-clause-answers g c = if_ok _ _ c.sum.result (λ value exact told h held.
    let stand = trees_here g.X.DomIndex c.holds_one.ensures.one (g.D.Disk.image (disk_of c.args.self.now.space)) (params_of c.args.self.now.space) (meta_of c.args.self.now.space) (map_of c.args.self.now.space) (IsInOrder c.args.self.now.space) (c.is_held.ensures.held told) h held in
    answered g.X.DomIndex (params_of c.args.self.now.space) (map_of c.args.self.now.space) (meta_of c.args.self.now.space).roots.items c.args.self.now.forest c.args.self.now.params c.args.self.now.trees (λ p. sum_of p (history_entries h) c.args.version c.args.query.now) sum_at Sum h c.args.version c.args.query.now value c.in-Sum.is refl
    (c.entries_give_answers.ensures.sum (params_of c.args.self.now.space) h c.args.version c.args.query.now)
    (exact told (history_entries h) (forest_here g.X.DomIndex (params_of c.args.self.now.space) (map_of c.args.self.now.space) (meta_of c.args.self.now.space).roots.items c.args.self.now.forest c.args.self.now.params c.args.self.now.trees h stand))) c.sum.ensures.sum

pub returns-in-Sum-clause-sound : goal.returns-in-Sum-clause-sound
returns-in-Sum-clause-sound g c = λ h page told held.
    let stand = trees_here g.X.DomIndex c.holds_one.ensures.one (g.D.Disk.image (disk_of c.args.self.now.space)) (params_of c.args.self.now.space) (meta_of c.args.self.now.space) (map_of c.args.self.now.space) (IsInOrder c.args.self.now.space) (c.is_held.ensures.held told) h held in
    c.sum.ensures.sound (history_entries h) page told (forest_here g.X.DomIndex (params_of c.args.self.now.space) (map_of c.args.self.now.space) (meta_of c.args.self.now.space).roots.items c.args.self.now.forest c.args.self.now.params c.args.self.now.trees h stand)

pub returns-in-Sum-clause-cost : goal.returns-in-Sum-clause-cost
returns-in-Sum-clause-cost g c = λ h told held.
    let stand = trees_here g.X.DomIndex c.holds_one.ensures.one (g.D.Disk.image (disk_of c.args.self.now.space)) (params_of c.args.self.now.space) (meta_of c.args.self.now.space) (map_of c.args.self.now.space) (IsInOrder c.args.self.now.space) (c.is_held.ensures.held told) h held in
    reads_at_most g.X.DomIndex (params_of c.args.self.now.space) (map_of c.args.self.now.space) (meta_of c.args.self.now.space).roots.items c.args.self.now.forest c.args.self.now.params c.args.self.now.trees g.X.DomIndex.cost h Sum c.args.query.now _ _ (c.entries_are_changes.ensures (params_of c.args.self.now.space) h held.lawful) c.in-Sum.is
    (c.sum.ensures.cost told (history_entries h) (forest_here g.X.DomIndex (params_of c.args.self.now.space) (map_of c.args.self.now.space) (meta_of c.args.self.now.space).roots.items c.args.self.now.forest c.args.self.now.params c.args.self.now.trees h stand) (balanced_here g.X.DomIndex (params_of c.args.self.now.space) (map_of c.args.self.now.space) (meta_of c.args.self.now.space).roots.items c.args.self.now.forest c.args.self.now.params c.args.self.now.trees h stand))

pub returns-in-Count-clause-answers : goal.returns-in-Count-clause-answers
returns-in-Count-clause-answers g c = if_ok _ _ c.count.result (λ value exact told h held.
    let stand = trees_here g.X.DomIndex c.holds_one.ensures.one (g.D.Disk.image (disk_of c.args.self.now.space)) (params_of c.args.self.now.space) (meta_of c.args.self.now.space) (map_of c.args.self.now.space) (IsInOrder c.args.self.now.space) (c.is_held.ensures.held told) h held in
    answered g.X.DomIndex (params_of c.args.self.now.space) (map_of c.args.self.now.space) (meta_of c.args.self.now.space).roots.items c.args.self.now.forest c.args.self.now.params c.args.self.now.trees (λ p. count_of p (history_entries h) c.args.version c.args.query.now) count_at Count h c.args.version c.args.query.now value c.in-Count.is refl
    (c.entries_give_answers.ensures.count (params_of c.args.self.now.space) h c.args.version c.args.query.now)
    (exact told (history_entries h) (forest_here g.X.DomIndex (params_of c.args.self.now.space) (map_of c.args.self.now.space) (meta_of c.args.self.now.space).roots.items c.args.self.now.forest c.args.self.now.params c.args.self.now.trees h stand))) c.count.ensures.count

pub returns-in-Count-clause-sound : goal.returns-in-Count-clause-sound
returns-in-Count-clause-sound g c = λ h page told held.
    let stand = trees_here g.X.DomIndex c.holds_one.ensures.one (g.D.Disk.image (disk_of c.args.self.now.space)) (params_of c.args.self.now.space) (meta_of c.args.self.now.space) (map_of c.args.self.now.space) (IsInOrder c.args.self.now.space) (c.is_held.ensures.held told) h held in
    c.count.ensures.sound (history_entries h) page told (forest_here g.X.DomIndex (params_of c.args.self.now.space) (map_of c.args.self.now.space) (meta_of c.args.self.now.space).roots.items c.args.self.now.forest c.args.self.now.params c.args.self.now.trees h stand)

pub returns-in-Count-clause-cost : goal.returns-in-Count-clause-cost
returns-in-Count-clause-cost g c = λ h told held.
    let stand = trees_here g.X.DomIndex c.holds_one.ensures.one (g.D.Disk.image (disk_of c.args.self.now.space)) (params_of c.args.self.now.space) (meta_of c.args.self.now.space) (map_of c.args.self.now.space) (IsInOrder c.args.self.now.space) (c.is_held.ensures.held told) h held in
    reads_at_most g.X.DomIndex (params_of c.args.self.now.space) (map_of c.args.self.now.space) (meta_of c.args.self.now.space).roots.items c.args.self.now.forest c.args.self.now.params c.args.self.now.trees g.X.DomIndex.cost h Count c.args.query.now _ _ (c.entries_are_changes.ensures (params_of c.args.self.now.space) h held.lawful) c.in-Count.is
    (c.count.ensures.cost told (history_entries h) (forest_here g.X.DomIndex (params_of c.args.self.now.space) (map_of c.args.self.now.space) (meta_of c.args.self.now.space).roots.items c.args.self.now.forest c.args.self.now.params c.args.self.now.trees h stand) (balanced_here g.X.DomIndex (params_of c.args.self.now.space) (map_of c.args.self.now.space) (meta_of c.args.self.now.space).roots.items c.args.self.now.forest c.args.self.now.params c.args.self.now.trees h stand))

pub returns-in-Integral-clause-answers : goal.returns-in-Integral-clause-answers
returns-in-Integral-clause-answers g c = if_ok _ _ c.integral.result (λ value exact told h held.
    let stand = trees_here g.X.DomIndex c.holds_one.ensures.one (g.D.Disk.image (disk_of c.args.self.now.space)) (params_of c.args.self.now.space) (meta_of c.args.self.now.space) (map_of c.args.self.now.space) (IsInOrder c.args.self.now.space) (c.is_held.ensures.held told) h held in
    let given = integral_given (params_of c.args.self.now.space) c.is_held.ensures.roots.in_range h (c.lawful_histories_have_room.ensures (params_of c.args.self.now.space) h held.lawful) c.args.version c.args.query.now c.entries_give_answers.ensures.integral c.answers_are_bounded.ensures.integrals in
    let small = small_here g.X.DomIndex (params_of c.args.self.now.space) (map_of c.args.self.now.space) (meta_of c.args.self.now.space).roots.items c.args.self.now.forest c.args.self.now.params c.args.self.now.trees
    (λ p. entered_integral_at p c.args.query.now c.args.version (history_entries h)) given.1 in
    answered g.X.DomIndex (params_of c.args.self.now.space) (map_of c.args.self.now.space) (meta_of c.args.self.now.space).roots.items c.args.self.now.forest c.args.self.now.params c.args.self.now.trees (λ p. entered_integral_at p c.args.query.now c.args.version (history_entries h)) integral_at Integral h c.args.version c.args.query.now value c.in-Integral.is refl
    given.0
    (exact told (history_entries h) (forest_here g.X.DomIndex (params_of c.args.self.now.space) (map_of c.args.self.now.space) (meta_of c.args.self.now.space).roots.items c.args.self.now.forest c.args.self.now.params c.args.self.now.trees h stand) small.least small.most)) c.integral.ensures.exact

pub returns-in-Integral-clause-sound : goal.returns-in-Integral-clause-sound
returns-in-Integral-clause-sound g c = λ h page told held.
    let stand = trees_here g.X.DomIndex c.holds_one.ensures.one (g.D.Disk.image (disk_of c.args.self.now.space)) (params_of c.args.self.now.space) (meta_of c.args.self.now.space) (map_of c.args.self.now.space) (IsInOrder c.args.self.now.space) (c.is_held.ensures.held told) h held in
    c.integral.ensures.sound (history_entries h) page told (forest_here g.X.DomIndex (params_of c.args.self.now.space) (map_of c.args.self.now.space) (meta_of c.args.self.now.space).roots.items c.args.self.now.forest c.args.self.now.params c.args.self.now.trees h stand)

pub returns-in-Integral-clause-cost : goal.returns-in-Integral-clause-cost
returns-in-Integral-clause-cost g c = λ h told held.
    let stand = trees_here g.X.DomIndex c.holds_one.ensures.one (g.D.Disk.image (disk_of c.args.self.now.space)) (params_of c.args.self.now.space) (meta_of c.args.self.now.space) (map_of c.args.self.now.space) (IsInOrder c.args.self.now.space) (c.is_held.ensures.held told) h held in
    reads_at_most g.X.DomIndex (params_of c.args.self.now.space) (map_of c.args.self.now.space) (meta_of c.args.self.now.space).roots.items c.args.self.now.forest c.args.self.now.params c.args.self.now.trees g.X.DomIndex.cost h Integral c.args.query.now _ _ (c.entries_are_changes.ensures (params_of c.args.self.now.space) h held.lawful) c.in-Integral.is
    (c.integral.ensures.cost told (history_entries h) (forest_here g.X.DomIndex (params_of c.args.self.now.space) (map_of c.args.self.now.space) (meta_of c.args.self.now.space).roots.items c.args.self.now.forest c.args.self.now.params c.args.self.now.trees h stand) (balanced_here g.X.DomIndex (params_of c.args.self.now.space) (map_of c.args.self.now.space) (meta_of c.args.self.now.space).roots.items c.args.self.now.forest c.args.self.now.params c.args.self.now.trees h stand))
