use Rattle.std.proofs.Common.{Err, ap, ◌∙◌}
use Rattle.history_laws.specs.Entries.{history_entries}
use Rattle.page_space.specs.Shown.{disk_of, map_of, meta_of, params_of, IsInOrder}
use Rattle.page_warehouse.proofs.Opened.{trees_here}
use Rattle.page_warehouse.proofs.Queried.{balanced_here, below_at_most, below_given, forest_here, trees_of}
use Rattle.page_warehouse.proofs.state.Warehouse.below.Goals as goal

pub returns-in-Ok-clause-below : goal.returns-in-Ok-clause-below
returns-in-Ok-clause-below g c = λ whole h held.
    let has = trees_of g.D.Disk g.X.DomIndex whole (disk_of c.args.self.now.space) (params_of c.args.self.now.space) h held in
    let stand = trees_here g.X.DomIndex c.holds_one.ensures.one (g.D.Disk.image (disk_of c.args.self.now.space)) (params_of c.args.self.now.space) (meta_of c.args.self.now.space) (map_of c.args.self.now.space) (IsInOrder c.args.self.now.space) (c.is_held.ensures.held has.0) h has.1 in
    below_given g.X.DomIndex (params_of c.args.self.now.space) (map_of c.args.self.now.space) (meta_of c.args.self.now.space).roots.items c.args.self.now.forest c.args.self.now.params c.args.self.now.trees c.entries_give_answers.ensures.live h c.args.version c.args.at.now c.in-Ok.value
    (c.in-Ok.ensures.below has.0 (history_entries h) (forest_here g.X.DomIndex (params_of c.args.self.now.space) (map_of c.args.self.now.space) (meta_of c.args.self.now.space).roots.items c.args.self.now.forest c.args.self.now.params c.args.self.now.trees h stand))

pub returns-in-Err-Damaged-clause-sound : goal.returns-in-Err-Damaged-clause-sound
returns-in-Err-Damaged-clause-sound g c = λ whole h page held e.
    let has = trees_of g.D.Disk g.X.DomIndex whole (disk_of c.args.self.now.space) (params_of c.args.self.now.space) h held in
    let stand = trees_here g.X.DomIndex c.holds_one.ensures.one (g.D.Disk.image (disk_of c.args.self.now.space)) (params_of c.args.self.now.space) (meta_of c.args.self.now.space) (map_of c.args.self.now.space) (IsInOrder c.args.self.now.space) (c.is_held.ensures.held has.0) h has.1 in
    c.below.ensures.sound (history_entries h) c.in-Err-Damaged.page has.0 (forest_here g.X.DomIndex (params_of c.args.self.now.space) (map_of c.args.self.now.space) (meta_of c.args.self.now.space).roots.items c.args.self.now.forest c.args.self.now.params c.args.self.now.trees h stand)
    (c.in-Err-Damaged.is ∙ ap Err c.in-Err-Damaged.field-0-is)

pub returns-in-Ok-clause-reads : goal.returns-in-Ok-clause-reads
returns-in-Ok-clause-reads g c = λ whole h held.
    let has = trees_of g.D.Disk g.X.DomIndex whole (disk_of c.args.self.now.space) (params_of c.args.self.now.space) h held in
    let stand = trees_here g.X.DomIndex c.holds_one.ensures.one (g.D.Disk.image (disk_of c.args.self.now.space)) (params_of c.args.self.now.space) (meta_of c.args.self.now.space) (map_of c.args.self.now.space) (IsInOrder c.args.self.now.space) (c.is_held.ensures.held has.0) h has.1 in
    below_at_most g.X.DomIndex (params_of c.args.self.now.space) (map_of c.args.self.now.space) (meta_of c.args.self.now.space).roots.items c.args.self.now.forest c.args.self.now.params c.args.self.now.trees g.X.DomIndex.cost h _ _ (c.entries_are_changes.ensures (params_of c.args.self.now.space) h has.1.lawful)
    (c.below.ensures.cost has.0 (history_entries h) (forest_here g.X.DomIndex (params_of c.args.self.now.space) (map_of c.args.self.now.space) (meta_of c.args.self.now.space).roots.items c.args.self.now.forest c.args.self.now.params c.args.self.now.trees h stand) (balanced_here g.X.DomIndex (params_of c.args.self.now.space) (map_of c.args.self.now.space) (meta_of c.args.self.now.space).roots.items c.args.self.now.forest c.args.self.now.params c.args.self.now.trees h stand))

pub returns-in-Err-Disk-clause-reads : goal.returns-in-Err-Disk-clause-reads
returns-in-Err-Disk-clause-reads g c = λ whole h held.
    let has = trees_of g.D.Disk g.X.DomIndex whole (disk_of c.args.self.now.space) (params_of c.args.self.now.space) h held in
    let stand = trees_here g.X.DomIndex c.holds_one.ensures.one (g.D.Disk.image (disk_of c.args.self.now.space)) (params_of c.args.self.now.space) (meta_of c.args.self.now.space) (map_of c.args.self.now.space) (IsInOrder c.args.self.now.space) (c.is_held.ensures.held has.0) h has.1 in
    below_at_most g.X.DomIndex (params_of c.args.self.now.space) (map_of c.args.self.now.space) (meta_of c.args.self.now.space).roots.items c.args.self.now.forest c.args.self.now.params c.args.self.now.trees g.X.DomIndex.cost h _ _ (c.entries_are_changes.ensures (params_of c.args.self.now.space) h has.1.lawful)
    (c.below.ensures.cost has.0 (history_entries h) (forest_here g.X.DomIndex (params_of c.args.self.now.space) (map_of c.args.self.now.space) (meta_of c.args.self.now.space).roots.items c.args.self.now.forest c.args.self.now.params c.args.self.now.trees h stand) (balanced_here g.X.DomIndex (params_of c.args.self.now.space) (map_of c.args.self.now.space) (meta_of c.args.self.now.space).roots.items c.args.self.now.forest c.args.self.now.params c.args.self.now.trees h stand))

pub returns-in-Err-Damaged-clause-reads : goal.returns-in-Err-Damaged-clause-reads
returns-in-Err-Damaged-clause-reads g c = λ whole h held.
    let has = trees_of g.D.Disk g.X.DomIndex whole (disk_of c.args.self.now.space) (params_of c.args.self.now.space) h held in
    let stand = trees_here g.X.DomIndex c.holds_one.ensures.one (g.D.Disk.image (disk_of c.args.self.now.space)) (params_of c.args.self.now.space) (meta_of c.args.self.now.space) (map_of c.args.self.now.space) (IsInOrder c.args.self.now.space) (c.is_held.ensures.held has.0) h has.1 in
    below_at_most g.X.DomIndex (params_of c.args.self.now.space) (map_of c.args.self.now.space) (meta_of c.args.self.now.space).roots.items c.args.self.now.forest c.args.self.now.params c.args.self.now.trees g.X.DomIndex.cost h _ _ (c.entries_are_changes.ensures (params_of c.args.self.now.space) h has.1.lawful)
    (c.below.ensures.cost has.0 (history_entries h) (forest_here g.X.DomIndex (params_of c.args.self.now.space) (map_of c.args.self.now.space) (meta_of c.args.self.now.space).roots.items c.args.self.now.forest c.args.self.now.params c.args.self.now.trees h stand) (balanced_here g.X.DomIndex (params_of c.args.self.now.space) (map_of c.args.self.now.space) (meta_of c.args.self.now.space).roots.items c.args.self.now.forest c.args.self.now.params c.args.self.now.trees h stand))
