use Rattle.std.proofs.Common.{refl, ◌∙◌}
use Rattle.page_space.specs.Shown.{disk_of, map_of, meta_of, params_of, IsInOrder}
use Rattle.object_table.specs.Lives.{from_life}
use Rattle.page_warehouse.proofs.Queried.{if_ok}
use Rattle.page_warehouse.proofs.Walked.{by_ids_here, by_lives_here, next_alone}
use Rattle.page_warehouse.proofs.state.Warehouse.walk_leaf.Goals as goal

pub returns-in-Ok-clause-next : goal.returns-in-Ok-clause-next
returns-in-Ok-clause-next g c = λ h kept told keeps.
    let here = by_ids_here g.X.DomIndex c.holds_one.ensures.one (g.D.Disk.image (disk_of c.args.self.now.space)) (params_of c.args.self.now.space) (meta_of c.args.self.now.space) (map_of c.args.self.now.space) (IsInOrder c.args.self.now.space) (c.is_held.ensures.held told) h kept keeps
    c.meta-2.result.now c.meta.result.now c.meta-2.ensures.value c.meta.ensures.value c.if-meta-eq0.true in
    next_alone (from_life c.args.after) kept c.in-Ok.found c.one_life.result.items c.one_life.ensures (c.in-Ok.ensures.next told kept here.0 ∙ c.id_before.ensures.first kept here.1)

pub returns-in-Err-clause-sound : goal.returns-in-Err-clause-sound
returns-in-Err-clause-sound g c = λ h page held e.
    let here = by_ids_here g.X.DomIndex c.holds_one.ensures.one (g.D.Disk.image (disk_of c.args.self.now.space)) (params_of c.args.self.now.space) (meta_of c.args.self.now.space) (map_of c.args.self.now.space) (IsInOrder c.args.self.now.space) (c.is_held.ensures.held held.0) h held.1.table.kept (record { holds = held.1; table = refl })
    c.meta-2.result.now c.meta.result.now c.meta-2.ensures.value c.meta.ensures.value c.if-meta-eq0.true in
    c.in-Err.ensures.sound held.1.table.kept page held.0 here.0 cc

pub returns-clause-next : goal.returns-clause-next
returns-clause-next g c = if_ok _ _ c.walk_leaf.result (λ found next h kept told keeps.
    next told kept (by_lives_here g.X.DomIndex c.holds_one.ensures.one (g.D.Disk.image (disk_of c.args.self.now.space)) (params_of c.args.self.now.space) (meta_of c.args.self.now.space) (map_of c.args.self.now.space) (IsInOrder c.args.self.now.space) (c.is_held.ensures.held told) h kept keeps
    c.meta-2.result.now c.meta.result.now c.meta-2.ensures.value c.meta.ensures.value c.if-meta-eq0.false)) c.walk_leaf.ensures.next

pub returns-clause-sound : goal.returns-clause-sound
returns-clause-sound g c = λ h page held.
    c.walk_leaf.ensures.sound held.1.table.kept page held.0 (by_lives_here g.X.DomIndex c.holds_one.ensures.one (g.D.Disk.image (disk_of c.args.self.now.space)) (params_of c.args.self.now.space) (meta_of c.args.self.now.space) (map_of c.args.self.now.space) (IsInOrder c.args.self.now.space) (c.is_held.ensures.held held.0) h held.1.table.kept (record { holds = held.1; table = refl })
    c.meta-2.result.now c.meta.result.now c.meta-2.ensures.value c.meta.ensures.value c.if-meta-eq0.false)
