use Rattle.std.proofs.Common.{refl, ◌∙◌}
use Rattle.page_space.specs.Shown.{disk_of, map_of, meta_of, params_of, IsInOrder}
use Rattle.page_warehouse.proofs.Queried.{if_ok}
use Rattle.page_warehouse.proofs.Walked.{by_ids_here, by_lives_here}
use Rattle.page_warehouse.proofs.state.Warehouse.walk.Goals as goal

pub returns-then-lives-eq0-clause-next : goal.returns-then-lives-eq0-clause-next
returns-then-lives-eq0-clause-next g c = if_ok _ _ c.walk_old.result (λ found next h kept told keeps.
    let here = by_ids_here g.X.DomIndex c.holds_one.ensures.one (g.D.Disk.image (disk_of c.args.self.now.space)) (params_of c.args.self.now.space) (meta_of c.args.self.now.space) (map_of c.args.self.now.space) (IsInOrder c.args.self.now.space) (c.is_held.ensures.held told) h kept keeps
    c.meta.result.now c.meta-2.result.now c.meta.ensures.value c.meta-2.ensures.value c.if-lives-eq0.true in
    next told kept here.0 ∙ c.id_before.ensures.first kept here.1) c.walk_old.ensures.next

pub returns-then-lives-eq0-clause-sound : goal.returns-then-lives-eq0-clause-sound
returns-then-lives-eq0-clause-sound g c = λ h page held e.
    let here = by_ids_here g.X.DomIndex c.holds_one.ensures.one (g.D.Disk.image (disk_of c.args.self.now.space)) (params_of c.args.self.now.space) (meta_of c.args.self.now.space) (map_of c.args.self.now.space) (IsInOrder c.args.self.now.space) (c.is_held.ensures.held held.0) h held.1.table.kept (record { holds = held.1; table = refl })
    c.meta.result.now c.meta-2.result.now c.meta.ensures.value c.meta-2.ensures.value c.if-lives-eq0.true in
    c.walk_old.ensures.sound held.1.table.kept page held.0 here.0 e

pub returns-clause-next : goal.returns-clause-next
returns-clause-next g c = if_ok _ _ c.walk.result (λ found next h kept told keeps.
    next told kept (by_lives_here g.X.DomIndex c.holds_one.ensures.one (g.D.Disk.image (disk_of c.args.self.now.space)) (params_of c.args.self.now.space) (meta_of c.args.self.now.space) (map_of c.args.self.now.space) (IsInOrder c.args.self.now.space) (c.is_held.ensures.held told) h kept keeps
    c.meta.result.now c.meta-2.result.now c.meta.ensures.value c.meta-2.ensures.value c.if-lives-eq0.false)) c.walk.ensures.next

pub returns-clause-sound : goal.returns-clause-sound
returns-clause-sound g c = λ h page held.
    c.walk.ensures.sound held.1.table.kept page held.0 (by_lives_here g.X.DomIndex c.holds_one.ensures.one (g.D.Disk.image (disk_of c.args.self.now.space)) (params_of c.args.self.now.space) (meta_of c.args.self.now.space) (map_of c.args.self.now.space) (IsInOrder c.args.self.now.space) (c.is_held.ensures.held held.0) h held.1.table.kept (record { holds = held.1; table = refl })
    c.meta.result.now c.meta-2.result.now c.meta.ensures.value c.meta-2.ensures.value c.if-lives-eq0.false)
