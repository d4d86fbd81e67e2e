use Rattle.std.proofs.Common.{◌∙◌, ap}
use Rattle.page_layout.specs.declared.meta.Meta.{Meta}
use Rattle.page_space.specs.Shown.{disk_of, map_of, meta_of, params_of, IsInOrder}
use Rattle.span_planes.proofs.SpanOpened.{last_here}
use Rattle.span_planes.proofs.spans.Spans.last.Goals as goal

pub returns-clause-held : goal.returns-clause-held
returns-clause-held g c = λ params h held.
    ap (λ (m : Meta). m.version) c.meta.ensures.value
    ∙ last_here g.X.DomIndex c.holds_one.ensures.one (g.E.Disk.image (disk_of c.args.self.now.space)) (params_of c.args.self.now.space) (meta_of c.args.self.now.space) (map_of c.args.self.now.space) (IsInOrder c.args.self.now.space) (c.is_held.ensures.held held.0) params h held.1
