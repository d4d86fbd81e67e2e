use Rattle.std.proofs.Common.{ap}
use Rattle.page_layout.specs.declared.meta.Meta.{Meta}
use Rattle.page_space.specs.Begun.{Begun}
use Rattle.span_planes.proofs.Staged.{unmoved}
use Rattle.span_planes.proofs.writing.set.Goals as goal

pub returns-in-Ok-clause-changes : goal.returns-in-Ok-clause-changes
returns-in-Ok-clause-changes g c = record {
  went_on = unmoved _ c.args.stage.now c.set_meta.new.self (ap g.E.Disk.tells c.set_meta.ensures.disk) c.set_meta.ensures.base (ap (λ (b : Begun). b.params.pages) c.set_meta.ensures.base) c.set_meta.ensures.in_order
      c.set_meta.ensures.map c.set_meta.ensures.chain (ap (λ (m : Meta). m.allotted) c.in-Ok.ensures.ok) (ap g.E.Disk.reads c.set_meta.ensures.disk) (ap g.E.Disk.faults c.set_meta.ensures.disk);
  disk = λ e. cc;
  page_limit = λ n e. cc;
}

pub returns-in-Err-clause-changes : goal.returns-in-Err-clause-changes
returns-in-Err-clause-changes g c = record {
  went_on = unmoved _ c.args.stage.now c.set_meta.new.self (ap g.E.Disk.tells c.set_meta.ensures.disk) c.set_meta.ensures.base (ap (λ (b : Begun). b.params.pages) c.set_meta.ensures.base) c.set_meta.ensures.in_order
      c.set_meta.ensures.map c.set_meta.ensures.chain (ap (λ (m : Meta). m.allotted) c.in-Err.ensures.err) (ap g.E.Disk.reads c.set_meta.ensures.disk) (ap g.E.Disk.faults c.set_meta.ensures.disk);
  disk = λ e. cc;
  page_limit = λ n e. cc;
}
