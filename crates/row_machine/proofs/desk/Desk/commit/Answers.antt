use Rattle.std.proofs.Common.{rules, true, ◌∙◌, refl, sym, subst}
use Rattle.bw_types.specs.declared.params.Params.{Params}
use Rattle.row_machine.specs.declared.ending.Ending.TheVariants.{DiskFault}
use Rattle.row_machine.proofs.Housing.{leaves_lost}
use Rattle.row_machine.proofs.Staged.{clear_keeps}
use Rattle.row_machine.proofs.desk.Desk.commit.Goals as goal

pub invariant_of-desk : goal.invariant_of-desk
invariant_of-desk g c = record { same = c.in-Done.ensures.renewed.1 ∙ c.args.self.same; fitting = clear_keeps c.args.self.params _ _ _ c.clear.ensures c.args.self.fitting }

pub invariant_of-desk-in-Refused : goal.invariant_of-desk-in-Refused
invariant_of-desk-in-Refused g c = record { same = c.in-Refused.ensures.kept.params ∙ c.args.self.same; fitting = clear_keeps c.args.self.params _ _ _ c.clear-in-Refused.ensures c.args.self.fitting }

pub returns-in-Disk : goal.returns-in-Disk
returns-in-Disk g c = record {
  params = search rules;
  went = search rules;
  stops = search rules;
  reads = λ whole h may. absurd cc;
  quiet = λ may. absurd cc;
  leaves = λ h stands.
      let crash = c.in-Disk.ensures.crash h (subst (λ (p : Params). g.H.House.stands true (g.H.House.device c.args.self.house) p h) (sym c.args.self.same) stands) in
      leaves_lost g.H.House c.args.self.params (g.H.House.params c.args.self.house) (record { history = h; staged = c.args.self.sessions }) c.args.session c.rows.result.now
      (g.H.House.device c.args.self.house) (record { ending = DiskFault; device = c.in-Disk.device }) refl c.args.self.same c.rows.ensures.rows crash.any_moment crash.lost;
  charge = λ h stands other. absurd (other refl);
  tells = search rules;
  faults = search rules;
  own = search rules;
  limit = search rules;
  disk = search rules;
}
