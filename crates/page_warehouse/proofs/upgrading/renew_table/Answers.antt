use Rattle.std.proofs.Common.{◌*◌, ◌<◌, ◌^◌, length, Err, rules, refl, ap}
use Rattle.std.proofs.lemmas.Result.{err_from_is_err_and}
use Rattle.bw_types.specs.Lives.{lives}
use Rattle.ports.specs.declared.page.StageFault.TheVariants.{Damaged}
use Rattle.object_table.specs.declared.form.Form.TheVariants.{ByIds, ByLives}
use Rattle.object_table.specs.Lives.{table_pages}
use Rattle.corner_forest.specs.Stands.{forest_pages}
use Rattle.history_laws.specs.Entries.{history_entries}
use Rattle.page_warehouse.proofs.Exits.{exit_error}
use Rattle.page_warehouse.proofs.Next.{few_kept}
use Rattle.page_warehouse.proofs.Pages.{PageLaws, forest_stays, tells as telling}
use Rattle.page_warehouse.proofs.Stages.{refused}
use Rattle.page_warehouse.proofs.upgrading.renew_table.Goals as goal

pub returns-in_err-roots-clause-keeps_on : goal.returns-in_err-roots-clause-keeps_on
returns-in_err-roots-clause-keeps_on g c = λ tells h lawful keep.
    let p = err_from_is_err_and c.from_residual.result c.from_residual.ensures.1 in
    let few : length keep.kept < 2 ^ 28 = few_kept keep.kept (lives h) keep.all (c.changes_go_on.ensures.few c.args.roots.now.forest.params h c.requires.roots.in_range lawful) in
    record {
      changes = refused g.S.Pages (8 * c.args.roots.now.table.count) c.args.stage.now c.renew.new.stage c.from_residual.result c.in_err-roots.field-0.0 p
          (c.in_err-roots.ensures.growth tells keep.kept keep.stands few);
      sound = λ order page asked.
          let same = exit_error c.from_residual.result c.in_err-roots.field-0.0 (Damaged page) p asked in
          c.in_err-roots.ensures.sound keep.kept page tells keep.stands few order (ap Err same);
      left = let is = p.1 in search rules;
    }

pub returns-clause-keeps_on : goal.returns-clause-keeps_on
returns-clause-keeps_on g c = λ tells h lawful keep.
    let laws : PageLaws g.X.DomIndex = record {
      table_by = c.table_laws.ensures.by_its_pages;
      table_there = c.table_laws.ensures.in_map;
      forest_by = c.forest_laws.ensures.by_its_pages;
      forest_there = c.forest_laws.ensures.in_map;
      anywhere = c.forest_laws.ensures.anywhere;
      parts = c.footprint_laws.ensures.none_twice;
      both = c.footprint_laws.ensures.both_ways;
      stay = c.changes_compose.ensures.apart;
    } in
    let params = c.args.roots.now.forest.params in
    let trees = c.args.roots.now.forest.roots.items in
    let m0 = g.S.Pages.map c.args.stage.now in
    let m1 = g.S.Pages.map c.renew.new.stage in
    let few : length keep.kept < 2 ^ 28 = few_kept keep.kept (lives h) keep.all (c.changes_go_on.ensures.few params h c.requires.roots.in_range lawful) in
    let grow = c.in_ok-roots.ensures.growth tells keep.kept keep.stands few in
    let stands = c.in_ok-roots.ensures.stands tells keep.kept keep.stands in
    let moved = c.in_ok-roots.ensures.change tells keep.kept keep.stands in
    let old = table_pages ByIds m0 c.args.roots.now.table in
    let new = table_pages ByLives m1 c.in_ok-roots.field-0 in
    let beside = forest_stays g.X.DomIndex laws params m0 m1 trees (history_entries h) old new keep.forest keep.balanced keep.apart moved in
    let pages = forest_pages g.X.DomIndex m1 params trees in
    record {
      changes = record { went_on = grow.went_on; disk = λ e. cc; page_limit = λ n e. cc };
      sound = λ order page asked. cc;
      left = telling g.X.DomIndex m1 (record { table = c.in_ok-roots.field-0; forest = c.args.roots.now.forest }) params h (history_entries h) refl keep.kept stands keep.all beside.stands beside.balanced
          ((laws.parts new pages).1 (stands.once, beside.once, laws.both pages new beside.apart));
    }
