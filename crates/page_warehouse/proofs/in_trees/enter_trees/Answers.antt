use Rattle.std.proofs.Common.{◌≡◌, ◌+◌, ◌*◌, List, length, IsTrue, refl, arith}
use Rattle.bw_types.specs.declared.tree.Tree.{Tree}
use Rattle.corner_weights.specs.PlaneSums.{Entered}
use Rattle.corner_forest.specs.Enters.{ForestEnters, MayEnter, all_entered_at, batch_growth}
use Rattle.corner_forest.specs.declared.entry.Entry.{Entry as Waiting}
use Rattle.history_laws.specs.Entries.{history_entries}
use Rattle.page_warehouse.specs.Growth.{most_growth}
use Rattle.page_warehouse.specs.Entering.{PagesKeep}
use Rattle.page_warehouse.specs.declared.roots.Roots.{Roots}
use Rattle.page_warehouse.proofs.Leads.{all_led, are_next, batch_bounded}
use Rattle.page_warehouse.proofs.Pages.{PageLaws, entered_then, may_enter}
use Rattle.page_warehouse.proofs.Small.{batch_room}
use Rattle.page_warehouse.proofs.Stages.{on_ok}
use Rattle.page_warehouse.proofs.Steps.{widened}
use Rattle.page_warehouse.proofs.in_trees.enter_trees.Goals as goal

pub returns-clause-keeps_on : goal.returns-clause-keeps_on
returns-clause-keeps_on g c = λ tells h most few wait.
    let laws : PageLaws g.X.DomIndex = record {
      table_by = c.table_laws.ensures.by_its_pages;
      table_there = c.table_laws.ensures.in_map;
      forest_by = c.forest_laws.ensures.by_its_pages;
      forest_there = c.forest_laws.ensures.in_map;
      anywhere = c.forest_laws.ensures.anywhere;
      parts = c.footprint_laws.ensures.none_twice;
      both = c.footprint_laws.ensures.both_ways;
      stay = c.changes_compose.ensures.apart;
    } in
    let params = c.args.roots.now.forest.params in
    let items : List Tree = c.args.roots.now.forest.roots.items in
    let m0 = g.S.Pages.map c.args.stage.now in
    let m1 = g.S.Pages.map c.enter.new.stage in
    let waiting : List Waiting = c.args.waiting.now in
    let batch : List Entered = all_entered_at c.args.version waiting in
    let es : List Entered = wait.entered in
    let all : length es + length waiting ≡ length (history_entries h) = all_led params c.args.version es (history_entries h) waiting wait.lead in
    let grown : Roots = record { table = c.args.roots.now.table; forest = c.enter.new.forest } in
    let may = may_enter g.X.DomIndex laws m0 c.args.roots.now h es batch wait.tell (are_next params es batch (history_entries h) wait.lead) in
    record {
      changes = widened g.S.Pages (batch_growth params (length es) (length waiting)) (length waiting * most_growth params most) c.args.stage.now c.enter.new.stage c.enter.result
          (batch_bounded c.growth_is_bounded.ensures params (length es) (length waiting) most (omega (arith, all, few)))
          (c.enter.ensures.growth tells es may wait.tell.balanced);
      sound = λ order page asked. c.enter.ensures.sound es page tells may wait.tell.balanced order asked;
      left = on_ok c.enter.result (IsTrue (g.S.Pages.tells c.args.stage.now) → (entries : List Entered)
          → MayEnter g.X.DomIndex m0 params items entries batch → ForestEnters g.X.DomIndex params m0 m1 items c.enter.new.forest.roots.items entries batch)
          (PagesKeep g.X.DomIndex m1 grown h)
          (λ enters. entered_then g.X.DomIndex laws m0 m1 c.args.roots.now grown h es batch (history_entries h) refl c.enter.ensures.params wait.tell wait.lead
          (enters tells es may)) c.enter.ensures.enters;
    }

pub returns-clause-small : goal.returns-clause-small
returns-clause-small g c = λ tells h most few wait stay.
    let laws : PageLaws g.X.DomIndex = record {
      table_by = c.table_laws.ensures.by_its_pages;
      table_there = c.table_laws.ensures.in_map;
      forest_by = c.forest_laws.ensures.by_its_pages;
      forest_there = c.forest_laws.ensures.in_map;
      anywhere = c.forest_laws.ensures.anywhere;
      parts = c.footprint_laws.ensures.none_twice;
      both = c.footprint_laws.ensures.both_ways;
      stay = c.changes_compose.ensures.apart;
    } in
    let params = c.args.roots.now.forest.params in
    let items : List Tree = c.args.roots.now.forest.roots.items in
    let m0 = g.S.Pages.map c.args.stage.now in
    let waiting : List Waiting = c.args.waiting.now in
    let batch : List Entered = all_entered_at c.args.version waiting in
    let es : List Entered = wait.entered in
    let all : length es + length waiting ≡ length (history_entries h) = all_led params c.args.version es (history_entries h) waiting wait.lead in
    let may = may_enter g.X.DomIndex laws m0 c.args.roots.now h es batch wait.tell (are_next params es batch (history_entries h) wait.lead) in
    let room = batch_room g.X.DomIndex c.forest_laws.ensures.counted m0 params items es (length waiting) most wait.tell.forest (omega (arith, all, few)) stay in
    c.enter.ensures.small_growth tells es may wait.tell.balanced stay.dims room
