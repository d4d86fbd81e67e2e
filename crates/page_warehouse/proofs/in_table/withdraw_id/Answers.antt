use Rattle.std.proofs.Common.{rules, ◌≡◌, [], ◌∷◌, ◌++◌, true, IsTrue, Err, sym, ◌∙◌, ap, subst, arith}
use Rattle.std.proofs.lemmas.Result.{err_from_is_err_and}
use Rattle.bw_types.specs.declared.change.Change.TheVariants as change
use Rattle.ports.specs.Calls.{Changes}
use Rattle.ports.specs.Pages.{PageMap}
use Rattle.ports.specs.declared.page.StageFault.TheVariants.{Damaged}
use Rattle.history_laws.specs.Entries.{history_entries}
use Rattle.page_warehouse.specs.Begun.{with_changes}
use Rattle.page_warehouse.specs.Entering.{PagesTell, PagesWait}
use Rattle.corner_forest.specs.declared.entry.Entry.{Entry as Waiting}
use Rattle.page_warehouse.proofs.Exits.{exit_error, read_damaged}
use Rattle.page_warehouse.proofs.Adding.{NextLaws}
use Rattle.page_warehouse.proofs.Withdrawing.{can_end, goes as going, last_is, next_is, one_more_entry, told_then}
use Rattle.page_warehouse.proofs.Pages.{PageLaws}
use Rattle.page_warehouse.proofs.Stages.{changes_then, grown, not_damaged, on_ok, only_memory, read_went, refused, went_then}
use Rattle.page_warehouse.proofs.Leads.{wait_more}
use Rattle.page_warehouse.proofs.in_table.withdraw_id.Goals as goal

pub returns-in_err-find-clause-keeps_on : goal.returns-in_err-find-clause-keeps_on
returns-in_err-find-clause-keeps_on g c =
    let changed : Changes {T = Unit {0}} g.S.Pages 8 c.args.stage.now c.find.new.pages c.from_residual.result = search rules in
    λ tells h done later lawful batch ver ev wait. record {
      changes = changed;
      sound = λ order page asked.
          let p = err_from_is_err_and c.from_residual.result c.from_residual.ensures.1 in
          let same = read_damaged c.from_residual.result c.in_err-find.field-0.0 page p asked in
          c.in_err-find.ensures.sound wait.tell.kept page tells wait.tell.stands (ap Err same);
      left = search rules;
    }

pub returns-in_default-clause-keeps_on : goal.returns-in_default-clause-keeps_on
returns-in_default-clause-keeps_on g c = λ tells h done later lawful batch ver ev wait.
    let laws : PageLaws g.X.DomIndex = record {
      table_by = c.table_laws.ensures.by_its_pages;
      table_there = c.table_laws.ensures.in_map;
      forest_by = c.forest_laws.ensures.by_its_pages;
      forest_there = c.forest_laws.ensures.in_map;
      anywhere = c.forest_laws.ensures.anywhere;
      parts = c.footprint_laws.ensures.none_twice;
      both = c.footprint_laws.ensures.both_ways;
      stay = c.changes_compose.ensures.apart;
    } in
    let nexts : NextLaws = record {
      any = c.last_life_laws.ensures.in_any_order;
      greatest = c.table_tells_ids.ensures.greatest;
      fronts = c.changes_go_on.ensures.fronts;
      few = c.changes_go_on.ensures.few;
    } in
    let params = c.args.roots.now.forest.params in
    let id = c.args.id in
    let ends = c.changes_go_on.ensures.withdrawals in
    let any = c.last_life_laws.ensures.withdrawn_in_any_order in
    let es = wait.entered in
    let goes = going g.X.DomIndex laws nexts ends any params c.requires.roots.in_range h done later es id lawful batch in
    let found = c.in_ok-find.ensures.last tells wait.tell.kept wait.tell.stands in
    let last = last_is g.X.DomIndex laws nexts ends any params c.requires.roots.in_range h done later es id lawful batch (g.S.Pages.map c.args.stage.now) c.args.roots.now wait.tell in
    let some = c.in_default.ensures.found goes.last (found ∙ last) goes.fits in
    absurd cc

pub returns-in_err-mark_withdrawn-clause-keeps_on : goal.returns-in_err-mark_withdrawn-clause-keeps_on
returns-in_err-mark_withdrawn-clause-keeps_on g c = λ tells h done later lawful batch ver ev wait.
    let laws : PageLaws g.X.DomIndex = record {
      table_by = c.table_laws.ensures.by_its_pages;
      table_there = c.table_laws.ensures.in_map;
      forest_by = c.forest_laws.ensures.by_its_pages;
      forest_there = c.forest_laws.ensures.in_map;
      anywhere = c.forest_laws.ensures.anywhere;
      parts = c.footprint_laws.ensures.none_twice;
      both = c.footprint_laws.ensures.both_ways;
      stay = c.changes_compose.ensures.apart;
    } in
    let nexts : NextLaws = record {
      any = c.last_life_laws.ensures.in_any_order;
      greatest = c.table_tells_ids.ensures.greatest;
      fronts = c.changes_go_on.ensures.fronts;
      few = c.changes_go_on.ensures.few;
    } in
    let params = c.args.roots.now.forest.params in
    let id = c.args.id in
    let ends = c.changes_go_on.ensures.withdrawals in
    let any = c.last_life_laws.ensures.withdrawn_in_any_order in
    let es = wait.entered in
    let goes = going g.X.DomIndex laws nexts ends any params c.requires.roots.in_range h done later es id lawful batch in
    let m1 = g.S.Pages.map c.find.new.pages in
    let read = c.find.ensures.reads.read in
    let told = subst IsTrue (sym read.tells) tells in
    let tell = subst (λ (m : PageMap). PagesTell g.X.DomIndex m c.args.roots.now (with_changes h done) es) (sym read.map) wait.tell in
    let can = can_end g.X.DomIndex laws nexts ends any params c.requires.roots.in_range h done later es id lawful batch m1 c.args.roots.now tell c.args.version ver in
    let p = err_from_is_err_and c.from_residual-in_err-mark_withdrawn.result c.from_residual-in_err-mark_withdrawn.ensures.1 in
    record {
      changes = refused g.S.Pages 8 c.args.stage.now c.mark_withdrawn.new.stage c.from_residual-in_err-mark_withdrawn.result c.in_err-mark_withdrawn.field-0.0 p
          (changes_then g.S.Pages 0 0 8 c.args.stage.now c.find.new.pages c.mark_withdrawn.new.stage (Err c.in_err-mark_withdrawn.field-0.0)
          (read_went g.S.Pages c.args.roots.now.table.levels c.args.stage.now c.find.new.pages read) (grown g.S.Pages 0 c.find.new.pages c.mark_withdrawn.new.stage (Err c.in_err-mark_withdrawn.field-0.0) c.in_err-mark_withdrawn.ensures.grows) (omega arith));
      sound = λ order page asked.
          let same = exit_error c.from_residual-in_err-mark_withdrawn.result c.in_err-mark_withdrawn.field-0.0 (Damaged page) p asked in
          c.in_err-mark_withdrawn.ensures.sound tell.kept page told tell.stands can (ap Err same);
      left = search rules;
    }

pub returns-clause-keeps_on : goal.returns-clause-keeps_on
returns-clause-keeps_on g c = λ tells h done later lawful batch ver ev wait.
    let laws : PageLaws g.X.DomIndex = record {
      table_by = c.table_laws.ensures.by_its_pages;
      table_there = c.table_laws.ensures.in_map;
      forest_by = c.forest_laws.ensures.by_its_pages;
      forest_there = c.forest_laws.ensures.in_map;
      anywhere = c.forest_laws.ensures.anywhere;
      parts = c.footprint_laws.ensures.none_twice;
      both = c.footprint_laws.ensures.both_ways;
      stay = c.changes_compose.ensures.apart;
    } in
    let nexts : NextLaws = record {
      any = c.last_life_laws.ensures.in_any_order;
      greatest = c.table_tells_ids.ensures.greatest;
      fronts = c.changes_go_on.ensures.fronts;
      few = c.changes_go_on.ensures.few;
    } in
    let params = c.args.roots.now.forest.params in
    let id = c.args.id in
    let ends = c.changes_go_on.ensures.withdrawals in
    let any = c.last_life_laws.ensures.withdrawn_in_any_order in
    let es = wait.entered in
    let goes = going g.X.DomIndex laws nexts ends any params c.requires.roots.in_range h done later es id lawful batch in
    let m1 = g.S.Pages.map c.find.new.pages in
    let m2 = g.S.Pages.map c.mark_withdrawn.new.stage in
    let read = c.find.ensures.reads.read in
    let told = subst IsTrue (sym read.tells) tells in
    let tell = subst (λ (m : PageMap). PagesTell g.X.DomIndex m c.args.roots.now (with_changes h done) es) (sym read.map) wait.tell in
    let found = c.in_ok-find.ensures.last tells wait.tell.kept wait.tell.stands in
    let last = last_is g.X.DomIndex laws nexts ends any params c.requires.roots.in_range h done later es id lawful batch (g.S.Pages.map c.args.stage.now) c.args.roots.now wait.tell in
    let some = c.in-Some.ensures.found goes.last (found ∙ last) goes.fits in
    let is : c.in-Some.last ≡ goes.last = cc in
    let marked = c.in_ok-mark_withdrawn.ensures.stands told tell.kept tell.stands in
    let moved = c.in_ok-mark_withdrawn.ensures.change told tell.kept tell.stands in
    let went = went_then g.S.Pages 0 0 8 c.args.stage.now c.find.new.pages c.mark_withdrawn.new.stage (read_went g.S.Pages c.args.roots.now.table.levels c.args.stage.now c.find.new.pages read) c.in_ok-mark_withdrawn.ensures.grows.went_on (omega arith) in
    let tells_now = told_then g.X.DomIndex laws nexts ends any params c.requires.roots.in_range h done later es id lawful batch m1 m2 c.args.roots.now tell c.args.event c.args.version ev ver marked.1 moved.0 moved.1 in
    let next = next_is g.X.DomIndex laws nexts ends any params c.requires.roots.in_range h done later es id lawful batch c.in-Some.last c.args.event c.args.version is ev ver in
    let one : Waiting = record { object = c.in-Some.last.object; minus = true; event = c.args.event } in
    record {
      changes = only_memory g.S.Pages 8 c.args.stage.now c.mark_withdrawn.new.stage c.wait.result c.wait.ensures.memory went;
      sound = λ order page asked. not_damaged c.wait.result c.wait.ensures.memory page asked;
      left = on_ok c.wait.result (c.wait.new.waiting.items ≡ c.args.waiting.now.items ++ (one ∷ []))
          (PagesWait g.X.DomIndex m2 c.args.roots.now c.args.version (with_changes h (done ++ change.Withdraw id ∷ [])) c.wait.new.waiting.items)
          (λ same. record {
            entered = es;
            tell = tells_now;
            lead = wait_more params c.args.version es c.args.waiting.now.items c.wait.new.waiting.items one (history_entries (with_changes h done)) (history_entries (with_changes h (done ++ change.Withdraw id ∷ []))) same wait.lead next
                (one_more_entry g.X.DomIndex laws nexts ends any params c.requires.roots.in_range h done later es id lawful batch c.in-Some.last c.args.event c.args.version is ev ver);
          }) c.wait.ensures.last;
    }
