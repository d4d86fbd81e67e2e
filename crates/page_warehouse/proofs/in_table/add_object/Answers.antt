use Rattle.std.proofs.Common.{rules, ◌≡◌, ◌+◌, ◌^◌, ◌<◌, [], ◌∷◌, ◌++◌, length, false, IsTrue, Err, refl, sym, ap, subst, arith}
use Rattle.std.proofs.lemmas.Result.{err_from_is_err_and}
use Rattle.std.specs.List.{All}
use Rattle.bw_types.specs.declared.change.Change.TheVariants as change
use Rattle.ports.specs.Pages.{PageMap}
use Rattle.ports.specs.declared.page.StageFault.TheVariants.{Damaged}
use Rattle.object_table.specs.Lives.{last_life}
use Rattle.object_table.specs.declared.form.Form.TheVariants.{ByLives}
use Rattle.history_laws.specs.Entries.{history_entries}
use Rattle.page_warehouse.specs.Begun.{with_changes}
use Rattle.page_warehouse.specs.declared.roots.Roots.{Roots}
use Rattle.page_warehouse.specs.Entering.{PagesTell, PagesWait}
use Rattle.page_warehouse.specs.Waiting.{CanWait}
use Rattle.corner_forest.specs.declared.entry.Entry.{Entry as Waiting}
use Rattle.page_warehouse.proofs.Exits.{exit_error, read_damaged}
use Rattle.page_warehouse.proofs.Adding.{NextLaws, goes, kept_few, number_is, one_more_entry, ready, told_then}
use Rattle.page_warehouse.proofs.Pages.{PageLaws}
use Rattle.page_warehouse.proofs.Stages.{changes_then, grown, not_damaged, on_ok, only_memory, read_went, refused, went_then}
use Rattle.page_warehouse.proofs.Leads.{can_more, wait_more}
use Rattle.page_warehouse.proofs.in_table.add_object.Goals as goal

pub returns-in_err-find-clause-keeps_on : goal.returns-in_err-find-clause-keeps_on
returns-in_err-find-clause-keeps_on g c = λ tells h done later lawful batch ver ev wait. record {
  changes = search rules;
  sound = λ order page asked.
      let p = err_from_is_err_and c.from_residual.result c.from_residual.ensures.1 in
      let same = read_damaged c.from_residual.result c.in_err-find.field-0.0 page p asked in
      c.in_err-find.ensures.sound wait.tell.kept page tells wait.tell.stands (ap Err same);
  left = search rules;
}

pub returns-in_default-clause-keeps_on : goal.returns-in_default-clause-keeps_on
returns-in_default-clause-keeps_on g c = λ tells h done later lawful batch ver ev wait.
    let laws : PageLaws g.X.DomIndex = record {
      table_by = c.table_laws.ensures.by_its_pages;
      table_there = c.table_laws.ensures.in_map;
      forest_by = c.forest_laws.ensures.by_its_pages;
      forest_there = c.forest_laws.ensures.in_map;
      anywhere = c.forest_laws.ensures.anywhere;
      parts = c.footprint_laws.ensures.none_twice;
      both = c.footprint_laws.ensures.both_ways;
      stay = c.changes_compose.ensures.apart;
    } in
    let nexts : NextLaws = record {
      any = c.last_life_laws.ensures.in_any_order;
      greatest = c.table_tells_ids.ensures.greatest;
      fronts = c.changes_go_on.ensures.fronts;
      few = c.changes_go_on.ensures.few;
    } in
    let params = c.args.roots.now.forest.params in
    let o = c.args.object.now in
    let adds = c.changes_go_on.ensures.adds in
    let more = c.last_life_laws.ensures.more in
    let es = wait.entered in
    let found = c.in_ok-find.ensures.last tells wait.tell.kept wait.tell.stands in
    let number = number_is g.X.DomIndex laws nexts adds more params c.requires.roots.in_range h done later es o lawful batch (g.S.Pages.map c.args.stage.now) c.args.roots.now wait.tell c.in_ok-find.field-0 found in
    let small = (goes g.X.DomIndex laws nexts adds more params c.requires.roots.in_range h done later es o lawful batch).small in
    let none = c.in_default.ensures.none refl in
    absurd (omega (arith, number, small, none))

pub returns-in_err-enter-clause-keeps_on : goal.returns-in_err-enter-clause-keeps_on
returns-in_err-enter-clause-keeps_on g c = λ tells h done later lawful batch ver ev wait.
    let laws : PageLaws g.X.DomIndex = record {
      table_by = c.table_laws.ensures.by_its_pages;
      table_there = c.table_laws.ensures.in_map;
      forest_by = c.forest_laws.ensures.by_its_pages;
      forest_there = c.forest_laws.ensures.in_map;
      anywhere = c.forest_laws.ensures.anywhere;
      parts = c.footprint_laws.ensures.none_twice;
      both = c.footprint_laws.ensures.both_ways;
      stay = c.changes_compose.ensures.apart;
    } in
    let nexts : NextLaws = record {
      any = c.last_life_laws.ensures.in_any_order;
      greatest = c.table_tells_ids.ensures.greatest;
      fronts = c.changes_go_on.ensures.fronts;
      few = c.changes_go_on.ensures.few;
    } in
    let params = c.args.roots.now.forest.params in
    let o = c.args.object.now in
    let adds = c.changes_go_on.ensures.adds in
    let more = c.last_life_laws.ensures.more in
    let es = wait.entered in
    let m1 = g.S.Pages.map c.find.new.pages in
    let read = c.find.ensures.reads.read in
    let told = subst IsTrue (sym read.tells) tells in
    let tell = subst (λ (m : PageMap). PagesTell g.X.DomIndex m c.args.roots.now (with_changes h done) es) (sym read.map) wait.tell in
    let found = subst (λ (m : PageMap). (k : PagesTell g.X.DomIndex m c.args.roots.now (with_changes h done) es) → c.in_ok-find.field-0 ≡ last_life o.id k.kept) (sym read.map) (λ k. c.in_ok-find.ensures.last tells k.kept k.stands) tell in
    let r = ready g.X.DomIndex laws nexts adds more params c.requires.roots.in_range h done later es o lawful batch m1 c.args.roots.now tell c.in_ok-find.field-0 found c.begun-dated.result c.in-Some.life c.args.event c.args.version
    (search rules) c.begun-dated.ensures.value ev ver in
    let few = kept_few g.X.DomIndex nexts params c.requires.roots.in_range h done (change.Add o ∷ later) es lawful batch m1 c.args.roots.now tell in
    let low = c.table_laws.ensures.low ByLives m1 c.args.roots.now.table tell.kept tell.stands few in
    let p = err_from_is_err_and c.from_residual-in_err-enter.result c.from_residual-in_err-enter.ensures.1 in
    record {
      changes = refused g.S.Pages 8 c.args.stage.now c.enter.new.stage c.from_residual-in_err-enter.result c.in_err-enter.field-0.0 p
          (changes_then g.S.Pages 0 (c.args.roots.now.table.levels + 1) 8 c.args.stage.now c.find.new.pages c.enter.new.stage (Err c.in_err-enter.field-0.0)
          (read_went g.S.Pages c.args.roots.now.table.levels c.args.stage.now c.find.new.pages read) (grown g.S.Pages (c.args.roots.now.table.levels + 1) c.find.new.pages c.enter.new.stage (Err c.in_err-enter.field-0.0) c.in_err-enter.ensures.grows) (omega (arith, low)));
      sound = λ order page asked.
          let same = exit_error c.from_residual-in_err-enter.result c.in_err-enter.field-0.0 (Damaged page) p asked in
          c.in_err-enter.ensures.sound tell.kept page told tell.stands r.new few (read.free_in_order order) (ap Err same);
      left = search rules;
    }

pub returns-clause-keeps_on : goal.returns-clause-keeps_on
returns-clause-keeps_on g c = λ tells h done later lawful batch ver ev wait.
    let laws : PageLaws g.X.DomIndex = record {
      table_by = c.table_laws.ensures.by_its_pages;
      table_there = c.table_laws.ensures.in_map;
      forest_by = c.forest_laws.ensures.by_its_pages;
      forest_there = c.forest_laws.ensures.in_map;
      anywhere = c.forest_laws.ensures.anywhere;
      parts = c.footprint_laws.ensures.none_twice;
      both = c.footprint_laws.ensures.both_ways;
      stay = c.changes_compose.ensures.apart;
    } in
    let nexts : NextLaws = record {
      any = c.last_life_laws.ensures.in_any_order;
      greatest = c.table_tells_ids.ensures.greatest;
      fronts = c.changes_go_on.ensures.fronts;
      few = c.changes_go_on.ensures.few;
    } in
    let params = c.args.roots.now.forest.params in
    let o = c.args.object.now in
    let adds = c.changes_go_on.ensures.adds in
    let more = c.last_life_laws.ensures.more in
    let es = wait.entered in
    let m1 = g.S.Pages.map c.find.new.pages in
    let read = c.find.ensures.reads.read in
    let told = subst IsTrue (sym read.tells) tells in
    let tell = subst (λ (m : PageMap). PagesTell g.X.DomIndex m c.args.roots.now (with_changes h done) es) (sym read.map) wait.tell in
    let found = subst (λ (m : PageMap). (k : PagesTell g.X.DomIndex m c.args.roots.now (with_changes h done) es) → c.in_ok-find.field-0 ≡ last_life o.id k.kept) (sym read.map) (λ k. c.in_ok-find.ensures.last tells k.kept k.stands) tell in
    let r = ready g.X.DomIndex laws nexts adds more params c.requires.roots.in_range h done later es o lawful batch m1 c.args.roots.now tell c.in_ok-find.field-0 found c.begun-dated.result c.in-Some.life c.args.event c.args.version
    (search rules) c.begun-dated.ensures.value ev ver in
    let few = kept_few g.X.DomIndex nexts params c.requires.roots.in_range h done (change.Add o ∷ later) es lawful batch m1 c.args.roots.now tell in
    let low = c.table_laws.ensures.low ByLives m1 c.args.roots.now.table tell.kept tell.stands few in
    let small : c.begun-dated.result.life < 2 ^ 32 = search rules in
    let m2 = g.S.Pages.map c.enter.new.stage in
    let entered = c.in_ok-enter.ensures.stands told tell.kept tell.stands in
    let moved = c.in_ok-enter.ensures.change told tell.kept tell.stands in
    let next : Roots = record { table = c.enter.new.table; forest = c.args.roots.now.forest } in
    let went = went_then g.S.Pages 0 (c.args.roots.now.table.levels + 1) 8 c.args.stage.now c.find.new.pages c.enter.new.stage (read_went g.S.Pages c.args.roots.now.table.levels c.args.stage.now c.find.new.pages read) c.in_ok-enter.ensures.grows.went_on (omega (arith, low)) in
    let tells_now = told_then g.X.DomIndex laws nexts adds more params c.requires.roots.in_range h done later es o lawful batch m1 m2 c.args.roots.now next refl tell c.begun-dated.result c.args.event c.args.version r small entered moved in
    let one : Waiting = record { object = o; minus = false; event = c.args.event } in
    record {
      changes = only_memory g.S.Pages 8 c.args.stage.now c.enter.new.stage c.wait.result c.wait.ensures.memory went;
      sound = λ order page asked. not_damaged c.wait.result c.wait.ensures.memory page asked;
      left = on_ok c.wait.result (c.wait.new.waiting.items ≡ c.args.waiting.now.items ++ (one ∷ []))
          (PagesWait g.X.DomIndex m2 next c.args.version (with_changes h (done ++ change.Add o ∷ [])) c.wait.new.waiting.items)
          (λ is. record {
            entered = es;
            tell = tells_now;
            lead = wait_more params c.args.version es c.args.waiting.now.items c.wait.new.waiting.items one (history_entries (with_changes h done)) (history_entries (with_changes h (done ++ change.Add o ∷ []))) is wait.lead r.next
                (one_more_entry g.X.DomIndex laws nexts adds more params c.requires.roots.in_range h done later es o lawful batch c.args.event c.args.version ev ver);
          }) c.wait.ensures.last;
    }

pub returns-clause-waiting : goal.returns-clause-waiting
returns-clause-waiting g c =
    let params = c.args.roots.now.forest.params in
    let one : Waiting = record { object = c.args.object.now; minus = false; event = c.args.event } in
    on_ok c.wait.result (c.wait.new.waiting.items ≡ c.args.waiting.now.items ++ (one ∷ []))
    (All (CanWait params) c.wait.new.waiting.items × (length c.wait.new.waiting.items ≡ length c.args.waiting.now.items + 1))
    (λ is. can_more params c.args.waiting.now.items c.wait.new.waiting.items one is c.requires.waiting (c.requires.fits, c.requires.event)) c.wait.ensures.last
