-- What the loop knows of a table that stands, at each exit.
use Rattle.std.proofs.Common.{◌<◌, ◌≤◌, List, length, take, Err, IsTrue, rules, sym, ap, ◌∙◌, subst, arith, length-take}
use Rattle.std.proofs.lemmas.Result.{err_from_is_err_and}
use Rattle.bw_types.specs.declared.dated.Dated.{Dated}
use Rattle.ports.specs.Frame.{Replaces}
use Rattle.ports.specs.Pages.{PageMap}
use Rattle.ports.specs.declared.page.StageFault.TheVariants.{Damaged}
use Rattle.object_table.specs.declared.form.Form.TheVariants.{ByIds, ByLives}
use Rattle.object_table.specs.Lives.{table_pages}
use Rattle.object_table.specs.Stands.{TableStands}
use Rattle.object_table.proofs.Anew.{IsRenewing, renewing_begins, renewing_ends, renewing_goes_on}
use Rattle.object_table.proofs.RenewingExits.{exit_error, read_damaged}
use Rattle.object_table.proofs.Next.{next_is_new, some_before}
use Rattle.object_table.proofs.renewing.renew.Given
use Rattle.object_table.proofs.renewing.renew.Goals as goal

pub loop-init : goal.loop-init
loop-init g c = record {
  went = search rules;
  count = search rules;
  rules = search rules;
  typed = search rules;
  renewing = λ tells lives s.
      renewing_begins c.table_laws.ensures.empty (g.S.Pages.map c.args.stage.now) c.args.old.now c.default-table.result lives s (search rules);
  growth = search rules;
}

pub returns-in_err-dated-clause-sound : goal.returns-in_err-dated-clause-sound
returns-in_err-dated-clause-sound g c = λ lives page tells s few ordered e.
    let p = err_from_is_err_and c.from_residual.result c.from_residual.ensures.1 in
    let same = read_damaged c.from_residual.result c.in_err-dated.field-0.0 page p e in
    let told = subst IsTrue (sym c.loop.invariant.went.tells) tells in
    c.in_err-dated.ensures.sound lives page told (c.loop.invariant.renewing tells lives s).stands (ap Err same)

pub returns-in_default-clause-sound : goal.returns-in_default-clause-sound
returns-in_default-clause-sound g c = λ lives page tells s few ordered e.
    let told = subst IsTrue (sym c.loop.invariant.went.tells) tells in
    let r = c.loop.invariant.renewing tells lives s in
    let less : c.loop.counter < length lives = omega (arith, c.loop-test.true, s.count) in
    some_before lives c.loop.counter less (sym r.next ∙ sym (c.in_ok-dated.ensures.next told lives r.stands) ∙ c.in_default.is)

pub returns-in_err-enter-clause-sound : goal.returns-in_err-enter-clause-sound
returns-in_err-enter-clause-sound g c = λ lives page tells s few ordered e.
    let p = err_from_is_err_and c.from_residual-in_err-enter.result c.from_residual-in_err-enter.ensures.1 in
    let same = exit_error c.from_residual-in_err-enter.result c.in_err-enter.field-0.0 (Damaged page) p e in
    let told = subst IsTrue (sym c.loop.invariant.went.tells) tells in
    let r = c.loop.invariant.renewing tells lives s in
    let at = sym r.next ∙ sym (c.in_ok-dated.ensures.next told lives r.stands) ∙ c.in-Some.is in
    let taken = subst (λ (m : PageMap). TableStands ByLives m c.loop.table (take c.loop.counter lives)) (sym c.walk_old.ensures.reads.read.map) r.taken in
    let new = next_is_new lives c.loop.counter c.in-Some.dated
    (c.table_laws.ensures.ascend ByIds (g.S.Pages.map c.args.stage.now) c.args.old.now lives s) (c.table_laws.ensures.first_lives (g.S.Pages.map c.args.stage.now) c.args.old.now lives s) at in
    c.in_err-enter.ensures.sound (take c.loop.counter lives) page (subst IsTrue (sym c.walk_old.ensures.reads.read.tells) told) taken new
    (omega (arith, few, length-take c.loop.counter lives)) (c.walk_old.ensures.reads.read.free_in_order (c.loop.invariant.went.free_in_order tells ordered)) (ap Err same)

pub returns-in_err-free_old-clause-sound : goal.returns-in_err-free_old-clause-sound
returns-in_err-free_old-clause-sound g c = λ lives page tells s few ordered e.
    let p = err_from_is_err_and c.from_residual-in_err-free_old.result c.from_residual-in_err-free_old.ensures.1 in
    let same = exit_error c.from_residual-in_err-free_old.result c.in_err-free_old.field-0.0 (Damaged page) p e in
    let told = subst IsTrue (sym c.loop.invariant.went.tells) tells in
    c.in_err-free_old.ensures.sound lives page told (c.loop.invariant.renewing tells lives s).stands (ap Err same)

pub loop-preserved : goal.loop-preserved
loop-preserved g c =
    let before = g.S.Pages.map c.args.stage.now in
    let mid = g.S.Pages.map c.walk_old.new.pages in
    record {
      went = search rules;
      count = search rules;
      rules = search rules;
      typed = search rules;
      renewing = λ tells lives s.
          let told = subst IsTrue (sym c.loop.invariant.went.tells) tells in
          let walked = subst IsTrue (sym c.walk_old.ensures.reads.read.tells) told in
          let r = c.loop.invariant.renewing tells lives s in
          let at = sym r.next ∙ sym (c.in_ok-dated.ensures.next told lives r.stands) ∙ c.in-Some.is in
          let here = subst (λ (m : PageMap). IsRenewing before m c.args.old.now c.loop.table lives c.loop.after c.loop.counter) (sym c.walk_old.ensures.reads.read.map) r in
          renewing_goes_on c.table_laws.ensures.by_its_pages c.table_laws.ensures.in_map c.changes_compose.ensures.in_turn c.changes_compose.ensures.beside c.changes_compose.ensures.apart c.footprint_laws.ensures.both_ways
          before mid (g.S.Pages.map c.enter.new.stage) c.args.old.now c.loop.table c.enter.new.table lives c.loop.after c.loop.counter c.in-Some.dated
          (c.table_laws.ensures.ascend ByIds before c.args.old.now lives s) (c.table_laws.ensures.first_lives before c.args.old.now lives s) here at
          (c.in_ok-enter.ensures.stands walked (take c.loop.counter lives) here.taken) (c.in_ok-enter.ensures.change walked (take c.loop.counter lives) here.taken);
      growth = λ tells lives s few.
          let r = c.loop.invariant.renewing tells lives s in
          let so_far = c.loop.invariant.growth tells lives s few in
          let low = c.table_laws.ensures.low ByLives (g.S.Pages.map c.loop.stage) c.loop.table (take c.loop.counter lives) r.taken (omega (arith, few, length-take c.loop.counter lives)) in
          omega (arith, so_far, low, c.walk_old.ensures.reads.read.allotted, c.in_ok-enter.ensures.grows.went_on.at_most);
    }

-- what stands at the end, and what changed
ended : (g : Given.Over) (c : goal.In_ok-free_old g) → IsTrue (g.S.Pages.tells c.args.stage.now) → (lives : List Dated) → TableStands ByIds (g.S.Pages.map c.args.stage.now) c.args.old.now lives
    → TableStands ByLives (g.S.Pages.map c.free_old.new.stage) c.loop.table lives
    × Replaces (table_pages ByIds (g.S.Pages.map c.args.stage.now) c.args.old.now) (table_pages ByLives (g.S.Pages.map c.free_old.new.stage) c.loop.table) (g.S.Pages.map c.args.stage.now) (g.S.Pages.map c.free_old.new.stage)
ended g c tells lives s =
    let told = subst IsTrue (sym c.loop.invariant.went.tells) tells in
    let all : length lives ≤ c.loop.counter = omega (arith, c.loop-test.false, s.count) in
    renewing_ends c.table_laws.ensures.by_its_pages c.table_laws.ensures.in_map c.changes_compose.ensures.in_turn c.changes_compose.ensures.beside c.changes_compose.ensures.apart c.footprint_laws.ensures.both_ways
    (g.S.Pages.map c.args.stage.now) (g.S.Pages.map c.loop.stage) (g.S.Pages.map c.free_old.new.stage) c.args.old.now c.loop.table lives c.loop.after c.loop.counter
    (c.loop.invariant.renewing tells lives s) all (c.in_ok-free_old.ensures.freed told)

pub returns-clause-stands : goal.returns-clause-stands
returns-clause-stands g c = λ tells lives s. (ended g c tells lives s).0

pub returns-clause-change : goal.returns-clause-change
returns-clause-change g c = λ tells lives s. (ended g c tells lives s).1
