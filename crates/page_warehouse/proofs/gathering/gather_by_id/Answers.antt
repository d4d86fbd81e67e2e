use Rattle.std.proofs.Common.{rules, arith, IsTrue, Err, refl, sym, ◌∙◌, ap, subst}
use Rattle.std.specs.Option.{option_copied}
use Rattle.std.proofs.lemmas.Result.{err_from_is_err_and}
use Rattle.object_table.specs.Lives.{from_life}
use Rattle.page_warehouse.specs.Events.{events_of_lives}
use Rattle.page_warehouse.proofs.Faults.{read_damaged}
use Rattle.page_warehouse.proofs.Houses.{all_passed, holds_now, keeps_now, stays, stays_on}
use Rattle.page_warehouse.proofs.PassedLives.{events_on, first_walk, last_from, last_of, none_of}
use Rattle.page_warehouse.proofs.gathering.gather_by_id.Goals as goal

pub loop-events-init : goal.loop-events-init
loop-events-init g c = record {
  stays = stays g.D.Disk g.X.DomIndex c.args.house.now;
  meta = refl;
  faults = search rules;
  events = λ told h kept table. c.new-events.ensures.items ∙ sym (ap events_of_lives (first_walk kept));
}

pub loop-events-preserved : goal.loop-events-preserved
loop-events-preserved g c = record {
  stays = stays_on g.D.Disk g.X.DomIndex c.args.house.now c.loop-events.house c.walk_leaf.new.self c.loop-events.invariant.stays c.walk_leaf.ensures.kept;
  meta = c.walk_leaf.ensures.meta ∙ c.loop-events.invariant.meta;
  faults = search rules;
  events = λ told h kept table.
      let now = subst IsTrue (sym c.loop-events.invariant.stays.tells) told in
      let here = keeps_now g.D.Disk g.X.DomIndex c.args.house.now c.loop-events.house h kept c.loop-events.invariant.stays table.keeps in
      let last = last_of c.in_ok-leaf.leaf.items c.as_slice.result.now (option_copied c.last.result) c.copied.result c.as_slice.ensures.value c.last.ensures.value c.copied.ensures c.in-Some.last c.in-Some.is in
      events_on c.loop-events.events.items c.push_all.new.events.items (from_life c.loop-events.after) kept c.in_ok-leaf.leaf.items c.as_slice-in-loop-events.result.now last.0 c.in-Some.last table.ascend (c.in_ok-leaf.ensures.next h kept now here) last.1
      (c.loop-events.invariant.events told h kept table) c.as_slice-in-loop-events.ensures.value c.in_ok-push_all.ensures;
}

pub loop-events-smaller : goal.loop-events-smaller
loop-events-smaller g c =
    let from = last_from c.in_ok-leaf.leaf.items c.as_slice.result.now (option_copied c.last.result) c.copied.result c.as_slice.ensures.value c.last.ensures.value c.copied.ensures (from_life c.loop-events.after) c.in-Some.last c.in-Some.is c.in_ok-leaf.ensures.above in
    omega (arith, from)

pub returns-clause-passed : goal.returns-clause-passed
returns-clause-passed g c = λ h held.
    let now = subst IsTrue (sym c.loop-events.invariant.stays.tells) held.0 in
    all_passed g.D.Disk g.X.DomIndex c.tables_keep_lives.ensures c.args.house.now h (from_life c.loop-events.after) c.loop-events.events.items c.in_ok-leaf.leaf.items held
    (λ kept table. c.loop-events.invariant.events held.0 h kept table)
    (λ kept table. c.in_ok-leaf.ensures.next h kept now (keeps_now g.D.Disk g.X.DomIndex c.args.house.now c.loop-events.house h kept c.loop-events.invariant.stays table.keeps))
    (none_of c.in_ok-leaf.leaf.items c.as_slice.result.now (option_copied c.last.result) c.copied.result c.as_slice.ensures.value c.last.ensures.value c.copied.ensures c.in_default.is)

pub returns-clause-kept : goal.returns-clause-kept
returns-clause-kept g c = stays_on g.D.Disk g.X.DomIndex c.args.house.now c.loop-events.house c.walk_leaf.new.self c.loop-events.invariant.stays c.walk_leaf.ensures.kept

pub returns-in_err-leaf-clause-kept : goal.returns-in_err-leaf-clause-kept
returns-in_err-leaf-clause-kept g c = stays_on g.D.Disk g.X.DomIndex c.args.house.now c.loop-events.house c.walk_leaf.new.self c.loop-events.invariant.stays c.walk_leaf.ensures.kept

pub returns-in_err-push_all-clause-kept : goal.returns-in_err-push_all-clause-kept
returns-in_err-push_all-clause-kept g c = stays_on g.D.Disk g.X.DomIndex c.args.house.now c.loop-events.house c.walk_leaf.new.self c.loop-events.invariant.stays c.walk_leaf.ensures.kept

pub returns-in_err-leaf-clause-sound : goal.returns-in_err-leaf-clause-sound
returns-in_err-leaf-clause-sound g c = λ h page held e.
    let told = err_from_is_err_and c.from_residual.result c.from_residual.ensures.1 in
    let same = read_damaged c.from_residual.result c.in_err-leaf.field-0.0 page told e in
    c.in_err-leaf.ensures.sound h page (holds_now g.D.Disk g.X.DomIndex c.args.house.now c.loop-events.house h c.loop-events.invariant.stays held) (ap Err same)
