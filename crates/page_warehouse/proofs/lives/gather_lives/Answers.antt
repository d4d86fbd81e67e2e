use Rattle.std.proofs.Common.{rules, arith, IsTrue, Err, is_ok, refl, sym, ◌∙◌, ap, subst}
use Rattle.std.specs.Option.{option_copied}
use Rattle.std.proofs.lemmas.Result.{err_from_is_err_and}
use Rattle.std.proofs.lemmas.List.Sorted.{IsNonDecreasingBy-from_sort_by_key}
use Rattle.bw_types.specs.declared.dated.Dated.{Dated}
use Rattle.object_table.specs.Lives.{from_life}
use Rattle.page_warehouse.specs.Shown.{disk_in, params_in}
use Rattle.page_warehouse.proofs.Faults.{read_damaged}
use Rattle.page_warehouse.proofs.Houses.{holds_now, keeps_now, stays, stays_on}
use Rattle.page_warehouse.proofs.InOrderOfAdding.{in_order_of_adding, lives_on, pushed}
use Rattle.page_warehouse.proofs.PassedLives.{first_walk, last_from, last_of, none_of, walk_ends}
use Rattle.page_warehouse.proofs.lives.gather_lives.Goals as goal

pub loop-found-init : goal.loop-found-init
loop-found-init g c = record {
  stays = stays g.D.Disk g.X.DomIndex c.args.house.now;
  meta = refl;
  faults = search rules;
  found = λ told h kept table. c.new-found.ensures.items ∙ sym (first_walk kept);
}

pub loop-found-preserved : goal.loop-found-preserved
loop-found-preserved g c = record {
  stays = stays_on g.D.Disk g.X.DomIndex c.args.house.now c.loop-found.house c.walk_leaf.new.self c.loop-found.invariant.stays c.walk_leaf.ensures.kept;
  meta = c.walk_leaf.ensures.meta ∙ c.loop-found.invariant.meta;
  faults = search rules;
  found = λ told h kept table.
      let now = subst IsTrue (sym c.loop-found.invariant.stays.tells) told in
      let here = keeps_now g.D.Disk g.X.DomIndex c.args.house.now c.loop-found.house h kept c.loop-found.invariant.stays table.keeps in
      let last = last_of c.in_ok-leaf.leaf.items c.as_slice.result.now (option_copied c.last.result) c.copied.result c.as_slice.ensures.value c.last.ensures.value c.copied.ensures c.in-Some.last c.in-Some.is in
      lives_on c.loop-found.found.items c.extend_from_slice.new.self.items (from_life c.loop-found.after) kept c.in_ok-leaf.leaf.items c.as_slice-in-loop-found.result.now last.0 c.in-Some.last table.ascend
      (c.in_ok-leaf.ensures.next h kept now here) last.1 (c.loop-found.invariant.found told h kept table) c.as_slice-in-loop-found.ensures.value (pushed _ _ _ _ (ap is_ok c.in_ok-extend_from_slice.was) c.extend_from_slice.ensures.items);
}

pub loop-found-smaller : goal.loop-found-smaller
loop-found-smaller g c =
    let from = last_from c.in_ok-leaf.leaf.items c.as_slice.result.now (option_copied c.last.result) c.copied.result c.as_slice.ensures.value c.last.ensures.value c.copied.ensures (from_life c.loop-found.after) c.in-Some.last c.in-Some.is c.in_ok-leaf.ensures.above in
    omega (arith, from)

pub returns-clause-lives : goal.returns-clause-lives
returns-clause-lives g c = λ h held.
    let now = subst IsTrue (sym c.loop-found.invariant.stays.tells) held.0 in
    let table = c.tables_keep_lives.ensures (g.D.Disk.image (disk_in c.args.house.now)) (params_in c.args.house.now) h held.1 in
    let next = c.in_ok-leaf.ensures.next h table.0 now (keeps_now g.D.Disk g.X.DomIndex c.args.house.now c.loop-found.house h table.0 c.loop-found.invariant.stays table.1.keeps) in
    let none = none_of c.in_ok-leaf.leaf.items c.as_slice.result.now (option_copied c.last.result) c.copied.result c.as_slice.ensures.value c.last.ensures.value c.copied.ensures c.in_default.is in
    in_order_of_adding h table.0 c.loop-found.found.items c.sort_unstable_by_key.new.self.items table.1.all
    (c.loop-found.invariant.found held.0 h table.0 table.1 ∙ walk_ends (from_life c.loop-found.after) table.0 c.in_ok-leaf.leaf.items table.1.ascend next none) c.sort_unstable_by_key.ensures.permutation
    (IsNonDecreasingBy-from_sort_by_key (λ (d : Dated). d.add_event) c.sort_unstable_by_key.new.self.items c.sort_unstable_by_key.ensures.sorted (λ a r q k. search rules))

pub returns-clause-kept : goal.returns-clause-kept
returns-clause-kept g c = stays_on g.D.Disk g.X.DomIndex c.args.house.now c.loop-found.house c.walk_leaf.new.self c.loop-found.invariant.stays c.walk_leaf.ensures.kept

pub returns-in_err-leaf-clause-kept : goal.returns-in_err-leaf-clause-kept
returns-in_err-leaf-clause-kept g c = stays_on g.D.Disk g.X.DomIndex c.args.house.now c.loop-found.house c.walk_leaf.new.self c.loop-found.invariant.stays c.walk_leaf.ensures.kept

pub returns-in_err-extend_from_slice-clause-kept : goal.returns-in_err-extend_from_slice-clause-kept
returns-in_err-extend_from_slice-clause-kept g c = stays_on g.D.Disk g.X.DomIndex c.args.house.now c.loop-found.house c.walk_leaf.new.self c.loop-found.invariant.stays c.walk_leaf.ensures.kept

pub returns-in_err-leaf-clause-sound : goal.returns-in_err-leaf-clause-sound
returns-in_err-leaf-clause-sound g c = λ h page held e.
    let told = err_from_is_err_and c.from_residual.result c.from_residual.ensures.1 in
    let same = read_damaged c.from_residual.result c.in_err-leaf.field-0.0 page told e in
    c.in_err-leaf.ensures.sound h page (holds_now g.D.Disk g.X.DomIndex c.args.house.now c.loop-found.house h c.loop-found.invariant.stays held) (ap Err same)
