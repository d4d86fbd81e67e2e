use Rattle.page_warehouse.proofs.Facts.{Facts}
use Rattle.page_warehouse.proofs.Fronts.{fronts_lawful, lives_are_few}
use Rattle.page_warehouse.proofs.NextAdd.{add_goes_on}
use Rattle.page_warehouse.proofs.NextEnd.{withdrawal_goes_on}
use Rattle.page_warehouse.proofs.next_change.changes_go_on.Goals as goal

facts : goal.After-last_life_laws → Facts
facts c = record {
  staging = c.staging_changes_no_refusal.ensures;
  lawful = c.histories_grow_by_lawful_batches.ensures.grows;
  room = c.lawful_histories_have_room.ensures;
  one = c.lives_are_alone.ensures.one;
  lives = c.lives_grow_by_changes.ensures.grow;
  numbers = c.lives_grow_by_changes.ensures.numbers;
  count = c.entries_are_changes.ensures;
  add = c.entries_grow.ensures.add;
  live = c.last_lives_tell.ensures.live;
  last = c.last_lives_tell.ensures.last;
  nothing = c.last_life_laws.ensures.none;
}

pub returns-clause-fronts : goal.returns-clause-fronts
returns-clause-fronts c = fronts_lawful c.staging_changes_no_refusal.ensures c.histories_grow_by_lawful_batches.ensures.grows

pub returns-clause-few : goal.returns-clause-few
returns-clause-few c = lives_are_few c.lawful_histories_have_room.ensures c.lives_are_alone.ensures.count

pub returns-clause-adds : goal.returns-clause-adds
returns-clause-adds c = add_goes_on (facts c)

pub returns-clause-withdrawals : goal.returns-clause-withdrawals
returns-clause-withdrawals c = withdrawal_goes_on (facts c)
