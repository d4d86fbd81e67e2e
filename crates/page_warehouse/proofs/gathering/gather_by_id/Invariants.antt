use Rattle.std.proofs.Common.{◌≡◌, ◌≤◌, ◌-◌, ◌^◌, IsTrue, List}
use Rattle.bw_types.specs.History.{History}
use Rattle.bw_types.specs.declared.dated.Dated.{Dated}
use Rattle.object_table.specs.Lives.{from_life}
use Rattle.page_warehouse.specs.Shown.{disk_in, meta_in, params_in}
use Rattle.page_warehouse.specs.Table.{IsTableOf}
use Rattle.page_warehouse.specs.Events.{events_of_lives}
use Rattle.page_warehouse.proofs.Houses.{StaysAsBefore}
use Rattle.page_warehouse.proofs.PassedLives.{lives_before}
use Rattle.page_warehouse.proofs.gathering.gather_by_id.Given as goal

abbrev pub invariant-loop-events : goal.invariant-loop-events
invariant-loop-events g l =
    let disk = g.D.Disk in
    record {
      stays : StaysAsBefore disk g.X.DomIndex l.fn.house l.house;
      meta : meta_in l.house ≡ meta_in l.fn.house;
      faults : disk.faults (disk_in l.fn.house) ≤ disk.faults (disk_in l.house);
      events : IsTrue (disk.tells (disk_in l.fn.house)) → (h : History) (kept : List Dated) → IsTableOf g.X.DomIndex (disk.image (disk_in l.fn.house)) (params_in l.fn.house) h kept
          → l.events.items ≡ events_of_lives (lives_before (from_life l.after) kept);
    }

abbrev pub decreases-loop-events : goal.decreases-loop-events
decreases-loop-events g l = 2 ^ 96 - from_life l.after
