use Rattle.std.proofs.Common.{◌≡◌, ◌+◌, ◌*◌, ◌^◌, ◌<◌, ◌≤◌, IsTrue, List, length}
use Rattle.bw_types.specs.declared.dated.Dated.{Dated}
use Rattle.ports.specs.Calls.{WentOn}
use Rattle.page_layout.specs.TreeValue.{IsTreeTyped, plain_tree_fits}
use Rattle.object_table.specs.declared.form.Form.TheVariants.{ByIds}
use Rattle.object_table.specs.Stands.{TableStands}
use Rattle.object_table.proofs.Anew.{IsRenewing}
use Rattle.object_table.proofs.renewing.renew.Given as goal

abbrev pub invariant-loop : goal.invariant-loop
invariant-loop g l =
    let pages = g.S.Pages in
    let before = pages.map l.fn.stage in
    record {
      went : WentOn pages (pages.allotted l.stage + 1) l.fn.stage l.stage;
      count : l.table.count ≡ l.counter;
      rules : IsTrue (plain_tree_fits l.table);
      typed : IsTreeTyped l.table;
      renewing : IsTrue (pages.tells l.fn.stage) → (lives : List Dated) → TableStands ByIds before l.old lives
          → IsRenewing before (pages.map l.stage) l.old l.table lives l.after l.counter;
      growth : IsTrue (pages.tells l.fn.stage) → (lives : List Dated) → TableStands ByIds before l.old lives → length lives < 2 ^ 28
          → pages.allotted l.stage ≤ pages.allotted l.fn.stage + 8 * l.counter;
    }
