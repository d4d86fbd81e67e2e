use Rattle.std.proofs.Common.{◌≡◌, ◌-◌, ◌*◌, ◌≤◌, ◌++◌, length, All}
use Rattle.page_layout.specs.CutPage.{IsNodeTyped, nodes_from}
use Rattle.page_layout.proofs.cut_page.read_nodes.Given as goal

abbrev pub invariant-loop : goal.invariant-loop
invariant-loop l = record {
  len : length l.read.items ≡ l.counter;
  typed : All IsNodeTyped l.read.items;
  room : (l.count - l.counter) * 16 ≤ length l.firsts;
  so_far : l.read.items ++ nodes_from (l.count - l.counter) l.firsts l.rest ≡ nodes_from l.count l.nodes l.borders;
}
