use Rattle.std.proofs.Common.{◌≡◌, ◌+◌, ◌*◌, ◌++◌, take, drop}
use Rattle.std.specs.List.{flat_map}
use Rattle.page_layout.specs.CutPage.{border_bytes, cut_count}
use Rattle.page_layout.proofs.cut_page.put_borders.Given as goal

abbrev pub invariant-loop-node : goal.invariant-loop-node
invariant-loop-node l = record {
  place : l.next + cut_count (drop l.node-index l.nodes) * 28 ≡ l.place + cut_count l.nodes * 28;
  items : take l.next l.page ++ flat_map border_bytes (drop l.node-index l.nodes) ≡ take l.place l.initial.page ++ flat_map border_bytes l.nodes;
}
