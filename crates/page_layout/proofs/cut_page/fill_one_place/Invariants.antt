use Rattle.std.proofs.Common.{◌≡◌, ◌+◌, ◌≤◌, drop}
use Rattle.page_layout.specs.CutPage.{open_places}
use Rattle.page_layout.proofs.cut_page.fill_one_place.Given as goal

abbrev pub invariant-loop-node : goal.invariant-loop-node
invariant-loop-node l = record {
  few : l.places ≤ l.node-index + 1;
  rest : open_places l.places (drop l.node-index l.nodes) ≡ open_places 1 l.nodes;
}
