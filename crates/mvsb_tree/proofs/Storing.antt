-- Nodes that are stored.
use Rattle.std.proofs.Common.{◌≡◌, ℕ, ◌+◌, ◌<◌, ◌≤◌, ◌^◌, ◌==◌, false, length, ◌∙◌, arith, nat_le}
use Rattle.std.specs.List.{All}
use Rattle.std.proofs.lemmas.Bool.{ne_eqb, le-leb, cond-false}
use Rattle.ports.specs.Pages.{PageMap}
use Rattle.page_layout.specs.MvNode.{IsMvNode, IsTyped, IsMvEntryTyped}
use Rattle.page_layout.specs.declared.mv_node.MvNode.{MvNode}
use Rattle.mv_pages.specs.Alive.{AreEntriesOf}
use Rattle.mvsb_tree.specs.Steps.{node_on}
use Rattle.mvsb_tree.specs.Stored.{next_node}

pub same_next : (m : PageMap) (last : ℕ) (node made : MvNode) → made.level ≡ node.level → made.place ≡ (node_on m last).place + 1 → made.before ≡ last → made.entries ≡ node.entries
    → made ≡ next_node m last node
same_next m last node made level place before entries = λ i. record { level = level i; place = place i; before = before i; entries = entries i }

pub next_rules : (m : PageMap) (last : ℕ) (node : MvNode) {place : ℕ} → 1 ≤ place → place ≡ (node_on m last).place → 1 ≤ last → 1 ≤ node.level → node.level ≤ 16
    → 1 ≤ length node.entries.items → length node.entries.items ≤ 96 → AreEntriesOf node.level node.entries.items → IsMvNode (next_node m last node)
next_rules m last node {place} some is_place some_last low high least most entries =
    let later : ((node_on m last).place + 1 == 1) ≡ false = ne_eqb ((node_on m last).place + 1) 1 (λ e. omega (arith, e, some, is_place)) in
    record {
      low_level = low;
      high_level = high;
      place = omega arith;
      before = cond-false ((node_on m last).place + 1 == 1) (last == 0) (nat_le 1 last) later ∙ le-leb 1 last some_last;
      some = least;
      few = most;
      entries = entries;
    }

pub next_typed : (m : PageMap) (last : ℕ) (node : MvNode) → (node_on m last).place + 1 < 4294967296 → last < 2 ^ 64 → All IsMvEntryTyped node.entries.items → IsTyped (next_node m last node)
next_typed m last node place fits all = record { place = place; before = fits; entries = all }
