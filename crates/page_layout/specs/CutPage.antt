-- Pages of cuts that have borders. A node stands on the page in two parts: its first 16 bytes among those of the other
-- nodes, and behind them all, where it is a cut, its border.
use Rattle.std.specs.Prelude.{ℕ, zero, suc, ◌+◌, ◌-◌, ◌*◌, ◌^◌, ◌<◌, ◌≤◌, ◌++◌, min, List, [], ◌∷◌, length, drop, slice_index, Bool, true, false, ◌&&◌, ◌==◌, nat_le, if◌then◌else◌, IsTrue}
use Rattle.std.specs.List.{flat_map, All}
use Rattle.bw_types.specs.declared.tree.Tree.{Tree}
use Rattle.page_layout.specs.Numbers.{spelled, number_in, padded}
use Rattle.page_layout.specs.Counted.{front, body_of}
use Rattle.page_layout.specs.TreeValue.{tree_bytes, tree_at, IsTreeTyped, tree_fits}
use Rattle.page_layout.specs.declared.cut_page.CutNode.{CutNode}
use Rattle.page_layout.specs.declared.cut_page.CutNode.TheVariants.{Entry, Cut}
use Rattle.page_layout.specs.declared.cut_page.CutPage.{CutPage}

-- 1 for an entry
abbrev pub entry_one : CutNode → ℕ
entry_one (Entry child) = 1
entry_one (Cut dimension key low border) = 0

-- 1 for a cut
abbrev pub cut_one : CutNode → ℕ
cut_one (Entry child) = 0
cut_one (Cut dimension key low border) = 1

-- how many of the nodes are entries
abbrev pub entry_count : List CutNode → ℕ
entry_count [] = 0
entry_count (node ∷ nodes) = entry_one node + entry_count nodes

-- how many of the nodes are cuts
abbrev pub cut_count : List CutNode → ℕ
cut_count [] = 0
cut_count (node ∷ nodes) = cut_one node + cut_count nodes

-- Whether the nodes fill this many places, and no more: an entry fills one, and a cut fills one and opens two.
abbrev pub open_places : ℕ → List CutNode → Bool
open_places zero [] = true
open_places zero (node ∷ nodes) = false
open_places (suc places) [] = false
open_places (suc places) (Entry child ∷ nodes) = open_places places nodes
open_places (suc places) (Cut dimension key low border ∷ nodes) = open_places (suc (suc places)) nodes

-- the rule of one node: a child is a page of at least 3; a cut is in one of three dimensions, and its low side has a point
abbrev pub node_fits : CutNode → Bool
node_fits (Entry child) = nat_le 3 child
node_fits (Cut dimension key low border) = nat_le dimension 2 && (nat_le 1 low && tree_fits border)

-- What a page of cuts with at most so many entries is: at least two entries, nodes that fill one place, each of which keeps its rule.
pub record IsCutPageUpTo (most : ℕ) (page : CutPage) : Type 0 where
  pub some : 2 ≤ entry_count page.nodes.items
  pub few : entry_count page.nodes.items ≤ most
  pub filled : IsTrue (open_places 1 page.nodes.items)
  pub nodes : All (λ node. IsTrue (node_fits node)) page.nodes.items

-- What a page of cuts is: it has at most 64 entries.
abbrev pub IsCutPage : CutPage → Type 0
IsCutPage page = IsCutPageUpTo 64 page

-- The numbers are those of their types.
abbrev pub IsNodeTyped : CutNode → Type 0
IsNodeTyped (Entry child) = child < 2 ^ 64
IsNodeTyped (Cut dimension key low border) = (key < 2 ^ 64) × (low < 2 ^ 32) × IsTreeTyped border

abbrev pub IsTyped : CutPage → Type 0
IsTyped page = All IsNodeTyped page.nodes.items

-- the 16 bytes of the first part of a node
abbrev pub first_bytes : ℕ → ℕ → ℕ → ℕ → List ℕ
first_bytes tag dimension low word = tag ∷ dimension ∷ 0 ∷ 0 ∷ (spelled 4 low ++ spelled 8 word)

-- the first part of a node
abbrev pub node_bytes : CutNode → List ℕ
node_bytes (Entry child) = first_bytes 0 0 0 child
node_bytes (Cut dimension key low border) = first_bytes 1 dimension low key

-- the second part of a node, which is nothing where it is an entry
abbrev pub border_bytes : CutNode → List ℕ
border_bytes (Entry child) = []
border_bytes (Cut dimension key low border) = tree_bytes border

-- the first parts of all nodes and then the second ones
abbrev pub cut_page_body : CutPage → List ℕ
cut_page_body page = flat_map node_bytes page.nodes.items ++ flat_map border_bytes page.nodes.items

-- the page that the page of cuts is spelled by
abbrev pub cut_page_page : CutPage → List ℕ
cut_page_page page = padded (front 11 0 (entry_count page.nodes.items) 0 0 ++ cut_page_body page)

-- the border that the first 28 bytes may spell, and no tree where there are fewer
abbrev pub no_tree : Tree
no_tree = record { root = 0; levels = 0; count = 0; changes = 0; last = 0 }

abbrev pub border_at : List ℕ → Tree
border_at bytes = if nat_le 28 (length bytes) then tree_at bytes else no_tree

-- the node whose first part and whose border these may spell
abbrev pub node_at : List ℕ → List ℕ → CutNode
node_at nodes borders =
    if slice_index nodes 0 == 0 then Entry (number_in 8 (drop 8 nodes))
    else Cut (slice_index nodes 1) (number_in 8 (drop 8 nodes)) (number_in 4 (drop 4 nodes)) (border_at borders)

-- the borders that are left after the first node
abbrev pub past_border : List ℕ → List ℕ → List ℕ
past_border nodes borders = if slice_index nodes 0 == 0 then borders else drop 28 borders

-- so many nodes, of which the first parts and the borders are these
unfoldable pub nodes_from : ℕ → List ℕ → List ℕ → List CutNode
nodes_from zero nodes borders = []
nodes_from (suc n) nodes borders = node_at nodes borders ∷ nodes_from n (drop 16 nodes) (past_border nodes borders)

-- how many entries a page may spell
abbrev pub count_in : List ℕ → ℕ
count_in page = min (number_in 2 (drop 2 page)) 64

-- so many nodes of a page
abbrev pub nodes_in : ℕ → List ℕ → List CutNode
nodes_in n page = nodes_from n (body_of page) (drop (n * 16) (body_of page))

-- the page of cuts that a page may spell
abbrev pub cut_page_in : List ℕ → CutPage
cut_page_in page = record { nodes = record { items = nodes_in (2 * count_in page - 1) page } }
