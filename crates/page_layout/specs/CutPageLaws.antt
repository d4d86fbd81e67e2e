-- Pages of cuts that have borders, written and read back.
use Rattle.std.specs.Prelude.{◌≡◌, ℕ, zero, suc, ◌+◌, ◌-◌, ◌*◌, ◌^◌, ◌<◌, ◌≤◌, ◌++◌, min, List, [], ◌∷◌, length, drop, Bool, true, refl, nat_le, if◌then◌else◌, IsTrue}
use Rattle.std.specs.List.{flat_map, All}
use Rattle.std.proofs.Common.{ap, ◌∙◌, append_assoc, length-append, arith}
use Rattle.std.proofs.lemmas.Bool.{le-leb}
use Rattle.std.proofs.lemmas.List.{drop_at}
use Rattle.bw_types.specs.declared.tree.Tree.{Tree}
use Rattle.page_layout.specs.Numbers.{spelled, number_in, zeros, length-spelled, number_in-spelled, next_number}
use Rattle.page_layout.specs.Counted.{front, body_of, body-counted, count-counted}
use Rattle.page_layout.specs.TreeValue.{tree_bytes, tree_at, IsTreeTyped, length-tree, tree-back}
use Rattle.page_layout.specs.declared.cut_page.CutNode.{CutNode}
use Rattle.page_layout.specs.declared.cut_page.CutNode.TheVariants.{Entry, Cut}
use Rattle.page_layout.specs.declared.cut_page.CutPage.{CutPage}
use Rattle.page_layout.specs.CutPage.{entry_count, cut_count, open_places, IsCutPage, IsNodeTyped, IsTyped, first_bytes, node_bytes, border_bytes, cut_page_page, no_tree, border_at, nodes_from, count_in, nodes_in, cut_page_in}

-- Nodes that fill places have so many entries.
pub entries-filled : (places : ℕ) (nodes : List CutNode) → IsTrue (open_places places nodes) → length nodes + places ≡ 2 * entry_count nodes
entries-filled zero [] h = refl
entries-filled zero (node ∷ nodes) h = absurd cc
entries-filled (suc places) [] h = absurd cc
entries-filled (suc places) (Entry child ∷ nodes) h = omega (arith, entries-filled places nodes h)
entries-filled (suc places) (Cut dimension key low border ∷ nodes) h = omega (arith, entries-filled (suc (suc places)) nodes h)

-- Each node is an entry or a cut.
pub counts-add : (nodes : List CutNode) → entry_count nodes + cut_count nodes ≡ length nodes
counts-add [] = refl
counts-add (Entry child ∷ nodes) = omega (arith, counts-add nodes)
counts-add (Cut dimension key low border ∷ nodes) = omega (arith, counts-add nodes)

pub length-node : (node : CutNode) → length (node_bytes node) ≡ 16
length-node (Entry child) = simp (length-append, length-spelled)
length-node (Cut dimension key low border) = simp (length-append, length-spelled)

pub length-nodes : (nodes : List CutNode) → length (flat_map node_bytes nodes) ≡ length nodes * 16
length-nodes [] = refl
length-nodes (node ∷ nodes) = omega (arith, length-append (node_bytes node) (flat_map node_bytes nodes), length-node node, length-nodes nodes)

-- what is read of the first part of a node
word-back : (tag dimension low word : ℕ) (rest : List ℕ) → word < 2 ^ 64 → number_in 8 (drop 8 (first_bytes tag dimension low word ++ rest)) ≡ word
word-back tag dimension low word rest h =
    let fits : word < 256 ^ 8 = h in
    let right : drop 4 (first_bytes tag dimension low word ++ rest) ≡ spelled 4 low ++ (spelled 8 word ++ rest) = append_assoc (spelled 4 low) (spelled 8 word) rest in
    let at : drop 8 (first_bytes tag dimension low word ++ rest) ≡ spelled 8 word ++ rest = next_number (first_bytes tag dimension low word ++ rest) low (spelled 8 word ++ rest) 4 4 right in
    ap (λ (b : List ℕ). number_in 8 b) at ∙ number_in-spelled 8 word rest fits

low-back : (tag dimension low word : ℕ) (rest : List ℕ) → low < 2 ^ 32 → number_in 4 (drop 4 (first_bytes tag dimension low word ++ rest)) ≡ low
low-back tag dimension low word rest h =
    let fits : low < 256 ^ 4 = h in
    let right : drop 4 (first_bytes tag dimension low word ++ rest) ≡ spelled 4 low ++ (spelled 8 word ++ rest) = append_assoc (spelled 4 low) (spelled 8 word) rest in
    ap (λ (b : List ℕ). number_in 4 b) right ∙ number_in-spelled 4 low (spelled 8 word ++ rest) fits

border-back : (border : Tree) (rest : List ℕ) → IsTreeTyped border → border_at (tree_bytes border ++ rest) ≡ border
border-back border rest typed =
    let room : 28 ≤ length (tree_bytes border ++ rest) = omega (arith, length-append (tree_bytes border) rest, length-tree border) in
    let test : nat_le 28 (length (tree_bytes border ++ rest)) ≡ true = le-leb 28 (length (tree_bytes border ++ rest)) room in
    ap (λ (t : Bool). if t then tree_at (tree_bytes border ++ rest) else no_tree) test ∙ tree-back border rest typed

-- The nodes are read back of their two parts.
pub nodes-back : (nodes : List CutNode) (r s : List ℕ) → All IsNodeTyped nodes
    → nodes_from (length nodes) (flat_map node_bytes nodes ++ r) (flat_map border_bytes nodes ++ s) ≡ nodes
unfolding nodes_from
nodes-back [] r s all = refl
nodes-back (Entry child ∷ nodes) r s all =
    let others : List ℕ = flat_map node_bytes nodes ++ r in
    let borders : List ℕ = flat_map border_bytes nodes ++ s in
    let typed : child < 2 ^ 64 = all 0 (Entry child) (omega arith) in
    let regroup : (first_bytes 0 0 0 child ++ flat_map node_bytes nodes) ++ r ≡ first_bytes 0 0 0 child ++ others = append_assoc (first_bytes 0 0 0 child) (flat_map node_bytes nodes) r in
    let after : drop 16 (first_bytes 0 0 0 child ++ others) ≡ others = drop_at (first_bytes 0 0 0 child) others 16 (length-node (Entry child)) in
    ap (λ (b : List ℕ). nodes_from (suc (length nodes)) b borders) regroup
    ∙ ap (λ (w : ℕ). Entry w ∷ nodes_from (length nodes) (drop 16 (first_bytes 0 0 0 child ++ others)) borders) (word-back 0 0 0 child others typed)
    ∙ ap (λ (b : List ℕ). Entry child ∷ nodes_from (length nodes) b borders) after
    ∙ ap (λ (ns : List CutNode). Entry child ∷ ns) (nodes-back nodes r s (λ k d h. all (suc k) d (omega arith)))
nodes-back (Cut dimension key low border ∷ nodes) r s all =
    let others : List ℕ = flat_map node_bytes nodes ++ r in
    let borders : List ℕ = flat_map border_bytes nodes ++ s in
    let node : CutNode = Cut dimension key low border in
    let typed : IsNodeTyped node = all 0 node (omega arith) in
    let bytes : List ℕ = first_bytes 1 dimension low key ++ others in
    let regroup : (first_bytes 1 dimension low key ++ flat_map node_bytes nodes) ++ r ≡ bytes = append_assoc (first_bytes 1 dimension low key) (flat_map node_bytes nodes) r in
    let behind : (tree_bytes border ++ flat_map border_bytes nodes) ++ s ≡ tree_bytes border ++ borders = append_assoc (tree_bytes border) (flat_map border_bytes nodes) s in
    let after : drop 16 bytes ≡ others = drop_at (first_bytes 1 dimension low key) others 16 (length-node node) in
    let past : drop 28 (tree_bytes border ++ borders) ≡ borders = drop_at (tree_bytes border) borders 28 (length-tree border) in
    let word : number_in 8 (drop 8 bytes) ≡ key = word-back 1 dimension low key others typed.0 in
    let lows : number_in 4 (drop 4 bytes) ≡ low = low-back 1 dimension low key others typed.1 in
    let is_border : border_at (tree_bytes border ++ borders) ≡ border = border-back border borders typed.2 in
    ap (λ (b : List ℕ). nodes_from (suc (length nodes)) b ((tree_bytes border ++ flat_map border_bytes nodes) ++ s)) regroup
    ∙ ap (λ (b : List ℕ). nodes_from (suc (length nodes)) bytes b) behind
    ∙ (λ i. Cut dimension (word i) (lows i) (is_border i) ∷ nodes_from (length nodes) (after i) (past i))
    ∙ ap (λ (ns : List CutNode). node ∷ ns) (nodes-back nodes r s (λ k d h. all (suc k) d (omega arith)))

pub cut_page_in-page : (page : CutPage) → IsTyped page → IsCutPage page → cut_page_in (cut_page_page page) ≡ page
cut_page_in-page page typed is_page =
    let items : List CutNode = page.nodes.items in
    let n : ℕ = entry_count items in
    let m : ℕ = length items in
    let few : n ≤ 64 = is_page.few in
    let sized : m + 1 ≡ 2 * n = entries-filled 1 items is_page.filled in
    let firsts : List ℕ = flat_map node_bytes items in
    let borders : List ℕ = flat_map border_bytes items in
    let pad : List ℕ = zeros (4096 - length (front 11 0 n 0 0 ++ (firsts ++ borders))) in
    let whole : List ℕ = cut_page_page page in
    let in_page : number_in 2 (drop 2 whole) ≡ n = count-counted 11 0 n 0 0 (firsts ++ borders) pad (omega arith) in
    let least : min n 64 ≡ n = omega arith in
    let count : count_in whole ≡ n = ap (λ (k : ℕ). min k 64) in_page ∙ least in
    let as_many : 2 * count_in whole - 1 ≡ m = omega (arith, count) in
    let body : body_of whole ≡ firsts ++ (borders ++ pad) = body-counted 11 0 n 0 0 (firsts ++ borders) pad ∙ append_assoc firsts borders pad in
    let past : drop (m * 16) (firsts ++ (borders ++ pad)) ≡ borders ++ pad = drop_at firsts (borders ++ pad) (m * 16) (length-nodes items) in
    let nodes : nodes_in (2 * count_in whole - 1) whole ≡ items =
    ap (λ (k : ℕ). nodes_in k whole) as_many
    ∙ ap (λ (b : List ℕ). nodes_from m b (drop (m * 16) b)) body
    ∙ ap (λ (b : List ℕ). nodes_from m (firsts ++ (borders ++ pad)) b) past
    ∙ nodes-back items (borders ++ pad) pad typed in
    λ i. record { nodes = record { items = nodes i } }

-- What the rules say of the number of nodes.
pub sizes : (page : CutPage) → IsCutPage page → (length page.nodes.items + 1 ≡ 2 * entry_count page.nodes.items) × (entry_count page.nodes.items + cut_count page.nodes.items ≡ length page.nodes.items) × (entry_count page.nodes.items ≤ 64)
sizes page h = (entries-filled 1 page.nodes.items h.filled, counts-add page.nodes.items, h.few)

-- A page has room for the nodes and their borders.
pub has_room : (page : CutPage) → IsCutPage page → (16 + length page.nodes.items * 16) + cut_count page.nodes.items * 28 ≤ 4096
has_room page h = omega (arith, (sizes page h).0, (sizes page h).1, (sizes page h).2)
