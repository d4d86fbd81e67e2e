-- How a page of cuts parts its region, and the nodes in pre-order that spell it.
use Rattle.std.specs.Prelude.{◌≡◌, ℕ, zero, suc, List, [], ◌∷◌, ◌++◌, length, IsTrue, ◌↔◌, refl}
use Rattle.std.specs.List.{flat_map}
use Rattle.std.proofs.Common.{sym, ap, ◌∙◌, append_assoc, append-nil, arith}
use Rattle.bw_types.specs.declared.tree.Tree.{Tree}
use Rattle.page_layout.specs.declared.cut_page.CutNode.{CutNode}
use Rattle.page_layout.specs.declared.cut_page.CutNode.TheVariants.{Entry, Cut}
use Rattle.page_layout.specs.CutPage.{open_places}

-- A region is that of one entry, or is cut into a low and a high side, each of which may be cut further.
pub data Parting : Type 0 where
  One : (child : ℕ) → Parting
  Two : (dimension key low : ℕ) (border : Tree) (low_side high_side : Parting) → Parting

-- the nodes in pre-order: a cut, then the nodes of its low side, then those of its high side
abbrev pub pre_order : Parting → List CutNode
pre_order (One child) = Entry child ∷ []
pre_order (Two dimension key low border low_side high_side) = Cut dimension key low border ∷ (pre_order low_side ++ pre_order high_side)

-- The nodes are those of some parting, in pre-order.
pub record ArePreOrder (nodes : List CutNode) : Type 0 where
  pub parting : Parting
  pub in_order : pre_order parting ≡ nodes

-- Nodes are in pre-order exactly where they fill one place.
abbrev pub PreOrderIsTested : Type 0
PreOrderIsTested = (nodes : List CutNode) → IsTrue (open_places 1 nodes) ↔ ArePreOrder nodes

fills-pre_order : (parting : Parting) (places : ℕ) (rest : List CutNode) → open_places (suc places) (pre_order parting ++ rest) ≡ open_places places rest
fills-pre_order (One child) places rest = refl
fills-pre_order (Two dimension key low border low_side high_side) places rest =
    ap (λ (nodes : List CutNode). open_places (suc (suc places)) nodes) (append_assoc (pre_order low_side) (pre_order high_side) rest)
    ∙ fills-pre_order low_side (suc places) (pre_order high_side ++ rest)
    ∙ fills-pre_order high_side places rest

-- Nodes are those of so many partings, one after the other.
record Forest (places : ℕ) (nodes : List CutNode) : Type 0 where
  trees : List Parting
  many : length trees ≡ places
  spelled : flat_map pre_order trees ≡ nodes

add_entry : (places child : ℕ) (nodes : List CutNode) → Forest places nodes → Forest (suc places) (Entry child ∷ nodes)
add_entry places child nodes f = record { trees = One child ∷ f.trees; many = ap suc f.many; spelled = λ i. Entry child ∷ f.spelled i }

join_two : (places dimension key low : ℕ) (border : Tree) (nodes : List CutNode) (trees : List Parting) → length trees ≡ suc (suc places)
    → flat_map pre_order trees ≡ nodes → Forest (suc places) (Cut dimension key low border ∷ nodes)
join_two places dimension key low border nodes [] many spelled = absurd (omega arith)
join_two places dimension key low border nodes (low_side ∷ []) many spelled = absurd (omega arith)
join_two places dimension key low border nodes (low_side ∷ high_side ∷ trees) many spelled =
    let row : (pre_order low_side ++ pre_order high_side) ++ flat_map pre_order trees ≡ nodes = append_assoc (pre_order low_side) (pre_order high_side) (flat_map pre_order trees) ∙ spelled in
    record { trees = Two dimension key low border low_side high_side ∷ trees; many = omega arith; spelled = λ i. Cut dimension key low border ∷ row i }

forest : (places : ℕ) (nodes : List CutNode) → IsTrue (open_places places nodes) → Forest places nodes
forest zero [] h = record { trees = []; many = refl; spelled = refl }
forest zero (node ∷ nodes) h = absurd cc
forest (suc places) [] h = absurd cc
forest (suc places) (Entry child ∷ nodes) h = add_entry places child nodes (forest places nodes h)
forest (suc places) (Cut dimension key low border ∷ nodes) h =
    let f : Forest (suc (suc places)) nodes = forest (suc (suc places)) nodes h in
    join_two places dimension key low border nodes f.trees f.many f.spelled

only_tree : (nodes : List CutNode) (trees : List Parting) → length trees ≡ 1 → flat_map pre_order trees ≡ nodes → ArePreOrder nodes
only_tree nodes [] many spelled = absurd (omega arith)
only_tree nodes (parting ∷ []) many spelled = record { parting = parting; in_order = sym (append-nil (pre_order parting)) ∙ spelled }
only_tree nodes (parting ∷ other ∷ trees) many spelled = absurd (omega arith)

pub pre_order_is_tested : PreOrderIsTested
pre_order_is_tested nodes = (
  λ filled. let f : Forest 1 nodes = forest 1 nodes filled in only_tree nodes f.trees f.many f.spelled,
  λ o. ap (λ (ns : List CutNode). open_places 1 ns) (sym o.in_order ∙ sym (append-nil (pre_order o.parting))) ∙ fills-pre_order o.parting 0 [],
)
