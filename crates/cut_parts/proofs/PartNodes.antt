-- A part by its first node.
use Rattle.std.proofs.Common.{◌≡◌, ℕ, Some, None, List, [], ◌∷◌, ◌++◌, sym, ap, ◌∙◌, append_assoc}
use Rattle.bw_types.specs.Empty.{empty_tree}
use Rattle.bw_types.specs.declared.tree.Tree.{Tree}
use Rattle.ports.specs.Pages.{PageMap}
use Rattle.cut_parts.specs.Parts.{Part, Leaf, Split}
use Rattle.cut_parts.specs.Spelling.{Holds, first_page, nodes_of}
use Rattle.page_layout.specs.declared.cut_page.CutNode.{CutNode}
use Rattle.page_layout.specs.declared.cut_page.CutNode.TheVariants.{Entry, Cut}

-- the fields of a first node
child_first : List CutNode → ℕ
child_first [] = 0
child_first (Entry child ∷ nodes) = child
child_first (Cut dimension key low border ∷ nodes) = 0

dimension_first : List CutNode → ℕ
dimension_first [] = 0
dimension_first (Entry child ∷ nodes) = 0
dimension_first (Cut dimension key low border ∷ nodes) = dimension

key_first : List CutNode → ℕ
key_first [] = 0
key_first (Entry child ∷ nodes) = 0
key_first (Cut dimension key low border ∷ nodes) = key

low_first : List CutNode → ℕ
low_first [] = 0
low_first (Entry child ∷ nodes) = 0
low_first (Cut dimension key low border ∷ nodes) = low

border_first : List CutNode → Tree
border_first [] = empty_tree
border_first (Entry child ∷ nodes) = empty_tree
border_first (Cut dimension key low border ∷ nodes) = border

others : List CutNode → List CutNode
others [] = []
others (node ∷ nodes) = nodes

-- The part is this cut, in the page above, and its sides' nodes and others follow.
pub record IsCutOf (part : Part) (dimension key low : ℕ) (border : Tree) (nodes rest : List CutNode) : Type 0 where
  pub low_side : Part
  pub high_side : Part
  pub is : part ≡ Split None dimension key low border low_side high_side
  pub nodes_are : nodes ≡ nodes_of low_side ++ (nodes_of high_side ++ rest)

pub cut_of : (part : Part) (dimension key low : ℕ) (border : Tree) (nodes rest : List CutNode)
    → Cut dimension key low border ∷ nodes ≡ nodes_of part ++ rest → IsCutOf part dimension key low border nodes rest
unfolding dimension_first key_first low_first border_first others
cut_of (Leaf page points) dimension key low border nodes rest h = absurd cc
cut_of (Split (Some page) d k l b low_side high_side) dimension key low border nodes rest h = absurd cc
cut_of (Split None d k l b low_side high_side) dimension key low border nodes rest h =
    let whole : Cut dimension key low border ∷ nodes ≡ Cut d k l b ∷ ((nodes_of low_side ++ nodes_of high_side) ++ rest) = h in
    record {
      low_side = low_side;
      high_side = high_side;
      is = λ i. Split None (sym (ap dimension_first whole) i) (sym (ap key_first whole) i) (sym (ap low_first whole) i) (sym (ap border_first whole) i) low_side high_side;
      nodes_are = ap others whole ∙ append_assoc (nodes_of low_side) (nodes_of high_side) rest;
    }

-- The part begins with this page, and others follow.
pub entry_of : (part : Part) (child : ℕ) (nodes rest : List CutNode) → Entry child ∷ nodes ≡ nodes_of part ++ rest → (first_page part ≡ Some child) × (nodes ≡ rest)
unfolding child_first others
entry_of (Leaf page points) child nodes rest h = (ap (λ (ns : List CutNode). Some (child_first ns)) (sym h), ap others h)
entry_of (Split (Some page) d k l b low_side high_side) child nodes rest h = (ap (λ (ns : List CutNode). Some (child_first ns)) (sym h), ap others h)
entry_of (Split None d k l b low_side high_side) child nodes rest h = absurd cc

-- A page spells no two values.
pub holds_one : {V : Type 0} (spells : List ℕ → Type 0) (value_in : List ℕ → V) (pages : PageMap) (page : ℕ) (value other : V)
    → Holds spells value_in pages page value → Holds spells value_in pages page other → value ≡ other
holds_one spells value_in pages page value other a b =
    let same : a.bytes ≡ b.bytes = cc in
    sym a.is ∙ ap value_in same ∙ b.is
