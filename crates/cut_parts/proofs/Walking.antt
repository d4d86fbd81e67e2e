-- Nodes walked to the end of a part, and parted at the first cut.
use Rattle.std.proofs.Common.{◌≡◌, ℕ, zero, suc, ◌+◌, ◌-◌, ◌<◌, ◌≤◌, List, [], ◌∷◌, ◌++◌, length, drop, get_or, take_at, refl, sym, ap, ◌∙◌, subst, arith, IsTrue, All, drop-cons}
use Rattle.std.specs.Prelude.{None}
use Rattle.std.proofs.lemmas.List.{append_cancel_right}
use Rattle.std.proofs.lemmas.List.Elements.{All-head, All-tail, All-take}
use Rattle.bw_types.specs.declared.tree.Tree.{Tree}
use Rattle.page_layout.specs.CutPage.{IsNodeTyped, cut_one, node_fits, open_places}
use Rattle.page_layout.specs.declared.cut_page.CutNode.{CutNode}
use Rattle.page_layout.specs.declared.cut_page.CutNode.TheVariants.{Entry, Cut}
use Rattle.cut_parts.specs.Parts.{Part, Split}
use Rattle.cut_parts.specs.Spelling.{nodes_of}
use Rattle.cut_parts.specs.Damage.{after_parts}
use Rattle.cut_parts.specs.Nodes.{AreNodes}
use Rattle.cut_parts.proofs.Places.{after_all, after_fills, after_part, first_fills}

-- no place is left
pub at_end : (nodes : List CutNode) (places i : ℕ) (total : List CutNode) → places ≡ 0 → after_parts places (drop i nodes) ≡ total → drop i nodes ≡ total
at_end nodes places i total none h = ap (λ (n : ℕ). after_parts n (drop i nodes)) (sym none) ∙ h

-- no node is left
none_after : (parts : ℕ) → after_parts parts [] ≡ []
none_after zero = refl
none_after (suc parts) = refl

no_nodes : (nodes : List CutNode) (i : ℕ) → length nodes ≤ i → drop i nodes ≡ []
no_nodes [] zero h = refl
no_nodes [] (suc i) h = refl
no_nodes (node ∷ nodes) zero h = absurd (omega arith)
no_nodes (node ∷ nodes) (suc i) h = no_nodes nodes i (omega arith)

pub all_walked : (nodes : List CutNode) (places i : ℕ) (total : List CutNode) → length nodes ≤ i → after_parts places (drop i nodes) ≡ total → drop i nodes ≡ total
all_walked nodes places i total end h =
    let none : drop i nodes ≡ [] = no_nodes nodes i end in
    none ∙ sym (none_after places) ∙ ap (λ (ns : List CutNode). after_parts places ns) (sym none) ∙ h

pub walk_entry : (nodes : List CutNode) (d : CutNode) (child places i : ℕ) (total : List CutNode) → i < length nodes → (places ≡ 0 → ⊥) → get_or nodes i d ≡ Entry child
    → after_parts places (drop i nodes) ≡ total → after_parts (places - 1) (drop (i + 1) nodes) ≡ total
walk_entry nodes d child zero i total lt some is h = absurd (some refl)
walk_entry nodes d child (suc places) i total lt some is h =
    let rest : List CutNode = drop (suc i) nodes in
    let at : drop i nodes ≡ Entry child ∷ rest = drop-cons nodes i d lt ∙ ap (λ (x : CutNode). x ∷ rest) is in
    let less : suc places - 1 ≡ places = omega arith in
    let next : i + 1 ≡ suc i = omega arith in
    ap (λ (n : ℕ). after_parts n (drop (i + 1) nodes)) less
    ∙ ap (λ (n : ℕ). after_parts places (drop n nodes)) next
    ∙ ap (λ (xs : List CutNode). after_parts (suc places) xs) (sym at) ∙ h

pub walk_cut : (nodes : List CutNode) (d : CutNode) (dimension key low : ℕ) (border : Tree) (places i : ℕ) (total : List CutNode) → i < length nodes → (places ≡ 0 → ⊥)
    → get_or nodes i d ≡ Cut dimension key low border
    → after_parts places (drop i nodes) ≡ total → after_parts (places + 1) (drop (i + 1) nodes) ≡ total
walk_cut nodes d dimension key low border zero i total lt some is h = absurd (some refl)
walk_cut nodes d dimension key low border (suc places) i total lt some is h =
    let rest : List CutNode = drop (suc i) nodes in
    let at : drop i nodes ≡ Cut dimension key low border ∷ rest = drop-cons nodes i d lt ∙ ap (λ (x : CutNode). x ∷ rest) is in
    let more : suc places + 1 ≡ suc (suc places) = omega arith in
    let next : i + 1 ≡ suc i = omega arith in
    ap (λ (n : ℕ). after_parts n (drop (i + 1) nodes)) more
    ∙ ap (λ (n : ℕ). after_parts (suc (suc places)) (drop n nodes)) next
    ∙ ap (λ (xs : List CutNode). after_parts (suc places) xs) (sym at) ∙ h

-- Nodes behind a cut, parted after the first part.
pub record AreSides (rest low high : List CutNode) : Type 0 where
  pub whole : rest ≡ low ++ high
  pub after : high ≡ after_parts 1 rest

pub sides_of : (rest low high : List CutNode) (low_side high_side : Part) → AreSides rest low high → rest ≡ nodes_of low_side ++ nodes_of high_side
    → (low ≡ nodes_of low_side) × (high ≡ nodes_of high_side)
sides_of rest low high low_side high_side sides spelled =
    let behind : high ≡ nodes_of high_side = sides.after ∙ ap (λ (ns : List CutNode). after_parts 1 ns) spelled ∙ after_part low_side 0 (nodes_of high_side) in
    let both : low ++ nodes_of high_side ≡ nodes_of low_side ++ nodes_of high_side = ap (λ (ns : List CutNode). low ++ ns) (sym behind) ∙ sym sides.whole ∙ spelled in
    (append_cancel_right low (nodes_of low_side) (nodes_of high_side) both, behind)

low_all : (P : CutNode → Type 0) (low high : List CutNode) → All P (low ++ high) → All P low
low_all P low high all = subst (λ (ns : List CutNode). All P ns) (take_at low high (length low) refl) (All-take P (length low) (low ++ high) all)

-- Of nodes that begin with a cut the sides are parts', and the cut keeps its rule.
pub record AreSidesOf (cut : CutNode) (low high : List CutNode) : Type 0 where
  pub lows : AreNodes low
  pub highs : AreNodes high
  pub fits : IsTrue (node_fits cut)
  pub typed : IsNodeTyped cut
  pub is_cut : cut_one cut ≡ 1

rest_fills : (cut : CutNode) (rest : List CutNode) → cut_one cut ≡ 1 → IsTrue (open_places 1 (cut ∷ rest)) → IsTrue (open_places 2 rest)
rest_fills (Entry child) rest is h = absurd (omega arith)
rest_fills (Cut dimension key low border) rest is h = h

pub sides_are : (nodes rest low high : List CutNode) (cut : CutNode) → nodes ≡ cut ∷ rest → cut_one cut ≡ 1 → AreSides rest low high → AreNodes nodes → AreSidesOf cut low high
sides_are nodes rest low high cut first is sides nodes_are =
    let are : AreNodes (cut ∷ rest) = subst AreNodes first nodes_are in
    let filled : IsTrue (open_places 2 rest) = rest_fills cut rest is are.filled in
    let whole : rest ≡ low ++ after_parts 1 rest = sides.whole ∙ ap (λ (ns : List CutNode). low ++ ns) sides.after in
    let fit : All (λ node. IsTrue (node_fits node)) rest = All-tail (λ node. IsTrue (node_fits node)) cut rest are.fit in
    let typed : All IsNodeTyped rest = All-tail IsNodeTyped cut rest are.typed in
    let back : after_parts 1 rest ≡ high = sym sides.after in
    record {
      lows = record {
        filled = first_fills 1 rest low whole filled;
        fit = low_all (λ node. IsTrue (node_fits node)) low high (subst (λ (ns : List CutNode). All (λ node. IsTrue (node_fits node)) ns) sides.whole fit);
        typed = low_all IsNodeTyped low high (subst (λ (ns : List CutNode). All IsNodeTyped ns) sides.whole typed);
      };
      highs = subst AreNodes back record {
        filled = after_fills 1 rest filled;
        fit = after_all (λ node. IsTrue (node_fits node)) 1 rest fit;
        typed = after_all IsNodeTyped 1 rest typed;
      };
      fits = All-head (λ node. IsTrue (node_fits node)) cut rest are.fit;
      typed = All-head IsNodeTyped cut rest are.typed;
      is_cut = is;
    }

-- the first of some nodes, and the others
node_first : List CutNode → CutNode
node_first [] = Entry 0
node_first (node ∷ nodes) = node

others : List CutNode → List CutNode
others [] = []
others (node ∷ nodes) = nodes

pub record IsFirstCut (cut : CutNode) (low high : List CutNode) (dimension key count : ℕ) (border : Tree) (low_side high_side : Part) : Type 0 where
  pub is : cut ≡ Cut dimension key count border
  pub low_is : low ≡ nodes_of low_side
  pub high_is : high ≡ nodes_of high_side

pub first_cut : (nodes rest low high : List CutNode) (cut : CutNode) (dimension key count : ℕ) (border : Tree) (low_side high_side : Part) → nodes ≡ cut ∷ rest
    → AreSides rest low high → nodes ≡ nodes_of (Split None dimension key count border low_side high_side)
    → IsFirstCut cut low high dimension key count border low_side high_side
unfolding node_first others
first_cut nodes rest low high cut dimension key count border low_side high_side first sides spelled =
    let whole : cut ∷ rest ≡ Cut dimension key count border ∷ (nodes_of low_side ++ nodes_of high_side) = sym first ∙ spelled in
    let both = sides_of rest low high low_side high_side sides (ap others whole) in
    record { is = ap node_first whole; low_is = both.0; high_is = both.1 }
