-- Parts that are there, whether they stand or not; and a call that goes through one.
use Rattle.std.proofs.Common.{◌≡◌, ℕ, zero, suc, ◌-◌, ◌<◌, ◌≤◌, IsTrue, Some, None, List, [], ◌∷◌, ◌++◌, length, inl, inr, refl, sym, ap, ◌∙◌, subst, append-nil, append_assoc, arith}
use Rattle.std.proofs.lemmas.Bool.{false≢true}
use Rattle.bw_types.specs.declared.point.Point.{Point}
use Rattle.bw_types.specs.declared.tree.Tree.{Tree}
use Rattle.ports.specs.Pages.{PageMap}
use Rattle.page_layout.specs.CutPage.{open_places}
use Rattle.page_layout.specs.declared.cut_page.CutNode.{CutNode}
use Rattle.page_layout.specs.declared.cut_page.CutNode.TheVariants.{Cut, Entry}
use Rattle.cut_parts.specs.Damage.{IsSoundCut, Spot, BeforePage, BeforePart, BeforeCut, after_parts}
use Rattle.cut_parts.specs.Parts.{Part, Leaf, Split, points_of}
use Rattle.cut_parts.specs.Reach.{BordersFit, IsThere, WalksTo}
use Rattle.cut_parts.specs.Spelling.{HoldsCuts, HoldsLeaf, at_page, first_page, nodes_of}
use Rattle.cut_parts.proofs.Homes.{moved, points_stay, shape_stays}
use Rattle.cut_parts.proofs.PartNodes.{entry_of}
use Rattle.cut_parts.proofs.Trees.{entry_nodes}
use Rattle.cut_parts.specs.Nodes.{AreNodes}
use Rattle.cut_parts.proofs.Places.{after_part, fills_place}

-- past one part and so many more
pub after_more : (parts : ℕ) (nodes : List CutNode) → after_parts 1 (after_parts parts nodes) ≡ after_parts (suc parts) nodes
after_more zero nodes = refl
after_more (suc parts) [] = refl
after_more (suc parts) (Entry child ∷ nodes) = after_more parts nodes
after_more (suc parts) (Cut dimension key low border ∷ nodes) = after_more (suc (suc parts)) nodes

pub fit_stays : (page : ℕ) (part : Part) → BordersFit part → BordersFit (at_page (Some page) part)
fit_stays page (Leaf first points) fit = fit
fit_stays page (Split home dimension key low border low_side high_side) fit = fit

none_after : (nodes : List CutNode) → IsTrue (open_places 0 nodes) → nodes ≡ []
none_after [] filled = refl
none_after (node ∷ nodes) filled = absurd (false≢true filled)

no_entry : (part : Part) → 3 ≤ length (nodes_of part) → first_page part ≡ None
no_entry (Leaf page points) many = absurd (omega (arith, many))
no_entry (Split (Some page) dimension key low border low_side high_side) many = absurd (omega (arith, many))
no_entry (Split None dimension key low border low_side high_side) many = refl

-- A page's nodes are those of one part, which is a cut.
pub whole_page : (nodes rest : List CutNode) (part : Part) → AreNodes nodes → 3 ≤ length nodes → nodes ≡ nodes_of part ++ rest
    → (rest ≡ []) × (first_page part ≡ None)
whole_page nodes rest part are many is =
    let left : rest ≡ [] = none_after rest (subst IsTrue (fills_place part 0 rest) (subst (λ (ns : List CutNode). IsTrue (open_places 1 ns)) is are.filled)) in
    let all : nodes ≡ nodes_of part = is ∙ ap (λ (ns : List CutNode). nodes_of part ++ ns) left ∙ append-nil (nodes_of part) in
    (left, no_entry part (subst (λ (ns : List CutNode). 3 ≤ length ns) all many))

pub no_nodes : (nodes : List CutNode) → length nodes ≡ 0 → nodes ≡ []
no_nodes [] none = refl
no_nodes (node ∷ nodes) none = absurd (omega (arith, none))

-- a part has some node
pub some_node : (part : Part) (rest : List CutNode) → [] ≡ nodes_of part ++ rest → ⊥
some_node (Leaf page points) rest none = cc
some_node (Split (Some page) dimension key low border low_side high_side) rest none = cc
some_node (Split None dimension key low border low_side high_side) rest none = cc

-- a leaf
abbrev pub leaf_there : (m : PageMap) (page n : ℕ) (points : List Point) (rest : List CutNode) → HoldsLeaf m page points → length points ≡ n → 1 ≤ n → n ≤ 64
    → IsThere m n (Entry page ∷ rest)
leaf_there m page n points rest held counted some few =
    record { part = Leaf page points; rest = rest; nodes_are = refl; shape = (sym counted, some, few); fit = tt; spelled = held }

-- an entry, whatever follows it
abbrev pub entry_there : (m : PageMap) (page n : ℕ) (nodes others : List CutNode) → nodes ≡ Entry page ∷ others → IsThere m n (Entry page ∷ []) → IsThere m n nodes
entry_there m page n nodes others is there =
    let e = entry_of there.part page [] there.rest there.nodes_are in
    record {
      part = there.part;
      rest = others;
      nodes_are = is ∙ ap (λ (ns : List CutNode). ns ++ others) (sym (entry_nodes there.part page e.0));
      shape = there.shape;
      fit = there.fit;
      spelled = there.spelled;
    }

-- a page of cuts
abbrev pub page_there : (m : PageMap) (page n : ℕ) (nodes : List CutNode) → HoldsCuts m page nodes → AreNodes nodes → 3 ≤ length nodes → IsThere m n nodes
    → IsThere m n (Entry page ∷ [])
page_there m page n nodes held are many there =
    let whole = whole_page nodes there.rest there.part are many there.nodes_are in
    let all : nodes ≡ nodes_of there.part =
    there.nodes_are ∙ ap (λ (ns : List CutNode). nodes_of there.part ++ ns) whole.0 ∙ append-nil (nodes_of there.part) in
    let at = moved m page there.part whole.1 there.spelled (subst (λ (ns : List CutNode). HoldsCuts m page ns) all held) in
    record {
      part = at_page (Some page) there.part;
      rest = [];
      nodes_are = sym (append-nil (nodes_of (at_page (Some page) there.part)) ∙ at.1);
      shape = shape_stays (Some page) n there.part there.shape;
      fit = fit_stays page there.part there.fit;
      spelled = at.0;
    }

pub page_points : (m : PageMap) (page n : ℕ) (nodes : List CutNode) (held : HoldsCuts m page nodes) (are : AreNodes nodes) (many : 3 ≤ length nodes) (there : IsThere m n nodes)
    → points_of (page_there m page n nodes held are many there).part ≡ points_of there.part
page_points m page n nodes held are many there = points_stay (Some page) there.part

-- a cut of two sides
abbrev pub cut_there : (m : PageMap) (dims n dimension key low : ℕ) (border : Tree) (nodes rest others : List CutNode) → nodes ≡ Cut dimension key low border ∷ rest
    → IsSoundCut dims n dimension low border → IsThere m low rest → others ≡ after_parts 1 rest → IsThere m (n - low) others → IsThere m n nodes
cut_there m dims n dimension key low border nodes rest others is sound lows after highs =
    let node : CutNode = Cut dimension key low border in
    let next : lows.rest ≡ others = sym (after ∙ ap (λ (ns : List CutNode). after_parts 1 ns) lows.nodes_are ∙ after_part lows.part 0 lows.rest) in
    record {
      part = Split None dimension key low border lows.part highs.part;
      rest = highs.rest;
      nodes_are = is ∙ ap (λ (ns : List CutNode). node ∷ ns) (lows.nodes_are ∙ ap (λ (ns : List CutNode). nodes_of lows.part ++ ns) (next ∙ highs.nodes_are)
          ∙ sym (append_assoc (nodes_of lows.part) (nodes_of highs.part) highs.rest));
      shape = (sound.balanced, lows.shape, highs.shape);
      fit = (sound.few, sound.many, lows.fit, highs.fit);
      spelled = (tt, lows.spelled, highs.spelled);
    }

module _ (dims : ℕ) (here : ℕ → Spot → Type 0) (m : PageMap) (n : ℕ) where
  -- at the place itself
  pub walks_here : (page : ℕ) → here n (BeforePage page) → WalksTo dims here m n (BeforePage page)
  walks_here page at = (1, inl at)

  pub walks_in : (page : ℕ) (nodes : List CutNode) → 64 < n → HoldsCuts m page nodes → WalksTo dims here m n (BeforeCut page nodes)
      → WalksTo dims here m n (BeforePage page)
  walks_in page nodes many held walk = (suc walk.0, inr (many, (nodes, held, walk.1)))

  pub walks_entry : (page child : ℕ) (nodes others : List CutNode) → nodes ≡ Entry child ∷ others → WalksTo dims here m n (BeforePage child)
      → WalksTo dims here m n (BeforePart page nodes)
  walks_entry page child nodes others is walk = subst (λ (ns : List CutNode). WalksTo dims here m n (BeforePart page ns)) (sym is) (suc walk.0, walk.1)

  pub walks_cut : (page dimension key low : ℕ) (border : Tree) (nodes others : List CutNode) → nodes ≡ Cut dimension key low border ∷ others
      → WalksTo dims here m n (BeforeCut page nodes) → WalksTo dims here m n (BeforePart page nodes)
  walks_cut page dimension key low border nodes others is walk =
      let node : CutNode = Cut dimension key low border in
      let w : WalksTo dims here m n (BeforeCut page (node ∷ others)) = subst (λ (ns : List CutNode). WalksTo dims here m n (BeforeCut page ns)) is walk in
      subst (λ (ns : List CutNode). WalksTo dims here m n (BeforePart page ns)) (sym is) (suc w.0, w.1)

  pub walks_at_cut : (page dimension key low : ℕ) (border : Tree) (nodes others : List CutNode) → nodes ≡ Cut dimension key low border ∷ others
      → here n (BeforeCut page (Cut dimension key low border ∷ others)) → WalksTo dims here m n (BeforeCut page nodes)
  walks_at_cut page dimension key low border nodes others is at = subst (λ (ns : List CutNode). WalksTo dims here m n (BeforeCut page ns)) (sym is) (1, inl at)

  pub walks_low : (page dimension key low : ℕ) (border : Tree) (nodes others : List CutNode) → nodes ≡ Cut dimension key low border ∷ others
      → IsSoundCut dims n dimension low border → WalksTo dims here m low (BeforePart page others) → WalksTo dims here m n (BeforeCut page nodes)
  walks_low page dimension key low border nodes others is sound walk =
      subst (λ (ns : List CutNode). WalksTo dims here m n (BeforeCut page ns)) (sym is) (suc walk.0, inr (sound, inl walk.1))

  pub walks_high : (page dimension key low : ℕ) (border : Tree) (nodes others highs : List CutNode) → nodes ≡ Cut dimension key low border ∷ others
      → IsSoundCut dims n dimension low border → highs ≡ after_parts 1 others → WalksTo dims here m (n - low) (BeforePart page highs)
      → WalksTo dims here m n (BeforeCut page nodes)
  walks_high page dimension key low border nodes others highs is sound after walk =
      let w : WalksTo dims here m (n - low) (BeforePart page (after_parts 1 others)) =
      subst (λ (ns : List CutNode). WalksTo dims here m (n - low) (BeforePart page ns)) after walk in
      subst (λ (ns : List CutNode). WalksTo dims here m n (BeforeCut page ns)) (sym is) (suc w.0, inr (sound, inr w.1))
