-- Where an addition comes, whatever the pages hold.
use Rattle.std.proofs.Common.{◌≡◌, ℕ, zero, suc, ◌+◌, ◌-◌, ◌<◌, ◌≤◌, ◌⊎◌, ◌==◌, true, false, inl, inr, List, [], ◌∷◌, length, get_or, set, drop, refl, sym, ap, ◌∙◌, subst, arith}
use Rattle.std.proofs.lemmas.Bool.{eqb-true, or_cases}
use Rattle.bw_types.specs.Without.{without_dimension}
use Rattle.bw_types.specs.declared.point.Point.{Point}
use Rattle.bw_types.specs.declared.tree.Tree.{Tree}
use Rattle.ports.specs.Frame.{Replaces, names_page}
use Rattle.ports.specs.Pages.{PageMap}
use Rattle.page_layout.specs.declared.cut_page.CutNode.{CutNode}
use Rattle.page_layout.specs.declared.cut_page.CutNode.TheVariants.{Cut, Entry}
use Rattle.cut_parts.specs.Borders.{OthersStay}
use Rattle.cut_parts.specs.Damage.{IsSoundCut, Spot, BeforePage, BeforePart, BeforeCut, after_parts}
use Rattle.cut_parts.specs.Parts.{IsBalancedCut}
use Rattle.cut_parts.specs.Reach.{BorderMayLeave, ComesTo, GoesHigh, GoesLow, GoesToBorder, IsMadeAnew}
use Rattle.cut_parts.specs.Spelling.{HoldsCuts}
use Rattle.cut_parts.specs.declared.border_tree.BorderTree.{Ghosts}
use Rattle.cut_parts.proofs.Staying.{stay_by, stay_more}

-- ---- pages that stay

one_named : (page p : ℕ) → names_page (page ∷ []) p ≡ true → p ≡ page
one_named page p named = sym (eqb-true page p (elim (or_cases (page == p) false named) [ inl is ↦ is | inr none ↦ cc ]))

-- a change of one page leaves the others
pub stay_at : (page : ℕ) (new : List ℕ) (m0 m1 : PageMap) → Replaces (page ∷ []) new m0 m1 → OthersStay (λ p. p ≡ page) m0 m1
stay_at page new m0 m1 change = stay_more (λ p. names_page (page ∷ []) p ≡ true) (λ p. p ≡ page) m0 m1 (stay_by (page ∷ []) new m0 m1 change) (one_named page)

-- new pages leave all others
pub stay_all : (new : List ℕ) (m0 m1 : PageMap) → Replaces [] new m0 m1 → OthersStay (λ p. ⊥) m0 m1
stay_all new m0 m1 change = stay_more (λ p. names_page [] p ≡ true) (λ p. ⊥) m0 m1 (stay_by [] new m0 m1 change) (λ p named. cc)

pub stay_same : (may : ℕ → Type 0) (m : PageMap) → OthersStay may m m
stay_same may m = λ page some beside. refl

-- ---- nodes from a place on

pub node_first : (nodes : List CutNode) (place : ℕ) (node : CutNode) → place < length nodes → ((d : CutNode) → node ≡ get_or nodes place d)
    → drop place nodes ≡ node ∷ drop (place + 1) nodes
node_first [] place node lt read = absurd (omega (arith, lt))
node_first (first ∷ others) zero node lt read = ap (λ (n : CutNode). n ∷ others) (sym (read node))
node_first (first ∷ others) (suc place) node lt read =
    let next : suc place + 1 ≡ suc (place + 1) = omega arith in
    node_first others place node (omega (arith, lt)) (λ d. read d) ∙ ap (λ (k : ℕ). node ∷ drop k (first ∷ others)) (sym next)

pub none_from : (nodes : List CutNode) (place : ℕ) → length nodes ≤ place → drop place nodes ≡ []
none_from [] zero few = refl
none_from [] (suc place) few = refl
none_from (first ∷ others) zero few = absurd (omega (arith, few))
none_from (first ∷ others) (suc place) few = none_from others place (omega (arith, few))

-- a node that was set is no more behind itself
pub behind_set : (nodes : List CutNode) (place : ℕ) (node : CutNode) → drop (place + 1) (set nodes place node) ≡ drop (place + 1) nodes
behind_set [] zero node = refl
behind_set [] (suc place) node = refl
behind_set (first ∷ others) zero node = refl
behind_set (first ∷ others) (suc place) node =
    let next : suc place + 1 ≡ suc (place + 1) = omega arith in
    ap (λ (k : ℕ). drop k (first ∷ set others place node)) next ∙ behind_set others place node ∙ ap (λ (k : ℕ). drop k (first ∷ others)) (sym next)

-- ---- where the point goes

-- a cut that would not be balanced with the point is made anew
pub goes_anew : (point : Point) (n dimension key low after : ℕ) → (GoesLow point dimension key × (after ≡ low + 1)) ⊎ (GoesHigh point dimension key × (after ≡ low))
    → (IsBalancedCut (n + 1) after → ⊥) → IsMadeAnew point n dimension key low
goes_anew point n dimension key low after goes none = elim goes [
  | inl below ↦ inl (below.0, λ balanced. none (subst (λ (k : ℕ). IsBalancedCut (n + 1) k) (sym below.1) balanced))
  | inr beyond ↦ inr (beyond.0, λ balanced. none (subst (λ (k : ℕ). IsBalancedCut (n + 1) k) (sym beyond.1) balanced))
]

-- ---- steps on the way

module _ {B : Type 0} (g : Ghosts B) (here : PageMap → ℕ → Spot → Type 0) (point : Point) (m : PageMap) (n page : ℕ) where
  pub comes_here : here m n (BeforePage page) → ComesTo g here point m n (BeforePage page)
  comes_here at = (1, inl at)

  pub comes_in : (nodes : List CutNode) → 64 < n → HoldsCuts m page nodes → ComesTo g here point m n (BeforeCut page nodes) → ComesTo g here point m n (BeforePage page)
  comes_in nodes many held way = (suc way.0, inr (many, (nodes, held, way.1)))

  -- there are no nodes
  pub comes_none : (nodes : List CutNode) → nodes ≡ [] → here m n (BeforePart page []) → ComesTo g here point m n (BeforePart page nodes)
  comes_none nodes is at = subst (λ (ns : List CutNode). ComesTo g here point m n (BeforePart page ns)) (sym is) (1, at)

  pub comes_entry : (child : ℕ) (nodes others : List CutNode) → nodes ≡ Entry child ∷ others → ComesTo g here point m n (BeforePage child)
      → ComesTo g here point m n (BeforePart page nodes)
  comes_entry child nodes others is way = subst (λ (ns : List CutNode). ComesTo g here point m n (BeforePart page ns)) (sym is) (suc way.0, way.1)

  pub comes_cut : (dimension key low : ℕ) (border : Tree) (nodes others : List CutNode) → nodes ≡ Cut dimension key low border ∷ others
      → ComesTo g here point m n (BeforeCut page nodes) → ComesTo g here point m n (BeforePart page nodes)
  comes_cut dimension key low border nodes others is way =
      let node : CutNode = Cut dimension key low border in
      let w : ComesTo g here point m n (BeforeCut page (node ∷ others)) = subst (λ (ns : List CutNode). ComesTo g here point m n (BeforeCut page ns)) is way in
      subst (λ (ns : List CutNode). ComesTo g here point m n (BeforePart page ns)) (sym is) (suc w.0, w.1)

  -- at an entry where a cut must be
  pub comes_no_cut : (child : ℕ) (nodes others : List CutNode) → nodes ≡ Entry child ∷ others → here m n (BeforeCut page (Entry child ∷ others))
      → ComesTo g here point m n (BeforeCut page nodes)
  comes_no_cut child nodes others is at = subst (λ (ns : List CutNode). ComesTo g here point m n (BeforeCut page ns)) (sym is) (1, at)

  pub comes_no_node : (nodes : List CutNode) → nodes ≡ [] → here m n (BeforeCut page []) → ComesTo g here point m n (BeforeCut page nodes)
  comes_no_node nodes is at = subst (λ (ns : List CutNode). ComesTo g here point m n (BeforeCut page ns)) (sym is) (1, at)

  module _ (dimension key low : ℕ) (border : Tree) (nodes others : List CutNode) (is : nodes ≡ Cut dimension key low border ∷ others) where
    pub comes_at_cut : here m n (BeforeCut page (Cut dimension key low border ∷ others)) → ComesTo g here point m n (BeforeCut page nodes)
    comes_at_cut at = subst (λ (ns : List CutNode). ComesTo g here point m n (BeforeCut page ns)) (sym is) (1, inl at)

    pub comes_high : (highs : List CutNode) → IsSoundCut (suc g.DIMS) n dimension low border → GoesHigh point dimension key → IsBalancedCut (n + 1) low
        → highs ≡ after_parts 1 others → ComesTo g here point m (n - low) (BeforePart page highs) → ComesTo g here point m n (BeforeCut page nodes)
    comes_high highs sound from balanced after way =
        let w : ComesTo g here point m (n - low) (BeforePart page (after_parts 1 others)) =
        subst (λ (ns : List CutNode). ComesTo g here point m (n - low) (BeforePart page ns)) after way in
        subst (λ (ns : List CutNode). ComesTo g here point m n (BeforeCut page ns)) (sym is) (suc w.0, inr (sound, inl ((from, balanced), w.1)))

    pub comes_low : (m1 : PageMap) (lows : List CutNode) → IsSoundCut (suc g.DIMS) n dimension low border → GoesToBorder point n dimension key low
        → BorderMayLeave g (without_dimension dimension point) m low border m1 → lows ≡ others → ComesTo g here point m1 low (BeforePart page lows) → ComesTo g here point m n (BeforeCut page nodes)
    comes_low m1 lows sound below leaves same way =
        let w : ComesTo g here point m1 low (BeforePart page others) =
        subst (λ (ns : List CutNode). ComesTo g here point m1 low (BeforePart page ns)) same way in
        subst (λ (ns : List CutNode). ComesTo g here point m n (BeforeCut page ns)) (sym is) (suc w.0, inr (sound, inr (below, (m1, leaves, w.1))))
