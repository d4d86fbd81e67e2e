-- How a walk along the chain of a multiversion tree's nodes goes on from one place to the next.
use Rattle.std.proofs.Common.{◌≡◌, ℕ, zero, suc, ◌-◌, ◌<◌, ◌==◌, true, List, refl, [], ◌∷◌, ◌++◌, Some, sym, ◌∙◌, ap, subst, arith, append_assoc, inl, inr}
use Rattle.std.proofs.lemmas.Bool.{eq-eqb, eqb-true, false≢true, or_cases, or_left, or_right}
use Rattle.bw_types.specs.declared.point.Point.{Point}
use Rattle.ports.specs.Frame.{names_page}
use Rattle.ports.specs.Pages.{PageMap}
use Rattle.page_layout.specs.MvNode.{IsMvNode, IsTyped, mv_node_page}
use Rattle.page_layout.specs.Spelled.{Spells}
use Rattle.page_layout.specs.declared.mv_node.MvNode.{MvNode}
use Rattle.mvsb_tree.specs.Damage.{mv_pages}
use Rattle.mvsb_tree.specs.Stands.{ChainStands, EntriesKeep}
use Rattle.mvsb_tree.specs.Steps.{chain_from, node_on}
use Rattle.mvsb_tree.proofs.Nodes.{node_on-spelled}
use Rattle.key_check.specs.Chains.{ChainKeeps, HoldsThis, PlaceKeeps}

pub holds_this : (m : PageMap) (page : ℕ) (node : MvNode) → m page ≡ Some (mv_node_page node) → Spells mv_pages node (mv_node_page node) → HoldsThis m page node
holds_this m page node there spells =
    let same : node_on m page ≡ node = node_on-spelled m page node spells.typed spells.rules there in
    record {
      holds = record {
        spelled = there ∙ ap (λ (n : MvNode). Some (mv_node_page n)) (sym same);
        rules = subst IsMvNode (sym same) spells.rules;
        typed = subst IsTyped (sym same) spells.typed;
      };
      same = same;
    }

pub chain_up : (left : ℕ) (m : PageMap) (points : List Point) (page before : ℕ) → 0 < left → PlaceKeeps m points left page → (node_on m page).before ≡ before
    → ChainKeeps (left - 1) m points before → ChainKeeps left m points page
chain_up zero m points page before some k e rest = absurd (omega (arith, some))
chain_up (suc left) m points page before some k e rest =
    let one : suc left - 1 ≡ left = omega arith in
    let on : ChainKeeps left m points before = subst (λ (n : ℕ). ChainKeeps n m points before) one rest in
    (k, subst (ChainKeeps left m points) (sym e) on)

pub chain_down : (left : ℕ) (m : PageMap) (points : List Point) (page before : ℕ) → 0 < left → (node_on m page).before ≡ before → ChainKeeps left m points page → ChainKeeps (left - 1) m points before
chain_down zero m points page before some e s = absurd (omega (arith, some))
chain_down (suc left) m points page before some e s =
    let one : left ≡ suc left - 1 = omega arith in
    subst (λ (n : ℕ). ChainKeeps n m points before) one (subst (ChainKeeps left m points) e s.1)

pub chain_place : (left : ℕ) (m : PageMap) (points : List Point) (page : ℕ) → 0 < left → ChainKeeps left m points page → PlaceKeeps m points left page
chain_place zero m points page some s = absurd (omega (arith, some))
chain_place (suc left) m points page some s = s.0

pub chain_listed : (left : ℕ) (m : PageMap) (page before : ℕ) (named new whole : List ℕ) → 0 < left → (node_on m page).before ≡ before
    → named ++ chain_from left m page ≡ whole → new ≡ named ++ page ∷ [] → new ++ chain_from (left - 1) m before ≡ whole
chain_listed zero m page before named new whole some b e put = absurd (omega (arith, some))
chain_listed (suc left) m page before named new whole some b e put =
    let one : suc left - 1 ≡ left = omega arith in
    ap (λ (n : ℕ). new ++ chain_from n m before) one
    ∙ ap (λ (n : ℕ). new ++ chain_from left m n) (sym b)
    ∙ ap (λ (ps : List ℕ). ps ++ chain_from left m (node_on m page).before) put
    ∙ append_assoc named (page ∷ []) (chain_from left m (node_on m page).before) ∙ e

-- A chain that keeps to the points stands.
pub chain_stands : (left : ℕ) (m : PageMap) (points : List Point) (page : ℕ) → ChainKeeps left m points page → ChainStands left m page
chain_stands zero m points page s = s
chain_stands (suc left) m points page s =
    (s.0.holds.spelled, s.0.holds.rules, s.0.holds.typed, s.0.placed, chain_stands left m points (node_on m page).before s.1)

-- Each of its pages has entries that keep to them.
pub entries_of : (left : ℕ) (m : PageMap) (points : List Point) (last page : ℕ) → ChainKeeps left m points last → names_page (chain_from left m last) page ≡ true → EntriesKeep points (node_on m page)
entries_of zero m points last page s named = absurd (false≢true named)
entries_of (suc left) m points last page s named = elim (or_cases (last == page) (names_page (chain_from left m (node_on m last).before) page) named) [
  | inl here ↦ subst (λ (n : ℕ). EntriesKeep points (node_on m n)) (eqb-true last page here) s.0.entries
  | inr rest ↦ entries_of left m points (node_on m last).before page s.1 rest
]

-- And the other way.
pub chain_keeps : (left : ℕ) (m : PageMap) (points : List Point) (last : ℕ) → ChainStands left m last → ((page : ℕ) → names_page (chain_from left m last) page ≡ true → EntriesKeep points (node_on m page))
    → ChainKeeps left m points last
chain_keeps zero m points last s each = s
chain_keeps (suc left) m points last s each = (
  record {
    holds = record { spelled = s.0; rules = s.1; typed = s.2 };
    placed = s.3;
    entries = each last (or_left (last == last) (names_page (chain_from left m (node_on m last).before) last) (eq-eqb last last refl));
  },
  chain_keeps left m points (node_on m last).before s.4 (λ page h. each page (or_right (last == page) (names_page (chain_from left m (node_on m last).before) page) h)),
)
