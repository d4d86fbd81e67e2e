-- Where a tree stands, no call finds it damaged.
use Rattle.sb_tree.proofs.Common.{◌≡◌, ℕ, zero, suc, ◌<◌, ◌≤◌, ◌^◌, inl, inr, List, sym, subst, arith, rules, Point, Tree, PageMap, IsDamagedBelow, NothingBeside, sb_node_page, SbNode, SbEntry, Place, node_on, entries_on, first_low, NodeStands, EachStands, StandsBelow, RootStands, SbStands, FitsLevel, FitsPlace, LeadsTo, root_place, IsDamagedOnPath}
use Rattle.sb_tree.proofs.Nodes.{same_spelled}
use Rattle.sb_tree.proofs.Paths.{child_at-path, low_from-path, next_from-path}
use Rattle.sb_tree.proofs.Order.{ascends, all_from, first_low-later, EachStands-path}
use Rattle.sb_tree.proofs.Frames.{node_path}

pub level_where_stands : (pages : PageMap) (level page low high least : ℕ) → NodeStands pages level page low high least
    → FitsLevel level (node_on pages page) (sb_node_page (node_on pages page))
level_where_stands pages level page low high least s = grind arith

pub fits_where_stands : (pages : PageMap) (level page least : ℕ) (place : Place) → NodeStands pages level page place.low place.high least
    → place.low ≤ place.sought → FitsPlace level place (node_on pages page) (sb_node_page (node_on pages page))
fits_where_stands pages level page least place s from = grind (arith, all_from, ascends)

-- the place to which a node that stands leads, and what stands there
pub inner_stands : (pages : PageMap) (stands : ℕ → ℕ → ℕ → Type 0) (level page least child : ℕ) (place inner : Place) (node : SbNode)
    → NodeStands pages level page place.low place.high least → EachStands stands (entries_on pages page) place.high
    → place.low ≤ place.sought → place.sought < place.high
    → node ≡ node_on pages page → LeadsTo place node child inner
    → stands child inner.low inner.high × (inner.low ≤ inner.sought) × (inner.sought < inner.high)
inner_stands pages stands level page least child place inner node s each from below same leads =
    let es : List SbEntry = entries_on pages page in
    let v : ℕ = place.sought in
    let p = node_path pages level page place.low place.high least v s from in
    let child_is : child ≡ p.1.child = search (rules, child_at-path) in
    let low_is : inner.low ≡ p.1.low = search (rules, low_from-path) in
    let high_is : inner.high ≡ first_low p.2 place.high = search (rules, next_from-path) in
    let at = EachStands-path stands es p.0 p.1 p.2 v place.high p.3 each in
    let at1 = subst (λ (c : ℕ). stands c p.1.low (first_low p.2 place.high)) (sym child_is) at in
    let at2 = subst (λ (l : ℕ). stands child l (first_low p.2 place.high)) (sym low_is) at1 in
    let at3 = subst (λ (h : ℕ). stands child inner.low h) (sym high_is) at2 in
    (at3, omega (arith, low_is, leads.sought, p.3.here), omega (arith, high_is, leads.sought, first_low-later p.2 v place.high p.3.later below))

pub undamaged : (level : ℕ) (pages : PageMap) (page least damaged : ℕ) (place : Place) → StandsBelow level pages page place.low place.high least
    → place.low ≤ place.sought → place.sought < place.high → IsDamagedBelow FitsPlace LeadsTo NothingBeside pages level place page damaged → ⊥
undamaged zero pages page least damaged place s from below d = d
undamaged (suc zero) pages page least damaged place s from below (inl d) =
    d.1 (node_on pages page) (sb_node_page (node_on pages page)) s.spelled (fits_where_stands pages 1 page least place s from)
undamaged (suc zero) pages page least damaged place s from below (inr (inl d)) = d.4
undamaged (suc zero) pages page least damaged place s from below (inr (inr d)) = d.7
undamaged (suc (suc level)) pages page least damaged place s from below (inl d) =
    d.1 (node_on pages page) (sb_node_page (node_on pages page)) s.0.spelled (fits_where_stands pages (suc (suc level)) page least place s.0 from)
undamaged (suc (suc level)) pages page least damaged place s from below (inr (inl d)) = d.4
undamaged (suc (suc level)) pages page least damaged place s from below (inr (inr d)) =
    let l : ℕ = suc (suc level) in
    let same : node_on pages page ≡ d.0 = same_spelled pages page (node_on pages page) d.0 d.1 l l s.0.spelled (level_where_stands pages l page place.low place.high least s.0) d.4 d.5.fits in
    let inner = inner_stands pages (λ child from to. StandsBelow (suc level) pages child from to 32) l page least d.2 place d.3 d.0 s.0 s.1 from below (sym same) d.6 in
    undamaged (suc level) pages d.2 32 damaged d.3 inner.0 inner.1 inner.2 d.7

root_undamaged : (levels : ℕ) (pages : PageMap) (root version damaged : ℕ) → RootStands levels pages root → version < 2 ^ 32
    → IsDamagedBelow FitsPlace LeadsTo NothingBeside pages levels (root_place version) root damaged → ⊥
root_undamaged zero pages root version damaged s fits d = d
root_undamaged (suc levels) pages root version damaged s fits d = undamaged (suc levels) pages root 1 damaged (root_place version) s (omega arith) fits d

pub tree_undamaged : (pages : PageMap) (tree : Tree) (points : List Point) (version damaged : ℕ) → SbStands pages tree points → version < 2 ^ 32
    → IsDamagedOnPath pages tree version damaged → ⊥
tree_undamaged pages tree points version damaged s fits d = grind (arith, root_undamaged)
