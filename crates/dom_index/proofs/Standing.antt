-- Lists of points that stand.
use Rattle.std.proofs.Common.{◌≡◌, ◌≢◌, ℕ, zero, suc, ◌+◌, ◌-◌, ◌^◌, ◌<◌, ◌≤◌, ◌==◌, false, inl, inr, ◌⊎◌, List, ◌∷◌, length, Some, refl, sym, ap, ◌∙◌, subst, arith, IsPermutation, length-append}
use Rattle.std.proofs.lemmas.Bool.{eq-eqb, ne_eqb, cases_eq, cases_lt, lt-ltb, le-ltb}
use Rattle.std.proofs.lemmas.List.Elements.{All-cons}
use Rattle.std.proofs.lemmas.List.Sorted.{IsPermutation-trans, IsPermutation-sym, IsPermutation-cons, length_permutation, All-permutation}
use Rattle.bw_types.specs.Depths.{added_pages}
use Rattle.bw_types.specs.declared.point.Point.{Point}
use Rattle.bw_types.specs.declared.tree.Tree.{Tree}
use Rattle.ports.specs.Pages.{PageMap}
use Rattle.ports.specs.Frame.{AgreeOn, AreInMap, Replaces}
use Rattle.page_layout.specs.Footprint.{NamesNoneTwice}
use Rattle.page_layout.specs.PointLeaf.{IsPointTyped}
use Rattle.page_layout.specs.declared.point_leaf.PointLeaf.{PointLeaf}
use Rattle.dom_index.specs.Chain.{ChainStands, HoldsNoLeaf, IsDamagedOn, IsPutFirst, LeafStands, ListStands, chain_pages, chain_points, leaf_on, list_growth, list_pages}
use Rattle.dom_index.specs.Points.{IsNewPoint}
use Rattle.dom_index.proofs.Chains.{leaf_found}
use Rattle.dom_index.proofs.Frames.{same_pages, same_points, same_stands, chain_there, no_points, points_more}
use Rattle.dom_index.proofs.Growing.{put_first_stands}

pub by_its_pages : (pages others : PageMap) (dims : ℕ) (tree : Tree) (points : List Point) → ListStands pages dims tree points
    → AgreeOn (list_pages pages dims tree) pages others
    → ListStands others dims tree points × (list_pages others dims tree ≡ list_pages pages dims tree)
by_its_pages pages others dims tree points s agree =
    let same : chain_pages tree.count others tree.root ≡ chain_pages tree.count pages tree.root = same_pages tree.count pages others tree.root agree in
    let kept = same_points tree.count pages others tree.root agree in (
      record {
        count = s.count;
        few = s.few;
        levels = s.levels;
        changes = s.changes;
        last = s.last;
        chain = same_stands tree.count pages others tree.root agree s.chain;
        once = subst NamesNoneTwice (sym same) s.once;
        kept = subst (λ (ps : List Point). IsPermutation ps points) (sym kept) s.kept;
        versions = s.versions;
      },
      same,
    )

pub in_map : (pages : PageMap) (dims : ℕ) (tree : Tree) (points : List Point) → ListStands pages dims tree points → AreInMap pages (list_pages pages dims tree)
in_map pages dims tree points s = chain_there tree.count pages tree.root s.chain

pub any_order : (pages : PageMap) (dims : ℕ) (tree : Tree) (points others : List Point)
    → ListStands pages dims tree points → IsPermutation points others → ListStands pages dims tree others
any_order pages dims tree points others s p =
    let long : length others ≡ length points = length_permutation points others p in
    record {
      count = s.count ∙ sym long;
      few = subst (λ (n : ℕ). n ≤ 2 ^ 31) (sym long) s.few;
      levels = s.levels;
      changes = s.changes;
      last = s.last;
      chain = s.chain;
      once = s.once;
      kept = IsPermutation-trans (chain_points tree.count pages tree.root) points others s.kept p;
      versions = All-permutation (λ (p : Point). p.version < 2 ^ 32 - 1) points others p s.versions;
    }

some_pages : (d n : ℕ) → 1 ≤ d → 1 ≤ added_pages d n
some_pages zero n some = absurd (omega (arith, some))
some_pages (suc zero) n some = omega arith
some_pages (suc (suc d)) n some = omega arith

growth_is : (dims levels count : ℕ) → list_growth dims levels count ≤ 1
growth_is dims levels count = elim (cases_eq levels 1) [
  | inr ne ↦ rw (ne_eqb levels 1 ne) (omega arith)
  | inl e ↦ elim (cases_lt count 64) [
    | inl few ↦ rw (eq-eqb levels 1 e, lt-ltb count 64 few) (omega arith)
    | inr many ↦ rw (eq-eqb levels 1 e, le-ltb count 64 many) (omega arith)
  ]
]

pub growth_few : (dims levels count : ℕ) → 1 ≤ dims → dims ≤ 3 → list_growth dims levels count ≤ added_pages dims count
growth_few dims levels count some few =
    let most = growth_is dims levels count in
    let least = some_pages dims count some in
    omega (arith, most, least)

pub growth_cases : (dims levels count : ℕ) → ((levels ≡ 1) × (count < 64) × (list_growth dims levels count ≡ 0)) ⊎ (list_growth dims levels count ≡ 1)
growth_cases dims levels count = elim (cases_eq levels 1) [
  | inr ne ↦ inr (rw (ne_eqb levels 1 ne) refl)
  | inl e ↦ elim (cases_lt count 64) [
    | inl few ↦ inl (e, few, rw (eq-eqb levels 1 e, lt-ltb count 64 few) refl)
    | inr many ↦ inr (rw (eq-eqb levels 1 e, le-ltb count 64 many) refl)
  ]
]

-- the first page of a chain that stands spells points
pub first_leaf : (most : ℕ) (m : PageMap) (page : ℕ) → ChainStands most m page → page ≢ 0 → LeafStands m page
first_leaf zero m page e ne = absurd (ne e)
first_leaf (suc most) m page (inl e) ne = absurd (ne e)
first_leaf (suc most) m page (inr s) ne = s.1

first_points : (most : ℕ) (m : PageMap) (page : ℕ) → ChainStands most m page → page ≢ 0 → length (leaf_on m page).points.items ≤ length (chain_points most m page)
first_points zero m page e ne = absurd (ne e)
first_points (suc most) m page (inl e) ne = absurd (ne e)
first_points (suc most) m page (inr s) ne =
    let whole : length (chain_points (suc most) m page) ≡ length (leaf_on m page).points.items + length (chain_points most m (leaf_on m page).next) =
    ap (λ (ps : List Point). length ps) (points_more most m page ne) ∙ length-append (leaf_on m page).points.items (chain_points most m (leaf_on m page).next) in
    omega (arith, whole)

-- a list with a level has a first page, which has no more points than it
pub has_first : (m : PageMap) (dims : ℕ) (tree : Tree) (points : List Point) → ListStands m dims tree points → tree.levels ≡ 1 → tree.count < 64
    → (tree.root ≢ 0) × LeafStands m tree.root × (length (leaf_on m tree.root).points.items < 64)
has_first m dims tree points s one few =
    let long : length points ≡ length (chain_points tree.count m tree.root) = length_permutation (chain_points tree.count m tree.root) points s.kept in
    let some : tree.count ≢ 0 = λ none.
    let zero_levels : tree.levels ≡ 0 = s.levels ∙ (rw (eq-eqb tree.count 0 none) refl) in
    omega (arith, one, zero_levels) in
    let ne : tree.root ≢ 0 = λ none.
    let empty : length (chain_points tree.count m tree.root) ≡ 0 = ap (λ (ps : List Point). length ps) (no_points tree.count m tree.root none) in
    some (s.count ∙ long ∙ empty) in
    let least = first_points tree.count m tree.root s.chain ne in
    let count = s.count in
    (ne, first_leaf tree.count m tree.root s.chain ne, omega (arith, least, long, count, few))

pub no_hole : (m : PageMap) (most : ℕ) (page : ℕ) → ChainStands most m page → page ≢ 0 → HoldsNoLeaf m page → ⊥
no_hole m most page s ne none =
    let leaf = first_leaf most m page s ne in
    none (leaf_on m page) _ leaf.1 leaf.0

-- the tree's list has the point besides
pub list_grows : (before after : PageMap) (dims : ℕ) (tree : Tree) (root : ℕ) (points : List Point) (p : Point) → ListStands before dims tree points
    → IsNewPoint dims points p → p.version < 2 ^ 32 - 1 → IsPointTyped p → tree.root < 2 ^ 64 → IsPutFirst before after tree.root root p
    → ListStands after dims (record { root = root; levels = 1; count = tree.count + 1; changes = tree.changes; last = tree.last }) (p ∷ points)
    × Replaces (list_pages before dims tree) (list_pages after dims (record { root = root; levels = 1; count = tree.count + 1; changes = tree.changes; last = tree.last })) before after
list_grows before after dims tree root points p s new early typed fits put =
    let next : tree.count + 1 ≡ suc tree.count = omega arith in
    let more = put_first_stands tree.count before after tree.root root p s.chain s.once typed fits put in
    let some : (tree.count + 1 == 0) ≡ false = ne_eqb (tree.count + 1) 0 (λ e. omega (arith, e)) in
    let old : IsPermutation (p ∷ chain_points tree.count before tree.root) (p ∷ points) = IsPermutation-cons p (chain_points tree.count before tree.root) points s.kept in
    let kept : IsPermutation (chain_points (suc tree.count) after root) (p ∷ points) =
    IsPermutation-trans (chain_points (suc tree.count) after root) (p ∷ chain_points tree.count before tree.root) (p ∷ points)
    (IsPermutation-sym (p ∷ chain_points tree.count before tree.root) (chain_points (suc tree.count) after root) more.kept) old in
    let count = s.count in
    let few = new.few in (
      record {
        count = omega (arith, count);
        few = omega (arith, few);
        levels = rw some refl;
        changes = s.changes;
        last = s.last;
        chain = subst (λ (n : ℕ). ChainStands n after root) (sym next) more.stands;
        once = subst (λ (n : ℕ). NamesNoneTwice (chain_pages n after root)) (sym next) more.once;
        kept = subst (λ (n : ℕ). IsPermutation (chain_points n after root) (p ∷ points)) (sym next) kept;
        versions = All-cons (λ (q : Point). q.version < 2 ^ 32 - 1) p points early s.versions;
      },
      subst (λ (n : ℕ). Replaces (chain_pages tree.count before tree.root) (chain_pages n after root) before after) (sym next) more.change,
    )

-- no page of a chain that stands is damaged
pub none_damaged : (most : ℕ) (m : PageMap) (page damaged : ℕ) → ChainStands most m page → page ≢ 0 → IsDamagedOn m most page damaged → ⊥
none_damaged zero m page damaged s ne below = below
none_damaged (suc most) m page damaged s ne (inl here) = no_hole m (suc most) page s ne here.1
none_damaged (suc most) m page damaged s ne (inr (inl beside)) = beside.4
none_damaged (suc most) m page damaged (inl e) ne (inr (inr below)) = ne e
none_damaged (suc most) m page damaged (inr s) ne (inr (inr (leaf, bytes, child, inner, there, spells, led, below))) =
    let same : leaf_on m page ≡ leaf = leaf_found m page leaf (there ∙ ap (λ (b : List ℕ). Some b) spells.spelled) spells.typed spells.rules in
    let next : (leaf_on m page).next ≡ child = ap (λ (l : PointLeaf). l.next) same ∙ sym led.0 in
    none_damaged most m child damaged (subst (λ (n : ℕ). ChainStands most m n) next s.2) led.1 below
