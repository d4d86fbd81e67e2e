-- Chains of pages of points.
use Rattle.std.proofs.Common.{◌≡◌, ◌≢◌, ℕ, zero, suc, ◌+◌, ◌-◌, ◌%◌, ◌^◌, ◌≤◌, List, [], ◌++◌, Option, Some, refl, sym, ap, ◌∙◌, arith}
use Rattle.std.specs.List.{sum_by}
use Rattle.std.specs.Option.{option_map_or}
use Rattle.std.proofs.Math.Nat.{mod-add-mod}
use Rattle.std.proofs.lemmas.Bool.{eq-eqb, ne_eqb}
use Rattle.std.proofs.lemmas.List.Sums.{sum_by-append}
use Rattle.bw_types.specs.Dominance.{dominance_sum, dominated_weight}
use Rattle.ports.specs.Pages.{PageMap}
use Rattle.page_layout.specs.PointLeaf.{IsPointLeaf, IsTyped, point_leaf_page, point_leaf_in}
use Rattle.page_layout.specs.PointLeafLaws.{point_leaf_in-page}
use Rattle.page_layout.specs.declared.point_leaf.PointLeaf.{PointLeaf}
use Rattle.dom_index.specs.Chain.{chain_points, leaf_on, no_leaf}
use Rattle.dom_index.specs.Sums.{counted_weight}

pub leaf_found : (m : PageMap) (page : ℕ) (leaf : PointLeaf) → m page ≡ Some (point_leaf_page leaf) → IsTyped leaf → IsPointLeaf leaf → leaf_on m page ≡ leaf
leaf_found m page leaf found typed is_leaf =
    ap (λ (o : Option (List ℕ)). option_map_or point_leaf_in o no_leaf) found ∙ point_leaf_in-page leaf typed is_leaf

pub points_step : (left : ℕ) (m : PageMap) (page : ℕ) → 1 ≤ left → page ≢ 0
    → chain_points left m page ≡ (leaf_on m page).points.items ++ chain_points (left - 1) m (leaf_on m page).next
points_step zero m page some ne = absurd (omega (arith, some))
points_step (suc left) m page some ne =
    let less : suc left - 1 ≡ left = omega arith in
    rw (ne_eqb page 0 ne, less) refl

pub points_end : (left : ℕ) (m : PageMap) (page : ℕ) → page ≡ 0 → chain_points left m page ≡ []
points_end zero m page e = refl
points_end (suc left) m page e = rw (eq-eqb page 0 e) refl

-- the sum goes on with one page's points
pub sum_step : (dims : ℕ) (keys : List ℕ) (version total part left : ℕ) (m : PageMap) (page : ℕ) (leaf : PointLeaf) (whole : ℕ)
    → 1 ≤ left → page ≢ 0 → m page ≡ Some (point_leaf_page leaf) → IsTyped leaf → IsPointLeaf leaf
    → part ≡ dominance_sum dims leaf.points.items keys version
    → (total + dominated_weight dims (chain_points left m page) keys version) % 2 ^ 128 ≡ whole
    → ((total + part) % 2 ^ 128 + dominated_weight dims (chain_points (left - 1) m leaf.next) keys version) % 2 ^ 128 ≡ whole
sum_step dims keys version total part left m page leaf whole some ne found typed is_leaf is_part h =
    let f = counted_weight dims keys version in
    let here = sum_by f leaf.points.items in
    let rest = sum_by f (chain_points (left - 1) m leaf.next) in
    let step = points_step left m page some ne in
    let same = ap (λ (l : PointLeaf). l.points.items ++ chain_points (left - 1) m l.next) (leaf_found m page leaf found typed is_leaf) in
    let split : sum_by f (chain_points left m page) ≡ here + rest =
    ap (sum_by f) (step ∙ same) ∙ sum_by-append f leaf.points.items (chain_points (left - 1) m leaf.next) in
    let a : ((total + part) % 2 ^ 128 + rest) % 2 ^ 128 ≡ (total + part + rest) % 2 ^ 128 = mod-add-mod (total + part) (2 ^ 128) rest in
    let b : (total + part + rest) % 2 ^ 128 ≡ (total + here + rest) % 2 ^ 128 = omega (arith, is_part) in
    let d : total + here + rest ≡ total + (here + rest) = omega arith in
    a ∙ b ∙ ap (λ (n : ℕ). n % 2 ^ 128) d ∙ ap (λ (n : ℕ). (total + n) % 2 ^ 128) (sym split) ∙ h
