-- Trees that were filled with the events of a history stand for its spans.
use Rattle.std.proofs.Common.{◌≡◌, ℕ, zero, suc, ◌+◌, ◌-◌, ◌<◌, ◌≤◌, nat_lt, Bool, true, false, List, [], ◌∷◌, length, take, drop, refl, ◌∙◌, ap, subst, arith, if◌then◌else◌, IsPermutation}
use Rattle.std.proofs.lemmas.Bool.Decides.{Decides-ltb}
use Rattle.std.proofs.lemmas.List.Sorted.{IsPermutation-map, IsPermutation-sym}
use Rattle.bw_types.specs.History.{History}
use Rattle.bw_types.specs.declared.params.Params.{Params}
use Rattle.bw_types.specs.declared.point.Point.{Point}
use Rattle.bw_types.specs.declared.tree.Tree.{Tree}
use Rattle.corner_weights.specs.Entries.{corner_point}
use Rattle.corner_forest.specs.Entries.{corner_count}
use Rattle.corner_forest.specs.Trees.{EachStands}
use Rattle.dom_index.specs.declared.index.DomIndex.{Ghosts}
use Rattle.history_laws.specs.Entries.{history_entries}
use Rattle.ports.specs.Pages.{PageMap}
use Rattle.corner_weights.specs.PlaneSums.{Entered}
use Rattle.span_planes.specs.Filled.{FilledTrees, points_at}
use Rattle.span_planes.specs.SpanHolds.{SpansStand}
use Rattle.span_planes.specs.SpanPoints.{dated_weight, plain_weight, span_points, weighed}

module _ (stands : Tree → List Point → Type 0) where
  -- the first trees, and the others
  first_stand : (points : ℕ → List Point) (from k : ℕ) (trees : List Tree) → EachStands stands points from trees → EachStands stands points from (take k trees)
  first_stand points from zero trees each = tt
  first_stand points from (suc k) [] each = tt
  first_stand points from (suc k) (t ∷ ts) each = (each.0, first_stand points (suc from) k ts each.1)

  others_stand : (points : ℕ → List Point) (from k : ℕ) (trees : List Tree) → EachStands stands points from trees → EachStands stands points (from + k) (drop k trees)
  others_stand points from zero trees each = let same : from ≡ from + 0 = omega arith in subst (λ (n : ℕ). EachStands stands points n trees) same each
  others_stand points from (suc k) [] each = tt
  others_stand points from (suc k) (t ∷ ts) each =
      let same : suc from + k ≡ from + suc k = omega arith in subst (λ (n : ℕ). EachStands stands points n (drop k ts)) same (others_stand points (suc from) k ts each.1)

  -- for other points at each place
  each_changed : (points others : ℕ → List Point) (shift from : ℕ) (trees : List Tree) → ((place : ℕ) (t : Tree) → place < from + length trees → stands t (points (shift + place)) → stands t (others place))
      → EachStands stands points (shift + from) trees → EachStands stands others from trees
  each_changed points others shift from [] step each = tt
  each_changed points others shift from (t ∷ ts) step each =
      let same : suc (shift + from) ≡ shift + suc from = omega arith in (
        step from t (omega arith) each.0,
        each_changed points others shift (suc from) ts (λ place s lt. step place s (omega (arith, lt))) (subst (λ (n : ℕ). EachStands stands points n ts) same each.1),
      )

few_taken : (k : ℕ) (trees : List Tree) → length (take k trees) ≤ k
few_taken zero trees = omega arith
few_taken (suc k) [] = omega arith
few_taken (suc k) (t ∷ ts) = omega (arith, few_taken k ts)

module _ (params : Params) (entries : List Entered) where
  plain_at : (place : ℕ) → place < corner_count params → points_at params entries place ≡ span_points params plain_weight entries place
  plain_at place lt =
      ap (λ (b : Bool). if b then span_points params plain_weight entries place else span_points params dated_weight entries (place - corner_count params))
      ((Decides-ltb place (corner_count params)).1 lt)

  not_below : (a b : ℕ) (r : Bool) → nat_lt a b ≡ r → b ≤ a → r ≡ false
  not_below a b true is le = let lt : a < b = (Decides-ltb a b).0 is in absurd (omega (arith, lt, le))
  not_below a b false is le = refl

  dated_at : (place : ℕ) → points_at params entries (corner_count params + place) ≡ span_points params dated_weight entries place
  dated_at place =
      let back : corner_count params + place - corner_count params ≡ place = omega arith in
      ap (λ (b : Bool). if b then span_points params plain_weight entries (corner_count params + place) else span_points params dated_weight entries (corner_count params + place - corner_count params))
      (not_below (corner_count params + place) (corner_count params) (nat_lt (corner_count params + place) (corner_count params)) refl (omega arith))
      ∙ ap (λ (n : ℕ). span_points params dated_weight entries n) back

module _ {X : Type 0} (g : Ghosts X)
    (any_order : (pages : PageMap) (dims : ℕ) (tree : Tree) (points others : List Point) → g.stands pages dims tree points → IsPermutation points others → g.stands pages dims tree others) where
  pub spans_stand : (before after : PageMap) (params : Params) (entries : List Entered) (roots : List Tree) (h : History) → params.dims ≤ g.DIMS
      → IsPermutation (history_entries h) entries → FilledTrees g before after params entries roots → SpansStand g params after roots h
  spans_stand before after params entries roots h dims moved filled =
      let stands : Tree → List Point → Type 0 = g.stands after params.dims in
      let count : ℕ = corner_count params in
      let back = IsPermutation-sym (history_entries h) entries moved in
      let own : (weight : Entered → ℕ) (place : ℕ) (t : Tree) → stands t (span_points params weight entries place) → stands t (span_points params weight (history_entries h) place) =
      λ weight place t s.
      any_order after params.dims t (span_points params weight entries place) (span_points params weight (history_entries h) place) s
      (IsPermutation-map (λ (e : Entered). corner_point params.dims place (weighed weight e)) entries (history_entries h) back) in
      record {
        dims = dims;
        plain = each_changed stands (points_at params entries) (span_points params plain_weight (history_entries h)) 0 0 (take count roots)
            (λ place t lt s.
            own plain_weight place t (subst (λ (ps : List Point). stands t ps) (plain_at params entries place (let few = few_taken count roots in omega (arith, lt, few)))
            (let same : 0 + place ≡ place = omega arith in subst (λ (n : ℕ). stands t (points_at params entries n)) same s)))
            (first_stand stands (points_at params entries) 0 count roots filled.stand);
        dated = each_changed stands (points_at params entries) (span_points params dated_weight (history_entries h)) count 0 (drop count roots)
            (λ place t lt s. own dated_weight place t (subst (λ (ps : List Point). stands t ps) (dated_at params entries place) s))
            (let same : 0 + count ≡ count + 0 = omega arith in subst (λ (n : ℕ). EachStands stands (points_at params entries) n (drop count roots)) same
            (others_stand stands (points_at params entries) 0 count roots filled.stand));
        balanced = filled.balanced;
      }
