-- New spans, whose trees are all empty.
use Rattle.std.proofs.Common.{◌≡◌, ℕ, zero, suc, ◌*◌, ◌^◌, ◌≤◌, IsTrue, List, [], ◌++◌, take, drop, replicate, refl, sym, ◌∙◌, ap, subst, arith}
use Rattle.std.proofs.Math.Nat.{pow-le-pow_right}
use Rattle.std.proofs.lemmas.List.{length-replicate}
use Rattle.std.proofs.lemmas.List.Elements.{All-cons, All-nil}
use Rattle.std.specs.List.{All, flat_map}
use Rattle.bw_types.specs.Empty.{empty_tree}
use Rattle.bw_types.specs.Fits.{IsInRange}
use Rattle.bw_types.specs.declared.params.Params.{Params}
use Rattle.bw_types.specs.declared.point.Point.{Point}
use Rattle.bw_types.specs.declared.tree.Tree.{Tree}
use Rattle.page_layout.specs.Meta.{IsMeta, IsTyped}
use Rattle.page_layout.specs.TreeValue.{IsTreeTyped, tree_fits}
use Rattle.corner_forest.specs.Trees.{EachStands}
use Rattle.span_planes.specs.Made.{new_meta}
use Rattle.span_planes.specs.SpanHolds.{without_degree}
use Rattle.span_planes.specs.SpanPoints.{span_roots}

-- how many trees there are at most
pub roots_few : (dims : ℕ) → dims ≤ 3 → 2 * 2 ^ dims ≤ 16
roots_few dims few =
    let top : 2 ^ dims ≤ 2 ^ 3 = pow-le-pow_right (omega arith) {j = 3} few in
    omega (arith, top)

-- params in range are so without their degree
pub range_without_degree : (params : Params) → IsInRange params → IsInRange (without_degree params)
range_without_degree params r = record {
  some_dims = r.some_dims;
  dims = r.dims;
  degree = tt;
  some_events = r.some_events;
  events = r.events;
  some_pages = r.some_pages;
  pages = r.pages;
  origin = r.origin;
}

pub all_same : {A : Type 0} (P : A → Type 0) (n : ℕ) (a : A) → P a → All P (replicate n a)
all_same P zero a p = All-nil P
all_same P (suc n) a p = All-cons P a (replicate n a) p (all_same P n a p)

empty_typed : IsTreeTyped empty_tree
empty_typed = (omega arith, omega arith, omega arith, omega arith)

pub meta_rules : (params : Params) → IsInRange params → IsMeta (new_meta params)
meta_rules params r = record {
  lives = omega arith;
  allotted = omega arith;
  free = refl;
  table = refl;
  few = omega (arith, roots_few params.dims r.dims, length-replicate (span_roots params) empty_tree);
  roots = all_same (λ (t : Tree). IsTrue (tree_fits t)) (span_roots params) empty_tree refl;
}

pub meta_typed : (params : Params) → IsTyped (new_meta params)
meta_typed params = record {
  version = omega arith;
  events = omega arith;
  rows = omega arith;
  allotted = omega arith;
  free = omega arith;
  mass = omega arith;
  table = empty_typed;
  roots = all_same IsTreeTyped (span_roots params) empty_tree empty_typed;
}

-- Empty trees stand for no points at each place, and so do the first of them and the others.
module _ (stands : Tree → List Point → Type 0) (points : ℕ → List Point) (empty : stands empty_tree []) (none : (place : ℕ) → points place ≡ []) where
  each_empty : (from n : ℕ) → EachStands stands points from (replicate n empty_tree)
  each_empty from zero = tt
  each_empty from (suc n) = (subst (λ (ps : List Point). stands empty_tree ps) (sym (none from)) empty, each_empty (suc from) n)

  pub first_empty : (from k n : ℕ) → EachStands stands points from (take k (replicate n empty_tree))
  first_empty from zero n = tt
  first_empty from (suc k) zero = tt
  first_empty from (suc k) (suc n) = (subst (λ (ps : List Point). stands empty_tree ps) (sym (none from)) empty, first_empty (suc from) k n)

  pub others_empty : (from k n : ℕ) → EachStands stands points from (drop k (replicate n empty_tree))
  others_empty from zero n = each_empty from n
  others_empty from (suc k) zero = tt
  others_empty from (suc k) (suc n) = others_empty from k n

pub no_pages : (footprint : Tree → List ℕ) (n : ℕ) → footprint empty_tree ≡ [] → flat_map footprint (replicate n empty_tree) ≡ []
no_pages footprint zero none = refl
no_pages footprint (suc n) none = ap (λ (ps : List ℕ). ps ++ flat_map footprint (replicate n empty_tree)) none ∙ no_pages footprint n none
