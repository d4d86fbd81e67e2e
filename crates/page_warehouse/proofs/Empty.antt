-- A new warehouse, whose trees are all empty.
use Rattle.std.proofs.Common.{◌≡◌, ℕ, zero, suc, ◌+◌, ◌^◌, ◌≤◌, IsTrue, List, [], ◌++◌, replicate, Option, Some, None, IfSome, refl, sym, ◌∙◌, ap, subst, arith}
use Rattle.std.proofs.Math.Nat.{pow-le-pow_left, pow-le-pow_right}
use Rattle.std.proofs.lemmas.List.{length-replicate}
use Rattle.std.proofs.lemmas.List.Elements.{All-cons, All-nil}
use Rattle.std.proofs.lemmas.List.Sorted.{IsPermutation-refl}
use Rattle.std.specs.List.{All, flat_map}
use Rattle.bw_types.specs.Empty.{empty_tree}
use Rattle.bw_types.specs.Fits.{IsInRange}
use Rattle.bw_types.specs.declared.params.Params.{Params}
use Rattle.bw_types.specs.declared.tree.Tree.{Tree}
use Rattle.bw_types.specs.declared.point.Point.{Point}
use Rattle.bw_types.specs.declared.dated.Dated.{Dated}
use Rattle.ports.specs.Pages.{PageMap, empty_map}
use Rattle.page_disk.specs.Image.{Image}
use Rattle.page_layout.specs.Footprint.{NamesNoneTwice}
use Rattle.page_layout.specs.Meta.{IsMeta, IsTyped}
use Rattle.page_layout.specs.TreeValue.{IsTreeTyped, tree_fits}
use Rattle.page_space.specs.Laws.{CreatedHolds}
use Rattle.object_table.specs.Laws.{EmptyTableStands}
use Rattle.object_table.specs.declared.form.Form.TheVariants.{ByLives}
use Rattle.corner_weights.specs.Planes.{plane_count}
use Rattle.dom_index.specs.declared.index.DomIndex.{Ghosts}
use Rattle.corner_forest.specs.Entries.{corner_count, root_count, root_points}
use Rattle.corner_forest.specs.Trees.{EachStands}
use Rattle.history_laws.specs.Bounds.{HasSmallWeight}
use Rattle.page_warehouse.specs.Created.{IsNew, new_meta}
use Rattle.page_warehouse.specs.Holds.{Holds}

all_same : {A : Type 0} (P : A → Type 0) (n : ℕ) (a : A) → P a → All P (replicate n a)
all_same P zero a p = All-nil P
all_same P (suc n) a p = All-cons P a (replicate n a) p (all_same P n a p)

-- how many trees there are at most
planes_few : (params : Params) → IsInRange params → plane_count params ≤ 64
planes_few params r = by_degree params.degree refl
  where
    by_degree : (d : Option ℕ) → params.degree ≡ d → plane_count params ≤ 64
    by_degree None e = rw e (omega arith)
    by_degree (Some g) e =
        let least : g ≤ 2 = subst (λ (d : Option ℕ). IfSome d (λ x. x ≤ 2)) e r.degree in
        let base : (g + 2) ^ params.dims ≤ 4 ^ params.dims = pow-le-pow_left (omega arith) params.dims in
        let top : 4 ^ params.dims ≤ 4 ^ 3 = pow-le-pow_right (omega arith) {j = 3} r.dims in
        rw e (omega arith)

corners_few : (params : Params) → IsInRange params → corner_count params ≤ 8
corners_few params r =
    let top : 2 ^ params.dims ≤ 2 ^ 3 = pow-le-pow_right (omega arith) {j = 3} r.dims in
    omega arith

roots_few : (params : Params) → IsInRange params → root_count params ≤ 72
roots_few params r = omega (arith, planes_few params r, corners_few params r)

empty_typed : IsTreeTyped empty_tree
empty_typed = (omega arith, omega arith, omega arith, omega arith)

meta_rules : (params : Params) → IsInRange params → IsMeta (new_meta params)
meta_rules params r = record {
  lives = omega arith;
  allotted = omega arith;
  free = refl;
  table = refl;
  few = omega (arith, roots_few params r, length-replicate (root_count params) empty_tree);
  roots = all_same (λ (t : Tree). IsTrue (tree_fits t)) (root_count params) empty_tree refl;
}

meta_typed : (params : Params) → IsTyped (new_meta params)
meta_typed params = record {
  version = omega arith;
  events = omega arith;
  rows = omega arith;
  allotted = omega arith;
  free = omega arith;
  mass = omega arith;
  table = empty_typed;
  roots = all_same IsTreeTyped (root_count params) empty_tree empty_typed;
}

each_empty : (stands : Tree → List Point → Type 0) (points : ℕ → List Point) (from n : ℕ) → stands empty_tree [] → ((k : ℕ) → points k ≡ []) → EachStands stands points from (replicate n empty_tree)
each_empty stands points from zero s none = tt
each_empty stands points from (suc n) s none = (subst (λ (ps : List Point). stands empty_tree ps) (sym (none from)) s, each_empty stands points (suc from) n s none)

no_pages : (footprint : Tree → List ℕ) (n : ℕ) → footprint empty_tree ≡ [] → flat_map footprint (replicate n empty_tree) ≡ []
no_pages footprint zero e = refl
no_pages footprint (suc n) e = ap (λ (ps : List ℕ). ps ++ flat_map footprint (replicate n empty_tree)) e ∙ no_pages footprint n e

module _ {X : Type 0} (g : Ghosts X) where
  pub new_holds : EmptyTableStands → CreatedHolds
      → ((pages : PageMap) (dims : ℕ) → 1 ≤ dims → dims ≤ g.DIMS → g.stands pages dims empty_tree [] × (g.footprint pages dims empty_tree ≡ []) × g.balanced pages dims empty_tree)
      → (x : Image) (params : Params) → IsInRange params → params.dims ≤ g.DIMS → IsNew params x → Holds g x params []
  new_holds table created empty x params r dims new =
      let trees = empty empty_map params.dims r.some_dims dims in
      record {
        meta = new_meta params;
        pages = empty_map;
        space = created x params (new_meta params) r (meta_rules params r) (meta_typed params) refl refl new;
        tells = record { version = refl; events = refl; rows = refl; mass = refl };
        lawful = tt;
        weights = All-nil HasSmallWeight;
        table = record {
          kept = [];
          stands = table ByLives empty_map empty_tree (refl, refl, refl, refl, refl);
          all = IsPermutation-refl {X = Dated} [];
          first = λ e. absurd (cc);
        };
        trees = record {
          dims = dims;
          forest = record {
            count = length-replicate (root_count params) empty_tree;
            fits = All-nil _;
            weights = All-nil _;
            few = omega arith;
            trees = each_empty (g.stands empty_map params.dims) (root_points params []) 0 (root_count params) trees.0 (λ k. refl);
          };
          balanced = all_same (g.balanced empty_map params.dims) (root_count params) empty_tree trees.2;
        };
        apart = subst (λ (ps : List ℕ). NamesNoneTwice ps) (sym (no_pages (g.footprint empty_map params.dims) (root_count params) trees.1)) tt;
      }
