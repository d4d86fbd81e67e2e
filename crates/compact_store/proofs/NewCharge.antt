-- Of a new warehouse three pages count against the limit.
use Rattle.std.proofs.Common.{◌≡◌, ℕ, zero, suc, ◌+◌, ◌^◌, ◌≤◌, true, false, IsTrue, List, replicate, Option, Some, None, IfSome, inl, inr, refl, sym, ◌∙◌, ap, subst, arith}
use Rattle.std.proofs.Math.Nat.{pow-le-pow_left, pow-le-pow_right}
use Rattle.std.proofs.lemmas.List.{length-replicate}
use Rattle.std.proofs.lemmas.List.Elements.{All-cons, All-nil}
use Rattle.std.specs.List.{All}
use Rattle.bw_types.specs.Empty.{empty_tree}
use Rattle.bw_types.specs.Fits.{IsInRange}
use Rattle.bw_types.specs.declared.params.Params.{Params}
use Rattle.bw_types.specs.declared.tree.Tree.{Tree}
use Rattle.corner_forest.specs.Entries.{corner_count, root_count}
use Rattle.page_disk.specs.Image.{Image, PageList}
use Rattle.page_layout.specs.Meta.{IsMeta, IsTyped, meta_in}
use Rattle.page_layout.specs.MetaLaws.{meta_in-page}
use Rattle.page_layout.specs.TreeValue.{IsTreeTyped, tree_fits}
use Rattle.page_warehouse.specs.Created.{IsNew, new_meta}
use Rattle.page_warehouse.specs.Needs.{charge_of, meta_charge, pages_charge}
use Rattle.corner_weights.specs.Planes.{plane_count}
use Rattle.redo_journal.specs.Settled.{SettlesTo}

all_same : {A : Type 0} (P : A → Type 0) (n : ℕ) (a : A) → P a → All P (replicate n a)
all_same P zero a p = All-nil P
all_same P (suc n) a p = All-cons P a (replicate n a) p (all_same P n a p)

-- how many trees there are at most
planes_few : (params : Params) → IsInRange params → plane_count params ≤ 64
planes_few params r = by_degree params.degree refl
  where
    by_degree : (d : Option ℕ) → params.degree ≡ d → plane_count params ≤ 64
    by_degree None e = rw e (omega arith)
    by_degree (Some g) e =
        let least : g ≤ 2 = subst (λ (d : Option ℕ). IfSome d (λ x. x ≤ 2)) e r.degree in
        let base : (g + 2) ^ params.dims ≤ 4 ^ params.dims = pow-le-pow_left (omega arith) params.dims in
        let top : 4 ^ params.dims ≤ 4 ^ 3 = pow-le-pow_right (omega arith) {j = 3} r.dims in
        rw e (omega arith)

corners_few : (params : Params) → IsInRange params → corner_count params ≤ 8
corners_few params r =
    let top : 2 ^ params.dims ≤ 2 ^ 3 = pow-le-pow_right (omega arith) {j = 3} r.dims in
    omega arith

roots_few : (params : Params) → IsInRange params → root_count params ≤ 72
roots_few params r = omega (arith, planes_few params r, corners_few params r)

empty_typed : IsTreeTyped empty_tree
empty_typed = (omega arith, omega arith, omega arith, omega arith)

meta_rules : (params : Params) → IsInRange params → IsMeta (new_meta params)
meta_rules params r = record {
  lives = omega arith;
  allotted = omega arith;
  free = refl;
  table = refl;
  few = omega (arith, roots_few params r, length-replicate (root_count params) empty_tree);
  roots = all_same (λ (t : Tree). IsTrue (tree_fits t)) (root_count params) empty_tree refl;
}

meta_typed : (params : Params) → IsTyped (new_meta params)
meta_typed params = record {
  version = omega arith;
  events = omega arith;
  rows = omega arith;
  allotted = omega arith;
  free = omega arith;
  mass = omega arith;
  table = empty_typed;
  roots = all_same IsTreeTyped (root_count params) empty_tree empty_typed;
}

pub new_charge : (params : Params) → IsInRange params → (x : Image) → IsNew params x → charge_of x ≡ 3
new_charge params range x new =
    ap (λ (bytes : List ℕ). meta_charge (meta_in bytes)) new.meta_is ∙ ap meta_charge (meta_in-page (new_meta params) (meta_typed params) (meta_rules params range))

-- it stands for its own pages
pub new_counts : (params : Params) (x : Image) (pages : PageList) → IsNew params x → SettlesTo x pages → pages_charge pages ≤ charge_of x
new_counts params x pages new settles = elim settles.settled [
  | inl w ↦ (let same : pages_charge pages ≡ charge_of x = ap pages_charge w.1 in omega (arith, same))
  | inr w ↦ absurd (let no : true ≡ false = sym w.0 ∙ new.closed in cc)
]
