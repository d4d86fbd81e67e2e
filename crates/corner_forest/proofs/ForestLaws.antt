-- The laws of forests.
use Rattle.std.proofs.Common.{◌≡◌, ℕ, zero, suc, ◌+◌, ◌*◌, ◌≤◌, ◌^◌, get_or, length, List, [], ◌∷◌, ◌++◌, replicate, refl, sym, ap, ◌∙◌, subst, arith, append_assoc, length-append, IsPermutation}
use Rattle.std.specs.List.{All, flat_map}
use Rattle.std.proofs.lemmas.List.{length-replicate}
use Rattle.std.proofs.lemmas.List.Elements.{All-cons, All-nil}
use Rattle.std.proofs.lemmas.List.Sorted.{All-permutation, IsPermutation-append_comm, IsPermutation-append_left, IsPermutation-middle, IsPermutation-sym}
use Rattle.std.proofs.lemmas.List.Concat.{flat_map-append}
use Rattle.bw_types.specs.Empty.{empty_tree}
use Rattle.bw_types.specs.declared.params.Params.{Params}
use Rattle.bw_types.specs.declared.point.Point.{Point}
use Rattle.bw_types.specs.declared.tree.Tree.{Tree}
use Rattle.ports.specs.Frame.{AgreeOn, AreInMap}
use Rattle.ports.specs.Pages.{PageMap}
use Rattle.page_layout.specs.Footprint.{NamesNoneTwice}
use Rattle.corner_weights.specs.PlaneSums.{Entered, EnteredFits}
use Rattle.dom_index.specs.declared.index.DomIndex.{Ghosts}
use Rattle.corner_forest.specs.Entries.{corner_count, entry_points, root_count, root_points}
use Rattle.corner_forest.specs.Laws.{EmptyForestStands, ForestPagesAreThere, ForestStandsByItsPages, EntryStandsAnywhere, TreesCountTheirPoints}
use Rattle.corner_forest.specs.Stands.{AreBalanced, HasSmallWeight}
use Rattle.corner_forest.specs.Trees.{EachStands, trees_pages}
use Rattle.corner_forest.proofs.Changing.{each_by_pages, each_there}
use Rattle.corner_forest.proofs.Entering.{each_low, each_with, each_without}
use Rattle.corner_forest.proofs.Newness.{length_root}
use Rattle.corner_forest.proofs.Places.{stands_at}

module _ {X : Type 0} (g : Ghosts X)
    (empty : (pages : PageMap) (dims : ℕ) → 1 ≤ dims → dims ≤ g.DIMS → g.stands pages dims empty_tree [] × (g.footprint pages dims empty_tree ≡ []) × g.balanced pages dims empty_tree) where
  empties : (pages : PageMap) (dims from n : ℕ) (P : ℕ → List Point) → ((j : ℕ) → P j ≡ []) → 1 ≤ dims → dims ≤ g.DIMS
      → EachStands (g.stands pages dims) P from (replicate n empty_tree) × (trees_pages (g.footprint pages dims) (replicate n empty_tree) ≡ [])
      × All (g.balanced pages dims) (replicate n empty_tree)
  empties pages dims from zero P none some few = (tt, refl, All-nil (g.balanced pages dims))
  empties pages dims from (suc n) P none some few =
      let here = empty pages dims some few in
      let rest = empties pages dims (suc from) n P none some few in (
        (subst (λ (ps : List Point). g.stands pages dims empty_tree ps) (sym (none from)) here.0, rest.0),
        ap (λ (xs : List ℕ). xs ++ trees_pages (g.footprint pages dims) (replicate n empty_tree)) here.1 ∙ rest.1,
        All-cons (g.balanced pages dims) empty_tree (replicate n empty_tree) here.2 rest.2,
      )

  pub empty_forest_stands : EmptyForestStands g
  empty_forest_stands pages params range few =
      let all = empties pages params.dims 0 (root_count params) (root_points params []) (λ j. refl) range.some_dims few in (
        record { count = length-replicate (root_count params) empty_tree; fits = All-nil (EnteredFits params); weights = All-nil HasSmallWeight; few = omega arith; trees = all.0 },
        all.1,
        all.2,
      )

length_middle : (before after : List Entered) (e : Entered) → length (before ++ e ∷ after) ≡ length (e ∷ (before ++ after))
length_middle before after e =
    let first = length-append before (e ∷ after) in
    let second = length-append before after in
    omega (arith, first, second)

module _ {X : Type 0} (g : Ghosts X)
    (any : (pages : PageMap) (dims : ℕ) (tree : Tree) (points others : List Point) → g.stands pages dims tree points → IsPermutation points others → g.stands pages dims tree others) where
  each_in_any_order : (pages : PageMap) (dims : ℕ) (P Q : ℕ → List Point) (from : ℕ) (ts : List Tree) → ((j : ℕ) → IsPermutation (P j) (Q j))
      → EachStands (g.stands pages dims) P from ts → EachStands (g.stands pages dims) Q from ts
  each_in_any_order pages dims P Q from [] moved s = tt
  each_in_any_order pages dims P Q from (t ∷ ts) moved s = (any pages dims t (P from) (Q from) s.0 (moved from), each_in_any_order pages dims P Q (suc from) ts moved s.1)

  moved_points : (params : Params) (before after : List Entered) (e : Entered) (root : ℕ) → IsPermutation (root_points params (e ∷ (before ++ after)) root) (root_points params (before ++ e ∷ after) root)
  moved_points params before after e root =
      let f = entry_points params root in
      let a : List Point = f e in
      let b : List Point = flat_map f before in
      let c : List Point = flat_map f after in
      let first : a ++ flat_map f (before ++ after) ≡ (a ++ b) ++ c = ap (λ (l : List Point). a ++ l) (flat_map-append f before after) ∙ sym (append_assoc a b c) in
      let second : flat_map f (before ++ e ∷ after) ≡ (b ++ a) ++ c = flat_map-append f before (e ∷ after) ∙ sym (append_assoc b a c) in
      subst (λ (l : List Point). IsPermutation l (flat_map f (before ++ e ∷ after))) (sym first)
      (subst (λ (l : List Point). IsPermutation ((a ++ b) ++ c) l) (sym second) (IsPermutation-append_left c (a ++ b) (b ++ a) (IsPermutation-append_comm a b)))

  pub entry_stands_anywhere : EntryStandsAnywhere g
  entry_stands_anywhere pages params roots before after e = (
    (λ s. record {
      count = s.count;
      fits = All-permutation (EnteredFits params) (e ∷ (before ++ after)) (before ++ e ∷ after) (IsPermutation-sym (before ++ e ∷ after) (e ∷ (before ++ after)) (IsPermutation-middle before e after)) s.fits;
      weights = All-permutation HasSmallWeight (e ∷ (before ++ after)) (before ++ e ∷ after) (IsPermutation-sym (before ++ e ∷ after) (e ∷ (before ++ after)) (IsPermutation-middle before e after)) s.weights;
      few = subst (λ (n : ℕ). n * corner_count params ≤ 2 ^ 31) (sym (length_middle before after e)) s.few;
      trees = each_in_any_order pages params.dims (root_points params (e ∷ (before ++ after))) (root_points params (before ++ e ∷ after)) 0 roots (moved_points params before after e) s.trees;
    }),
    (λ s. record {
      count = s.count;
      fits = All-permutation (EnteredFits params) (before ++ e ∷ after) (e ∷ (before ++ after)) (IsPermutation-middle before e after) s.fits;
      weights = All-permutation HasSmallWeight (before ++ e ∷ after) (e ∷ (before ++ after)) (IsPermutation-middle before e after) s.weights;
      few = subst (λ (n : ℕ). n * corner_count params ≤ 2 ^ 31) (length_middle before after e) s.few;
      trees = each_in_any_order pages params.dims (root_points params (before ++ e ∷ after)) (root_points params (e ∷ (before ++ after))) 0 roots
          (λ j. IsPermutation-sym (root_points params (e ∷ (before ++ after)) j) (root_points params (before ++ e ∷ after) j) (moved_points params before after e j)) s.trees;
    }),
  )

module _ {X : Type 0} (g : Ghosts X)
    (by_its_pages : (pages others : PageMap) (dims : ℕ) (tree : Tree) (points : List Point) → g.stands pages dims tree points
    → AgreeOn (g.footprint pages dims tree) pages others → g.stands others dims tree points × (g.footprint others dims tree ≡ g.footprint pages dims tree))
    (balance : (pages others : PageMap) (dims : ℕ) (tree : Tree) (points : List Point) → g.stands pages dims tree points
    → AgreeOn (g.footprint pages dims tree) pages others → g.balanced pages dims tree → g.balanced others dims tree)
    (in_map : (pages : PageMap) (dims : ℕ) (tree : Tree) (points : List Point) → g.stands pages dims tree points → AreInMap pages (g.footprint pages dims tree))
    (single : (pages : PageMap) (dims : ℕ) (tree : Tree) (points : List Point) → g.stands pages dims tree points → NamesNoneTwice (g.footprint pages dims tree)) where
  pub forest_by_its_pages : ForestStandsByItsPages g
  forest_by_its_pages pages others params roots entries s agree =
      let B : Type 0 = AreBalanced g pages params roots in
      let S : PageMap → Tree → List Point → Type 0 = λ m t ps. g.stands m params.dims t ps × (B → g.balanced m params.dims t) in
      let before : EachStands (S pages) (root_points params entries) 0 roots = each_with (g.stands pages params.dims) B (g.balanced pages params.dims) (root_points params entries) 0 roots (λ b. b) s.trees in
      let after = each_by_pages S (λ m t. g.footprint m params.dims t)
      (λ m n t ps s agree. let still = by_its_pages m n params.dims t ps s.0 agree in ((still.0, λ b. balance m n params.dims t ps s.0 agree (s.1 b)), still.1))
      (λ m t ps s. in_map m params.dims t ps s.0) (λ m t ps s. single m params.dims t ps s.0)
      pages others (root_points params entries) 0 roots before agree in (
        record { count = s.count; fits = s.fits; weights = s.weights; few = s.few; trees = each_without (g.stands others params.dims) B (g.balanced others params.dims) (root_points params entries) 0 roots after.0 },
        after.1,
        λ b. each_low (g.stands others params.dims) B (g.balanced others params.dims) (root_points params entries) 0 roots after.0 b,
      )

  pub forest_pages_there : ForestPagesAreThere g
  forest_pages_there pages params roots entries s =
      each_there (λ m t ps. g.stands m params.dims t ps) (λ m t. g.footprint m params.dims t)
      (λ m n t ps s agree. by_its_pages m n params.dims t ps s agree) (λ m t ps s. in_map m params.dims t ps s) (λ m t ps s. single m params.dims t ps s)
      pages (root_points params entries) 0 roots s.trees

module _ {X : Type 0} (g : Ghosts X)
    (counted : (pages : PageMap) (dims : ℕ) (tree : Tree) (points : List Point) → g.stands pages dims tree points → (tree.count ≡ length points) × (length points ≤ 2 ^ 31) × (tree.levels ≡ 0 → points ≡ [])) where
  pub trees_count : TreesCountTheirPoints g
  trees_count pages params roots entries s root lt =
      let count = s.count in
      let from_zero : 0 + root ≡ root = omega arith in
      let here = subst (λ (k : ℕ). g.stands pages params.dims (get_or roots root empty_tree) (root_points params entries k)) from_zero
      (stands_at (g.stands pages params.dims) (root_points params entries) 0 roots root empty_tree s.trees (omega (arith, lt, count))) in
      (counted pages params.dims (get_or roots root empty_tree) (root_points params entries root) here).0 ∙ length_root params entries root
