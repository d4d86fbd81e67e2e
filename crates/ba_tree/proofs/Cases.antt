-- The dimensions, case by case.
use Rattle.std.proofs.Common.{◌≡◌, ◌≢◌, ◌⊎◌, inl, inr, ℕ, zero, suc, ◌+◌, ◌-◌, ◌<◌, ◌≤◌, Bool, nat_lt, if◌then◌else◌, List, length, Result, refl, sym, ap, subst, ◌∙◌, arith}
use Rattle.std.proofs.Math.Dec.{eqb-suc-zero}
use Rattle.std.proofs.lemmas.Bool.{cases_lt, le-leb, le-ltb, lt-leb, lt-ltb}
use Rattle.bw_types.specs.Depths.{added_pages, query_pages}
use Rattle.bw_types.specs.declared.point.Point.{Point}
use Rattle.bw_types.specs.declared.tree.Tree.{Tree}
use Rattle.ports.specs.Calls.{Changes}
use Rattle.ports.specs.Frame.{Replaces}
use Rattle.ports.specs.Pages.{PageMap}
use Rattle.ports.specs.declared.page.StageFault.{StageFault}
use Rattle.ports.specs.declared.pages.Pages.{Ghosts}
use Rattle.dom_index.specs.Points.{IsNewPoint}
use Rattle.cut_parts.specs.Standing.{CutsStand, cuts_cost, levels_of}
use Rattle.mvsb_tree.specs.contracts.mv_index.MvIndexDomIndex.TheImpl as line
use Rattle.ba_tree.specs.contracts.key_tree.KeyTreeBorderTree.TheImpl as key
use Rattle.ba_tree.specs.contracts.plane_tree.PlaneTreeBorderTree.TheImpl as plane
use Rattle.ba_tree.specs.Over.{BalancedOver, IsDamagedForAdd, IsDamagedForSum, MayBecome, MayChange, StandsOver, pages_over, tree_growth}

pub is_three : (dims : ℕ) → 1 ≤ dims → dims ≤ 3 → dims ≢ 1 → dims ≢ 2 → dims ≡ 3
is_three dims some few not_one not_two = omega (arith, some, few, not_one, not_two)

-- What a sum calls damaged over so many dimensions, it does over as many.
pub damaged_at : (pages : PageMap) (dims as_many : ℕ) (tree : Tree) (keys : List ℕ) (version page : ℕ) → dims ≡ as_many
    → IsDamagedForSum line.ghosts key.ghosts plane.ghosts pages dims tree keys version page
    → IsDamagedForSum line.ghosts key.ghosts plane.ghosts pages as_many tree keys version page
damaged_at pages dims as_many tree keys version page same damaged =
    subst (λ (n : ℕ). IsDamagedForSum line.ghosts key.ghosts plane.ghosts pages n tree keys version page) same damaged

pub stands_at : (pages : PageMap) (dims as_many : ℕ) (tree : Tree) (points : List Point) → dims ≡ as_many
    → StandsOver line.ghosts key.ghosts plane.ghosts pages dims tree points → StandsOver line.ghosts key.ghosts plane.ghosts pages as_many tree points
stands_at pages dims as_many tree points same stands =
    subst (λ (n : ℕ). StandsOver line.ghosts key.ghosts plane.ghosts pages n tree points) same stands

pub balanced_at : (pages : PageMap) (dims as_many : ℕ) (tree : Tree) → dims ≡ as_many
    → BalancedOver line.ghosts key.ghosts plane.ghosts pages dims tree → BalancedOver line.ghosts key.ghosts plane.ghosts pages as_many tree
balanced_at pages dims as_many tree same balanced =
    subst (λ (n : ℕ). BalancedOver line.ghosts key.ghosts plane.ghosts pages n tree) same balanced

-- The gets of a tree over three dimensions, which counts its points.
pub gets_in_space : (dims old new : ℕ) (pages : PageMap) (tree : Tree) (points : List Point) → dims ≡ 3 → CutsStand plane.ghosts pages tree points
    → new ≤ old + cuts_cost plane.ghosts (length points) → new ≤ old + query_pages dims tree.count
gets_in_space dims old new pages tree points three stands few =
    subst (λ (n : ℕ). new ≤ old + query_pages n tree.count) (sym three) (subst (λ (n : ℕ). new ≤ old + cuts_cost plane.ghosts n) (sym stands.count) few)

pub new_at : (dims as_many : ℕ) (points : List Point) (point : Point) → dims ≡ as_many → IsNewPoint dims points point → IsNewPoint as_many points point
new_at dims as_many points point same new = subst (λ (n : ℕ). IsNewPoint n points point) same new

-- What an addition calls damaged over so many dimensions, it does over as many.
pub add_damaged_at : {X : Type 0} (pages : PageMap) (dims as_many : ℕ) (tree : Tree) (point : Point) (page : ℕ) → dims ≡ as_many
    → IsDamagedForAdd line.ghosts key.ghosts plane.ghosts pages as_many tree point page ⊎ X
    → IsDamagedForAdd line.ghosts key.ghosts plane.ghosts pages dims tree point page ⊎ X
add_damaged_at pages dims as_many tree point page same damaged =
    elim damaged [
      | inl here ↦ inl (subst (λ (n : ℕ). IsDamagedForAdd line.ghosts key.ghosts plane.ghosts pages n tree point page) (sym same) here)
      | inr other ↦ inr other
    ]

-- What an addition may change over so many dimensions, it may over as many.
pub change_at : (pages : PageMap) (dims as_many : ℕ) (tree : Tree) (point : Point) (page : ℕ) → dims ≡ as_many
    → MayChange line.ghosts key.ghosts plane.ghosts pages as_many tree point page → MayChange line.ghosts key.ghosts plane.ghosts pages dims tree point page
change_at pages dims as_many tree point page same may =
    subst (λ (n : ℕ). MayChange line.ghosts key.ghosts plane.ghosts pages n tree point page) (sym same) may

-- What an addition over so many dimensions may make of a tree, it may over as many.
pub becomes_at : (pages : PageMap) (dims as_many : ℕ) (tree : Tree) (point : Point) (new : Tree) → dims ≡ as_many
    → MayBecome line.ghosts key.ghosts plane.ghosts pages as_many tree point new → MayBecome line.ghosts key.ghosts plane.ghosts pages dims tree point new
becomes_at pages dims as_many tree point new same becomes =
    subst (λ (n : ℕ). MayBecome line.ghosts key.ghosts plane.ghosts pages n tree point new) (sym same) becomes

pub pages_at : (before after : PageMap) (dims as_many : ℕ) (tree grown : Tree) → dims ≡ as_many
    → Replaces (pages_over line.ghosts key.ghosts plane.ghosts before as_many tree) (pages_over line.ghosts key.ghosts plane.ghosts after as_many grown) before after
    → Replaces (pages_over line.ghosts key.ghosts plane.ghosts before dims tree) (pages_over line.ghosts key.ghosts plane.ghosts after dims grown) before after
pages_at before after dims as_many tree grown same change =
    subst (λ (n : ℕ). Replaces (pages_over line.ghosts key.ghosts plane.ghosts before n tree) (pages_over line.ghosts key.ghosts plane.ghosts after n grown) before after) (sym same) change

-- The levels of a tree of cuts.
one_level : (n : ℕ) → suc n ≤ 64 → levels_of (suc n) ≡ 1
one_level n few = rw (eqb-suc-zero n, le-leb (suc n) 64 few) refl

two_levels : (n : ℕ) → 64 < suc n → levels_of (suc n) ≡ 2
two_levels n many = rw (eqb-suc-zero n, lt-leb (suc n) 64 many) refl

-- Those of one that had room for a point more.
room_few : (n levels count : ℕ) → levels ≡ levels_of n → count ≡ n → ((levels ≡ 0) ⊎ ((levels ≡ 1) × (count < 64))) → n < 64
room_few zero levels count is_levels is_count room = omega arith
room_few (suc n) levels count is_levels is_count room = elim room [
  | inl none ↦ elim (cases_lt 64 (suc n)) [
    | inl many ↦ let two = two_levels n many in absurd (omega (arith, none, is_levels, two))
    | inr few ↦ let one = one_level n few in absurd (omega (arith, none, is_levels, one))
  ]
  | inr one ↦ let few = one.1 in omega (arith, is_count, few)
]

pub low_after : (n before after count : ℕ) → before ≡ levels_of n → count ≡ n → after ≡ levels_of (suc n) → ((before ≡ 0) ⊎ ((before ≡ 1) × (count < 64))) → after ≡ 1
low_after n before after count is_before is_count is_after room =
    let few = room_few n before count is_before is_count room in
    is_after ∙ one_level n (omega (arith, few))

-- How many page numbers an addition to a tree of cuts gives out, by its levels and its number of points.
growth_of_leaf : (dims count : ℕ) → 2 ≤ dims → tree_growth dims 1 count ≡ (if nat_lt count 64 then 0 else added_pages dims count)
growth_of_leaf dims count two = rw (lt-leb dims 1 two) refl

growth_of_cuts : (dims count : ℕ) → 2 ≤ dims → tree_growth dims 2 count ≡ added_pages dims count
growth_of_cuts dims count two = rw (lt-leb dims 1 two) refl

growth_of_none : (dims : ℕ) → 2 ≤ dims → tree_growth dims 0 0 ≡ 1
growth_of_none dims two = rw (lt-leb dims 1 two) refl

few_grow : (dims n : ℕ) → 2 ≤ dims → n < 64 → tree_growth dims (levels_of n) n ≡ 1 - n
few_grow dims zero two few = growth_of_none dims two
few_grow dims (suc n) two few =
    let none : 0 ≡ 1 - suc n = omega arith in
    ap (λ (l : ℕ). tree_growth dims l (suc n)) (one_level n (omega (arith, few))) ∙ growth_of_leaf dims (suc n) two
    ∙ ap (λ (b : Bool). if b then 0 else added_pages dims (suc n)) (lt-ltb (suc n) 64 few) ∙ none

many_grow : (dims n : ℕ) → 2 ≤ dims → 64 ≤ n → tree_growth dims (levels_of n) n ≡ added_pages dims n
many_grow dims zero two many = absurd (omega (arith, many))
many_grow dims (suc n) two many = elim (cases_lt 64 (suc n)) [
  | inl more ↦ ap (λ (l : ℕ). tree_growth dims l (suc n)) (two_levels n more) ∙ growth_of_cuts dims (suc n) two
  | inr full ↦
      ap (λ (l : ℕ). tree_growth dims l (suc n)) (one_level n full) ∙ growth_of_leaf dims (suc n) two
      ∙ ap (λ (b : Bool). if b then 0 else added_pages dims (suc n)) (le-ltb (suc n) 64 many)
]

pub growth_over : {P T : Type 0} (g : Ghosts P) (dims n most levels count : ℕ) (old new : P) (result : Result T StageFault) → 2 ≤ dims → levels ≡ levels_of n
    → count ≡ n → most ≡ added_pages dims n → Changes g most old new result → (n < 64 → Changes g (1 - n) old new result)
    → Changes g (tree_growth dims levels count) old new result
growth_over g dims n most levels count old new result two is_levels is_count is_most most_of few_of =
    subst (λ (l : ℕ). Changes g (tree_growth dims l count) old new result) (sym is_levels)
    (subst (λ (k : ℕ). Changes g (tree_growth dims (levels_of n) k) old new result) (sym is_count)
    (elim (cases_lt n 64) [
      | inl few ↦ subst (λ (m : ℕ). Changes g m old new result) (sym (few_grow dims n two few)) (few_of few)
      | inr many ↦ subst (λ (m : ℕ). Changes g m old new result) (is_most ∙ sym (many_grow dims n two many)) most_of
    ]))
