-- Points added to a tree one after another.
use Rattle.std.proofs.Common.{◌≡◌, ℕ, zero, suc, true, ◌+◌, ◌-◌, ◌<◌, ◌≤◌, ◌^◌, ◌&&◌, nat_le, nat_lt, inl, inr, IsTrue, IsSome, List, [], ◌∷◌, length, get_or, drop, refl, sym, ap, ◌∙◌, subst, arith}
use Rattle.std.proofs.Math.Seq.{drop-cons}
use Rattle.std.proofs.lemmas.Bool.{and_parts, cases_Bool, cases_eq, cases_lt, eq-eqb, leb-true, le-leb, lt-ltb, ltb-true, ne_eqb}
use Rattle.std.proofs.lemmas.List.{drop_all}
use Rattle.bw_types.specs.Depths.{added_pages}
use Rattle.bw_types.specs.declared.point.Point.{Point}
use Rattle.bw_types.specs.declared.tree.Tree.{Tree}
use Rattle.ports.specs.Pages.{PageMap}
use Rattle.ports.specs.Frame.{Replaces}
use Rattle.ports.specs.FrameLaws.{Replaces-then, Replaces-same}
use Rattle.dom_index.specs.Adding.{AreNewInTurn, TreeTakes, with_points}
use Rattle.dom_index.specs.AddingDamage.{AdditionsMayLeave, IsDamagedForPoints, MayLeave}
use Rattle.dom_index.specs.Growth.{TakesMore, stays_one_page, step_growth, sum_below, tree_growth}
use Rattle.dom_index.specs.Points.{HasRoom, IsNewPoint}
use Rattle.dom_index.specs.declared.index.DomIndex.{Ghosts}

-- what stands at a place outside of a list of points
abbrev pub none_point : Point
none_point = record { keys = []; version = 0; weight = 0 }

-- the point that comes next
pub point_next : (points : List Point) (i : ℕ) → i < length points → drop i points ≡ get_or points i none_point ∷ drop (i + 1) points
point_next points i lt =
    let more : suc i ≡ i + 1 = omega arith in
    drop-cons points i none_point lt ∙ ap (λ (m : ℕ). get_or points i none_point ∷ drop m points) more

-- So many levels a tree has behind so many additions: while it stays one page, one behind the first.
pub record IsNear (dims levels earlier : ℕ) (tree : Tree) : Type 0 where
  pub first : earlier ≡ 0 → levels ≡ tree.levels
  pub one : 2 ≤ dims → tree.levels ≤ 1 → tree.count + earlier ≤ 64 → (levels ≤ 1) × (1 ≤ earlier → levels ≡ 1)

-- The first i points are added: what the tree keeps now, and what is to come.
pub record TakenSoFar {X : Type 0} (g : Ghosts X) (dims : ℕ) (before now : PageMap) (old grown : Tree) (points kept : List Point) (i : ℕ) : Type 0 where
  pub held : List Point
  pub stands : g.stands now dims grown held
  pub new : AreNewInTurn dims held (drop i points)
  pub all : with_points (drop i points) held ≡ with_points points kept
  pub count : grown.count ≡ old.count + i
  pub near : IsNear dims grown.levels i old
  pub change : Replaces (g.footprint before dims old) (g.footprint now dims grown) before now
  pub balanced : g.balanced before dims old → g.balanced now dims grown

pub has_room : (tree : Tree) → tree.levels ≤ 1 → tree.count < 64 → HasRoom tree
has_room tree le few = elim (cases_lt tree.levels 1) [
  | inl none ↦ inl (omega (arith, none))
  | inr one ↦ inr (omega (arith, one, le), few)
]

-- behind one addition more
near_next : (dims earlier : ℕ) (tree now next : Tree) → now.count ≡ tree.count + earlier → IsNear dims now.levels earlier tree
    → (2 ≤ dims → HasRoom now → next.levels ≡ 1) → IsNear dims next.levels (earlier + 1) tree
near_next dims earlier tree now next count near low = record {
  first = λ none. absurd (omega (arith, none));
  one = λ two flat few.
      let at = near.one two flat (omega (arith, few)) in
      let one = low two (has_room now at.0 (omega (arith, count, few))) in
      (omega (arith, one), λ some. one);
}

module _ {X : Type 0} (g : Ghosts X)
    (counted : (pages : PageMap) (dims : ℕ) (tree : Tree) (points : List Point) → g.stands pages dims tree points → (tree.count ≡ length points) × (length points ≤ 2 ^ 31) × (tree.levels ≡ 0 → points ≡ [])) where
  pub taken_first : (dims : ℕ) (m : PageMap) (t : Tree) (points kept : List Point) → g.stands m dims t kept → AreNewInTurn dims kept points
      → TakenSoFar g dims m m t t points kept 0
  taken_first dims m t points kept stands new = record {
    held = kept;
    stands = stands;
    new = new;
    all = refl;
    count = omega arith;
    near = record { first = λ none. refl; one = λ two flat few. (flat, λ some. absurd (omega (arith, some))) };
    change = Replaces-same (g.footprint m dims t) m;
    balanced = λ b. b;
  }

  pub taken_next : (dims i : ℕ) (m0 m1 m2 : PageMap) (t0 t1 t2 : Tree) (points kept : List Point) → i < length points
      → TakenSoFar g dims m0 m1 t0 t1 points kept i
      → ((held : List Point) → g.stands m1 dims t1 held → IsNewPoint dims held (get_or points i none_point) → TreeTakes g dims m1 m2 t1 t2 (get_or points i none_point ∷ []) held)
      → ((held : List Point) → g.stands m1 dims t1 held → IsNewPoint dims held (get_or points i none_point) → 2 ≤ dims → HasRoom t1 → t2.levels ≡ 1)
      → TakenSoFar g dims m0 m2 t0 t2 points kept (i + 1)
  taken_next dims i m0 m1 m2 t0 t1 t2 points kept lt f takes low =
      let p = get_or points i none_point in
      let at = point_next points i lt in
      let new = subst (λ (l : List Point). AreNewInTurn dims f.held l) at f.new in
      let taken = takes f.held f.stands new.0 in
      let before = (counted m1 dims t1 f.held f.stands).0 in
      let after = (counted m2 dims t2 (p ∷ f.held) taken.stands).0 in
      let so_far = f.count in
      record {
        held = p ∷ f.held;
        stands = taken.stands;
        new = new.1;
        all = subst (λ (l : List Point). with_points l f.held ≡ with_points points kept) at f.all;
        count = omega (arith, before, after, so_far);
        near = near_next dims i t0 t1 t2 f.count f.near (λ two room. low f.held f.stands new.0 two room);
        change = Replaces-then (g.footprint m0 dims t0) (g.footprint m1 dims t1) (g.footprint m2 dims t2) m0 m1 m2 f.change taken.change;
        balanced = λ b. taken.balanced (f.balanced b);
      }

  -- the point that comes next is new
  pub new_next : (dims i : ℕ) (m0 m1 : PageMap) (t0 t1 : Tree) (points kept : List Point) → i < length points
      → (f : TakenSoFar g dims m0 m1 t0 t1 points kept i) → IsNewPoint dims f.held (get_or points i none_point)
  new_next dims i m0 m1 t0 t1 points kept lt f = (subst (λ (l : List Point). AreNewInTurn dims f.held l) (point_next points i lt) f.new).0

  pub taken_all : (dims i : ℕ) (m0 m1 : PageMap) (t0 t1 : Tree) (points kept : List Point) → length points ≤ i
      → TakenSoFar g dims m0 m1 t0 t1 points kept i → TreeTakes g dims m0 m1 t0 t1 points kept
  taken_all dims i m0 m1 t0 t1 points kept le f =
      let held : f.held ≡ with_points points kept = subst (λ (l : List Point). with_points l f.held ≡ with_points points kept) (drop_all i points le) f.all in
      record {
        stands = subst (λ (l : List Point). g.stands m1 dims t1 l) held f.stands;
        change = f.change;
        balanced = f.balanced;
      }

module _ {X : Type 0} (g : Ghosts X) where
  -- an addition to a tree of one page at most makes its first page, or none
  first_within : (dims levels count : ℕ) → ((dims count : ℕ) → 2 ≤ dims → dims ≤ g.DIMS → g.growth dims 0 count ≤ 1)
      → ((dims count : ℕ) → 2 ≤ dims → dims ≤ g.DIMS → count < 64 → g.growth dims 1 count ≡ 0)
      → 2 ≤ dims → dims ≤ g.DIMS → levels ≤ 1 → count < 64 → levels + g.growth dims levels count ≤ 1
  first_within dims levels count first room two most le few = elim (cases_lt levels 1) [
    | inl none ↦
        let is : levels ≡ 0 = omega (arith, none) in
        let part : g.growth dims levels count ≤ 1 = subst (λ (l : ℕ). g.growth dims l count ≤ 1) (sym is) (first dims count two most) in
        omega (arith, is, part)
    | inr one ↦
        let is : levels ≡ 1 = omega (arith, one, le) in
        let part : g.growth dims levels count ≡ 0 = subst (λ (l : ℕ). g.growth dims l count ≡ 0) (sym is) (room dims count two most few) in
        omega (arith, is, part)
  ]

  -- an addition behind others gives out what is said of it
  pub step_within : (dims levels count earlier : ℕ) (tree : Tree) → ((dims count : ℕ) → 2 ≤ dims → dims ≤ g.DIMS → g.growth dims 0 count ≤ 1)
      → ((dims count : ℕ) → 2 ≤ dims → dims ≤ g.DIMS → count < 64 → g.growth dims 1 count ≡ 0) → g.growth dims levels count ≤ added_pages dims count
      → dims ≤ g.DIMS → count ≡ tree.count + earlier → IsNear dims levels earlier tree → g.growth dims levels count ≤ step_growth dims tree earlier
  step_within dims levels count earlier tree first room law most is near = elim (cases_Bool (stays_one_page dims tree earlier)) [
    | inl stays ↦
        let two = and_parts (nat_le 2 dims) (nat_le tree.levels 1 && nat_lt (tree.count + earlier) 64) stays in
        let both = and_parts (nat_le tree.levels 1) (nat_lt (tree.count + earlier) 64) two.1 in
        let many : 2 ≤ dims = leb-true 2 dims two.0 in
        let few : tree.count + earlier < 64 = ltb-true (tree.count + earlier) 64 both.1 in
        let low : tree.levels ≤ 1 = leb-true tree.levels 1 both.0 in
        let at = near.one many low (omega (arith, few)) in
        let at_first = near.first in
        let at_one = at.1 in
        let within = first_within dims levels count first room many most at.0 (omega (arith, is, few)) in
        rw stays (elim (cases_eq earlier 0) [
          | inl none ↦ let same : levels ≡ tree.levels = at_first none in rw (eq-eqb earlier 0 none) (omega (arith, within, same))
          | inr some ↦ let one : levels ≡ 1 = at_one (omega (arith, some)) in rw (ne_eqb earlier 0 some) (omega (arith, within, one))
        ])
    | inr grows ↦ rw grows (subst (λ (n : ℕ). g.growth dims levels count ≤ added_pages dims n) is law)
  ]

  -- additions of what is to come lead on from the next point
  pub leaves_next : (dims i : ℕ) (m1 m2 after : PageMap) (t1 t2 new : Tree) (points : List Point) → i < length points → MayLeave g dims m1 t1 (get_or points i none_point) m2 t2
      → AdditionsMayLeave g dims (drop (i + 1) points) m2 t2 after new → AdditionsMayLeave g dims (drop i points) m1 t1 after new
  leaves_next dims i m1 m2 after t1 t2 new points lt one rest =
      subst (λ (l : List Point). AdditionsMayLeave g dims l m1 t1 after new) (sym (point_next points i lt)) (m2, t2, one, rest)

  pub leaves_all : (dims i : ℕ) (m : PageMap) (t : Tree) (points : List Point) → length points ≤ i → AdditionsMayLeave g dims (drop i points) m t m t
  leaves_all dims i m t points le = subst (λ (l : List Point). AdditionsMayLeave g dims l m t m t) (sym (drop_all i points le)) (refl, refl)

  pub damaged_next : (dims i : ℕ) (m1 m2 : PageMap) (t1 t2 : Tree) (page : ℕ) (points : List Point) → i < length points → MayLeave g dims m1 t1 (get_or points i none_point) m2 t2
      → IsDamagedForPoints g dims (drop (i + 1) points) m2 t2 page → IsDamagedForPoints g dims (drop i points) m1 t1 page
  damaged_next dims i m1 m2 t1 t2 page points lt one rest =
      subst (λ (l : List Point). IsDamagedForPoints g dims l m1 t1 page) (sym (point_next points i lt)) (inr (m2, t2, one, rest))

  pub damaged_here : (dims i : ℕ) (m : PageMap) (t : Tree) (page : ℕ) (points : List Point) → i < length points → g.damaged_for_add m dims t (get_or points i none_point) page
      → IsDamagedForPoints g dims (drop i points) m t page
  damaged_here dims i m t page points lt here = subst (λ (l : List Point). IsDamagedForPoints g dims l m t page) (sym (point_next points i lt)) (inl here)

pub sum_next : (f : ℕ → ℕ) (k : ℕ) → sum_below (k + 1) f ≡ sum_below k f + f k
sum_next f k = let more : k + 1 ≡ suc k = omega arith in ap (λ (n : ℕ). sum_below n f) more

pub sum_grows : (f : ℕ → ℕ) (k m : ℕ) → k < m → sum_below k f + f k ≤ sum_below m f
sum_grows f k zero lt = absurd (omega (arith, lt))
sum_grows f k (suc m) lt = elim (cases_lt k m) [
  | inl less ↦ let before = sum_grows f k m less in omega (arith, before)
  | inr more ↦ let same : k ≡ m = omega (arith, lt, more) in rw same (omega arith)
]

-- while a tree stays one page, its additions give out its first page alone
stays_small : (dims : ℕ) (tree : Tree) (k : ℕ) → 2 ≤ dims → tree.levels ≤ 1 → tree.count + k < 64 → stays_one_page dims tree k ≡ true
stays_small dims tree k two low few = rw (le-leb 2 dims two, le-leb tree.levels 1 low, lt-ltb (tree.count + k) 64 few) refl

pub small_growth : (dims : ℕ) (tree : Tree) (n : ℕ) → 2 ≤ dims → TakesMore n tree → tree_growth dims tree n ≤ 1 - tree.levels
small_growth dims tree zero two takes = omega arith
small_growth dims tree (suc zero) two takes =
    let low = takes.0 in
    let fits = takes.1 in
    rw (stays_small dims tree 0 two low (omega (arith, fits))) (omega arith)
small_growth dims tree (suc (suc n)) two takes =
    let low = takes.0 in
    let fits = takes.1 in
    let before = small_growth dims tree (suc n) two (low, omega (arith, fits)) in
    let none : step_growth dims tree (suc n) ≡ 0 = rw (stays_small dims tree (suc n) two low (omega (arith, fits)), ne_eqb (suc n) 0 (λ e. omega (arith, e))) refl in
    omega (arith, before, none)
