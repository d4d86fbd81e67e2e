-- How many pages a value gets.
use Rattle.std.proofs.Common.{◌≡◌, ℕ, ◌<◌, ◌≤◌, ◌^◌, inl, inr, List, length, lit≤, refl, subst, sym, arith}
use Rattle.bw_types.specs.Digits.{digit_count}
use Rattle.bw_types.specs.DigitLaws.{digits_are_few, digits_grow}
use Rattle.bw_types.specs.declared.point.Point.{Point}
use Rattle.bw_types.specs.declared.tree.Tree.{Tree}
use Rattle.ports.specs.Pages.{PageMap}
use Rattle.mvsb_tree.specs.declared.place.Place.{Place}
use Rattle.mvsb_tree.specs.Damage.{root_place}
use Rattle.mvsb_tree.specs.Stands.{IsBalanced, MvStands, RootStands}
use Rattle.mvsb_tree.specs.Steps.{node_pages, root_at, root_level}

-- A balanced tree's directory has no more levels than the count has digits in base 32.
pub directory_cost : (pages : PageMap) (tree : Tree) → IsBalanced pages tree → tree.levels ≤ digit_count 32 tree.count
directory_cost pages tree b =
    let more : digit_count 32 tree.changes ≤ digit_count 32 tree.count = digits_grow 32 tree.changes tree.count (omega arith) b.changes in
    let levels : tree.levels ≤ digit_count 32 tree.changes = b.directory in
    omega (arith, more, levels)

named : (pages : PageMap) (nodes : List ℕ) (root key version : ℕ) → RootStands pages nodes root version key → root < 2 ^ 64
named pages nodes root key version (inl none) = omega (arith, none)
named pages nodes root key version (inr s) = s.0

-- A root that stands is the number of a page.
pub root_named : (pages : PageMap) (tree : Tree) (points : List Point) (version : ℕ) → MvStands pages tree points → version < 2 ^ 32 → root_at pages tree version < 2 ^ 64
root_named pages tree points version s fits = named pages (node_pages pages tree) (root_at pages tree version) 0 version (s.nodes 0 version (omega arith) fits)

pub root_place_same : (place : Place) (key version : ℕ) → place ≡ root_place key version → place ≡ root_place place.key place.version
root_place_same place key version e = subst (λ (q : Place). q ≡ root_place q.key q.version) (sym e) refl

small_24 : (n : ℕ) → n < 2 ^ 31 → n < 24 ^ 7
small_24 n h = omega (arith, h)

small_32 : (n : ℕ) → n < 2 ^ 31 → n < 32 ^ 7
small_32 n h = omega (arith, h)

-- No root of a balanced tree of fewer than 2^31 points has more than 7 levels.
pub low_root : (pages : PageMap) (tree : Tree) (points : List Point) (version : ℕ) → MvStands pages tree points → length points < 2 ^ 31 → IsBalanced pages tree → version < 2 ^ 32
    → root_level pages (root_at pages tree version) ≤ 7
low_root pages tree points version s few b fits =
    let digits = digits_are_few 24 7 tree.count (lit≤ tt) (small_24 tree.count (omega (arith, s.count, few))) in
    omega (arith, digits, b.roots version fits)

-- So it is in a map that is as it was.
pub low_moved : (pages later : PageMap) (tree : Tree) (points : List Point) (version root : ℕ) → MvStands pages tree points → length points < 2 ^ 31 → IsBalanced pages tree → version < 2 ^ 32
    → later ≡ pages → root ≡ root_at pages tree version → root_level later root ≤ 7
low_moved pages later tree points version root s few b fits same is =
    subst (λ (m : PageMap). root_level m root ≤ 7) (sym same) (subst (λ (r : ℕ). root_level pages r ≤ 7) (sym is) (low_root pages tree points version s few b fits))

-- Nor has its directory.
pub low_directory : (pages : PageMap) (tree : Tree) (points : List Point) → MvStands pages tree points → length points < 2 ^ 31 → IsBalanced pages tree → tree.levels ≤ 7
low_directory pages tree points s few b =
    let digits = digits_are_few 32 7 tree.count (lit≤ tt) (small_32 tree.count (omega (arith, s.count, few))) in
    omega (arith, digits, directory_cost pages tree b)
