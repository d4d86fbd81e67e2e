-- The laws of trees that stand.
use Rattle.sb_tree.proofs.Common.{◌≡◌, ℕ, zero, suc, ◌^◌, List, [], ◌∷◌, length, refl, sym, ◌∙◌, arith, rules, IsPermutation, sum_by-IsPermutation, length_permutation, list_any-IsPermutation, Point, Tree, PageMap, AgreeOn, AreInMap, pages_below, tree_pages, lows_below, total_below, RootStands, SbStands}
use Rattle.sb_tree.proofs.Frames.{same_pages, same_lows, same_total, same_stands, all_there}

pub root_same : (levels : ℕ) (a b : PageMap) (root : ℕ) → RootStands levels a root → AgreeOn (pages_below levels a root) a b → RootStands levels b root
root_same zero a b root s h = s
root_same (suc level) a b root s h = same_stands (suc level) a b root 0 (2 ^ 32) 1 s h

pub root_total : (levels : ℕ) (a b : PageMap) (root v : ℕ) → RootStands levels a root → AgreeOn (pages_below levels a root) a b
    → total_below levels b root v ≡ total_below levels a root v
root_total zero a b root v s h = refl
root_total (suc level) a b root v s h = same_total (suc level) a b root 0 (2 ^ 32) 1 v s (omega arith) h

pub root_there : (levels : ℕ) (a : PageMap) (root : ℕ) → RootStands levels a root → AreInMap a (pages_below levels a root)
root_there zero a root s = λ p named. cc
root_there (suc level) a root s = all_there (suc level) a root 0 (2 ^ 32) 1 s

pub by_its_pages : (pages others : PageMap) (tree : Tree) (points : List Point) → SbStands pages tree points
    → AgreeOn (tree_pages pages tree) pages others → SbStands others tree points × (tree_pages others tree ≡ tree_pages pages tree)
by_its_pages pages others tree points s h =
    let same : tree_pages others tree ≡ tree_pages pages tree = same_pages tree.levels pages others tree.root h in
    let lows : lows_below tree.levels others tree.root ≡ lows_below tree.levels pages tree.root = same_lows tree.levels pages others tree.root h in (
      record {
        count = s.count;
        few = s.few;
        some = s.some;
        changes = s.changes;
        last = s.last;
        nodes = root_same tree.levels pages others tree.root s.nodes h;
        once = rw same s.once;
        lows = search rules;
        values = search (rules, root_total);
      },
      same,
    )

none_left : (xs : List Point) → length xs ≡ 0 → xs ≡ []
none_left [] e = refl
none_left (x ∷ xs) e = absurd (omega (arith, e))

pub any_order : (pages : PageMap) (tree : Tree) (points others : List Point) → SbStands pages tree points → IsPermutation points others → SbStands pages tree others
any_order pages tree points others s p =
    let long : length others ≡ length points = length_permutation points others p in
    record {
      count = s.count ∙ sym long;
      few = omega (arith, long, s.few);
      some = search (rules, none_left);
      changes = s.changes;
      last = s.last;
      nodes = s.nodes;
      once = s.once;
      lows = search (rules, list_any-IsPermutation);
      values = search (rules, sum_by-IsPermutation);
    }
