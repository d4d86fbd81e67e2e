-- A tree of one leaf that takes points in memory.
use Rattle.std.proofs.Common.{◌≡◌, ◌≢◌, ℕ, zero, suc, ◌+◌, ◌%◌, ◌^◌, ◌<◌, ◌≤◌, ◌==◌, ◌||◌, inl, inr, true, false, Bool, IsTrue, List, [], ◌∷◌, ◌++◌, get_or, length, take, Option, Some, None, if◌then◌else◌, refl, sym, ap, ◌∙◌, subst, arith}
use Rattle.std.specs.Prelude.{IsPermutation}
use Rattle.std.specs.List.{All}
use Rattle.std.specs.List.Sorted.{IsNonDecreasingBy}
use Rattle.std.proofs.Math.Path.{fun_ext}
use Rattle.std.proofs.lemmas.Bool.{cases_Bool, cond-false, eq-eqb, eqb-true, ne_eqb}
use Rattle.std.proofs.lemmas.List.{get_or-take, get_or_default, length-take-le, take_more}
use Rattle.std.proofs.lemmas.List.Elements.{All-head}
use Rattle.std.proofs.lemmas.List.Sorted.{All-permutation, IsPermutation-sym, IsPermutation-to_front}
use Rattle.bw_types.specs.Empty.{empty_tree}
use Rattle.bw_types.specs.declared.point.Point.{Point}
use Rattle.bw_types.specs.declared.tree.Tree.{Tree}
use Rattle.ports.specs.Frame.{names_page, Replaces}
use Rattle.ports.specs.FrameLaws.{Replaces-same, Replaces-then}
use Rattle.ports.specs.Pages.{PageMap, put_page}
use Rattle.page_layout.specs.MvNode.{IsMvNode, IsTyped, mv_node_page}
use Rattle.page_layout.specs.declared.mv_node.MvNode.{MvNode}
use Rattle.mv_pages.specs.Alive.{node_value}
use Rattle.mv_pages.specs.Lows.{alive_lows}
use Rattle.sb_tree.specs.Laws as over_versions
use Rattle.sb_tree.specs.Stands as over_versions_stands
use Rattle.mvsb_tree.specs.Built.{IsBuilt, StandsFromLast, TakesPoints, with_count, with_last}
use Rattle.mvsb_tree.specs.Grown.{PastStays}
use Rattle.mvsb_tree.specs.Laws.{StandsInAnyOrder}
use Rattle.mvsb_tree.specs.Led.{Led}
use Rattle.mvsb_tree.specs.Stands.{ChainStands, IsBalanced, MvStands, RootStands, StandsOnWay, ends_after, is_marked, key_of}
use Rattle.mvsb_tree.specs.Steps.{chain_from, directory, node_on, node_pages, place_count, root_at, root_level, tree_pages}
use Rattle.mvsb_tree.specs.Stored.{IsStorable}
use Rattle.mvsb_tree.specs.Tops.{RootAdded}
use Rattle.mvsb_tree.specs.Ways.{LowsCut, added_at}
use Rattle.mvsb_tree.proofs.Assembling.{leaf_added}
use Rattle.mvsb_tree.proofs.Beginning.{begun_by, root_ways}
use Rattle.mvsb_tree.proofs.Counting.{SameLeads}
use Rattle.mvsb_tree.proofs.Joining as joining
use Rattle.mvsb_tree.proofs.Leading.{led_same}
use Rattle.mvsb_tree.proofs.Nodes.{node_on-spelled}
use Rattle.mvsb_tree.proofs.Sound.{root_spelled}
use Rattle.mvsb_tree.proofs.Topping.{any_key, same_top}
use Rattle.mvsb_tree.proofs.Values.{level_of_root}
use Rattle.mvsb_tree.proofs.Whole.{DirectoryAdded, added_stands, marked_own, nodes_hold}

-- A page that is put as it is changes nothing, and of two puts the later one counts.
pub put_same : (m : PageMap) (page : ℕ) (bytes : List ℕ) → m page ≡ Some bytes → put_page m page bytes ≡ m
put_same m page bytes there = fun_ext at
  where
    at : (p : ℕ) → put_page m page bytes p ≡ m p
    at p = elim (cases_Bool (page == p)) [
      | inl same ↦ ap (λ (b : Bool). if b then Some bytes else m p) same ∙ sym there ∙ ap m (eqb-true page p same)
      | inr other ↦ ap (λ (b : Bool). if b then Some bytes else m p) other
    ]

pub put_twice : (m : PageMap) (page : ℕ) (first second : List ℕ) → put_page (put_page m page first) page second ≡ put_page m page second
put_twice m page first second = fun_ext at
  where
    at : (p : ℕ) → put_page (put_page m page first) page second p ≡ put_page m page second p
    at p = by_case (page == p)
      where
        by_case : (b : Bool) → (if b then Some second else (if b then Some first else m p)) ≡ (if b then Some second else m p)
        by_case true = refl
        by_case false = refl

put_there : (m : PageMap) (page : ℕ) (bytes : List ℕ) → put_page m page bytes page ≡ Some bytes
put_there m page bytes = ap (λ (b : Bool). if b then Some bytes else m page) (eq-eqb page page refl)

-- The root that stands is a number of a page.
root_fits : (m : PageMap) (nodes : List ℕ) (root v q : ℕ) → root ≢ 0 → RootStands m nodes root v q → root < 2 ^ 64
root_fits m nodes root v q some (inl none) = absurd (some none)
root_fits m nodes root v q some (inr s) = s.0

-- An addition at the end of the points, which the leaf took in.
module _ (m : PageMap) (tree : Tree) (points : List Point) (p : Point) (old new : MvNode)
    (in_map : over_versions.PagesAreThere) (by_pages : over_versions.StandsByItsPages) (same : SameLeads)
    (s : StandsFromLast m tree points old) (leaf : old.level ≡ 1) (rules : IsMvNode old) (typed : IsTyped old)
    (few : length points < 2 ^ 31) (early : p.version < 4294967295) (key_fits : key_of p < 2 ^ 64) (past : All (λ q. q.version ≤ p.version) points)
    (storable : IsStorable p.version new) (stays : PastStays p.version old new)
    (values : (q : ℕ) → node_value new q p.version ≡ (node_value old q p.version + added_at (key_of p) p.weight q) % 2 ^ 128)
    (tests : (test : ℕ → Bool) → All (λ e. IsTrue (test e.low)) old.entries.items → IsTrue (test (key_of p)) → All (λ e. IsTrue (test e.low)) new.entries.items)
    (cut : (low least : ℕ) (high : Option ℕ) → LowsCut (alive_lows old.entries.items p.version) low high least → low ≤ key_of p → IsTrue (ends_after high (key_of p)) → LowsCut (alive_lows new.entries.items p.version) low high least)
    (new_rules : IsMvNode new) where
  abbrev root : ℕ
  root = tree.last

  abbrev after : PageMap
  after = with_last m tree new

  abbrev more : Tree
  more = with_count tree (tree.count + 1)

  v_fits : p.version < 2 ^ 32
  v_fits = omega (arith, early)

  some : root ≢ 0
  some none = omega (arith, none, s.number)

  root_is : root ≡ root_at m tree p.version
  root_is = sym (s.root p.version past v_fits)

  level_is : root_level m root ≡ old.level
  level_is = level_of_root m root old some typed rules s.there

  abbrev test : ℕ → Bool
  test = is_marked (p ∷ points)

  ways : (q : ℕ) → q < 2 ^ 64 → StandsOnWay old.level m (node_pages m tree) root p.version q 0 None 1
  ways q fits = subst (λ (l : ℕ). StandsOnWay l m (node_pages m tree) root p.version q 0 None 1) level_is (root_ways m tree points p.version root s.stands past s.levels early root_is q fits)

  took : RootAdded test m after root root p.version (key_of p) p.weight (place_count m tree) tree.last tree.last
  took =
      same_top old.level test m after root p.version (key_of p) p.weight (place_count m tree) tree.last tree.last level_is some
      (leaf_added m after root old new p.version (key_of p) p.weight 0 None tree.last tree.last None leaf rules typed s.there storable stays values tests cut (any_key (key_of p) key_fits)
      (new_rules.few, refl, refl, new_rules) test (place_count m tree) 1 (marked_own points p (key_of p) refl) s.stands.chain (nodes_hold m tree points p p.version s.stands past) (λ q inside. ways q inside.fits))

  led : (changes : List Point) → over_versions_stands.SbStands after (directory tree) changes → Led after after (directory tree) (directory tree) changes p.version root root
  led changes st = led_same after (directory tree) changes p.version root root st refl

  no_root : tree.levels ≡ 0 → root ≡ 0
  no_root none = absurd (s.levels none)

  d : DirectoryAdded m after tree more (p ∷ points) p.version root
  d = joining.directory_added m after after tree more points p (key_of p) p.version p.weight root root tree.last s.stands in_map by_pages past refl v_fits root_is s.number took (directory tree) led refl refl no_root

  pub last_takes : StandsFromLast (with_last m tree new) (with_count tree (tree.count + 1)) (p ∷ points) new
      × Replaces (tree_pages m tree) (tree_pages (with_last m tree new) (with_count tree (tree.count + 1))) m (with_last m tree new)
  last_takes =
      let chain = joining.chain_stands2 m after after tree more points p (key_of p) p.version p.weight root root tree.last s.stands in_map by_pages past refl v_fits root_is s.number took (directory tree) led refl refl no_root in
      let a = joining.nodes_added m after after tree more points p (key_of p) p.version p.weight root root tree.last s.stands in_map by_pages past refl v_fits root_is s.number took (directory tree) led refl refl no_root in
      let places = joining.some_places m after after tree more points p (key_of p) p.version p.weight root root tree.last s.stands in_map by_pages past refl v_fits root_is s.number took (directory tree) led refl refl no_root in
      let once = joining.once_whole m after after tree more points p (key_of p) p.version p.weight root root tree.last s.stands in_map by_pages past refl v_fits root_is s.number took (directory tree) led refl refl no_root in
      let change = joining.change_whole m after after tree more points p (key_of p) p.version p.weight root root tree.last s.stands in_map by_pages past refl v_fits root_is s.number took (directory tree) led refl refl no_root in
      let balanced = joining.balanced_whole m after after tree more points p (key_of p) p.version p.weight root root tree.last s.stands in_map by_pages past refl v_fits root_is s.number took (directory tree) led refl refl no_root
      same s.balanced s.balanced.directory refl (omega arith) in
      let fits = root_fits m (node_pages m tree) root p.version 0 some (subst (λ (r : ℕ). RootStands m (node_pages m tree) r p.version 0) (sym root_is) (s.stands.nodes 0 p.version (omega arith) v_fits)) in
      let stands = added_stands m after tree more points p (key_of p) p.version p.weight root s.stands few early past refl refl refl d some fits chain a refl s.levels places once in (
        record {
          number = s.number;
          levels = s.levels;
          there = put_there m root (mv_node_page new);
          stands = stands;
          balanced = balanced;
          root = λ w none_later w_fits. d.late w (All-head (λ (q : Point). q.version ≤ w) p points none_later) w_fits;
        },
        change,
      )

-- The order of the points does not count.
pub last_in_any_order : StandsInAnyOrder → (m : PageMap) (tree : Tree) (points others : List Point) (leaf : MvNode) → IsPermutation points others → StandsFromLast m tree points leaf → StandsFromLast m tree others leaf
last_in_any_order any m tree points others leaf moved s = record {
  number = s.number;
  levels = s.levels;
  there = s.there;
  stands = any m tree points others s.stands moved;
  balanced = s.balanced;
  root = λ w all fits. s.root w (All-permutation (λ (q : Point). q.version ≤ w) others points (IsPermutation-sym points others moved) all) fits;
}

-- A tree that stands for points, the page of whose last place holds a leaf of the first place, stands with that leaf.
pub only_leaf : (m : PageMap) (tree : Tree) (points : List Point) (leaf : MvNode) → MvStands m tree points → IsBalanced m tree → (points ≡ [] → ⊥) → 3 ≤ tree.last → m tree.last ≡ Some (mv_node_page leaf)
    → IsTyped leaf → IsMvNode leaf → leaf.place ≡ 1 → StandsFromLast m tree points leaf
only_leaf m tree points leaf s balanced some number there typed rules first =
    let levels : tree.levels ≢ 0 = λ none. some (s.some none) in
    let is : node_on m tree.last ≡ leaf = node_on-spelled m tree.last leaf typed rules there in
    let places : place_count m tree ≡ 1 = cond-false (tree.levels == 0) 0 (node_on m tree.last).place (ne_eqb tree.levels 0 levels) ∙ ap (λ (n : MvNode). n.place) is ∙ first in
    record {
      number = number;
      levels = levels;
      there = there;
      stands = s;
      balanced = balanced;
      root = λ w all fits. only places (root_at m tree w) w (s.rooted w fits (begun_by points w some all)) (s.nodes 0 w (omega arith) fits);
    }
  where
    only : place_count m tree ≡ 1 → (root w : ℕ) → root ≢ 0 → RootStands m (node_pages m tree) root w 0 → root ≡ tree.last
    only places root w other (inl none) = absurd (other none)
    only places root w other (inr st) =
        let listed = (root_spelled (root_level m root) m (node_pages m tree) root w 0 0 None 1 st.1).listed in
        let among : names_page (tree.last ∷ []) root ≡ true = subst (λ (n : ℕ). names_page (chain_from n m tree.last) root ≡ true) places listed in
        sym (eqb-true tree.last root (last_one (tree.last == root) among))
      where
        last_one : (b : Bool) → (b || false) ≡ true → b ≡ true
        last_one true h = refl
        last_one false h = h

-- A point without keys, which stands past the end of a list.
abbrev pub no_point : Point
no_point = record { keys = []; version = 0; weight = 0 }

-- Fewer than 2^31 points are taken before one of them, and none is later than it.
pub few_taken : (points : List Point) (i : ℕ) → length points ≤ 2 ^ 31 → i < length points → length (take i points) < 2 ^ 31
few_taken points i few lt = omega (arith, few, lt, length-take-le i points (omega (arith, lt)))

pub none_later : (points : List Point) (i : ℕ) (d : Point) → i < length points → IsNonDecreasingBy (λ p. p.version) points
    → All (λ q. q.version ≤ (get_or points i d).version) (take i points)
none_later points i d lt up = λ k e less.
    let long = length-take-le i points (omega (arith, lt)) in
    let before : k < i = omega (arith, less, long) in
    subst (λ (q : Point). q.version ≤ (get_or points i d).version) (sym (get_or-take i points k e before))
    (subst (λ (q : Point). (get_or points k e).version ≤ q.version) (get_or_default points i e d lt) (up k i e (omega (arith, before)) lt))

-- One point more, the first of which a list is told, may stand behind the others.
pub in_front : (points : List Point) (i : ℕ) (d : Point) → i < length points → IsPermutation (get_or points i d ∷ take i points) (take (i + 1) points)
in_front points i d lt =
    let front : IsPermutation (take i points ++ (get_or points i d ∷ [])) (get_or points i d ∷ take i points) = IsPermutation-to_front (take i points) (get_or points i d) in
    subst (λ (ps : List Point). IsPermutation (get_or points i d ∷ take i points) ps) (sym (take_more points i d lt)) (IsPermutation-sym _ _ front)

-- At first the leaf has taken no more points than one.
pub takes_none : (points : List Point) (leaf : MvNode) → 1 ≤ length points → TakesPoints (take 1 points) (take 1 points) 1 leaf leaf
takes_none points leaf some map tree s =
    let same : with_last map tree leaf ≡ map = put_same map tree.last (mv_node_page leaf) s.there in
    let one : tree.count ≡ 1 = omega (arith, s.stands.count, length-take-le 1 points some) in
    let is : with_count tree 1 ≡ tree = λ i. record { root = tree.root; levels = tree.levels; count = sym one i; changes = tree.changes; last = tree.last } in
    subst (λ (m : PageMap). StandsFromLast m (with_count tree 1) (take 1 points) leaf × Replaces (tree_pages map tree) (tree_pages m (with_count tree 1)) map m) (sym same)
    (subst (λ (t : Tree). StandsFromLast map t (take 1 points) leaf × Replaces (tree_pages map tree) (tree_pages map t) map map) (sym is) (s, Replaces-same (tree_pages map tree) map))

-- Then it takes one more, in what it is when it took the ones before.
pub takes_more : (points : List Point) (i : ℕ) (first old new : MvNode) → over_versions.PagesAreThere → over_versions.StandsByItsPages → SameLeads → StandsInAnyOrder
    → i < length points → old.level ≡ 1 → IsMvNode old → IsTyped old → length points ≤ 2 ^ 31 → (get_or points i no_point).version < 4294967295 → key_of (get_or points i no_point) < 2 ^ 64
    → All (λ q. q.version ≤ (get_or points i no_point).version) (take i points)
    → IsStorable (get_or points i no_point).version new → PastStays (get_or points i no_point).version old new
    → ((q : ℕ) → node_value new q (get_or points i no_point).version ≡ (node_value old q (get_or points i no_point).version + added_at (key_of (get_or points i no_point)) (get_or points i no_point).weight q) % 2 ^ 128)
    → ((test : ℕ → Bool) → All (λ e. IsTrue (test e.low)) old.entries.items → IsTrue (test (key_of (get_or points i no_point))) → All (λ e. IsTrue (test e.low)) new.entries.items)
    → ((low least : ℕ) (high : Option ℕ) → LowsCut (alive_lows old.entries.items (get_or points i no_point).version) low high least → low ≤ key_of (get_or points i no_point) → IsTrue (ends_after high (key_of (get_or points i no_point)))
    → LowsCut (alive_lows new.entries.items (get_or points i no_point).version) low high least)
    → IsMvNode new → TakesPoints (take 1 points) (take i points) i first old → TakesPoints (take 1 points) (take (i + 1) points) (i + 1) first new
takes_more points i first old new in_map by_pages same any lt leaf rules typed few early key_fits past storable stays values tests cut new_rules so map tree s =
    let before = so map tree s in
    let m : PageMap = with_last map tree old in
    let t : Tree = with_count tree i in
    let p : Point = get_or points i no_point in
    let step = last_takes m t (take i points) p old new in_map by_pages same before.0 leaf rules typed (few_taken points i few lt) early key_fits past storable stays values tests cut new_rules in
    let moved = last_in_any_order any (with_last m t new) (with_count t (i + 1)) (p ∷ take i points) (take (i + 1) points) new (in_front points i no_point lt) step.0 in
    let twice : with_last m t new ≡ with_last map tree new = put_twice map tree.last (mv_node_page old) (mv_node_page new) in
    let T : Tree = with_count tree (i + 1) in
    subst (λ (x : PageMap). StandsFromLast x T (take (i + 1) points) new × Replaces (tree_pages map tree) (tree_pages x T) map x) twice
    (moved, Replaces-then (tree_pages map tree) (tree_pages m t) (tree_pages (with_last m t new) T) map m (with_last m t new) before.1 step.1)

-- The first addition to an empty tree makes a tree of one point.
pub first_built : StandsInAnyOrder → (m0 m1 : PageMap) (empty tree : Tree) (points : List Point) → empty ≡ empty_tree → 1 ≤ length points
    → MvStands m1 tree (get_or points 0 no_point ∷ []) → IsBalanced m1 tree → Replaces (tree_pages m0 empty) (tree_pages m1 tree) m0 m1 → IsBuilt (take 1 points) m0 m1 tree
first_built any m0 m1 empty tree points is some stands balanced change = record {
  stands = any m1 tree (get_or points 0 no_point ∷ []) (take 1 points) stands (in_front points 0 no_point some);
  balanced = balanced;
  change = subst (λ (ps : List ℕ). Replaces ps (tree_pages m1 tree) m0 m1) (no_pages is) change;
}
  where
    no_pages : empty ≡ empty_tree → tree_pages m0 empty ≡ []
    no_pages is = ap (λ (t : Tree). tree_pages m0 t) is

some_taken : (points : List Point) → 1 ≤ length points → take 1 points ≡ [] → ⊥
some_taken points some none = omega (arith, ap (λ (ps : List Point). length ps) none, length-take-le 1 points some)

-- The page of its last place spells a node.
pub last_spells : (m0 m1 : PageMap) (tree : Tree) (points : List Point) → 1 ≤ length points → IsBuilt (take 1 points) m0 m1 tree
    → ((node : MvNode) (bytes : List ℕ) → m1 tree.last ≡ Some bytes → bytes ≡ mv_node_page node → IsMvNode node → IsTyped node → ⊥) → ⊥
last_spells m0 m1 tree points some built none = at_last (place_count m1 tree) (built.stands.noded (λ levels. some_taken points some (built.stands.some levels))) built.stands.chain
  where
    at_last : (places : ℕ) → 1 ≤ places → ChainStands places m1 tree.last → ⊥
    at_last zero positive chain = omega (arith, positive)
    at_last (suc places) positive chain = none (node_on m1 tree.last) (mv_node_page (node_on m1 tree.last)) chain.0 refl chain.1 chain.2

-- A tree of one point, whose one node is the leaf: with what the leaf takes it is built of as many points.
pub leaf_built : (m0 m1 m2 : PageMap) (tree : Tree) (points : List Point) (n : ℕ) (leaf new : MvNode) → 1 ≤ length points → IsBuilt (take 1 points) m0 m1 tree → 3 ≤ tree.last → m1 tree.last ≡ Some (mv_node_page leaf)
    → IsTyped leaf → IsMvNode leaf → leaf.place ≡ 1 → TakesPoints (take 1 points) (take n points) n leaf new → m2 ≡ with_last m1 tree new → IsBuilt (take n points) m0 m2 (with_count tree n)
leaf_built m0 m1 m2 tree points n leaf new some built number there typed rules first takes put =
    let taken = takes m1 tree (only_leaf m1 tree (take 1 points) leaf built.stands built.balanced (some_taken points some) number there typed rules first) in
    subst (λ (m : PageMap). IsBuilt (take n points) m0 m (with_count tree n)) (sym put) (record {
      stands = taken.0.stands;
      balanced = taken.0.balanced;
      change = Replaces-then [] (tree_pages m1 tree) (tree_pages (with_last m1 tree new) (with_count tree n)) m0 m1 (with_last m1 tree new) built.change taken.1;
    })

-- An addition after that is one point more.
pub built_more : StandsInAnyOrder → (m0 m1 m2 : PageMap) (old new : Tree) (points : List Point) (i : ℕ) → i < length points → IsBuilt (take i points) m0 m1 old
    → MvStands m2 new (get_or points i no_point ∷ take i points) → IsBalanced m2 new → Replaces (tree_pages m1 old) (tree_pages m2 new) m1 m2 → IsBuilt (take (i + 1) points) m0 m2 new
built_more any m0 m1 m2 old new points i lt so stands balanced change = record {
  stands = any m2 new (get_or points i no_point ∷ take i points) (take (i + 1) points) stands (in_front points i no_point lt);
  balanced = balanced;
  change = Replaces-then [] (tree_pages m1 old) (tree_pages m2 new) m0 m1 m2 so.change change;
}
