-- A whole tree after an addition, from what its nodes and its directory became.
use Rattle.std.proofs.Common.{◌≡◌, ◌≢◌, ℕ, ◌+◌, ◌%◌, ◌^◌, ◌<◌, ◌≤◌, ◌==◌, ◌||◌, ◌&&◌, inl, inr, true, false, Bool, IsTrue, nat_le, slice_index_or, take, List, [], ◌∷◌, length, None, cond, if◌then◌else◌, refl, sym, ap, ◌∙◌, subst, arith}
use Rattle.std.specs.List.{All, list_any}
use Rattle.std.proofs.Math.Nat.{mod-add-mod}
use Rattle.std.proofs.Math.Bool.{and-true}
use Rattle.std.proofs.lemmas.Bool.{and_from, and_parts, cases_lt, eqb-true, eq-eqb, le-leb, leb-true, lt-leb, or_cases, or_left, or_right, true≢false}
use Rattle.std.proofs.lemmas.List.Elements.{All-cons, All-head, All-tail}
use Rattle.std.proofs.lemmas.List.Sums.{sum_by-cons}
use Rattle.bw_types.specs.Dominance.{dominance_sum, dominated_weight, is_dominated, keys_at_most}
use Rattle.bw_types.specs.declared.point.Point.{Point}
use Rattle.bw_types.specs.declared.tree.Tree.{Tree}
use Rattle.ports.specs.Pages.{PageMap}
use Rattle.ports.specs.Frame.{names_page}
use Rattle.page_layout.specs.declared.mv_node.MvNode.{MvNode}
use Rattle.page_layout.specs.declared.mv_node.MvEntry.{MvEntry}
use Rattle.mv_pages.specs.Alive.{IsPastOf}
use Rattle.mvsb_tree.specs.Grown.{EntriesHold, NodesHold, PastStays}
use Rattle.mvsb_tree.specs.Stands.{ChainStands, EntriesKeep, MvStands, RootStands, StandsOnWay, has_begun, has_come, is_marked, is_past, key_of}
use Rattle.mvsb_tree.specs.Steps.{chain_from, directory, node_on, node_pages, place_count, root_at, root_level, total_below, tree_pages, tree_value}
use Rattle.mvsb_tree.specs.Ways.{added_at}
use Rattle.mvsb_tree.proofs.Past.{chain_spells, way_later, way_past}
use Rattle.mvsb_tree.proofs.Sound.{root_spelled}

-- The sum over the points, with one more.
dominated_one : (q w : ℕ) (p : Point) → is_dominated 1 (q ∷ []) w p ≡ (nat_le p.version w && nat_le (key_of p) q)
dominated_one q w p = ap (λ (b : Bool). nat_le p.version w && b) (first_key p.keys)
  where
    first_key : (keys : List ℕ) → keys_at_most (take 1 keys) (take 1 (q ∷ [])) ≡ nat_le (slice_index_or keys 0 0) q
    first_key [] = sym (le-leb 0 q (omega arith))
    first_key (k ∷ keys) = and-true (nat_le k q)

weight_with : (points : List Point) (p : Point) (q w : ℕ)
    → dominated_weight 1 (p ∷ points) (q ∷ []) w ≡ cond (nat_le p.version w && nat_le (key_of p) q) p.weight 0 + dominated_weight 1 points (q ∷ []) w
weight_with points p q w =
    sum_by-cons (λ (x : Point). cond (is_dominated 1 (q ∷ []) w x) x.weight 0) p points
    ∙ ap (λ (b : Bool). cond b p.weight 0 + dominated_weight 1 points (q ∷ []) w) (dominated_one q w p)

-- Before the point's version it counts for nothing.
pub sum_before : (points : List Point) (p : Point) (q w : ℕ) → w < p.version → dominance_sum 1 (p ∷ points) (q ∷ []) w ≡ dominance_sum 1 points (q ∷ []) w
sum_before points p q w early =
    let over : nat_le p.version w ≡ false = lt-leb p.version w early in
    let nothing : cond (nat_le p.version w && nat_le (key_of p) q) p.weight 0 ≡ 0 = ap (λ (b : Bool). cond (b && nat_le (key_of p) q) p.weight 0) over in
    ap (λ (n : ℕ). n % 2 ^ 128) (let e : dominated_weight 1 (p ∷ points) (q ∷ []) w ≡ dominated_weight 1 points (q ∷ []) w = omega (arith, weight_with points p q w, nothing) in e)

-- From it on it counts at its key and above.
pub sum_from : (points : List Point) (p : Point) (key v value q w : ℕ) → key_of p ≡ key → p.version ≡ v → p.weight ≡ value → v ≤ w
    → dominance_sum 1 (p ∷ points) (q ∷ []) w ≡ (dominated_weight 1 points (q ∷ []) w + added_at key value q) % 2 ^ 128
sum_from points p key v value q w key_is version weight late =
    let come : nat_le p.version w ≡ true = le-leb p.version w (omega (arith, version, late)) in
    let mine : cond (nat_le p.version w && nat_le (key_of p) q) p.weight 0 ≡ added_at key value q =
    ap (λ (b : Bool). cond (b && nat_le (key_of p) q) p.weight 0) come ∙ ap (λ (k : ℕ). cond (nat_le k q) p.weight 0) key_is ∙ ap (λ (n : ℕ). cond (nat_le key q) n 0) weight in
    ap (λ (n : ℕ). n % 2 ^ 128) (weight_with points p q w ∙ (let e : cond (nat_le p.version w && nat_le (key_of p) q) p.weight 0 + dominated_weight 1 points (q ∷ []) w ≡ dominated_weight 1 points (q ∷ []) w + added_at key value q = omega (arith, mine) in e))

-- Past every version of the points the sum stays.
pub sum_stays : (dims : ℕ) (points : List Point) (keys : List ℕ) (v w : ℕ) → All (λ q. q.version ≤ v) points → v ≤ w → dominated_weight dims points keys w ≡ dominated_weight dims points keys v
sum_stays dims [] keys v w all late = refl
sum_stays dims (p ∷ points) keys v w all late =
    let here : p.version ≤ v = All-head (λ (q : Point). q.version ≤ v) p points all in
    let both : nat_le p.version w ≡ nat_le p.version v = le-leb p.version w (omega (arith, here, late)) ∙ sym (le-leb p.version v here) in
    let one : cond (is_dominated dims keys w p) p.weight 0 ≡ cond (is_dominated dims keys v p) p.weight 0 =
    ap (λ (b : Bool). cond (b && keys_at_most (take dims p.keys) (take dims keys)) p.weight 0) both in
    let rest = sum_stays dims points keys v w (All-tail (λ (q : Point). q.version ≤ v) p points all) late in
    omega (arith, one, rest, sum_by-cons (λ (x : Point). cond (is_dominated dims keys w x) x.weight 0) p points, sum_by-cons (λ (x : Point). cond (is_dominated dims keys v x) x.weight 0) p points)

-- Where a point has come at a version, that is at most the last one.
pub come_early : (points : List Point) (v w : ℕ) → All (λ q. q.version ≤ v) points → has_come points w ≡ true → w ≤ v
come_early [] v w all come = absurd (true≢false (sym come))
come_early (p ∷ points) v w all come = elim (or_cases (nat_le w p.version) (has_come points w) come) [
  | inl here ↦
      let own : p.version ≤ v = All-head (λ (q : Point). q.version ≤ v) p points all in
      let le = leb-true w p.version here in
      omega (arith, own, le)
  | inr later ↦ come_early points v w (All-tail (λ (q : Point). q.version ≤ v) p points all) later
]

pub come_with : (points : List Point) (p : Point) (v w : ℕ) → p.version ≡ v → w ≤ v → has_come (p ∷ points) w ≡ true
come_with points p v w version le = or_left (nat_le w p.version) (has_come points w) (le-leb w p.version (omega (arith, version, le)))

marked_with : (points : List Point) (p : Point) (l : ℕ) → is_marked points l ≡ true → is_marked (p ∷ points) l ≡ true
marked_with points p l h = elim (or_cases (l == 0) (list_any (λ q. key_of q == l) points) h) [
  | inl none ↦ or_left (l == 0) (list_any (λ q. key_of q == l) (p ∷ points)) none
  | inr among ↦ or_right (l == 0) (list_any (λ q. key_of q == l) (p ∷ points)) (or_right (key_of p == l) (list_any (λ q. key_of q == l) points) among)
]

pub marked_zero : (points : List Point) → is_marked points 0 ≡ true
marked_zero points = or_left (0 == 0) (list_any (λ q. key_of q == 0) points) refl

pub marked_own : (points : List Point) (p : Point) (key : ℕ) → key_of p ≡ key → is_marked (p ∷ points) key ≡ true
marked_own points p key is = or_right (key == 0) (list_any (λ q. key_of q == key) (p ∷ points)) (or_left (key_of p == key) (list_any (λ q. key_of q == key) points) (eq-eqb (key_of p) key is))

-- The nodes of a tree that stands hold to each version that is past its points.
pub nodes_hold : (m : PageMap) (tree : Tree) (points : List Point) (p : Point) (v : ℕ) → MvStands m tree points → All (λ q. q.version ≤ v) points
    → NodesHold v (is_marked (p ∷ points)) m (chain_from (place_count m tree) m tree.last)
nodes_hold m tree points p v s past page named =
    let keeps = s.entries page named in
    record {
      past = λ k d h. one (slice_index_or (node_on m page).entries.items k d) (keeps.past k d h);
      lows = λ leaf k d h. marked_with points p (slice_index_or (node_on m page).entries.items k d).low (keeps.lows leaf k d h);
    }
  where
    one : (e : MvEntry) → IsTrue (is_past points e) → IsPastOf v e
    one e h =
        let parts = and_parts (has_come points e.start) (e.end == 4294967295 || has_come points e.end) h in (
          come_early points v e.start past parts.0,
          elim (or_cases (e.end == 4294967295) (has_come points e.end) parts.1) [
            | inl open_end ↦ inl (eqb-true e.end 4294967295 open_end)
            | inr over ↦ inr (come_early points v e.end past over)
          ],
        )

-- And the entries of nodes that hold keep to the points with one of the version.
entries_keep : (node : MvNode) (points : List Point) (p : Point) (v : ℕ) → p.version ≡ v → EntriesHold v (is_marked (p ∷ points)) node → EntriesKeep (p ∷ points) node
entries_keep node points p v version h = record {
  past = λ k d less. one (slice_index_or node.entries.items k d) (h.past k d less);
  lows = h.lows;
}
  where
    one : (e : MvEntry) → IsPastOf v e → IsTrue (is_past (p ∷ points) e)
    one e past = and_from (has_come (p ∷ points) e.start) (e.end == 4294967295 || has_come (p ∷ points) e.end) (come_with points p v e.start version past.0) (elim past.1 [
      | inl open_end ↦ or_left (e.end == 4294967295) (has_come (p ∷ points) e.end) (eq-eqb e.end 4294967295 open_end)
      | inr over ↦ or_right (e.end == 4294967295) (has_come (p ∷ points) e.end) (come_with points p v e.end version over)
    ])

-- What the nodes of a tree have become, in a map in which the directory has changed as well.
pub record NodesAdded (test : ℕ → Bool) (before after : PageMap) (root top version key value : ℕ) (nodes new_nodes : List ℕ) : Type 0 where
  pub hold : NodesHold version test after new_nodes
  pub listed : (p : ℕ) → names_page nodes p ≡ true → names_page new_nodes p ≡ true
  pub past : (p : ℕ) → names_page nodes p ≡ true → PastStays version (node_on before p) (node_on after p)
  pub ways : (q : ℕ) → q < 2 ^ 64 → StandsOnWay (root_level after top) after new_nodes top version q 0 None 1
  pub totals : (q : ℕ) → q < 2 ^ 64 → total_below (root_level after top) after top q version % 2 ^ 128 ≡ (total_below (root_level before root) before root q version + added_at key value q) % 2 ^ 128

-- What the directory has become.
pub record DirectoryAdded (before after : PageMap) (old new : Tree) (points : List Point) (version top : ℕ) : Type 0 where
  pub changes : List Point
  pub stands : Rattle.sb_tree.specs.Stands.SbStands after (directory new) changes
  pub come : All (λ c. IsTrue (has_come points c.version)) changes
  pub early : (w : ℕ) → w < version → root_at after new w ≡ root_at before old w
  pub late : (w : ℕ) → version ≤ w → w < 2 ^ 32 → root_at after new w ≡ top

-- A root keeps its level.
pub level_stays : (m0 m2 : PageMap) (nodes : List ℕ) (root w q version : ℕ) → ((p : ℕ) → names_page nodes p ≡ true → PastStays version (node_on m0 p) (node_on m2 p)) → RootStands m0 nodes root w q
    → root_level m2 root ≡ root_level m0 root
level_stays m0 m2 nodes root w q version past (inl none) = ap (λ (r : ℕ). root_level m2 r) none ∙ sym (ap (λ (r : ℕ). root_level m0 r) none)
level_stays m0 m2 nodes root w q version past (inr s) =
    let listed = (root_spelled (root_level m0 root) m0 nodes root w q 0 None 1 s.1).listed in
    ap (λ (l : ℕ). if root == 0 then 0 else l) (past root listed).level

module _ (m0 m2 : PageMap) (old new : Tree) (points : List Point) (p : Point) (key v value top : ℕ) (s : MvStands m0 old points) (few : length points < 2 ^ 31)
    (early : v < 4294967295) (past : All (λ q. q.version ≤ v) points) (key_is : key_of p ≡ key) (version_is : p.version ≡ v) (weight_is : p.weight ≡ value)
    (d : DirectoryAdded m0 m2 old new (p ∷ points) v top) (top_some : top ≢ 0) (top_fits : top < 2 ^ 64) (chain2 : ChainStands (place_count m2 new) m2 new.last)
    (a : NodesAdded (is_marked (p ∷ points)) m0 m2 (root_at m0 old v) top v key value (node_pages m0 old) (node_pages m2 new)) where
  nodes0 : List ℕ
  nodes0 = node_pages m0 old

  nodes2 : List ℕ
  nodes2 = node_pages m2 new

  early_root : (root w q : ℕ) → w < v → RootStands m0 (node_pages m0 old) root w q
      → RootStands m2 (node_pages m2 new) root w q × (total_below (root_level m2 root) m2 root q w % 2 ^ 128 ≡ total_below (root_level m0 root) m0 root q w % 2 ^ 128)
  early_root root w q less (inl none) = (
    inl none,
    ap (λ (r : ℕ). total_below (root_level m2 r) m2 r q w % 2 ^ 128) none ∙ sym (ap (λ (r : ℕ). total_below (root_level m0 r) m0 r q w % 2 ^ 128) none),
  )
  early_root root w q less (inr st) =
      let level = level_stays m0 m2 (node_pages m0 old) root w q v a.past (inr st) in
      let kept = way_past m0 m2 (node_pages m0 old) (node_pages m2 new) v w q less a.past a.listed (chain_spells (place_count m2 new) m2 new.last chain2) (root_level m0 root) root 0 None 1 st.1 in (
        inr (st.0, subst (λ (l : ℕ). StandsOnWay l m2 (node_pages m2 new) root w q 0 None 1) (sym level) kept.0),
        ap (λ (l : ℕ). total_below l m2 root q w % 2 ^ 128) level ∙ kept.1,
      )

  late_way : (w q : ℕ) → v ≤ w → q < 2 ^ 64 → StandsOnWay (root_level m2 top) m2 (node_pages m2 new) top w q 0 None 1 × (total_below (root_level m2 top) m2 top q w ≡ total_below (root_level m2 top) m2 top q v)
  late_way w q late fits = way_later m2 (node_pages m2 new) v w q early late (λ page named. (a.hold page named).past) (root_level m2 top) top 0 None 1 (a.ways q fits)

  root_of : (w q : ℕ) → q < 2 ^ 64 → w < 2 ^ 32 → RootStands m2 (node_pages m2 new) (root_at m2 new w) w q
  root_of w q q_fits fits = elim (cases_lt w v) [
    | inl less ↦ subst (λ (r : ℕ). RootStands m2 (node_pages m2 new) r w q) (sym (d.early w less)) (early_root (root_at m0 old w) w q less (s.nodes q w q_fits fits)).0
    | inr late ↦ subst (λ (r : ℕ). RootStands m2 (node_pages m2 new) r w q) (sym (d.late w late fits)) (inr (top_fits, (late_way w q late q_fits).0))
  ]

  value_at : (q w : ℕ) → q < 2 ^ 64 → w < 2 ^ 32 → tree_value m2 new q w ≡ dominance_sum 1 (p ∷ points) (q ∷ []) w
  value_at q w q_fits fits = elim (cases_lt w v) [
    | inl less ↦
        ap (λ (r : ℕ). total_below (root_level m2 r) m2 r q w % 2 ^ 128) (d.early w less) ∙ (early_root (root_at m0 old w) w q less (s.nodes q w q_fits fits)).1
        ∙ s.values q w q_fits fits ∙ sym (sum_before points p q w (let e : w < p.version = omega (arith, version_is, less) in e))
    | inr late ↦
        let old_total : ℕ = total_below (root_level m0 (root_at m0 old v)) m0 (root_at m0 old v) q v in
        let sum_then : ℕ = dominated_weight 1 points (q ∷ []) v in
        let old_is : old_total % 2 ^ 128 ≡ sum_then % 2 ^ 128 = s.values q v q_fits (omega (arith, early)) in
        ap (λ (r : ℕ). total_below (root_level m2 r) m2 r q w % 2 ^ 128) (d.late w late fits) ∙ ap (λ (n : ℕ). n % 2 ^ 128) (late_way w q late q_fits).1 ∙ a.totals q q_fits
        ∙ sym (mod-add-mod old_total (2 ^ 128) (added_at key value q)) ∙ ap (λ (n : ℕ). (n + added_at key value q) % 2 ^ 128) old_is ∙ mod-add-mod sum_then (2 ^ 128) (added_at key value q)
        ∙ ap (λ (n : ℕ). (n + added_at key value q) % 2 ^ 128) (sym (sum_stays 1 points (q ∷ []) v w past late)) ∙ sym (sum_from points p key v value q w key_is version_is weight_is late)
  ]

  begun_before : (w : ℕ) → w < v → has_begun (p ∷ points) w ≡ true → has_begun points w ≡ true
  begun_before w less begun = elim (or_cases (nat_le p.version w) (has_begun points w) begun) [
    | inl here ↦ let le = leb-true p.version w here in absurd (omega (arith, le, less, version_is))
    | inr among ↦ among
  ]

  pub added_stands : new.count ≡ old.count + 1 → new.levels ≢ 0 → 1 ≤ place_count m2 new → Rattle.page_layout.specs.Footprint.NamesNoneTwice (tree_pages m2 new) → MvStands m2 new (p ∷ points)
  added_stands count some_levels some_places once = record {
    count = omega (arith, count, s.count);
    few = omega (arith, few);
    some = λ none. absurd (some_levels none);
    versions = All-cons (λ (q : Point). q.version < 4294967295) p points (omega (arith, version_is, early)) s.versions;
    changes = d.changes;
    roots = d.stands;
    changes_past = d.come;
    rooted = λ w fits begun. elim (cases_lt w v) [
      | inl less ↦ λ none. s.rooted w fits (begun_before w less begun) (sym (d.early w less) ∙ none)
      | inr late ↦ λ none. top_some (sym (d.late w late fits) ∙ none)
    ];
    noded = λ some. some_places;
    chain = chain2;
    once = once;
    nodes = λ q w q_fits fits. root_of w q q_fits fits;
    entries = λ page named. entries_keep (node_on m2 page) points p v version_is (a.hold page named);
    values = λ q w q_fits fits. value_at q w q_fits fits;
  }
