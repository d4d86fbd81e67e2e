-- How an addition begins: at the first leaf, or at the root that stands.
use Rattle.std.proofs.Common.{◌≡◌, ◌≢◌, ℕ, zero, suc, ◌^◌, ◌<◌, ◌≤◌, ◌==◌, inl, inr, true, false, IsTrue, nat_le, List, [], ◌∷◌, length, Option, Some, None, if◌then◌else◌, slice_index_or, refl, sym, ap, ◌∙◌, subst, arith}
use Rattle.std.specs.List.{All}
use Rattle.std.proofs.lemmas.Bool.{le-leb, or_left, true≢false}
use Rattle.std.proofs.lemmas.List.Elements.{All-head}
use Rattle.bw_types.specs.declared.point.Point.{Point}
use Rattle.bw_types.specs.declared.tree.Tree.{Tree}
use Rattle.ports.specs.Pages.{PageMap}
use Rattle.ports.specs.Frame.{names_page}
use Rattle.page_layout.specs.MvNode.{IsMvNode, mv_node_page}
use Rattle.page_layout.specs.declared.mv_node.MvEntry.{MvEntry}
use Rattle.mvsb_tree.specs.Stands.{ChainStands, MvStands, RootStands, StandsOnWay, has_begun, is_marked, is_past, key_of}
use Rattle.mvsb_tree.specs.Steps.{chain_from, entries_on, node_on, node_pages, place_count, root_at, root_level}
use Rattle.mvsb_tree.specs.Tops.{RootAdded, first_node}
use Rattle.mvsb_tree.proofs.Chains.{names_first}
use Rattle.mvsb_tree.proofs.Firsts.{first_added}
use Rattle.mvsb_tree.proofs.Past.{chain_spells}
use Rattle.mvsb_tree.proofs.Whole.{marked_own, marked_zero}

-- The first addition to a tree without levels.
pub first_of_tree : (m0 m1 : PageMap) (tree : Tree) (points : List Point) (p : Point) (leaf key v value last : ℕ) → MvStands m0 tree points → tree.levels ≡ 0 → last ≡ tree.last
    → v < 4294967295 → key < 2 ^ 64 → value < 2 ^ 128 → key_of p ≡ key → ((bytes : List ℕ) → m0 0 ≡ Some bytes → ⊥) → 3 ≤ leaf
    → IsMvNode (first_node key v value) → m0 leaf ≡ None → m1 leaf ≡ Some (mv_node_page (first_node key v value)) → ((q : ℕ) → (leaf == q) ≡ false → m1 q ≡ m0 q)
    → RootAdded (is_marked (p ∷ points)) m0 m1 0 leaf v key value (place_count m0 tree) last leaf
first_of_tree m0 m1 tree points p leaf key v value last s none last_is early key_fits value_fits key_is no_page three rules fresh made others =
    let places : place_count m0 tree ≡ 0 = ap (λ (l : ℕ). if l == 0 then 0 else (node_on m0 tree.last).place) none in
    let no_last : last ≡ 0 = last_is ∙ subst (λ (n : ℕ). ChainStands n m0 tree.last) places s.chain in
    let no_zero : m0 0 ≡ None = missing (m0 0) no_page in
    let r = first_added (is_marked (p ∷ points)) m0 m1 leaf key v value early key_fits value_fits (marked_zero (p ∷ points)) (marked_own points p key key_is) no_zero three rules fresh made others in
    subst (λ (n : ℕ). RootAdded (is_marked (p ∷ points)) m0 m1 0 leaf v key value n last leaf) (sym places)
    (subst (λ (l : ℕ). RootAdded (is_marked (p ∷ points)) m0 m1 0 leaf v key value 0 l leaf) (sym no_last) r)
  where
    missing : (o : Option (List ℕ)) → ((bytes : List ℕ) → o ≡ Some bytes → ⊥) → o ≡ None
    missing None h = refl
    missing (Some bytes) h = absurd (h bytes refl)

listed_first : (n : ℕ) (m : PageMap) (page : ℕ) → 1 ≤ n → names_page (chain_from n m page) page ≡ true
listed_first zero m page some = absurd (omega (arith, some))
listed_first (suc n) m page some = names_first page (chain_from n m (node_on m page).before)

-- A tree that has levels has points.
pub some_points : (m : PageMap) (tree : Tree) (points : List Point) → MvStands m tree points → tree.levels ≢ 0 → points ≡ [] → ⊥
some_points m tree points s some none =
    let listed = listed_first (place_count m tree) m tree.last (s.noded some) in
    let node = chain_spells (place_count m tree) m tree.last s.chain tree.last listed in
    let keeps = s.entries tree.last listed in
    first_past (entries_on m tree.last) node.rules.some (λ k d h. subst (λ (xs : List Point). IsTrue (is_past xs (slice_index_or (entries_on m tree.last) k d))) none (keeps.past k d h))
  where
    first_past : (es : List MvEntry) → 1 ≤ length es → All (λ e. IsTrue (is_past [] e)) es → ⊥
    first_past [] long all = omega (arith, long)
    first_past (e ∷ es) long all = true≢false (sym (All-head (λ (x : MvEntry). IsTrue (is_past [] x)) e es all))

pub begun_by : (points : List Point) (v : ℕ) → (points ≡ [] → ⊥) → All (λ q. q.version ≤ v) points → has_begun points v ≡ true
begun_by [] v some all = absurd (some refl)
begun_by (p ∷ points) v some all = or_left (nat_le p.version v) (has_begun points v) (le-leb p.version v (All-head (λ (q : Point). q.version ≤ v) p points all))

-- There is a root at a version past all points.
pub begun_root : (m : PageMap) (tree : Tree) (points : List Point) (v : ℕ) → MvStands m tree points → All (λ q. q.version ≤ v) points → tree.levels ≢ 0 → v < 4294967295 → root_at m tree v ≢ 0
begun_root m tree points v s past some early = s.rooted v (omega (arith, early)) (begun_by points v (some_points m tree points s some) past)

way_of : (m : PageMap) (nodes : List ℕ) (root v q : ℕ) → root ≢ 0 → RootStands m nodes root v q → (root < 2 ^ 64) × StandsOnWay (root_level m root) m nodes root v q 0 None 1
way_of m nodes root v q some (inl none) = absurd (some none)
way_of m nodes root v q some (inr s) = s

-- The ways from the root stand.
pub root_ways : (m : PageMap) (tree : Tree) (points : List Point) (v root : ℕ) → MvStands m tree points → All (λ q. q.version ≤ v) points → tree.levels ≢ 0 → v < 4294967295 → root ≡ root_at m tree v
    → (q : ℕ) → q < 2 ^ 64 → StandsOnWay (root_level m root) m (node_pages m tree) root v q 0 None 1
root_ways m tree points v root s past some early is q fits =
    let there = way_of m (node_pages m tree) (root_at m tree v) v q (begun_root m tree points v s past some early) (s.nodes q v fits (omega (arith, early))) in
    subst (λ (r : ℕ). StandsOnWay (root_level m r) m (node_pages m tree) r v q 0 None 1) (sym is) there.1
