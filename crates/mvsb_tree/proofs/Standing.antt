-- The laws of trees that stand.
use Rattle.std.proofs.Common.{◌≡◌, ◌≢◌, ℕ, zero, suc, ◌^◌, ◌%◌, ◌<◌, ◌≤◌, ◌==◌, ◌||◌, ◌&&◌, inl, inr, cond, true, IsTrue, Bool, nat_le, slice_index_or, List, [], ◌∷◌, ◌++◌, length, refl, sym, ap, ◌∙◌, subst, arith, if◌then◌else◌}
use Rattle.std.specs.Prelude.{IsPermutation}
use Rattle.std.proofs.lemmas.Bool.{cases_Bool, eqb-false, cond-true, or_cases, true≢false}
use Rattle.std.proofs.lemmas.List.Elements.{All-nil}
use Rattle.std.proofs.lemmas.List.Sorted.{sum_by-IsPermutation, length_permutation, list_any-IsPermutation, All-permutation}
use Rattle.bw_types.specs.Dominance.{is_dominated}
use Rattle.bw_types.specs.declared.point.Point.{Point}
use Rattle.bw_types.specs.declared.tree.Tree.{Tree}
use Rattle.ports.specs.Pages.{PageMap}
use Rattle.ports.specs.Frame.{names_page, AgreeOn, AreInMap}
use Rattle.ports.specs.FrameLaws.{names_page-append}
use Rattle.page_layout.specs.Footprint.{NamesNoneTwice}
use Rattle.page_layout.specs.declared.mv_node.MvNode.{MvNode}
use Rattle.page_layout.specs.declared.mv_node.MvEntry.{MvEntry}
use Rattle.sb_tree.specs.Laws as over_versions_laws
use Rattle.sb_tree.specs.Steps as over_versions
use Rattle.sb_tree.specs.Stands.{SbStands}
use Rattle.mvsb_tree.specs.Steps.{chain_from, directory, node_on, node_pages, place_count, root_at, root_level, total_below, tree_pages}
use Rattle.mvsb_tree.specs.Stands.{ChainStands, EntriesKeep, IsBalanced, IsEmptyTree, MvStands, RootStands, has_begun, has_come, is_marked, is_past}
use Rattle.mvsb_tree.proofs.Chains.{same_node, same_chain, chain_stands, chain_there, names_first}
use Rattle.mvsb_tree.proofs.Frames.{agree_left, agree_right, root_stands, root_total, same_root_level}

first_listed : (n : ℕ) (m : PageMap) (page : ℕ) → 1 ≤ n → names_page (chain_from n m page) page ≡ true
first_listed zero m page some = absurd (omega (arith, some))
first_listed (suc n) m page some = names_first page (chain_from n m (node_on m page).before)

same_places : (a b : PageMap) (tree : Tree) → (tree.levels ≢ 0 → 1 ≤ place_count a tree) → AgreeOn (node_pages a tree) a b → place_count b tree ≡ place_count a tree
same_places a b tree some h = elim (cases_Bool (tree.levels == 0)) [
  | inl none ↦ cond-true (tree.levels == 0) 0 (node_on b tree.last).place none ∙ sym (cond-true (tree.levels == 0) 0 (node_on a tree.last).place none)
  | inr there ↦
      let first = first_listed (place_count a tree) a tree.last (some (λ z. eqb-false tree.levels 0 there z)) in
      ap (λ (n : MvNode). if tree.levels == 0 then 0 else n.place) (same_node a b tree.last (h tree.last first))
]

same_nodes : (a b : PageMap) (tree : Tree) → (tree.levels ≢ 0 → 1 ≤ place_count a tree) → AgreeOn (node_pages a tree) a b → node_pages b tree ≡ node_pages a tree
same_nodes a b tree some h = ap (λ (n : ℕ). chain_from n b tree.last) (same_places a b tree some h) ∙ same_chain (place_count a tree) a b tree.last h

pub same_root : (a b : PageMap) (tree : Tree) (changes : List Point) (v : ℕ) → SbStands a (directory tree) changes → SbStands b (directory tree) changes → v < 2 ^ 32
    → root_at b tree v ≡ root_at a tree v
same_root a b tree changes v before after fits = after.values v fits ∙ sym (before.values v fits)

pub by_its_pages : over_versions_laws.StandsByItsPages → (pages others : PageMap) (tree : Tree) (points : List Point) → MvStands pages tree points
    → AgreeOn (tree_pages pages tree) pages others → MvStands others tree points × (tree_pages others tree ≡ tree_pages pages tree)
by_its_pages law pages others tree points s h =
    let d : List ℕ = over_versions.tree_pages pages (directory tree) in
    let c : List ℕ = node_pages pages tree in
    let nodes_agree : AgreeOn c pages others = agree_right d c pages others h in
    let dir = law pages others (directory tree) s.changes s.roots (agree_left d c pages others h) in
    let places : place_count others tree ≡ place_count pages tree = same_places pages others tree s.noded nodes_agree in
    let nodes : node_pages others tree ≡ c = same_nodes pages others tree s.noded nodes_agree in
    let same : tree_pages others tree ≡ tree_pages pages tree =
    ap (λ (xs : List ℕ). xs ++ node_pages others tree) dir.1 ∙ ap (λ (ys : List ℕ). d ++ ys) nodes in
    let root : (v : ℕ) → v < 2 ^ 32 → root_at others tree v ≡ root_at pages tree v = λ v fits. same_root pages others tree s.changes v s.roots dir.0 fits in (
      record {
        count = s.count;
        few = s.few;
        some = s.some;
        versions = s.versions;
        changes = s.changes;
        roots = dir.0;
        changes_past = s.changes_past;
        rooted = λ v fits begun. subst (λ (r : ℕ). r ≢ 0) (sym (root v fits)) (s.rooted v fits begun);
        noded = λ some. subst (λ (n : ℕ). 1 ≤ n) (sym places) (s.noded some);
        chain = subst (λ (n : ℕ). ChainStands n others tree.last) (sym places) (chain_stands (place_count pages tree) pages others tree.last nodes_agree s.chain);
        once = subst NamesNoneTwice (sym same) s.once;
        nodes = λ key v k_fits fits.
            let moved = root_stands pages others c (root_at pages tree v) v key nodes_agree (s.nodes key v k_fits fits) in
            let listed = subst (λ (ns : List ℕ). RootStands others ns (root_at pages tree v) v key) (sym nodes) moved in
            subst (λ (r : ℕ). RootStands others (node_pages others tree) r v key) (sym (root v fits)) listed;
        entries = λ page named.
            let before = ap (λ (ns : List ℕ). names_page ns page) (sym nodes) ∙ named in
            subst (λ (n : MvNode). EntriesKeep points n) (sym (same_node pages others page (nodes_agree page before))) (s.entries page before);
        values = λ key v k_fits fits.
            ap (λ (r : ℕ). total_below (root_level others r) others r key v % 2 ^ 128) (root v fits)
            ∙ ap (λ (n : ℕ). n % 2 ^ 128) (root_total pages others c (root_at pages tree v) v key nodes_agree (s.nodes key v k_fits fits)) ∙ s.values key v k_fits fits;
      },
      same,
    )

pub all_there : over_versions_laws.PagesAreThere → (pages : PageMap) (tree : Tree) (points : List Point) → MvStands pages tree points → AreInMap pages (tree_pages pages tree)
all_there law pages tree points s = λ p named.
    elim (or_cases _ _ (sym (names_page-append (over_versions.tree_pages pages (directory tree)) (node_pages pages tree) p) ∙ named)) [
      | inl dir ↦ law pages (directory tree) s.changes s.roots p dir
      | inr node ↦ chain_there (place_count pages tree) pages tree.last s.chain p node
    ]

none_left : (xs : List Point) → length xs ≡ 0 → xs ≡ []
none_left [] e = refl
none_left (x ∷ xs) e = absurd (omega (arith, e))

same_come : (points others : List Point) (v : ℕ) → IsPermutation points others → has_come others v ≡ has_come points v
same_come points others v p = sym (list_any-IsPermutation (λ (q : Point). nat_le v q.version) points others p)

same_begun : (points others : List Point) (v : ℕ) → IsPermutation points others → has_begun others v ≡ has_begun points v
same_begun points others v p = sym (list_any-IsPermutation (λ (q : Point). nat_le q.version v) points others p)

same_past : (points others : List Point) (e : MvEntry) → IsPermutation points others → is_past others e ≡ is_past points e
same_past points others e p =
    ap (λ (b : Bool). b && (e.end == 4294967295 || has_come others e.end)) (same_come points others e.start p)
    ∙ ap (λ (b : Bool). has_come points e.start && (e.end == 4294967295 || b)) (same_come points others e.end p)

same_marked : (points others : List Point) (key : ℕ) → IsPermutation points others → is_marked others key ≡ is_marked points key
same_marked points others key p = ap (λ (b : Bool). key == 0 || b) (sym (list_any-IsPermutation (λ (q : Point). slice_index_or q.keys 0 0 == key) points others p))

same_keep : (points others : List Point) (node : MvNode) → IsPermutation points others → EntriesKeep points node → EntriesKeep others node
same_keep points others node p s = record {
  past = λ k d h. same_past points others (slice_index_or node.entries.items k d) p ∙ s.past k d h;
  lows = λ leaf k d h. same_marked points others (slice_index_or node.entries.items k d).low p ∙ s.lows leaf k d h;
}

pub any_order : (pages : PageMap) (tree : Tree) (points others : List Point) → MvStands pages tree points → IsPermutation points others → MvStands pages tree others
any_order pages tree points others s p =
    let long : length others ≡ length points = length_permutation points others p in
    record {
      count = s.count ∙ sym long;
      few = omega (arith, long, s.few);
      some = λ none. none_left others (long ∙ ap (λ (ps : List Point). length ps) (s.some none));
      versions = All-permutation (λ (q : Point). q.version < 4294967295) points others p s.versions;
      changes = s.changes;
      roots = s.roots;
      changes_past = λ k d h. same_come points others (slice_index_or s.changes k d).version p ∙ s.changes_past k d h;
      rooted = λ v fits begun. s.rooted v fits (sym (same_begun points others v p) ∙ begun);
      noded = s.noded;
      chain = s.chain;
      once = s.once;
      nodes = s.nodes;
      entries = λ page named. same_keep points others (node_on pages page) p (s.entries page named);
      values = λ key v k_fits fits. s.values key v k_fits fits ∙ ap (λ (n : ℕ). n % 2 ^ 128)
          (sym (sum_by-IsPermutation (λ (q : Point). cond (is_dominated 1 (key ∷ []) v q) q.weight 0) points others p));
    }

-- The empty tree has no root at any version.
pub empty_stands : over_versions_laws.EmptyTreeStands → (pages : PageMap) (tree : Tree) → IsEmptyTree tree → MvStands pages tree []
empty_stands law pages tree e =
    let none : tree.levels ≡ 0 = e.1 in
    let dir : SbStands pages (directory tree) [] = law pages (directory tree) (e.0, e.1, e.3, refl, refl) in
    let root : (v : ℕ) → root_at pages tree v ≡ 0 = λ v. ap (λ (l : ℕ). over_versions.total_below l pages tree.root v % 2 ^ 128) none in
    let places : place_count pages tree ≡ 0 = ap (λ (l : ℕ). if l == 0 then 0 else (node_on pages tree.last).place) none in
    let all : tree_pages pages tree ≡ [] =
    ap (λ (l : ℕ). over_versions.pages_below l pages tree.root ++ node_pages pages tree) none ∙ ap (λ (n : ℕ). chain_from n pages tree.last) places in
    let nodes : node_pages pages tree ≡ [] = ap (λ (n : ℕ). chain_from n pages tree.last) places in
    record {
      count = e.2;
      few = omega arith;
      some = λ _. refl;
      versions = All-nil (λ (q : Point). q.version < 4294967295);
      changes = [];
      roots = dir;
      changes_past = All-nil (λ (c : Point). IsTrue (has_come [] c.version));
      rooted = λ v fits begun. absurd (true≢false (sym begun));
      noded = λ some. absurd (some none);
      chain = subst (λ (n : ℕ). ChainStands n pages tree.last) (sym places) e.4;
      once = subst NamesNoneTwice (sym all) tt;
      nodes = λ key v k_fits fits. inl (root v);
      entries = λ page named. absurd (true≢false (sym (ap (λ (ps : List ℕ). names_page ps page) (sym nodes) ∙ named)));
      values = λ key v k_fits fits. ap (λ (r : ℕ). total_below (root_level pages r) pages r key v % 2 ^ 128) (root v);
    }

pub balance_stays : over_versions_laws.StandsByItsPages → (pages others : PageMap) (tree : Tree) (points : List Point) → MvStands pages tree points
    → AgreeOn (tree_pages pages tree) pages others → IsBalanced pages tree → IsBalanced others tree
balance_stays law pages others tree points s h b =
    let d : List ℕ = over_versions.tree_pages pages (directory tree) in
    let c : List ℕ = node_pages pages tree in
    let dir = law pages others (directory tree) s.changes s.roots (agree_left d c pages others h) in
    record {
      changes = b.changes;
      directory = b.directory;
      roots = λ v fits.
          let root = ap (λ (r : ℕ). root_level others r) (same_root pages others tree s.changes v s.roots dir.0 fits) in
          let level = same_root_level pages others c (root_at pages tree v) v 0 (agree_right d c pages others h) (s.nodes 0 v (omega arith) fits) in
          omega (arith, root, level, b.roots v fits);
    }

pub empty_balance : (pages : PageMap) (tree : Tree) → IsEmptyTree tree → IsBalanced pages tree
empty_balance pages tree e =
    let root : (v : ℕ) → root_at pages tree v ≡ 0 = λ v. ap (λ (l : ℕ). over_versions.total_below l pages tree.root v % 2 ^ 128) e.1 in
    record {
      changes = omega (arith, e.3);
      directory = omega (arith, e.1);
      roots = λ v fits. (let level : root_level pages (root_at pages tree v) ≡ 0 = ap (λ (r : ℕ). root_level pages r) (root v) in omega (arith, level));
    }
