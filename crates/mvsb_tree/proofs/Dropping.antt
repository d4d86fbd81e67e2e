-- Freeing pages part by part, told of a map that has lost none of them.
use Rattle.std.proofs.Common.{◌≡◌, ◌≢◌, ℕ, ◌==◌, inl, inr, List, [], ◌++◌, if◌then◌else◌, Some, IsSome, refl, sym, ap, ◌∙◌, subst}
use Rattle.std.proofs.lemmas.Bool.{cases_Bool}
use Rattle.bw_types.specs.declared.tree.Tree.{Tree}
use Rattle.ports.specs.Pages.{PageMap}
use Rattle.ports.specs.Frame.{AreInMap, Replaces, names_page}
use Rattle.ports.specs.FrameLaws.{Replaces-beside, Replaces-same}
use Rattle.page_layout.specs.MvNode.{IsMvNode, IsTyped, mv_node_page}
use Rattle.page_layout.specs.declared.mv_node.MvNode.{MvNode}
use Rattle.sb_tree.proofs.Frames.{same_pages}
use Rattle.sb_tree.proofs.Freeing.{all_in_map, left_agree}
use Rattle.sb_tree.specs.Steps as over_versions
use Rattle.mvsb_tree.specs.Gone.{AreDropped}
use Rattle.mvsb_tree.specs.Steps.{chain_from, directory, node_on, place_count, tree_pages}
use Rattle.mvsb_tree.proofs.Chains.{left_there}
use Rattle.mvsb_tree.proofs.Freeing.{count_is, same_left}
use Rattle.mvsb_tree.proofs.Nodes.{node_on-spelled}

-- Pages that are in the map after others were freed were in it before.
there_before : (freed pages : List ℕ) (old new : PageMap) → AreInMap old freed → Replaces freed [] old new → AreInMap new pages → AreInMap old pages
there_before freed pages old new were r there = λ p named. elim (cases_Bool (names_page freed p)) [
  | inl gone ↦ were p gone
  | inr left ↦ subst IsSome (r.others p left refl) (there p named)
]

-- One part after another.
pub dropped_more : (f g : PageMap → List ℕ) (old mid new : PageMap) → AreDropped f old mid → AreDropped g mid new → AreDropped (λ m. f m ++ g m) old new
dropped_more f g old mid new first second = λ before gone r.
    let one = first before gone r in
    let two = second before (gone ++ f before) (Replaces-beside gone [] (f before) [] before old mid r one.1) in (
      all_in_map (f before) (g before) old one.0 (there_before (f before) (g before) old mid one.0 one.1 two.0),
      Replaces-beside (f before) [] (g before) [] old mid new one.1 two.1,
    )

-- The same pages by another name.
pub dropped_as : (f g : PageMap → List ℕ) (old new : PageMap) → ((before : PageMap) (gone : List ℕ) → Replaces gone [] before old → g before ≡ f before)
    → AreDropped f old new → AreDropped g old new
dropped_as f g old new same dropped = λ before gone r.
    let both = dropped before gone r in
    let e = sym (same before gone r) in
    (subst (λ (ps : List ℕ). AreInMap old ps) e both.0, subst (λ (ps : List ℕ). Replaces ps [] old new) e both.1)

-- No page is dropped where none is named.
pub none_dropped : (f : PageMap → List ℕ) (old : PageMap) → ((m : PageMap) → f m ≡ []) → AreDropped f old old
none_dropped f old none = dropped_as (λ m. []) f old old (λ before gone r. none before) (λ before gone r. (λ p named. cc, Replaces-same [] old))

-- A map has lost nothing since itself.
pub dropped_here : (f : PageMap → List ℕ) (old new : PageMap) → AreDropped f old new → AreInMap old (f old) × Replaces (f old) [] old new
dropped_here f old new dropped = dropped old [] (Replaces-same [] old)

-- The pages of a tree over versions.
pub versions_dropped : (tree : Tree) (old new : PageMap) → AreInMap old (over_versions.tree_pages old tree) → Replaces (over_versions.tree_pages old tree) [] old new
    → AreDropped (λ m. over_versions.tree_pages m tree) old new
versions_dropped tree old new there freed = λ before gone r.
    let agree = left_agree (over_versions.tree_pages old tree) gone before old r there in
    let same : over_versions.tree_pages before tree ≡ over_versions.tree_pages old tree = same_pages tree.levels old before tree.root agree in
    (subst (λ (ps : List ℕ). AreInMap old ps) (sym same) there, subst (λ (ps : List ℕ). Replaces ps [] old new) (sym same) freed)

-- The pages of the directory: the map was read in between.
pub directory_dropped : (tree roots : Tree) (old read mid : PageMap) → read ≡ old → roots ≡ directory tree
    → AreInMap read (over_versions.tree_pages read roots) → Replaces (over_versions.tree_pages read roots) [] read mid
    → AreDropped (λ m. over_versions.tree_pages m (directory tree)) old mid
directory_dropped tree roots old read mid same is_directory there freed =
    subst (λ (t : Tree). AreDropped (λ m. over_versions.tree_pages m t) old mid) is_directory
    (subst (λ (n : PageMap). AreDropped (λ m. over_versions.tree_pages m roots) n mid) same (versions_dropped roots read mid there freed))

-- The pages of a chain.
pub chain_dropped : (places last : ℕ) (old new : PageMap) → AreInMap old (chain_from places old last) → Replaces (chain_from places old last) [] old new
    → AreDropped (λ m. chain_from places m last) old new
chain_dropped places last old new there freed = λ before gone r.
    let same : chain_from places before last ≡ chain_from places old last = same_left gone places last before old r there in
    (subst (λ (ps : List ℕ). AreInMap old ps) (sym same) there, subst (λ (ps : List ℕ). Replaces ps [] old new) (sym same) freed)

-- As many places as the last page tells, in each map that this one comes from.
pub places_before : (tree : Tree) (node : MvNode) (old before : PageMap) (gone : List ℕ) → tree.levels ≢ 0 → old tree.last ≡ Some (mv_node_page node) → IsTyped node → IsMvNode node
    → Replaces gone [] before old → place_count before tree ≡ node.place
places_before tree node old before gone some found typed rules r =
    let there = (left_there gone before old tree.last (mv_node_page node) r found).1 in
    count_is before tree some ∙ ap (λ (n : MvNode). n.place) (node_on-spelled before tree.last node typed rules there)

-- The pages of a tree: those of its directory and of its chain; none without levels.
pub tree_dropped : (tree : Tree) (node : MvNode) (old mid new : PageMap) → tree.levels ≢ 0 → old tree.last ≡ Some (mv_node_page node) → IsTyped node → IsMvNode node
    → AreDropped (λ m. over_versions.tree_pages m (directory tree)) old mid
    → AreInMap mid (chain_from node.place mid tree.last) → Replaces (chain_from node.place mid tree.last) [] mid new
    → AreDropped (λ m. tree_pages m tree) old new
tree_dropped tree node old mid new some found typed rules first there freed =
    let both = dropped_more (λ m. over_versions.tree_pages m (directory tree)) (λ m. chain_from node.place m tree.last) old mid new
    first (chain_dropped node.place tree.last mid new there freed) in
    dropped_as (λ m. over_versions.tree_pages m (directory tree) ++ chain_from node.place m tree.last) (λ m. tree_pages m tree) old new
    (λ before gone r. ap (λ (n : ℕ). over_versions.tree_pages before (directory tree) ++ chain_from n before tree.last) (places_before tree node old before gone some found typed rules r)) both

pub no_places : (tree : Tree) (m : PageMap) → tree.levels ≡ 0 → place_count m tree ≡ 0
no_places tree m none = ap (λ (l : ℕ). if l == 0 then 0 else (node_on m tree.last).place) none

pub no_pages : (tree : Tree) (m : PageMap) → tree.levels ≡ 0 → tree_pages m tree ≡ []
no_pages tree m none =
    ap (λ (l : ℕ). over_versions.pages_below l m tree.root ++ chain_from (if l == 0 then 0 else (node_on m tree.last).place) m tree.last) none
