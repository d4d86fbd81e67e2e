-- What the parts of a check tell of a multiversion tree.
use Rattle.std.proofs.Common.{◌≡◌, ◌≢◌, ℕ, ◌%◌, ◌^◌, ◌<◌, ◌≤◌, List, [], ◌∷◌, ◌++◌, length, refl, sym, ◌∙◌, ap, subst, arith, lit<}
use Rattle.bw_types.specs.Digits.{digit_count}
use Rattle.bw_types.specs.declared.point.Point.{Point}
use Rattle.bw_types.specs.declared.tree.Tree.{Tree}
use Rattle.ports.specs.Pages.{PageMap}
use Rattle.page_layout.specs.Footprint.{NamesNoneTwice}
use Rattle.mvsb_tree.specs.Stands.{IsBalanced, MvStands, RootStands}
use Rattle.mvsb_tree.specs.Steps.{directory, node_pages, place_count, root_at, root_level, tree_pages}
use Rattle.sb_tree.specs.Steps.{tree_pages as directory_pages}
use Rattle.key_check.specs.Chains.{ChainKeeps}
use Rattle.key_check.specs.Changes.{StandsForChanges}
use Rattle.key_check.specs.KeyTrees.{HasKeyNumbers, IsRooted, RootsKeep, ValuesKeep, root_total}
use Rattle.key_check.specs.Steps.{AscendFrom, step_value}
use Rattle.key_check.specs.Walks.{IsWalk}
use Rattle.key_check.specs.declared.step.Step.{Step}
use Rattle.key_check.specs.declared.version_tree.Walk.{Walk}
use Rattle.key_check.proofs.Chaining.{chain_keeps, chain_stands, entries_of}
use Rattle.key_check.proofs.Moving.{first_once}
use Rattle.key_check.proofs.Valuing.{tells_tree, tree_ascends}

-- What is to be decided.
abbrev pub Decided : PageMap → Tree → List Point → Type 0
Decided m tree points = MvStands m tree points × IsBalanced m tree

-- The chain is not empty below levels, and keeps to the points.
abbrev pub IsChain : PageMap → Tree → List Point → Type 0
IsChain m tree points = (tree.levels ≢ 0 → 1 ≤ place_count m tree) × ChainKeeps (place_count m tree) m points tree.last

none_left : (points : List Point) → length points ≡ 0 → points ≡ []
none_left [] e = refl
none_left (p ∷ points) e = absurd (omega (arith, e))

-- The directory's steps tell the root of each version.
root_is : (m : PageMap) (tree : Tree) (walk : Walk) (v : ℕ) → IsWalk m (directory tree) walk → v < 2 ^ 32 → step_value 0 walk.steps.items v ≡ root_at m tree v
root_is m tree walk v w below = ap (λ (ss : List Step). step_value 0 ss v) w.steps_are ∙ tells_tree tree.levels m tree.root v w.stands below

pub walk_ascends : (m : PageMap) (tree : Tree) (walk : Walk) → IsWalk m (directory tree) walk → AscendFrom 0 walk.steps.items (2 ^ 32)
walk_ascends m tree walk w = subst (λ (ss : List Step). AscendFrom 0 ss (2 ^ 32)) (sym w.steps_are) (tree_ascends tree.levels m tree.root w.stands)

pub rooted_from : (m : PageMap) (tree : Tree) (points : List Point) (walk : Walk) → IsWalk m (directory tree) walk → Decided m tree points → IsRooted walk.steps.items points
rooted_from m tree points walk w d = λ v below begun none. d.0.rooted v below begun (sym (root_is m tree walk v w below) ∙ none)

pub chain_from_stands : (m : PageMap) (tree : Tree) (points : List Point) → Decided m tree points → IsChain m tree points
chain_from_stands m tree points d = (d.0.noded, chain_keeps (place_count m tree) m points tree.last d.0.chain d.0.entries)

-- The pages found are those of the tree.
all_named : (m : PageMap) (tree : Tree) (walk : Walk) (nodes : List ℕ) → IsWalk m (directory tree) walk → nodes ≡ node_pages m tree → walk.named.items ++ nodes ≡ tree_pages m tree
all_named m tree walk nodes w e = ap (λ (ps : List ℕ). ps ++ nodes) w.named_are ∙ ap (λ (ps : List ℕ). directory_pages m (directory tree) ++ ps) e

pub roots_from : (m : PageMap) (tree : Tree) (points : List Point) (walk : Walk) (nodes : List ℕ) → IsWalk m (directory tree) walk → nodes ≡ node_pages m tree → Decided m tree points
    → RootsKeep m nodes tree.count walk.steps.items (2 ^ 32)
roots_from m tree points walk nodes w e d = λ v key below fits. record {
  stands = subst (λ (ns : List ℕ). RootStands m ns (step_value 0 walk.steps.items v) v key) (sym e)
      (subst (λ (root : ℕ). RootStands m (node_pages m tree) root v key) (sym (root_is m tree walk v w below)) (d.0.nodes key v fits below));
  balanced = subst (λ (root : ℕ). root_level m root ≤ digit_count 24 tree.count) (sym (root_is m tree walk v w below)) (d.1.roots v below);
}

pub values_from : (m : PageMap) (tree : Tree) (points : List Point) (walk : Walk) → IsWalk m (directory tree) walk → Decided m tree points → ValuesKeep m walk.steps.items points
values_from m tree points walk w d = λ key v fits below. ap (λ (root : ℕ). root_total m root key v % 2 ^ 128) (root_is m tree walk v w below) ∙ d.0.values key v fits below

pub decided : (m : PageMap) (tree : Tree) (points : List Point) (walk : Walk) (nodes : List ℕ) → HasKeyNumbers tree points → IsWalk m (directory tree) walk
    → (NamesNoneTwice walk.named.items → StandsForChanges m (directory tree) points) → IsRooted walk.steps.items points → IsChain m tree points → nodes ≡ node_pages m tree
    → NamesNoneTwice (walk.named.items ++ nodes) → RootsKeep m nodes tree.count walk.steps.items (2 ^ 32) → ValuesKeep m walk.steps.items points → Decided m tree points
decided m tree points walk nodes n w changes rooted chain e once keeps values =
    let c : StandsForChanges m (directory tree) points = changes (first_once walk.named.items nodes once) in
    let stands : MvStands m tree points = record {
      count = n.count;
      few = n.few;
      some = λ z. none_left points (n.some z);
      versions = n.versions;
      changes = c.changes;
      roots = c.stands;
      changes_past = c.past;
      rooted = λ v below begun none. rooted v below begun (root_is m tree walk v w below ∙ none);
      noded = chain.0;
      chain = chain_stands (place_count m tree) m points tree.last chain.1;
      once = subst NamesNoneTwice (all_named m tree walk nodes w e) once;
      nodes = λ key v fits below. subst (λ (ns : List ℕ). RootStands m ns (root_at m tree v) v key) e
          (subst (λ (root : ℕ). RootStands m nodes root v key) (root_is m tree walk v w below) (keeps v key below fits).stands);
      entries = λ page named. entries_of (place_count m tree) m points tree.last page chain.1 named;
      values = λ key v fits below. ap (λ (root : ℕ). root_total m root key v % 2 ^ 128) (sym (root_is m tree walk v w below)) ∙ values key v fits below;
    } in
    let balanced : IsBalanced m tree = record {
      changes = n.changes;
      directory = n.directory;
      roots = λ v below. subst (λ (root : ℕ). root_level m root ≤ digit_count 24 tree.count) (root_is m tree walk v w below) (keeps v 0 below (lit< tt)).balanced;
    } in
    (stands, balanced)
