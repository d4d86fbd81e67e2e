-- How the directory of roots changes where the root does.
use Rattle.std.specs.Prelude.{◌≡◌, ◌≢◌, ℕ, ◌<◌, ◌≤◌, ◌^◌, Bool, IsTrue, List}
use Rattle.std.specs.List.{All}
use Rattle.bw_types.specs.declared.point.Point.{Point}
use Rattle.bw_types.specs.declared.tree.Tree.{Tree}
use Rattle.ports.specs.Pages.{PageMap}
use Rattle.ports.specs.Frame.{Replaces}
use Rattle.sb_tree.specs.Stands.{SbStands}
use Rattle.sb_tree.specs.Steps.{tree_pages, tree_value}

-- The directory leads to another root from the version on, and to what it did before.
pub record Led (before after : PageMap) (old new : Tree) (changes : List Point) (version root top : ℕ) : Type 0 where
  pub changes_after : List Point
  pub stands : SbStands after new changes_after
  pub some : (old.levels ≡ 0 → top ≢ root) → new.levels ≢ 0
  -- a change of the version may have come to the others
  pub versions : (test : ℕ → Bool) → IsTrue (test version) → All (λ c. IsTrue (test c.version)) changes → All (λ c. IsTrue (test c.version)) changes_after
  pub early : (w : ℕ) → w < version → tree_value after new w ≡ tree_value before old w
  pub late : (w : ℕ) → version ≤ w → w < 2 ^ 32 → tree_value before old w ≡ root → tree_value after new w ≡ top
  pub replaces : Replaces (tree_pages before old) (tree_pages after new) before after
