-- What is collected, and what a call owes that only reads, and may find no memory.
use Rattle.std.specs.Prelude.{◌≡◌, ℕ, ◌≤◌, ◌⊎◌, ◌++◌, ◌∷◌, [], List, Result, Err}
use Rattle.bw_types.specs.declared.point.Point.{Point}
use Rattle.bw_types.specs.declared.tree.Tree.{Tree}
use Rattle.ports.specs.Count.{Rose}
use Rattle.ports.specs.Calls.{WasRead}
use Rattle.ports.specs.Pages.{PageMap}
use Rattle.ports.specs.declared.page.StageFault.{StageFault}
use Rattle.ports.specs.declared.page.StageFault.TheVariants.{Disk, PageLimit}
use Rattle.ports.specs.declared.pages.Pages.{Ghosts}
use Rattle.page_layout.specs.declared.cut_page.CutNode.{CutNode}
use Rattle.page_layout.specs.declared.cut_page.CutNode.TheVariants.{Entry}
use Rattle.cut_parts.specs.Damage.{BeforePage}
use Rattle.cut_parts.specs.Parts.{points_of}
use Rattle.cut_parts.specs.Reach.{IsDamagedForCollect, IsThere, MayNotBeBuilt}

-- It changes no page, is refused for the disk only where the count of faults rose, and never for the limit.
pub record ReadsAndAllocates {P T : Type 0} (g : Ghosts P) (old new : P) (result : Result T StageFault) : Type 0 where
  pub read : WasRead g (g.gets new) old new
  pub disk : result ≡ Err Disk → Rose (g.faults old) (g.faults new)
  pub no_limit : (n : ℕ) → result ≡ Err (PageLimit n) → ⊥

-- The nodes begin with those of a part that is there, and its points were put last.
pub record IsCollected (pages : PageMap) (n : ℕ) (nodes : List CutNode) (old new : List Point) : Type 0 where
  pub is : IsThere pages n nodes
  pub points : new ≡ old ++ points_of is.part

-- What collecting the points of a tree may call damaged: the root of one that has points and no levels; a page that is not as told; or
-- the root, where no tree may be built of the points.
abbrev pub IsDamagedForPoints : ℕ → PageMap → Tree → ℕ → Type 0
IsDamagedForPoints dims pages tree damaged =
    ((damaged ≡ tree.root) × (tree.levels ≡ 0) × (1 ≤ tree.count))
    ⊎ (IsDamagedForCollect dims pages tree.count (BeforePage tree.root) damaged
    ⊎ ((damaged ≡ tree.root) × ((there : IsThere pages tree.count (Entry tree.root ∷ [])) × MayNotBeBuilt dims (points_of there.part))))
