-- What adding points may leave, and what it may call damaged, whatever the pages hold.
use Rattle.std.specs.Prelude.{◌≡◌, ℕ, ◌⊎◌, IsSome, List, [], ◌∷◌}
use Rattle.bw_types.specs.declared.point.Point.{Point}
use Rattle.bw_types.specs.declared.tree.Tree.{Tree}
use Rattle.ports.specs.Pages.{PageMap}
use Rattle.dom_index.specs.Adding.{TreeTakes}
use Rattle.dom_index.specs.Points.{IsNewPoint}
use Rattle.dom_index.specs.declared.index.DomIndex.{Ghosts}

-- An addition of the point to the tree may leave these pages and this tree. Pages that it may not change are as they were; and where the
-- tree stood and the point was new to it, the tree stands for one point more.
pub record MayLeave {X : Type 0} (g : Ghosts X) (dims : ℕ) (before : PageMap) (old : Tree) (point : Point) (after : PageMap) (new : Tree) : Type 0 where
  pub apart : (page : ℕ) → IsSome (before page) → ¬ g.may_change before dims old point page → after page ≡ before page
  pub becomes : g.may_become before dims old point new
  pub takes : (kept : List Point) → g.stands before dims old kept → IsNewPoint dims kept point
      → TreeTakes g dims before after old new (point ∷ []) kept

-- Additions of the points, one after the other, may leave these pages and this tree.
abbrev pub AdditionsMayLeave : {X : Type 0} → Ghosts X → ℕ → List Point → PageMap → Tree → PageMap → Tree → Type 0
AdditionsMayLeave g dims [] before old after new = (after ≡ before) × (new ≡ old)
AdditionsMayLeave g dims (p ∷ ps) before old after new =
    (mid : PageMap) × (tree : Tree) × MayLeave g dims before old p mid tree × AdditionsMayLeave g dims ps mid tree after new

-- An addition of one of the points may call the page damaged, after those before it.
abbrev pub IsDamagedForPoints : {X : Type 0} → Ghosts X → ℕ → List Point → PageMap → Tree → ℕ → Type 0
IsDamagedForPoints g dims [] before old damaged = ⊥
IsDamagedForPoints g dims (p ∷ ps) before old damaged =
    g.damaged_for_add before dims old p damaged
    ⊎ ((mid : PageMap) × (tree : Tree) × MayLeave g dims before old p mid tree × IsDamagedForPoints g dims ps mid tree damaged)
