-- What an addition makes of a tree's value, whatever the pages hold.
use Rattle.std.specs.Prelude.{◌≡◌, ℕ, ◌+◌, IsSome}
use Rattle.bw_types.specs.declared.tree.Tree.{Tree}
use Rattle.ports.specs.Pages.{PageMap}

-- In the place of one page a tree may name another: where that one was in the map, and is none that may be changed, it is the same page.
abbrev pub MayName : (ℕ → Type 0) → PageMap → ℕ → ℕ → Type 0
MayName may_change pages old new = IsSome (pages new) → ¬ may_change new → new ≡ old

-- The tree has one point more, and a root that it may name.
pub record IsTreeAfter (may_change : ℕ → Type 0) (pages : PageMap) (old new : Tree) : Type 0 where
  pub count : new.count ≡ old.count + 1
  pub root : MayName may_change pages old.root new.root
