-- What an addition of a point through the index may change, and what it may find damaged.
use Rattle.std.specs.Prelude.{◌≡◌, ℕ, ◌⊎◌, true, IsSome}
use Rattle.bw_types.specs.declared.point.Point.{Point}
use Rattle.bw_types.specs.declared.tree.Tree.{Tree}
use Rattle.ports.specs.Pages.{PageMap}
use Rattle.ports.specs.Frame.{names_page}
use Rattle.dom_index.specs.Becoming.{IsTreeAfter}
use Rattle.sb_tree.specs.Stored.{OthersStay}
use Rattle.mvsb_tree.specs.AddDamage.{IsDamagedForAdd, directory_pages, node_way}
use Rattle.mvsb_tree.specs.Stands.{key_of}

-- An addition at the key and the version may change the page: it is on their way through the nodes, or one of the directory. The directory
-- is read in the pages that the addition to the nodes left, of which it changes those on the way.
abbrev pub MayChangeAt : PageMap → Tree → ℕ → ℕ → ℕ → Type 0
MayChangeAt pages tree key version page =
    (names_page (node_way pages tree key version) page ≡ true)
    ⊎ ((between : PageMap) × OthersStay (node_way pages tree key version) pages between × (names_page (directory_pages between tree) page ≡ true))

-- The tree becomes one of one point more. Its directory's root is the one of before, one that may be changed, or one that was not in the
-- map; and the last page of its chain of places is the one of before, or one that was not in the map.
pub record BecomesTree (pages : PageMap) (tree : Tree) (key version : ℕ) (new : Tree) : Type 0 where
  pub grown : IsTreeAfter (MayChangeAt pages tree key version) pages tree new
  pub last : IsSome (pages new.last) → new.last ≡ tree.last

-- So it is with the addition of a point.
abbrev pub MayChange : PageMap → Tree → Point → ℕ → Type 0
MayChange pages tree point page = MayChangeAt pages tree (key_of point) point.version page

abbrev pub MayBecome : PageMap → Tree → Point → Tree → Type 0
MayBecome pages tree point new = BecomesTree pages tree (key_of point) point.version new

-- What an addition at the point's key and version does, where the free pages are in order.
abbrev pub IsDamagedForPoint : PageMap → Tree → Point → ℕ → Type 0
IsDamagedForPoint pages tree point page = IsDamagedForAdd pages (Unit {0}) tree (key_of point) point.version point.weight page
