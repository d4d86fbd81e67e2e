-- What a space and a stage are on a disk that tells.
use Rattle.std.proofs.Common.{◌⊎◌, false, ◌≡◌, inl, inr, refl, IsTrue}
use Rattle.std.specs.Prelude.{List, Result, OnOk, is_err}
use Rattle.page_disk.specs.declared.disk.Disk.{Ghosts}
use Rattle.page_disk.specs.Image.{PageList, Image}
use Rattle.page_disk.specs.Moment.{Moment}
use Rattle.page_disk.specs.Since.{LeavesOnly}
use Rattle.page_disk.specs.SinceLaws.{LeavesOnly-weaken}
use Rattle.redo_journal.specs.Images.{image_map}
use Rattle.redo_journal.specs.Placing.{ArePlaced}
use Rattle.redo_journal.specs.Settled.{SettlesTo}
use Rattle.page_space.specs.declared.space.Space.{Space}
use Rattle.page_space.specs.declared.staged.Staged.{Staged}
use Rattle.page_space.specs.Begun.{map_under, OrderedUnder}
use Rattle.page_space.specs.Space.{IsSpace, HoldsSpace}
use Rattle.page_space.specs.Shown.{map_of, IsInOrder, base_of, staged_map, IsStagedInOrder, IsMetaSet}
use Rattle.page_space.proofs.Committed.{committed, some_placing}
use Rattle.page_space.proofs.Giving.{on_ok}

module _ {D : Type 0} {g : Ghosts D} where
  pub is_space : (s : Space D g) → IsTrue (g.tells s.disk) → IsSpace (g.image s.disk).pages s.params s.meta (map_of s) (IsInOrder s)
  is_space s told = record {
    superblock = record { rules = s.in_range; spelled = s.superblock told };
    roots = record { rules = s.rules; typed = s.typed; spelled = s.roots told };
    there = s.there told;
    few = s.few;
    in_use = refl;
    in_order = λ h. h;
  }

  -- These pages are the space that the stage makes.
  abbrev pub IsNext : Staged D g → PageList → Type 0
  IsNext s new = IsSpace new s.space.params s.meta (staged_map s) (IsStagedInOrder s)

  is_next : (s : Staged D g) (new : PageList) → IsTrue (g.tells s.space.disk) → ArePlaced (image_map s.images) (g.image s.space.disk).pages new → IsMetaSet s
      → IsNext s new
  is_next s new told placed set = committed _ _ new _ s.space.meta s.meta placed (s.space.there told) s.space.least s.grown
      s.fresh s.within s.space.in_range (s.space.superblock told) s.few set

  pub next_of : {T E : Type 0} (s : Staged D g) (r : Result T E) (new : PageList) → is_err r ≡ false
      → OnOk r (IsTrue (g.tells s.space.disk) → ArePlaced (image_map s.images) (g.image s.space.disk).pages new) → IsMetaSet s
      → IsTrue (g.tells s.space.disk) → IsNext s new
  next_of s r new fine placed set told = is_next s new told (on_ok r _ fine placed told) set

  -- the space that stood under the stage, or the one that the stage makes
  abbrev pub HoldsEither : Staged D g → Image → Type 0
  HoldsEither s x =
      HoldsSpace x s.space.params s.space.meta (map_under (base_of s)) (OrderedUnder (base_of s))
      ⊎ HoldsSpace x s.space.params s.meta (staged_map s) (IsStagedInOrder s)

  pub holds_either : (s : Staged D g) (old new : List Moment) → IsTrue (g.tells s.space.disk) → IsMetaSet s
      → ((after : PageList) → ArePlaced (image_map s.images) (g.image s.space.disk).pages after
      → LeavesOnly (λ x. SettlesTo x (g.image s.space.disk).pages ⊎ SettlesTo x after) old new)
      → LeavesOnly (HoldsEither s) old new
  holds_either s old new told set leaves =
      let placing = some_placing (image_map s.images) (g.image s.space.disk).pages s.space.meta.allotted s.meta.allotted (s.space.there told) s.fresh s.within in
      LeavesOnly-weaken _ (HoldsEither s) old new
      (λ x h. elim h [
        | inl before ↦ inl (record { pages = (g.image s.space.disk).pages; settled = before; space = is_space s.space told })
        | inr later ↦ inr (record { pages = placing.0; settled = later; space = is_next s placing.0 told placing.1 set })
      ])
      (leaves placing.0 placing.1)
