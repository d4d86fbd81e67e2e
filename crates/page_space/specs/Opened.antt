-- What an opening leaves.
use Rattle.std.specs.Prelude.{◌≡◌, ◌≢◌, true, IsTrue, length}
use Rattle.page_disk.specs.Since.{LeavesNow, LeavesOnly}
use Rattle.page_disk.specs.declared.disk.Disk.{Ghosts}
use Rattle.redo_journal.specs.Gates.{gate_of, is_empty}
use Rattle.redo_journal.specs.Settled.{SettlesTo}
use Rattle.redo_journal.specs.declared.gate.Gate.TheVariants.{Idle}
use Rattle.page_space.specs.Faults.{AtBadJournal, AtDamaged, AtEmpty, AtNoMemory}
use Rattle.page_space.specs.Opening.{StandsAlike, StandsDamagedAt, StandsWhole}
use Rattle.page_space.specs.Settling.{IsBadAt}
use Rattle.page_space.specs.Shown.{IsInOrder, disk_of, map_of, meta_of, params_of}
use Rattle.page_space.specs.Space.{AreRoots, HoldsSpace}
use Rattle.page_space.specs.declared.refusal.OpenFault.{OpenFault}
use Rattle.page_space.specs.declared.refusal.OpenFault.TheVariants.{Disk}
use Rattle.page_space.specs.declared.space.Space.{Space}

module _ {D : Type 0} (g : Ghosts D) where
  -- The space is the one of this disk. Its own disk is what that stands for, with nothing to replay, and a crash from now on leaves
  -- that image and no other. No journal is made longer.
  pub record IsSpaceOf (disk : D) (space : Space D g) : Type 0 where
    pub holds : IsTrue (g.tells disk) → HoldsSpace (g.image disk) (params_of space) (meta_of space) (map_of space) (IsInOrder space)
    pub settles : IsTrue (g.tells disk) → SettlesTo (g.image disk) (g.image (disk_of space)).pages
    pub roots : AreRoots (params_of space) (meta_of space)
    pub idle : IsTrue (g.tells disk) → gate_of (g.image (disk_of space)) ≡ Idle
    pub journal : IsTrue (g.tells disk) → length (g.image (disk_of space)).journal ≡ length (g.image disk).journal
    pub settled : LeavesNow (g.moments (disk_of space)) (g.image (disk_of space))

  -- The disk is refused for a fault that it has; for want of memory only where it has none. What comes back stands for the same pages,
  -- and a crash from now on leaves its image and no other, unless the device failed.
  pub record IsRefusedAsSpace (disk : D) (fault : OpenFault) (back : D) : Type 0 where
    pub empty : AtEmpty fault (IsTrue (g.tells disk) → is_empty (g.image disk) ≡ true)
    pub bad_journal : AtBadJournal fault (λ page. IsTrue (g.tells disk) → IsBadAt (g.image disk) page)
    pub damaged : AtDamaged fault (λ page. IsTrue (g.tells disk) → StandsDamagedAt (g.image disk) page)
    pub no_memory : AtNoMemory fault (IsTrue (g.tells disk) → StandsWhole (g.image disk))
    pub stands : fault ≢ Disk → IsTrue (g.tells disk) → StandsAlike (g.image disk) (g.image back)
    pub settled : fault ≢ Disk → IsTrue (g.tells disk) → LeavesNow (g.moments back) (g.image back)

  -- Nothing was written: the disk reads as before, and a crash at any moment leaves what it might have left before, or that.
  pub record StaysAsRead (old new : D) : Type 0 where
    pub image : g.image new ≡ g.image old
    pub moments : LeavesOnly (λ x. x ≡ g.image old) (g.moments old) (g.moments new)
