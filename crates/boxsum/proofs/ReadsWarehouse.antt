-- A command that reads the warehouse on a disk.
use Rattle.std.proofs.Common.{◌≡◌, ◌≢◌, ◌≤◌, ℕ, Bool, true, false, IsTrue, inl, inr, sym, ◌∙◌, subst}
use Rattle.std.specs.Bool.{MatchBool}
use Rattle.ports.specs.Count.{Rose}
use Rattle.bw_types.specs.History.{History}
use Rattle.bw_types.specs.declared.params.Params.{Params}
use Rattle.page_disk.specs.declared.disk.Area.TheVariants.{Journal}
use Rattle.page_disk.specs.declared.disk.Disk.{Ghosts as DiskGhosts}
use Rattle.redo_journal.specs.Gates.{is_empty}
use Rattle.page_space.specs.Faults.{is_disk}
use Rattle.page_space.specs.declared.refusal.OpenFault.{OpenFault}
use Rattle.dom_index.specs.declared.index.DomIndex.{Ghosts as IndexGhosts}
use Rattle.page_warehouse.specs.Opened.{IsDamagedToOpen, IsOpenedFrom, IsRefusedFor}
use Rattle.page_warehouse.specs.Shown.{HasNewForm, HoldsHistory, disk_charge, disk_in, meta_in, params_in}
use Rattle.page_warehouse.specs.declared.state.Warehouse.{Warehouse}
use Rattle.warehouse.specs.Left.{IsAsBefore}
use Rattle.boxsum.specs.Held.{HoldsSurely, IsNoWarehouse, warehouses}
use Rattle.boxsum.specs.Ran.{ReadsWarehouse}
use Rattle.boxsum.specs.Statuses.{status_of_fault}
use Rattle.boxsum.specs.declared.status.Ran.{Ran}
use Rattle.boxsum.specs.declared.status.Status.{Status}
use Rattle.boxsum.specs.declared.status.Status.TheVariants.{NoWarehouse, Damaged}
use Rattle.boxsum.proofs.Opened.{opened}
use Rattle.boxsum.proofs.ReadsContent.{GivesBack as ContentGivesBack, IsLeftAlike, IsNotEmptyAtFault, IsOpenedOver, IsRefusedWith, content_held, content_read, content_refused}

-- a page at fault shows that the disk is not empty
pub made_where_damaged : (dims : ℕ) → IsNotEmptyAtFault (IsDamagedToOpen dims)
made_where_damaged dims = λ x page why none. elim why [
  | inl w ↦ (let no : false ≡ true = sym w.1.0.made ∙ none in cc)
  | inr w ↦ (let no : false ≡ true = sym w.space.settled.made ∙ none in cc)
]

module _ {D X : Type 0} (d : DiskGhosts D) (i : IndexGhosts X) (disk : D) where
  -- What an opening says of the disk that it gives back.
  abbrev pub GivesBack : D → Type 0
  GivesBack back = ContentGivesBack (warehouses i) d disk back

  -- what it says of one that it refuses
  pub warehouse_refused_with : (f : OpenFault) (back : D) → IsRefusedFor d i disk f back → IsRefusedWith (warehouses i) d disk f back
  warehouse_refused_with f back refused = record {
    empty = refused.empty;
    bad_journal = refused.bad_journal;
    damaged = refused.damaged;
    stands = refused.stands;
    kept = refused.kept;
    settled = refused.settled;
  }

  -- the disk was refused
  pub reads_refused : (f : OpenFault) (ran : Ran D) → ran.status ≡ status_of_fault f → GivesBack ran.disk → IsRefusedFor d i disk f ran.disk
      → MatchBool (is_disk f) (Rose (d.faults disk) (d.faults ran.disk) × (d.faults disk ≤ d.faults ran.disk)) (d.faults ran.disk ≡ d.faults disk)
      → ReadsWarehouse d i disk ran
  reads_refused f ran is back refused faults =
      content_refused (warehouses i) d disk (made_where_damaged i.DIMS) f ran is back (warehouse_refused_with f ran.disk refused) faults

  -- The house is the one of this disk.
  module _ (house : Warehouse D X d i) (o : IsOpenedFrom d i disk house) where
    -- a disk that is opened has a warehouse
    pub never_empty : IsTrue (d.tells disk) → is_empty (d.image disk) ≡ true → ⊥
    never_empty told none = let no : false ≡ true = sym (o.whole told).1.settled.made ∙ none in cc

    pub never_none : IsTrue (d.tells disk) → IsNoWarehouse i.DIMS (d.image disk) → ⊥
    never_none told none = none (params_in house) (meta_in house) (o.whole told).0 (o.whole told).1 o.numbers.0 o.numbers.1

    pub warehouse_opened_over : IsOpenedOver (warehouses i) d disk (disk_in house)
    warehouse_opened_over = record {
      made = never_empty;
      some = never_none;
      stands = o.stands;
      holds = λ told params h held. (o.holds params h told held).1;
      settled = o.settled;
    }

    -- It stands for the history that the disk holds, whole or as far as queries read.
    pub stands_here : GivesBack (disk_in house) → (whole : Bool) (params : Params) (h : History) → HoldsHistory d i whole disk params h
        → (params_in house ≡ params) × HoldsHistory d i whole (disk_in house) (params_in house) h
    stands_here back whole params h held =
        let here = opened d i whole disk (disk_in house) (params_in house) params h o.holds o.holds_trees back.tells held in
        (here.0, subst (λ (p : Params). HoldsHistory d i whole (disk_in house) p h) (sym here.0) here.1)

    -- The house after what was done with it is as it was.
    module _ (back : GivesBack (disk_in house)) (after : Warehouse D X d i)
        (kept : IsAsBefore params_in disk_in (HoldsHistory d i) (HasNewForm d) d.tells d.image d.moments (disk_charge d) house after) where
      pub warehouse_left_alike : IsLeftAlike (warehouses i) d disk (disk_in house) (disk_in after)
      warehouse_left_alike = record { tells = kept.tells; image = kept.image; moments = kept.moments }

      pub holds_on : (params : Params) (h : History) → HoldsHistory d i true disk params h → HoldsSurely d i params h (disk_in after)
      holds_on params h held = content_held (warehouses i) d disk (disk_in house) (disk_in after) warehouse_opened_over back warehouse_left_alike params h held

      pub reads_opened : (s : Status) → s ≢ NoWarehouse → ((page : ℕ) → s ≢ Damaged Journal page) → ReadsWarehouse d i disk (record { status = s; disk = disk_in after })
      reads_opened s there sound = content_read (warehouses i) d disk (disk_in house) (disk_in after) warehouse_opened_over back warehouse_left_alike s there sound
