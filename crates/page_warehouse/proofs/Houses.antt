-- What holds of a house holds of it as it is now, if it is as before.
use Rattle.std.proofs.Common.{◌≡◌, ℕ, true, List, [], refl, sym, ◌∙◌, ap, subst, IsPermutation}
use Rattle.std.proofs.lemmas.List.Sorted.{IsPermutation-sym, IsPermutation-trans}
use Rattle.bw_types.specs.History.{History}
use Rattle.bw_types.specs.Lives.{lives}
use Rattle.bw_types.specs.declared.dated.Dated.{Dated}
use Rattle.bw_types.specs.declared.params.Params.{Params}
use Rattle.page_disk.specs.Image.{Image}
use Rattle.page_disk.specs.declared.disk.Disk.{Ghosts}
use Rattle.dom_index.specs.declared.index.DomIndex.{Ghosts as IndexGhosts}
use Rattle.object_table.specs.Lives.{AreNext}
use Rattle.warehouse.specs.Left.{IsAsBefore}
use Rattle.page_warehouse.specs.Shown.{HasNewForm, HoldsHistory, disk_charge, disk_in, params_in}
use Rattle.page_warehouse.specs.Table.{IsTableOf, KeepsLives, TablesKeepLives}
use Rattle.page_warehouse.specs.declared.state.Warehouse.{Warehouse}
use Rattle.page_warehouse.specs.Events.{events_of, events_of_lives}
use Rattle.page_warehouse.specs.declared.event.Event.{Event}
use Rattle.page_warehouse.proofs.Before.{still_before}
use Rattle.page_warehouse.proofs.Rejoined.{rejoined}
use Rattle.page_warehouse.proofs.PassedLives.{lives_before, walk_ends}

module _ {D X : Type 0} (d : Ghosts D) (g : IndexGhosts X) where
  abbrev pub StaysAsBefore : Warehouse D X d g → Warehouse D X d g → Type 0
  StaysAsBefore old new = IsAsBefore params_in disk_in (HoldsHistory d g) (HasNewForm d) d.tells d.image d.moments (disk_charge d) old new

  pub stays : (house : Warehouse D X d g) → StaysAsBefore house house
  stays house = record { params = refl; stands = λ whole h held. held; current = λ has. has; tells = refl; image = refl; moments = refl; charge = refl }

  pub stays_on : (a b c : Warehouse D X d g) → StaysAsBefore a b → StaysAsBefore b c → StaysAsBefore a c
  stays_on a b c = still_before params_in disk_in (HoldsHistory d g) (HasNewForm d) d.tells d.image d.moments (disk_charge d) a b c

  -- it holds the history
  pub holds_now : (old now : Warehouse D X d g) (h : History) → StaysAsBefore old now → HoldsHistory d g true (disk_in old) (params_in old) h → HoldsHistory d g true (disk_in now) (params_in now) h
  holds_now old now h stay held = subst (λ (p : Params). HoldsHistory d g true (disk_in now) p h) (sym stay.params) (stay.stands true h held)

  -- its table keeps the lives
  pub keeps_now : (old now : Warehouse D X d g) (h : History) (kept : List Dated) → StaysAsBefore old now → KeepsLives g (d.image (disk_in old)) (params_in old) h kept
      → KeepsLives g (d.image (disk_in now)) (params_in now) h kept
  keeps_now old now h kept stay keeps =
      subst (λ (p : Params). KeepsLives g (d.image (disk_in now)) p h kept) (sym stay.params)
      (subst (λ (x : Image). KeepsLives g x (params_in old) h kept) (sym stay.image) keeps)

  -- All lives were passed: these are the events.
  pub all_passed : TablesKeepLives g → (house : Warehouse D X d g) (h : History) (k : ℕ) (events : List Event) (found : List Dated) → HoldsHistory d g true (disk_in house) (params_in house) h
      → ((kept : List Dated) → IsTableOf g (d.image (disk_in house)) (params_in house) h kept → events ≡ events_of_lives (lives_before k kept))
      → ((kept : List Dated) → IsTableOf g (d.image (disk_in house)) (params_in house) h kept → AreNext found k kept) → found ≡ []
      → (kept : List Dated) × (IsPermutation kept (lives h)) × (events ≡ events_of_lives kept)
  all_passed tables house h k events found held so_far next none =
      let table = tables (d.image (disk_in house)) (params_in house) h held.1 in
      (table.0, table.1.all, so_far table.0 table.1 ∙ ap events_of_lives (walk_ends k table.0 found table.1.ascend (next table.0 table.1) none))

-- the events of all lives, in any order
pub events_all : (h : History) (kept : List Dated) (events sorted : List Event) → IsPermutation kept (lives h) → events ≡ events_of_lives kept → IsPermutation events sorted
    → IsPermutation (events_of_lives (lives h)) sorted
events_all h kept events sorted all are same =
    IsPermutation-trans (events_of_lives (lives h)) (events_of_lives kept) sorted
    (IsPermutation-sym (events_of_lives kept) (events_of_lives (lives h)) (rejoined events_of kept (lives h) all))
    (subst (λ (es : List Event). IsPermutation es sorted) are same)
