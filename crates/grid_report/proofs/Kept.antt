-- What holds of a warehouse holds of it as it is now, if it is as before.
use Rattle.std.proofs.Common.{Bool, true, false, refl, sym, ◌∙◌, subst}
use Rattle.bw_types.specs.History.{History}
use Rattle.bw_types.specs.Lawful.{IsLawful}
use Rattle.bw_types.specs.declared.params.Params.{Params}
use Rattle.page_disk.specs.declared.disk.Disk.{Ghosts}
use Rattle.dom_index.specs.declared.index.DomIndex.{Ghosts as IndexGhosts}
use Rattle.warehouse.specs.Left.{IsAsBefore}
use Rattle.page_warehouse.specs.Shown.{HasNewForm, HoldsHistory, disk_charge, disk_in, params_in}
use Rattle.page_warehouse.specs.declared.state.Warehouse.{Warehouse}

module _ {D X : Type 0} (d : Ghosts D) (i : IndexGhosts X) where
  abbrev pub StaysAsBefore : Warehouse D X d i → Warehouse D X d i → Type 0
  StaysAsBefore old new = IsAsBefore params_in disk_in (HoldsHistory d i) (HasNewForm d) d.tells d.image d.moments (disk_charge d) old new

  pub stays : (house : Warehouse D X d i) → StaysAsBefore house house
  stays house = record { params = refl; stands = λ whole h held. held; current = λ has. has; tells = refl; image = refl; moments = refl; charge = refl }

  -- it holds the history
  pub holds-now : (old now : Warehouse D X d i) (whole : Bool) (h : History) → StaysAsBefore old now → HoldsHistory d i whole (disk_in old) (params_in old) h → HoldsHistory d i whole (disk_in now) (params_in now) h
  holds-now old now whole h stay held = subst (λ (p : Params). HoldsHistory d i whole (disk_in now) p h) (sym stay.params) (stay.stands whole h held)

  pub stays-on : (a b c : Warehouse D X d i) → StaysAsBefore a b → StaysAsBefore b c → StaysAsBefore a c
  stays-on a b c first second = record {
    params = second.params ∙ first.params;
    stands = λ whole h held.
        subst (λ (p : Params). HoldsHistory d i whole (disk_in c) p h) first.params (second.stands whole h (holds-now a b whole h first held));
    current = λ has. second.current (first.current has);
    tells = second.tells ∙ first.tells;
    image = second.image ∙ first.image;
    moments = second.moments ∙ first.moments;
    charge = second.charge ∙ first.charge;
  }

  -- the history is lawful
  pub lawful-held : (house : Warehouse D X d i) (whole : Bool) (h : History) → HoldsHistory d i whole (disk_in house) (params_in house) h → IsLawful (params_in house) h
  lawful-held house true h held = held.1.lawful
  lawful-held house false h held = held.1.lawful
