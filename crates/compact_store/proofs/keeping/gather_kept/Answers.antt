use Rattle.std.proofs.Common.{◌≡◌, true, false, List, sym, ◌∙◌, subst}
use Rattle.bw_types.specs.History.{History, live}
use Rattle.bw_types.specs.Lives.{lives}
use Rattle.page_warehouse.specs.Shown.{HoldsHistory, disk_in, params_in}
use Rattle.page_warehouse.specs.declared.event.Event.{Event}
use Rattle.page_warehouse.specs.declared.gathering.GatherFault.TheVariants.{Damaged}
use Rattle.page_warehouse.proofs.Houses.{holds_now}
use Rattle.compact_store.specs.Keeping.{HaveRoom, IsKept}
use Rattle.compact_store.proofs.Cutting.{has_room}
use Rattle.compact_store.proofs.Filled.{same_fault}
use Rattle.compact_store.proofs.LiveAdds.{adds_live}
use Rattle.compact_store.proofs.keeping.gather_kept.Given
use Rattle.compact_store.proofs.keeping.gather_kept.Goals.{In-Ok-adds_at}
use Rattle.compact_store.proofs.keeping.gather_kept.Goals as goal

pub returns-in-Err-clause-sound : goal.returns-in-Err-clause-sound
returns-in-Err-clause-sound g c = λ h page held e. c.gather.ensures.sound h page held (same_fault c.gather.result c.in-Err.fault (Damaged page) c.in-Err.is e)

pub returns-in-Err-gather_lives-clause-sound : goal.returns-in-Err-gather_lives-clause-sound
returns-in-Err-gather_lives-clause-sound g c = λ h page held e.
    let at = holds_now g.D.Disk g.X.DomIndex c.args.house.now c.gather.new.house h c.gather.ensures.kept held in
    c.gather_lives.ensures.sound h page at (same_fault c.gather_lives.result c.in-Err-gather_lives.fault (Damaged page) c.in-Err-gather_lives.is e)

-- what is gathered of a history that the disk holds
is_kept : (g : Given.Over) (c : In-Ok-adds_at g) → (h : History) → HoldsHistory g.D.Disk g.X.DomIndex true (disk_in c.args.house.now) (params_in c.args.house.now) h
    → IsKept h c.args.version c.in-Ok-adds_at.adds.items c.in-Ok.events.items
is_kept g c h held =
    let at = holds_now g.D.Disk g.X.DomIndex c.args.house.now c.gather.new.house h c.gather.ensures.kept held in
    record {
      adds_are = adds_live c.args.version c.in-Ok-adds_at.adds.items c.deref.result.now c.in-Ok-gather_lives.lives.items (lives h) (live h c.args.version) c.in-Ok-adds_at.ensures c.deref.ensures.value
          (c.in-Ok-gather_lives.ensures.lives h at) (c.lives_tell_live_objects.ensures.live h c.args.version);
      events_are = c.in-Ok.ensures.events h held;
    }

pub returns-clause-found : goal.returns-clause-found
returns-clause-found g c = is_kept g (goal.at.returns-clause-found g c).In-Ok-adds_at

pub returns-then-not-have_room-clause-sound : goal.returns-then-not-have_room-clause-sound
returns-then-not-have_room-clause-sound g c = λ h page held e.
    let is = is_kept g (goal.at.returns-then-not-have_room-clause-sound g c).In-Ok-adds_at h held in
    let room = has_room (params_in c.args.house.now) h c.args.version c.in-Ok-adds_at.adds.items c.in-Ok.events.items held.1.space.space.superblock.rules held.1.lawful is in
    let here : HaveRoom c.args.version c.deref-2.result.now c.deref-3.result.now =
    subst (λ (es : List Event). HaveRoom c.args.version es c.deref-3.result.now) (sym c.deref-2.ensures.value)
    (subst (λ (es : List Event). HaveRoom c.args.version c.in-Ok-adds_at.adds.items es) (sym c.deref-3.ensures.value) room) in
    let no : true ≡ false = sym (c.have_room.ensures.1 here) ∙ c.if-not-have_room.true in
    cc
