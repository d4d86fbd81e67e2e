-- A command that reads what is on a disk: what it leaves there, from what the opening answers and what is done with what was opened.
use Rattle.std.proofs.Common.{◌≡◌, ◌≢◌, ◌⊎◌, ◌≤◌, ℕ, true, IsTrue, List, inl, inr, refl, sym, ◌∙◌, ap, subst, rules}
use Rattle.std.specs.Bool.{MatchBool}
use Rattle.ports.specs.Count.{Rose}
use Rattle.bw_types.specs.History.{History}
use Rattle.bw_types.specs.declared.params.Params.{Params}
use Rattle.page_disk.specs.Image.{Image, PageList}
use Rattle.page_disk.specs.Moment.{Moment}
use Rattle.page_disk.specs.Since.{LeavesNow, LeavesOnly}
use Rattle.page_disk.specs.declared.disk.Area.TheVariants.{Pages, Journal}
use Rattle.page_disk.specs.declared.disk.Disk.{Ghosts as DiskGhosts}
use Rattle.redo_journal.specs.Gates.{gate_of, is_empty}
use Rattle.redo_journal.specs.Settled.{SettlesTo}
use Rattle.redo_journal.specs.declared.gate.Gate.TheVariants.{Blank, NoJournal, Armed}
use Rattle.page_space.specs.Faults.{AtBadJournal, AtDamaged, AtEmpty, is_disk}
use Rattle.page_space.specs.Opened.{StaysAsRead}
use Rattle.page_space.specs.Opening.{StandsAlike}
use Rattle.page_space.specs.Settling.{HasNoReplay, IsBadAt}
use Rattle.page_space.specs.declared.refusal.OpenFault.{OpenFault}
use Rattle.page_space.specs.declared.refusal.OpenFault.TheVariants as fault
use Rattle.boxsum.specs.Held.{Content, IsRefusal, LeavesEach, Refuses, SurelyHolds}
use Rattle.boxsum.specs.Ran.{ReadsContent}
use Rattle.boxsum.specs.Statuses.{status_of_fault}
use Rattle.boxsum.specs.declared.status.Ran.{Ran}
use Rattle.boxsum.specs.declared.status.Status.{Status}
use Rattle.boxsum.specs.declared.status.Status.TheVariants.{Fine, Usage, NoWarehouse, AlreadyThere, ReadFault, WriteFault, DiskFault, NoMemory, Damaged, InputLimit, PageLimit, NoVersion}
use Rattle.boxsum.proofs.Endings.{rises}
use Rattle.boxsum.proofs.Opened.{refuses, settled_has}

-- where there is no warehouse the gates say that nothing is replayed
blank_gate : (x : Image) → is_empty x ≡ true → gate_of x ≡ Blank
blank_gate x none = search rules

nothing_to_replay : (x : Image) → is_empty x ≡ true → HasNoReplay x
nothing_to_replay x none = λ armed. absurd (let no : Blank ≡ Armed = sym (blank_gate x none) ∙ armed in cc)

-- no page of an empty disk is at fault
abbrev pub IsNotEmptyAtFault : (Image → ℕ → Type 0) → Type 0
IsNotEmptyAtFault at_fault = (x : Image) (page : ℕ) → at_fault x page → is_empty x ≡ true → ⊥

-- and so it is refused for nothing else
empty_status : (at_fault : Image → ℕ → Type 0) → IsNotEmptyAtFault at_fault → (x : Image) (s : Status) → IsRefusal at_fault x s → is_empty x ≡ true → (s ≡ NoWarehouse) ⊎ ((s ≡ DiskFault) ⊎ (s ≡ NoMemory))
empty_status at_fault made x NoWarehouse cause none = inl refl
empty_status at_fault made x DiskFault cause none = inr (inl refl)
empty_status at_fault made x NoMemory cause none = inr (inr refl)
empty_status at_fault made x (Damaged Pages page) cause none = absurd (made x page cause none)
empty_status at_fault made x (Damaged Journal page) cause none = absurd (elim cause [
  | inl w ↦ (let no : Blank ≡ NoJournal = sym (blank_gate x none) ∙ w.0 in cc)
  | inr w ↦ (let no : Blank ≡ Armed = sym (blank_gate x none) ∙ w.0 in cc)
])
empty_status at_fault made x Fine cause none = absurd cause
empty_status at_fault made x Usage cause none = absurd cause
empty_status at_fault made x AlreadyThere cause none = absurd cause
empty_status at_fault made x ReadFault cause none = absurd cause
empty_status at_fault made x WriteFault cause none = absurd cause
empty_status at_fault made x (InputLimit taken) cause none = absurd cause
empty_status at_fault made x (PageLimit allotted) cause none = absurd cause
empty_status at_fault made x (NoVersion last) cause none = absurd cause

module _ {D : Type 0} (content : Content) (d : DiskGhosts D) (disk : D) where
  -- What an opening says of the disk that it gives back, whatever it answers.
  pub record GivesBack (back : D) : Type 0 where
    pub tells : d.tells back ≡ d.tells disk
    pub any_moment : IsTrue (d.tells disk) → (params : Params) (h : History) → content.holds params h (d.image disk) → LeavesOnly (content.holds params h) (d.moments disk) (d.moments back)
    pub stands_on : IsTrue (d.tells disk) → (pages : PageList) → SettlesTo (d.image disk) pages → LeavesOnly (λ x. SettlesTo x pages) (d.moments disk) (d.moments back)
    pub untouched : IsTrue (d.tells disk) → HasNoReplay (d.image disk) → StaysAsRead d disk back

  -- What it says of a disk that it refuses.
  pub record IsRefusedWith (f : OpenFault) (back : D) : Type 0 where
    pub empty : AtEmpty f (IsTrue (d.tells disk) → is_empty (d.image disk) ≡ true)
    pub bad_journal : AtBadJournal f (λ page. IsTrue (d.tells disk) → IsBadAt (d.image disk) page)
    pub damaged : AtDamaged f (λ page. IsTrue (d.tells disk) → content.fault (d.image disk) page)
    pub stands : f ≢ fault.Disk → IsTrue (d.tells disk) → StandsAlike (d.image disk) (d.image back)
    pub kept : f ≢ fault.Disk → IsTrue (d.tells disk) → (params : Params) (h : History) → content.holds params h (d.image disk) → content.holds params h (d.image back)
    pub settled : f ≢ fault.Disk → IsTrue (d.tells disk) → LeavesNow (d.moments back) (d.image back)

  -- the disk was refused
  pub content_refused : IsNotEmptyAtFault content.fault → (f : OpenFault) (ran : Ran D) → ran.status ≡ status_of_fault f → GivesBack ran.disk → IsRefusedWith f ran.disk
      → MatchBool (is_disk f) (Rose (d.faults disk) (d.faults ran.disk) × (d.faults disk ≤ d.faults ran.disk)) (d.faults ran.disk ≡ d.faults disk)
      → ReadsContent d disk ran content
  content_refused made f ran is back refused faults =
      let why : IsTrue (d.tells disk) → Refuses d content.fault disk ran = λ told.
      refuses d content.fault disk f ran told is refused.empty refused.bad_journal refused.damaged (back.stands_on told) refused.stands refused.settled in
      let cause : (s : Status) → ran.status ≡ s → IsTrue (d.tells disk) → IsRefusal content.fault (d.image disk) s = λ s so told.
      subst (λ (t : Status). IsRefusal content.fault (d.image disk) t) so (why told).cause in
      record {
        empty = λ told none. (back.untouched told (nothing_to_replay (d.image disk) none), empty_status content.fault made (d.image disk) ran.status (why told).cause none);
        empty_only = λ so told. cause NoWarehouse so told;
        refused = λ told none. why told;
        bad_journal = λ page so told. cause (Damaged Journal page) so told;
        only_read = λ told. record {
          stays = λ pages settles other. refused.stands (λ so. other (is ∙ ap status_of_fault so) (rises f _ _ faults so)) told pages settles;
          moments = λ pages settles. back.stands_on told pages settles;
          untouched = λ calm. back.untouched told calm;
        };
        holds = λ params h held other. (
          back.tells ∙ held.0,
          refused.kept (λ so. other (is ∙ ap status_of_fault so) (rises f _ _ faults so)) held.0 params h held.1,
        );
        moments = λ params h held. back.any_moment held.0 params h held.1;
      }

  -- What an opening says of the disk below what it opened.
  pub record IsOpenedOver (here : D) : Type 0 where
    pub made : IsTrue (d.tells disk) → is_empty (d.image disk) ≡ true → ⊥
    pub some : IsTrue (d.tells disk) → content.none (d.image disk) → ⊥
    pub stands : IsTrue (d.tells disk) → StandsAlike (d.image disk) (d.image here)
    pub holds : IsTrue (d.tells disk) → (params : Params) (h : History) → content.holds params h (d.image disk) → content.holds params h (d.image here)
    pub settled : LeavesNow (d.moments here) (d.image here)

  -- Reads and crashes find what they would have found before.
  pub record IsLeftAlike (here after : D) : Type 0 where
    pub tells : d.tells after ≡ d.tells here
    pub image : d.image after ≡ d.image here
    pub moments : d.moments after ≡ d.moments here

  -- It was opened, and what was done with it left it as it was.
  module _ (here after : D) (o : IsOpenedOver here) (back : GivesBack here) (kept : IsLeftAlike here after) where
    pub content_held : (params : Params) (h : History) → IsTrue (d.tells disk) × content.holds params h (d.image disk) → SurelyHolds d content params h after
    content_held params h held =
        let there = o.holds held.0 params h held.1 in
        record {
          holds = (kept.tells ∙ (back.tells ∙ held.0), subst (content.holds params h) (sym kept.image) there);
          left = subst (λ (ms : List Moment). LeavesEach (content.holds params h) ms) (sym kept.moments)
              (settled_has (content.holds params h) (d.moments here) (d.image here) o.settled there);
        }

    pub content_read : (s : Status) → s ≢ NoWarehouse → ((page : ℕ) → s ≢ Damaged Journal page) → ReadsContent d disk (record { status = s; disk = after }) content
    content_read s there sound = record {
      empty = λ told none. absurd (o.made told none);
      empty_only = λ so told. absurd (there so);
      refused = λ told none. absurd (o.some told none);
      bad_journal = λ page so told. absurd (sound page so);
      only_read = λ told. record {
        stays = λ pages settles other. subst (λ (x : Image). SettlesTo x pages) (sym kept.image) (o.stands told pages settles);
        moments = λ pages settles.
            subst (λ (ms : List Moment). LeavesOnly (λ x. SettlesTo x pages) (d.moments disk) ms) (sym kept.moments) (back.stands_on told pages settles);
        untouched = λ calm. let u = back.untouched told calm in record {
          image = kept.image ∙ u.image;
          moments = subst (λ (ms : List Moment). LeavesOnly (λ x. x ≡ d.image disk) (d.moments disk) ms) (sym kept.moments) u.moments;
        };
      };
      holds = λ params h held other. (content_held params h held).holds;
      moments = λ params h held.
          subst (λ (ms : List Moment). LeavesOnly (content.holds params h) (d.moments disk) ms) (sym kept.moments) (back.any_moment held.0 params h held.1);
    }
