-- A second disk with a new warehouse, to which a history is written.
use Rattle.std.proofs.Common.{◌≡◌, ◌≢◌, ℕ, ◌≤◌, true, false, IsTrue, List, [], ◌++◌, Result, Ok, Err, length, replicate, inl, inr, refl, sym, ◌∙◌, ap, subst, arith}
use Rattle.std.proofs.lemmas.List.{append-nil, length-replicate}
use Rattle.std.specs.Bool.{MatchBool}
use Rattle.bw_types.specs.Fits.{IsInRange}
use Rattle.bw_types.specs.History.{History, changes}
use Rattle.bw_types.specs.Lawful.{IsLawful}
use Rattle.bw_types.specs.declared.params.Params.{Params}
use Rattle.ports.specs.Count.{Rose}
use Rattle.dom_index.specs.declared.index.DomIndex.{Ghosts as IndexGhosts}
use Rattle.page_warehouse.specs.declared.gathering.GatherFault.{GatherFault}
use Rattle.page_warehouse.specs.declared.gathering.GatherFault.TheVariants as gather_fault
use Rattle.page_disk.specs.Image.{Image}
use Rattle.page_disk.specs.Moment.{Moment, MayBeLeftNow, clock_of}
use Rattle.page_disk.specs.Since.{LeavesNow, LeavesOnly}
use Rattle.page_disk.specs.declared.disk.Disk.{Ghosts}
use Rattle.page_space.specs.Faults.{is_disk}
use Rattle.page_space.specs.Opened.{StaysAsRead}
use Rattle.page_space.specs.declared.refusal.OpenFault.{OpenFault}
use Rattle.page_space.specs.declared.refusal.OpenFault.TheVariants as open_fault
use Rattle.page_space.specs.declared.refusal.OpenRefused.{OpenRefused}
use Rattle.page_warehouse.specs.Created.{IsEmptyOrNew, IsNew}
use Rattle.page_warehouse.specs.Holds.{Holds}
use Rattle.page_warehouse.specs.Laws.{HoldsForQueries, NewHoldsNothing}
use Rattle.page_warehouse.specs.Opened.{IsOpenedFrom, IsRefusedFor, opened_disk}
use Rattle.page_warehouse.specs.Shown.{disk_charge, disk_in, params_in}
use Rattle.page_warehouse.specs.declared.state.Warehouse.{Warehouse}
use Rattle.redo_journal.specs.Gates.{is_empty}
use Rattle.compact_store.specs.Compacted.{IsEmptyOrHoldsPart, LeavesPart, LeavesSome, StaysWhereFull, second_out}
use Rattle.compact_store.specs.Ended.{ended_of, refusal_of}
use Rattle.compact_store.specs.Putting.{CountsItsPages, GoesTo, IsReady, Puts, StandsBefore, is_written}
use Rattle.page_layout.specs.declared.meta.Meta.{Meta}
use Rattle.compact_store.specs.declared.compacting.Compacted.{Compacted}
use Rattle.compact_store.specs.declared.compacting.Compacted.TheVariants.{Done, NoVersion, AlreadyThere, Damaged, NoMemory, Disk}
use Rattle.compact_store.proofs.NewCharge.{new_charge, new_counts}
use Rattle.compact_store.proofs.Steps.{damaged_leaves, failed_leaves, memory_leaves, went_on}

-- one stretch of calls after the other
then_only : (Q R : Image → Type 0) (first second third : List Moment) → ((x : Image) → Q x → R x) → LeavesOnly R first second → LeavesOnly Q second third → LeavesOnly R first third
then_only Q R first second third step f s = went_on Q R first second third step f (record { later = s.later; each = s.each })

wider : (P Q : Image → Type 0) (old new : List Moment) → ((x : Image) → P x → Q x) → LeavesOnly P old new → LeavesOnly Q old new
wider P Q old new step f = record {
  later = f.later;
  each = λ t x le left. elim (f.each t x le left) [ inl before ↦ inl before | inr has ↦ inr (step x has) ];
}

-- where nothing happened, nothing more is left
pub same_moments : (P : Image → Type 0) (moments : List Moment) → LeavesOnly P moments moments
same_moments P moments = record { later = (let n : ℕ = clock_of moments in omega arith); each = λ t x le left. inl left }

-- the same refusal of a call of another type
pub same_fault : {T U F : Type 0} (r : Result T F) (fault other : F) → r ≡ Err fault → ◌≡◌ {A = Result U F} (Err fault) (Err other) → r ≡ Err other
same_fault r fault other is e = let same : fault ≡ other = cc in is ∙ ap Err same

-- the ends by a fault
pub ended_out : {E : Type 0} (fault : GatherFault) (second : E) → second_out (ended_of fault second) ≡ second
ended_out gather_fault.Disk second = refl
ended_out (gather_fault.Damaged page) second = refl
ended_out gather_fault.NoMemory second = refl

pub ended_written : {E : Type 0} (fault : GatherFault) (second : E) → IsTrue (is_written (ended_of fault second))
ended_written gather_fault.Disk second = refl
ended_written (gather_fault.Damaged page) second = refl
ended_written gather_fault.NoMemory second = refl

pub ended_damaged : {E : Type 0} (fault : GatherFault) (second e : E) (page : ℕ) → ended_of fault second ≡ Damaged e page → fault ≡ gather_fault.Damaged page
ended_damaged gather_fault.Disk second e page is = absurd (cc)
ended_damaged (gather_fault.Damaged n) second e page is = (let same : n ≡ page = cc in ap gather_fault.Damaged same)
ended_damaged gather_fault.NoMemory second e page is = absurd (cc)

pub ended_undone : {E : Type 0} (fault : GatherFault) (second e : E) (rows : ℕ) → ended_of fault second ≢ Done e rows
ended_undone gather_fault.Disk second e rows is = cc
ended_undone (gather_fault.Damaged page) second e rows is = cc
ended_undone gather_fault.NoMemory second e rows is = cc

pub ended_disk : {E : Type 0} (fault : GatherFault) (second e : E) → ended_of fault second ≡ Disk e → fault ≡ gather_fault.Disk
ended_disk gather_fault.Disk second e is = refl
ended_disk (gather_fault.Damaged page) second e is = absurd (cc)
ended_disk gather_fault.NoMemory second e is = absurd (cc)

pub refusal_out : {E : Type 0} (fault : OpenFault) (second : E) → second_out (refusal_of fault second) ≡ second
refusal_out open_fault.Disk second = refl
refusal_out open_fault.Empty second = refl
refusal_out (open_fault.Damaged page) second = refl
refusal_out open_fault.NoMemory second = refl
refusal_out (open_fault.BadJournal page) second = refl

pub refusal_written : {E : Type 0} (fault : OpenFault) (second : E) → IsTrue (is_written (refusal_of fault second))
refusal_written open_fault.Disk second = refl
refusal_written open_fault.Empty second = refl
refusal_written (open_fault.Damaged page) second = refl
refusal_written open_fault.NoMemory second = refl
refusal_written (open_fault.BadJournal page) second = refl

-- the count of faults rose where the device failed, and never falls
pub refusal_rose : {E : Type 0} (fault : OpenFault) (second e : E) (faults : E → ℕ) (old : ℕ) → MatchBool (is_disk fault) (Rose old (faults second) × (old ≤ faults second)) (faults second ≡ old)
    → refusal_of fault second ≡ Disk e → Rose old (faults e)
refusal_rose open_fault.Disk second e faults old rose is = (let same : second ≡ e = cc in subst (λ d. Rose old (faults d)) same rose.0)
refusal_rose open_fault.Empty second e faults old rose is = absurd (cc)
refusal_rose (open_fault.Damaged page) second e faults old rose is = absurd (cc)
refusal_rose open_fault.NoMemory second e faults old rose is = absurd (cc)
refusal_rose (open_fault.BadJournal page) second e faults old rose is = absurd (cc)

pub never_falls : (fault : OpenFault) (old new : ℕ) → MatchBool (is_disk fault) (Rose old new × (old ≤ new)) (new ≡ old) → old ≤ new
never_falls open_fault.Disk old new rose = rose.1
never_falls open_fault.Empty old new same = omega (arith, same)
never_falls (open_fault.Damaged page) old new same = omega (arith, same)
never_falls open_fault.NoMemory old new same = omega (arith, same)
never_falls (open_fault.BadJournal page) old new same = omega (arith, same)

-- an end that was written to is neither of two
pub not_no_version : {E : Type 0} (result : Compacted E) (e : E) (last : ℕ) → IsTrue (is_written result) → result ≢ NoVersion e last
not_no_version result e last written is = let no : false ≡ true = subst (λ (r : Compacted _). is_written r ≡ true) is written in cc

pub not_there : {E : Type 0} (result : Compacted E) (e : E) → IsTrue (is_written result) → result ≢ AlreadyThere e
not_there result e written is = let no : false ≡ true = subst (λ (r : Compacted _). is_written r ≡ true) is written in cc

module _ {E X : Type 0} (g : Ghosts E) (i : IndexGhosts X) where
  -- a disk that was opened stands where it stood
  opened_before : (params : Params) (whole later : History) (start second new : E) → (b : StandsBefore g i params whole later start second) → g.tells new ≡ g.tells second
      → Holds i (g.image new) params b.part → LeavesNow (g.moments new) (g.image new) → LeavesOnly (λ x. Holds i x params b.part) (g.moments second) (g.moments new)
      → disk_charge g new ≤ disk_charge g second → StandsBefore g i params whole later start new
  opened_before params whole later start second new b tells holds settled moments charge = record {
    part = b.part;
    cut = b.cut;
    tells = subst IsTrue (sym tells) b.tells;
    holds = holds;
    left = λ x left. subst (λ (y : Image). Holds i y params b.part) (sym (settled x left)) holds;
    moments = then_only (λ x. Holds i x params b.part) (IsEmptyOrHoldsPart i params whole) (g.moments start) (g.moments second) (g.moments new)
        (λ x held. inr (record { part = b.part; later = later; cut = b.cut; holds = held })) b.moments moments;
    charge = omega (arith, charge, b.charge);
  }

  new_part : NewHoldsNothing i → (params : Params) (whole : History) → IsInRange params → params.dims ≤ i.DIMS → (x : Image) → IsEmptyOrNew params x → IsEmptyOrHoldsPart i params whole x
  new_part law params whole range dims x is = elim is [
    | inl empty ↦ inl empty
    | inr new ↦ inr (record { part = []; later = whole; cut = refl; holds = law x params range dims new })
  ]

  -- a new warehouse stands before the whole history
  new_before : NewHoldsNothing i → (params : Params) (whole : History) (disk new : E) → IsInRange params → params.dims ≤ i.DIMS → IsTrue (g.tells new)
      → IsNew params (g.image new) → LeavesNow (g.moments new) (g.image new) → LeavesOnly (IsEmptyOrNew params) (g.moments disk) (g.moments new) → StandsBefore g i params whole whole disk new
  new_before law params whole disk new range dims tells is settled moments =
      let holds : Holds i (g.image new) params [] = law (g.image new) params range dims is in
      record {
        part = [];
        cut = refl;
        tells = tells;
        holds = holds;
        left = λ x left. subst (λ (y : Image). Holds i y params []) (sym (settled x left)) holds;
        moments = wider (IsEmptyOrNew params) (IsEmptyOrHoldsPart i params whole) (g.moments disk) (g.moments new) (new_part law params whole range dims) moments;
        charge = omega (arith, new_charge params range (g.image new) is);
      }

  -- so it is ready for any
  pub new_ready : NewHoldsNothing i → (params given : Params) (disk new : E) → given ≡ params → IsInRange given → params.dims ≤ i.DIMS → IsTrue (g.tells new)
      → IsNew given (g.image new) → LeavesNow (g.moments new) (g.image new) → LeavesOnly (IsEmptyOrNew given) (g.moments disk) (g.moments new) → IsReady g i params disk new
  new_ready law params given disk new same range dims tells is settled moments =
      let is_new : IsNew params (g.image new) = subst (λ (p : Params). IsNew p (g.image new)) same is in (
        (λ whole. new_before law params whole disk new (subst IsInRange same range) dims tells is_new settled (subst (λ (p : Params). LeavesOnly (IsEmptyOrNew p) (g.moments disk) (g.moments new)) same moments)),
        (λ pages settles. new_counts params (g.image new) pages is_new settles),
      )

  -- and where it failed on the way, the moments tell
  pub new_failed : NewHoldsNothing i → (params given : Params) (whole : History) (disk new : E) → given ≡ params → IsInRange given → params.dims ≤ i.DIMS
      → LeavesOnly (IsEmptyOrNew given) (g.moments disk) (g.moments new) → LeavesPart g i params whole disk (Disk new)
  new_failed law params given whole disk new same range dims moments =
      failed_leaves g i params whole disk new
      (wider (IsEmptyOrNew given) (IsEmptyOrHoldsPart i params whole) (g.moments disk) (g.moments new)
      (subst (λ (p : Params). (x : Image) → IsEmptyOrNew p x → IsEmptyOrHoldsPart i params whole x) (sym same) (new_part law params whole (subst IsInRange same range) dims)) moments)

  -- where nothing was gathered
  pub nothing_gathered : (params : Params) (whole : History) (start second : E) (fault : GatherFault) → StandsBefore g i params whole whole start second
      → LeavesPart g i params whole start (ended_of fault second)
  nothing_gathered params whole start second gather_fault.Disk b = failed_leaves g i params whole start second b.moments
  nothing_gathered params whole start second (gather_fault.Damaged page) b = damaged_leaves g i params whole whole start second second page b refl refl refl
  nothing_gathered params whole start second gather_fault.NoMemory b = memory_leaves g i params whole whole start second second b refl refl refl

  -- what leaves a part of any history leaves one of empty batches
  pub some_of_any : (params : Params) (meta : Meta) (version : ℕ) (start : E) (result : Compacted E) → ((e : E) (rows : ℕ) → result ≢ Done e rows) → ((whole : History) → LeavesPart g i params whole start result)
      → LeavesSome g i params meta version start result
  some_of_any params meta version start result undone leaves = record {
    whole = replicate meta.version [];
    last = length-replicate meta.version [];
    leaves = leaves (replicate meta.version []);
    later = λ e rows done. absurd (undone e rows done);
  }

  -- what an opening leaves of a disk that stands before the history
  module _ (params : Params) (whole : History) (start second : E) (opening : Result (Warehouse E X g i) (OpenRefused E)) (b : StandsBefore g i params whole whole start second)
      (tells : g.tells (opened_disk disk_in opening) ≡ g.tells second)
      (any_moment : IsTrue (g.tells second) → (p : Params) (h : History) → Holds i (g.image second) p h → LeavesOnly (λ x. Holds i x p h) (g.moments second) (g.moments (opened_disk disk_in opening))) where
    tells_on : (r : Result (Warehouse E X g i) (OpenRefused E)) → opening ≡ r → g.tells (opened_disk disk_in r) ≡ g.tells second
    tells_on r is = subst (λ (q : Result (Warehouse E X g i) (OpenRefused E)). g.tells (opened_disk disk_in q) ≡ g.tells second) is tells

    moments_on : (r : Result (Warehouse E X g i) (OpenRefused E)) → opening ≡ r → LeavesOnly (λ x. Holds i x params b.part) (g.moments second) (g.moments (opened_disk disk_in r))
    moments_on r is =
        subst (λ (q : Result (Warehouse E X g i) (OpenRefused E)). LeavesOnly (λ x. Holds i x params b.part) (g.moments second) (g.moments (opened_disk disk_in q))) is (any_moment b.tells params b.part b.holds)

    -- where it was not opened
    pub refused_leaves : HoldsForQueries i → (refused : OpenRefused E) → opening ≡ Err refused → IsRefusedFor g i second refused.fault refused.disk
        → LeavesPart g i params whole start (refusal_of refused.fault refused.disk)
    refused_leaves law refused is told =
        elim (told.sound b.tells params b.part (law (g.image second) params b.part b.holds)) [
          | inl disk ↦
              subst (λ (f : OpenFault). LeavesPart g i params whole start (refusal_of f refused.disk)) (sym disk)
              (failed_leaves g i params whole start refused.disk
              (then_only (λ x. Holds i x params b.part) (IsEmptyOrHoldsPart i params whole) (g.moments start) (g.moments second) (g.moments refused.disk)
              (λ x held. inr (record { part = b.part; later = whole; cut = b.cut; holds = held })) b.moments (moments_on (Err refused) is)))
          | inr memory ↦
              let other : refused.fault ≢ open_fault.Disk = λ e. (let no : open_fault.NoMemory ≡ open_fault.Disk = sym memory ∙ e in cc) in
              subst (λ (f : OpenFault). LeavesPart g i params whole start (refusal_of f refused.disk)) (sym memory)
              (record {
                now = λ failed. (
                  subst IsTrue (sym (tells_on (Err refused) is)) b.tells,
                  inr (record { part = b.part; later = whole; cut = b.cut; holds = told.kept other b.tells params b.part b.holds }),
                );
                moments = then_only (λ x. Holds i x params b.part) (IsEmptyOrHoldsPart i params whole) (g.moments start) (g.moments second) (g.moments refused.disk)
                    (λ x held. inr (record { part = b.part; later = whole; cut = b.cut; holds = held })) b.moments (moments_on (Err refused) is);
                done = λ e rows ended. absurd (cc);
                limit = λ e allotted ended. absurd (cc);
                enough_pages = λ e allotted few ended. absurd (cc);
              })
        ]

    -- no page was damaged then
    pub refused_sound : HoldsForQueries i → (refused : OpenRefused E) (e : E) (page : ℕ) → IsRefusedFor g i second refused.fault refused.disk
        → refusal_of refused.fault refused.disk ≢ Damaged e page
    refused_sound law refused e page told is =
        elim (told.sound b.tells params b.part (law (g.image second) params b.part b.holds)) [
          | inl disk ↦ (let no : Disk refused.disk ≡ Damaged e page = subst (λ (f : OpenFault). refusal_of f refused.disk ≡ Damaged e page) disk is in cc)
          | inr memory ↦ (let no : NoMemory refused.disk ≡ Damaged e page = subst (λ (f : OpenFault). refusal_of f refused.disk ≡ Damaged e page) memory is in cc)
        ]

    -- the warehouse that was opened stands before all batches
    module _ (counts : CountsItsPages g i second) (house : Warehouse E X g i) (result : Result (Warehouse E X g i) (Compacted E)) (is : opening ≡ Ok house) (opened : IsOpenedFrom g i second house)
        (puts : Puts g i whole house result) where
      stands : (params_in house ≡ params) × StandsBefore g i params whole (whole ++ []) start (disk_in house)
      stands =
          let held = opened.holds params b.part b.tells b.holds in (
            held.0,
            subst (λ (k : History). StandsBefore g i params whole k start (disk_in house)) (sym (append-nil whole))
                (opened_before params whole whole start second (disk_in house) b (tells_on (Ok house) is) held.1 opened.settled (moments_on (Ok house) is) (counts (g.image (disk_in house)).pages (opened.settles b.tells))),
          )

      -- they are put
      pub all_put : GoesTo g i params whole [] start result
      all_put = puts.goes params whole [] start stands.0 stands.1

      -- and where they are lawful, nothing is damaged
      pub all_sound : IsLawful params whole → (e : E) (page : ℕ) → result ≢ Err (Damaged e page)
      all_sound lawful e page = puts.sound params whole [] start e page stands.0 lawful stands.1

  -- the whole is there
  pub done_leaves : (params : Params) (whole : History) (start disk : E) (rows : ℕ) → StandsBefore g i params whole [] start disk → rows ≡ length (changes whole) → LeavesPart g i params whole start (Done disk rows)
  done_leaves params whole start disk rows b count =
      let same : b.part ≡ whole = sym (append-nil b.part) ∙ sym b.cut in
      record {
        now = λ other. (b.tells, inr (record { part = b.part; later = []; cut = b.cut; holds = b.holds }));
        moments = b.moments;
        done = λ e n is.
            let same_disk : disk ≡ e = cc in
            let same_rows : rows ≡ n = cc in (
              sym same_rows ∙ count,
              subst (λ (d : E). Holds i (g.image d) params whole × ((x : Image) → MayBeLeftNow (g.moments d) x → Holds i x params whole)) same_disk
                  (subst (λ (h : History). Holds i (g.image disk) params h) same b.holds, λ x left. subst (λ (h : History). Holds i x params h) same (b.left x left)),
            );
        limit = λ e allotted is. absurd (cc);
        enough_pages = λ e allotted few is. absurd (cc);
      }

module _ {E : Type 0} (g : Ghosts E) where
  -- an end other than these two where the disk is empty
  pub empty_before : (second : E) (result : Compacted E) → (IsTrue (g.tells second) → is_empty (g.image second) ≡ true) → IsTrue (is_written result) → StaysWhereFull g second result
  empty_before second result empty written = record {
    there = λ told full. (let no : true ≡ false = sym (empty told) ∙ full in absurd (cc));
    only = λ e is. absurd (not_there result e written is);
  }

  -- a disk with something on it
  pub full_before : (second new : E) → (IsTrue (g.tells second) → is_empty (g.image second) ≡ false) → (IsTrue (g.tells second) → StaysAsRead g second new) → StaysWhereFull g second (AlreadyThere new)
  full_before second new full stays = record {
    there = λ told is. (stays told, ((λ e rows ended. absurd (cc)), ((λ e allotted ended. absurd (cc)), ((λ e page ended. absurd (cc)), (λ e ended. absurd (cc))))));
    only = λ e is told. full told;
  }

  pub failed_before : (second new : E) → (IsTrue (g.tells second) → is_empty (g.image second) ≡ false → StaysAsRead g second new) → StaysWhereFull g second (Disk new)
  failed_before second new stays = record {
    there = λ told is. (stays told is, ((λ e rows ended. absurd (cc)), ((λ e allotted ended. absurd (cc)), ((λ e page ended. absurd (cc)), (λ e ended. absurd (cc))))));
    only = λ e is. absurd (cc);
  }

  pub not_called : (second : E) (last : ℕ) → StaysWhereFull g second (NoVersion second last)
  not_called second last = record {
    there = λ told is. (
      record { image = refl; moments = same_moments (λ x. x ≡ g.image second) (g.moments second) },
      ((λ e rows ended. absurd (cc)), ((λ e allotted ended. absurd (cc)), ((λ e page ended. absurd (cc)), (λ e ended. absurd (cc))))),
    );
    only = λ e is. absurd (cc);
  }
