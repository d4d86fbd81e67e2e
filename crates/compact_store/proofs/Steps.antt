-- One batch more on the second disk.
use Rattle.std.proofs.Common.{◌≡◌, ◌≢◌, ◌⊎◌, ℕ, ◌+◌, ◌<◌, ◌≤◌, true, false, IsTrue, List, [], ◌∷◌, ◌++◌, Option, Some, None, Result, Ok, Err, length, inl, inr, refl, sym, ◌∙◌, ap, subst, append_assoc, arith}
use Rattle.std.proofs.lemmas.Bool.{leb-true}
use Rattle.std.proofs.lemmas.List.{append-nil}
use Rattle.std.specs.List.{list_all}
use Rattle.bw_types.specs.Fits.{row_fits}
use Rattle.bw_types.specs.History.{History, flat}
use Rattle.bw_types.specs.Lawful.{AreLawfulAfter, IsLawful, IsLawfulBatch, staged_rows}
use Rattle.bw_types.specs.Refusals.{first_refusal}
use Rattle.bw_types.specs.declared.change.Change.{Change}
use Rattle.bw_types.specs.declared.params.Params.{Params}
use Rattle.bw_types.specs.declared.refusal.Refusal.{Refusal}
use Rattle.bw_types.specs.declared.row.Row.{Row}
use Rattle.ports.specs.Count.{Rose}
use Rattle.dom_index.specs.declared.index.DomIndex.{Ghosts as IndexGhosts}
use Rattle.history_laws.proofs.Staging.{flat_staged}
use Rattle.page_disk.specs.Image.{Image}
use Rattle.page_disk.specs.Moment.{Moment, MayBeLeftNow, MayBeLeftSince, clock_of}
use Rattle.page_disk.specs.Since.{LeavesOnly}
use Rattle.page_disk.specs.declared.disk.Disk.{Ghosts}
use Rattle.page_warehouse.specs.Holds.{Holds}
use Rattle.page_warehouse.specs.Needs.{LacksPages, RisesWithin, batch_need}
use Rattle.page_warehouse.specs.Shown.{HasNewForm, HoldsHistory, disk_charge, disk_in, params_in}
use Rattle.page_warehouse.specs.declared.state.Warehouse.{Warehouse}
use Rattle.warehouse.specs.Committed.{IfDone, IfKept, IfPageLimit, IsCommitCause, after_commit, device_out}
use Rattle.warehouse.specs.Crashes.{OnlyLeaves}
use Rattle.warehouse.specs.Left.{CrashLeavesEither, DeviceGoesOn, IsAsBefore, IsPutLast}
use Rattle.warehouse.specs.declared.committed.Committed.{Committed}
use Rattle.warehouse.specs.declared.committed.Committed.TheVariants as committed
use Rattle.compact_store.specs.Compacted.{HoldsPart, IsEmptyOrHoldsPart, LacksNext, LeavesPart, batches_need, second_out}
use Rattle.compact_store.specs.Putting.{GoesTo, Puts, StandsBefore, outcome_of}
use Rattle.compact_store.specs.declared.compacting.Compacted.{Compacted}
use Rattle.compact_store.specs.declared.compacting.Compacted.TheVariants.{Done, PageLimit, Damaged, NoMemory, Disk}
use Rattle.compact_store.proofs.LaterBatches.{none_is}

-- the next batch of a lawful history is lawful
next_lawful : (params : Params) (before h : History) (batch : List Change) (later : History) → AreLawfulAfter params before (h ++ batch ∷ later) → IsLawfulBatch params (before ++ h) batch
next_lawful params before [] batch later lawful = subst (λ (k : History). IsLawfulBatch params k batch) (sym (append-nil before)) lawful.0
next_lawful params before (b ∷ h) batch later lawful =
    subst (λ (k : History). IsLawfulBatch params k batch) (append_assoc before (b ∷ []) h) (next_lawful params (before ++ b ∷ []) h batch later lawful.1)

-- one stretch of calls after the other
pub went_on : (Q R : Image → Type 0) (first second third : List Moment) → ((x : Image) → Q x → R x) → LeavesOnly R first second → OnlyLeaves clock_of MayBeLeftSince Q second third → LeavesOnly R first third
went_on Q R first second third step f s = record {
  later = let a : clock_of first ≤ clock_of second = f.later in
      let b : clock_of second ≤ clock_of third = s.later in omega arith;
  each = λ t x le left.
      let within : t ≤ clock_of second = let a : clock_of first ≤ clock_of second = f.later in omega arith in
      elim (s.each t x within left) [ inl before ↦ f.each t x le before | inr has ↦ inr (step x has) ];
}

module _ {E X : Type 0} (g : Ghosts E) (i : IndexGhosts X) where
  -- a disk that is as before holds a first part
  pub ended_leaves : (params : Params) (whole later : History) (start disk : E) (result : Compacted E) → StandsBefore g i params whole later start disk
      → g.tells (second_out result) ≡ g.tells disk → g.image (second_out result) ≡ g.image disk → g.moments (second_out result) ≡ g.moments disk
      → ((e : E) (rows : ℕ) → result ≢ Done e rows) → ((e : E) (allotted : ℕ) → result ≡ PageLimit e allotted → (allotted ≡ params.pages) × LacksNext i params whole (g.image e))
      → ((e : E) (allotted : ℕ) → 3 + batches_need params [] whole ≤ params.pages → result ≢ PageLimit e allotted) → LeavesPart g i params whole start result
  ended_leaves params whole later start disk result b tells image moments not_done limit enough = record {
    now = λ other.
        (subst IsTrue (sym tells) b.tells, inr (subst (λ (x : Image). HoldsPart i params whole x) (sym image) (record { part = b.part; later = later; cut = b.cut; holds = b.holds })));
    moments = subst (λ (ms : List Moment). LeavesOnly (IsEmptyOrHoldsPart i params whole) (g.moments start) ms) (sym moments) b.moments;
    done = λ e rows is. absurd (not_done e rows is);
    limit = limit;
    enough_pages = enough;
  }

  -- where the disk failed, only the moments tell
  pub failed_leaves : (params : Params) (whole : History) (start disk : E) → LeavesOnly (IsEmptyOrHoldsPart i params whole) (g.moments start) (g.moments disk) → LeavesPart g i params whole start (Disk disk)
  failed_leaves params whole start disk moments = record {
    now = λ other. absurd (other disk refl);
    moments = moments;
    done = λ e rows is. absurd (cc);
    limit = λ e allotted is. absurd (cc);
    enough_pages = λ e allotted few is. absurd (cc);
  }

  -- for want of memory
  pub memory_leaves : (params : Params) (whole later : History) (start disk end : E) → StandsBefore g i params whole later start disk
      → g.tells end ≡ g.tells disk → g.image end ≡ g.image disk → g.moments end ≡ g.moments disk → LeavesPart g i params whole start (NoMemory end)
  memory_leaves params whole later start disk end b tells image moments =
      ended_leaves params whole later start disk (NoMemory end) b tells image moments (λ e rows is. absurd (cc)) (λ e allotted is. absurd (cc)) (λ e allotted few is. absurd (cc))

  -- for a page that is damaged
  pub damaged_leaves : (params : Params) (whole later : History) (start disk end : E) (page : ℕ) → StandsBefore g i params whole later start disk
      → g.tells end ≡ g.tells disk → g.image end ≡ g.image disk → g.moments end ≡ g.moments disk → LeavesPart g i params whole start (Damaged end page)
  damaged_leaves params whole later start disk end page b tells image moments =
      ended_leaves params whole later start disk (Damaged end page) b tells image moments (λ e rows is. absurd (cc)) (λ e allotted is. absurd (cc)) (λ e allotted few is. absurd (cc))

  -- the next batch of a lawful history is lawful on those that are there
  next_is : (params : Params) (whole later : History) (batch : List Change) (start disk : E) → IsLawful params whole → (b : StandsBefore g i params whole (batch ∷ later) start disk)
      → IsLawfulBatch params b.part batch
  next_is params whole later batch start disk lawful b = next_lawful params [] b.part batch later (subst (λ (k : History). IsLawful params k) b.cut lawful)

  pub longer : (params : Params) (whole later : History) (batch : List Change) (start disk : E) → (b : StandsBefore g i params whole (batch ∷ later) start disk) → whole ≡ (b.part ++ batch ∷ []) ++ later
  longer params whole later batch start disk b = b.cut ∙ sym (append_assoc b.part (batch ∷ []) later)

  -- what is put where the house stands before the batch by its own params is put by those
  by_params : (params : Params) (batches whole later : History) (start : E) (house : Warehouse E X g i) (result : Result (Warehouse E X g i) (Compacted E))
      → (StandsBefore g i (params_in house) whole (batches ++ later) start (disk_in house) → GoesTo g i (params_in house) whole later start result)
      → params_in house ≡ params → StandsBefore g i params whole (batches ++ later) start (disk_in house) → GoesTo g i params whole later start result
  by_params params batches whole later start house result goes same b =
      subst (λ (p : Params). GoesTo g i p whole later start result) same
      (goes (subst (λ (p : Params). StandsBefore g i p whole (batches ++ later) start (disk_in house)) (sym same) b))

  -- A batch is refused, and the house is as it was. The batch is the next one of no lawful history.
  refused_puts : (batch : List Change) (house : Warehouse E X g i) (new : E) → g.tells new ≡ g.tells (disk_in house) → g.image new ≡ g.image (disk_in house) → g.moments new ≡ g.moments (disk_in house)
      → g.faults (disk_in house) ≤ g.faults new → ((h : History) → HoldsHistory g i true (disk_in house) (params_in house) h → IsLawfulBatch (params_in house) h batch → ⊥)
      → Puts g i (batch ∷ []) house (Err (Damaged new 2))
  refused_puts batch house new tells image moments faults not_so = record {
    tells = tells;
    faults = faults;
    disk = λ e failed. absurd (cc);
    written = refl;
    goes = λ params whole later start same. by_params params (batch ∷ []) whole later start house (Err (Damaged new 2)) (λ b.
        damaged_leaves (params_in house) whole (batch ∷ later) start (disk_in house) new 2 b tells image moments) same;
    sound = λ params whole later start e page same lawful b ended.
        let own = subst (λ (p : Params). StandsBefore g i p whole (batch ∷ later) start (disk_in house)) (sym same) b in
        not_so own.part (own.tells, own.holds) (next_is (params_in house) whole later batch start (disk_in house) (subst (λ (p : Params). IsLawful p whole) (sym same) lawful) own);
  }

  -- A commit of the rows that stage the next batch.
  module _ (batch : List Change) (rows : List Row) (is : rows ≡ staged_rows batch) (house : Warehouse E X g i) where
    flat_is : flat rows ≡ batch
    flat_is = ap flat is ∙ flat_staged batch

    none : (h : History) → IsLawfulBatch (params_in house) h batch → first_refusal (params_in house) h rows ≡ None
    none h lawful = subst (λ (rs : List Row). first_refusal (params_in house) h rs ≡ None) (sym is) (none_is (first_refusal (params_in house) h (staged_rows batch)) lawful.accepted)

    -- whether it is refused or not, a first part of the history is there
    part_after : (whole later : History) (start : E) (x : Image) → (b : StandsBefore g i (params_in house) whole (batch ∷ later) start (disk_in house)) → (refused : Option Refusal)
        → Holds i x (params_in house) (after_commit refused b.part rows) → HoldsPart i (params_in house) whole x
    part_after whole later start x b None held = record {
      part = b.part ++ batch ∷ [];
      later = later;
      cut = longer (params_in house) whole later batch start (disk_in house) b;
      holds = subst (λ (cs : List Change). Holds i x (params_in house) (b.part ++ cs ∷ [])) flat_is held;
    }
    part_after whole later start x b (Some refusal) held = record { part = b.part; later = batch ∷ later; cut = b.cut; holds = held }

    moments_after : (whole later : History) (start new : E) → (b : StandsBefore g i (params_in house) whole (batch ∷ later) start (disk_in house))
        → CrashLeavesEither clock_of MayBeLeftSince MayBeLeftNow (λ x p k. Holds i x p k) (params_in house) b.part (after_commit (first_refusal (params_in house) b.part rows) b.part rows) (g.moments (disk_in house)) (g.moments new)
        → LeavesOnly (IsEmptyOrHoldsPart i (params_in house) whole) (g.moments start) (g.moments new)
    moments_after whole later start new b crash =
        let params : Params = params_in house in
        let refused : Option Refusal = first_refusal params b.part rows in
        let Either : Image → Type 0 = λ x. Holds i x params b.part ⊎ Holds i x params (after_commit refused b.part rows) in
        went_on Either (IsEmptyOrHoldsPart i params whole) (g.moments start) (g.moments (disk_in house)) (g.moments new) (λ x has. elim has [
          | inl same ↦ inr (record { part = b.part; later = batch ∷ later; cut = b.cut; holds = same })
          | inr after ↦ inr (part_after whole later start x b refused after)
        ]) b.moments crash.any_moment

    -- whatever came of it
    pub commit_puts : (c : Committed (Warehouse E X g i) E)
        → ((h : History) → HoldsHistory g i true (disk_in house) (params_in house) h → IsCommitCause (first_refusal (params_in house) h rows) c)
        → ((h : History) → HoldsHistory g i true (disk_in house) (params_in house) h → IfDone c (IsPutLast params_in disk_in (HoldsHistory g i) g.moments MayBeLeftNow (λ x p k. Holds i x p k) (disk_charge g) batch_need (λ d p k rs e. RisesWithin (g.image d) p k rs (g.image e)) h rows house))
        → IfDone c (λ new version. HasNewForm g (disk_in new) × (params_in new ≡ params_in house))
        → IfKept c (IsAsBefore params_in disk_in (HoldsHistory g i) (HasNewForm g) g.tells g.image g.moments (disk_charge g) house)
        → ((h : History) → HoldsHistory g i true (disk_in house) (params_in house) h → CrashLeavesEither clock_of MayBeLeftSince MayBeLeftNow (λ x p k. Holds i x p k) (params_in house) h (after_commit (first_refusal (params_in house) h rows) h rows) (g.moments (disk_in house)) (g.moments (device_out disk_in c)))
        → IfPageLimit c (λ new allotted. (allotted ≡ (params_in house).pages) × ((h : History) → HoldsHistory g i true (disk_in house) (params_in house) h → LacksPages (g.image (disk_in new)) (params_in house) h rows × ((params_in house).pages < disk_charge g (disk_in new) + batch_need (params_in house) h rows)))
        → DeviceGoesOn disk_in g.tells g.faults (disk_in house) c
        → Puts g i (batch ∷ []) house (outcome_of disk_in c)
    commit_puts (committed.Done new version) cause done renewed kept crash limit device = record {
      tells = device.tells;
      faults = device.never_fall;
      disk = λ e failed. absurd (cc);
      written = tt;
      goes = λ params whole later start same. by_params params (batch ∷ []) whole later start house (Ok new) (λ b.
          let put = done b.part (b.tells, b.holds) in (
            renewed.1,
            record {
              part = b.part ++ batch ∷ [];
              cut = longer (params_in house) whole later batch start (disk_in house) b;
              tells = subst IsTrue (sym device.tells) b.tells;
              holds = subst (λ (cs : List Change). Holds i (g.image (disk_in new)) (params_in house) (b.part ++ cs ∷ [])) flat_is put.stands.1;
              left = λ x left. subst (λ (cs : List Change). Holds i x (params_in house) (b.part ++ cs ∷ [])) flat_is (put.settled x left);
              moments = moments_after whole later start (disk_in new) b (crash b.part (b.tells, b.holds));
              charge =
                  let need : batch_need (params_in house) b.part rows ≡ batch_need (params_in house) b.part (staged_rows batch) = ap (batch_need (params_in house) b.part) is in
                  omega (arith, put.charge, need, b.charge);
            },
          )) same;
      sound = λ params whole later start e page same lawful b ended. absurd (cc);
    }
    commit_puts (committed.Refused new refusal) cause done renewed kept crash limit device =
        refused_puts batch house (disk_in new) device.tells kept.image kept.moments device.never_fall
        (λ h held lawful. (let no : None ≡ Some refusal = sym (none h lawful) ∙ cause h held in absurd (cc)))
    commit_puts (committed.PageLimit new allotted) cause done renewed kept crash limit device = record {
      tells = device.tells;
      faults = device.never_fall;
      disk = λ e failed. absurd (cc);
      written = refl;
      goes = λ params whole later start same. by_params params (batch ∷ []) whole later start house (Err (PageLimit (disk_in new) allotted)) (λ b.
          ended_leaves (params_in house) whole (batch ∷ later) start (disk_in house) (PageLimit (disk_in new) allotted) b kept.tells kept.image kept.moments
          (λ e rows ended. absurd (cc))
          (λ e n ended.
          let same_disk : disk_in new ≡ e = cc in
          let same_count : allotted ≡ n = cc in
          let lacks = (limit.1 b.part (b.tells, b.holds)).0 in (
            sym same_count ∙ limit.0,
            subst (λ (d : E). LacksNext i (params_in house) whole (g.image d)) same_disk (record {
              part = b.part;
              batch = batch;
              later = later;
              cut = b.cut;
              holds = subst (λ (x : Image). Holds i x (params_in house) b.part) (sym kept.image) b.holds;
              lacks = subst (λ (rs : List Row). LacksPages (g.image (disk_in new)) (params_in house) b.part rs) is lacks;
            }),
          ))
          (λ e n few ended.
          let over = (limit.1 b.part (b.tells, b.holds)).1 in
          let need : batch_need (params_in house) b.part rows ≡ batch_need (params_in house) b.part (staged_rows batch) = ap (batch_need (params_in house) b.part) is in
          let same_charge : disk_charge g (disk_in new) ≡ disk_charge g (disk_in house) = kept.charge in
          omega (arith, over, need, same_charge, b.charge, few))) same;
      sound = λ params whole later start e page same lawful b ended. absurd (cc);
    }
    commit_puts (committed.NoMemory new) cause done renewed kept crash limit device = record {
      tells = device.tells;
      faults = device.never_fall;
      disk = λ e failed. absurd (cc);
      written = refl;
      goes = λ params whole later start same. by_params params (batch ∷ []) whole later start house (Err (NoMemory (disk_in new))) (λ b.
          memory_leaves (params_in house) whole (batch ∷ later) start (disk_in house) (disk_in new) b kept.tells kept.image kept.moments) same;
      sound = λ params whole later start e page same lawful b ended. absurd (cc);
    }
    commit_puts (committed.Damaged new page) cause done renewed kept crash limit device = record {
      tells = device.tells;
      faults = device.never_fall;
      disk = λ e failed. absurd (cc);
      written = refl;
      goes = λ params whole later start same. by_params params (batch ∷ []) whole later start house (Err (Damaged (disk_in new) page)) (λ b.
          damaged_leaves (params_in house) whole (batch ∷ later) start (disk_in house) (disk_in new) page b kept.tells kept.image kept.moments) same;
      sound = λ params whole later start e n same lawful b ended.
          let own = subst (λ (p : Params). StandsBefore g i p whole (batch ∷ later) start (disk_in house)) (sym same) b in
          cause own.part (own.tells, own.holds);
    }
    commit_puts (committed.Disk disk) cause done renewed kept crash limit device = record {
      tells = device.tells;
      faults = device.never_fall;
      disk = λ e failed. let same_disk : disk ≡ e = cc in subst (λ (d : E). Rose (g.faults (disk_in house)) (g.faults d)) same_disk device.disk;
      written = refl;
      goes = λ params whole later start same. by_params params (batch ∷ []) whole later start house (Err (Disk disk)) (λ b.
          failed_leaves (params_in house) whole start disk (moments_after whole later start disk b (crash b.part (b.tells, b.holds)))) same;
      sound = λ params whole later start e page same lawful b ended. absurd (cc);
    }

    -- rows of a batch that comes next are not too many, and fit
    pub misfit_puts : ((h : History) → IsLawfulBatch (params_in house) h batch → ⊥) → Puts g i (batch ∷ []) house (Err (Damaged (disk_in house) 2))
    misfit_puts not_so = refused_puts batch house (disk_in house) refl refl refl (omega arith) (λ h held. not_so h)

    pub too_many : 4096 < length rows → (h : History) → IsLawfulBatch (params_in house) h batch → ⊥
    too_many many h lawful =
        let few : length rows ≤ 4096 = subst (λ (rs : List Row). length rs ≤ 4096) (sym is) (leb-true (length (staged_rows batch)) 4096 lawful.size) in
        omega (arith, many, few)

    pub do_not_fit : list_all (row_fits (params_in house)) rows ≡ false → (h : History) → IsLawfulBatch (params_in house) h batch → ⊥
    do_not_fit not_so h lawful =
        let fit : list_all (row_fits (params_in house)) rows ≡ true = subst (λ (rs : List Row). list_all (row_fits (params_in house)) rs ≡ true) (sym is) lawful.fits in
        let no : false ≡ true = sym not_so ∙ fit in
        cc

  -- where there was no memory for the rows, the house is as it was
  pub no_rows_puts : (batches : History) (house : Warehouse E X g i) → Puts g i batches house (Err (NoMemory (disk_in house)))
  no_rows_puts batches house = record {
    tells = refl;
    faults = omega arith;
    disk = λ e failed. absurd (cc);
    written = refl;
    goes = λ params whole later start same. by_params params batches whole later start house (Err (NoMemory (disk_in house))) (λ b.
        memory_leaves (params_in house) whole (batches ++ later) start (disk_in house) (disk_in house) b refl refl refl) same;
    sound = λ params whole later start e page same lawful b ended. absurd (cc);
  }

  -- no batch
  pub puts_none : (house : Warehouse E X g i) → Puts g i [] house (Ok house)
  puts_none house = record {
    tells = refl;
    faults = omega arith;
    disk = λ e failed. absurd (cc);
    written = tt;
    goes = λ params whole later start same b. (same, b);
    sound = λ params whole later start e page same lawful b ended. absurd (cc);
  }

  pub rose_later : (a b c : ℕ) → a ≤ b → Rose b c → Rose a c
  rose_later a b c le rose = omega (arith, le, rose)

  -- batches, and then others
  pub puts_then : (first then : History) (house mid : Warehouse E X g i) (result : Result (Warehouse E X g i) (Compacted E)) → Puts g i first house (Ok mid) → Puts g i then mid result
      → Puts g i (first ++ then) house result
  puts_then first then house mid result f s = record {
    tells = s.tells ∙ f.tells;
    faults = omega (arith, f.faults, s.faults);
    disk = λ e failed. rose_later (g.faults (disk_in house)) (g.faults (disk_in mid)) (g.faults e) f.faults (s.disk e failed);
    written = s.written;
    goes = λ params whole later start same b.
        let at = f.goes params whole (then ++ later) start same (subst (λ (k : History). StandsBefore g i params whole k start (disk_in house)) (append_assoc first then later) b) in
        s.goes params whole later start at.0 at.1;
    sound = λ params whole later start e page same lawful b.
        let at = f.goes params whole (then ++ later) start same (subst (λ (k : History). StandsBefore g i params whole k start (disk_in house)) (append_assoc first then later) b) in
        s.sound params whole later start e page at.0 lawful at.1;
  }

  -- where the first ones end it, no more are put
  pub puts_stop : (first then : History) (house : Warehouse E X g i) (ended : Compacted E) → Puts g i first house (Err ended) → Puts g i (first ++ then) house (Err ended)
  puts_stop first then house ended f = record {
    tells = f.tells;
    faults = f.faults;
    disk = f.disk;
    written = f.written;
    goes = λ params whole later start same b.
        f.goes params whole (then ++ later) start same (subst (λ (k : History). StandsBefore g i params whole k start (disk_in house)) (append_assoc first then later) b);
    sound = λ params whole later start e page same lawful b.
        f.sound params whole (then ++ later) start e page same lawful (subst (λ (k : History). StandsBefore g i params whole k start (disk_in house)) (append_assoc first then later) b);
  }

  -- one batch of those that are left is put
  pub goes_on : (all left rest : History) (batch : List Change) (old house mid : Warehouse E X g i) (put : Result (Warehouse E X g i) (Compacted E)) → ((r : Result (Warehouse E X g i) (Compacted E)) → Puts g i left house r → Puts g i all old r)
      → left ≡ batch ∷ rest → Puts g i (batch ∷ []) house put → put ≡ Ok mid → (r : Result (Warehouse E X g i) (Compacted E)) → Puts g i rest mid r → Puts g i all old r
  goes_on all left rest batch old house mid put so_far step puts is r later =
      so_far r (subst (λ (bs : History). Puts g i bs house r) (sym step) (puts_then (batch ∷ []) rest house mid r (subst (λ q. Puts g i (batch ∷ []) house q) is puts) later))

  -- or it ends there
  pub ends_there : (all left rest : History) (batch : List Change) (old house : Warehouse E X g i) (ended : Compacted E) (put : Result (Warehouse E X g i) (Compacted E)) → ((r : Result (Warehouse E X g i) (Compacted E)) → Puts g i left house r → Puts g i all old r)
      → left ≡ batch ∷ rest → Puts g i (batch ∷ []) house put → put ≡ Err ended → Puts g i all old (Err ended)
  ends_there all left rest batch old house ended put so_far step puts is =
      so_far (Err ended) (subst (λ (bs : History). Puts g i bs house (Err ended)) (sym step) (puts_stop (batch ∷ []) rest house ended (subst (λ q. Puts g i (batch ∷ []) house q) is puts)))
