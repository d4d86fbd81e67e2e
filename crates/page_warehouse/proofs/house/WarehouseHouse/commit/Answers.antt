use Rattle.std.proofs.Common.{◌≡◌, ℕ, ◌⊎◌, ◌+◌, ◌<◌, ◌^◌, true, IsTrue, List, Option, None, Ok, Err, IfOk, inl, inr, refl, sym, ◌∙◌, ap, subst, arith}
use Rattle.std.specs.List.{list_all}
use Rattle.bw_types.specs.Fits.{row_fits}
use Rattle.bw_types.specs.History.{History, flat, last_version}
use Rattle.bw_types.specs.Lawful.{IsLawfulBatch}
use Rattle.bw_types.specs.Refusals.{first_refusal, total_mass}
use Rattle.bw_types.specs.declared.params.Params.{Params}
use Rattle.bw_types.specs.declared.refusal.Refusal.{Refusal}
use Rattle.ports.specs.Count.{Rose}
use Rattle.page_disk.specs.Image.{Image, PageList}
use Rattle.page_disk.specs.Moment.{Moment, MayBeLeftNow}
use Rattle.page_disk.specs.Since.{LeavesNow, LeavesOnly}
use Rattle.page_layout.specs.declared.meta.Meta.{Meta}
use Rattle.redo_journal.specs.Settled.{SettlesTo}
use Rattle.page_space.specs.Begun.{Begun}
use Rattle.page_space.specs.Shown.{begun_of, disk_of, meta_of, params_of}
use Rattle.session_book.specs.declared.refusals.BookFault.{BookFault}
use Rattle.warehouse.specs.Committed.{IsCommitCause, after_commit, device_out, with_batch}
use Rattle.warehouse.specs.Left.{IsAsBefore, IsPutLast}
use Rattle.page_warehouse.specs.Holds.{Holds}
use Rattle.page_warehouse.specs.Needs.{LacksPages, LacksPagesIn, RisesWithin, batch_need, charge_of}
use Rattle.page_warehouse.specs.Shown.{HasNewForm, HoldsHistory, disk_charge, disk_in, params_in, space_in}
use Rattle.page_warehouse.proofs.Outcomes.{if_disk, if_kept}
use Rattle.page_warehouse.proofs.Same.{as_before, both_at_limit, both_done, held_own, left_now, limit_each, only_leaves}
use Rattle.page_warehouse.proofs.house.WarehouseHouse.commit.Goals as goal

pub put-requires-clause-fit : goal.put-requires-clause-fit
put-requires-clause-fit g c =
    let same : params_of c.judge-house.result.house.space ≡ params_of c.args.self.space = ap (λ (b : Begun). b.params) c.judge-house.ensures.stays in
    subst (λ (p : Params). IsTrue (list_all (row_fits p) c.args.rows.now)) (sym same) c.requires.fit

pub put-requires-clause-light : goal.put-requires-clause-light
put-requires-clause-light g c =
    let old = c.args.self.space in
    let mid = c.judge-house.result.house.space in
    let same : params_of mid ≡ params_of old = ap (λ (b : Begun). b.params) c.judge-house.ensures.stays in
    let meta : meta_of mid ≡ meta_of old = ap (λ (b : Begun). b.meta) c.judge-house.ensures.stays in
    let none = c.in-Ok.is ∙ ap (λ (r : Option Refusal). Ok r) c.in-None.is in
    let light = subst (λ r. IfOk r (λ (refusal : Option Refusal). refusal ≡ None → (meta_of old).mass + total_mass (params_of old) (flat c.args.rows.now) < 2 ^ 126)) none c.judge-house.ensures.light in
    subst (λ (p : Params). (meta_of mid).mass + total_mass p (flat c.args.rows.now) < 2 ^ 126) (sym same)
    (subst (λ (m : Meta). m.mass + total_mass (params_of old) (flat c.args.rows.now) < 2 ^ 126) (sym meta) (light refl))

pub returns-in-None-clause-cause : goal.returns-in-None-clause-cause
returns-in-None-clause-cause g c = λ h held.
    let old = c.args.self.space in
    let mid = c.judge-house.result.house.space in
    let params = params_of old in
    let rows = c.args.rows.now in
    let stays = c.judge-house.ensures.stays in
    let same : params_of mid ≡ params = ap (λ (b : Begun). b.params) stays in
    let none = c.in-Ok.is ∙ ap (λ (r : Option Refusal). Ok r) c.in-None.is in
    let found = subst (λ r. IfOk r (λ (refusal : Option Refusal). (h : History) → HoldsHistory g.D.Disk g.X.DomIndex true (disk_of old) params h → refusal ≡ first_refusal params h rows)) none c.judge-house.ensures.ok in
    let accepted : None ≡ first_refusal params h rows = found h held in
    let batch : IsLawfulBatch params h (flat rows) = c.accepted_batches_are_lawful.ensures params h rows c.requires.fit c.requires.most (sym accepted) in
    let held1 = held_own g.X.DomIndex true old mid h stays held in
    let batch1 = subst (λ (p : Params). IsLawfulBatch p h (flat rows)) (sym same) batch in
    let h1 : History = with_batch h rows in
    subst (λ (f : Option Refusal). IsCommitCause f c.put.result) accepted (c.put.ensures.cause h held1 batch1)

pub returns-in-None-clause-done : goal.returns-in-None-clause-done
returns-in-None-clause-done g c = λ h held.
    let old = c.args.self.space in
    let mid = c.judge-house.result.house.space in
    let params = params_of old in
    let rows = c.args.rows.now in
    let stays = c.judge-house.ensures.stays in
    let same : params_of mid ≡ params = ap (λ (b : Begun). b.params) stays in
    let none = c.in-Ok.is ∙ ap (λ (r : Option Refusal). Ok r) c.in-None.is in
    let found = subst (λ r. IfOk r (λ (refusal : Option Refusal). (h : History) → HoldsHistory g.D.Disk g.X.DomIndex true (disk_of old) params h → refusal ≡ first_refusal params h rows)) none c.judge-house.ensures.ok in
    let accepted : None ≡ first_refusal params h rows = found h held in
    let batch : IsLawfulBatch params h (flat rows) = c.accepted_batches_are_lawful.ensures params h rows c.requires.fit c.requires.most (sym accepted) in
    let held1 = held_own g.X.DomIndex true old mid h stays held in
    let batch1 = subst (λ (p : Params). IsLawfulBatch p h (flat rows)) (sym same) batch in
    let h1 : History = with_batch h rows in
    let x = g.D.Disk.image (disk_of mid) in
    both_done c.put.result (λ house version. ((version ≡ last_version h + 1) × HoldsHistory g.D.Disk g.X.DomIndex true (disk_in house) (params_of mid) h1) × LeavesNow (g.D.Disk.moments (disk_in house)) (g.D.Disk.image (disk_in house)))
    (λ house version. RisesWithin x (params_of mid) h rows (g.D.Disk.image (disk_in house)))
    (IsPutLast params_in disk_in (HoldsHistory g.D.Disk g.X.DomIndex) g.D.Disk.moments MayBeLeftNow (Holds g.X.DomIndex) (disk_charge g.D.Disk) batch_need (λ d p k batch d'. RisesWithin (g.D.Disk.image d) p k batch (g.D.Disk.image d')) h rows c.args.self)
    (λ house version done rose.
    let holds : HoldsHistory g.D.Disk g.X.DomIndex true (disk_in house) params h1 = subst (λ (p : Params). HoldsHistory g.D.Disk g.X.DomIndex true (disk_in house) p h1) same done.0.1 in
    let rises : RisesWithin (g.D.Disk.image (disk_of old)) params h rows (g.D.Disk.image (disk_in house)) = subst (λ (b : Begun). RisesWithin b.image b.params h rows (g.D.Disk.image (disk_in house))) stays rose in
    record {
      version = done.0.0;
      stands = holds;
      settled = λ y now. subst (λ (z : Image). Holds g.X.DomIndex z params h1) (sym (done.1 y now)) holds.1;
      charge = rises.need;
      rises = rises;
    })
    (both_done c.put.result (λ house version. (version ≡ last_version h + 1) × HoldsHistory g.D.Disk g.X.DomIndex true (disk_in house) (params_of mid) h1) (λ house version. LeavesNow (g.D.Disk.moments (disk_in house)) (g.D.Disk.image (disk_in house))) _ (λ house version done settled. (done, settled))
    (c.put.ensures.done h held1 batch1) c.put.ensures.settled)
    (c.put.ensures.rises h held1 batch1)

pub returns-in-None-clause-renewed : goal.returns-in-None-clause-renewed
returns-in-None-clause-renewed g c =
    let same : params_of c.judge-house.result.house.space ≡ params_of c.args.self.space = ap (λ (b : Begun). b.params) c.judge-house.ensures.stays in
    both_done c.put.result (λ house version. HasNewForm g.D.Disk (disk_in house)) (λ house version. params_in house ≡ params_of c.judge-house.result.house.space)
    (λ house version. HasNewForm g.D.Disk (disk_in house) × (params_in house ≡ params_of c.args.self.space))
    (λ house version form own. (form, own ∙ same)) c.put.ensures.by_lives c.put.ensures.params_done

pub returns-in-None-clause-kept : goal.returns-in-None-clause-kept
returns-in-None-clause-kept g c =
    if_kept c.put.result (λ house. begun_of (space_in house) ≡ begun_of c.judge-house.result.house.space)
    (IsAsBefore params_in disk_in (HoldsHistory g.D.Disk g.X.DomIndex) (HasNewForm g.D.Disk) g.D.Disk.tells g.D.Disk.image g.D.Disk.moments (disk_charge g.D.Disk) c.args.self)
    (λ house kept. as_before c.args.self house (kept ∙ c.judge-house.ensures.stays)) c.put.ensures.kept

pub returns-in-None-clause-crash : goal.returns-in-None-clause-crash
returns-in-None-clause-crash g c = λ h held.
    let old = c.args.self.space in
    let mid = c.judge-house.result.house.space in
    let params = params_of old in
    let rows = c.args.rows.now in
    let stays = c.judge-house.ensures.stays in
    let same : params_of mid ≡ params = ap (λ (b : Begun). b.params) stays in
    let none = c.in-Ok.is ∙ ap (λ (r : Option Refusal). Ok r) c.in-None.is in
    let found = subst (λ r. IfOk r (λ (refusal : Option Refusal). (h : History) → HoldsHistory g.D.Disk g.X.DomIndex true (disk_of old) params h → refusal ≡ first_refusal params h rows)) none c.judge-house.ensures.ok in
    let accepted : None ≡ first_refusal params h rows = found h held in
    let batch : IsLawfulBatch params h (flat rows) = c.accepted_batches_are_lawful.ensures params h rows c.requires.fit c.requires.most (sym accepted) in
    let held1 = held_own g.X.DomIndex true old mid h stays held in
    let batch1 = subst (λ (p : Params). IsLawfulBatch p h (flat rows)) (sym same) batch in
    let h1 : History = with_batch h rows in
    let P : Image → Type 0 = (λ (x : Image). Holds g.X.DomIndex x params h ⊎ Holds g.X.DomIndex x params h1) in
    let only = subst (λ (m : List Moment). LeavesOnly P m (g.D.Disk.moments (device_out disk_in c.put.result))) (ap (λ (b : Begun). b.moments) stays)
    (subst (λ (p : Params). LeavesOnly (λ x. Holds g.X.DomIndex x p h ⊎ Holds g.X.DomIndex x p h1) (g.D.Disk.moments (disk_of mid)) (g.D.Disk.moments (device_out disk_in c.put.result))) same (c.put.ensures.any_moment h held1 batch1)) in
    let onto : (x : Image) → Holds g.X.DomIndex x params h1 → Holds g.X.DomIndex x params (after_commit (first_refusal params h rows) h rows) = (λ x b. subst (λ (f : Option Refusal). Holds g.X.DomIndex x params (after_commit f h rows)) accepted b) in
    record {
      any_moment = only_leaves P (λ x. Holds g.X.DomIndex x params h ⊎ Holds g.X.DomIndex x params (after_commit (first_refusal params h rows) h rows)) _ _
          (λ x cases. elim cases [
            | inl a ↦ inl a
            | inr b ↦ inr (onto x b)
          ]) only;
      lost = λ settled x now. elim (left_now P (λ y. Holds g.X.DomIndex y params h) _ _ c.crash_laws.ensures.now only settled x now) [
        | inl a ↦ inl a
        | inr p ↦ elim p [
          | inl a ↦ inl a
          | inr b ↦ inr (onto x b)
        ]
      ];
    }

pub returns-in-None-clause-page_limit : goal.returns-in-None-clause-page_limit
returns-in-None-clause-page_limit g c =
    let old = c.args.self.space in
    let mid = c.judge-house.result.house.space in
    let params = params_of old in
    let rows = c.args.rows.now in
    let stays = c.judge-house.ensures.stays in
    let same : params_of mid ≡ params = ap (λ (b : Begun). b.params) stays in
    let x = g.D.Disk.image (disk_of mid) in
    both_at_limit c.put.result (λ house. begun_of (space_in house) ≡ begun_of mid) (λ house n. n ≡ (params_of mid).pages)
    (λ house n. (h : History) → HoldsHistory g.D.Disk g.X.DomIndex true (disk_of old) params h → LacksPagesIn x.pages (params_of mid) h rows)
    (λ house n. (n ≡ params.pages) × ((h : History) → HoldsHistory g.D.Disk g.X.DomIndex true (disk_of old) params h → LacksPages (g.D.Disk.image (disk_in house)) params h rows × (params.pages < charge_of (g.D.Disk.image (disk_in house)) + batch_need params h rows)))
    (λ house n kept limit passed. (
      limit ∙ ap (λ (p : Params). p.pages) same,
      λ h held.
          let back : g.D.Disk.image (disk_in house) ≡ g.D.Disk.image (disk_of old) = ap (λ (b : Begun). b.image) (kept ∙ stays) in
          let own : LacksPagesIn (g.D.Disk.image (disk_of old)).pages params h rows = subst (λ (b : Begun). LacksPagesIn b.image.pages b.params h rows) stays (passed h held) in (
            λ pages settles.
                let all = c.is_settled.ensures held.0 pages (subst (λ (y : Image). SettlesTo y pages) back settles) in
                subst (λ (ps : PageList). LacksPagesIn ps params h rows) all own,
            subst (λ (y : Image). params.pages < charge_of y + batch_need params h rows) (sym back) own.need,
          ),
    ))
    c.put.ensures.kept c.put.ensures.at_limit
    (limit_each c.put.result (λ (h : History). HoldsHistory g.D.Disk g.X.DomIndex true (disk_of old) params h)
    (λ (h : History) house (n : ℕ). LacksPagesIn x.pages (params_of mid) h rows)
    (λ h held.
    let none = c.in-Ok.is ∙ ap (λ (r : Option Refusal). Ok r) c.in-None.is in
    let found = subst (λ r. IfOk r (λ (refusal : Option Refusal). (h : History) → HoldsHistory g.D.Disk g.X.DomIndex true (disk_of old) params h → refusal ≡ first_refusal params h rows)) none c.judge-house.ensures.ok in
    let accepted : None ≡ first_refusal params h rows = found h held in
    let batch : IsLawfulBatch params h (flat rows) = c.accepted_batches_are_lawful.ensures params h rows c.requires.fit c.requires.most (sym accepted) in
    let held1 = held_own g.X.DomIndex true old mid h stays held in
    let batch1 = subst (λ (p : Params). IsLawfulBatch p h (flat rows)) (sym same) batch in
    c.put.ensures.page_limit h held1 batch1))

pub returns-in-None-clause-device : goal.returns-in-None-clause-device
returns-in-None-clause-device g c =
    let was = ap (λ (b : Begun). b.tells) c.judge-house.ensures.stays in
    let rose = c.judge-house.ensures.faults in
    let on = c.put.ensures.device in
    let last = on.never_fall in
    record {
      tells = on.tells ∙ was;
      disk = if_disk c.put.result (Rose (g.D.Disk.faults (disk_of c.judge-house.result.house.space)) (g.D.Disk.faults (device_out disk_in c.put.result))) _ (λ more. omega (arith, rose, more)) on.disk;
      never_fall = omega (arith, rose, last);
    }

pub returns-in-Damaged-clause-cause : goal.returns-in-Damaged-clause-cause
returns-in-Damaged-clause-cause g c = λ h held. c.judge-house.ensures.sound h c.in-Damaged.page held (c.in-Err.is ∙ ap (λ (f : BookFault). Err f) c.in-Damaged.is)
