use Rattle.std.proofs.Common.{◌∙◌, ◌<◌, ◌≤◌, ◌++◌, false, Err, ap, subst, inl, inr}
use Rattle.std.proofs.lemmas.Bool.{cases_lt}
use Rattle.std.proofs.lemmas.Result.{on_ok_weaker}
use Rattle.page_warehouse.specs.Shown.{disk_in, params_in}
use Rattle.grid_report.proofs.RowAnswers.{none-replied, put-replied, row-reads}
use Rattle.grid_report.proofs.desk.answer_row.Goals as goal

pub returns-in-Ok-put_grid-clause-replies : goal.returns-in-Ok-put_grid-clause-replies
returns-in-Ok-put_grid-clause-replies g c = λ h held.
    let version = c.unwrap_or-version.result in
    let within : version ≤ c.last.result = elim (cases_lt c.last.result version) [
      | inl above ↦ absurd (let none = (c.grid.ensures.above (subst (λ n. n < version) c.last.ensures.value above)).0 in let some = c.in-Ok.is in cc)
      | inr within ↦ within
    ] in
    put-replied (params_in c.args.house.now) h c.args.row.now version c.last.result (c.last.ensures.held false h held) c.unwrap_or-version.ensures c.params-params.result c.args.number c.args.replies.now.items c.put_grid.new.replies.items c.deref.result.now
    c.params-params.ensures.value within (c.deref.ensures.value ∙ c.in-Ok.ensures.cells false h held) c.in-Ok-put_grid.ensures.put

pub returns-in-Err-NoVersion-clause-replies : goal.returns-in-Err-NoVersion-clause-replies
returns-in-Err-NoVersion-clause-replies g c =
    on_ok_weaker c.put_reply.result (λ put h held.
    let version = c.unwrap_or-version.result in
    let above : c.last.result < version = elim (cases_lt c.last.result version) [
      | inl above ↦ above
      | inr within ↦ absurd (c.grid.ensures.within c.in-Err-NoVersion.field-0-0 (subst (λ n. version ≤ n) c.last.ensures.value within) (c.in-Err-NoVersion.is ∙ ap Err c.in-Err-NoVersion.field-0-is))
    ] in
    put ∙ ap (λ t. c.args.replies.now.items ++ t) (none-replied (params_in c.args.house.now) h c.args.row.now version c.last.result (c.last.ensures.held false h held) c.unwrap_or-version.ensures c.args.number above)) c.put_reply.ensures.put

pub returns-in-Err-Damaged-clause-sound : goal.returns-in-Err-Damaged-clause-sound
returns-in-Err-Damaged-clause-sound g c = λ h page held e. c.grid.ensures.sound false h c.in-Err-Damaged.page held (c.in-Err-Damaged.is ∙ ap Err c.in-Err-Damaged.field-0-is)

pub returns-in-Ok-put_grid-clause-reads : goal.returns-in-Ok-put_grid-clause-reads
returns-in-Ok-put_grid-clause-reads g c = λ h held.
    row-reads (params_in c.args.house.now) h c.args.row.now c.unwrap_or-version.result c.last.result (c.last.ensures.held false h held) c.unwrap_or-version.ensures g.X.DomIndex.cost (g.D.Disk.reads (disk_in c.args.house.now)) (g.D.Disk.reads (disk_in c.grid.new.house))
    (λ above. ap (λ house. g.D.Disk.reads (disk_in house)) (c.grid.ensures.above (subst (λ n. n < c.unwrap_or-version.result) c.last.ensures.value above)).1)
    (c.grid.ensures.reads false h held)

pub returns-in-Ok-clause-reads : goal.returns-in-Ok-clause-reads
returns-in-Ok-clause-reads g c = λ h held.
    row-reads (params_in c.args.house.now) h c.args.row.now c.unwrap_or-version.result c.last.result (c.last.ensures.held false h held) c.unwrap_or-version.ensures g.X.DomIndex.cost (g.D.Disk.reads (disk_in c.args.house.now)) (g.D.Disk.reads (disk_in c.grid.new.house))
    (λ above. ap (λ house. g.D.Disk.reads (disk_in house)) (c.grid.ensures.above (subst (λ n. n < c.unwrap_or-version.result) c.last.ensures.value above)).1)
    (c.grid.ensures.reads false h held)

pub returns-in-Err-NoVersion-clause-reads : goal.returns-in-Err-NoVersion-clause-reads
returns-in-Err-NoVersion-clause-reads g c = λ h held.
    row-reads (params_in c.args.house.now) h c.args.row.now c.unwrap_or-version.result c.last.result (c.last.ensures.held false h held) c.unwrap_or-version.ensures g.X.DomIndex.cost (g.D.Disk.reads (disk_in c.args.house.now)) (g.D.Disk.reads (disk_in c.grid.new.house))
    (λ above. ap (λ house. g.D.Disk.reads (disk_in house)) (c.grid.ensures.above (subst (λ n. n < c.unwrap_or-version.result) c.last.ensures.value above)).1)
    (c.grid.ensures.reads false h held)

pub returns-in-Err-Disk-clause-reads : goal.returns-in-Err-Disk-clause-reads
returns-in-Err-Disk-clause-reads g c = λ h held.
    row-reads (params_in c.args.house.now) h c.args.row.now c.unwrap_or-version.result c.last.result (c.last.ensures.held false h held) c.unwrap_or-version.ensures g.X.DomIndex.cost (g.D.Disk.reads (disk_in c.args.house.now)) (g.D.Disk.reads (disk_in c.grid.new.house))
    (λ above. ap (λ house. g.D.Disk.reads (disk_in house)) (c.grid.ensures.above (subst (λ n. n < c.unwrap_or-version.result) c.last.ensures.value above)).1)
    (c.grid.ensures.reads false h held)

pub returns-in-Err-Damaged-clause-reads : goal.returns-in-Err-Damaged-clause-reads
returns-in-Err-Damaged-clause-reads g c = λ h held.
    row-reads (params_in c.args.house.now) h c.args.row.now c.unwrap_or-version.result c.last.result (c.last.ensures.held false h held) c.unwrap_or-version.ensures g.X.DomIndex.cost (g.D.Disk.reads (disk_in c.args.house.now)) (g.D.Disk.reads (disk_in c.grid.new.house))
    (λ above. ap (λ house. g.D.Disk.reads (disk_in house)) (c.grid.ensures.above (subst (λ n. n < c.unwrap_or-version.result) c.last.ensures.value above)).1)
    (c.grid.ensures.reads false h held)

pub returns-clause-reads : goal.returns-clause-reads
returns-clause-reads g c = λ h held.
    row-reads (params_in c.args.house.now) h c.args.row.now c.unwrap_or-version.result c.last.result (c.last.ensures.held false h held) c.unwrap_or-version.ensures g.X.DomIndex.cost (g.D.Disk.reads (disk_in c.args.house.now)) (g.D.Disk.reads (disk_in c.grid.new.house))
    (λ above. ap (λ house. g.D.Disk.reads (disk_in house)) (c.grid.ensures.above (subst (λ n. n < c.unwrap_or-version.result) c.last.ensures.value above)).1)
    (c.grid.ensures.reads false h held)
