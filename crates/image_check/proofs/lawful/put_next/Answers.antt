use Rattle.std.proofs.Common.{◌≡◌, IsTrue, List, map, sym, ◌∙◌, ap, subst}
use Rattle.std.specs.List.{list_all}
use Rattle.bw_types.specs.Fits.{row_fits}
use Rattle.bw_types.specs.declared.params.Params.{Params}
use Rattle.bw_types.specs.declared.row.Row.{Row}
use Rattle.warehouse.specs.ListState.{ListState}
use Rattle.page_warehouse.specs.Events.{change_in}
use Rattle.image_check.proofs.Batch.{put_last}
use Rattle.image_check.proofs.lawful.put_next.Goals as goal

pub commit-requires : goal.commit-requires
commit-requires c =
    let same : c.as_slice.result.now ≡ c.as_slice-2.result.now = c.as_slice.ensures.value ∙ sym c.as_slice-2.ensures.value in
    subst (λ (p : Params). IsTrue (list_all (row_fits p) c.as_slice-2.result.now)) (sym c.requires.same)
    (subst (λ (rs : List Row). IsTrue (list_all (row_fits c.args.params.now) rs)) same (sym c.if-not-rows_fit.ensures))

pub returns-in-Ok-clause-put : goal.returns-in-Ok-clause-put
returns-in-Ok-clause-put c = λ e.
    ap (λ (s : ListState). s.history) c.in-Ok.ensures.accepted.2
    ∙ put_last c.args.house.now.history (map change_in c.args.events.now) c.as_slice-2.result.now (c.as_slice-2.ensures.value ∙ c.in_ok-stage.ensures)
