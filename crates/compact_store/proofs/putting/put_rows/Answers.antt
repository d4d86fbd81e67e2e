use Rattle.std.proofs.Common.{◌≡◌, ◌∷◌, [], false, ◌∙◌, sym, subst, Err}
use Rattle.bw_types.specs.Fits.{row_fits}
use Rattle.std.specs.List.{list_all}
use Rattle.bw_types.specs.declared.params.Params.{Params}
use Rattle.compact_store.specs.Putting.{Puts}
use Rattle.compact_store.specs.declared.compacting.Compacted.TheVariants.{Damaged}
use Rattle.compact_store.proofs.Steps.{commit_puts, do_not_fit, misfit_puts, too_many}
use Rattle.compact_store.proofs.putting.put_rows.Goals.{then-rows-gt4096-via-then-rows-gt4096, then-rows-gt4096-via-else-rows-gt4096+then-not-rows_fit}
use Rattle.compact_store.proofs.putting.put_rows.Goals as goal

pub returns-then-rows-gt4096 : goal.returns-then-rows-gt4096
returns-then-rows-gt4096 g c = λ batch is.
    subst (λ d. Puts g.E.Disk g.X.DomIndex (batch ∷ []) c.args.house (Err (Damaged d 2))) (sym c.into_disk.ensures)
    (misfit_puts g.E.Disk g.X.DomIndex batch c.args.rows.now is c.args.house (elim c.then-rows-gt4096.branch [
      | then-rows-gt4096-via-then-rows-gt4096 w ↦ too_many g.E.Disk g.X.DomIndex batch c.args.rows.now is c.args.house w.if-rows-gt4096.true
      | then-rows-gt4096-via-else-rows-gt4096+then-not-rows_fit w ↦ do_not_fit g.E.Disk g.X.DomIndex batch c.args.rows.now is c.args.house
          (subst (λ (p : Params). list_all (row_fits p) c.args.rows.now ≡ false) w.params.ensures.value (sym w.rows_fit.ensures ∙ w.if-not-rows_fit.true))
    ]))

pub returns : goal.returns
returns g c = λ batch is.
    subst (λ r. Puts g.E.Disk g.X.DomIndex (batch ∷ []) c.args.house r) (sym c.outcome.ensures)
    (commit_puts g.E.Disk g.X.DomIndex batch c.args.rows.now is c.args.house c.commit.result c.commit.ensures.cause c.commit.ensures.done c.commit.ensures.renewed c.commit.ensures.kept c.commit.ensures.crash c.commit.ensures.page_limit c.commit.ensures.device)
