use Rattle.object_table.specs.declared.form.Form.TheVariants.{ByIds}
use Rattle.object_table.proofs.Clearing.{undamaged_for_free}
use Rattle.object_table.proofs.freeing.free_old.Goals as goal

pub returns-clause-sound : goal.returns-clause-sound
returns-clause-sound g c = λ lives page tells s e.
    undamaged_for_free ByIds (g.S.Pages.map c.args.stage.now) c.args.table.now lives page s (c.free_below.ensures.damaged page e tells)
