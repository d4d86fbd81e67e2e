use Rattle.sb_tree.proofs.Freeing.{tree_undamaged_for_free}
use Rattle.sb_tree.proofs.free.sb_free.Goals as goal

pub returns-clause-sound : goal.returns-clause-sound
returns-clause-sound g c = λ points page tells s e.
    tree_undamaged_for_free (g.S.Pages.map c.args.stage.now) c.args.tree.now points page s (c.free_below.ensures.damaged page e tells)
