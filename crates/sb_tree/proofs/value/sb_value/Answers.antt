use Rattle.sb_tree.proofs.Common.{arith}
use Rattle.sb_tree.proofs.Sound.{tree_undamaged}
use Rattle.sb_tree.proofs.value.sb_value.Goals as goal

pub returns-clause-sound : goal.returns-clause-sound
returns-clause-sound g c = λ points page tells s e.
    let d = c.value_below.ensures.damaged page e tells in
    let d2 = rw c.root_place.ensures at d in
    tree_undamaged (g.P.Pages.map c.args.pages.now) c.args.tree.now points c.args.version page s (omega (arith, c.ranges.version.fits)) d2
