use Rattle.image_check.proofs.SameLives.{lives_decide}
use Rattle.image_check.proofs.lives.are_same.Goals as goal

pub returns : goal.returns
returns c = lives_decide c.args.lives.now c.args.others.now c.eq.result c.eq.ensures
