use Rattle.image_check.proofs.Follow.{broken_is_no, parts_follow}
use Rattle.image_check.proofs.laws.verdicts_are_right.Goals as goal

pub returns-clause-follow : goal.returns-clause-follow
returns-clause-follow g c = parts_follow g.X.DomIndex c.lives_name_changes.ensures.named

pub returns-clause-broken : goal.returns-clause-broken
returns-clause-broken g c = λ x. broken_is_no g.X.DomIndex x (parts_follow g.X.DomIndex c.lives_name_changes.ensures.named x)
