use Rattle.cut_parts.proofs.Regions.{regions_follow}
use Rattle.cut_parts.proofs.laws.regions_follow.Goals as goal

pub returns : goal.returns
returns c = regions_follow
