use Rattle.cut_parts.proofs.Homes.{more_pages, moved, points_stay, shape_stays}
use Rattle.cut_parts.proofs.laws.homes_are_free.Goals as goal

pub returns-clause-points : goal.returns-clause-points
returns-clause-points c = points_stay

pub returns-clause-shape : goal.returns-clause-shape
returns-clause-shape c = shape_stays

pub returns-clause-moved : goal.returns-clause-moved
returns-clause-moved c = moved

pub returns-clause-pages : goal.returns-clause-pages
returns-clause-pages c = more_pages
