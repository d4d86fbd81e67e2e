use Rattle.cut_parts.proofs.Frames.{part_balance, part_same, part_there}
use Rattle.cut_parts.proofs.Telling.{told_part}
use Rattle.cut_parts.proofs.laws.part_laws.Goals as goal

pub returns-clause-by_its_pages : goal.returns-clause-by_its_pages
returns-clause-by_its_pages g c = part_same g.B.BorderTree c.border_laws.ensures.laws

pub returns-clause-balance : goal.returns-clause-balance
returns-clause-balance g c = part_balance g.B.BorderTree c.border_laws.ensures.laws

pub returns-clause-in_map : goal.returns-clause-in_map
returns-clause-in_map g c = part_there g.B.BorderTree c.border_laws.ensures.laws

pub returns-clause-told : goal.returns-clause-told
returns-clause-told g c = told_part
