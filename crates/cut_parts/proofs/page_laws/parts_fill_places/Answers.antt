use Rattle.cut_parts.proofs.Places.{after_part, fills_place}
use Rattle.cut_parts.proofs.page_laws.parts_fill_places.Goals as goal

pub returns-clause-filled : goal.returns-clause-filled
returns-clause-filled c = fills_place

pub returns-clause-skipped : goal.returns-clause-skipped
returns-clause-skipped c = after_part
