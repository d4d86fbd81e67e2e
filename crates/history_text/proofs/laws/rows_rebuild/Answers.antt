use Rattle.history_text.proofs.Rebuilding.{rows_rebuild}
use Rattle.history_text.proofs.laws.rows_rebuild.Goals as goal

pub returns : goal.returns
returns c = rows_rebuild
