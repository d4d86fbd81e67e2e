use Rattle.std.proofs.Common.{arith}
use Rattle.std.proofs.lemmas.List.{reverse-append, set-set, set-get_or}
use Rattle.page_disk.proofs.half.Half.overwrite.Goals as goal

pub returns-clause-ok : goal.returns-clause-ok
returns-clause-ok c = grind (arith, reverse-append, set-set, set-get_or)
