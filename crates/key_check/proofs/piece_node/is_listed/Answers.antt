use Rattle.std.proofs.Common.{◌∙◌}
use Rattle.std.proofs.lemmas.List.Sorted.{searched}
use Rattle.key_check.proofs.Numbering.{among}
use Rattle.key_check.proofs.piece_node.is_listed.Goals as goal

pub returns : goal.returns
returns c =
    let found = searched c.args.nodes.now c.args.page c.binary_search.result c.binary_search.ensures.position (λ i j a b. c.requires i j 0 a b) in
    c.is_ok.ensures.value ∙ among c.args.nodes.now c.args.page c.binary_search.result found
