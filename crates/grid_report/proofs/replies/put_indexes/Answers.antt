use Rattle.std.proofs.Common.{◌++◌, ◌∙◌, refl, ap, codes}
use Rattle.std.specs.Fmt.{decimal}
use Rattle.grid_report.proofs.Pieces.{piece-more}
use Rattle.grid_report.proofs.replies.put_indexes.Goals as goal

pub loop-index-preserved : goal.loop-index-preserved
loop-index-preserved c =
    piece-more (λ j. decimal j ++ codes ",") c.args.at.now c.loop-index.index-index _ c.args.text.now.items c.loop-index.text.items c.extend_from_slice.new.self.items c.loop-index-test.true refl c.loop-index.invariant
    (c.in_ok-extend_from_slice.ensures.items ∙ ap (λ t. c.loop-index.text.items ++ t) (c.as_bytes.ensures.value ∙ c.in_ok-field.ensures.ok))
