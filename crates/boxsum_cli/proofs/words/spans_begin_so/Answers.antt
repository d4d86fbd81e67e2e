use Rattle.boxsum_cli.proofs.Spans.{spans_begin}
use Rattle.boxsum_cli.proofs.words.spans_begin_so.Goals as goal

pub returns : goal.returns
returns c = spans_begin
