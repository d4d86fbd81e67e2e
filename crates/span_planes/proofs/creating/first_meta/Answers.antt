use Rattle.std.proofs.Common.{ap, arith, length, List}
use Rattle.bw_types.specs.declared.tree.Tree.{Tree}
use Rattle.span_planes.proofs.NewSpans.{roots_few}
use Rattle.span_planes.proofs.creating.first_meta.Goals as goal

pub loop-init : goal.loop-init
loop-init c =
    let most = roots_few c.args.params.now.dims c.requires.dims in
    let count = c.root_count-end.ensures in
    record {
      few = omega (arith, most, count);
      items = c.new-roots.ensures;
      len = ap (λ (ts : List Tree). length ts) c.new-roots.ensures;
    }
