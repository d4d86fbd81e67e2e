use Rattle.std.proofs.Common.{◌≡◌, min, drop, arith}
use Rattle.page_layout.specs.Numbers.{number_in}
use Rattle.page_layout.specs.PointView.{point-respells, length-points, is_point_leaf}
use Rattle.page_layout.proofs.Testing.{never}
use Rattle.page_layout.proofs.point_view.is_leaf.Goals as goal

pub returns-then-count-lt1 : goal.returns-then-count-lt1
returns-then-count-lt1 c = never (λ p. omega (arith, p.0.some, length-points, c.if-count-lt1.true, c.min-count.ensures, c.from.ensures, c.read_count.ensures))

pub is_counted-requires-clause-respells : goal.is_counted-requires-clause-respells
is_counted-requires-clause-respells c = point-respells

pub returns : goal.returns
returns c =
    let is_count : c.min-count.result ≡ min (number_in 2 (drop 2 c.args.page.now)) 64 = omega (arith, c.min-count.ensures, c.from.ensures, c.read_count.ensures) in
    let spelled = rw (c.if-level-ne1.false, c.read_double-next.ensures) at c.is_counted.ensures in
    (λ t. (is_point_leaf c.args.page.now _ is_count (omega (arith, c.if-count-lt1.false)), spelled.0 t), λ p. spelled.1 p.1)
