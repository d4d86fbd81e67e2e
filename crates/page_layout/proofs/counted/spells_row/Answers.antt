use Rattle.std.proofs.Common.{◌≡◌, min, drop, refl, arith}
use Rattle.page_layout.specs.Numbers.{number_in}
use Rattle.page_layout.specs.Respelled.{length-read}
use Rattle.page_layout.specs.TestedRow.{spells_row, row_in_order}
use Rattle.page_layout.proofs.Testing.{never}
use Rattle.page_layout.proofs.counted.spells_row.Goals as goal

pub returns-then-count-lt1 : goal.returns-then-count-lt1
returns-then-count-lt1 g c =
    let len = length-read g.T.Entry.value_at g.T.Entry.SIZE (min (number_in 2 (drop 2 c.args.page.now)) c.args.most) (drop 16 c.args.page.now) in
    never (λ row. omega (arith, row.some, c.if-count-lt1.true, c.min-count.ensures, c.from.ensures, c.read_count.ensures))

pub returns : goal.returns
returns g c =
    let is_count : c.min-count.result ≡ min (number_in 2 (drop 2 c.args.page.now)) c.args.most = omega (arith, c.min-count.ensures, c.from.ensures, c.read_count.ensures) in (
      λ t. spells_row _ _ _ c.requires.respells _ _ _ _ _ _ _ _ _ _ refl is_count c.read_body.ensures.value (omega (arith, c.if-level-low.false)) (omega (arith, c.if-level-high.false))
          (omega (arith, c.if-count-lt1.false)) (c.is_counted.ensures.0 c.if-not-is_counted.false) (c.stand_in_order.ensures.0 t),
      λ row. c.stand_in_order.ensures.1 (row_in_order _ _ _ c.requires.respells _ _ _ _ _ _ _ _ _ _ refl is_count c.read_body.ensures.value row),
    )
