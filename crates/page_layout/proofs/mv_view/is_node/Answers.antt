use Rattle.std.proofs.Common.{◌≡◌, min, drop, sym, arith, ◌∙◌}
use Rattle.page_layout.specs.Numbers.{number_in}
use Rattle.page_layout.specs.MvView.{mv-respells, length-mv_entries, is_mv_node, in_order}
use Rattle.page_layout.proofs.Testing.{never}
use Rattle.page_layout.proofs.mv_view.is_node.Goals as goal

pub returns-then-count-lt1 : goal.returns-then-count-lt1
returns-then-count-lt1 c = never (λ p. omega (arith, p.0.some, length-mv_entries, c.if-count-lt1.true, c.min-count.ensures, c.from.ensures, c.read_count.ensures))

pub is_counted-requires-clause-respells : goal.is_counted-requires-clause-respells
is_counted-requires-clause-respells c = mv-respells

pub returns-then-place-lt1 : goal.returns-then-place-lt1
returns-then-place-lt1 c = never (λ p. omega (arith, p.0.place, c.if-place-lt1.true, c.read_word-place.ensures))

pub returns : goal.returns
returns c =
    let is_count : c.min-count.result ≡ min (number_in 2 (drop 2 c.args.page.now)) 96 = omega (arith, c.min-count.ensures, c.from.ensures, c.read_count.ensures) in
    let fits = rw (c.read_word-place.ensures, c.read_double-before.ensures) at (sym c.before_fits.ensures ∙ c.if-not-before_fits.false) in (
      λ t. (
        is_mv_node c.args.page.now _ _ is_count c.read_body.ensures.value (omega (arith, c.if-level-lt1.false)) (omega (arith, c.if-level-gt16.false)) (omega (arith, c.if-place-lt1.false, c.read_word-place.ensures)) fits
            (omega (arith, c.if-count-lt1.false)) (c.stand_in_order.ensures.0 t),
        rw (c.read_word-place.ensures, c.read_double-before.ensures) at (c.is_counted.ensures.0 c.if-not-is_counted.false),
      ),
      λ p. c.stand_in_order.ensures.1 (in_order c.args.page.now _ _ is_count c.read_body.ensures.value p.0),
    )
