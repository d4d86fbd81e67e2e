use Rattle.sb_tree.proofs.Common.{◌≡◌, ◌<◌, ◌-◌, length, get_or, ap, ◌∙◌, arith, eq-eqb, leb-true, le-leb, SbEntry}
use Rattle.sb_tree.proofs.InPlace.{leaf_in_place, index_in_place, leads_there}
use Rattle.sb_tree.proofs.view.is_in_place.Goals as goal

pub returns-then-level-eq1 : goal.returns-then-level-eq1
returns-then-level-eq1 c =
    let is_last : (d : SbEntry) → c.entry-last.result ≡ get_or c.args.view.now.entries.items (length c.args.view.now.entries.items - 1) d =
    λ d. c.entry-last.ensures d ∙ ap (λ n. get_or c.args.view.now.entries.items (n - 1) d) c.len.ensures in
    let high : c.entry-last.result.low < c.args.place.high = omega (arith, c.if-from-place.false, c.from.ensures) in (
      λ t. leaf_in_place c.args.view.now c.args.place c.args.level c.entry-first.result c.entry-last.result c.keeps_rules.ensures.entries.order c.keeps_rules.ensures.some c.entry-first.ensures is_last
          c.if-first-place.false high c.if-level-eq1.true,
      λ p. eq-eqb c.args.level 1 c.if-level-eq1.true,
    )

pub returns-else-level-eq1 : goal.returns-else-level-eq1
returns-else-level-eq1 c =
    let is_last : (d : SbEntry) → c.entry-last.result ≡ get_or c.args.view.now.entries.items (length c.args.view.now.entries.items - 1) d =
    λ d. c.entry-last.ensures d ∙ ap (λ n. get_or c.args.view.now.entries.items (n - 1) d) c.len.ensures in
    let high : c.entry-last.result.low < c.args.place.high = omega (arith, c.if-from-place.false, c.from.ensures) in (
      λ t. index_in_place c.args.view.now c.args.place c.args.level c.entry-first.result c.entry-last.result c.keeps_rules.ensures.entries.order c.keeps_rules.ensures.some c.entry-first.ensures is_last
          c.if-first-place.false high (leb-true _ _ t),
      λ p. le-leb _ _ (leads_there c.args.view.now c.args.place c.args.level c.entry-first.result c.entry-last.result c.keeps_rules.ensures.entries.order c.keeps_rules.ensures.some c.entry-first.ensures is_last
          p c.if-level-eq1.false),
    )
