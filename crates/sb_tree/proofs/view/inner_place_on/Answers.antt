use Rattle.sb_tree.proofs.Common.{◌<◌, ◌≤◌, length, sym, ap, ◌∙◌, arith}
use Rattle.sb_tree.proofs.Paths.{inner_low, inner_high, first_low-at, first_low-past}
use Rattle.sb_tree.proofs.view.inner_place_on.Goals.{then-begun-len, else-begun-len}
use Rattle.sb_tree.proofs.view.inner_place_on.Goals as goal

pub returns-clause-low : goal.returns-clause-low
returns-clause-low c = ap (λ e. e.low) (c.entry-2.ensures c.entry-2.result)
    ∙ inner_low c.args.view.now.entries.items c.args.begun c.args.place.sought c.args.place.low c.entry-2.result c.requires.1 c.requires.0

pub returns-clause-high : goal.returns-clause-high
returns-clause-high c =
    let whole = inner_high c.args.view.now.entries.items c.args.begun c.args.place.sought c.args.place.high c.requires.1 in
    elim c.if-begun-len.branch [
      | then-begun-len w ↦
          let within : c.args.begun < length c.args.view.now.entries.items = omega (arith, w.if-begun-len.true, c.len.ensures) in
          let first = first_low-at c.args.view.now.entries.items c.args.begun c.args.place.high w.entry.result within in
          w.high-is ∙ w.from-high.ensures ∙ ap (λ e. e.low) (w.entry.ensures w.entry.result) ∙ sym (whole ∙ first)
      | else-begun-len w ↦
          let past : length c.args.view.now.entries.items ≤ c.args.begun = omega (arith, w.if-begun-len.false, c.len.ensures) in
          w.high-is ∙ sym (whole ∙ first_low-past c.args.view.now.entries.items c.args.begun c.args.place.high past)
    ]
