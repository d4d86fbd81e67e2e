use Rattle.sb_tree.proofs.Common.{◌<◌, ◌≤◌, length, sym, ap, ◌∙◌, rules, ltb-true, ltb-false}
use Rattle.sb_tree.proofs.Paths.{inner_low, inner_high, first_low-at, first_low-past}
use Rattle.sb_tree.proofs.entries.inner_place.Goals.{in-Some, in-None}
use Rattle.sb_tree.proofs.entries.inner_place.Goals as goal

pub returns-clause-low : goal.returns-clause-low
returns-clause-low c = search (rules, inner_low)

pub returns-clause-high : goal.returns-clause-high
returns-clause-high c =
    let whole = inner_high c.args.entries.now c.args.begun c.args.place.sought c.args.place.high c.requires.1 in
    elim c.match-get.branch [
      | in-Some w ↦
          let within : c.args.begun < length c.args.entries.now = ltb-true _ _ (sym w.in-Some.ensures.lookup.0) in
          let at = w.in-Some.ensures.lookup.1 in
          let first = first_low-at c.args.entries.now c.args.begun c.args.place.high w.in-Some.next.now within in
          w.high-is ∙ w.from-high.ensures ∙ ap (λ e. e.low) at ∙ sym (whole ∙ first)
      | in-None w ↦
          let past : length c.args.entries.now ≤ c.args.begun = ltb-false _ _ (sym w.in-None.ensures.lookup.0) in
          w.high-is ∙ sym (whole ∙ first_low-past c.args.entries.now c.args.begun c.args.place.high past)
    ]
