use Rattle.std.proofs.Common.{List, Ok, refl, ◌∙◌, ap, subst, arith}
use Rattle.std.specs.List.{All}
use Rattle.bw_types.specs.declared.change.Change.{Change}
use Rattle.history_laws.specs.Bounds.{HasSmallWeight}
use Rattle.page_warehouse.proofs.EventNumbers.{events_changes, events_count}
use Rattle.image_check.proofs.Masses.{small_changes}
use Rattle.image_check.proofs.judging.is_kept.Goals as goal

pub are_lives-requires : goal.are_lives-requires
are_lives-requires c =
    let h = c.requires.told.0 in
    let lawful = c.is_lawful.ensures.yes (c.in_ok-is_lawful.was ∙ ap Ok c.if-not-branch.false) h c.requires.told.1 c.requires.told.2 in
    let room = c.lawful_histories_have_room.ensures c.args.params.now h lawful in
    omega (arith, room.events, events_count h c.args.events.now c.requires.told.1, c.requires.range.events)

pub returns-clause-yes : goal.returns-clause-yes
returns-clause-yes c = λ e h are last.
    let lawful = c.is_lawful.ensures.yes (c.in_ok-is_lawful.was ∙ ap Ok c.if-not-branch.false) h are last in
    record {
      tells = (c.if-not-numbers_hold.ensures h are last lawful).0 refl;
      lawful = lawful;
      weights = subst (λ (cs : List Change). All HasSmallWeight cs) (events_changes h c.args.events.now are) (small_changes c.args.events.now c.weights_are_small.ensures);
      all = c.are_lives.ensures.yes e h are;
    }
