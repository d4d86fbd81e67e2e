use Rattle.std.proofs.Common.{refl, sym, ◌∙◌, subst, get_or}
use Rattle.std.specs.List.{All}
use Rattle.std.proofs.lemmas.Bool.{false≢true}
use Rattle.std.proofs.lemmas.List.{take_all}
use Rattle.std.proofs.lemmas.List.Elements.{All-more}
use Rattle.page_layout.specs.declared.mv_node.MvEntry.{MvEntry}
use Rattle.key_check.proofs.Lasting.{StandsAtTurns, lasts}
use Rattle.key_check.proofs.throughout.stands_throughout.Goals as goal

abbrev none : MvEntry
none = record { low = 0; start = 0; end = 0; value = 0; child = 0 }

pub returns-then-not-branch-2 : goal.returns-then-not-branch-2
returns-then-not-branch-2 c = (λ never. absurd (false≢true never), λ all. sym c.if-not-branch-2.true ∙ c.in_ok-stands_inside.ensures.1 (λ from to. all (get_or c.args.entries.now c.loop-e.e-index none).start from to))

pub returns-then-not-branch-3 : goal.returns-then-not-branch-3
returns-then-not-branch-3 c = (λ never. absurd (false≢true never), λ all. sym c.if-not-branch-3.true ∙ c.in_ok-stands_inside-2.ensures.1 (λ from to. all (get_or c.args.entries.now c.loop-e.e-index none).end from to))

pub loop-e-preserved : goal.loop-e-preserved
loop-e-preserved c = record {
  first = c.loop-e.invariant.first;
  each = All-more (StandsAtTurns c.args.entries.now c.args.piece) c.args.entries.now c.loop-e.e-index none c.loop-e-test.true c.loop-e.invariant.each
      (c.in_ok-stands_inside.ensures.0 c.if-not-branch-2.false, c.in_ok-stands_inside-2.ensures.0 c.if-not-branch-3.false);
}

pub returns : goal.returns
returns c = (
  λ _. lasts c.args.entries.now c.args.piece c.loop-e.invariant.first
      (subst (All (StandsAtTurns c.args.entries.now c.args.piece)) (take_all c.loop-e.e-index c.args.entries.now c.loop-e-test.false) c.loop-e.invariant.each),
  λ _. refl,
)
