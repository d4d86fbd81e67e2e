use Rattle.std.proofs.Common.{ℕ, ◌-◌, List, [], None, drop, take, length}
use Rattle.std.proofs.lemmas.List.{drop_all, take_rest}
use Rattle.page_layout.specs.declared.mv_node.MvEntry.{MvEntry}
use Rattle.key_check.specs.Cells.{CellStands, cell_total}
use Rattle.key_check.specs.declared.piece.Piece.{Piece}
use Rattle.key_check.proofs.Descending.{ends, goes_on}
use Rattle.key_check.proofs.PieceWays.{life_join, life_keys, life_split, life_sum}
use Rattle.key_check.proofs.pieces_below.push_children.Goals as goal

abbrev none : MvEntry
none = record { low = 0; start = 0; end = 0; value = 0; child = 0 }

pub push_life-requires-clause-keys : goal.push_life-requires-clause-keys
push_life-requires-clause-keys c =
    let es : List MvEntry = c.args.entries.now in
    let run = c.run_of-run.result in
    let rest : List MvEntry = take (length es - run.behind) (drop run.behind es) in
    life_keys c.args.level (λ _. None) [] c.args.piece es c.loop-place.place run.end run.behind none c.life_until-life.result rest c.loop-place-test.true c.run_of-run.ensures.run
    c.life_until-life.ensures (take_rest es run.behind) c.requires.entries

pub loop-place-preserved : goal.loop-place-preserved
loop-place-preserved c =
    let es : List MvEntry = c.args.entries.now in
    let i : ℕ = c.loop-place.place in
    let run = c.run_of-run.result in
    let rest : List MvEntry = take (length es - run.behind) (drop run.behind es) in
    let life : Piece = c.life_until-life.result in
    let level : ℕ = c.args.level in
    record {
      goes = λ m nodes. goes_on level m nodes c.args.piece es (drop i es) (drop run.behind es) c.args.below.now.items c.loop-place.below.items c.push_life.new.below.items
          (CellStands level m nodes life rest life.to) (cell_total level m life rest life.to) (c.loop-place.invariant.goes m nodes)
          (life_split level m nodes c.args.piece es i run.end run.behind none life rest c.loop-place-test.true c.run_of-run.ensures.run c.life_until-life.ensures (take_rest es run.behind))
          (life_join level m nodes c.args.piece es i run.end run.behind none life rest c.loop-place-test.true c.run_of-run.ensures.run c.life_until-life.ensures (take_rest es run.behind))
          (life_sum level m nodes c.args.piece es i run.end run.behind none life rest c.loop-place-test.true c.run_of-run.ensures.run c.life_until-life.ensures (take_rest es run.behind))
          (c.in_ok-push_life.ensures.pushes m nodes);
      whole = λ w. c.in_ok-push_life.ensures.whole (c.loop-place.invariant.whole w);
    }

pub returns-clause-pushes : goal.returns-clause-pushes
returns-clause-pushes c = λ m nodes.
    ends c.args.level m nodes c.args.piece c.args.entries.now (drop c.loop-place.place c.args.entries.now) c.args.below.now.items c.loop-place.below.items
    (drop_all c.loop-place.place c.args.entries.now c.loop-place-test.false) (c.loop-place.invariant.goes m nodes)
