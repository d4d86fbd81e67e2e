use Rattle.std.proofs.Common.{subst, sym, IsTrue, ◌<◌, get_or}
use Rattle.page_layout.specs.declared.mv_node.MvEntry.{MvEntry}
use Rattle.mvsb_tree.specs.Stands.{ends_after}
use Rattle.key_check.specs.Cells.{Adds, weight_within}
use Rattle.key_check.specs.declared.piece.Piece.{Piece}
use Rattle.key_check.proofs.Entries.{entries_all, entries_more, life_begins}
use Rattle.key_check.proofs.entry_corners.push_entries.Goals as goal

abbrev none : MvEntry
none = record { low = 0; start = 0; end = 0; value = 0; child = 0 }

pub push_weight-requires : goal.push_weight-requires
push_weight-requires c =
    subst (λ (life : Piece). life.from < life.to → IsTrue (ends_after life.high life.low)) (sym c.life_in.ensures)
    (life_begins c.args.entries.now c.loop-e.e-index none c.args.piece c.loop-e-test.true c.requires.stands)

pub loop-e-preserved : goal.loop-e-preserved
loop-e-preserved c =
    let e : MvEntry = get_or c.args.entries.now c.loop-e.e-index none in
    entries_more c.args.entries.now c.loop-e.e-index none c.args.piece c.args.corners.now.items c.loop-e.corners.items c.push_weight.new.corners.items c.loop-e-test.true c.requires.stands c.requires.versions c.loop-e.invariant
    (subst (λ (life : Piece). Adds (weight_within life.from life.to life.low life.high e.value) c.loop-e.corners.items c.push_weight.new.corners.items) c.life_in.ensures c.in_ok-push_weight.ensures)

pub returns : goal.returns
returns c = entries_all c.args.entries.now c.loop-e.e-index c.args.piece c.args.corners.now.items c.loop-e.corners.items c.loop-e-test.false c.loop-e.invariant
