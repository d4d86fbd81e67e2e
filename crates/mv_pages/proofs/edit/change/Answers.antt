use Rattle.page_layout.specs.declared.mv_node.MvEntry.{MvEntry}
use Rattle.mv_pages.proofs.Changes.{in_place, by_copy}
use Rattle.mv_pages.proofs.edit.change.Goals as goal

none : MvEntry
none = record { low = 0; start = 0; end = 0; value = 0; child = 0 }

pub returns-then-e-version-clause-changed : goal.returns-then-e-version-clause-changed
unfolding none
returns-then-e-version-clause-changed c = λ before after e whole at.
    in_place c.as_slice.result.now c.args.entries.now.items c.replace.new.entries.items before after c.args.index c.args.version e c.args.changed none
    c.as_slice.ensures.value whole at c.if-e-version.true c.replace.ensures.items

pub returns-clause-changed : goal.returns-clause-changed
unfolding none
returns-clause-changed c = λ before after e whole at.
    by_copy c.as_slice.result.now c.args.entries.now.items c.replace-2.new.entries.items c.put_in.new.entries.items before after c.args.index c.args.version e c.args.changed c.closed.result none
    c.as_slice.ensures.value whole at c.if-e-version.false c.closed.ensures c.replace-2.ensures.items c.put_in.ensures.items
