use Rattle.std.proofs.Common.{ap, ◌∙◌, arith}
use Rattle.page_layout.specs.declared.mv_node.MvEntry.{MvEntry}
use Rattle.mv_pages.specs.Copies.{with_entries}
use Rattle.mv_pages.proofs.Halving.{one_copy, two_copies}
use Rattle.mv_pages.proofs.Typing.{one_typed, two_typed}
use Rattle.mv_pages.proofs.copy.close_and_copy.Goals as goal

none : MvEntry
none = record { low = 0; start = 0; end = 0; value = 0; child = 0 }

pub returns-then-len-le-MOST_IN_ONE-clause-copied : goal.returns-then-len-le-MOST_IN_ONE-clause-copied
returns-then-len-le-MOST_IN_ONE-clause-copied c =
    one_copy c.args.node.now c.with_entries.result c.as_slice.result.now c.copies-copies.result.items c.args.version c.requires.entries c.requires.changeable
    c.as_slice.ensures.value c.copies-copies.ensures.items (omega (arith, c.if-len-le-MOST_IN_ONE.true, c.len.ensures.value)) c.with_entries.ensures

pub returns-clause-copied : goal.returns-clause-copied
unfolding none
returns-clause-copied c =
    two_copies c.args.node.now c.with_entries-2.result c.with_entries-3.result c.as_slice.result.now c.copies-copies.result.items c.halve-second.result.items c.as_slice-2.result.now c.args.version none
    c.requires.entries c.requires.changeable c.as_slice.ensures.value c.copies-copies.ensures.items (omega (arith, c.if-len-le-MOST_IN_ONE.false, c.len.ensures.value)) c.copies-copies.ensures.few
    (c.with_entries-2.ensures ∙ ap (with_entries c.args.node.now) c.halve-second.ensures.first) c.with_entries-3.ensures c.halve-second.ensures.second c.as_slice-2.ensures.value

pub returns-then-len-le-MOST_IN_ONE-clause-typed : goal.returns-then-len-le-MOST_IN_ONE-clause-typed
returns-then-len-le-MOST_IN_ONE-clause-typed c = λ all.
    one_typed c.args.node.now c.with_entries.result c.as_slice.result.now c.copies-copies.result.items c.args.version c.ranges.version.fits c.as_slice.ensures.value c.copies-copies.ensures.items c.with_entries.ensures all

pub returns-clause-typed : goal.returns-clause-typed
returns-clause-typed c = λ all.
    two_typed c.args.node.now c.with_entries-2.result c.with_entries-3.result c.as_slice.result.now c.copies-copies.result.items c.halve-second.result.items c.args.version c.ranges.version.fits
    c.as_slice.ensures.value c.copies-copies.ensures.items (c.with_entries-2.ensures ∙ ap (with_entries c.args.node.now) c.halve-second.ensures.first) c.with_entries-3.ensures c.halve-second.ensures.second all
