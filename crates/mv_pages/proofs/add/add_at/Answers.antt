use Rattle.std.proofs.Common.{sym, subst}
use Rattle.mv_pages.specs.Alive.{AreEntriesOf}
use Rattle.mv_pages.proofs.Typing.{taken_typed}
use Rattle.mv_pages.proofs.Additions.{taken_value, taken_entries, taken_changeable, taken_alive, taken_lows, lows_taken-early, lows_taken-late}
use Rattle.mv_pages.proofs.add.add_at.Goals as goal

pub returns-clause-value : goal.returns-clause-value
returns-clause-value c = λ q w. taken_value c.args.node.now.level c.args.node.now.entries.items c.take_in.new.entries.items c.args.key c.args.version c.args.value c.requires.entries c.requires.changeable c.take_in.ensures.taken q w

pub returns-clause-entries : goal.returns-clause-entries
returns-clause-entries c =
    subst (λ level. AreEntriesOf level c.take_in.new.entries.items) (sym c.requires.leaf)
    (taken_entries c.args.node.now.entries.items c.take_in.new.entries.items c.args.key c.args.version c.args.value
    (subst (λ level. AreEntriesOf level c.args.node.now.entries.items) c.requires.leaf c.requires.entries) c.requires.changeable c.take_in.ensures.taken)

pub returns-clause-changeable : goal.returns-clause-changeable
returns-clause-changeable c = taken_changeable c.args.node.now.level c.args.node.now.entries.items c.take_in.new.entries.items c.args.key c.args.version c.args.value c.requires.entries c.requires.changeable c.take_in.ensures.taken

pub returns-clause-alive : goal.returns-clause-alive
returns-clause-alive c = λ low. taken_alive c.args.node.now.level c.args.node.now.entries.items c.take_in.new.entries.items c.args.key c.args.version c.args.value c.requires.entries c.requires.changeable c.take_in.ensures.taken low

pub returns-clause-lows : goal.returns-clause-lows
returns-clause-lows c = λ test all here. taken_lows c.args.node.now.entries.items c.take_in.new.entries.items c.args.key c.args.version c.args.value test c.take_in.ensures.taken all here

pub returns-clause-typed : goal.returns-clause-typed
returns-clause-typed c = λ all. taken_typed c.args.node.now.entries.items c.take_in.new.entries.items c.args.key c.args.version c.args.value c.take_in.ensures.taken c.ranges.key.fits c.ranges.version.fits c.ranges.value.fits all

pub returns-clause-lows_before : goal.returns-clause-lows_before
returns-clause-lows_before c = λ w early. lows_taken-early c.args.node.now.level c.args.node.now.entries.items c.take_in.new.entries.items c.args.key c.args.version c.args.value c.requires.entries c.requires.changeable c.take_in.ensures.taken w early

pub returns-clause-lows_from : goal.returns-clause-lows_from
returns-clause-lows_from c = λ w late. lows_taken-late c.args.node.now.level c.args.node.now.entries.items c.take_in.new.entries.items c.args.key c.args.version c.args.value c.requires.entries c.requires.changeable c.take_in.ensures.taken w late
