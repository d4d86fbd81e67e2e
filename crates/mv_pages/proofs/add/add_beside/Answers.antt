use Rattle.std.proofs.Common.{ℕ, Option, cond, ◌==◌, ap, None}
use Rattle.mv_pages.proofs.Typing.{above_typed}
use Rattle.mv_pages.proofs.Additions.{above_value, above_path, above_entries, above_changeable, above_alive, above_lows, lows_beside}
use Rattle.mv_pages.proofs.add.add_beside.Goals as goal

pub returns-clause-value : goal.returns-clause-value
returns-clause-value c = λ q w. above_value c.args.node.now.level c.args.node.now.entries.items c.take_above.new.entries.items c.args.key c.args.version c.args.value c.requires.entries c.requires.changeable c.take_above.ensures.taken q w

pub returns-clause-child : goal.returns-clause-child
returns-clause-child c = λ q w. ap (λ (o : Option ℕ). cond (c.args.node.now.level == 1) None o)
    (above_path c.args.node.now.level c.args.node.now.entries.items c.take_above.new.entries.items c.args.key c.args.version c.args.value c.requires.entries c.requires.changeable c.take_above.ensures.taken q w)

pub returns-clause-entries : goal.returns-clause-entries
returns-clause-entries c = above_entries c.args.node.now.level c.args.node.now.entries.items c.take_above.new.entries.items c.args.key c.args.version c.args.value c.requires.entries c.requires.changeable c.take_above.ensures.taken

pub returns-clause-changeable : goal.returns-clause-changeable
returns-clause-changeable c = above_changeable c.args.node.now.level c.args.node.now.entries.items c.take_above.new.entries.items c.args.key c.args.version c.args.value c.requires.entries c.requires.changeable c.take_above.ensures.taken

pub returns-clause-alive : goal.returns-clause-alive
returns-clause-alive c = λ low. above_alive c.args.node.now.level c.args.node.now.entries.items c.take_above.new.entries.items c.args.key c.args.version c.args.value c.requires.entries c.requires.changeable c.take_above.ensures.taken low

pub returns-clause-lows : goal.returns-clause-lows
returns-clause-lows c = λ test all. above_lows c.args.node.now.entries.items c.take_above.new.entries.items c.args.key c.args.version c.args.value test c.take_above.ensures.taken all

pub returns-clause-typed : goal.returns-clause-typed
returns-clause-typed c = λ all. above_typed c.args.node.now.entries.items c.take_above.new.entries.items c.args.key c.args.version c.args.value c.take_above.ensures.taken c.ranges.version.fits all

pub returns-clause-lows_stay : goal.returns-clause-lows_stay
returns-clause-lows_stay c = λ w. lows_beside c.args.node.now.level c.args.node.now.entries.items c.take_above.new.entries.items c.args.key c.args.version c.args.value c.requires.entries c.requires.changeable c.take_above.ensures.taken w
