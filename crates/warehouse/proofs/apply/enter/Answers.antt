use Rattle.warehouse.proofs.Entered.{takes_add, takes_withdrawal, takes_move}
use Rattle.warehouse.proofs.Named.{add_events, move_events}
use Rattle.warehouse.proofs.apply.enter.Goals as goal

pub returns-in-Add-clause-ledger : goal.returns-in-Add-clause-ledger
returns-in-Add-clause-ledger c =
    takes_add c.args.version c.args.lives.now.items c.add.new.lives.items c.args.states.now c.add.new.states c.args.row.now c.in-Add.object
    c.in-Add.is (c.add.ensures.lives, c.add.ensures.states)

pub returns-in-Withdraw-clause-ledger : goal.returns-in-Withdraw-clause-ledger
returns-in-Withdraw-clause-ledger c =
    takes_withdrawal c.args.version c.args.lives.now.items c.withdraw.new.lives.items c.args.states.now c.withdraw.new.states c.args.row.now c.in-Withdraw.id
    c.in-Withdraw.is c.requires.version (c.withdraw.ensures.lives, c.withdraw.ensures.states)

pub returns-in-Move-clause-ledger : goal.returns-in-Move-clause-ledger
returns-in-Move-clause-ledger c =
    takes_move c.args.version c.args.lives.now.items c.withdraw-in-Move.new.lives.items c.add-in-Move.new.lives.items
    c.args.states.now c.withdraw-in-Move.new.states c.add-in-Move.new.states c.args.row.now c.in-Move.object
    c.in-Move.is c.requires.version (c.withdraw-in-Move.ensures.lives, c.withdraw-in-Move.ensures.states) (c.add-in-Move.ensures.lives, c.add-in-Move.ensures.states)

pub returns-in-Add-clause-events : goal.returns-in-Add-clause-events
returns-in-Add-clause-events c =
    add_events c.args.lives.now.items c.add.new.lives.items _ c.args.events.now.items c.add.new.events.items c.args.row.now
    c.in-Add.is c.add.ensures.lives c.add.ensures.events

pub returns-in-Move-clause-events : goal.returns-in-Move-clause-events
returns-in-Move-clause-events c =
    move_events c.withdraw-in-Move.new.lives.items c.add-in-Move.new.lives.items _ c.args.events.now.items c.withdraw-in-Move.new.events.items c.add-in-Move.new.events.items c.args.row.now
    c.in-Move.is c.add-in-Move.ensures.lives c.withdraw-in-Move.ensures.events c.add-in-Move.ensures.events
