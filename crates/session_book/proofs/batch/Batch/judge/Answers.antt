use Rattle.std.proofs.Common.{◌∙◌, sym}
use Rattle.session_book.proofs.Judged.{add_clause, move_clause, withdraw_clause, withdraw_refused_clause, move_refused_clause}
use Rattle.session_book.proofs.batch.Batch.judge.Goals as goal

pub returns-in-None-clause-ok : goal.returns-in-None-clause-ok
returns-in-None-clause-ok c =
    add_clause c.args.params.now c.args.self.now c.add.new.self c.args.row.now c.args.standing c.in-Add.object c.add.result c.in-Add.is
    (sym c.refusal_to_add.ensures ∙ c.in-None.is) c.add.ensures.reason c.add.ensures.own c.add.ensures.total

pub returns-in-Some-refusal_to_withdraw-clause-ok : goal.returns-in-Some-refusal_to_withdraw-clause-ok
returns-in-Some-refusal_to_withdraw-clause-ok c =
    withdraw_refused_clause c.args.params.now c.args.self.now c.args.self.now c.args.row.now c.args.standing c.in-Some-refusal_to_withdraw.reason c.in-Withdraw.id c.in-Withdraw.is
    (sym c.refusal_to_withdraw.ensures ∙ c.in-Some-refusal_to_withdraw.is)

pub returns-in-None-refusal_to_withdraw-clause-ok : goal.returns-in-None-refusal_to_withdraw-clause-ok
returns-in-None-refusal_to_withdraw-clause-ok c =
    withdraw_clause c.args.params.now c.args.self.now c.withdraw.new.self c.args.row.now c.args.standing c.in-Withdraw.id c.withdraw.result c.in-Withdraw.is
    (sym c.refusal_to_withdraw.ensures ∙ c.in-None-refusal_to_withdraw.is) c.withdraw.ensures.reason c.withdraw.ensures.own c.withdraw.ensures.mass

pub returns-in-Some-refusal_to_withdraw-2-clause-ok : goal.returns-in-Some-refusal_to_withdraw-2-clause-ok
returns-in-Some-refusal_to_withdraw-2-clause-ok c =
    move_refused_clause c.args.params.now c.args.self.now c.args.self.now c.args.row.now c.args.standing c.in-Some-refusal_to_withdraw-2.reason c.in-Move.object c.in-Move.is
    (sym c.refusal_to_withdraw-in-Move.ensures ∙ c.in-Some-refusal_to_withdraw-2.is)

pub returns-in-None-refusal_to_withdraw-2-clause-ok : goal.returns-in-None-refusal_to_withdraw-2-clause-ok
returns-in-None-refusal_to_withdraw-2-clause-ok c =
    move_clause c.args.params.now c.args.self.now c.add-in-None-refusal_to_withdraw-2.new.self c.args.row.now c.args.standing c.in-Move.object c.add-in-None-refusal_to_withdraw-2.result c.in-Move.is
    (sym c.refusal_to_withdraw-in-Move.ensures ∙ c.in-None-refusal_to_withdraw-2.is) c.add-in-None-refusal_to_withdraw-2.ensures.reason c.add-in-None-refusal_to_withdraw-2.ensures.own c.add-in-None-refusal_to_withdraw-2.ensures.total
