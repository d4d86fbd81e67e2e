use Rattle.std.proofs.Common.{◌≡◌, ◌-◌, ◌<◌, arith, length}
use Rattle.std.proofs.lemmas.List.{map-set}
use Rattle.session_book.proofs.Lists.{set-push, set-same}
use Rattle.session_book.proofs.sessions.Sessions.stage.Goals as goal
use Rattle.session_book.proofs.sessions.Sessions.stage.Goals.{in-Ok, in-Err}

pub returns-clause-ok : goal.returns-clause-ok
returns-clause-ok c =
    let at : c.from.result ≡ c.args.session - 1 = omega arith in
    let within : c.from.result < length c.self.inside.lists = omega arith in
    elim c.match-push.branch [
      | in-Ok w ↦ rw w.result-is (rw (map-set, ← at) (set-push (λ list. list.items) c.self.inside.lists c.from.result c.index-self-from.result c.args.self.now c.args.row.now c.push.new.self.items within c.self.view_is w.in-Ok.ensures.items))
      | in-Err w ↦ rw w.result-is tt
    ]

pub returns-clause-err : goal.returns-clause-err
returns-clause-err c =
    let within : c.from.result < length c.self.inside.lists = omega arith in
    elim c.match-push.branch [
      | in-Ok w ↦ rw w.result-is tt
      | in-Err w ↦ rw w.result-is (rw map-set (set-same (λ list. list.items) c.self.inside.lists c.from.result c.index-self-from.result c.args.self.now c.push.new.self.items within c.self.view_is w.in-Err.ensures.items))
    ]
