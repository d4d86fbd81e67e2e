use Rattle.std.proofs.Common.{◌≡◌, ◌-◌, [], arith, ap, slice_set}
use Rattle.std.proofs.lemmas.List.{map-set}
use Rattle.session_book.proofs.sessions.Sessions.clear.Goals as goal

pub returns : goal.returns
returns c =
    let at : c.from.result ≡ c.args.session - 1 = omega arith in
    rw (map-set, at, c.clear.ensures.items) (ap (λ s. slice_set s (c.args.session - 1) []) c.self.view_is)
