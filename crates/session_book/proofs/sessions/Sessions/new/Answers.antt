use Rattle.std.proofs.Common.{rules}
use Rattle.session_book.proofs.Lists.{map-empty}
use Rattle.session_book.proofs.sessions.Sessions.new.Goals as goal

pub returns : goal.returns
returns c = map-empty (λ list. list.items) c.from_fn.result 16 c.from_fn.ensures.items.long (λ i d lt. let called = (c.from_fn.ensures.items.at i d lt).2 in search (rules, called))
