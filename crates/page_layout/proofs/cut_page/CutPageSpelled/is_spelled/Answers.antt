use Rattle.page_layout.specs.CutExact.{cut_page_in-typed, page_exact, spelled_front}
use Rattle.page_layout.proofs.Testing.{refused, then_for}
use Rattle.page_layout.proofs.cut_page.CutPageSpelled.is_spelled.Goals as goal

pub returns-then-not-has_front-clause-exact : goal.returns-then-not-has_front-clause-exact
returns-then-not-has_front-clause-exact c = refused _ c.if-not-has_front.true c.has_front.ensures.1 (spelled_front c.args.page.now)

pub returns-then-not-has_front-clause-typed : goal.returns-then-not-has_front-clause-typed
returns-then-not-has_front-clause-typed c = cut_page_in-typed c.args.page.now c.bytes_of-bytes.ensures.bytes

pub returns-clause-exact : goal.returns-clause-exact
returns-clause-exact c =
    then_for (rw (c.skip.ensures.value, c.read_body-body.ensures.value, c.from.ensures, c.read_count.ensures) at c.are_nodes_exact.ensures)
    (page_exact c.args.page.now c.bytes_of-bytes.ensures.bytes c.bytes_of-bytes.ensures.len (c.has_front.ensures.0 c.if-not-has_front.false))

pub returns-clause-typed : goal.returns-clause-typed
returns-clause-typed c = cut_page_in-typed c.args.page.now c.bytes_of-bytes.ensures.bytes
