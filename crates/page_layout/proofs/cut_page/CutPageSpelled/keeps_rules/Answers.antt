use Rattle.std.proofs.Common.{arith, ◌∙◌, sym}
use Rattle.page_layout.specs.CutPageLaws.{sizes}
use Rattle.page_layout.proofs.Testing.{never, then_for}
use Rattle.page_layout.proofs.Parting.{ruled}
use Rattle.page_layout.proofs.cut_page.CutPageSpelled.keeps_rules.Goals as goal

pub returns-then-nodes-gt127 : goal.returns-then-nodes-gt127
returns-then-nodes-gt127 c =
    let many = rw c.as_slice-nodes.ensures.value at c.if-nodes-gt127.true in
    never (λ p. omega (arith, many, (sizes c.args.self.now p).0, (sizes c.args.self.now p).2))

pub returns : goal.returns
returns c =
    let some = rw c.as_slice-nodes.ensures.value at c.if-nodes-lt3.false in
    let few = rw c.as_slice-nodes.ensures.value at c.if-nodes-gt127.false in
    let filled = rw c.as_slice-nodes.ensures.value at (sym c.fill_one_place.ensures ∙ c.if-not-fill_one_place.false) in
    then_for (rw c.as_slice-nodes.ensures.value at c.each_fits.ensures) (ruled c.args.self.now some few filled)
