use Rattle.std.proofs.Common.{rules, arith}
use Rattle.dom_index.proofs.FirstPages.{put_full, put_in_page, full_page}
use Rattle.dom_index.proofs.putting.put_first.Goals as goal

pub returns-then-len-eq64-clause-put : goal.returns-then-len-eq64-clause-put
returns-then-len-eq64-clause-put g c = λ tells.
    put_full (g.S.Pages.map c.args.stage.now) (g.S.Pages.map c.read_page.new.pages) (g.S.Pages.map c.make_leaf-then-len-eq64.new.stage) c.args.first c.in_ok-root.root c.args.point.now c.in_ok-leaf.leaf
    c.in_ok-leaf.ensures.reads.read.map c.in_ok-root.ensures.number (c.in_ok-root.ensures.made (search rules))
    (c.in_ok-leaf.ensures.found tells) c.in_ok-leaf.ensures.spells (omega (arith, c.len.ensures.value, c.if-len-eq64.true))

pub returns-then-len-eq64-clause-room : goal.returns-then-len-eq64-clause-room
returns-then-len-eq64-clause-room g c = λ tells some leaf few.
    absurd (full_page (g.S.Pages.map c.args.stage.now) c.args.first c.in_ok-leaf.leaf (c.in_ok-leaf.ensures.found tells) c.in_ok-leaf.ensures.spells
    (omega (arith, c.len.ensures.value, c.if-len-eq64.true)) few)

pub returns-clause-put : goal.returns-clause-put
returns-clause-put g c = λ tells.
    put_in_page (g.S.Pages.map c.args.stage.now) (g.S.Pages.map c.read_page.new.pages) (g.S.Pages.map c.put_page.new.stage) c.args.first c.in_ok-leaf.leaf c.push.new.self.items c.args.point.now
    c.in_ok-leaf.ensures.reads.read.map c.if-first-eq0.false (c.in_ok-leaf.ensures.found tells) c.in_ok-leaf.ensures.spells
    (omega (arith, c.len.ensures.value, c.if-len-eq64.false, c.in_ok-leaf.ensures.spells.rules.few)) c.push.ensures.items (c.in_ok-put_page.ensures.ok (search rules))

pub returns-in_err-root-clause-room : goal.returns-in_err-root-clause-room
returns-in_err-root-clause-room g c = λ tells some leaf few.
    absurd (full_page (g.S.Pages.map c.args.stage.now) c.args.first c.in_ok-leaf.leaf (c.in_ok-leaf.ensures.found tells) c.in_ok-leaf.ensures.spells
    (omega (arith, c.len.ensures.value, c.if-len-eq64.true)) few)
