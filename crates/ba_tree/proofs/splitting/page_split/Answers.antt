use Rattle.std.proofs.Common.{sym, ap, List, length, arith}
use Rattle.std.proofs.Common.{length-append}
use Rattle.page_layout.specs.declared.cut_page.CutNode.{CutNode}
use Rattle.ba_tree.proofs.Pieces.{many_nodes, split_both, split_high, split_low}
use Rattle.ba_tree.proofs.splitting.page_split.Goals as goal

pub returns-in-Ok-clause-stored : goal.returns-in-Ok-clause-stored
returns-in-Ok-clause-stored g c = λ tells n part is stood once.
    let s = c.in-Some in
    let long = ap (λ (ns : List CutNode). length ns) is in
    let whole = ap (λ (ns : List CutNode). length ns) s.ensures.all in
    let parts = length-append s.field-0.low.nodes.items s.field-0.high.nodes.items in
    let nodes = s.ensures.nodes c.requires.nodes in
    let one = c.in-Some-page_of.ensures.alone nodes.0 in
    split_low g.B.BorderTree c.border_laws.ensures.laws (g.S.Pages.map c.args.stage.now) (g.S.Pages.map c.put_again.new.stage) c.args.page n _ part
    c.args.cuts.now.nodes.items s.field-0.low.nodes.items s.field-0.high.nodes.items s.field-0.cut (many_nodes part (omega (arith, c.requires.many, long))) is stood once
    (λ d k l b low_side high_side e. (s.ensures.split d k l b low_side high_side e).0)
    c.in-Some-page_of.ensures.begins (λ side e. sym (many_nodes side (omega (arith, c.requires.many, whole, parts, one, ap (λ (ns : List CutNode). length ns) e))))
    (c.in-Ok.ensures.put tells) (c.in-Ok.ensures.change tells)

pub returns-in-Ok-put_again-clause-stored : goal.returns-in-Ok-put_again-clause-stored
returns-in-Ok-put_again-clause-stored g c = λ tells n part is stood once.
    let s = c.in-Some in
    let long = ap (λ (ns : List CutNode). length ns) is in
    split_high g.B.BorderTree c.border_laws.ensures.laws (g.S.Pages.map c.args.stage.now) (g.S.Pages.map c.put_again-in-Some-page_of-2.new.stage) c.args.page n _ part
    c.args.cuts.now.nodes.items s.field-0.low.nodes.items s.field-0.high.nodes.items s.field-0.cut (many_nodes part (omega (arith, c.requires.many, long))) is stood once
    (λ d k l b low_side high_side e. (s.ensures.split d k l b low_side high_side e).0)
    c.in-None.ensures.begins c.in-Some-page_of-2.ensures.begins
    (c.in-Ok-put_again.ensures.put tells) (c.in-Ok-put_again.ensures.change tells)

pub returns-in-Ok-put_both-clause-stored : goal.returns-in-Ok-put_both-clause-stored
returns-in-Ok-put_both-clause-stored g c = λ tells n part is stood once.
    let s = c.in-Some in
    let long = ap (λ (ns : List CutNode). length ns) is in
    let put = c.in-Ok-put_both.ensures.put tells in
    split_both g.B.BorderTree c.border_laws.ensures.laws (g.S.Pages.map c.args.stage.now) put.0 (g.S.Pages.map c.put_both.new.stage) c.args.page _ n part
    c.args.cuts.now.nodes.items s.field-0.low.nodes.items s.field-0.high.nodes.items s.field-0.cut (many_nodes part (omega (arith, c.requires.many, long))) is stood once
    (λ d k l b low_side high_side e. (s.ensures.split d k l b low_side high_side e).0)
    c.in-None.ensures.begins c.in-None-page_of.ensures.begins put.1 put.2 put.3 put.4
