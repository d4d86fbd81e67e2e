use Rattle.cut_parts.proofs.Holding.{is_page, made_cuts}
use Rattle.cut_parts.proofs.putting.make_cuts.Goals as goal

pub make_page-requires : goal.make_page-requires
make_page-requires g c = is_page c.args.cuts.now c.requires.nodes c.requires.many.0 c.requires.many.1

pub returns-clause-made : goal.returns-clause-made
returns-clause-made g c =
    made_cuts c.make_page.result (g.S.Pages.tells c.args.stage.now) (g.S.Pages.map c.args.stage.now) (g.S.Pages.map c.make_page.new.stage) c.args.cuts.now
    c.requires.nodes c.requires.many.0 c.requires.many.1 c.make_page.ensures.made
