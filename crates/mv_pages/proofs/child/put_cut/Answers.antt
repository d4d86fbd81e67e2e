use Rattle.std.proofs.Common.{◌∙◌, ap}
use Rattle.mv_pages.specs.Edits.{put_in}
use Rattle.mv_pages.proofs.Typing.{cut_typed}
use Rattle.mv_pages.proofs.child.put_cut.Goals as goal

pub returns-clause-typed : goal.returns-clause-typed
returns-clause-typed c = λ all. cut_typed c.args.entries.now.items c.put_in.new.entries.items c.args.version c.args.cut c.args.page
    (c.put_in.ensures.items ∙ ap (λ x. put_in x c.args.entries.now.items) c.new_entry.ensures) c.ranges.version.fits c.ranges.cut.fits c.ranges.page.fits all
