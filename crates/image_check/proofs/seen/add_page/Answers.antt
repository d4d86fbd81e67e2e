use Rattle.image_check.proofs.Names.{names_added}
use Rattle.image_check.proofs.seen.add_page.Goals as goal

pub returns-in-Ok-clause-names : goal.returns-in-Ok-clause-names
returns-in-Ok-clause-names c = names_added c.args.seen.now.keys c.insert.new.self.keys c.args.page c.in-Ok.ensures.updates.0
