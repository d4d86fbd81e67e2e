use Rattle.page_warehouse.proofs.Ends.{begun_fits}
use Rattle.page_warehouse.proofs.in_table.begun.Goals as goal

pub returns-clause-rules : goal.returns-clause-rules
returns-clause-rules c = begun_fits c.args.params.now c.args.object.now c.requires.fits c.args.life c.args.version c.args.event c.requires.life c.requires.version
