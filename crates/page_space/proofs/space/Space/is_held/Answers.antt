use Rattle.page_space.proofs.Settled.{idle_settles}
use Rattle.page_space.proofs.Standing.{is_space}
use Rattle.page_space.proofs.space.Space.is_held.Goals as goal

pub returns-clause-held : goal.returns-clause-held
returns-clause-held g c = λ told. record {
  pages = (g.D.Disk.image c.args.self.now.disk).pages;
  settled = idle_settles (g.D.Disk.image c.args.self.now.disk) (c.args.self.now.idle told);
  space = is_space c.args.self.now told;
}
