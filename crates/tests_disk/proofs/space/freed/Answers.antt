use Rattle.std.proofs.Common.{ap, ◌∙◌}
use Rattle.std.specs.Prelude.{is_some}
use Rattle.ports.specs.Pages.{PageMap}
use Rattle.tests_disk.proofs.space.freed.Goals as goal

pub free-requires : goal.free-requires
free-requires c = record {
  in_map = λ told. ap (λ (m : PageMap). is_some (m c.args.page)) c.get.ensures.reads.read.map ∙ ap (λ o. is_some o) (c.in-Ok.ensures.bytes told);
}
