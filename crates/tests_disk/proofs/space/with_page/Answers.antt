use Rattle.std.proofs.Common.{ap}
use Rattle.std.specs.Prelude.{is_some}
use Rattle.page_space.proofs.Staging.{put_there}
use Rattle.tests_disk.proofs.space.with_page.Goals as goal

pub put-requires-clause-in_map : goal.put-requires-clause-in_map
put-requires-clause-in_map c = λ told. ap (λ o. is_some o) (put_there _ _ c.in_ok-page.page _ (c.in_ok-page.ensures.ok.2 told).1)
