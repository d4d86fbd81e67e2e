use Rattle.page_space.proofs.Giving.{if_ok_join}
use Rattle.page_space.proofs.Walking.{none_walked}
use Rattle.page_space.specs.Shown.{staged_bytes}
use Rattle.page_space.proofs.stage.StagedStage.allot.Goals as goal

pub returns-clause-ok : goal.returns-clause-ok
returns-clause-ok g c = if_ok_join c.allot_page.result _ _ _ c.allot_page.ensures.ends c.allot_page.ensures.ok

pub returns-clause-page_limit : goal.returns-clause-page_limit
returns-clause-page_limit g c = λ n e told.
    none_walked (staged_bytes c.args.self.now) c.args.self.now.meta.allotted c.args.self.now.meta.free (c.allot_page.ensures.page_limit n e)
