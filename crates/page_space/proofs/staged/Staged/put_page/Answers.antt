use Rattle.std.proofs.Common.{IsTrue, rules}
use Rattle.page_space.specs.Shown.{staged_bytes}
use Rattle.page_space.proofs.Giving.{changes_ok, on_ok, went}
use Rattle.page_space.proofs.Staging.{UsedPut, used_put}
use Rattle.page_space.proofs.Walking.{put_keeps_all}
use Rattle.page_space.proofs.staged.Staged.put_page.Goals as goal

put : (g : _) (c : goal.Else-is_err g) → IsTrue (g.D.Disk.tells c.args.self.now.space.disk)
    → UsedPut (staged_bytes c.args.self.now) (staged_bytes c.put_image.new.self) c.args.page c.args.buf.now c.args.self.now.meta c.put_image.new.self.meta
put g c told = used_put _ _ _ _ _ _ c.put_image.ensures.meta (on_ok c.put_image.result _ (cc) c.put_image.ensures.bytes) (c.requires.in_map told) c.requires.kind

pub returns-clause-ok : goal.returns-clause-ok
returns-clause-ok g c = λ told. (put g c told).0

pub returns-clause-chain : goal.returns-clause-chain
returns-clause-chain g c = λ told. (put g c told).1

pub returns-clause-changes : goal.returns-clause-changes
returns-clause-changes g c = changes_ok _ 0 _ _ _ (went _ 0 _ _ (search rules) (search rules) (search rules) (search rules) (search rules) (search rules) (search rules)
    (λ told. (put g c told).2) (λ told h p lost. put_keeps_all _ _ _ c.args.page c.args.buf.now (put g c told).0 (put g c told).1 (search rules) p lost))
