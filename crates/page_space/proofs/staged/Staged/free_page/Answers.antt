use Rattle.std.proofs.Common.{IsTrue, rules}
use Rattle.page_space.specs.Shown.{staged_bytes}
use Rattle.page_space.proofs.Giving.{changes_ok, on_ok, went}
use Rattle.page_space.proofs.Staging.{FreePut, free_put}
use Rattle.page_space.proofs.Walking.{given_keeps}
use Rattle.page_space.proofs.staged.Staged.free_page.Goals as goal

freed : (g : _) (c : goal.After-self-1 g) → IsTrue (g.D.Disk.tells c.args.self.now.space.disk)
    → FreePut (staged_bytes c.args.self.now) (staged_bytes c.put_image.new.self) c.args.page c.args.self.now.meta c.put_image.new.self.meta
freed g c told = free_put _ _ _ c.write.new.page _ _ c.first_free.result c.put_image.ensures.meta (on_ok c.put_image.result _ (cc) c.put_image.ensures.bytes)
    c.first_free.ensures.value c.args.self.now.first c.first_free.ensures.typed c.write.ensures (c.requires told)

pub returns-clause-ok : goal.returns-clause-ok
returns-clause-ok g c = λ told. (freed g c told).0

pub returns-clause-chain : goal.returns-clause-chain
returns-clause-chain g c = λ told h. ((freed g c told).1 h).0

pub returns-clause-changes : goal.returns-clause-changes
returns-clause-changes g c = changes_ok _ 0 _ _ _ (went _ 0 _ _ (search rules) (search rules) (search rules) (search rules) (search rules) (search rules) (search rules)
    (λ told h. ((freed g c told).1 h).1) (λ told h p lost. given_keeps _ _ _ c.args.page (freed g c told).0 ((freed g c told).1 h).0 (search rules) p lost))
