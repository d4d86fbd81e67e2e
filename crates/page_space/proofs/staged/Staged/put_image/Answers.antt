use Rattle.std.proofs.Common.{refl, arith}
use Rattle.std.proofs.lemmas.Result.{on_err_weaker, on_ok_weaker}
use Rattle.page_space.proofs.Walking.{same_keeps}
use Rattle.page_space.proofs.Giving.{put_fresh, put_within, went}
use Rattle.page_space.proofs.Staging.{placed_with}
use Rattle.page_space.proofs.staged.Staged.put_image.Goals as goal

pub invariant_of-self-clause-fresh : goal.invariant_of-self-clause-fresh
invariant_of-self-clause-fresh g c = put_fresh c.put.result _ _ _ _ c.put.ensures.ok c.put.ensures.err _ _ c.args.self.now.fresh

pub invariant_of-self-clause-within : goal.invariant_of-self-clause-within
invariant_of-self-clause-within g c = put_within c.put.result _ _ _ _ c.put.ensures.ok c.put.ensures.err _ c.requires.low c.requires.high c.args.self.now.within

pub returns-clause-bytes : goal.returns-clause-bytes
returns-clause-bytes g c = on_ok_weaker c.put.result (λ e. rw e (placed_with _ _ _ _)) c.put.ensures.ok

pub returns-clause-stays : goal.returns-clause-stays
returns-clause-stays g c = on_err_weaker c.put.result
    (λ e. went _ 0 _ _ refl refl refl (omega arith) (omega arith) (omega arith) (omega arith) (λ told h. rw e h) (λ told h p lost. same_keeps _ _ _ (rw e) (rw e) refl p lost))
    c.put.ensures.err
