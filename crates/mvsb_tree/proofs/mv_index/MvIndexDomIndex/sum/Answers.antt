use Rattle.std.proofs.Common.{◌≤◌, ◌∙◌, length, arith}
use Rattle.std.proofs.lemmas.Result.{IfOk-weaker}
use Rattle.mvsb_tree.proofs.Indexing.{one_key_sum}
use Rattle.mvsb_tree.proofs.mv_index.MvIndexDomIndex.sum.Goals as goal

pub returns-clause-sum : goal.returns-clause-sum
returns-clause-sum g c = IfOk-weaker c.mv_value.result _ _ (λ value told tells points s.
    told tells points s ∙ one_key_sum c.args.dims points c.args.keys.now c.args.version c.requires.dims.0 c.requires.dims.1 (let long : 1 ≤ length c.args.keys.now = omega (arith, c.fits-keys) in long)) c.mv_value.ensures.sum
