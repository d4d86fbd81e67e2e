use Rattle.std.proofs.Common.{◌+◌, ◌≤◌, ◌∙◌, ℕ, length, subst, arith}
use Rattle.std.proofs.lemmas.Result.{IfOk-weaker}
use Rattle.bw_types.specs.Dominance.{dominance_sum}
use Rattle.bw_types.specs.Digits.{digit_count}
use Rattle.ba_tree.proofs.KeyTreeSums.{first_key_sum, reads_of_itself, sum_of}
use Rattle.ba_tree.proofs.key_tree.KeyTreeBorderTree.sum.Goals as goal

pub returns-clause-sum : goal.returns-clause-sum
returns-clause-sum g c = λ tells points s.
    sum_of c.mv_value.result (dominance_sum 1 points c.args.keys.now c.args.version)
    (IfOk-weaker c.mv_value.result _ _
    (λ value told. told tells points s ∙ first_key_sum points c.args.keys.now c.args.version (let long : 1 ≤ length c.args.keys.now = omega (arith, c.fits-keys) in long))
    c.mv_value.ensures.sum)
    (λ page. c.mv_value.ensures.sound points page tells s)

pub returns-clause-reads : goal.returns-clause-reads
returns-clause-reads g c = reads_of_itself g.P.Pages (c.args.tree.now.levels + 16) c.args.pages.now c.mv_value.new.pages c.mv_value.result c.mv_value.ensures.reads

pub returns-clause-cost : goal.returns-clause-cost
returns-clause-cost g c = λ tells points s low.
    subst (λ (n : ℕ). g.P.Pages.gets c.mv_value.new.pages ≤ g.P.Pages.gets c.args.pages.now + (digit_count 32 n + digit_count 24 n)) s.count
    (c.mv_value.ensures.cost points tells s low)
