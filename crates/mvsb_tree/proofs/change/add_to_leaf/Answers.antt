use Rattle.std.proofs.Common.{ℕ, List, IsTrue, sym, subst, arith}
use Rattle.std.specs.List.{All}
use Rattle.mvsb_tree.specs.Ways.{LowsCut}
use Rattle.mvsb_tree.proofs.Putting.{lows_put}
use Rattle.mvsb_tree.proofs.change.add_to_leaf.Goals as goal

pub returns-clause-each : goal.returns-clause-each
returns-clause-each c = λ test mine all.
    subst (All (λ (l : ℕ). IsTrue (test l))) (sym (c.add_at.ensures.lows_from c.args.version (omega arith))) (c.low_laws.ensures.each test c.args.key _ mine all)

pub returns-clause-cut : goal.returns-clause-cut
returns-clause-cut c = λ low least high cut from before.
    subst (λ (ls : List ℕ). LowsCut ls low high least) (sym (c.add_at.ensures.lows_from c.args.version (omega arith)))
    (lows_put c.args.key c.low_laws.ensures.first c.low_laws.ensures.each c.low_laws.ensures.fewer (λ lows up. c.low_laws.ensures.ascending c.args.key lows up) _ low high least cut from before)
