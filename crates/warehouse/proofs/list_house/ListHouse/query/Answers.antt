use Rattle.std.proofs.Common.{rules, ◌≡◌, ◌≤◌, ◌∙◌, ap, refl, ℕ, arith, FitsSigned}
use Rattle.std.proofs.lemmas.Int.{to_z-of_z}
use Rattle.std.specs.Int.{int_wrap, w128}
use Rattle.bw_types.specs.History.{last_version}
use Rattle.bw_types.specs.Integral.{integral_over}
use Rattle.bw_types.specs.Tally.{int_sum_by}
use Rattle.bw_types.specs.Answers.{integral_at, answer}
use Rattle.bw_types.specs.declared.query.Query.{Query}
use Rattle.bw_types.specs.declared.query.Kind.TheVariants as kind
use Rattle.warehouse.specs.ListState.{ListState}
use Rattle.warehouse.specs.Kept.{objects_at}
use Rattle.warehouse.specs.Standing.{history_in}
use Rattle.warehouse.proofs.StandingLemmas.{integral_is}
use Rattle.warehouse.proofs.list_house.ListHouse.query.Goals as goal

integral_answer : (s : ListState) (version : ℕ) (q : Query) → q.kind ≡ kind.Integral → integral_at s.params s.history version q ≡ answer s.params s.history version q
integral_answer s version q e = rw e refl

pub returns-in-Integral : goal.returns-in-Integral
returns-in-Integral c =
    let fits : FitsSigned w128 c.integral_total.result = search rules in
    let at : c.args.version ≤ last_version (history_in c.self.inside) =
    let same : last_version (history_in c.self.inside) ≡ last_version c.args.self.now.history = ap (λ (s : ListState). last_version s.history) c.self.view_is in
    omega arith in
    let is = integral_is c.answers_are_bounded.ensures.integrals c.self.inside c.args.version c.args.query.now c.integral_total.result c.self.invariant at
    (c.integral_total.ensures ∙ ap (λ ls. int_wrap w128 (int_sum_by (integral_over c.self.inside.params c.args.query.now) (objects_at c.args.version ls))) c.deref-in-Integral.ensures.value) in
    (omega arith, to_z-of_z w128 c.integral_total.result fits ∙ is ∙ ap (λ (s : ListState). integral_at s.params s.history c.args.version c.args.query.now) c.self.view_is ∙ integral_answer c.args.self.now c.args.version c.args.query.now c.in-Integral.is)
