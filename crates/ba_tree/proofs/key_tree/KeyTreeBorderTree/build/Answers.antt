use Rattle.std.proofs.Common.{◌*◌, ◌<◌, ◌≤◌, ◌^◌, ℕ, rules, subst, sym}
use Rattle.std.proofs.lemmas.List.Sorted.{All-permutation, IsNonDecreasingBy-from_sort_by_key, IsPermutation-sym, length_permutation}
use Rattle.std.proofs.lemmas.Result.{IfOk-weaker}
use Rattle.bw_types.specs.declared.point.Point.{Point}
use Rattle.ports.specs.Calls.{Grows}
use Rattle.ba_tree.proofs.key_tree.KeyTreeBorderTree.build.Goals as goal

pub mv_build-requires-clause-few : goal.mv_build-requires-clause-few
mv_build-requires-clause-few g c =
    subst (λ (n : ℕ). n ≤ 2 ^ 31) (sym (length_permutation c.args.points.now c.sort_unstable_by_key.new.self c.sort_unstable_by_key.ensures.permutation)) c.requires.points.few

pub mv_build-requires-clause-versions : goal.mv_build-requires-clause-versions
mv_build-requires-clause-versions g c =
    All-permutation (λ (p : Point). p.version < 4294967295) c.args.points.now c.sort_unstable_by_key.new.self c.sort_unstable_by_key.ensures.permutation c.requires.points.versions

pub mv_build-requires-clause-in_order : goal.mv_build-requires-clause-in_order
mv_build-requires-clause-in_order g c =
    IsNonDecreasingBy-from_sort_by_key (λ p. p.version) _ c.sort_unstable_by_key.ensures.sorted (λ a r q k. search rules)

pub returns-clause-built : goal.returns-clause-built
returns-clause-built g c = IfOk-weaker c.mv_build.result _ _ (λ tree built tells.
    let done = built tells in record {
      stood = c.mv_laws.ensures.any_order (g.S.Pages.map c.mv_build.new.stage) tree c.sort_unstable_by_key.new.self c.args.points.now done.stands
          (IsPermutation-sym c.args.points.now c.sort_unstable_by_key.new.self c.sort_unstable_by_key.ensures.permutation);
      balance = done.balanced;
      change = done.change;
    }) c.mv_build.ensures.built

pub returns-clause-few : goal.returns-clause-few
returns-clause-few g c = λ tells.
    subst (λ (n : ℕ). Grows g.S.Pages (n * 24) c.args.stage.now c.mv_build.new.stage c.mv_build.result)
    (length_permutation c.args.points.now c.sort_unstable_by_key.new.self c.sort_unstable_by_key.ensures.permutation)
    (c.mv_build.ensures.few tells)
