use Rattle.std.proofs.Common.{◌≡◌, ℕ, ◌^◌, ◌<◌, ◌≤◌, List, length, get_or, take, take_all, ℤ, nat_abs, to_z, of_z, rules, sym, ◌∙◌, subst, arith}
use Rattle.std.specs.Int.{w64}
use Rattle.std.proofs.lemmas.List.{take_more}
use Rattle.std.proofs.lemmas.List.Elements.{All-push}
use Rattle.corner_forest.specs.BatchPowers.{ArePowersOfFirst, HaveSmallWeights}
use Rattle.corner_forest.specs.declared.entry.Entry.{Entry}
use Rattle.corner_forest.proofs.Gathering.{length_put, none_entered, powers_put}
use Rattle.corner_forest.proofs.batch.powers_of.Goals as goal

pub loop-entry-preserved : goal.loop-entry-preserved
loop-entry-preserved c =
    let batch = c.args.batch.now in
    let i = c.loop-entry.entry-index in
    let lt : i < length batch = c.loop-entry-test.true in
    let is = c.in_ok-push_powers.ensures.last in
    record {
      len = length_put c.loop-entry.powers.items c.push_powers.new.powers.items c.box_powers.result i c.loop-entry.invariant.len is;
      powers = powers_put c.args.params.now batch i c.loop-entry.powers.items c.push_powers.new.powers.items c.box_powers.result none_entered lt c.loop-entry.invariant.len is c.box_powers.ensures c.loop-entry.invariant.powers;
      small =
          let same : to_z w64 (of_z w64 (get_or batch i none_entered).object.weight) ≡ (get_or batch i none_entered).object.weight = search rules in
          let here : nat_abs (get_or batch i none_entered).object.weight ≤ 2 ^ 63 = subst (λ (w : ℤ). nat_abs w ≤ 2 ^ 63) same c.is_small.ensures in
          subst (λ (l : List Entry). HaveSmallWeights l) (sym (take_more batch i none_entered lt)) (All-push (λ (e : Entry). nat_abs e.object.weight ≤ 2 ^ 63) (take i batch) (get_or batch i none_entered) c.loop-entry.invariant.small here);
    }

pub returns-clause-powers : goal.returns-clause-powers
returns-clause-powers c =
    let n = length c.args.batch.now in
    let past : n ≤ c.loop-entry.entry-index = omega (arith, c.loop-entry-test.false) in
    let end : c.loop-entry.entry-index ≡ n = omega (arith, past, c.loop-entry.auto.entry-index-end) in
    (c.loop-entry.invariant.len ∙ end, subst (λ (m : ℕ). ArePowersOfFirst c.args.params.now c.args.batch.now m c.loop-entry.powers.items) end c.loop-entry.invariant.powers)

pub returns-clause-small : goal.returns-clause-small
returns-clause-small c =
    let past : length c.args.batch.now ≤ c.loop-entry.entry-index = omega (arith, c.loop-entry-test.false) in
    subst (λ (l : List Entry). HaveSmallWeights l) (take_all c.loop-entry.entry-index c.args.batch.now past) c.loop-entry.invariant.small
