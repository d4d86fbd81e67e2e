use Rattle.std.proofs.Common.{ℕ, List, leb, leb-true, arith, rules, length-drop, subst, sym, ◌<◌, ◌≤◌}
use Rattle.std.proofs.lemmas.Bool.{leb-false}
use Rattle.std.proofs.lemmas.List.{get_or-take, get_or-drop, length-take}
use Rattle.std.proofs.lemmas.List.Sorted.{IsPartitionPoint-from_clause, IsPartitionedBy-leb, IsNonDecreasingBy-from_all_adjacent}
use Rattle.bw_types.specs.declared.dated.Dated.{Dated}
use Rattle.object_table.specs.Keys.{key}
use Rattle.object_table.proofs.taking.begun_objects.Goals as goal

pub returns : goal.returns
returns c =
    let objects : List Dated = c.args.objects.now in
    let k : ℕ = c.partition_point.result in
    let parted = IsPartitionedBy-leb (λ (e : Dated). key e) objects c.args.sought (IsNonDecreasingBy-from_all_adjacent (λ (e : Dated). key e) objects (λ k d h. omega (arith, c.requires k d h))) in
    let point = IsPartitionPoint-from_clause (λ (e : Dated). leb (key e) c.args.sought) _ _ c.partition_point.ensures.partitioned parted (λ a r q k. search rules) in
    record {
      bound = c.partition_point.ensures.bound;
      begun = λ j d h.
          let same = get_or-take k objects j d (omega (arith, length-take k objects)) in
          subst (λ (e : Dated). key e ≤ c.args.sought) (sym same) (leb-true _ _ (point.0 j d (omega arith) (omega (arith, length-take k objects))));
      later = λ j d h.
          let same = get_or-drop k objects j d in
          subst (λ (e : Dated). c.args.sought < key e) (sym same) (leb-false _ _ (point.1 _ d (omega arith) (omega (arith, length-drop k objects))));
    }
