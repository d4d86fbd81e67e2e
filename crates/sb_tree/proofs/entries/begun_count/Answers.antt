use Rattle.sb_tree.proofs.Common.{ℕ, List, leb, leb-true, arith, rules, length-drop, leb-false, get_or-take, get_or-drop, length-take, IsPartitionPoint-from_clause, IsPartitionedBy-leb, IsNonDecreasingBy-from_all_adjacent, SbEntry}
use Rattle.sb_tree.proofs.entries.begun_count.Goals as goal

pub returns : goal.returns
returns c =
    let entries : List SbEntry = c.args.entries.now in
    let k : ℕ = c.partition_point.result in
    let parted = IsPartitionedBy-leb (λ e. e.low) entries c.args.version (IsNonDecreasingBy-from_all_adjacent (λ e. e.low) entries (λ k d h. omega (arith, c.requires k d h))) in
    let point = IsPartitionPoint-from_clause (λ e. leb e.low c.args.version) _ _ c.partition_point.ensures.partitioned parted (λ a r q k. search rules) in
    record {
      bound = c.partition_point.ensures.bound;
      begun = λ j d h.
          let same = get_or-take k entries j d (omega (arith, length-take k entries)) in
          rw same (leb-true _ _ (point.0 j d (omega arith) (omega (arith, length-take k entries))));
      later = λ j d h.
          let same = get_or-drop k entries j d in
          rw same (leb-false _ _ (point.1 _ d (omega arith) (omega (arith, length-drop k entries))));
    }
