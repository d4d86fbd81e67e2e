use Rattle.std.proofs.Common.{List, arith, rules, ltb, ltb-true}
use Rattle.std.proofs.lemmas.Bool.{ltb-false}
use Rattle.std.proofs.lemmas.List.Sorted.{IsPartitionPoint-from_clause, IsPartitionedBy-ltb}
use Rattle.settled_pages.specs.declared.places.ImagePlace.{ImagePlace}
use Rattle.settled_pages.proofs.LookupLemmas.{ascend_rises}
use Rattle.settled_pages.proofs.settled.SettledPages.count_below.Goals as goal

pub returns : goal.returns
returns c =
    let named = c.as_slice.ensures.value in
    let images : List ImagePlace = c.as_slice.result.now in
    let rises = ascend_rises 0 images (rw named c.args.self.now.ascends) in
    let parted = IsPartitionedBy-ltb (λ (image : ImagePlace). image.home) images c.args.page rises in
    let point = IsPartitionPoint-from_clause (λ (image : ImagePlace). ltb image.home c.args.page) _ _ c.partition_point.ensures.partitioned parted (λ a r q k. search rules) in
    rw (← named) (record {
      below = λ j d low h. ltb-true _ _ (point.0 j d (omega arith) low);
      from = λ j d high h. ltb-false _ _ (point.1 j d high h);
      rises = rises;
    })
