use Rattle.std.proofs.Common.{subst, sym, IsPermutation}
use Rattle.std.proofs.lemmas.List.Sorted.{All-permutation}
use Rattle.key_check.specs.Levels.{IsWhole}
use Rattle.key_check.proofs.Pushing.{in_order}
use Rattle.key_check.proofs.merging.merge.Goals as goal

pub returns : goal.returns
returns c = λ level w.
    let same : IsPermutation c.args.pieces.items c.as_slice.result.now = subst (IsPermutation c.args.pieces.items) (sym c.as_slice.ensures.value) c.sort_unstable_by_key.ensures.permutation in
    let p = c.in_ok-merge_in_order.ensures level (All-permutation (IsWhole level) c.args.pieces.items c.as_slice.result.now same w) in
    (p.0, λ m nodes. in_order m nodes c.args.pieces.items c.as_slice.result.now _ same (p.1 m nodes))
