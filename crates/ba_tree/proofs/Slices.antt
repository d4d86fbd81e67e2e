-- Points that were put into another order in place.
use Rattle.std.proofs.Common.{◌≡◌, ℕ, List, ◌++◌, length, take, drop, sym, ap, ◌∙◌, subst, append-nil, arith}
use Rattle.std.specs.Prelude.{IsPermutation}
use Rattle.std.proofs.lemmas.List.{drop_all, take_all}
use Rattle.std.proofs.lemmas.List.Sorted.{IsPermutation-sym, IsPermutation-trans, length_permutation}
use Rattle.bw_types.specs.declared.point.Point.{Point}

slice_back : (len : ℕ) (items new : List Point) → len ≡ length items → length new ≡ length items → take len (new ++ drop (length new) items) ≡ new
slice_back len items new long same =
    ap (λ (ps : List Point). take len (new ++ ps)) (drop_all (length new) items (omega (arith, same))) ∙ ap (λ (ps : List Point). take len ps) (append-nil new)
    ∙ take_all len new (omega (arith, long, same))

-- the whole of a vector, put into another order, keeps the points that it kept
pub kept_in_slice : (kept points items before new : List Point) (len : ℕ) → items ≡ kept → before ≡ items → length before ≡ len → IsPermutation before new
    → IsPermutation kept points → IsPermutation (take len (new ++ drop (length new) items)) points
kept_in_slice kept points items before new len whole same long moved order =
    let as_many : length before ≡ length items = ap (λ (ps : List Point). length ps) same in
    let as_kept : IsPermutation new kept = subst (λ (ps : List Point). IsPermutation new ps) (same ∙ whole) (IsPermutation-sym before new moved) in
    subst (λ (ps : List Point). IsPermutation ps points)
    (sym (slice_back len items new (omega (arith, long, as_many)) (omega (arith, length_permutation before new moved, as_many))))
    (IsPermutation-trans new kept points as_kept order)
