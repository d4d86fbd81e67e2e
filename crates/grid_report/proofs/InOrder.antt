-- All lists below those of a list are the indexes of the numbers, in order.
use Rattle.std.proofs.Common.{◌≡◌, ℕ, zero, suc, ◌+◌, ◌*◌, ◌/◌, ◌%◌, ◌≤◌, List, [], ◌∷◌, ◌++◌, length, take, map, refl, sym, ap, ap₂, ◌∙◌, append-nil, add-one, slice_index, arith}
use Rattle.std.proofs.lemmas.List.{map-append, take_more}
use Rattle.std.proofs.lemmas.List.Concat.{flat_map-append, flat_map_single}
use Rattle.std.proofs.lemmas.List.Folds.{flat_map-map}
use Rattle.std.proofs.lemmas.Nat.{div-mul-add, mod-mul-add}
use Rattle.std.specs.List.{flat_map, range_with_len}
use Rattle.bw_types.specs.Tally.{product_below}
use Rattle.grid_report.specs.Grids.{lists_below}
use Rattle.grid_report.specs.Indexes.{indexes_of}
use Rattle.grid_report.proofs.Maps.{flat_map-flat_map, flat_map-same, map-flat_map, map-map, map-range, range-append}

-- the list with each number below n at its end
abbrev with_last : ℕ → List ℕ → List (List ℕ)
with_last n js = map (λ j. js ++ j ∷ []) (range_with_len 0 n)

-- the last numbers run fastest
lists-last : (ns : List ℕ) (n : ℕ) → lists_below (ns ++ n ∷ []) ≡ flat_map (with_last n) (lists_below ns)
lists-last [] n = flat_map_single (λ j. j ∷ []) (range_with_len 0 n) ∙ sym (append-nil (map (λ j. j ∷ []) (range_with_len 0 n)))
lists-last (m ∷ ns) n =
    let before = λ (j : ℕ). (
    ap (map (λ js. j ∷ js)) (lists-last ns n)
    ∙ map-flat_map (λ js. j ∷ js) (with_last n) (lists_below ns)
    ∙ flat_map-same (λ js. map (λ js. j ∷ js) (with_last n js)) (λ js. with_last n (j ∷ js)) (λ js. map-map (λ js. j ∷ js) (λ i. js ++ i ∷ []) (range_with_len 0 n)) (lists_below ns)
    ∙ sym (flat_map-map (with_last n) (λ js. j ∷ js) (lists_below ns))) in
    flat_map-same (λ j. map (λ js. j ∷ js) (lists_below (ns ++ n ∷ []))) (λ j. flat_map (with_last n) (map (λ js. j ∷ js) (lists_below ns))) before (range_with_len 0 m)
    ∙ sym (flat_map-flat_map (with_last n) (λ j. map (λ js. j ∷ js) (lists_below ns)) (range_with_len 0 m))

-- rows of b elements, one after the other, are one row in which an element's row and place are told by division
rows-joined : {A : Type 0} (f : ℕ → ℕ → A) (b rows : ℕ) → flat_map (λ k. map (f k) (range_with_len 0 b)) (range_with_len 0 rows) ≡ map (λ q. f (q / b) (q % b)) (range_with_len 0 (rows * b))
rows-joined f b zero = let none : 0 * b ≡ 0 = omega arith in ap (λ n. map (λ q. f (q / b) (q % b)) (range_with_len 0 n)) (sym none)
rows-joined f b (suc rows) =
    let row = λ (k : ℕ). map (f k) (range_with_len 0 b) in
    let at = λ (q : ℕ). f (q / b) (q % b) in
    let one_more : range_with_len 0 (suc rows) ≡ range_with_len 0 rows ++ rows ∷ [] =
    ap (range_with_len 0) (sym (add-one rows)) ∙ range-append 0 rows 1 ∙ ap (λ k. range_with_len 0 rows ++ k ∷ []) (omega arith) in
    let last : map at (range_with_len (rows * b) b) ≡ row rows =
    map-range at (f rows) (rows * b) 0 b (λ k h. let same : k ≡ 0 + k = omega arith in ap₂ f (div-mul-add rows b k h) (mod-mul-add rows b k h ∙ same)) in
    let size : rows * b + b ≡ suc rows * b = omega arith in
    let begin : rows * b ≡ 0 + rows * b = omega arith in
    ap (flat_map row) one_more
    ∙ flat_map-append row (range_with_len 0 rows) (rows ∷ [])
    ∙ ap₂ (λ ys zs. ys ++ zs) (rows-joined f b rows) (append-nil (row rows) ∙ sym last ∙ ap (λ s. map at (range_with_len s b)) begin)
    ∙ sym (map-append at (range_with_len 0 (rows * b)) (range_with_len (0 + rows * b) b))
    ∙ ap (map at) (sym (range-append 0 (rows * b) b) ∙ ap (range_with_len 0) size)

-- All lists below the first numbers of a list are the indexes of all numbers below their product.
pub lists-in-order : (dims : ℕ) (sizes : List ℕ) → dims ≤ length sizes
    → lists_below (take dims sizes) ≡ map (indexes_of dims (λ i. slice_index sizes i)) (range_with_len 0 (product_below dims (λ i. slice_index sizes i)))
lists-in-order zero sizes h = refl
lists-in-order (suc dims) sizes h =
    let n = λ (i : ℕ). slice_index sizes i in
    let longer : take (suc dims) sizes ≡ take dims sizes ++ n dims ∷ [] = ap (λ k. take k sizes) (sym (add-one dims)) ∙ take_more sizes dims 0 h in
    ap lists_below longer
    ∙ lists-last (take dims sizes) (n dims)
    ∙ ap (flat_map (with_last (n dims))) (lists-in-order dims sizes (omega arith))
    ∙ flat_map-map (with_last (n dims)) (indexes_of dims n) (range_with_len 0 (product_below dims n))
    ∙ rows-joined (λ k j. indexes_of dims n k ++ j ∷ []) (n dims) (product_below dims n)
