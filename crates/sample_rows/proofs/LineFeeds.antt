-- How many lines the rows of a sample have at most.
use Rattle.std.proofs.Common.{◌≡◌, ℕ, zero, suc, ◌+◌, ◌*◌, ◌/◌, ◌≤◌, Bool, true, false, ◌==◌, cond, List, [], ◌∷◌, ◌++◌, length, ℤ, refl, ◌∙◌, ap, arith, ◌%◌, le_trans, le_of_eq, le_refl, add-le-add, codes, decimal}
use Rattle.std.specs.Fmt.{signed_decimal}
use Rattle.std.specs.List.{count_by, slice_split}
use Rattle.std.specs.Str.Lines.{strip_carriage_return}
use Rattle.std.proofs.lemmas.List.{length-map}
use Rattle.std.proofs.lemmas.List.Splits.{length-slice_split}
use Rattle.std.proofs.lemmas.List.Sums.{sum_by-append, sum_by-cons}
use Rattle.line_reader.specs.Lines.{is_line_feed, lines, without_empty_last}
use Rattle.sample_rows.specs.Generator.{adds, draw, after_steps, commit_row, commit_where, commits, ends_batch, fields, has_withdrawals, high_drawn, low_drawn, object_of, object_row, queries, query_of, query_row, rows, weight_drawn, withdrawals}
use Rattle.sample_rows.proofs.Printed.{decimal_other, has, has-append, left_not, number_other, right_not, signed_other}

-- how many line feeds there are
feeds : List ℕ → ℕ
feeds bytes = count_by is_line_feed bytes

feeds-append : (xs ys : List ℕ) → feeds (xs ++ ys) ≡ feeds xs + feeds ys
unfolding feeds
feeds-append xs ys = sum_by-append (λ (b : ℕ). cond (is_line_feed b) 1 0) xs ys

no_bytes : feeds [] ≡ 0
unfolding feeds
no_bytes = refl

one_feed : feeds (codes "\n") ≡ 1
unfolding feeds
one_feed = refl

commit_feed : feeds commit_row ≡ 1
unfolding feeds
commit_feed = refl

no_feeds : (xs : List ℕ) → has 10 xs ≡ false → feeds xs ≡ 0
unfolding feeds
no_feeds [] e = refl
no_feeds (x ∷ xs) e =
    sum_by-cons (λ (b : ℕ). cond (is_line_feed b) 1 0) x xs
    ∙ ap (λ (test : Bool). cond test 1 0 + feeds xs) (left_not (x == 10) (has 10 xs) e)
    ∙ ap (λ (n : ℕ). 0 + n) (no_feeds xs (right_not (x == 10) (has 10 xs) e))

feeds_after : (xs ys : List ℕ) → has 10 xs ≡ false → feeds (xs ++ ys) ≡ feeds ys
feeds_after xs ys e = let all = feeds-append xs ys in let none = no_feeds xs e in omega (arith, all, none)

fields_other : (numbers : List ℕ) → has 10 (fields numbers) ≡ false
fields_other [] = refl
fields_other (number ∷ numbers) =
    has-append 10 (decimal number ++ codes ",") (fields numbers) (has-append 10 (decimal number) (codes ",") (decimal_other 10 number (omega arith)) refl) (fields_other numbers)

object_line : (id low1 high1 low2 high2 : ℕ) (weight : ℤ) → feeds (object_of id low1 high1 low2 high2 weight) ≡ 1
object_line id low1 high1 low2 high2 weight =
    feeds_after (codes "add,1,") (fields (id ∷ low1 ∷ high1 ∷ low2 ∷ high2 ∷ []) ++ (signed_decimal weight ++ codes "\n")) refl
    ∙ feeds_after (fields (id ∷ low1 ∷ high1 ∷ low2 ∷ high2 ∷ [])) (signed_decimal weight ++ codes "\n") (fields_other (id ∷ low1 ∷ high1 ∷ low2 ∷ high2 ∷ []))
    ∙ feeds_after (signed_decimal weight) (codes "\n") (signed_other weight)
    ∙ one_feed

query_line : (version low1 high1 low2 high2 : ℕ) → feeds (query_of version low1 high1 low2 high2) ≡ 1
query_line version low1 high1 low2 high2 =
    feeds_after (codes "sum,") (fields (version ∷ low1 ∷ high1 ∷ low2 ∷ []) ++ (decimal high2 ++ codes "\n")) refl
    ∙ feeds_after (fields (version ∷ low1 ∷ high1 ∷ low2 ∷ [])) (decimal high2 ++ codes "\n") (fields_other (version ∷ low1 ∷ high1 ∷ low2 ∷ []))
    ∙ feeds_after (decimal high2) (codes "\n") (decimal_other 10 high2 (omega arith))
    ∙ one_feed

withdrawal_line : (id : ℕ) → feeds (codes "withdraw,1," ++ decimal id ++ codes "\n") ≡ 1
withdrawal_line id = feeds_after (codes "withdraw,1," ++ decimal id) (codes "\n") (number_other (codes "withdraw,1,") id refl) ∙ one_feed

commit_lines : (test : Bool) → feeds (commit_where test) ≤ 1
commit_lines true = let one : feeds (commit_where true) ≡ 1 = commit_feed in omega (arith, one)
commit_lines false = let none : feeds (commit_where false) ≡ 0 = no_bytes in omega (arith, none)

row_more : (a b : List ℕ) (n : ℕ) → feeds a ≤ n → feeds b ≡ 1 → feeds (a ++ b) ≤ suc n
row_more a b n most one = let all = feeds-append a b in omega (arith, most, one, all)

rows_more : (a b c : List ℕ) (n : ℕ) → feeds a ≤ 2 * n → feeds b ≡ 1 → feeds c ≤ 1 → feeds (a ++ (b ++ c)) ≤ 2 * suc n
rows_more a b c n most one last = let all = feeds-append a (b ++ c) in let both = feeds-append b c in omega (arith, most, one, last, all, both)

four_parts : (a b c d : List ℕ) (n : ℕ) → feeds a ≤ 2 * n → feeds b ≤ n / 10 → feeds c ≤ 1 → feeds d ≤ 100 → feeds (a ++ (b ++ (c ++ d))) ≤ 3 * n + 101
four_parts a b c d n p q r s =
    let first = feeds-append a (b ++ (c ++ d)) in
    let second = feeds-append b (c ++ d) in
    let third = feeds-append c d in
    omega (arith, p, q, r, s, first, second, third)

none_at : (n : ℕ) → feeds [] ≤ n
none_at n = let none = no_bytes in omega (arith, none)

add_lines : (start count n : ℕ) → feeds (adds start count n) ≤ 2 * n
unfolding adds
add_lines start count zero = none_at (2 * 0)
add_lines start count (suc n) =
    let x = after_steps start (5 * n) in
    rows_more (adds start count n) (object_row x (suc n)) (commit_where (ends_batch count (suc n))) n (add_lines start count n)
    (object_line (suc n) (low_drawn x 0) (high_drawn 1000 x 0) (low_drawn x 2) (high_drawn 1000 x 2) (weight_drawn x 4)) (commit_lines (ends_batch count (suc n)))

withdrawal_lines : (n : ℕ) → feeds (withdrawals n) ≤ n
unfolding withdrawals
withdrawal_lines zero = none_at 0
withdrawal_lines (suc n) = row_more (withdrawals n) (codes "withdraw,1," ++ decimal (10 * suc n) ++ codes "\n") n (withdrawal_lines n) (withdrawal_line (10 * suc n))

query_lines : (last x n : ℕ) → feeds (queries last x n) ≤ n
unfolding queries
query_lines last x zero = none_at 0
query_lines last x (suc n) =
    let y = after_steps x (5 * n) in
    row_more (queries last x n) (query_row last y) n (query_lines last x n) (query_line (draw y 0 % (last + 1)) (low_drawn y 1) (high_drawn 100000 y 1) (low_drawn y 3) (high_drawn 100000 y 3))

row_feeds : (start count : ℕ) → feeds (rows start count) ≤ 3 * count + 101
row_feeds start count =
    four_parts (adds start count count) (withdrawals (count / 10)) (commit_where (has_withdrawals count)) (queries (commits count) (after_steps start (5 * count)) 100) count
    (add_lines start count count) (withdrawal_lines (count / 10)) (commit_lines (has_withdrawals count)) (query_lines (commits count) (after_steps start (5 * count)) 100)

shorter : (parts : List (List ℕ)) → length (without_empty_last parts) ≤ length parts
shorter [] = omega arith
shorter ([] ∷ []) = omega arith
shorter ((b ∷ bytes) ∷ []) = omega arith
shorter ([] ∷ next ∷ parts) = let rest = shorter (next ∷ parts) in omega (arith, rest)
shorter ((b ∷ bytes) ∷ next ∷ parts) = let rest = shorter (next ∷ parts) in omega (arith, rest)

-- a line more than line feeds
feeds_and_one : (bytes : List ℕ) → length (lines bytes) ≤ feeds bytes + 1
unfolding feeds
feeds_and_one bytes =
    let parts = slice_split is_line_feed bytes in
    le_trans (le_of_eq (length-map (without_empty_last parts) strip_carriage_return)) (le_trans (shorter parts) (le_of_eq (length-slice_split is_line_feed bytes)))

pub line_count : (start count : ℕ) → length (lines (rows start count)) ≤ 3 * count + 101 + 1
line_count start count = le_trans (feeds_and_one (rows start count)) (add-le-add (row_feeds start count) (le_refl 1))
