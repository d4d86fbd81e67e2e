-- One row more.
use Rattle.std.proofs.Common.{◌≡◌, ℕ, zero, suc, ◌+◌, ◌*◌, ◌%◌, ℤ, Bool, List, [], ◌++◌, ◌<◌, length, drop, get_or, refl, sym, ◌∙◌, ap, ap₂, subst, append_assoc, arith}
use Rattle.std.proofs.lemmas.List.{append-nil, drop_more}
use Rattle.std.specs.Fmt.{decimal}
use Rattle.std.specs.Prelude.{codes}
use Rattle.sample_rows.specs.Generator.{adds, after_steps, commit_where, draw, ends_batch, fields, high_drawn, low_drawn, next, object_of, object_row, queries, query_of, query_row, weight_drawn, withdrawals}

zero_more : (m : ℕ) → m ≡ 0 + m
zero_more m = omega arith

suc_more : (n m : ℕ) → suc (n + m) ≡ suc n + m
suc_more n m = omega arith

-- steps after steps
pub steps_add : (x m n : ℕ) → after_steps (after_steps x m) n ≡ after_steps x (n + m)
steps_add x m zero = ap (after_steps x) (zero_more m)
steps_add x m (suc n) = ap next (steps_add x m n) ∙ ap (after_steps x) (suc_more n m)

five_more : (n : ℕ) → 5 * (n + 1) ≡ 5 + 5 * n
five_more n = omega arith

one_more : (n : ℕ) → n + 1 ≡ suc n
one_more n = omega arith

-- the draws of one row more
pub five_steps : (x n : ℕ) → after_steps (after_steps x (5 * n)) 5 ≡ after_steps x (5 * (n + 1))
five_steps x n = steps_add x (5 * n) 5 ∙ ap (after_steps x) (sym (five_more n))

pub adds_next : (x count n : ℕ) → adds x count (n + 1) ≡ adds x count n ++ (object_row (after_steps x (5 * n)) (n + 1) ++ commit_where (ends_batch count (n + 1)))
unfolding adds
adds_next x count n = subst (λ (m : ℕ). adds x count m ≡ adds x count n ++ (object_row (after_steps x (5 * n)) m ++ commit_where (ends_batch count m))) (sym (one_more n)) refl

pub withdrawals_next : (n : ℕ) → withdrawals (n + 1) ≡ withdrawals n ++ (codes "withdraw,1," ++ decimal (10 * (n + 1)) ++ codes "\n")
unfolding withdrawals
withdrawals_next n = subst (λ (m : ℕ). withdrawals m ≡ withdrawals n ++ (codes "withdraw,1," ++ decimal (10 * m) ++ codes "\n")) (sym (one_more n)) refl

pub queries_next : (last x n : ℕ) → queries last x (n + 1) ≡ queries last x n ++ query_row last (after_steps x (5 * n))
unfolding queries
queries_next last x n = subst (λ (m : ℕ). queries last x m ≡ queries last x n ++ query_row last (after_steps x (5 * n))) (sym (one_more n)) refl

pub no_adds : (x count : ℕ) (text : List ℕ) → text ≡ text ++ adds x count 0
unfolding adds
no_adds x count text = sym (append-nil text)

pub no_withdrawals : (text : List ℕ) → text ≡ text ++ withdrawals 0
unfolding withdrawals
no_withdrawals text = sym (append-nil text)

pub no_queries : (last x : ℕ) (text : List ℕ) → text ≡ text ++ queries last x 0
unfolding queries
no_queries last x text = sym (append-nil text)

-- the text with one number more
pub fields_step : (numbers : List ℕ) (i : ℕ) (before now field after : List ℕ) → i < length numbers
    → before ++ fields numbers ≡ now ++ fields (drop i numbers) → field ≡ decimal (get_or numbers i 0) ++ codes "," → after ≡ now ++ field
    → before ++ fields numbers ≡ after ++ fields (drop (i + 1) numbers)
fields_step numbers i before now field after more is same put =
    is ∙ ap (λ (u : List ℕ). now ++ fields u) (drop_more numbers i 0 more)
    ∙ sym (append_assoc now (decimal (get_or numbers i 0) ++ codes ",") (fields (drop (i + 1) numbers)))
    ∙ ap (λ (u : List ℕ). u ++ fields (drop (i + 1) numbers)) (sym (put ∙ ap (λ (u : List ℕ). now ++ u) same))

-- the text with one object more
pub adds_step : (x count n y : ℕ) (before now mid after : List ℕ) (ends : Bool)
    → now ≡ before ++ adds x count n → y ≡ after_steps x (5 * n) → mid ≡ now ++ object_row y (n + 1) → ends ≡ ends_batch count (n + 1) → after ≡ mid ++ commit_where ends
    → after ≡ before ++ adds x count (n + 1)
adds_step x count n y before now mid after ends is steps put last done =
    let middle : mid ≡ (before ++ adds x count n) ++ object_row (after_steps x (5 * n)) (n + 1) = put ∙ ap₂ (λ (u : List ℕ) (z : ℕ). u ++ object_row z (n + 1)) is steps in
    done ∙ ap₂ (λ (u : List ℕ) (b : Bool). u ++ commit_where b) middle last
    ∙ append_assoc (before ++ adds x count n) (object_row (after_steps x (5 * n)) (n + 1)) (commit_where (ends_batch count (n + 1)))
    ∙ append_assoc before (adds x count n) (object_row (after_steps x (5 * n)) (n + 1) ++ commit_where (ends_batch count (n + 1)))
    ∙ ap (λ (u : List ℕ). before ++ u) (sym (adds_next x count n))

-- the text with one withdrawal more
pub withdrawals_step : (n : ℕ) (before now row after : List ℕ)
    → now ≡ before ++ withdrawals n → row ≡ codes "withdraw,1," ++ decimal (10 * (n + 1)) ++ codes "\n" → after ≡ now ++ row → after ≡ before ++ withdrawals (n + 1)
withdrawals_step n before now row after is same put =
    put ∙ ap₂ (λ (u v : List ℕ). u ++ v) is same ∙ append_assoc before (withdrawals n) (codes "withdraw,1," ++ decimal (10 * (n + 1)) ++ codes "\n")
    ∙ ap (λ (u : List ℕ). before ++ u) (sym (withdrawals_next n))

-- the text with one query more
pub queries_step : (last x n y : ℕ) (before now after : List ℕ)
    → now ≡ before ++ queries last x n → y ≡ after_steps x (5 * n) → after ≡ now ++ query_row last y → after ≡ before ++ queries last x (n + 1)
queries_step last x n y before now after is steps put =
    put ∙ ap₂ (λ (u : List ℕ) (z : ℕ). u ++ query_row last z) is steps ∙ append_assoc before (queries last x n) (query_row last (after_steps x (5 * n)))
    ∙ ap (λ (u : List ℕ). before ++ u) (sym (queries_next last x n))

-- three pieces that were put
pub three_pieces : (before a b c one two three : List ℕ) → one ≡ before ++ a → two ≡ one ++ b → three ≡ two ++ c → three ≡ before ++ (a ++ (b ++ c))
three_pieces before a b c one two three first second third =
    third ∙ ap (λ (u : List ℕ). u ++ c) (second ∙ ap (λ (u : List ℕ). u ++ b) first)
    ∙ append_assoc (before ++ a) b c ∙ append_assoc before a (b ++ c)

-- five draws more
pub steps_step : (x n y z : ℕ) → y ≡ after_steps x (5 * n) → z ≡ after_steps y 5 → z ≡ after_steps x (5 * (n + 1))
steps_step x n y z is five = five ∙ ap (λ (u : ℕ). after_steps u 5) is ∙ five_steps x n

-- the parts of a sample
pub rows_join : (first second third a b c d : List ℕ) → first ≡ [] ++ a → second ≡ first ++ (b ++ c) → third ≡ second ++ d → third ≡ a ++ (b ++ (c ++ d))
rows_join first second third a b c d one two three =
    three ∙ ap (λ (u : List ℕ). u ++ d) (two ∙ ap (λ (u : List ℕ). u ++ (b ++ c)) one)
    ∙ append_assoc a (b ++ c) d ∙ ap (λ (u : List ℕ). a ++ u) (append_assoc b c d)

-- an object's row, number by number
pub object_same : (x y z id low1 high1 low2 high2 : ℕ) (weight : ℤ)
    → low1 ≡ low_drawn x 0 → high1 ≡ high_drawn 1000 x 0 → y ≡ after_steps x 2 → low2 ≡ low_drawn y 0 → high2 ≡ high_drawn 1000 y 0 → z ≡ after_steps y 2 → weight ≡ weight_drawn z 0
    → object_of id low1 high1 low2 high2 weight ≡ object_row x id
object_same x y z id low1 high1 low2 high2 weight a b c d e f g = rw (a, b, d, e, g, f, c) refl

-- a query's row, number by number
pub query_same : (x y z last version low1 high1 low2 high2 : ℕ)
    → version ≡ draw x 0 % (last + 1) → y ≡ next x → low1 ≡ low_drawn y 0 → high1 ≡ high_drawn 100000 y 0 → z ≡ after_steps y 2 → low2 ≡ low_drawn z 0 → high2 ≡ high_drawn 100000 z 0
    → query_of version low1 high1 low2 high2 ≡ query_row last x
query_same x y z last version low1 high1 low2 high2 a b c d e f g = rw (a, c, d, f, g, e, b) refl
