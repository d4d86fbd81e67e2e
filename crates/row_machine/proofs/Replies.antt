-- The replies to lines, part by part.
use Rattle.std.proofs.Common.{◌≡◌, ◌≤◌, ℕ, suc, ◌+◌, Bool, refl, List, [], ◌∷◌, ◌++◌, length, sym, ◌∙◌, ap, append_assoc, arith, add-zero, zero-add}
use Rattle.bw_types.specs.declared.params.Params.{Params}
use Rattle.csv_rows.specs.Machine.{State, step, replied, replies, state_after}
use Rattle.row_machine.specs.Serving.{MayServe, lines_sum}

-- after some lines the replies go on from the state and the number that these lines leave
pub replies-append : (params : Params) (n : ℕ) (s : State) (xs ys : List (List ℕ)) → replies params n s (xs ++ ys) ≡ replies params n s xs ++ replies params (n + length xs) (state_after params n s xs) ys
replies-append params n s [] ys = ap (λ (k : ℕ). replies params k s ys) (sym (add-zero n))
replies-append params n s (x ∷ xs) ys =
    ap (λ (t : List ℕ). replied (step params n s x).reply ++ t) (replies-append params (n + 1) (step params n s x).state xs ys)
    ∙ (sym (append_assoc (replied (step params n s x).reply) (replies params (n + 1) (step params n s x).state xs) (replies params (n + 1 + length xs) (state_after params (n + 1) (step params n s x).state xs) ys))
    ∙ ap (λ (k : ℕ). (replied (step params n s x).reply ++ replies params (n + 1) (step params n s x).state xs) ++ replies params k (state_after params (n + 1) (step params n s x).state xs) ys) (omega arith))

-- after some lines the state goes on from the state and the number that these lines leave
pub state_after-append : (params : Params) (n : ℕ) (s : State) (xs ys : List (List ℕ)) → state_after params n s (xs ++ ys) ≡ state_after params (n + length xs) (state_after params n s xs) ys
state_after-append params n s [] ys = ap (λ (k : ℕ). state_after params k s ys) (sym (add-zero n))
state_after-append params n s (x ∷ xs) ys =
    state_after-append params (n + 1) (step params n s x).state xs ys
    ∙ ap (λ (k : ℕ). state_after params k (state_after params (n + 1) (step params n s x).state xs) ys) (omega arith)

pub one_more : (n k : ℕ) → n + 1 + k ≡ n + suc k
one_more n k = omega arith

-- after some lines the sum goes on from the state and the number that these lines leave
pub lines_sum-append : (part : ℕ → State → List ℕ → ℕ) (params : Params) (n : ℕ) (s : State) (xs ys : List (List ℕ))
    → lines_sum part params n s (xs ++ ys) ≡ lines_sum part params n s xs + lines_sum part params (n + length xs) (state_after params n s xs) ys
lines_sum-append part params n s [] ys = ap (λ (k : ℕ). lines_sum part params k s ys) (sym (add-zero n)) ∙ sym (zero-add (lines_sum part params (n + 0) s ys))
lines_sum-append part params n s (x ∷ xs) ys =
    ap (λ (c : ℕ). part n s x + c) (lines_sum-append part params (n + 1) (step params n s x).state xs ys)
    ∙ (ap (λ (k : ℕ). part n s x + (lines_sum part params (n + 1) (step params n s x).state xs
    + lines_sum part params k (state_after params (n + 1) (step params n s x).state xs) ys)) (one_more n (length xs))
    ∙ omega arith)

-- with one line more the sum has its part more
pub sums_more : (part : ℕ → State → List ℕ → ℕ) (params : Params) (first now : State) (n : ℕ) (given : List (List ℕ)) (line : List ℕ) (before after entry : ℕ)
    → n ≡ 1 + length given → now ≡ state_after params 1 first given
    → before ≤ entry + lines_sum part params 1 first given → after ≤ before + part n now line
    → after ≤ entry + lines_sum part params 1 first (given ++ line ∷ [])
sums_more part params first now n given line before after entry number state so_far more =
    let one : lines_sum part params (1 + length given) (state_after params 1 first given) (line ∷ []) ≡ part (1 + length given) (state_after params 1 first given) line + 0 = refl in
    let same : part n now line ≡ part (1 + length given) (state_after params 1 first given) line =
    ap (λ (k : ℕ). part k now line) number ∙ ap (λ (s : State). part (1 + length given) s line) state in
    let split = lines_sum-append part params 1 first given (line ∷ []) in
    omega (arith, one, same, split, so_far, more)

-- the lines that come later may be served too
pub MayServe-later : (whole : Bool) (params : Params) (xs ys : List (List ℕ)) → MayServe whole params (xs ++ ys) → MayServe whole params ys
MayServe-later whole params [] ys may = may
MayServe-later whole params (x ∷ xs) ys may = MayServe-later whole params xs ys may.1
