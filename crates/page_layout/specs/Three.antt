-- Three numbers of one size in a row.
use Rattle.std.specs.Prelude.{◌≡◌, ℕ, ◌+◌, ◌<◌, ◌^◌, List, [], ◌∷◌, ◌++◌, length, drop, slice_index}
use Rattle.std.specs.List.{All}
use Rattle.std.proofs.Common.{refl, ap, ◌∙◌, append_assoc, arith, length-append}
use Rattle.page_layout.specs.Numbers.{spelled, number_in, length-spelled, number_in-spelled, past-spelled, past_more}

-- the bytes of three numbers of n bytes each
abbrev pub three_bytes : ℕ → List ℕ → List ℕ
three_bytes n xs = spelled n (slice_index xs 0) ++ (spelled n (slice_index xs 1) ++ spelled n (slice_index xs 2))

-- the three numbers of n bytes each in the first bytes
abbrev pub three_in : ℕ → List ℕ → List ℕ
three_in n bytes = number_in n bytes ∷ number_in n (drop n bytes) ∷ number_in n (drop (n + n) bytes) ∷ []

-- There are three numbers, each below a limit.
pub record AreThree (limit : ℕ) (xs : List ℕ) : Type 0 where
  pub three : length xs ≡ 3
  pub below : All (λ x. x < limit) xs

pub length-three : (n : ℕ) (xs : List ℕ) → length (three_bytes n xs) ≡ n + (n + n)
length-three n xs = simp (length-append, length-spelled)

pub three-is : (xs : List ℕ) → length xs ≡ 3 → slice_index xs 0 ∷ slice_index xs 1 ∷ slice_index xs 2 ∷ [] ≡ xs
three-is [] h = absurd (omega arith)
three-is (a ∷ []) h = absurd (omega arith)
three-is (a ∷ b ∷ []) h = absurd (omega arith)
three-is (a ∷ b ∷ c ∷ []) h = refl
three-is (a ∷ b ∷ c ∷ d ∷ xs) h = absurd (omega arith)

pub three_in-back : (n : ℕ) (xs rest : List ℕ) → AreThree (256 ^ n) xs → three_in n (three_bytes n xs ++ rest) ≡ xs
three_in-back n xs rest are =
    let len : length xs ≡ 3 = are.three in
    let r2 : List ℕ = spelled n (slice_index xs 2) ++ rest in
    let r1 : List ℕ = spelled n (slice_index xs 1) ++ r2 in
    let whole : three_bytes n xs ++ rest ≡ spelled n (slice_index xs 0) ++ r1 = simp append_assoc in
    let fits0 : slice_index xs 0 < 256 ^ n = are.below 0 0 (omega arith) in
    let fits1 : slice_index xs 1 < 256 ^ n = are.below 1 0 (omega arith) in
    let fits2 : slice_index xs 2 < 256 ^ n = are.below 2 0 (omega arith) in
    let f0 : number_in n (three_bytes n xs ++ rest) ≡ slice_index xs 0 = ap (λ (b : List ℕ). number_in n b) whole ∙ number_in-spelled n (slice_index xs 0) r1 fits0 in
    let f1 : number_in n (drop n (three_bytes n xs ++ rest)) ≡ slice_index xs 1 = ap (λ (b : List ℕ). number_in n (drop n b)) whole ∙ ap (λ (b : List ℕ). number_in n b) (past-spelled n (slice_index xs 0) r1) ∙ number_in-spelled n (slice_index xs 1) r2 fits1 in
    let f2 : number_in n (drop (n + n) (three_bytes n xs ++ rest)) ≡ slice_index xs 2 = ap (λ (b : List ℕ). number_in n (drop (n + n) b)) whole ∙ ap (λ (b : List ℕ). number_in n b) (past_more n n (slice_index xs 0) r1 ∙ past-spelled n (slice_index xs 1) r2) ∙ number_in-spelled n (slice_index xs 2) rest fits2 in
    (λ i. f0 i ∷ f1 i ∷ f2 i ∷ []) ∙ three-is xs len
