-- The laws of depths and of numbers of pages.
use Rattle.std.specs.Prelude.{◌≡◌, ℕ, zero, suc, ◌+◌, ◌*◌, ◌/◌, ◌<◌, ◌≤◌, ◌==◌, if◌then◌else◌, refl}
use Rattle.std.proofs.Common.{inl, inr, lit≤, arith}
use Rattle.std.proofs.Math.Dec.{eqb-suc-zero}
use Rattle.std.proofs.lemmas.Bool.{cases_lt, le-leb, lt-leb}
use Rattle.std.proofs.lemmas.Nat.{mul-le}
use Rattle.bw_types.specs.Digits.{digit_count}
use Rattle.bw_types.specs.DigitLaws.{digits_grow, digits_unfold}
use Rattle.bw_types.specs.Depths.{AddingGrows, BuildingGrows, DepthsGrow, DepthsWorked, GrowthWorked, IsCost, NeverFalls, QueriesAreCosts, QueriesWorked, added_pages, depth, depth_within, growth_above, most_of_side, pages_a_point, query_pages, reads_within, share_above}

-- ---- a number that falls to three fifths at each step

-- a function by steps, of which one is taken for each number above 64
pub depth_step : (steps n : ℕ) → 64 < n → depth_within (suc steps) n ≡ suc (depth_within steps (most_of_side n))
depth_step steps n more = rw (lt-leb n 64 more) refl

pub depth_low : (steps n : ℕ) → n ≤ 64 → depth_within steps n ≡ 0
depth_low zero n few = refl
depth_low (suc steps) n few = rw (le-leb n 64 few) refl

-- more points and more steps go no less deep
pub depth_grows : (steps more m n : ℕ) → m ≤ n → steps ≤ more → depth_within steps m ≤ depth_within more n
depth_grows zero more m n le les = omega arith
depth_grows (suc steps) zero m n le les = absurd (omega arith)
depth_grows (suc steps) (suc more) m n le les = elim (cases_lt 64 m) [
  | inl above ↦
      let ih : depth_within steps (most_of_side m) ≤ depth_within more (most_of_side n) = depth_grows steps more (most_of_side m) (most_of_side n) (omega arith) (omega arith) in
      let a = depth_step steps m above in
      let b = depth_step more n (omega arith) in
      omega (arith, a, b, ih)
  | inr few ↦ let a = depth_low (suc steps) m few in omega (arith, a)
]

pub reads_step : (cost : ℕ → ℕ) (steps n : ℕ) → 64 < n → reads_within cost (suc steps) n ≡ reads_within cost steps (most_of_side n) + 1 + cost (most_of_side n)
reads_step cost steps zero more = absurd (omega arith)
reads_step cost steps (suc n) more = rw (eqb-suc-zero n, lt-leb (suc n) 64 more) refl

pub reads_low : (cost : ℕ → ℕ) (steps n : ℕ) → 1 ≤ n → n ≤ 64 → reads_within cost (suc steps) n ≡ 1
reads_low cost steps zero some few = absurd (omega arith)
reads_low cost steps (suc n) some few = rw (eqb-suc-zero n, le-leb (suc n) 64 few) refl

pub reads_some : (cost : ℕ → ℕ) (steps n : ℕ) → 1 ≤ n → 1 ≤ steps → 1 ≤ reads_within cost steps n
reads_some cost zero n some step = absurd (omega arith)
reads_some cost (suc steps) n some step = elim (cases_lt 64 n) [
  | inl above ↦ let a = reads_step cost steps n above in omega (arith, a)
  | inr few ↦ let a = reads_low cost steps n some few in omega (arith, a)
]

reads_grow : (cost : ℕ → ℕ) → IsCost cost → (steps more m n : ℕ) → m ≤ n → steps ≤ more → reads_within cost steps m ≤ reads_within cost more n
reads_grow cost is zero more m n le les = omega arith
reads_grow cost is (suc steps) zero m n le les = absurd (omega arith)
reads_grow cost is (suc steps) (suc more) zero n le les = omega arith
reads_grow cost is (suc steps) (suc more) (suc m) n le les = elim (cases_lt 64 (suc m)) [
  | inl above ↦
      let ih : reads_within cost steps (most_of_side (suc m)) ≤ reads_within cost more (most_of_side n) = reads_grow cost is steps more (most_of_side (suc m)) (most_of_side n) (omega arith) (omega arith) in
      let c : cost (most_of_side (suc m)) ≤ cost (most_of_side n) = is.grows (most_of_side (suc m)) (most_of_side n) (omega arith) in
      let a = reads_step cost steps (suc m) above in
      let b = reads_step cost more n (omega arith) in
      omega (arith, a, b, c, ih)
  | inr few ↦
      let a = reads_low cost steps (suc m) (omega arith) few in
      let b : 1 ≤ reads_within cost (suc more) n = reads_some cost (suc more) n (omega arith) (omega arith) in
      omega (arith, a, b)
]

-- ---- the costs of queries

digits_some : (b n : ℕ) → 2 ≤ b → 1 ≤ n → 1 ≤ digit_count b n
digits_some b zero base some = absurd (omega arith)
digits_some b (suc n) base some =
    let u : digit_count b (suc n) ≡ (if suc n == 0 then 0 else 1 + digit_count b (suc n / b)) = digits_unfold b (suc n) base in
    let a : digit_count b (suc n) ≡ 1 + digit_count b (suc n / b) = rw (eqb-suc-zero n) at u in
    omega (arith, a)

pub queries_are_costs : QueriesAreCosts
queries_are_costs zero = record { grows = λ m n le. digits_grow 32 m n (lit≤ tt) le; some = λ n s. digits_some 32 n (lit≤ tt) s }
queries_are_costs (suc zero) = record {
  grows = λ m n le.
      let a = digits_grow 32 m n (lit≤ tt) le in
      let b = digits_grow 24 m n (lit≤ tt) le in
      omega (arith, a, b);
  some = λ n s. let a = digits_some 32 n (lit≤ tt) s in omega (arith, a);
}
queries_are_costs (suc (suc d)) = record {
  grows = λ m n le. reads_grow (query_pages (suc d)) (queries_are_costs (suc d)) m n m n le le;
  some = λ n s. reads_some (query_pages (suc d)) n n s s;
}

pub cost_above : (cost : ℕ → ℕ) → IsCost cost → IsCost (λ n. reads_within cost n n)
cost_above cost is = record { grows = λ m n le. reads_grow cost is m n m n le le; some = λ n s. reads_some cost n n s s }

-- one step of the pages read over a side of a cut
pub within_step : (cost : ℕ → ℕ) → IsCost cost → (n side : ℕ) → 64 < n → 5 * side ≤ 3 * n → reads_within cost side side + 1 + cost (most_of_side n) ≤ reads_within cost n n
within_step cost is zero side many share = absurd (omega arith)
within_step cost is (suc n) side many share =
    let step = reads_step cost n (suc n) many in
    let s : reads_within cost side side ≤ reads_within cost n (most_of_side (suc n)) = reads_grow cost is side n side (most_of_side (suc n)) (omega arith) (omega arith) in
    omega (arith, step, s)

-- ---- the numbers of building and adding

pub depths_grow : DepthsGrow
depths_grow m n le = depth_grows m n m n le le

pub shares_never_fall : (share : ℕ → ℕ) → NeverFalls share → NeverFalls (share_above share)
shares_never_fall share falls m n le =
    let inner = mul-le (depth m) (share m) (depth n) (share n) (depths_grow m n le) (falls m n le) in
    omega (arith, inner)

pub growths_never_fall : (growth share : ℕ → ℕ) → NeverFalls growth → NeverFalls share → NeverFalls (growth_above growth share)
growths_never_fall growth share growing falls m n le =
    let more = growing m n le in
    let paths = mul-le (depth (m + 1)) (1 + growth m) (depth (n + 1)) (1 + growth n) (depths_grow (m + 1) (n + 1) (omega (arith, le))) (omega (arith, more)) in
    let anew = mul-le (m + 1) (share_above share (m + 1)) (n + 1) (share_above share (n + 1)) (omega (arith, le)) (shares_never_fall share falls (m + 1) (n + 1) (omega (arith, le))) in
    omega (arith, paths, anew)

pub building_grows : BuildingGrows
building_grows zero m n le = omega arith
building_grows (suc zero) m n le = omega arith
building_grows (suc (suc d)) m n le = shares_never_fall (pages_a_point (suc d)) (building_grows (suc d)) m n le

pub adding_grows : AddingGrows
adding_grows zero m n le = omega arith
adding_grows (suc zero) m n le = omega arith
adding_grows (suc (suc d)) m n le =
    let rest = growths_never_fall (added_pages (suc d)) (pages_a_point (suc d)) (adding_grows (suc d)) (building_grows (suc d)) m n le in
    omega (arith, rest)

-- ---- worked

pub depths_worked : DepthsWorked
depths_worked = (refl, refl, refl, refl, refl, refl, refl)

pub queries_worked : QueriesWorked
unfolding digit_count
queries_worked = ((refl, refl, refl, refl), (refl, refl, refl, refl), (refl, refl, refl, refl), (refl, refl, refl, refl))

pub growth_worked : GrowthWorked
growth_worked = (refl, refl)
