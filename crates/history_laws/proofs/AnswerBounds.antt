-- No answer is greater than what the changes bring, and a lawful history has room.
use Rattle.std.proofs.Common.{Bool, ◌+ℤ◌, ◌++◌, length, refl, sym, ap, subst, ◌∙◌, append_assoc, length-append, ◌≡◌, ℕ, zero, suc, ◌+◌, ◌*◌, ◌/◌, ◌%◌, ◌^◌, ◌<◌, ◌≤◌, true, false, cond, ◌==◌, List, [], ◌∷◌, take, Some, None, inl, inr, ℤ, pos, negsuc, ◌-ℤ◌, ◌*ℤ◌, ◌≤ℤ◌, ◌<ℤ◌, neg_ℤ, nat_abs, int_lt, slice_index, arith, if◌then◌else◌}
use Rattle.std.proofs.Math.Nat.{pow-le-pow_left, mul-le-mul_left, mul-le-mul_right}
use Rattle.std.proofs.lemmas.Int.{ints, clamps}
use Rattle.std.specs.Int.{int_pow}
use Rattle.std.specs.List.{All, filter, sum_by, zip, list_any}
use Rattle.std.proofs.lemmas.List.Elements.{All-cons, All-nil}
use Rattle.bw_types.specs.Answers.{integral_at}
use Rattle.bw_types.specs.Fits.{coordinate}
use Rattle.bw_types.specs.History.{History, changes, live, live_of, withdraws}
use Rattle.bw_types.specs.Integral.{exponent_lists, moment, common_low, common_high, common_moment, integral_of_degree, integral_over}
use Rattle.bw_types.specs.Mass.{above_zero, reach, box_reach, mass_of_degree, mass}
use Rattle.bw_types.specs.Refusals.{added_mass, total_mass}
use Rattle.bw_types.specs.Tally.{int_product_below, product_below, int_sum_by}
use Rattle.bw_types.specs.declared.params.Params.{Params}
use Rattle.bw_types.specs.declared.object.Object.{Object}
use Rattle.bw_types.specs.declared.query.Query.{Query}
use Rattle.bw_types.specs.declared.change.Change.{Change}
use Rattle.bw_types.specs.declared.change.Change.TheVariants as change
use Rattle.std.proofs.lemmas.List.Sums.{sum_by-append, sum_by-cons}
use Rattle.std.proofs.lemmas.Bool.{cases_Bool}
use Rattle.std.specs.Option.{option_map_or}
use Rattle.std.proofs.lemmas.Int.{unsigned_abs-mul}
use Rattle.history_laws.specs.Bounds.{HasSmallWeight}
use Rattle.bw_types.specs.Answers.{sum_at, count_at}
use Rattle.bw_types.specs.Meets.{meets}

-- sizes of signed numbers
abs-neg : (z : ℤ) → nat_abs (neg_ℤ z) ≡ nat_abs z
abs-neg (pos zero) = refl
abs-neg (pos (suc n)) = refl
abs-neg (negsuc n) = refl

abs-pow : (z : ℤ) (e : ℕ) → nat_abs (int_pow z e) ≡ nat_abs z ^ e
abs-pow (pos a) e = refl
abs-pow (negsuc a) e =
    elim (e % 2 == 0) as (λ even. nat_abs (cond even (pos (suc a ^ e)) (neg_ℤ (pos (suc a ^ e)))) ≡ suc a ^ e) [
      | true ↦ refl
      | false ↦ abs-neg (pos (suc a ^ e))
    ]

abs-add : (a b : ℤ) → nat_abs (a +ℤ b) ≤ nat_abs a + nat_abs b
abs-add a b = omega (arith, ints)

abs-sub : (a b : ℤ) → nat_abs (a -ℤ b) ≤ nat_abs a + nat_abs b
abs-sub a b = omega (arith, ints)

abs-mul : (a b : ℤ) → nat_abs (a *ℤ b) ≡ nat_abs a * nat_abs b
abs-mul a b = unsigned_abs-mul a b

within_first : (x y : ℕ) → x ≤ y → nat_abs (pos y -ℤ pos x) ≤ y
within_first x y h = omega (arith, ints)

within_second : (x y : ℕ) → y ≤ x → nat_abs (pos y -ℤ pos x) ≤ x
within_second x y h = omega (arith, ints)

within_second_negative : (x y : ℕ) → y ≤ x → nat_abs (neg_ℤ (pos y) -ℤ neg_ℤ (pos x)) ≤ x
within_second_negative x y h = omega (arith, ints)

-- the difference of two powers, by the parts of the interval above and below 0
power_difference : (n : ℕ) (a b : ℤ) → a <ℤ b → nat_abs (int_pow b n -ℤ int_pow a n) ≤ above_zero b ^ n + above_zero (neg_ℤ a) ^ n
power_difference n (pos x) (pos y) h =
    let lt : x < y = omega (arith, ints) in
    let powers : x ^ n ≤ y ^ n = pow-le-pow_left (omega arith) n in
    let e = within_first (x ^ n) (y ^ n) powers in
    omega arith
power_difference n (pos x) (negsuc y) h = absurd (omega (arith, ints))
power_difference n (negsuc x) (pos y) h =
    let e = abs-sub (pos (y ^ n)) (int_pow (negsuc x) n) in
    let size = abs-pow (negsuc x) n in
    omega arith
power_difference n (negsuc x) (negsuc y) h =
    let lt : y < x = omega (arith, ints) in
    let powers : suc y ^ n ≤ suc x ^ n = pow-le-pow_left (omega arith) n in
    elim (n % 2 == 0) as (λ even. nat_abs (cond even (pos (suc y ^ n)) (neg_ℤ (pos (suc y ^ n))) -ℤ cond even (pos (suc x ^ n)) (neg_ℤ (pos (suc x ^ n)))) ≤ zero ^ n + suc x ^ n) [
      | true ↦ let e = within_second (suc x ^ n) (suc y ^ n) powers in omega arith
      | false ↦ let e = within_second_negative (suc x ^ n) (suc y ^ n) powers in omega arith
    ]

below_at : (a b : ℤ) → int_lt a b ≡ true → a <ℤ b
below_at a b h = grind (arith, ints)

above_zero-le : (a b : ℤ) → a ≤ℤ b → above_zero a ≤ above_zero b
above_zero-le (pos x) (pos y) h = omega (arith, ints)
above_zero-le (pos x) (negsuc y) h = absurd (omega (arith, ints))
above_zero-le (negsuc x) b h = omega arith

difference_bound : (n : ℕ) (a b low high : ℤ) → a <ℤ b → low ≤ℤ a → b ≤ℤ high → nat_abs (int_pow b n -ℤ int_pow a n) ≤ above_zero high ^ n + above_zero (neg_ℤ low) ^ n
difference_bound n a b low high below from to =
    let d = power_difference n a b below in
    let top : above_zero b ^ n ≤ above_zero high ^ n = pow-le-pow_left (above_zero-le b high to) n in
    let bottom : above_zero (neg_ℤ a) ^ n ≤ above_zero (neg_ℤ low) ^ n = pow-le-pow_left (above_zero-le (neg_ℤ a) (neg_ℤ low) (omega (arith, ints))) n in
    omega arith

-- a moment over a part of an interval, by the interval's reach
moment_bound : (e : ℕ) (a b low high : ℤ) → low ≤ℤ a → b ≤ℤ high → nat_abs (moment e a b) ≤ reach e low high
moment_bound e a b low high from to =
    elim (cases_Bool (int_lt a b)) [
      | inl t ↦
          let size = abs-mul (pos (6 / (e + 1))) (int_pow b (e + 1) -ℤ int_pow a (e + 1)) in
          let scaled : (6 / (e + 1)) * nat_abs (int_pow b (e + 1) -ℤ int_pow a (e + 1)) ≤ reach e low high =
          mul-le-mul_left (6 / (e + 1)) (difference_bound (e + 1) a b low high (below_at a b t) from to) in
          rw t (omega arith)
      | inr f ↦ rw f (omega arith)
    ]

-- the common part of two boxes lies in the first
moment_within : (params : Params) (q : Query) (o : Object) (e i : ℕ)
    → nat_abs (moment e (common_low params q o i) (common_high params q o i)) ≤ reach e (coordinate params (slice_index o.low i)) (coordinate params (slice_index o.high i))
moment_within params q o e i =
    moment_bound e (common_low params q o i) (common_high params q o i) (coordinate params (slice_index o.low i)) (coordinate params (slice_index o.high i))
    (omega (arith, ints, clamps)) (omega (arith, ints, clamps))

product_bound : (n : ℕ) (f : ℕ → ℤ) (g : ℕ → ℕ) → ((i : ℕ) → nat_abs (f i) ≤ g i) → nat_abs (int_product_below n f) ≤ product_below n g
product_bound zero f g h = omega arith
product_bound (suc n) f g h =
    let size = abs-mul (int_product_below n f) (f n) in
    let left : nat_abs (int_product_below n f) * nat_abs (f n) ≤ product_below n g * nat_abs (f n) = mul-le-mul_right (nat_abs (f n)) (product_bound n f g h) in
    let right : product_below n g * nat_abs (f n) ≤ product_below n g * g n = mul-le-mul_left (product_below n g) (h n) in
    omega arith

sum_bound : {X : Type 0} (f : X → ℤ) (g : X → ℕ) (xs : List X) → ((x : X) → nat_abs (f x) ≤ g x) → nat_abs (int_sum_by f xs) ≤ sum_by g xs
sum_bound f g [] h = omega arith
sum_bound f g (x ∷ xs) h =
    let size = abs-add (f x) (int_sum_by f xs) in
    let rest = sum_bound f g xs h in
    let first = h x in
    let both = sum_by-cons g x xs in
    omega arith

common_moment_bound : (params : Params) (q : Query) (o : Object) (es : List ℕ) → nat_abs (common_moment params q o es) ≤ box_reach params o es
common_moment_bound params q o es = product_bound params.dims _ _ (λ i. moment_within params q o (slice_index es i) i)

term_bound : (params : Params) (q : Query) (o : Object) (x : ℤ) (es : List ℕ) → nat_abs (x *ℤ common_moment params q o es) ≤ nat_abs x * box_reach params o es
term_bound params q o x es =
    let size = abs-mul x (common_moment params q o es) in
    let more : nat_abs x * nat_abs (common_moment params q o es) ≤ nat_abs x * box_reach params o es = mul-le-mul_left (nat_abs x) (common_moment_bound params q o es) in
    omega arith

degree_bound : (params : Params) (q : Query) (o : Object) (g : ℕ) → nat_abs (integral_of_degree params q o g) ≤ mass_of_degree params o g
degree_bound params q o g =
    sum_bound (λ (x, es). x *ℤ common_moment params q o es) (λ (x, es). nat_abs x * box_reach params o es) (zip o.coeffs (exponent_lists params.dims g)) (λ z. term_bound params q o z.0 z.1)

-- one object
pub integral_bound : (params : Params) (q : Query) (o : Object) → nat_abs (integral_over params q o) ≤ mass params o
integral_bound params q o =
    elim params.degree as (λ d. nat_abs (option_map_or (integral_of_degree params q o) d (pos 0)) ≤ option_map_or (mass_of_degree params o) d 0) [
      | Some g ↦ degree_bound params q o g
      | None ↦ omega arith
    ]

live_mass : (params : Params) (cs : List Change) → sum_by (mass params) (live_of cs) ≤ total_mass params cs
live_mass params [] = omega arith
live_mass params (change.Add o ∷ cs) =
    let rest = live_mass params cs in
    let all = sum_by-cons (added_mass params) (change.Add o) cs in
    let some = sum_by-cons (mass params) o (live_of cs) in
    elim (list_any (withdraws o.id) cs) as (λ b. sum_by (mass params) (if b then live_of cs else o ∷ live_of cs) ≤ total_mass params (change.Add o ∷ cs)) [
      | true ↦ omega arith
      | false ↦ omega arith
    ]
live_mass params (change.Withdraw id ∷ cs) =
    let rest = live_mass params cs in
    let all = sum_by-cons (added_mass params) (change.Withdraw id) cs in
    omega arith

changes_mass : (params : Params) (h : History) (version : ℕ) → total_mass params (changes (take version h)) ≤ total_mass params (changes h)
changes_mass params h zero = omega arith
changes_mass params [] (suc version) = omega arith
changes_mass params (batch ∷ h) (suc version) =
    let rest = changes_mass params h version in
    let short = sum_by-append (added_mass params) batch (changes (take version h)) in
    let long = sum_by-append (added_mass params) batch (changes h) in
    omega arith

-- the objects that are live at a version
pub integral_at_bound : (params : Params) (h : History) (version : ℕ) (q : Query) → nat_abs (integral_at params h version q) ≤ total_mass params (changes h)
integral_at_bound params h version q =
    let one = sum_bound (integral_over params q) (mass params) (live h version) (integral_bound params q) in
    let now = live_mass params (changes (take version h)) in
    let all = changes_mass params h version in
    omega arith

-- the weights of those that are left of the live objects
live_weights : (p : Object → Bool) (cs : List Change) → All HasSmallWeight cs → nat_abs (int_sum_by (λ o. o.weight) (filter p (live_of cs))) ≤ length cs * 2 ^ 63
live_weights p [] all = omega arith
live_weights p (change.Add o ∷ cs) all =
    let rest = live_weights p cs (λ k d lt. all (suc k) d (omega arith)) in
    let own : nat_abs o.weight ≤ 2 ^ 63 = all 0 (change.Add o) (omega arith) in
    let both = abs-add o.weight (int_sum_by (λ x. x.weight) (filter p (live_of cs))) in
    elim (list_any (withdraws o.id) cs) as (λ b. nat_abs (int_sum_by (λ x. x.weight) (filter p (if b then live_of cs else o ∷ live_of cs))) ≤ length (change.Add o ∷ cs) * 2 ^ 63) [
      | true ↦ omega arith
      | false ↦ elim (p o) as (λ b. nat_abs (int_sum_by (λ x. x.weight) (if b then o ∷ filter p (live_of cs) else filter p (live_of cs))) ≤ length (change.Add o ∷ cs) * 2 ^ 63) [
        | true ↦ omega arith
        | false ↦ omega arith
      ]
    ]
live_weights p (change.Withdraw id ∷ cs) all =
    let rest = live_weights p cs (λ k d lt. all (suc k) d (omega arith)) in
    omega arith

live_counts : (p : Object → Bool) (cs : List Change) → length (filter p (live_of cs)) ≤ length cs
live_counts p [] = omega arith
live_counts p (change.Add o ∷ cs) =
    let rest = live_counts p cs in
    elim (list_any (withdraws o.id) cs) as (λ b. length (filter p (if b then live_of cs else o ∷ live_of cs)) ≤ length (change.Add o ∷ cs)) [
      | true ↦ omega arith
      | false ↦ elim (p o) as (λ b. length (if b then o ∷ filter p (live_of cs) else filter p (live_of cs)) ≤ length (change.Add o ∷ cs)) [
        | true ↦ omega arith
        | false ↦ omega arith
      ]
    ]
live_counts p (change.Withdraw id ∷ cs) = let rest = live_counts p cs in omega arith

-- the changes of the first batches are the first changes
taken_changes : (h : History) (version : ℕ) → (later : List Change) × (changes h ≡ changes (take version h) ++ later)
taken_changes h zero = (changes h, refl)
taken_changes [] (suc version) = ([], refl)
taken_changes (b ∷ bs) (suc version) =
    let rest = taken_changes bs version in
    (rest.0, ap (λ cs. b ++ cs) rest.1 ∙ sym (append_assoc b (changes (take version bs)) rest.0))

all_front : (xs ys : List Change) → All HasSmallWeight (xs ++ ys) → All HasSmallWeight xs
all_front [] ys all = All-nil HasSmallWeight
all_front (x ∷ xs) ys all = All-cons HasSmallWeight x xs (all 0 x (omega arith)) (all_front xs ys (λ k d lt. all (suc k) d (omega arith)))

pub sum_at_bound : (params : Params) (h : History) (version : ℕ) (q : Query) → All HasSmallWeight (changes h) → nat_abs (sum_at params h version q) ≤ length (changes h) * 2 ^ 63
sum_at_bound params h version q all =
    let cut = taken_changes h version in
    let front = all_front (changes (take version h)) cut.0 (subst (λ (cs : List Change). All HasSmallWeight cs) cut.1 all) in
    let here = live_weights (meets params.dims q) (changes (take version h)) front in
    omega (arith, here, ap length cut.1, length-append (changes (take version h)) cut.0)

pub count_at_bound : (params : Params) (h : History) (version : ℕ) (q : Query) → nat_abs (count_at params h version q) ≤ length (changes h)
count_at_bound params h version q =
    let cut = taken_changes h version in
    let here = live_counts (meets params.dims q) (changes (take version h)) in
    omega (arith, here, ap length cut.1, length-append (changes (take version h)) cut.0)
