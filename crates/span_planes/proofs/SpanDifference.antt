-- Sums of answers over versions: by their entries, each of which counts from its own version on.
use Rattle.std.proofs.Common.{◌≡◌, ℕ, zero, suc, ◌+◌, ◌-◌, ◌*◌, ◌^◌, ◌≤◌, Bool, true, false, nat_le, if◌then◌else◌, List, [], ◌∷◌, length, sym, ◌∙◌, ap, subst, arith, inl, inr, ℤ, pos, neg_ℤ, ◌+ℤ◌, ◌-ℤ◌, ◌*ℤ◌, nat_abs}
use Rattle.std.proofs.Math.Nat.{mul-le-mul_right}
use Rattle.std.proofs.lemmas.Bool.{cases_lt, cases_eq, le-leb, lt-leb}
use Rattle.std.proofs.lemmas.Int.{ints}
use Rattle.std.specs.List.{All, range_with_len}
use Rattle.bw_types.specs.Answers.{sum_at}
use Rattle.bw_types.specs.History.{History, changes}
use Rattle.bw_types.specs.Tally.{int_sum_by}
use Rattle.bw_types.specs.declared.params.Params.{Params}
use Rattle.bw_types.specs.declared.query.Query.{Query}
use Rattle.corner_forest.specs.Answers.{where_met}
use Rattle.history_laws.specs.Answers.{SumByEntries}
use Rattle.history_laws.specs.Entries.{history_entries}
use Rattle.history_laws.specs.Bounds.{HasSmallWeight, SumsAreBounded}
use Rattle.corner_weights.specs.PlaneSums.{Entered, counts_at}
use Rattle.span_planes.specs.SpanSums.{span_sum, sum_before, sum_up_to}

-- how a number counts from a version on, with its sign
abbrev sign : Bool → ℤ
sign minus = if minus then neg_ℤ (pos 1) else pos 1

abbrev counts : Bool → Bool → ℤ
counts told minus = if told then sign minus else pos 0

-- one entry up to a version: it counts as often as there are versions from its own on
abbrev up_to : ℕ → ℕ → ℤ → ℤ → ℤ
up_to version own c x = pos (version + 1) *ℤ (c *ℤ x) -ℤ c *ℤ (pos own *ℤ x)

-- where it counts before and after, it counts once more
once_more : (version own : ℕ) (minus : Bool) (x : ℤ) → up_to (suc version) own (sign minus) x ≡ up_to version own (sign minus) x +ℤ sign minus *ℤ x
once_more version own true x = omega (arith, ints)
once_more version own false x = omega (arith, ints)

once : (x : ℤ) → pos 1 *ℤ x ≡ x
once x = omega (arith, ints)

never : (x : ℤ) → pos 0 *ℤ x ≡ pos 0
never x = omega (arith, ints)

opposite : (x : ℤ) → neg_ℤ (pos 1) *ℤ x ≡ neg_ℤ x
opposite x = omega (arith, ints)

-- products by a natural number, one time after the other
time_more : (n : ℕ) (x : ℤ) → pos (suc n) *ℤ x ≡ pos n *ℤ x +ℤ x
time_more n x = omega (arith, ints)

spread : (n : ℕ) (a s : ℤ) → pos n *ℤ (a +ℤ s) ≡ pos n *ℤ a +ℤ pos n *ℤ s
spread zero a s = omega (arith, ints)
spread (suc n) a s =
    let whole = time_more n (a +ℤ s) in
    let left = time_more n a in
    let right = time_more n s in
    let before = spread n a s in
    omega (arith, ints)

opposite_times : (n : ℕ) (x : ℤ) → pos n *ℤ neg_ℤ x ≡ neg_ℤ (pos n *ℤ x)
opposite_times zero x = omega (arith, ints)
opposite_times (suc n) x =
    let whole = time_more n (neg_ℤ x) in
    let part = time_more n x in
    let before = opposite_times n x in
    omega (arith, ints)

turned : (minus : Bool) (n : ℕ) (x : ℤ) → sign minus *ℤ (pos n *ℤ x) ≡ pos n *ℤ (sign minus *ℤ x)
turned true n x = opposite (pos n *ℤ x) ∙ sym (opposite_times n x) ∙ ap (λ (z : ℤ). pos n *ℤ z) (sym (opposite x))
turned false n x = once (pos n *ℤ x) ∙ ap (λ (z : ℤ). pos n *ℤ z) (sym (once x))

one_time : (n : ℕ) (y : ℤ) → pos (n + 1) *ℤ y -ℤ pos n *ℤ y ≡ y
one_time n y = omega (arith, ints)

no_time : (version own : ℕ) (x : ℤ) → up_to version own (pos 0) x ≡ pos 0
no_time version own x = ap (λ (z : ℤ). pos (version + 1) *ℤ z -ℤ pos 0 *ℤ (pos own *ℤ x)) (never x) ∙ none (version + 1) (pos own *ℤ x)
  where
    none : (n : ℕ) (y : ℤ) → pos n *ℤ pos 0 -ℤ pos 0 *ℤ y ≡ pos 0
    none n y = omega (arith, ints)

nothing_before : (y : ℤ) → y ≡ pos 0 +ℤ y
nothing_before y = omega (arith, ints)

-- at its own version it counts for the first time
first_time : (version : ℕ) (minus : Bool) (x : ℤ) → up_to (suc version) (suc version) (sign minus) x ≡ up_to version (suc version) (pos 0) x +ℤ sign minus *ℤ x
first_time version minus x =
    let y : ℤ = sign minus *ℤ x in
    ap (λ (z : ℤ). pos (suc version + 1) *ℤ y -ℤ z) (turned minus (suc version) x) ∙ one_time (suc version) y ∙ nothing_before y
    ∙ ap (λ (z : ℤ). z +ℤ y) (sym (no_time version (suc version) x))

-- and before that not at all
not_yet : (version own : ℕ) (x : ℤ) → up_to (suc version) own (pos 0) x ≡ up_to version own (pos 0) x +ℤ pos 0 *ℤ x
not_yet version own x = omega (arith, ints)

-- one version more
one_version : (version own : ℕ) (minus : Bool) (x : ℤ)
    → up_to (suc version) own (counts (nat_le own (suc version)) minus) x
    ≡ up_to version own (counts (nat_le own version) minus) x +ℤ counts (nat_le own (suc version)) minus *ℤ x
one_version version own minus x = elim (cases_lt version own) [
  | inr old ↦
      let now : nat_le own (suc version) ≡ true = le-leb own (suc version) (omega (arith, old)) in
      let before : nat_le own version ≡ true = le-leb own version old in
      rw (now, before) (once_more version own minus x)
  | inl later ↦
      let before : nat_le own version ≡ false = lt-leb own version later in
      elim (cases_eq own (suc version)) [
        | inl its ↦
            let now : nat_le own (suc version) ≡ true = le-leb own (suc version) (omega (arith, its)) in
            rw (now, before) (subst (λ (n : ℕ). up_to (suc version) n (sign minus) x ≡ up_to version n (pos 0) x +ℤ sign minus *ℤ x) (sym its) (first_time version minus x))
        | inr other ↦
            let now : nat_le own (suc version) ≡ false = lt-leb own (suc version) (omega (arith, later, other)) in
            rw (now, before) (not_yet version own x)
      ]
]

-- at version 0 there is one version, and only what counts from 0 counts
at_zero : (own : ℕ) (minus : Bool) (x : ℤ) → up_to 0 own (counts (nat_le own 0) minus) x ≡ counts (nat_le own 0) minus *ℤ x
at_zero zero true x = omega (arith, ints)
at_zero zero false x = omega (arith, ints)
at_zero (suc own) minus x =
    let unseen : nat_le (suc own) 0 ≡ false = lt-leb (suc own) 0 (omega arith) in
    rw unseen (no_time 0 (suc own) x ∙ sym (never x))

module _ (given : Entered → ℤ) where
  -- what the entries give at a version, and up to it
  abbrev sum_given : List Entered → ℕ → ℤ
  sum_given es version = int_sum_by (λ e. counts_at version e *ℤ given e) es

  abbrev dated_given : List Entered → ℕ → ℤ
  dated_given es version = int_sum_by (λ e. counts_at version e *ℤ (pos e.version *ℤ given e)) es

  abbrev given_up_to : List Entered → ℕ → ℤ
  given_up_to es version = pos (version + 1) *ℤ sum_given es version -ℤ dated_given es version

  split_off : (n : ℕ) (a b s d : ℤ) → pos n *ℤ (a +ℤ s) -ℤ (b +ℤ d) ≡ (pos n *ℤ a -ℤ b) +ℤ (pos n *ℤ s -ℤ d)
  split_off n a b s d = ap (λ (z : ℤ). z -ℤ (b +ℤ d)) (spread n a s) ∙ apart (pos n *ℤ a) (pos n *ℤ s) b d
    where
      apart : (x y b d : ℤ) → (x +ℤ y) -ℤ (b +ℤ d) ≡ (x -ℤ b) +ℤ (y -ℤ d)
      apart x y b d = omega (arith, ints)

  regrouped : (a b c d : ℤ) → (a +ℤ b) +ℤ (c +ℤ d) ≡ (a +ℤ c) +ℤ (b +ℤ d)
  regrouped a b c d = omega (arith, ints)

  none_up_to : (n : ℕ) → pos n *ℤ pos 0 -ℤ pos 0 ≡ pos 0
  none_up_to n = omega (arith, ints)

  pub given_one_more : (es : List Entered) (version : ℕ) → given_up_to es (suc version) ≡ given_up_to es version +ℤ sum_given es (suc version)
  given_one_more [] version = none_up_to (suc version + 1) ∙ nothing_before (pos 0) ∙ ap (λ (z : ℤ). z +ℤ pos 0) (sym (none_up_to (version + 1)))
  given_one_more (e ∷ es) version =
      let x : ℤ = given e in
      let now : ℤ = counts_at (suc version) e in
      let before : ℤ = counts_at version e in
      let here = one_version version e.version e.minus x in
      let rest = given_one_more es version in
      split_off (suc version + 1) (now *ℤ x) (now *ℤ (pos e.version *ℤ x)) (sum_given es (suc version)) (dated_given es (suc version))
      ∙ ap (λ (z : ℤ). z +ℤ given_up_to es (suc version)) here ∙ ap (λ (z : ℤ). (up_to version e.version before x +ℤ now *ℤ x) +ℤ z) rest
      ∙ regrouped (up_to version e.version before x) (now *ℤ x) (given_up_to es version) (sum_given es (suc version))
      ∙ ap (λ (z : ℤ). z +ℤ (now *ℤ x +ℤ sum_given es (suc version)))
      (sym (split_off (version + 1) (before *ℤ x) (before *ℤ (pos e.version *ℤ x)) (sum_given es version) (dated_given es version)))

  pub given_first : (es : List Entered) → given_up_to es 0 ≡ sum_given es 0
  given_first [] = none_up_to 1
  given_first (e ∷ es) =
      let x : ℤ = given e in
      let now : ℤ = counts_at 0 e in
      split_off 1 (now *ℤ x) (now *ℤ (pos e.version *ℤ x)) (sum_given es 0) (dated_given es 0)
      ∙ ap (λ (z : ℤ). z +ℤ given_up_to es 0) (at_zero e.version e.minus x) ∙ ap (λ (z : ℤ). now *ℤ x +ℤ z) (given_first es)

-- a sum over a range with its last number
range_last : (f : ℕ → ℤ) (from n : ℕ) → int_sum_by f (range_with_len from (suc n)) ≡ int_sum_by f (range_with_len from n) +ℤ f (from + n)
range_last f from zero = swapped (f from) ∙ ap (λ (k : ℕ). pos 0 +ℤ f k) (let same : from ≡ from + 0 = omega arith in same)
  where
    swapped : (y : ℤ) → y +ℤ pos 0 ≡ pos 0 +ℤ y
    swapped y = omega (arith, ints)
range_last f from (suc n) =
    let same : from + 1 + n ≡ from + suc n = omega arith in
    ap (λ (z : ℤ). f from +ℤ z) (range_last f (from + 1) n ∙ ap (λ (k : ℕ). int_sum_by f (range_with_len (from + 1) n) +ℤ f k) same)
    ∙ grouped (f from) (int_sum_by f (range_with_len (from + 1) n)) (f (from + suc n))
  where
    grouped : (a b c : ℤ) → a +ℤ (b +ℤ c) ≡ (a +ℤ b) +ℤ c
    grouped a b c = omega (arith, ints)

-- a sum over a range is a difference, where each term is one
range_difference : (f before : ℕ → ℤ) → ((n : ℕ) → before (suc n) ≡ before n +ℤ f n) → (from n : ℕ) → int_sum_by f (range_with_len from n) ≡ before (from + n) -ℤ before from
range_difference f before step from zero =
    let same : from + 0 ≡ from = omega arith in
    itself (before from) ∙ ap (λ (k : ℕ). before k -ℤ before from) (sym same)
  where
    itself : (y : ℤ) → pos 0 ≡ y -ℤ y
    itself y = omega (arith, ints)
range_difference f before step from (suc n) =
    let same : suc (from + n) ≡ from + suc n = omega arith in
    range_last f from n ∙ ap (λ (z : ℤ). z +ℤ f (from + n)) (range_difference f before step from n)
    ∙ moved (before (from + n)) (before from) (f (from + n)) ∙ ap (λ (z : ℤ). z -ℤ before from) (sym (step (from + n)))
    ∙ ap (λ (k : ℕ). before k -ℤ before from) same
  where
    moved : (a b c : ℤ) → (a -ℤ b) +ℤ c ≡ (a +ℤ c) -ℤ b
    moved a b c = omega (arith, ints)

module _ (law : SumByEntries) (params : Params) (h : History) (q : Query) where
  -- what an entry gives
  abbrev gives : Entered → ℤ
  gives e = where_met params q e.object.weight e.object

  by_entries : (version : ℕ) → sum_given gives (history_entries h) version ≡ sum_at params h version q
  by_entries version = law params h version q

  -- the sum up to a version, by the entries alone
  entered_up_to : (version : ℕ) → sum_up_to params h version q ≡ given_up_to gives (history_entries h) version
  entered_up_to version = ap (λ (z : ℤ). pos (version + 1) *ℤ z -ℤ dated_given gives (history_entries h) version) (sym (by_entries version))

  -- one answer more
  one_answer : (version : ℕ) → sum_before params h (suc version) q ≡ sum_before params h version q +ℤ sum_at params h version q
  one_answer zero = entered_up_to 0 ∙ given_first gives (history_entries h) ∙ by_entries 0 ∙ nothing_before (sum_at params h 0 q)
  one_answer (suc version) =
      entered_up_to (suc version) ∙ given_one_more gives (history_entries h) version
      ∙ ap (λ (z : ℤ). z +ℤ sum_given gives (history_entries h) (suc version)) (sym (entered_up_to version))
      ∙ ap (λ (z : ℤ). sum_up_to params h version q +ℤ z) (by_entries (suc version))

  pub span_difference : (first last : ℕ) → first ≤ last → span_sum params h first last q ≡ sum_up_to params h last q -ℤ sum_before params h first q
  span_difference first last le =
      let past : first + (last + 1 - first) ≡ suc last = omega (arith, le) in
      range_difference (λ version. sum_at params h version q) (λ version. sum_before params h version q) one_answer first (last + 1 - first)
      ∙ ap (λ (k : ℕ). sum_before params h k q -ℤ sum_before params h first q) past

range_bound : (f : ℕ → ℤ) (most : ℕ) → ((n : ℕ) → nat_abs (f n) ≤ most) → (from n : ℕ) → nat_abs (int_sum_by f (range_with_len from n)) ≤ n * most
range_bound f most each from zero = omega arith
range_bound f most each from (suc n) =
    let first = each from in
    let rest = range_bound f most each (from + 1) n in
    let both = abs_added (f from) (int_sum_by f (range_with_len (from + 1) n)) in
    let more = one_more n most in
    omega (arith, first, rest, both, more)
  where
    abs_added : (x y : ℤ) → nat_abs (x +ℤ y) ≤ nat_abs x + nat_abs y
    abs_added x y = omega (arith, ints)

    one_more : (n most : ℕ) → suc n * most ≡ n * most + most
    one_more n most = omega arith

pub span_bounded : SumsAreBounded → (params : Params) (h : History) (first last : ℕ) (q : Query) → All HasSmallWeight (changes h) → first ≤ last
    → nat_abs (span_sum params h first last q) ≤ (last + 1) * (length (changes h) * 2 ^ 63)
span_bounded law params h first last q small le =
    let most : ℕ = length (changes h) * 2 ^ 63 in
    let bound = range_bound (λ version. sum_at params h version q) most (λ version. law params h version q small) first (last + 1 - first) in
    let fewer : (last + 1 - first) * most ≤ (last + 1) * most = mul-le-mul_right most (omega (arith, le)) in
    omega (arith, bound, fewer)
