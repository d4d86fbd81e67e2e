-- Points in the order of keys that differ are the same points only where they are the same list.
use Rattle.std.proofs.Common.{◌≡◌, ℕ, suc, ◌<◌, ◌≤◌, ◌==◌, ◌&&◌, ◌⊎◌, Bool, true, List, [], ◌∷◌, inl, inr, refl, sym, ap, ◌∙◌, subst, arith}
use Rattle.std.specs.Prelude.{IsPermutation}
use Rattle.std.specs.Bool.{Decides}
use Rattle.std.specs.Cmp.Lexicographic.{pointwise}
use Rattle.std.specs.List.{AllByRecursion}
use Rattle.std.specs.List.Sorted.{IsNonDecreasingBy}
use Rattle.std.proofs.lemmas.Bool.{and_parts}
use Rattle.std.proofs.lemmas.Bool.Decides.{Decides-eqb}
use Rattle.std.proofs.lemmas.List.Elements.{All-from_recursion, recursion_from_All}
use Rattle.std.proofs.lemmas.List.Sorted.{All-permutation, IsPermutation-sym, IsPermutation-trans}
use Rattle.std.proofs.lemmas.Slice.Eq.{slice_eq-Decides}
use Rattle.bw_types.specs.declared.point.Point.{Point}
use Rattle.cut_parts.specs.Borders.{MayBeBuilt}
use Rattle.cut_parts.specs.Medians.{AreAscending, KeysDiffer, key_of}
use Rattle.cut_parts.proofs.Apart.{differ_in_each}
use Rattle.cut_parts.proofs.Ordering.{ascending, keys_differ}

-- the point is one of the points
Among : Point → List Point → Type 0
Among p [] = ⊥
Among p (q ∷ qs) = (q ≡ p) ⊎ Among p qs

-- each of the points is one of the others
Within : List Point → List Point → Type 0
Within ps qs = AllByRecursion (λ (p : Point). Among p qs) ps

abbrev first_key : Point → ℕ
first_key p = key_of 0 p

-- each of the points has a greater key
Above : ℕ → List Point → Type 0
Above key ps = AllByRecursion (λ (p : Point). key < first_key p) ps

-- the keys rise
Rise : List Point → Type 0
Rise [] = Unit {0}
Rise (p ∷ ps) = Above (first_key p) ps × Rise ps

rise : (ps : List Point) → AreAscending 0 ps → Rise ps
unfolding Rise Above
rise [] up = tt
rise (p ∷ ps) up = (
  recursion_from_All (λ (q : Point). first_key p < first_key q) ps (λ j d lt. up 0 (suc j) d (omega arith) (omega (arith, lt))),
  rise ps (λ i j d lt few. up (suc i) (suc j) d (omega (arith, lt)) (omega (arith, few))),
)

more : (p q : Point) (qs : List Point) → Among p qs → Among p (q ∷ qs)
unfolding Among
more p q qs a = inr a

within_more : (ps qs : List Point) (q : Point) → Within ps qs → Within ps (q ∷ qs)
unfolding Within
within_more [] qs q w = tt
within_more (p ∷ ps) qs q w = (more p q qs w.0, within_more ps qs q w.1)

within_itself : (ps : List Point) → Within ps ps
unfolding Within Among
within_itself [] = tt
within_itself (p ∷ ps) = (inl refl, within_more ps ps p (within_itself ps))

within_permuted : (ps qs : List Point) → IsPermutation qs ps → Within ps qs
unfolding Within
within_permuted ps qs moved =
    recursion_from_All (λ (p : Point). Among p qs) ps
    (All-permutation (λ (p : Point). Among p qs) qs ps moved (All-from_recursion (λ (p : Point). Among p qs) qs (within_itself qs)))

above_among : (key : ℕ) (qs : List Point) (p : Point) → Above key qs → Among p qs → key < first_key p
unfolding Above Among
above_among key [] p above a = absurd a
above_among key (q ∷ qs) p above (inl same) = subst (λ (r : Point). key < first_key r) same above.0
above_among key (q ∷ qs) p above (inr a) = above_among key qs p above.1 a

-- points with greater keys than the first are among the others
past_first : (ps qs : List Point) (q : Point) → Above (first_key q) ps → Within ps (q ∷ qs) → Within ps qs
unfolding Above Among Within
past_first [] qs q above w = tt
past_first (p ∷ ps) qs q above w = (
  elim w.0 [
    | inl same ↦ absurd (let e : first_key q ≡ first_key p = ap first_key same in let lt : first_key q < first_key p = above.0 in omega (arith, e, lt))
    | inr a ↦ a
  ],
  past_first ps qs q above.1 w.1,
)

same_rising : (ps qs : List Point) → Rise ps → Rise qs → Within ps qs → Within qs ps → ps ≡ qs
unfolding Rise Among Within
same_rising [] [] a b w v = refl
same_rising [] (q ∷ qs) a b w v = absurd v.0
same_rising (p ∷ ps) [] a b w v = absurd w.0
same_rising (p ∷ ps) (q ∷ qs) a b w v =
    let first : q ≡ p = elim w.0 [
      | inl same ↦ same
      | inr later ↦ elim v.0 [
        | inl same ↦ sym same
        | inr other ↦ absurd (let lt = above_among (first_key q) qs p b.0 later in let gt = above_among (first_key p) ps q a.0 other in omega (arith, lt, gt))
      ]
    ] in
    let w1 : Within ps (p ∷ qs) = subst (λ (r : Point). Within ps (r ∷ qs)) first w.1 in
    let above : Above (first_key p) qs = subst (λ (r : Point). Above (first_key r) qs) first b.0 in
    let rest : ps ≡ qs = same_rising ps qs a.1 b.1 (past_first ps qs p a.0 w1) (past_first qs ps p above v.1) in
    ap (λ (rs : List Point). p ∷ rs) rest ∙ ap (λ (r : Point). r ∷ qs) (sym first)

-- Points that share no key, in the order of their first keys, are one list.
same_sorted : (dims : ℕ) (points found sorted own : List Point) → 1 ≤ dims → MayBeBuilt dims points → IsPermutation found points → IsPermutation found sorted
    → IsPermutation points own → IsNonDecreasingBy (key_of 0) sorted → IsNonDecreasingBy (key_of 0) own → sorted ≡ own
same_sorted dims points found sorted own some may same moved put up ups =
    let differ : KeysDiffer 0 points = differ_in_each dims points may.apart 0 (omega (arith, some)) in
    let all : IsPermutation points sorted = IsPermutation-trans points found sorted (IsPermutation-sym found points same) moved in
    let both : IsPermutation sorted own = IsPermutation-trans sorted points own (IsPermutation-sym points sorted all) put in
    same_rising sorted own (rise sorted (ascending 0 sorted (keys_differ 0 points sorted all differ) up)) (rise own (ascending 0 own (keys_differ 0 points own put differ) ups))
    (within_permuted sorted own (IsPermutation-sym sorted own both)) (within_permuted own sorted both)

-- Two lists of points are the same but for their order exactly where they are the same in order.
pub same_decided : (dims : ℕ) (points found sorted own : List Point) (test : Bool) → 1 ≤ dims → MayBeBuilt dims points → IsPermutation found sorted
    → IsPermutation points own → IsNonDecreasingBy (key_of 0) sorted → IsNonDecreasingBy (key_of 0) own → Decides test (sorted ≡ own) → Decides test (IsPermutation found points)
same_decided dims points found sorted own test some may moved put up ups decided = (
  λ yes. IsPermutation-trans found sorted points moved (subst (λ (ps : List Point). IsPermutation ps points) (sym (decided.0 yes)) (IsPermutation-sym points own put)),
  λ same. decided.1 (same_sorted dims points found sorted own some may same moved put up ups),
)

keys_decide : (xs ys : List ℕ) → Decides (pointwise (λ (x y : ℕ). x == y) xs ys) (xs ≡ ys)
keys_decide xs ys = slice_eq-Decides Decides-eqb xs ys (pointwise (λ (x y : ℕ). x == y) xs ys) refl

both : (a b : Bool) → a ≡ true → b ≡ true → (a && b) ≡ true
both a b p q = rw p q

num : (n : ℕ) → (n == n) ≡ true
num n = (Decides-eqb n n).1 refl

abbrev point_test : Point → Point → Bool
point_test p q = pointwise (λ (x y : ℕ). x == y) p.keys q.keys && ((p.version == q.version) && (p.weight == q.weight))

point_decides : (p q : Point) → Decides (point_test p q) (p ≡ q)
point_decides p q = (
  λ yes.
      let a = and_parts _ _ yes in
      let b = and_parts _ _ a.1 in
      let keys : p.keys ≡ q.keys = (keys_decide p.keys q.keys).0 a.0 in
      let version : p.version ≡ q.version = (Decides-eqb p.version q.version).0 b.0 in
      let weight : p.weight ≡ q.weight = (Decides-eqb p.weight q.weight).0 b.1 in
      λ i. record { keys = keys i; version = version i; weight = weight i },
  λ same. subst (λ (r : Point). point_test p r ≡ true) same (both _ _ ((keys_decide p.keys p.keys).1 refl) (both _ _ (num p.version) (num p.weight))),
)

-- what the comparison of lists of points tells
pub points_decide : (ps qs : List Point) (test : Bool) → test ≡ pointwise point_test ps qs → Decides test (ps ≡ qs)
points_decide ps qs test is = slice_eq-Decides point_decides ps qs test is
