-- The intervals among lows, where a low is put in and where the lows are cut in two.
use Rattle.std.proofs.Common.{◌≡◌, ℕ, ◌<◌, ◌≤◌, inl, inr, true, false, Bool, IsTrue, nat_lt, nat_le, List, [], ◌∷◌, ◌++◌, get_or, Option, Some, None, cond, refl, sym, ap, ◌∙◌, subst, arith}
use Rattle.std.specs.List.{All}
use Rattle.std.specs.Option.{option_map_or}
use Rattle.std.proofs.lemmas.Bool.{and_parts, cases_Bool, cases_lt, le-leb, lt-leb, lt-ltb, le-ltb, ltb-true}
use Rattle.std.proofs.lemmas.List.Elements.{All-cons, All-head, All-tail}
use Rattle.mv_pages.specs.Alive.{or_later}
use Rattle.mv_pages.specs.Lows.{ascend, ascend_from, follows, greater_low, lesser_low, low_above, low_at, with_low}
use Rattle.mvsb_tree.specs.Stands.{ends_after, first_of, inner_high, inner_low}
use Rattle.mvsb_tree.proofs.Intervals.{passed_low, reached_low}
use Rattle.mvsb_tree.proofs.Nodes.{some_same}
use Rattle.mvsb_tree.proofs.Sound.{ascend_above}
use Rattle.mvsb_tree.proofs.Ways.{low_at_holds, low_at_some}

no_some : (a : ℕ) → ◌≡◌ {A = Option ℕ} None (Some a) → ⊥
no_some a e = cc

-- Where all lows are above a key, none is at it.
pub none_at : (lows : List ℕ) (key : ℕ) → All (λ l. key < l) lows → low_at lows key ≡ None
none_at [] key all = refl
none_at (l ∷ lows) key all =
    let over : nat_le l key ≡ false = lt-leb l key (All-head (λ (l : ℕ). key < l) l lows all) in
    ap (λ (b : Bool). or_later (cond b (Some l) None) (low_at lows key)) over ∙ ap (λ (o : Option ℕ). or_later None o) (none_at lows key (All-tail (λ (l : ℕ). key < l) l lows all))

-- Where all lows are at or below a key, none is above it.
pub none_above : (lows : List ℕ) (key : ℕ) → All (λ l. l ≤ key) lows → low_above lows key ≡ None
none_above [] key all = refl
none_above (l ∷ lows) key all =
    let under : nat_lt key l ≡ false = le-ltb key l (All-head (λ (l : ℕ). l ≤ key) l lows all) in
    ap (λ (b : Bool). cond b (Some l) (low_above lows key)) under ∙ none_above lows key (All-tail (λ (l : ℕ). l ≤ key) l lows all)

all_over : (lows : List ℕ) (first q : ℕ) → q < first → All (λ l. first ≤ l) lows → All (λ l. q < l) lows
all_over lows first q less all = λ k d h. (let le : first ≤ get_or lows k d = all k d h in omega (arith, le, less))

-- Keys of one interval have its low and the next one.
pub same_interval : (last : Option ℕ) (lows : List ℕ) (key q a : ℕ) → ascend_from last lows ≡ true → low_at lows key ≡ Some a → a ≤ q → IsTrue (ends_after (low_above lows key) q)
    → (low_at lows q ≡ Some a) × (low_above lows q ≡ low_above lows key)
same_interval last [] key q a up at le before = absurd (no_some a at)
same_interval last (l ∷ lows) key q a up at le before =
    let parts = and_parts (follows last l) (ascend_from (Some l) lows) up in
    let above : All (λ x. l ≤ x) lows = ascend_above l lows parts.1 in
    elim (cases_lt key l) [
      | inl less ↦
          let none : low_at (l ∷ lows) key ≡ None = none_at (l ∷ lows) key (All-cons (λ (x : ℕ). key < x) l lows less (all_over lows l key less above)) in
          absurd (no_some a (sym none ∙ at))
      | inr here ↦
          let under : nat_lt key l ≡ false = le-ltb key l here in
          let next : low_above (l ∷ lows) key ≡ low_above lows key = ap (λ (b : Bool). cond b (Some l) (low_above lows key)) under in
          let before1 : IsTrue (ends_after (low_above lows key) q) = subst (λ (o : Option ℕ). IsTrue (ends_after o q)) next before in
          let l_at : nat_le l key ≡ true = le-leb l key here in
          let at1 : or_later (Some l) (low_at lows key) ≡ Some a = sym (ap (λ (b : Bool). or_later (cond b (Some l) None) (low_at lows key)) l_at) ∙ at in
          go (λ e. same_interval (Some l) lows key q a parts.1 e le before1) (low_at lows key) refl at1 parts.1 above next before1
    ]
  where
    finish : l ≤ q → (o : Option ℕ) → low_at lows q ≡ o → low_above lows q ≡ low_above lows key → or_later (Some l) o ≡ Some a → low_above (l ∷ lows) key ≡ low_above lows key
        → (low_at (l ∷ lows) q ≡ Some a) × (low_above (l ∷ lows) q ≡ low_above (l ∷ lows) key)
    finish lq o is same to next =
        let one : nat_le l q ≡ true = le-leb l q lq in
        let two : nat_lt q l ≡ false = le-ltb q l lq in (
          ap (λ (b : Bool). or_later (cond b (Some l) None) (low_at lows q)) one ∙ ap (λ (p : Option ℕ). or_later (Some l) p) is ∙ to,
          ap (λ (b : Bool). cond b (Some l) (low_above lows q)) two ∙ same ∙ sym next,
        )

    rest_over : (ls : List ℕ) (before_l : Option ℕ) → ascend_from before_l ls ≡ true → low_at ls key ≡ None → IsTrue (ends_after (low_above ls key) q) → (low_at ls q ≡ None) × (low_above ls q ≡ low_above ls key)
    rest_over [] before_l up none ends = (refl, refl)
    rest_over (n ∷ ls) before_l up none ends =
        let parts = and_parts (follows before_l n) (ascend_from (Some n) ls) up in
        let above = ascend_above n ls parts.1 in
        elim (cases_lt key n) [
          | inl less ↦
              let one : nat_lt key n ≡ true = lt-ltb key n less in
              let first : low_above (n ∷ ls) key ≡ Some n = ap (λ (b : Bool). cond b (Some n) (low_above ls key)) one in
              let qn : q < n = ltb-true q n (subst (λ (o : Option ℕ). IsTrue (ends_after o q)) first ends) in
              let two : nat_lt q n ≡ true = lt-ltb q n qn in (
                none_at (n ∷ ls) q (All-cons (λ (x : ℕ). q < x) n ls qn (all_over ls n q qn above)),
                ap (λ (b : Bool). cond b (Some n) (low_above ls q)) two ∙ sym first,
              )
          | inr le ↦
              let one : nat_le n key ≡ true = le-leb n key le in
              let is : or_later (Some n) (low_at ls key) ≡ None = sym (ap (λ (b : Bool). or_later (cond b (Some n) None) (low_at ls key)) one) ∙ none in
              absurd (later_some (low_at ls key) is)
        ]
      where
        later_some : (o : Option ℕ) → or_later (Some n) o ≡ None → ⊥
        later_some None e = no_some n (sym e)
        later_some (Some m) e = no_some m (sym e)

    go : (low_at lows key ≡ Some a → (low_at lows q ≡ Some a) × (low_above lows q ≡ low_above lows key)) → (o : Option ℕ) → low_at lows key ≡ o → or_later (Some l) o ≡ Some a → ascend_from (Some l) lows ≡ true → All (λ x. l ≤ x) lows → low_above (l ∷ lows) key ≡ low_above lows key
        → IsTrue (ends_after (low_above lows key) q) → (low_at (l ∷ lows) q ≡ Some a) × (low_above (l ∷ lows) q ≡ low_above (l ∷ lows) key)
    go again None is to up1 above next ends =
        let l_is : l ≡ a = some_same l a to in
        let d = rest_over lows (Some l) up1 is ends in
        finish (omega (arith, l_is, le)) None d.0 d.1 to next
    go again (Some m) is to up1 above next ends =
        let m_is : m ≡ a = some_same m a to in
        let d = again (is ∙ to) in
        let la : l ≤ a = low_at_holds (λ (x : ℕ). l ≤ x) lows key a above (is ∙ to) in
        finish (omega (arith, la, le)) (Some a) d.0 d.1 refl next

-- A low that is put in inside an interval.

module _ (lows : List ℕ) (c : ℕ) (at : (q : ℕ) → low_at (with_low c lows) q ≡ greater_low (low_at (c ∷ []) q) (low_at lows q))
    (above : (q : ℕ) → low_above (with_low c lows) q ≡ lesser_low (low_above (c ∷ []) q) (low_above lows q)) where
  at_one : (q : ℕ) → c ≤ q → low_at (c ∷ []) q ≡ Some c
  at_one q le = let b : nat_le c q ≡ true = le-leb c q le in ap (λ (x : Bool). or_later (cond x (Some c) None) None) b

  at_none : (q : ℕ) → q < c → low_at (c ∷ []) q ≡ None
  at_none q less = let b : nat_le c q ≡ false = lt-leb c q less in ap (λ (x : Bool). or_later (cond x (Some c) None) None) b

  over_one : (q : ℕ) → q < c → low_above (c ∷ []) q ≡ Some c
  over_one q less = let b : nat_lt q c ≡ true = lt-ltb q c less in ap (λ (x : Bool). cond x (Some c) None) b

  over_none : (q : ℕ) → c ≤ q → low_above (c ∷ []) q ≡ None
  over_none q le = let b : nat_lt q c ≡ false = le-ltb q c le in ap (λ (x : Bool). cond x (Some c) None) b

  -- Inside it, it is the low from there on, and the next one before.
  pub put_low_at : (q a : ℕ) → low_at lows q ≡ Some a → a < c → low_at (with_low c lows) q ≡ Some (cond (nat_le c q) c a)
  put_low_at q a is less = elim (cases_lt q c) [
    | inl under ↦
        let b : nat_le c q ≡ false = lt-leb c q under in
        at q ∙ ap (λ (o : Option ℕ). greater_low o (low_at lows q)) (at_none q under) ∙ is ∙ ap (λ (x : Bool). Some (cond x c a)) (sym b)
    | inr over ↦
        let b : nat_le c q ≡ true = le-leb c q over in
        let d : nat_lt c a ≡ false = le-ltb c a (omega (arith, less)) in
        at q ∙ ap (λ (o : Option ℕ). greater_low o (low_at lows q)) (at_one q over) ∙ ap (λ (o : Option ℕ). greater_low (Some c) o) is
        ∙ ap (λ (x : Bool). cond x (Some a) (Some c)) d ∙ ap (λ (x : Bool). Some (cond x c a)) (sym b)
  ]

  pub put_low_above : (q : ℕ) (high : Option ℕ) → IsTrue (ends_after (low_above lows q) c) → or_later high (low_above (with_low c lows) q) ≡ cond (nat_le c q) (or_later high (low_above lows q)) (Some c)
  put_low_above q high before = elim (cases_lt q c) [
    | inl under ↦
        let b : nat_le c q ≡ false = lt-leb c q under in
        ap (λ (o : Option ℕ). or_later high o) (above q ∙ ap (λ (o : Option ℕ). lesser_low o (low_above lows q)) (over_one q under) ∙ least (low_above lows q) before)
        ∙ ap (λ (x : Bool). cond x (or_later high (low_above lows q)) (Some c)) (sym b)
    | inr over ↦
        let b : nat_le c q ≡ true = le-leb c q over in
        ap (λ (o : Option ℕ). or_later high o) (above q ∙ ap (λ (o : Option ℕ). lesser_low o (low_above lows q)) (over_none q over))
        ∙ ap (λ (x : Bool). cond x (or_later high (low_above lows q)) (Some c)) (sym b)
  ]
    where
      least : (o : Option ℕ) → IsTrue (ends_after o c) → lesser_low (Some c) o ≡ Some c
      least None h = refl
      least (Some n) h = ap (λ (x : Bool). cond x (Some c) (Some n)) h

  -- Outside it nothing changes.
  pub put_elsewhere : (key q a m : ℕ) → IsTrue (ascend lows) → low_at lows key ≡ Some a → a < c → IsTrue (ends_after (low_above lows key) c) → low_at lows q ≡ Some m
      → (a ≤ q → IsTrue (ends_after (low_above lows key) q) → ⊥) → (low_at (with_low c lows) q ≡ low_at lows q) × (low_above (with_low c lows) q ≡ low_above lows q)
  put_elsewhere key q a m up at_key less before at_q out = elim (cases_lt q a) [
    | inl low_q ↦
        let qc : q < c = omega (arith, low_q, less) in
        let d = passed_low None lows key a q up at_key low_q in
        let e : nat_lt c d.0 ≡ false = le-ltb c d.0 (omega (arith, d.2, less)) in (
          at q ∙ ap (λ (o : Option ℕ). greater_low o (low_at lows q)) (at_none q qc),
          above q ∙ ap (λ (o : Option ℕ). lesser_low o (low_above lows q)) (over_one q qc) ∙ ap (λ (o : Option ℕ). lesser_low (Some c) o) d.1
              ∙ ap (λ (x : Bool). cond x (Some c) (Some d.0)) e ∙ sym d.1,
        )
    | inr le ↦ beyond (low_above lows key) refl le
  ]
    where
      beyond : (o : Option ℕ) → o ≡ low_above lows key → a ≤ q → (low_at (with_low c lows) q ≡ low_at lows q) × (low_above (with_low c lows) q ≡ low_above lows q)
      beyond None e le = absurd (out le (subst (λ (o : Option ℕ). IsTrue (ends_after o q)) e refl))
      beyond (Some n) e le = elim (cases_lt q n) [
        | inl inside ↦ absurd (out le (subst (λ (o : Option ℕ). IsTrue (ends_after o q)) e (lt-ltb q n inside)))
        | inr past ↦
            let cn : c < n = ltb-true c n (subst (λ (o : Option ℕ). IsTrue (ends_after o c)) (sym e) before) in
            let d = reached_low None lows key n q up (sym e) past in
            let f : nat_lt c d.0 ≡ true = lt-ltb c d.0 (omega (arith, cn, d.2)) in (
              at q ∙ ap (λ (o : Option ℕ). greater_low o (low_at lows q)) (at_one q (omega (arith, cn, past))) ∙ ap (λ (o : Option ℕ). greater_low (Some c) o) d.1
                  ∙ ap (λ (x : Bool). cond x (Some d.0) (Some c)) f ∙ sym d.1,
              above q ∙ ap (λ (o : Option ℕ). lesser_low o (low_above lows q)) (over_none q (omega (arith, cn, past))),
            )
      ]

-- Lows that are cut in two lists.

or_later_assoc : (a b c : Option ℕ) → or_later (or_later a b) c ≡ or_later a (or_later b c)
or_later_assoc a b None = refl
or_later_assoc a b (Some x) = refl

or_later_none : (a : Option ℕ) → or_later None a ≡ a
or_later_none None = refl
or_later_none (Some x) = refl

low_at_append : (xs ys : List ℕ) (q : ℕ) → low_at (xs ++ ys) q ≡ or_later (low_at xs q) (low_at ys q)
low_at_append [] ys q = sym (or_later_none (low_at ys q))
low_at_append (x ∷ xs) ys q = ap (or_later (cond (nat_le x q) (Some x) None)) (low_at_append xs ys q) ∙ sym (or_later_assoc (cond (nat_le x q) (Some x) None) (low_at xs q) (low_at ys q))

abbrev or_first : Option ℕ → Option ℕ → Option ℕ
or_first None other = other
or_first (Some x) other = Some x

low_above_append : (xs ys : List ℕ) (q : ℕ) → low_above (xs ++ ys) q ≡ or_first (low_above xs q) (low_above ys q)
low_above_append [] ys q = refl
low_above_append (x ∷ xs) ys q = elim (cases_Bool (nat_lt q x)) [
  | inl over ↦
      ap (λ (b : Bool). cond b (Some x) (low_above (xs ++ ys) q)) over ∙ sym (ap (λ (b : Bool). or_first (cond b (Some x) (low_above xs q)) (low_above ys q)) over)
  | inr under ↦
      ap (λ (b : Bool). cond b (Some x) (low_above (xs ++ ys) q)) under ∙ low_above_append xs ys q ∙ sym (ap (λ (b : Bool). or_first (cond b (Some x) (low_above xs q)) (low_above ys q)) under)
]

-- Below the cut a key belongs to the first lows, and from it on to the others.
pub first_interval : (xs ys : List ℕ) (low cut q : ℕ) (high : Option ℕ) → first_of ys ≡ Some cut → All (λ l. cut ≤ l) ys → q < cut
    → (inner_low low xs q ≡ inner_low low (xs ++ ys) q) × (inner_high (Some cut) xs q ≡ inner_high high (xs ++ ys) q)
first_interval xs [] low cut q high first all less = absurd (no_some cut first)
first_interval xs (y ∷ ys) low cut q high first all less =
    let is : y ≡ cut = some_same y cut first in
    let over : nat_lt q y ≡ true = lt-ltb q y (omega (arith, is, less)) in
    let none : low_at (y ∷ ys) q ≡ None = none_at (y ∷ ys) q (all_over (y ∷ ys) cut q less all) in
    let next : low_above (y ∷ ys) q ≡ Some cut = ap (λ (b : Bool). cond b (Some y) (low_above ys q)) over ∙ ap (λ (n : ℕ). Some n) is in (
      sym (ap (λ (o : Option ℕ). option_map_or (λ l. l) o low) (low_at_append xs (y ∷ ys) q ∙ ap (λ (o : Option ℕ). or_later (low_at xs q) o) none)),
      pick (low_above xs q) ∙ sym (ap (λ (o : Option ℕ). or_later high o) (low_above_append xs (y ∷ ys) q ∙ ap (λ (o : Option ℕ). or_first (low_above xs q) o) next)),
    )
  where
    pick : (o : Option ℕ) → or_later (Some cut) o ≡ or_later high (or_first o (Some cut))
    pick None = refl
    pick (Some n) = refl

pub second_interval : (xs ys : List ℕ) (low cut q : ℕ) (high : Option ℕ) → first_of ys ≡ Some cut → All (λ l. l < cut) xs → cut ≤ q
    → (inner_low cut ys q ≡ inner_low low (xs ++ ys) q) × (inner_high high ys q ≡ inner_high high (xs ++ ys) q)
second_interval xs ys low cut q high first all le =
    let none : low_above xs q ≡ None = none_above xs q (λ k d h. (let less : get_or xs k d < cut = all k d h in omega (arith, less, le))) in
    let some = low_at_some ys q cut first le in (
      ap (λ (o : Option ℕ). option_map_or (λ l. l) o cut) some.1
          ∙ sym (ap (λ (o : Option ℕ). option_map_or (λ l. l) o low) (low_at_append xs ys q ∙ ap (λ (o : Option ℕ). or_later (low_at xs q) o) some.1)),
      sym (ap (λ (o : Option ℕ). or_later high o) (low_above_append xs ys q ∙ ap (λ (o : Option ℕ). or_first o (low_above ys q)) none)),
    )
