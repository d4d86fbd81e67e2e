-- Where the entries of a node that are alive begin: as they ascend, the first and the last of them decide.
use Rattle.std.proofs.Common.{◌≡◌, ℕ, suc, ◌<◌, ◌≤◌, ◌&&◌, ◌||◌, not, Bool, true, false, nat_le, inl, inr, List, [], ◌∷◌, ◌++◌, length, get_or, take, drop, Option, Some, None, refl, sym, ap, ◌∙◌, subst, arith, drop-cons}
use Rattle.std.specs.List.{All, list_all}
use Rattle.std.proofs.lemmas.Bool.{and_right, cases_Bool, leb-true, le-leb, ltb-true, lt-ltb}
use Rattle.std.proofs.lemmas.List.{take-append-drop}
use Rattle.std.proofs.lemmas.List.Elements.{All-cons}
use Rattle.std.proofs.lemmas.List.Folds.{list_all-append}
use Rattle.page_layout.specs.declared.mv_node.MvEntry.{MvEntry}
use Rattle.mv_pages.specs.Alive.{is_alive}
use Rattle.mv_pages.proofs.Order.{Ordered, lows_after, lows_before}
use Rattle.mvsb_tree.specs.Damage.{not_past, not_below, begins_within}
use Rattle.mvsb_tree.specs.Stands.{ends_after}
use Rattle.mvsb_tree.specs.declared.place.Place.{Place}

all_pass : (p : MvEntry → Bool) (es : List MvEntry) → All (λ e. p e ≡ true) es → list_all p es ≡ true
all_pass p [] all = refl
all_pass p (e ∷ es) all = rw (all 0 e (omega arith)) (all_pass p es (λ k d h. all (suc k) d (omega (arith, h))))

-- One entry decides where all others pass if it does.
decided : (p : MvEntry → Bool) (xs : List MvEntry) (e : MvEntry) (ys : List MvEntry) (b : Bool) → p e ≡ b
    → (b ≡ true → All (λ x. p x ≡ true) xs × All (λ y. p y ≡ true) ys) → b ≡ list_all p (xs ++ (e ∷ ys))
decided p xs e ys true here others =
    let o = others refl in
    sym (list_all-append p xs (e ∷ ys) ∙ rw (all_pass p xs o.0, here, all_pass p ys o.1) refl)
decided p xs e ys false here others = sym (list_all-append p xs (e ∷ ys) ∙ ap (λ (b : Bool). list_all p xs && (b && list_all p ys)) here ∙ and_right (list_all p xs) false refl)

-- An entry that is not alive begins nowhere.
pub dead_pass : (v : ℕ) (f : MvEntry) (b : Bool) → is_alive v f ≡ false → (not (is_alive v f) || b) ≡ true
dead_pass v f b dead = rw dead refl

-- One more entry that is not alive, before those after it.
pub one_before : (v : ℕ) (es : List MvEntry) (i : ℕ) (e : MvEntry) → i < length es → ((d : MvEntry) → e ≡ get_or es i d) → is_alive v e ≡ false
    → All (λ f. is_alive v f ≡ false) (drop (suc i) es) → All (λ f. is_alive v f ≡ false) (drop i es)
one_before v es i e within is_e dead after =
    let P : MvEntry → Type 0 = λ f. is_alive v f ≡ false in
    subst (All P) (sym (drop-cons es i e within)) (All-cons P (get_or es i e) (drop (suc i) es) (subst P (is_e e) dead) after)

module _ (place : Place) (es : List MvEntry) (order : Ordered es) (i : ℕ) (e : MvEntry) (within : i < length es) (is_e : (d : MvEntry) → e ≡ get_or es i d) (lives : is_alive place.version e ≡ true) where
  abbrev xs : List MvEntry
  xs = take i es

  abbrev ys : List MvEntry
  ys = drop (suc i) es

  whole : es ≡ xs ++ (e ∷ ys)
  whole = sym (take-append-drop i es) ∙ ap (λ (l : List MvEntry). xs ++ l) (drop-cons es i e within) ∙ ap (λ (f : MvEntry). xs ++ (f ∷ ys)) (sym (is_e e))

  order_here : Ordered (xs ++ (e ∷ ys))
  order_here = subst Ordered whole order

  pass : (b : Bool) (f : MvEntry) → b ≡ true → (not (is_alive place.version f) || b) ≡ true
  pass b f holds = elim (cases_Bool (is_alive place.version f)) [
    | inl alive ↦ rw (alive, holds) refl
    | inr dead ↦ rw dead refl
  ]

  pub first_decides : All (λ f. is_alive place.version f ≡ false) xs → nat_le place.low e.low ≡ list_all (not_below place) es
  first_decides dead =
      let after = lows_after xs e ys order_here in
      decided (not_below place) xs e ys (nat_le place.low e.low) (rw lives refl)
      (λ holds. (
        λ k d h. dead_pass place.version (get_or xs k d) _ (dead k d h),
        λ k d h. pass _ (get_or ys k d) (le-leb place.low (get_or ys k d).low (omega (arith, after k d h, leb-true place.low e.low holds))),
      ))
      ∙ ap (list_all (not_below place)) (sym whole)

  ends_lower : (high : Option ℕ) (low lower : ℕ) → lower ≤ low → ends_after high low ≡ true → ends_after high lower ≡ true
  ends_lower None low lower le holds = refl
  ends_lower (Some high) low lower le holds = lt-ltb lower high (omega (arith, le, ltb-true low high holds))

  pub last_decides : All (λ f. is_alive place.version f ≡ false) ys → ends_after place.high e.low ≡ list_all (not_past place) es
  last_decides dead =
      let before = lows_before xs e ys order_here in
      decided (not_past place) xs e ys (ends_after place.high e.low) (rw lives refl)
      (λ holds. (
        λ k d h. pass _ (get_or xs k d) (ends_lower place.high e.low (get_or xs k d).low (before k d h) holds),
        λ k d h. dead_pass place.version (get_or ys k d) _ (dead k d h),
      ))
      ∙ ap (list_all (not_past place)) (sym whole)

both : (alive from before some all : Bool) → (((not alive || from) && some) && ((not alive || before) && all)) ≡ ((not alive || (from && before)) && (some && all))
both true true before true all = refl
both true true before false all = elim before as (λ b. false ≡ (b && false)) [ true ↦ refl | false ↦ refl ]
both true false before some all = refl
both false from before some all = refl

-- An entry begins within the place where it begins from its start on and before its end.
pub within_both : (place : Place) (es : List MvEntry) → (list_all (not_below place) es && list_all (not_past place) es) ≡ list_all (begins_within place) es
within_both place [] = refl
within_both place (e ∷ es) =
    both (is_alive place.version e) (nat_le place.low e.low) (ends_after place.high e.low) (list_all (not_below place) es) (list_all (not_past place) es)
    ∙ ap (λ (b : Bool). begins_within place e && b) (within_both place es)

pub none_alive : (p : MvEntry → Bool) (v : ℕ) (es : List MvEntry) → All (λ f. is_alive v f ≡ false) es → ((f : MvEntry) → is_alive v f ≡ false → p f ≡ true) → true ≡ list_all p es
none_alive p v es dead passes = sym (all_pass p es (λ k d h. passes (get_or es k d) (dead k d h)))
