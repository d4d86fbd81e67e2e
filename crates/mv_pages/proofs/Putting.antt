-- An entry that is put in.
use Rattle.std.proofs.Common.{◌≡◌, ℕ, ◌+◌, ◌<◌, ◌≤◌, inl, inr, Bool, false, cond, nat_lt, List, [], ◌∷◌, ◌++◌, length, Option, None, refl, sym, ap, ◌∙◌, subst, arith}
use Rattle.std.specs.List.{All, sum_by}
use Rattle.std.proofs.lemmas.Bool.{cases_Bool, ltb-true, ltb-false, le-ltb}
use Rattle.std.proofs.lemmas.List.Elements.{All-cons, All-nil, All-head, All-tail}
use Rattle.std.proofs.lemmas.List.Sums.{sum_by-cons}
use Rattle.page_layout.specs.declared.mv_node.MvEntry.{MvEntry}
use Rattle.mv_pages.specs.Alive.{or_later, child_reached, path_child}
use Rattle.mv_pages.specs.Edits.{put_in}
use Rattle.mv_pages.proofs.Order.{Before, before_low, before_le, Ordered, All-map}
use Rattle.mv_pages.proofs.Paths.{or_later-none}

pub put_sum : (f : MvEntry → ℕ) (x : MvEntry) (es : List MvEntry) → sum_by f (put_in x es) ≡ sum_by f es + f x
put_sum f x [] = sum_by-cons f x [] ∙ (omega arith)
put_sum f x (e ∷ es) = elim (cases_Bool (nat_lt x.low e.low)) [
  | inl above ↦ rw above (let s : sum_by f (x ∷ (e ∷ es)) ≡ sum_by f (e ∷ es) + f x = omega (arith, sum_by-cons f x (e ∷ es)) in s)
  | inr within ↦
      let rest = put_sum f x es in
      rw within (let s : sum_by f (e ∷ put_in x es) ≡ sum_by f (e ∷ es) + f x = omega (arith, sum_by-cons f e (put_in x es), sum_by-cons f e es, rest) in s)
]

pub put_length : (x : MvEntry) (es : List MvEntry) → length (put_in x es) ≡ length es + 1
put_length x [] = refl
put_length x (e ∷ es) = elim (cases_Bool (nat_lt x.low e.low)) [
  | inl above ↦ rw above (let s : length (x ∷ (e ∷ es)) ≡ length (e ∷ es) + 1 = omega arith in s)
  | inr within ↦ rw within (let s : length (e ∷ put_in x es) ≡ length (e ∷ es) + 1 = omega (arith, put_length x es) in s)
]

pub put_all : (P : MvEntry → Type 0) (x : MvEntry) (es : List MvEntry) → All P es → P x → All P (put_in x es)
put_all P x [] all p = All-cons P x [] p all
put_all P x (e ∷ es) all p = elim (cases_Bool (nat_lt x.low e.low)) [
  | inl above ↦ subst (λ (b : Bool). All P (cond b (x ∷ (e ∷ es)) (e ∷ put_in x es))) (sym above) (All-cons P x (e ∷ es) p all)
  | inr within ↦ subst (λ (b : Bool). All P (cond b (x ∷ (e ∷ es)) (e ∷ put_in x es))) (sym within)
      (All-cons P e (put_in x es) (All-head P e es all) (put_all P x es (All-tail P e es all) p))
]

-- The order is kept where each entry that begins at or below the new one stands before it.
pub put_ordered : (x : MvEntry) (es : List MvEntry) → Ordered es → All (λ e. e.low ≤ x.low → Before e x) es → Ordered (put_in x es)
put_ordered x [] o fits = (All-nil (Before x), tt)
put_ordered x (e ∷ es) o fits = elim (cases_Bool (nat_lt x.low e.low)) [
  | inl above ↦
      let less : x.low < e.low = ltb-true x.low e.low above in
      let later : All (Before x) es = All-map (Before e) (Before x) es (λ f h. before_low x f (omega (arith, less, before_le e f h))) o.0 in
      subst (λ (b : Bool). Ordered (cond b (x ∷ (e ∷ es)) (e ∷ put_in x es))) (sym above) (All-cons (Before x) e es (before_low x e less) later, o)
  | inr within ↦
      let here : Before e x = All-head (λ (e : MvEntry). e.low ≤ x.low → Before e x) e es fits (ltb-false x.low e.low within) in
      let rest = put_ordered x es o.1 (All-tail (λ (e : MvEntry). e.low ≤ x.low → Before e x) e es fits) in
      subst (λ (b : Bool). Ordered (cond b (x ∷ (e ∷ es)) (e ∷ put_in x es))) (sym within) (put_all (Before e) x es o.0 here, rest)
]

pub put_past : (x : MvEntry) (es fs : List MvEntry) → All (λ e. e.low ≤ x.low) es → put_in x (es ++ fs) ≡ es ++ put_in x fs
put_past x [] fs low = refl
put_past x (e ∷ es) fs low =
    let within : nat_lt x.low e.low ≡ false = le-ltb x.low e.low (All-head (λ (e : MvEntry). e.low ≤ x.low) e es low) in
    rw within (ap (λ (l : List MvEntry). e ∷ l) (put_past x es fs (All-tail (λ (e : MvEntry). e.low ≤ x.low) e es low)))

-- An entry that does not reach leaves the path.
pub put_path-dead : (q v : ℕ) (x : MvEntry) (es : List MvEntry) → child_reached q v x ≡ None → path_child (put_in x es) q v ≡ path_child es q v
put_path-dead q v x [] none = none
put_path-dead q v x (e ∷ es) none = elim (cases_Bool (nat_lt x.low e.low)) [
  | inl above ↦ rw above (ap (λ (o : Option ℕ). or_later o (path_child (e ∷ es) q v)) none ∙ or_later-none (path_child (e ∷ es) q v))
  | inr within ↦ rw within (ap (or_later (child_reached q v e)) (put_path-dead q v x es none))
]

-- An entry stands in the path before those of a greater low, where no other of its low or less does.
pub put_path : (q v : ℕ) (x : MvEntry) (es : List MvEntry) → All (λ e. e.low ≤ x.low → child_reached q v e ≡ None) es
    → path_child (put_in x es) q v ≡ or_later (child_reached q v x) (path_child es q v)
put_path q v x [] none = refl
put_path q v x (e ∷ es) none = elim (cases_Bool (nat_lt x.low e.low)) [
  | inl above ↦ rw above refl
  | inr within ↦
      let here : child_reached q v e ≡ None = All-head (λ (e : MvEntry). e.low ≤ x.low → child_reached q v e ≡ None) e es none (ltb-false x.low e.low within) in
      let rest = put_path q v x es (All-tail (λ (e : MvEntry). e.low ≤ x.low → child_reached q v e ≡ None) e es none) in
      let new : path_child (e ∷ put_in x es) q v ≡ or_later (child_reached q v x) (path_child es q v) =
      ap (λ (o : Option ℕ). or_later o (path_child (put_in x es) q v)) here ∙ or_later-none (path_child (put_in x es) q v) ∙ rest in
      let old : path_child (e ∷ es) q v ≡ path_child es q v = ap (λ (o : Option ℕ). or_later o (path_child es q v)) here ∙ or_later-none (path_child es q v) in
      rw within (new ∙ ap (or_later (child_reached q v x)) (sym old))
]
