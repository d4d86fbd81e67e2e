-- Lists of pieces that a walk has still to go to.
use Rattle.std.proofs.Common.{◌≡◌, ℕ, Bool, true, false, ◌+◌, ◌<◌, ◌≤◌, ◌&&◌, ◌++◌, List, [], ◌∷◌, length, take, nat_le, nat_lt, cond, Option, get_or, refl, sym, ◌∙◌, ap, subst, arith, inl, inr, IsPermutation}
use Rattle.std.specs.List.{All, sum_by}
use Rattle.std.proofs.lemmas.Bool.{cases_lt, le-leb, le-ltb, lt-leb, lt-ltb}
use Rattle.std.proofs.lemmas.List.{take_more}
use Rattle.std.proofs.lemmas.List.Elements.{All-append, All-head, All-more, All-nil, All-cons, All-tail}
use Rattle.std.proofs.lemmas.List.Sums.{sum_by-append, sum_by-cons, sum_by_more}
use Rattle.std.proofs.lemmas.List.Sorted.{All-permutation, IsPermutation-sym, sum_by-IsPermutation}
use Rattle.ports.specs.Pages.{PageMap}
use Rattle.mvsb_tree.specs.Stands.{StandsOnWay, ends_after}
use Rattle.mvsb_tree.specs.Steps.{total_below}
use Rattle.mvsb_tree.specs.Ways.{IsKeyIn}
use Rattle.key_check.specs.Levels.{AreWhole, Follows, IsWhole, PiecesStand, Pushes, StandsThere, pieces_total, total_there}
use Rattle.key_check.specs.declared.leveled.Leveled.{Leveled}
use Rattle.key_check.specs.declared.piece.Piece.{Piece}

-- Both parts of an appended list.
pub all_parts : {X : Type 0} (P : X → Type 0) (xs ys : List X) → All P (xs ++ ys) → All P xs × All P ys
all_parts P [] ys all = (All-nil P, all)
all_parts P (x ∷ xs) ys all =
    let rest = all_parts P xs ys (All-tail P x (xs ++ ys) all) in
    (All-cons P x xs (All-head P x (xs ++ ys) all) rest.0, rest.1)

pub total_one : (m : PageMap) (old : List Leveled) (l : Leveled) (key v : ℕ) → pieces_total m (old ++ l ∷ []) key v ≡ pieces_total m old key v + total_there m l key v
total_one m old l key v =
    let f : Leveled → ℕ = λ x. total_there m x key v in
    let a : sum_by f (old ++ l ∷ []) ≡ sum_by f old + sum_by f (l ∷ []) = sum_by-append f old (l ∷ []) in
    let b : sum_by f (l ∷ []) ≡ f l + sum_by f [] = sum_by-cons f l [] in
    let c : sum_by f [] ≡ 0 = refl in
    omega (arith, a, b, c)

-- One piece more.
pub pushes_one : (m : PageMap) (nodes : List ℕ) (old new : List Leveled) (l : Leveled) → new ≡ old ++ l ∷ [] → Pushes (StandsThere m nodes l) (total_there m l) m nodes old new
pushes_one m nodes old new l is = record {
  parts = λ s.
      let p = all_parts (StandsThere m nodes) old (l ∷ []) (subst (PiecesStand m nodes) is s) in
      (p.0, All-head (StandsThere m nodes) l [] p.1);
  whole = λ s one. subst (PiecesStand m nodes) (sym is) (All-append (StandsThere m nodes) old (l ∷ []) s (All-cons (StandsThere m nodes) l [] one (All-nil (StandsThere m nodes))));
  totals = λ key v. ap (λ (xs : List Leveled). pieces_total m xs key v) is ∙ total_one m old l key v;
}

pub whole_one : (level : ℕ) (old new : List Leveled) (l : Leveled) → new ≡ old ++ l ∷ [] → AreWhole level old → IsWhole level l → AreWhole level new
whole_one level old new l is all one = subst (AreWhole level) (sym is) (All-append (IsWhole level) old (l ∷ []) all (All-cons (IsWhole level) l [] one (All-nil (IsWhole level))))

pub whole_left : (level : ℕ) (old new : List Leveled) (l : Leveled) → new ≡ old ++ l ∷ [] → AreWhole level new → AreWhole level old × IsWhole level l
whole_left level old new l is all =
    let p = all_parts (IsWhole level) old (l ∷ []) (subst (AreWhole level) is all) in
    (p.0, All-head (IsWhole level) l [] p.1)

pub pushes_none : (A : Type 0) (f : ℕ → ℕ → ℕ) (m : PageMap) (nodes : List ℕ) (old : List Leveled) → A → ((key v : ℕ) → f key v ≡ 0) → Pushes A f m nodes old old
pushes_none A f m nodes old a none = record {
  parts = λ s. (s, a);
  whole = λ s _. s;
  totals = λ key v. (let n = none key v in omega (arith, n));
}

four : (old mid new one more both : ℕ) → mid ≡ old + one → new ≡ mid + more → both ≡ one + more → new ≡ old + both
four old mid new one more both a b c = omega (arith, a, b, c)

-- One after the other.
pub pushes_both : (A B C : Type 0) (f g h : ℕ → ℕ → ℕ) (m : PageMap) (nodes : List ℕ) (old mid new : List Leveled) → Pushes A f m nodes old mid → Pushes B g m nodes mid new
    → (A → B → C) → (C → A × B) → ((key v : ℕ) → h key v ≡ f key v + g key v) → Pushes C h m nodes old new
pushes_both A B C f g h m nodes old mid new p q join split sum = record {
  parts = λ s.
      let b = q.parts s in
      let a = p.parts b.0 in
      (a.0, join a.1 b.1);
  whole = λ s c. (let ab = split c in q.whole (p.whole s ab.0) ab.1);
  totals = λ key v. four (pieces_total m old key v) (pieces_total m mid key v) (pieces_total m new key v) (f key v) (g key v) (h key v) (p.totals key v) (q.totals key v) (sum key v);
}

-- What holds of the first i + 1 holds of the first i and of the next one.
pub less : {X : Type 0} (P : X → Type 0) (xs : List X) (i : ℕ) (d : X) → i < length xs → All P (take (i + 1) xs) → All P (take i xs) × P (get_or xs i d)
less P xs i d h all =
    let p = all_parts P (take i xs) (get_or xs i d ∷ []) (subst (All P) (take_more xs i d h) all) in
    (p.0, All-head P (get_or xs i d) [] p.1)

-- The pieces so far and one more.
pub so_far : (m : PageMap) (nodes : List ℕ) (pieces old mid new : List Leveled) (i : ℕ) (d : Leveled) → i < length pieces
    → Pushes (PiecesStand m nodes (take i pieces)) (pieces_total m (take i pieces)) m nodes old mid → Pushes (StandsThere m nodes (get_or pieces i d)) (total_there m (get_or pieces i d)) m nodes mid new
    → Pushes (PiecesStand m nodes (take (i + 1) pieces)) (pieces_total m (take (i + 1) pieces)) m nodes old new
so_far m nodes pieces old mid new i d h p q =
    pushes_both (PiecesStand m nodes (take i pieces)) (StandsThere m nodes (get_or pieces i d)) (PiecesStand m nodes (take (i + 1) pieces))
    (pieces_total m (take i pieces)) (total_there m (get_or pieces i d)) (pieces_total m (take (i + 1) pieces)) m nodes old mid new p q
    (All-more (StandsThere m nodes) pieces i d h) (less (StandsThere m nodes) pieces i d h) (λ key v. sum_by_more (λ l. total_there m l key v) pieces i d h)

-- The pieces in another order.
pub in_order : (m : PageMap) (nodes : List ℕ) (pieces moved new : List Leveled) → IsPermutation pieces moved
    → Pushes (PiecesStand m nodes moved) (pieces_total m moved) m nodes [] new → Pushes (PiecesStand m nodes pieces) (pieces_total m pieces) m nodes [] new
in_order m nodes pieces moved new p q = record {
  parts = λ s. (let b = q.parts s in (b.0, All-permutation (StandsThere m nodes) moved pieces (IsPermutation-sym pieces moved p) b.1));
  whole = λ s all. q.whole s (All-permutation (StandsThere m nodes) pieces moved p all);
  totals = λ key v. q.totals key v ∙ ap (λ (n : ℕ). pieces_total m [] key v + n) (sum_by-IsPermutation (λ l. total_there m l key v) pieces moved p);
}

sums : (a b c d : ℕ) → a ≡ b → c ≡ d → b + d ≡ a + c
sums a b c d e f = omega (arith, e, f)

three : (a b c d : ℕ) → a ≡ d → b ≡ d → c ≡ 0 → a ≡ b + c
three a b c d p q r = omega (arith, p, q, r)

three_last : (a b c d : ℕ) → a ≡ d → b ≡ 0 → c ≡ d → a ≡ b + c
three_last a b c d p q r = omega (arith, p, q, r)

pub two_parts : (from mid to v : ℕ) (k : Bool) (n : ℕ) → from ≤ mid → mid ≤ to
    → cond ((nat_le from v && nat_lt v to) && k) n 0 ≡ cond ((nat_le from v && nat_lt v mid) && k) n 0 + cond ((nat_le mid v && nat_lt v to) && k) n 0
two_parts from mid to v k n a b = elim (cases_lt v mid) [
  | inl before ↦
      let x : nat_lt v to ≡ true = lt-ltb v to (omega (arith, before, b)) in
      let y : nat_lt v mid ≡ true = lt-ltb v mid before in
      let z : nat_le mid v ≡ false = lt-leb mid v before in
      let p : cond ((nat_le from v && nat_lt v to) && k) n 0 ≡ cond ((nat_le from v && true) && k) n 0 = ap (λ (t : Bool). cond ((nat_le from v && t) && k) n 0) x in
      let q : cond ((nat_le from v && nat_lt v mid) && k) n 0 ≡ cond ((nat_le from v && true) && k) n 0 = ap (λ (t : Bool). cond ((nat_le from v && t) && k) n 0) y in
      let r : cond ((nat_le mid v && nat_lt v to) && k) n 0 ≡ 0 = ap (λ (t : Bool). cond ((t && nat_lt v to) && k) n 0) z in
      three _ _ _ _ p q r
  | inr after ↦
      let x : nat_le from v ≡ true = le-leb from v (omega (arith, after, a)) in
      let y : nat_lt v mid ≡ false = le-ltb v mid after in
      let z : nat_le mid v ≡ true = le-leb mid v after in
      let p : cond ((nat_le from v && nat_lt v to) && k) n 0 ≡ cond (nat_lt v to && k) n 0 = ap (λ (t : Bool). cond ((t && nat_lt v to) && k) n 0) x in
      let q : cond ((nat_le from v && nat_lt v mid) && k) n 0 ≡ 0 = ap (λ (t : Bool). cond ((t && nat_lt v mid) && k) n 0) x ∙ ap (λ (t : Bool). cond (t && k) n 0) y in
      let r : cond ((nat_le mid v && nat_lt v to) && k) n 0 ≡ cond (nat_lt v to && k) n 0 = ap (λ (t : Bool). cond ((t && nat_lt v to) && k) n 0) z in
      three_last _ _ _ _ p q r
]

-- Two pieces of which the second follows the first are one.

abbrev longer : Leveled → Leveled → Leveled
longer a b = record { level = b.level; piece = record { page = a.piece.page; from = a.piece.from; to = b.piece.to; low = a.piece.low; high = a.piece.high; least = a.piece.least } }

-- The same, but for where it is.
moved_stands : (m : PageMap) (nodes : List ℕ) (level level2 : ℕ) (p q : Piece) → level ≡ level2 → p.page ≡ q.page → p.low ≡ q.low → p.high ≡ q.high → p.least ≡ q.least
    → (v key : ℕ) → StandsOnWay level m nodes p.page v key p.low p.high p.least → StandsOnWay level2 m nodes q.page v key q.low q.high q.least
moved_stands m nodes level level2 p q a b c d e v key s =
    subst (λ (n : ℕ). StandsOnWay n m nodes q.page v key q.low q.high q.least) a
    (subst (λ (n : ℕ). StandsOnWay level m nodes n v key q.low q.high q.least) b
    (subst (λ (n : ℕ). StandsOnWay level m nodes p.page v key n q.high q.least) c
    (subst (λ (n : Option ℕ). StandsOnWay level m nodes p.page v key p.low n q.least) d
    (subst (λ (n : ℕ). StandsOnWay level m nodes p.page v key p.low p.high n) e s))))

key_moved : (p q : Piece) (key : ℕ) → p.low ≡ q.low → p.high ≡ q.high → IsKeyIn p.low p.high key → IsKeyIn q.low q.high key
key_moved p q key c d k = subst (λ (n : ℕ). IsKeyIn n q.high key) c (subst (λ (n : Option ℕ). IsKeyIn p.low n key) d k)

module _ (m : PageMap) (nodes : List ℕ) (a b : Leveled) (f : Follows a b) where
  pub longer_stands : StandsThere m nodes a → StandsThere m nodes b → StandsThere m nodes (longer a b)
  longer_stands s t v key at = elim (cases_lt v b.piece.from) [
    | inl before ↦ (let e = f.at in let g = at.from in moved_stands m nodes a.level b.level a.piece a.piece f.level refl refl refl refl v key (s v key (record { from = g; before = omega (arith, e, before); inside = at.inside })))
    | inr after ↦ (let g = at.before in moved_stands m nodes b.level b.level b.piece a.piece refl (sym f.page) (sym f.low) (sym f.high) (sym f.least) v key
        (t v key (record { from = after; before = g; inside = key_moved a.piece b.piece key f.low f.high at.inside })))
  ]

  pub longer_parts : a.piece.from < a.piece.to → b.piece.from < b.piece.to → StandsThere m nodes (longer a b) → StandsThere m nodes a × StandsThere m nodes b
  longer_parts some more s = (
    λ v key at. (let e = f.at in let g = at.from in let t = at.before in
        moved_stands m nodes b.level a.level a.piece a.piece (sym f.level) refl refl refl refl v key (s v key (record { from = g; before = omega (arith, e, t, more); inside = at.inside }))),
    λ v key at. (let e = f.at in let g = at.from in let t = at.before in
        moved_stands m nodes b.level b.level a.piece b.piece refl f.page f.low f.high f.least v key
        (s v key (record { from = omega (arith, e, g, some); before = t; inside = key_moved b.piece a.piece key (sym f.low) (sym f.high) at.inside }))),
  )

  abbrev own : ℕ → ℕ → ℕ
  own key v = total_below b.level m a.piece.page key v

  first_total : (key v : ℕ) → total_there m a key v ≡ cond ((nat_le a.piece.from v && nat_lt v b.piece.from) && (nat_le a.piece.low key && ends_after a.piece.high key)) (own key v) 0
  first_total key v =
      ap (λ (n : ℕ). cond ((nat_le a.piece.from v && nat_lt v n) && (nat_le a.piece.low key && ends_after a.piece.high key)) (total_below a.level m a.piece.page key v) 0) f.at
      ∙ ap (λ (n : ℕ). cond ((nat_le a.piece.from v && nat_lt v b.piece.from) && (nat_le a.piece.low key && ends_after a.piece.high key)) (total_below n m a.piece.page key v) 0) f.level

  second_total : (key v : ℕ) → total_there m b key v ≡ cond ((nat_le b.piece.from v && nat_lt v b.piece.to) && (nat_le a.piece.low key && ends_after a.piece.high key)) (own key v) 0
  second_total key v =
      ap (λ (n : ℕ). cond ((nat_le b.piece.from v && nat_lt v b.piece.to) && (nat_le n key && ends_after b.piece.high key)) (total_below b.level m b.piece.page key v) 0) (sym f.low)
      ∙ ap (λ (n : Option ℕ). cond ((nat_le b.piece.from v && nat_lt v b.piece.to) && (nat_le a.piece.low key && ends_after n key)) (total_below b.level m b.piece.page key v) 0) (sym f.high)
      ∙ ap (λ (n : ℕ). cond ((nat_le b.piece.from v && nat_lt v b.piece.to) && (nat_le a.piece.low key && ends_after a.piece.high key)) (total_below b.level m n key v) 0) (sym f.page)

  pub longer_total : a.piece.from < a.piece.to → b.piece.from < b.piece.to → (key v : ℕ) → total_there m (longer a b) key v ≡ total_there m a key v + total_there m b key v
  longer_total some more key v =
      let e = f.at in
      let x = first_total key v in
      let y = second_total key v in
      let z = two_parts a.piece.from b.piece.from b.piece.to v (nat_le a.piece.low key && ends_after a.piece.high key) (own key v) (omega (arith, e, some)) (omega (arith, more)) in
      z ∙ sums (total_there m a key v) _ (total_there m b key v) _ x y

last_total : (rest old new a b both : ℕ) → old ≡ rest + a → new ≡ rest + both → both ≡ a + b → new ≡ old + b
last_total rest old new a b both u w z = omega (arith, u, w, z)

-- The last piece is lengthened by one that follows it.
pub pushes_longer : (m : PageMap) (nodes : List ℕ) (old rest new : List Leveled) (a b : Leveled) → Follows a b → old ≡ rest ++ a ∷ [] → new ≡ rest ++ longer a b ∷ []
    → a.piece.from < a.piece.to → b.piece.from < b.piece.to → Pushes (StandsThere m nodes b) (total_there m b) m nodes old new
pushes_longer m nodes old rest new a b f is to some more =
    let p = pushes_one m nodes rest old a is in
    let q = pushes_one m nodes rest new (longer a b) to in
    record {
      parts = λ s.
          let x = q.parts s in
          let y = longer_parts m nodes a b f some more x.1 in
          (p.whole x.0 y.0, y.1);
      whole = λ s t. (let x = p.parts s in q.whole x.0 (longer_stands m nodes a b f x.1 t));
      totals = λ key v.
          let u = p.totals key v in
          let w = q.totals key v in
          let z = longer_total m nodes a b f some more key v in
          last_total (pieces_total m rest key v) (pieces_total m old key v) (pieces_total m new key v) (total_there m a key v) (total_there m b key v) (total_there m (longer a b) key v) u w z;
    }

pub whole_longer : (level : ℕ) (a b : Leveled) → Follows a b → IsWhole level a → IsWhole level b → IsWhole level (longer a b)
whole_longer level a b f x y =
    let e = f.at in
    let s = x.some in
    let t = y.some in
    record { below = y.below; some = omega (arith, e, s, t); most = y.most; keys = x.keys; fits = x.fits }

-- A piece is put behind the others.
abbrev pub Put : List Leveled → List Leveled → Leveled → Type 0
Put old new l = (level : ℕ) → AreWhole level old → IsWhole level l → AreWhole level new × ((m : PageMap) (nodes : List ℕ) → Pushes (StandsThere m nodes l) (total_there m l) m nodes old new)

pub put_one : (old new : List Leveled) (l : Leveled) → new ≡ old ++ l ∷ [] → Put old new l
put_one old new l is = λ level all one. (whole_one level old new l is all one, λ m nodes. pushes_one m nodes old new l is)

pub put_longer : (old rest new : List Leveled) (a b : Leveled) → Follows a b → old ≡ rest ++ a ∷ [] → new ≡ rest ++ longer a b ∷ [] → Put old new b
put_longer old rest new a b f is to = λ level all one.
    let x = whole_left level rest old a is all in (
      whole_one level rest new (longer a b) to x.0 (whole_longer level a b f x.1 one),
      λ m nodes. pushes_longer m nodes old rest new a b f is to x.1.some one.some,
    )
