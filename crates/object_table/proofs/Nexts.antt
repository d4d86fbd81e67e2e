-- The objects from a key on, and the first of them.
use Rattle.std.proofs.Common.{◌≡◌, ℕ, ◌+◌, ◌<◌, ◌≤◌, ◌⊎◌, nat_le, true, false, List, [], ◌∷◌, ◌++◌, length, get_or, take, drop, slice_get, inl, inr, refl, sym, ap, ◌∙◌, subst, arith, append_assoc}
use Rattle.std.specs.List.{All}
use Rattle.std.proofs.lemmas.Bool.{cases_Bool, leb-true, lt-leb, le-leb}
use Rattle.std.proofs.lemmas.List.{append-nil, take_all, take_more, take-append-drop}
use Rattle.std.proofs.lemmas.List.Elements.{All-filter, All-weaker, filter-append, filter_passes}
use Rattle.bw_types.specs.declared.dated.Dated.{Dated}
use Rattle.object_table.specs.Keys.{key}
use Rattle.object_table.specs.Lives.{AreNext, first_from, lives_from}
use Rattle.object_table.proofs.Order.{All-left}
use Rattle.object_table.proofs.Searching.{All-head, All-tail}

pub from-append : (least : ℕ) (xs ys : List Dated) → lives_from least (xs ++ ys) ≡ lives_from least xs ++ lives_from least ys
from-append least xs ys = filter-append (λ (d : Dated). nat_le least (key d)) xs ys

pub from-none : (least : ℕ) (ds : List Dated) → All (λ d. key d < least) ds → lives_from least ds ≡ []
from-none least [] all = refl
from-none least (d ∷ ds) all =
    let here : nat_le least (key d) ≡ false = lt-leb least (key d) (All-head (λ (d : Dated). key d < least) d ds all) in
    rw here (from-none least ds (All-tail (λ (d : Dated). key d < least) d ds all))

pub from-all : (least : ℕ) (ds : List Dated) → All (λ d. least ≤ key d) ds → lives_from least ds ≡ ds
from-all least [] all = refl
from-all least (d ∷ ds) all =
    let here : nat_le least (key d) ≡ true = le-leb least (key d) (All-head (λ (d : Dated). least ≤ key d) d ds all) in
    rw here (ap (λ (xs : List Dated). d ∷ xs) (from-all least ds (All-tail (λ (d : Dated). least ≤ key d) d ds all)))

none-empty : (xs ys : List Dated) → xs ≡ ys → 1 ≤ length xs → ys ≡ [] → ⊥
none-empty xs ys same some none = omega (arith, some, ap length (same ∙ none))

-- one object more, below the key or from it on
pub below_more : (least : ℕ) (ds : List Dated) (i : ℕ) (e : Dated) → i < length ds → key (get_or ds i e) < least → lives_from least (take (i + 1) ds) ≡ lives_from least (take i ds)
below_more least ds i e lt below =
    let none : lives_from least (get_or ds i e ∷ []) ≡ [] = let here : nat_le least (key (get_or ds i e)) ≡ false = lt-leb least (key (get_or ds i e)) below in rw here refl in
    ap (lives_from least) (take_more ds i e lt) ∙ from-append least (take i ds) (get_or ds i e ∷ []) ∙ ap (λ (xs : List Dated). lives_from least (take i ds) ++ xs) none
    ∙ append-nil (lives_from least (take i ds))

pub one_more : (least : ℕ) (ds : List Dated) (i : ℕ) (e : Dated) (found : List Dated) (d : Dated) (more : List Dated) → i < length ds → least ≤ key (get_or ds i e) → d ≡ get_or ds i e
    → found ≡ lives_from least (take i ds) → more ≡ found ++ d ∷ [] → more ≡ lives_from least (take (i + 1) ds)
one_more least ds i e found d more lt from is so_far pushed =
    let one : lives_from least (get_or ds i e ∷ []) ≡ get_or ds i e ∷ [] = let here : nat_le least (key (get_or ds i e)) ≡ true = le-leb least (key (get_or ds i e)) from in rw here refl in
    pushed ∙ ap (λ (xs : List Dated). xs ++ d ∷ []) so_far ∙ ap (λ (x : Dated). lives_from least (take i ds) ++ x ∷ []) is ∙ ap (λ (xs : List Dated). lives_from least (take i ds) ++ xs) (sym one)
    ∙ sym (from-append least (take i ds) (get_or ds i e ∷ [])) ∙ ap (lives_from least) (sym (take_more ds i e lt))

-- Some of them are next, and so are all of them.
pub some_next : (least : ℕ) (ds found : List Dated) (i : ℕ) → found ≡ lives_from least (take i ds) → 1 ≤ length found → AreNext found least ds
some_next least ds found i is some = record {
  later = lives_from least (drop i ds);
  cut = ap (lives_from least) (sym (take-append-drop i ds)) ∙ from-append least (take i ds) (drop i ds) ∙ ap (λ (xs : List Dated). xs ++ lives_from least (drop i ds)) (sym is);
  some = λ none. absurd (none-empty found found refl some none);
}

pub all_next : (least : ℕ) (ds found : List Dated) (i : ℕ) → found ≡ lives_from least (take i ds) → length ds ≤ i → AreNext found least ds
all_next least ds found i is end = record {
  later = [];
  cut = ap (lives_from least) (sym (take_all i ds end)) ∙ sym is ∙ sym (append-nil found);
  some = λ none. refl;
}

-- What is next is from the key on, and one of the objects.
pub next_from : (least : ℕ) (ds found : List Dated) → AreNext found least ds → All (λ d. least ≤ key d) found
next_from least ds found next =
    let passes = All-weaker (λ (d : Dated). nat_le least (key d) ≡ true) (λ (d : Dated). least ≤ key d) (λ d t. leb-true least (key d) t) (lives_from least ds)
    (filter_passes (λ (d : Dated). nat_le least (key d)) ds) in
    All-left (λ (d : Dated). least ≤ key d) found next.later (subst (λ (xs : List Dated). All (λ (d : Dated). least ≤ key d) xs) next.cut passes)

pub next_among : (P : Dated → Type 0) (least : ℕ) (ds found : List Dated) → AreNext found least ds → All P ds → All P found
next_among P least ds found next all =
    All-left P found next.later (subst (λ (xs : List Dated). All P xs) next.cut (All-filter (λ (d : Dated). nat_le least (key d)) P ds all))

-- the first one
first_left : (found later : List Dated) → (found ≡ [] → later ≡ []) → slice_get found 0 ≡ slice_get (found ++ later) 0
first_left [] later some = ap (λ (xs : List Dated). slice_get xs 0) (sym (some refl))
first_left (d ∷ ds) later some = refl

first_filtered : (least : ℕ) (ds : List Dated) → slice_get (lives_from least ds) 0 ≡ first_from least ds
first_filtered least [] = refl
first_filtered least (d ∷ ds) = elim (cases_Bool (nat_le least (key d))) [
  | inl here ↦ rw here refl
  | inr below ↦ rw below (first_filtered least ds)
]

pub first_next : (least : ℕ) (ds found : List Dated) → AreNext found least ds → slice_get found 0 ≡ first_from least ds
first_next least ds found next =
    first_left found next.later next.some ∙ ap (λ (xs : List Dated). slice_get xs 0) (sym next.cut) ∙ first_filtered least ds

-- What is next of some is next where others come behind them: it is not empty, or no others come.
pub next_before : (v : ℕ) (found whole own after : List Dated) → AreNext found v own → lives_from v whole ≡ lives_from v own ++ after → (1 ≤ length found) ⊎ (after ≡ []) → AreNext found v whole
next_before v found whole own after next same more = record {
  later = next.later ++ after;
  cut = same ∙ ap (λ (xs : List Dated). xs ++ after) next.cut ∙ append_assoc found next.later after;
  some = λ none. elim more [
    | inl some ↦ absurd (none-empty found found refl some none)
    | inr end ↦ ap (λ (xs : List Dated). xs ++ after) (next.some none) ∙ end
  ];
}

-- Where none of them is next, the others begin with what is next.
pub next_past : (v : ℕ) (found first whole own there after rest : List Dated) → AreNext found v own → found ≡ [] → lives_from v whole ≡ lives_from v own ++ lives_from v (there ++ after)
    → there ≡ first ++ rest → All (λ d. v ≤ key d) there → 1 ≤ length first → AreNext first v whole
next_past v found first whole own there after rest next none same is all some =
    let gone : lives_from v own ≡ [] = next.cut ∙ ap (λ (xs : List Dated). xs ++ next.later) none ∙ next.some none in
    record {
      later = rest ++ lives_from v after;
      cut = same ∙ ap (λ (xs : List Dated). xs ++ lives_from v (there ++ after)) gone ∙ from-append v there after ∙ ap (λ (xs : List Dated). xs ++ lives_from v after) (from-all v there all ∙ is)
          ∙ append_assoc first rest (lives_from v after);
      some = λ empty. absurd (none-empty first first refl some empty);
    }

-- Where all are from the key on, they begin with what is next.
pub begin_with : (least : ℕ) (ds found lives : List Dated) → AreNext found least ds → All (λ d. least ≤ key d) ds → ds ≡ lives → (rest : List Dated) × (lives ≡ found ++ rest)
begin_with least ds found lives next all same = (next.later, sym same ∙ sym (from-all least ds all) ∙ next.cut)

pub begin_some : (least : ℕ) (ds found : List Dated) → AreNext found least ds → All (λ d. least ≤ key d) ds → 1 ≤ length ds → 1 ≤ length found
begin_some least ds [] next all some = absurd (none-empty ds (lives_from least ds) (sym (from-all least ds all)) some (next.cut ∙ next.some refl))
begin_some least ds (d ∷ found) next all some = omega arith
