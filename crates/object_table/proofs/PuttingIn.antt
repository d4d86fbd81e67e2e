-- An object put in at its place.
use Rattle.std.proofs.Common.{◌≡◌, ℕ, ◌+◌, ◌<◌, ◌≤◌, nat_lt, true, false, inl, inr, List, [], ◌∷◌, ◌++◌, length, refl, sym, ap, ◌∙◌, subst, arith, append_assoc, length-append}
use Rattle.std.specs.List.{All, filter}
use Rattle.std.proofs.lemmas.Bool.{lt-ltb, le-ltb}
use Rattle.std.proofs.lemmas.List.{append-nil}
use Rattle.std.proofs.lemmas.List.Elements.{All-cons}
use Rattle.bw_types.specs.declared.dated.Dated.{Dated}
use Rattle.page_layout.specs.declared.life_node.LifeEntry.{LifeEntry}
use Rattle.object_table.specs.Keys.{key, low_key}
use Rattle.object_table.specs.Edits.{IsPutIn, with_object}
use Rattle.object_table.specs.Stands.{BeginWith, KeepsItsLow}
use Rattle.object_table.proofs.Order.{All-left, All-right, All-join}
use Rattle.object_table.proofs.Searching.{All-head, All-tail}

-- between objects before and after
pub put_within : (first rest old new : List Dated) (d : Dated) → IsPutIn old new d → All (λ e. key e < key d) first → All (λ e. key d < key e) rest
    → IsPutIn (first ++ (old ++ rest)) (first ++ (new ++ rest)) d
put_within first rest old new d p less more = record {
  before = first ++ p.before;
  after = p.after ++ rest;
  was = ap (λ (ds : List Dated). first ++ (ds ++ rest)) p.was ∙ ap (λ (ds : List Dated). first ++ ds) (append_assoc p.before p.after rest) ∙ sym (append_assoc first p.before (p.after ++ rest));
  is = ap (λ (ds : List Dated). first ++ (ds ++ rest)) p.is ∙ ap (λ (ds : List Dated). first ++ ds) (append_assoc p.before (d ∷ p.after) rest) ∙ sym (append_assoc first p.before (d ∷ (p.after ++ rest)));
  less = All-join (λ (e : Dated). key e < key d) first p.before less p.less;
  more = All-join (λ (e : Dated). key d < key e) p.after rest p.more more;
}

pub length_put : (old new : List Dated) (d : Dated) → IsPutIn old new d → length new ≡ length old + 1
length_put old new d p =
    let a = ap (λ (ds : List Dated). length ds) p.was ∙ length-append p.before p.after in
    let b = ap (λ (ds : List Dated). length ds) p.is ∙ length-append p.before (d ∷ p.after) in
    omega (arith, a, b)

pub all_put : (P : Dated → Type 0) (old new : List Dated) (d : Dated) → IsPutIn old new d → All P old → P d → All P new
all_put P old new d p all here =
    let parts = subst (λ (ds : List Dated). All P ds) p.was all in
    subst (λ (ds : List Dated). All P ds) (sym p.is) (All-join P p.before (d ∷ p.after) (All-left P p.before p.after parts) (All-cons P d p.after here (All-right P p.before p.after parts)))

-- What begins with a key that is not above the object begins with it afterwards.
begin_kept : (before after first rest : List Dated) (d : Dated) (k : ℕ) → BeginWith (before ++ after) k → before ++ (d ∷ after) ≡ first ++ rest
    → All (λ e. key d < key e) after → k ≤ key d → 1 ≤ length first → BeginWith first k
begin_kept [] [] first rest d k begins same more below some = absurd begins
begin_kept [] (y ∷ ys) first rest d k begins same more below some = absurd (omega (arith, begins, below, All-head (λ (e : Dated). key d < key e) y ys more))
begin_kept (x ∷ xs) after [] rest d k begins same more below some = absurd (omega (arith, some))
begin_kept (x ∷ xs) after (f ∷ fs) rest d k begins same more below some = let first_is : x ≡ f = cc in ap key (sym first_is) ∙ begins

pub low_kept : (e : LifeEntry) (old new first rest : List Dated) (d : Dated) → KeepsItsLow e old → IsPutIn old new d → new ≡ first ++ rest → 1 ≤ length first → low_key e ≤ key d → KeepsItsLow e first
low_kept e old new first rest d (inl none) p whole some below = inl none
low_kept e old new first rest d (inr begins) p whole some below =
    inr (begin_kept p.before p.after first rest d (low_key e) (subst (λ (ds : List Dated). BeginWith ds (low_key e)) p.was begins) (sym p.is ∙ whole) p.more below some)

pub low_further : (e : LifeEntry) (own rest : List Dated) → KeepsItsLow e own → KeepsItsLow e (own ++ rest)
low_further e own rest (inl none) = inl none
low_further e [] rest (inr begins) = absurd begins
low_further e (d ∷ ds) rest (inr begins) = inr begins

-- The objects below a key, and those above it, of a list that ends or begins there.
below_kept : (k : ℕ) (ds rest : List Dated) → All (λ d. key d < k) ds → filter (λ d. nat_lt (key d) k) (ds ++ rest) ≡ ds ++ filter (λ d. nat_lt (key d) k) rest
below_kept k [] rest all = refl
below_kept k (d ∷ ds) rest all =
    let here : nat_lt (key d) k ≡ true = lt-ltb (key d) k (All-head (λ (d : Dated). key d < k) d ds all) in
    rw here (ap (λ (es : List Dated). d ∷ es) (below_kept k ds rest (All-tail (λ (d : Dated). key d < k) d ds all)))

below_none : (k : ℕ) (ds : List Dated) → All (λ d. k < key d) ds → filter (λ d. nat_lt (key d) k) ds ≡ []
below_none k [] all = refl
below_none k (d ∷ ds) all =
    let here : nat_lt (key d) k ≡ false = le-ltb (key d) k (omega (arith, All-head (λ (d : Dated). k < key d) d ds all)) in
    rw here (below_none k ds (All-tail (λ (d : Dated). k < key d) d ds all))

above_none : (k : ℕ) (ds rest : List Dated) → All (λ d. key d < k) ds → filter (λ d. nat_lt k (key d)) (ds ++ rest) ≡ filter (λ d. nat_lt k (key d)) rest
above_none k [] rest all = refl
above_none k (d ∷ ds) rest all =
    let here : nat_lt k (key d) ≡ false = le-ltb k (key d) (omega (arith, All-head (λ (d : Dated). key d < k) d ds all)) in
    rw here (above_none k ds rest (All-tail (λ (d : Dated). key d < k) d ds all))

above_kept : (k : ℕ) (ds : List Dated) → All (λ d. k < key d) ds → filter (λ d. nat_lt k (key d)) ds ≡ ds
above_kept k [] all = refl
above_kept k (d ∷ ds) all =
    let here : nat_lt k (key d) ≡ true = lt-ltb k (key d) (All-head (λ (d : Dated). k < key d) d ds all) in
    rw here (ap (λ (es : List Dated). d ∷ es) (above_kept k ds (All-tail (λ (d : Dated). k < key d) d ds all)))

pub with_object_is : (old new : List Dated) (d : Dated) → IsPutIn old new d → new ≡ with_object d old
with_object_is old new d p =
    let k : ℕ = key d in
    let less : filter (λ (e : Dated). nat_lt (key e) k) old ≡ p.before =
    ap (filter (λ (e : Dated). nat_lt (key e) k)) p.was ∙ below_kept k p.before p.after p.less ∙ ap (λ (ds : List Dated). p.before ++ ds) (below_none k p.after p.more) ∙ append-nil p.before in
    let more : filter (λ (e : Dated). nat_lt k (key e)) old ≡ p.after =
    ap (filter (λ (e : Dated). nat_lt k (key e))) p.was ∙ above_none k p.before p.after p.less ∙ above_kept k p.after p.more in
    p.is ∙ sym (ap (λ (ds : List Dated). ds ++ (d ∷ filter (λ (e : Dated). nat_lt k (key e)) old)) less ∙ ap (λ (ds : List Dated). p.before ++ (d ∷ ds)) more)
