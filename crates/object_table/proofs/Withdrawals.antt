-- The last life of an id, withdrawn.
use Rattle.std.proofs.Common.{◌≡◌, ◌≢◌, ℕ, zero, suc, ◌-◌, ◌^◌, ◌<◌, ◌≤◌, ◌==◌, ◌↔◌, nat_lt, nat_le, if◌then◌else◌, Bool, true, false, IsTrue, inl, inr, List, [], ◌∷◌, ◌++◌, length, get_or, take, drop, set, map, Option, Some, None, refl, sym, ap, ◌∙◌, subst, arith, append_assoc, length-append, drop-cons}
use Rattle.std.specs.List.{All, AllAdjacentBelow, refill}
use Rattle.std.specs.Option.{option_or, option_map_or}
use Rattle.std.proofs.lemmas.Bool.{cases_eq, ne_eqb, eq-eqb, lt-ltb, and_from, false≢true}
use Rattle.std.proofs.lemmas.List.{take-append-drop, map-append, get_or-take, length-take, take_all, drop_all, append-nil, get_or_default}
use Rattle.std.proofs.lemmas.List.Elements.{All-cons}
use Rattle.bw_types.specs.declared.dated.Dated.{Dated}
use Rattle.page_layout.specs.Dated.{by_life_fits, dated_fits, dates_fit, ends_fit, withdrawal_fits, IsDatedTyped}
use Rattle.page_layout.specs.LifeNode.{IsLifeLeaf}
use Rattle.page_layout.specs.TreeValue.{both_true}
use Rattle.page_layout.specs.declared.life_node.LifeEntry.{LifeEntry}
use Rattle.object_table.specs.Keys.{key, low_key, greatest_key, AscendBy}
use Rattle.object_table.specs.Lives.{last_life}
use Rattle.object_table.specs.Edits.{IsMarked, CanWithdraw, withdrawn_at, with_withdrawal}
use Rattle.object_table.specs.Stands.{BeginWith, KeepsItsLow}
use Rattle.object_table.proofs.LastOnes.{some_first}
use Rattle.object_table.proofs.Order.{All-left, All-right, All-join}
use Rattle.object_table.proofs.Ordered.{asc_before, asc_from, asc_right}
use Rattle.object_table.proofs.Rules.{ProperObjects, leaf_proper, leaf_rules}
use Rattle.object_table.proofs.Searching.{All-head, All-tail, or_none, last_life-append, last_life-one, last_life-other, last_life-none}

-- the last life of the id is the one that was withdrawn
pub marked_last : (old new : List Dated) (id version event : ℕ) (p : IsMarked old new id version event) → last_life id old ≡ Some p.life
marked_last old new id version event p =
    let one : last_life id (p.life ∷ []) ≡ Some p.life = last_life-one id p.life (eq-eqb p.life.object.id id p.own) in
    let tail : last_life id (p.life ∷ p.after) ≡ Some p.life =
    last_life-append id (p.life ∷ []) p.after ∙ ap (λ (o : Option Dated). option_or o (last_life id (p.life ∷ []))) (last_life-none id p.after p.others) ∙ one in
    ap (last_life id) p.was ∙ last_life-append id p.before (p.life ∷ p.after) ∙ ap (λ (o : Option Dated). option_or o (last_life id p.before)) tail

pub marked_can : (old new : List Dated) (id version event : ℕ) → IsMarked old new id version event → CanWithdraw id version old
marked_can old new id version event p = record { last = p.life; found = marked_last old new id version event p; lives_on = p.lives_on; earlier = p.earlier }

-- between objects before and after
pub mark_within : (first rest old new : List Dated) (id version event : ℕ) → IsMarked old new id version event → All (λ d. (d.object.id == id) ≡ false) rest
    → IsMarked (first ++ (old ++ rest)) (first ++ (new ++ rest)) id version event
mark_within first rest old new id version event p none = record {
  before = first ++ p.before;
  life = p.life;
  after = p.after ++ rest;
  was = ap (λ (ds : List Dated). first ++ (ds ++ rest)) p.was ∙ ap (λ (ds : List Dated). first ++ ds) (append_assoc p.before (p.life ∷ p.after) rest) ∙ sym (append_assoc first p.before (p.life ∷ (p.after ++ rest)));
  is = ap (λ (ds : List Dated). first ++ (ds ++ rest)) p.is ∙ ap (λ (ds : List Dated). first ++ ds) (append_assoc p.before (withdrawn_at version event p.life ∷ p.after) rest)
      ∙ sym (append_assoc first p.before (withdrawn_at version event p.life ∷ (p.after ++ rest)));
  own = p.own;
  others = All-join (λ (d : Dated). (d.object.id == id) ≡ false) p.after rest p.others none;
  lives_on = p.lives_on;
  earlier = p.earlier;
}

pub all_marked : (P : Dated → Type 0) (old new : List Dated) (id version event : ℕ) → IsMarked old new id version event → ((d : Dated) → P d → P (withdrawn_at version event d)) → All P old → All P new
all_marked P old new id version event p keeps all =
    let parts = subst (λ (ds : List Dated). All P ds) p.was all in
    let right = All-right P p.before (p.life ∷ p.after) parts in
    subst (λ (ds : List Dated). All P ds) (sym p.is)
    (All-join P p.before (withdrawn_at version event p.life ∷ p.after) (All-left P p.before (p.life ∷ p.after) parts)
    (All-cons P (withdrawn_at version event p.life) p.after (keeps p.life (All-head P p.life p.after right)) (All-tail P p.life p.after right)))

pub length_marked : (old new : List Dated) (id version event : ℕ) → IsMarked old new id version event → length new ≡ length old
length_marked old new id version event p =
    let a = ap (λ (ds : List Dated). length ds) p.was ∙ length-append p.before (p.life ∷ p.after) in
    let b = ap (λ (ds : List Dated). length ds) p.is ∙ length-append p.before (withdrawn_at version event p.life ∷ p.after) in
    omega (arith, a, b)

-- What begins with a key begins with it afterwards.
begin_marked : (before : List Dated) (life other : Dated) (after : List Dated) (k : ℕ) → key other ≡ key life → BeginWith (before ++ (life ∷ after)) k → BeginWith (before ++ (other ∷ after)) k
begin_marked [] life other after k same begins = same ∙ begins
begin_marked (x ∷ xs) life other after k same begins = begins

pub low_marked : (e : LifeEntry) (old new : List Dated) (id version event : ℕ) → KeepsItsLow e old → IsMarked old new id version event → KeepsItsLow e new
low_marked e old new id version event (inl none) p = inl none
low_marked e old new id version event (inr begins) p =
    inr (subst (λ (ds : List Dated). BeginWith ds (low_key e)) (sym p.is)
    (begin_marked p.before p.life (withdrawn_at version event p.life) p.after (low_key e) refl (subst (λ (ds : List Dated). BeginWith ds (low_key e)) p.was begins)))

-- The order stays.
asc_swap : (before : List Dated) (life other : Dated) (after : List Dated) → key other ≡ key life → AscendBy key (before ++ (life ∷ after)) → AscendBy key (before ++ (other ∷ after))
asc_swap [] life other after same a = (λ i d h. omega (arith, same, a.0 i d h), a.1)
asc_swap (x ∷ xs) life other after same a =
    let P : Dated → Type 0 = λ d. key x < key d in
    let right = All-right P xs (life ∷ after) a.0 in
    (All-join P xs (other ∷ after) (All-left P xs (life ∷ after) a.0) (All-cons P other after (omega (arith, same, All-head P life after right)) (All-tail P life after right)), asc_swap xs life other after same a.1)

withdrawn_fits : (d : Dated) (version event : ℕ) → IsTrue (by_life_fits d) → d.added < version → IsTrue (by_life_fits (withdrawn_at version event d))
withdrawn_fits d version event fits earlier =
    let whole = both_true (dated_fits d) (nat_le 1 d.life) fits in
    let parts = both_true (ends_fit d.object) (dates_fit d) whole.0 in
    let dates = both_true (nat_le 1 d.added) (withdrawal_fits d) parts.1 in
    let some : (version == 0) ≡ false = ne_eqb version 0 (λ e. omega (arith, e, earlier)) in
    let later : nat_lt d.added version ≡ true = lt-ltb d.added version earlier in
    let now : withdrawal_fits (withdrawn_at version event d) ≡ true = ap (λ (b : Bool). if b then event == 0 else nat_lt d.added version) some ∙ later in
    and_from (dated_fits (withdrawn_at version event d)) (nat_le 1 d.life)
    (and_from (ends_fit d.object) (dates_fit (withdrawn_at version event d)) parts.0 (and_from (nat_le 1 d.added) (withdrawal_fits (withdrawn_at version event d)) dates.0 now)) whole.1

withdrawn_typed : (d : Dated) (version event : ℕ) → IsDatedTyped d → version < 2 ^ 32 → event < 2 ^ 32 → IsDatedTyped (withdrawn_at version event d)
withdrawn_typed d version event t fv fe = record { object = t.object; life = t.life; added = t.added; add_event = t.add_event; withdrawn = fv; withdraw_event = fe }

pub proper_marked : (old new : List Dated) (id version event : ℕ) → IsMarked old new id version event → version < 2 ^ 32 → event < 2 ^ 32 → ProperObjects old → ProperObjects new
proper_marked old new id version event p fv fe proper =
    let fits : Dated → Type 0 = λ d. IsTrue (by_life_fits d) in
    let other : Dated = withdrawn_at version event p.life in
    let asc = subst (AscendBy key) p.was proper.asc in
    let each = subst (λ (ds : List Dated). All fits ds) p.was proper.each in
    let right = All-right fits p.before (p.life ∷ p.after) each in
    record {
      asc = subst (AscendBy key) (sym p.is) (asc_swap p.before p.life other p.after refl asc);
      each = subst (λ (ds : List Dated). All fits ds) (sym p.is)
          (All-join fits p.before (other ∷ p.after) (All-left fits p.before (p.life ∷ p.after) each)
          (All-cons fits other p.after (withdrawn_fits p.life version event (All-head fits p.life p.after right) p.earlier) (All-tail fits p.life p.after right)));
      types = all_marked IsDatedTyped old new id version event p (λ d t. withdrawn_typed d version event t fv fe) proper.types;
    }

pub marked_rules : (old new : List Dated) (id version event : ℕ) → IsLifeLeaf 14 old → All IsDatedTyped old → IsMarked old new id version event → version < 2 ^ 32 → event < 2 ^ 32 → IsLifeLeaf 14 new
marked_rules old new id version event rules typed p fv fe =
    let count = length_marked old new id version event p in
    leaf_rules 14 new (proper_marked old new id version event p fv fe (leaf_proper 14 old rules typed)) (omega (arith, count, rules.some)) (omega (arith, count, rules.few))

-- The map that withdraws the last life.
mapped_none : (k version event : ℕ) (ds : List Dated) → All (λ d. k ≢ key d) ds → map (λ d. if k == key d then withdrawn_at version event d else d) ds ≡ ds
mapped_none k version event [] all = refl
mapped_none k version event (d ∷ ds) all =
    let other : (k == key d) ≡ false = ne_eqb k (key d) (All-head (λ (d : Dated). k ≢ key d) d ds all) in
    let rest = mapped_none k version event ds (All-tail (λ (d : Dated). k ≢ key d) d ds all) in
    rw other (ap (λ (es : List Dated). d ∷ es) rest)

above_ne : (a b : ℕ) → a < b → b ≢ a
above_ne a b less = λ e. omega (arith, less, e)

below_ne : (a b : ℕ) → a < b → a ≢ b
below_ne a b less = λ e. omega (arith, less, e)

pub marked_is : (old new : List Dated) (id version event : ℕ) → AscendBy key old → IsMarked old new id version event → new ≡ with_withdrawal id version event old
marked_is old new id version event a p =
    let k : ℕ = key p.life in
    let f : Dated → Dated = λ d. if k == key d then withdrawn_at version event d else d in
    let asc = subst (AscendBy key) p.was a in
    let before = asc_before key p.before p.life p.after asc in
    let later = (asc_right key p.before (p.life ∷ p.after) asc).0 in
    let first : map f p.before ≡ p.before = mapped_none k version event p.before (λ i d h. above_ne (key (get_or p.before i d)) k (before i d h)) in
    let rest : map f p.after ≡ p.after = mapped_none k version event p.after (λ i d h. below_ne k (key (get_or p.after i d)) (later i d h)) in
    let own : (k == key p.life) ≡ true = eq-eqb k k refl in
    let here : f p.life ≡ withdrawn_at version event p.life = ap (λ (b : Bool). if b then withdrawn_at version event p.life else p.life) own in
    let all : map f old ≡ p.before ++ (withdrawn_at version event p.life ∷ p.after) =
    ap (map f) p.was ∙ map-append f p.before (p.life ∷ p.after) ∙ ap (λ (ds : List Dated). ds ++ (f p.life ∷ map f p.after)) first
    ∙ ap (λ (d : Dated). p.before ++ (d ∷ map f p.after)) here ∙ ap (λ (ds : List Dated). p.before ++ (withdrawn_at version event p.life ∷ ds)) rest in
    let found : with_withdrawal id version event old ≡ map f old =
    ap (λ (o : Option Dated). map (λ (d : Dated). if option_map_or (λ (last : Dated). key last == key d) o false then withdrawn_at version event d else d) old) (marked_last old new id version event p) in
    p.is ∙ sym (found ∙ all)

-- A leaf's objects, of which the last at or below the greatest key of the id is looked at.
set_is : (xs : List Dated) (j : ℕ) (y : Dated) → j < length xs → set xs j y ≡ take j xs ++ (y ∷ drop (suc j) xs)
set_is [] j y h = absurd (omega (arith, h))
set_is (x ∷ xs) zero y h = refl
set_is (x ∷ xs) (suc j) y h = ap (λ (ys : List Dated). x ∷ ys) (set_is xs j y (omega (arith, h)))

no_id_later : (id : ℕ) (ds : List Dated) → All (λ d. d.life < 2 ^ 32) ds → All (λ d. greatest_key id < key d) ds → All (λ d. (d.object.id == id) ≡ false) ds
no_id_later id ds typed later = λ i d h. ne_eqb (get_or ds i d).object.id id (λ e. omega (arith, e, typed i d h, later i d h))

-- the last life is the one at the cut, if that has the id
pub record AtCut (objects : List Dated) (id j : ℕ) (x : Dated) : Type 0 where
  pub before : List Dated
  pub after : List Dated
  pub first : before ≡ take j objects
  pub rest : after ≡ drop (suc j) objects
  pub whole : objects ≡ before ++ (x ∷ after)
  pub others : All (λ d. (d.object.id == id) ≡ false) after
  pub last : last_life id objects ≡ last_life id (x ∷ [])

at_cut : (objects : List Dated) (id j : ℕ) (d : Dated) → AscendBy key objects → All (λ d. d.life < 2 ^ 32) objects → suc j ≤ length objects
    → All (λ d. key d ≤ greatest_key id) (take (suc j) objects) → All (λ d. greatest_key id < key d) (drop (suc j) objects) → AtCut objects id j (get_or objects j d)
at_cut objects id j d a typed bound begun later =
    let x : Dated = get_or objects j d in
    let B : List Dated = take j objects in
    let A : List Dated = drop (suc j) objects in
    let whole : objects ≡ B ++ (x ∷ A) = sym (take-append-drop j objects) ∙ ap (λ (ds : List Dated). B ++ ds) (drop-cons objects j d (omega (arith, bound))) in
    let typed1 = subst (λ (ds : List Dated). All (λ (e : Dated). e.life < 2 ^ 32) ds) whole typed in
    let typed_x : x.life < 2 ^ 32 = All-head (λ (e : Dated). e.life < 2 ^ 32) x A (All-right (λ (e : Dated). e.life < 2 ^ 32) B (x ∷ A) typed1) in
    let none_later = no_id_later id A (All-tail (λ (e : Dated). e.life < 2 ^ 32) x A (All-right (λ (e : Dated). e.life < 2 ^ 32) B (x ∷ A) typed1)) later in
    let at_x : get_or (take (suc j) objects) j d ≡ x = get_or-take (suc j) objects j d (omega arith) in
    let x_begun : key x ≤ greatest_key id = subst (λ (e : Dated). key e ≤ greatest_key id) at_x (begun j d (omega (arith, length-take (suc j) objects, bound))) in
    let before = asc_before key B x A (subst (AscendBy key) whole a) in
    let tail : last_life id (x ∷ A) ≡ last_life id (x ∷ []) = last_life-append id (x ∷ []) A ∙ ap (λ (o : Option Dated). option_or o (last_life id (x ∷ []))) (last_life-none id A none_later) in
    let all : last_life id objects ≡ option_or (last_life id (x ∷ [])) (last_life id B) =
    ap (last_life id) whole ∙ last_life-append id B (x ∷ A) ∙ ap (λ (o : Option Dated). option_or o (last_life id B)) tail in
    record {
      before = B;
      after = A;
      first = refl;
      rest = refl;
      whole = whole;
      others = none_later;
      last = all ∙ last_first id x B before typed_x x_begun;
    } where
      last_first : (id : ℕ) (x : Dated) (B : List Dated) → All (λ e. key e < key x) B → x.life < 2 ^ 32 → key x ≤ greatest_key id
          → option_or (last_life id (x ∷ [])) (last_life id B) ≡ last_life id (x ∷ [])
      last_first id x B before typed begun = elim (cases_eq x.object.id id) [
        | inl own ↦
            let one = last_life-one id x (eq-eqb x.object.id id own) in
            ap (λ (o : Option Dated). option_or o (last_life id B)) one ∙ sym one
        | inr other ↦
            let none : last_life id B ≡ None = last_life-none id B (λ i d h. ne_eqb (get_or B i d).object.id id (λ e. omega (arith, e, before i d h, begun, other, typed))) in
            ap (λ (o : Option Dated). option_or (last_life id (x ∷ [])) o) none ∙ or_none (last_life id (x ∷ []))
      ]

lives_typed : (objects : List Dated) → All IsDatedTyped objects → All (λ d. d.life < 2 ^ 32) objects
lives_typed objects typed = λ i d h. (typed i d h).life

pub cut_of : (objects shown : List Dated) (id k v : ℕ) (d : Dated) → shown ≡ objects → v ≡ greatest_key id → AllAdjacentBelow (λ d next. key d < key next) objects (length objects) → All IsDatedTyped objects
    → k ≢ 0 → k ≤ length shown → All (λ d. key d ≤ v) (take k shown) → All (λ d. v < key d) (drop k shown) → AtCut objects id (k - 1) (get_or objects (k - 1) d)
cut_of objects shown id zero v d same is adj typed some bound begun later = absurd (some refl)
cut_of objects shown id (suc j) v d same is adj typed some bound begun later =
    let less : suc j - 1 ≡ j = omega arith in
    let begun1 = subst (λ (n : ℕ). All (λ (e : Dated). key e ≤ n) (take (suc j) objects)) is (subst (λ (l : List Dated). All (λ (e : Dated). key e ≤ v) (take (suc j) l)) same begun) in
    let later1 = subst (λ (n : ℕ). All (λ (e : Dated). n < key e) (drop (suc j) objects)) is (subst (λ (l : List Dated). All (λ (e : Dated). v < key e) (drop (suc j) l)) same later) in
    let cut = at_cut objects id j d (asc_from key objects adj) (lives_typed objects typed) (subst (λ (l : List Dated). suc j ≤ length l) same bound) begun1 later1 in
    subst (λ (n : ℕ). AtCut objects id n (get_or objects n d)) (sym less) cut

pub cut_marked : (objects new : List Dated) (id version event k : ℕ) (x : Dated) → AtCut objects id (k - 1) x → k ≢ 0 → k ≤ length objects → x.object.id ≡ id → x.withdrawn ≡ 0 → x.added < version
    → new ≡ set objects (k - 1) (withdrawn_at version event x) → IsMarked objects new id version event
cut_marked objects new id version event k x c some bound own on earlier made = record {
  before = c.before;
  life = x;
  after = c.after;
  was = c.whole;
  is = made ∙ set_is objects (k - 1) (withdrawn_at version event x) (omega (arith, some, bound)) ∙ ap (λ (ds : List Dated). ds ++ (withdrawn_at version event x ∷ drop (suc (k - 1)) objects)) (sym c.first)
      ∙ ap (λ (ds : List Dated). c.before ++ (withdrawn_at version event x ∷ ds)) (sym c.rest);
  own = own;
  others = c.others;
  lives_on = on;
  earlier = earlier;
}

no_some : {y : Dated} → ◌≡◌ {A = Option Dated} None (Some y) → ⊥
no_some e = cc

-- Where the object at the cut cannot be withdrawn, no life of the id can.
pub cut_refused : (objects : List Dated) (id version j : ℕ) (x : Dated) → AtCut objects id j x → (x.object.id ≡ id → x.withdrawn ≡ 0 → x.added < version → ⊥) → CanWithdraw id version objects → ⊥
cut_refused objects id version j x c refused can = elim (cases_eq x.object.id id) [
  | inl own ↦
      let same : x ≡ can.last = some_first x can.last (sym (last_life-one id x (eq-eqb x.object.id id own)) ∙ sym c.last ∙ can.found) in
      refused own (ap (λ (d : Dated). d.withdrawn) same ∙ can.lives_on) (subst (λ (d : Dated). d.added < version) (sym same) can.earlier)
  | inr other ↦ no_some (sym (last_life-other id x (ne_eqb x.object.id id other)) ∙ sym c.last ∙ can.found)
]

-- Where all objects stand above the id, none has it.
pub none_refused : (objects shown : List Dated) (id version k v : ℕ) → shown ≡ objects → v ≡ greatest_key id → All IsDatedTyped objects → k ≡ 0 → All (λ d. v < key d) (drop k shown) → CanWithdraw id version objects → ⊥
none_refused objects shown id version k v same is typed none later can =
    let later1 = subst (λ (n : ℕ). All (λ (e : Dated). v < key e) (drop n shown)) none later in
    let later2 = subst (λ (l : List Dated). All (λ (e : Dated). v < key e) l) same later1 in
    let later3 = subst (λ (n : ℕ). All (λ (e : Dated). n < key e) objects) is later2 in
    no_some (sym (last_life-none id objects (no_id_later id objects (lives_typed objects typed) later3)) ∙ can.found)

length_set : (xs : List Dated) (j : ℕ) (y : Dated) → length (set xs j y) ≡ length xs
length_set [] zero y = refl
length_set [] (suc j) y = refl
length_set (x ∷ xs) zero y = refl
length_set (x ∷ xs) (suc j) y = omega (arith, length_set xs j y)

refilled : (xs ws : List Dated) → length ws ≡ length xs → refill (length xs) xs ws ≡ ws
refilled xs ws same =
    let none : drop (length ws) xs ≡ [] = drop_all (length ws) xs (omega (arith, same)) in
    ap (λ (l : List Dated). take (length xs) (ws ++ l)) none ∙ ap (take (length xs)) (append-nil ws) ∙ take_all (length xs) ws (omega (arith, same))

pub withdraw_marked : (objects shown again more lent : List Dated) (id version event k v : ℕ) (d e made : Dated) (can : Bool) → shown ≡ objects → again ≡ objects → more ≡ objects → lent ≡ objects → v ≡ greatest_key id
    → AllAdjacentBelow (λ d next. key d < key next) objects (length objects) → All IsDatedTyped objects → k ≢ 0 → k ≤ length shown → All (λ d. key d ≤ v) (take k shown) → All (λ d. v < key d) (drop k shown)
    → (IsTrue can ↔ (((get_or again (k - 1) d).object.id ≡ id) × ((get_or again (k - 1) d).withdrawn ≡ 0) × ((get_or again (k - 1) d).added < version))) → IsTrue can
    → made ≡ withdrawn_at version event (get_or more (k - 1) e)
    → IsMarked objects (refill (length objects) objects (set lent (k - 1) made)) id version event
withdraw_marked objects shown again more lent id version event k v d e made can s1 s2 s3 s4 is adj typed some bound begun later tells sure is_made =
    let x : Dated = get_or objects (k - 1) d in
    let cut = cut_of objects shown id k v d s1 is adj typed some bound begun later in
    let bound1 : k ≤ length objects = subst (λ (l : List Dated). k ≤ length l) s1 bound in
    let short : k - 1 < length objects = omega (arith, some, bound1) in
    let open_ = tells.0 sure in
    let at : get_or again (k - 1) d ≡ x = ap (λ (l : List Dated). get_or l (k - 1) d) s2 in
    let made_is : made ≡ withdrawn_at version event x = is_made ∙ ap (λ (l : List Dated). withdrawn_at version event (get_or l (k - 1) e)) s3 ∙ ap (withdrawn_at version event) (get_or_default objects (k - 1) e d short) in
    let new : refill (length objects) objects (set lent (k - 1) made) ≡ set objects (k - 1) (withdrawn_at version event x) =
    ap (λ (l : List Dated). refill (length objects) objects (set l (k - 1) made)) s4 ∙ refilled objects (set objects (k - 1) made) (length_set objects (k - 1) made) ∙ ap (λ (y : Dated). set objects (k - 1) y) made_is in
    cut_marked objects (refill (length objects) objects (set lent (k - 1) made)) id version event k x cut some bound1
    (subst (λ (y : Dated). y.object.id ≡ id) at open_.0) (subst (λ (y : Dated). y.withdrawn ≡ 0) at open_.1) (subst (λ (y : Dated). y.added < version) at open_.2) new

pub withdraw_refused : (objects shown again : List Dated) (id version k v : ℕ) (d : Dated) (can : Bool) → shown ≡ objects → again ≡ objects → v ≡ greatest_key id
    → AllAdjacentBelow (λ d next. key d < key next) objects (length objects) → All IsDatedTyped objects → k ≢ 0 → k ≤ length shown → All (λ d. key d ≤ v) (take k shown) → All (λ d. v < key d) (drop k shown)
    → (IsTrue can ↔ (((get_or again (k - 1) d).object.id ≡ id) × ((get_or again (k - 1) d).withdrawn ≡ 0) × ((get_or again (k - 1) d).added < version))) → (IsTrue can → ⊥)
    → CanWithdraw id version objects → ⊥
withdraw_refused objects shown again id version k v d can s1 s2 is adj typed some bound begun later tells unsure =
    let x : Dated = get_or objects (k - 1) d in
    let cut = cut_of objects shown id k v d s1 is adj typed some bound begun later in
    let at : x ≡ get_or again (k - 1) d = ap (λ (l : List Dated). get_or l (k - 1) d) (sym s2) in
    cut_refused objects id version (k - 1) x cut (λ own on earlier. unsure (tells.1 (subst (λ (y : Dated). y.object.id ≡ id) at own, subst (λ (y : Dated). y.withdrawn ≡ 0) at on, subst (λ (y : Dated). y.added < version) at earlier)))

pub false_is : (b : Bool) → b ≡ false → IsTrue b → ⊥
false_is b no_ sure = false≢true (sym no_ ∙ sure)
