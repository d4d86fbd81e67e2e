-- The last life of an id after a change.
use Rattle.std.proofs.Common.{◌≡◌, ◌≢◌, ℕ, ◌^◌, ◌<◌, ◌≤◌, ◌==◌, if◌then◌else◌, Bool, true, false, inl, inr, List, [], ◌∷◌, ◌++◌, get_or, map, Option, Some, None, refl, sym, ap, ◌∙◌, subst, arith, append_assoc}
use Rattle.std.specs.List.{All}
use Rattle.std.specs.List.Sorted.{IsPermutation}
use Rattle.std.specs.Option.{option_or, option_map, option_map_or}
use Rattle.std.proofs.lemmas.Bool.{cases_lt, cases_eq, cases_Bool, ne_eqb, eq-eqb}
use Rattle.std.proofs.lemmas.List.Elements.{All-cons, All-nil}
use Rattle.std.proofs.lemmas.List.Sorted.{IsPermutation-append_comm, IsPermutation-append_left}
use Rattle.bw_types.specs.declared.dated.Dated.{Dated}
use Rattle.bw_types.specs.declared.tree.Tree.{Tree}
use Rattle.ports.specs.Pages.{PageMap}
use Rattle.object_table.specs.declared.form.Form.{Form}
use Rattle.object_table.specs.Keys.{key, AscendBy}
use Rattle.object_table.specs.Lives.{last_life}
use Rattle.object_table.specs.Damage.{HaveNot}
use Rattle.object_table.specs.Edits.{IsNewLife, IsPutIn, with_object, withdrawn_at, with_withdrawal}
use Rattle.object_table.specs.Stands.{TableStands}
use Rattle.object_table.proofs.Ascending.{root_ascend}
use Rattle.object_table.proofs.LastOnes.{last_cons, some_first, found_in, last_above, new_key, root_typed}
use Rattle.object_table.proofs.PuttingIn.{with_object_is}
use Rattle.object_table.proofs.Searching.{All-head, All-tail, or_none, last_life-append, last_life-one, last_life-other}

no_some : {y : Dated} → ◌≡◌ {A = Option Dated} None (Some y) → ⊥
no_some e = cc

pub table_asc : (form : Form) (m : PageMap) (table : Tree) (lives : List Dated) → TableStands form m table lives → AscendBy key lives
table_asc form m table lives s = subst (AscendBy key) s.has (root_ascend form table.levels m table.root s.nodes)

pub table_typed : (form : Form) (m : PageMap) (table : Tree) (lives : List Dated) → TableStands form m table lives → All (λ d. d.life < 2 ^ 32) lives
table_typed form m table lives s = subst (λ (ds : List Dated). All (λ (d : Dated). d.life < 2 ^ 32) ds) s.has (root_typed form table.levels m table.root s.nodes)

at_most : (a b : Dated) → a.life < 2 ^ 32 → b.life < 2 ^ 32 → a.object.id ≡ b.object.id → key a ≤ key b → a.life ≤ b.life
at_most a b fa fb same le = omega (arith, same, le)

pub last_is_greatest : (form : Form) (m : PageMap) (table : Tree) (lives : List Dated) (id : ℕ) (last : Dated) → TableStands form m table lives
    → last_life id lives ≡ Some last → (last.object.id ≡ id) × All (λ d. d.object.id ≡ id → d.life ≤ last.life) lives
last_is_greatest form m table lives id last s found =
    let typed = table_typed form m table lives s in
    let own = found_in (λ (d : Dated). d.life < 2 ^ 32) id lives last found typed in (
      own.1,
      λ i d h same.
          let a = last_above id lives i d (table_asc form m table lives s) h same in
          let is : a.last ≡ last = some_first a.last last (sym a.found ∙ found) in
          at_most (get_or lives i d) last (typed i d h) own.0 (same ∙ sym own.1) (subst (λ (x : Dated). key (get_or lives i d) ≤ key x) is a.above),
    )

none_first : (a b : Option Dated) → option_or a b ≡ None → (a ≡ None) × (b ≡ None)
none_first None b e = (refl, e)
none_first (Some x) b e = absurd (no_some (sym e))

pub no_last_no_life : (id : ℕ) (lives : List Dated) → last_life id lives ≡ None → All (λ d. d.object.id ≢ id) lives
no_last_no_life id [] none = All-nil (λ (d : Dated). d.object.id ≢ id)
no_last_no_life id (x ∷ xs) none =
    let parts = none_first (last_life id xs) (last_life id (x ∷ [])) (sym (last_cons id x xs) ∙ none) in
    All-cons (λ (d : Dated). d.object.id ≢ id) x xs (λ same. no_some (sym parts.1 ∙ last_life-one id x (eq-eqb x.object.id id same))) (no_last_no_life id xs parts.0)

from_not : (a b : ℕ) → b ≤ a → a ≢ b → b < a
from_not a b not_less other = omega (arith, not_less, other)

put_some : (lives : List Dated) (d : Dated) → AscendBy key lives → HaveNot (key d) lives → (new : List Dated) × IsPutIn lives new d
put_some [] d asc none = (d ∷ [], record { before = []; after = []; was = refl; is = refl; less = All-nil (λ (e : Dated). key e < key d); more = All-nil (λ (e : Dated). key d < key e) })
put_some (x ∷ xs) d asc none = elim (cases_lt (key x) (key d)) [
  | inl less ↦
      let r = put_some xs d asc.1 (All-tail (λ (e : Dated). key e ≢ key d) x xs none) in (
        x ∷ r.0,
        record {
          before = x ∷ r.1.before;
          after = r.1.after;
          was = ap (λ (ds : List Dated). x ∷ ds) r.1.was;
          is = ap (λ (ds : List Dated). x ∷ ds) r.1.is;
          less = All-cons (λ (e : Dated). key e < key d) x r.1.before less r.1.less;
          more = r.1.more;
        },
      )
  | inr not_less ↦
      let other : key x ≢ key d = All-head (λ (e : Dated). key e ≢ key d) x xs none in
      let above : key d < key x = from_not (key x) (key d) not_less other in (
        d ∷ (x ∷ xs),
        record {
          before = [];
          after = x ∷ xs;
          was = refl;
          is = refl;
          less = All-nil (λ (e : Dated). key e < key d);
          more = All-cons (λ (e : Dated). key d < key e) x xs above (λ i e h. omega (arith, above, asc.0 i e h));
        },
      )
]

put_in_table : (form : Form) (m : PageMap) (table : Tree) (lives : List Dated) (d : Dated) → TableStands form m table lives → d.life < 2 ^ 32 → IsNewLife lives d → IsPutIn lives (with_object d lives) d
put_in_table form m table lives d s fits new =
    let asc = table_asc form m table lives s in
    let r = put_some lives d asc (new_key lives d asc (table_typed form m table lives s) fits new) in
    subst (λ (ds : List Dated). IsPutIn lives ds d) (with_object_is lives r.0 d r.1) r.1

pub entered_is_more : (form : Form) (m : PageMap) (table : Tree) (lives : List Dated) (d : Dated) → TableStands form m table lives → d.life < 2 ^ 32 → IsNewLife lives d → IsPermutation (d ∷ lives) (with_object d lives)
entered_is_more form m table lives d s fits new =
    let p = put_in_table form m table lives d s fits new in
    let moved = IsPermutation-append_left p.after ((d ∷ []) ++ p.before) (p.before ++ (d ∷ [])) (IsPermutation-append_comm (d ∷ []) p.before) in
    let right : (p.before ++ (d ∷ [])) ++ p.after ≡ with_object d lives = append_assoc p.before (d ∷ []) p.after ∙ sym p.is in
    let left : ((d ∷ []) ++ p.before) ++ p.after ≡ d ∷ lives = ap (λ (ds : List Dated). d ∷ ds) (sym p.was) in
    subst (λ (ds : List Dated). IsPermutation ds (with_object d lives)) left (subst (λ (ds : List Dated). IsPermutation (((d ∷ []) ++ p.before) ++ p.after) ds) right moved)

last_of_parts : (id : ℕ) (before : List Dated) (d : Dated) (after : List Dated) → last_life id (before ++ (d ∷ after)) ≡ option_or (option_or (last_life id after) (last_life id (d ∷ []))) (last_life id before)
last_of_parts id before d after = last_life-append id before (d ∷ after) ∙ ap (λ (o : Option Dated). option_or o (last_life id before)) (last_cons id d after)

above_life : (d y : Dated) → d.life < 2 ^ 32 → y.life < 2 ^ 32 → y.object.id ≡ d.object.id → key d < key y → y.life < d.life → ⊥
above_life d y fd fy same above less = omega (arith, same, above, less, fd, fy)

-- no life of the object's own id stands after it
none_after : (lives : List Dated) (d : Dated) (before after : List Dated) → lives ≡ before ++ after → All (λ e. e.life < 2 ^ 32) lives → d.life < 2 ^ 32 → All (λ e. key d < key e) after → IsNewLife lives d
    → (o : Option Dated) → last_life d.object.id after ≡ o → o ≡ None
none_after lives d before after was typed fits more new None is = refl
none_after lives d before after was typed fits more new (Some y) is =
    let id : ℕ = d.object.id in
    let whole : last_life id lives ≡ Some y = ap (last_life id) was ∙ last_life-append id before after ∙ ap (λ (o : Option Dated). option_or o (last_life id before)) is in
    let above = found_in (λ (e : Dated). key d < key e) id after y is more in
    let types = found_in (λ (e : Dated). e.life < 2 ^ 32) id lives y whole typed in
    absurd (above_life d y fits types.0 above.1 above.0 (new y whole))

pub entered_is_last : (form : Form) (m : PageMap) (table : Tree) (lives : List Dated) (d : Dated) (id : ℕ) → TableStands form m table lives → d.life < 2 ^ 32
    → IsNewLife lives d → last_life id (with_object d lives) ≡ (if d.object.id == id then Some d else last_life id lives)
entered_is_last form m table lives d id s fits new =
    let p = put_in_table form m table lives d s fits new in
    let all : last_life id (with_object d lives) ≡ option_or (option_or (last_life id p.after) (last_life id (d ∷ []))) (last_life id p.before) = ap (last_life id) p.is ∙ last_of_parts id p.before d p.after in
    elim (cases_eq d.object.id id) [
      | inl own ↦
          let test : (d.object.id == id) ≡ true = eq-eqb d.object.id id own in
          let none0 = none_after lives d p.before p.after p.was (table_typed form m table lives s) fits p.more new (last_life d.object.id p.after) refl in
          let none : last_life id p.after ≡ None = subst (λ (n : ℕ). last_life n p.after ≡ None) own none0 in
          all ∙ ap (λ (o : Option Dated). option_or (option_or o (last_life id (d ∷ []))) (last_life id p.before)) none
          ∙ ap (λ (o : Option Dated). option_or o (last_life id p.before)) (last_life-one id d test) ∙ sym (ap (λ (b : Bool). if b then Some d else last_life id lives) test)
      | inr other ↦
          let test : (d.object.id == id) ≡ false = ne_eqb d.object.id id other in
          let old : last_life id lives ≡ option_or (last_life id p.after) (last_life id p.before) = ap (last_life id) p.was ∙ last_life-append id p.before p.after in
          all ∙ ap (λ (o : Option Dated). option_or (option_or (last_life id p.after) o) (last_life id p.before)) (last_life-other id d test)
          ∙ ap (λ (o : Option Dated). option_or o (last_life id p.before)) (or_none (last_life id p.after)) ∙ sym old ∙ sym (ap (λ (b : Bool). if b then Some d else last_life id lives) test)
    ]

-- a map that keeps ids maps the last life
or_mapped : (f : Dated → Dated) (a b : Option Dated) → option_map f (option_or a b) ≡ option_or (option_map f a) (option_map f b)
or_mapped f None b = refl
or_mapped f (Some x) b = refl

one_mapped : (f : Dated → Dated) (id : ℕ) (x : Dated) → (f x).object.id ≡ x.object.id → last_life id (f x ∷ []) ≡ option_map f (last_life id (x ∷ []))
one_mapped f id x keeps = elim (cases_Bool (x.object.id == id)) [
  | inl here ↦ last_life-one id (f x) (ap (λ (n : ℕ). n == id) keeps ∙ here) ∙ sym (ap (option_map f) (last_life-one id x here))
  | inr other ↦ last_life-other id (f x) (ap (λ (n : ℕ). n == id) keeps ∙ other) ∙ sym (ap (option_map f) (last_life-other id x other))
]

last_mapped : (f : Dated → Dated) (id : ℕ) (ds : List Dated) → ((d : Dated) → (f d).object.id ≡ d.object.id) → last_life id (map f ds) ≡ option_map f (last_life id ds)
last_mapped f id [] keeps = refl
last_mapped f id (x ∷ xs) keeps =
    last_cons id (f x) (map f xs) ∙ ap (λ (o : Option Dated). option_or o (last_life id (f x ∷ []))) (last_mapped f id xs keeps)
    ∙ ap (λ (o : Option Dated). option_or (option_map f (last_life id xs)) o) (one_mapped f id x (keeps x)) ∙ sym (or_mapped f (last_life id xs) (last_life id (x ∷ [])))
    ∙ ap (option_map f) (sym (last_cons id x xs))

abbrev withdrawing : ℕ → ℕ → ℕ → Dated → Dated
withdrawing k version event d = if k == key d then withdrawn_at version event d else d

keeps_id : (k version event : ℕ) (d : Dated) → (withdrawing k version event d).object.id ≡ d.object.id
keeps_id k version event d = elim (cases_Bool (k == key d)) [
  | inl here ↦ ap (λ (b : Bool). (if b then withdrawn_at version event d else d).object.id) here
  | inr other ↦ ap (λ (b : Bool). (if b then withdrawn_at version event d else d).object.id) other
]

other_kept : (k version event : ℕ) (o : Option Dated) → ((y : Dated) → o ≡ Some y → (k == key y) ≡ false) → option_map (withdrawing k version event) o ≡ o
other_kept k version event None other = refl
other_kept k version event (Some y) other = ap (λ (b : Bool). Some (if b then withdrawn_at version event y else y)) (other y refl)

same_ids : (a b : Dated) → a.life < 2 ^ 32 → b.life < 2 ^ 32 → key a ≡ key b → a.object.id ≡ b.object.id
same_ids a b fa fb e = omega (arith, e, fa, fb)

pub withdrawn_is_last : (form : Form) (m : PageMap) (table : Tree) (lives : List Dated) (id version event : ℕ) (last : Dated) (other : ℕ) → TableStands form m table lives → last_life id lives ≡ Some last
    → last_life other (with_withdrawal id version event lives) ≡ (if id == other then Some (withdrawn_at version event last) else last_life other lives)
withdrawn_is_last form m table lives id version event last other s found =
    let k : ℕ = key last in
    let typed = table_typed form m table lives s in
    let own = found_in (λ (d : Dated). d.life < 2 ^ 32) id lives last found typed in
    let is : with_withdrawal id version event lives ≡ map (withdrawing k version event) lives =
    ap (λ (o : Option Dated). map (λ (d : Dated). if option_map_or (λ (l : Dated). key l == key d) o false then withdrawn_at version event d else d) lives) found in
    let all = ap (last_life other) is ∙ last_mapped (withdrawing k version event) other lives (keeps_id k version event) in
    elim (cases_eq id other) [
      | inl same ↦
          let test : (id == other) ≡ true = eq-eqb id other same in
          let found1 : last_life other lives ≡ Some last = subst (λ (n : ℕ). last_life n lives ≡ Some last) same found in
          let here : (k == key last) ≡ true = eq-eqb k k refl in
          all ∙ ap (option_map (withdrawing k version event)) found1 ∙ ap (λ (b : Bool). Some (if b then withdrawn_at version event last else last)) here
          ∙ sym (ap (λ (b : Bool). if b then Some (withdrawn_at version event last) else last_life other lives) test)
      | inr differ ↦
          let test : (id == other) ≡ false = ne_eqb id other differ in
          let kept = other_kept k version event (last_life other lives) (λ y at.
          let y_is = found_in (λ (d : Dated). d.life < 2 ^ 32) other lives y at typed in
          ne_eqb k (key y) (λ e. differ (sym own.1 ∙ same_ids last y own.0 y_is.0 e ∙ y_is.1))) in
          all ∙ kept ∙ sym (ap (λ (b : Bool). if b then Some (withdrawn_at version event last) else last_life other lives) test)
    ]
