-- The last life of an id in a list that ascends.
use Rattle.std.proofs.Common.{◌≡◌, ℕ, zero, suc, ◌^◌, ◌<◌, ◌≤◌, ◌==◌, inl, inr, List, [], ◌∷◌, length, get_or, Option, Some, None, refl, sym, ap, ◌∙◌, subst, arith}
use Rattle.std.specs.List.{All}
use Rattle.std.specs.Option.{option_or}
use Rattle.std.proofs.lemmas.Bool.{cases_Bool, eqb-true, eq-eqb}
use Rattle.std.proofs.lemmas.List.Elements.{All-nil}
use Rattle.bw_types.specs.declared.dated.Dated.{Dated}
use Rattle.bw_types.specs.declared.tree.Tree.{Tree}
use Rattle.ports.specs.Pages.{PageMap}
use Rattle.object_table.specs.declared.form.Form.{Form}
use Rattle.object_table.specs.declared.form.Form.TheVariants.{ByLives}
use Rattle.object_table.specs.Keys.{key, key_end, AscendBy}
use Rattle.object_table.specs.Lives.{last_life, lives_below}
use Rattle.object_table.specs.Damage.{HaveNot}
use Rattle.object_table.specs.Edits.{IsNewLife}
use Rattle.object_table.specs.Stands.{RootStands, TableStands}
use Rattle.object_table.proofs.Ascending.{root_ascend}
use Rattle.object_table.proofs.Searching.{All-head, All-tail, last_life-append, last_life-one, last_life-other}
use Rattle.object_table.proofs.Within.{lives_within}

pub some_first : (x y : Dated) → Some x ≡ Some y → x ≡ y
some_first x y e = cc

no_some : {y : Dated} → ◌≡◌ {A = Option Dated} None (Some y) → ⊥
no_some e = cc

pub last_cons : (id : ℕ) (x : Dated) (xs : List Dated) → last_life id (x ∷ xs) ≡ option_or (last_life id xs) (last_life id (x ∷ []))
last_cons id x xs = last_life-append id (x ∷ []) xs

one_found : (P : Dated → Type 0) (id : ℕ) (x l : Dated) → last_life id (x ∷ []) ≡ Some l → P x → P l × (l.object.id ≡ id)
one_found P id x l found here = elim (cases_Bool (x.object.id == id)) [
  | inl here_id ↦
      let same : x ≡ l = some_first x l (sym (last_life-one id x here_id) ∙ found) in
      (subst P same here, subst (λ (d : Dated). d.object.id ≡ id) same (eqb-true x.object.id id here_id))
  | inr other ↦ absurd (no_some (sym (last_life-other id x other) ∙ found))
]

found_step : (P : Dated → Type 0) (id : ℕ) (x : Dated) (xs : List Dated) (l : Dated) → last_life id (x ∷ xs) ≡ Some l → P x
    → ((y : Dated) → last_life id xs ≡ Some y → P y × (y.object.id ≡ id)) → (o : Option Dated) → last_life id xs ≡ o → P l × (l.object.id ≡ id)
found_step P id x xs l found here rest None none =
    one_found P id x l (sym (ap (λ (o : Option Dated). option_or o (last_life id (x ∷ []))) none) ∙ sym (last_cons id x xs) ∙ found) here
found_step P id x xs l found here rest (Some y) some =
    let whole : last_life id (x ∷ xs) ≡ Some y = last_cons id x xs ∙ ap (λ (o : Option Dated). option_or o (last_life id (x ∷ []))) some in
    let same : y ≡ l = some_first y l (sym whole ∙ found) in
    rest l (some ∙ ap (λ (d : Dated). Some d) same)

-- What is found is among the objects, and has the id.
pub found_in : (P : Dated → Type 0) (id : ℕ) (ds : List Dated) (l : Dated) → last_life id ds ≡ Some l → All P ds → P l × (l.object.id ≡ id)
found_in P id [] l found all = absurd (no_some found)
found_in P id (x ∷ xs) l found all = found_step P id x xs l found (All-head P x xs all) (λ y some. found_in P id xs y some (All-tail P x xs all)) (last_life id xs) refl

pub record Above (id k : ℕ) (ds : List Dated) : Type 0 where
  pub last : Dated
  pub found : last_life id ds ≡ Some last
  pub above : k ≤ key last

later_above : (id k : ℕ) (x : Dated) (xs : List Dated) → Above id k xs → Above id k (x ∷ xs)
later_above id k x xs a = record { last = a.last; found = last_cons id x xs ∙ ap (λ (o : Option Dated). option_or o (last_life id (x ∷ []))) a.found; above = a.above }

first_above : (id : ℕ) (x : Dated) (xs : List Dated) → All (λ y. key x < key y) xs → x.object.id ≡ id → (o : Option Dated) → last_life id xs ≡ o → Above id (key x) (x ∷ xs)
first_above id x xs asc same None none = record {
  last = x;
  found = last_cons id x xs ∙ ap (λ (o : Option Dated). option_or o (last_life id (x ∷ []))) none ∙ last_life-one id x (eq-eqb x.object.id id same);
  above = omega arith;
}
first_above id x xs asc same (Some y) some =
    let more : key x < key y = (found_in (λ (d : Dated). key x < key d) id xs y some asc).0 in
    later_above id (key x) x xs (record { last = y; found = some; above = omega (arith, more) })

-- The last life is at or above each of the id.
pub last_above : (id : ℕ) (ds : List Dated) (i : ℕ) (d : Dated) → AscendBy key ds → i < length ds → (get_or ds i d).object.id ≡ id → Above id (key (get_or ds i d)) ds
last_above id [] i d asc h same = absurd (omega (arith, h))
last_above id (x ∷ xs) zero d asc h same = first_above id x xs asc.0 same (last_life id xs) refl
last_above id (x ∷ xs) (suc i) d asc h same = later_above id (key (get_or xs i d)) x xs (last_above id xs i d asc.1 (omega (arith, h)) same)

same_id : (a b : Dated) → a.life < 2 ^ 32 → b.life < 2 ^ 32 → key a ≡ key b → a.object.id ≡ b.object.id
same_id a b fa fb e = omega (arith, e, fa, fb)

-- A new life has a key that no object has.
pub new_key : (lives : List Dated) (d : Dated) → AscendBy key lives → All (λ e. e.life < 2 ^ 32) lives → d.life < 2 ^ 32 → IsNewLife lives d → HaveNot (key d) lives
new_key lives d asc typed fits new = λ i e h same.
    let id = same_id (get_or lives i e) d (typed i e h) fits same in
    let a = last_above d.object.id lives i e asc h id in
    let less : a.last.life < d.life = new a.last a.found in
    let own : a.last.object.id ≡ d.object.id = (found_in (λ (x : Dated). x.life < 2 ^ 32) d.object.id lives a.last a.found typed).1 in
    omega (arith, a.above, same, less, own)

pub root_typed : (form : Form) (levels : ℕ) (m : PageMap) (root : ℕ) → RootStands form levels m root → All (λ e. e.life < 2 ^ 32) (lives_below form levels m root)
root_typed form zero m root s = All-nil (λ (e : Dated). e.life < 2 ^ 32)
root_typed form (suc level) m root s = λ i e h. (lives_within form (suc level) m root 0 key_end 1 s i e h).typed

pub fresh_in_table : (m : PageMap) (table : Tree) (lives : List Dated) (d : Dated) → TableStands ByLives m table lives → d.life < 2 ^ 32 → IsNewLife lives d
    → HaveNot (key d) (lives_below ByLives table.levels m table.root)
fresh_in_table m table lives d s fits new =
    new_key (lives_below ByLives table.levels m table.root) d (root_ascend ByLives table.levels m table.root s.nodes) (root_typed ByLives table.levels m table.root s.nodes) fits
    (subst (λ (ds : List Dated). IsNewLife ds d) (sym s.has) new)
