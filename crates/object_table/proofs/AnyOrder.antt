-- A table's objects listed in another order, as a history tells them.
use Rattle.std.proofs.Common.{◌≡◌, ◌≢◌, ℕ, zero, suc, ◌<◌, ◌≤◌, ◌==◌, ◌^◌, if◌then◌else◌, false, List, [], ◌∷◌, get_or, length, map, Option, Some, None, refl, sym, ap, ◌∙◌, subst, arith}
use Rattle.std.specs.List.{All}
use Rattle.std.specs.List.Sorted.{IsPermutation}
use Rattle.std.specs.Option.{option_map_or}
use Rattle.std.proofs.lemmas.List.Sorted.{All-permutation, IsPermutation-sym, IsPermutation-map}
use Rattle.bw_types.specs.declared.dated.Dated.{Dated}
use Rattle.bw_types.specs.declared.tree.Tree.{Tree}
use Rattle.ports.specs.Pages.{PageMap}
use Rattle.object_table.specs.declared.form.Form.{Form}
use Rattle.object_table.specs.Keys.{key, AscendBy}
use Rattle.object_table.specs.Laws.{LastsAreGreatest}
use Rattle.object_table.specs.Lives.{last_life}
use Rattle.object_table.specs.Edits.{withdrawn_at, with_withdrawal}
use Rattle.object_table.specs.Stands.{TableStands}
use Rattle.object_table.proofs.LastAfter.{table_asc, table_typed, last_is_greatest, no_last_no_life}
use Rattle.object_table.proofs.LastOnes.{found_in}

-- in a list that ascends one key is of one object
one_key : (lives : List Dated) (b : Dated) (i : ℕ) (d : Dated) → AscendBy key lives → i < length lives → key (get_or lives i d) ≡ key b
    → (j : ℕ) (e : Dated) → j < length lives → key (get_or lives j e) ≡ key b → get_or lives i d ≡ get_or lives j e
one_key [] b i d asc h same j e g other = absurd (omega (arith, h))
one_key (x ∷ xs) b zero d asc h same zero e g other = refl
one_key (x ∷ xs) b zero d asc h same (suc j) e g other = absurd (omega (arith, same, other, asc.0 j e (omega (arith, g))))
one_key (x ∷ xs) b (suc i) d asc h same zero e g other = absurd (omega (arith, same, other, asc.0 i d (omega (arith, h))))
one_key (x ∷ xs) b (suc i) d asc h same (suc j) e g other = one_key xs b i d asc.1 (omega (arith, h)) same j e (omega (arith, g)) other

-- what is found has each property that each object has
same_found : (lives : List Dated) (id : ℕ) (b : Dated) → AscendBy key lives → last_life id lives ≡ Some b → All (λ d. key d ≡ key b → d ≡ b) lives
same_found lives id b asc found = λ i d h same.
    (found_in (λ (y : Dated). key (get_or lives i d) ≡ key y → get_or lives i d ≡ y) id lives b found
    (λ j e g other. one_key lives (get_or lives j e) i d asc h other j e g refl)).0 same

below_key : (d a : Dated) → d.life ≤ a.life → d.object.id ≡ a.object.id → key d ≤ key a
below_key d a le same = omega (arith, le, same)

even : (a b : ℕ) → a ≤ b → b ≤ a → a ≡ b
even a b le ge = omega (arith, le, ge)

no_some : {y : Dated} → ◌≡◌ {A = Option Dated} None (Some y) → ⊥
no_some e = cc

found_same : (form : Form) (m : PageMap) (table : Tree) (lives others : List Dated) (id : ℕ) (a b : Dated) → TableStands form m table lives → IsPermutation others lives → LastsAreGreatest others
    → last_life id others ≡ Some a → last_life id lives ≡ Some b → a ≡ b
found_same form m table lives others id a b s perm greatest at found =
    let typed = table_typed form m table lives s in
    let own_b = found_in (λ (d : Dated). d.life < 2 ^ 32) id lives b found typed in
    let own_a : a.object.id ≡ id = (found_in (λ (d : Dated). d.life ≡ d.life) id others a at (λ i d h. refl)).1 in
    let all_a : All (λ d. d.object.id ≡ id → d.life ≤ a.life) lives = All-permutation (λ (d : Dated). d.object.id ≡ id → d.life ≤ a.life) others lives perm (greatest id a at) in
    let all_b = All-permutation (λ (d : Dated). d.object.id ≡ id → d.life ≤ b.life) lives others (IsPermutation-sym others lives perm) (last_is_greatest form m table lives id b s found).1 in
    let b_le : b.life ≤ a.life = (found_in (λ (d : Dated). d.object.id ≡ id → d.life ≤ a.life) id lives b found all_a).0 own_b.1 in
    let a_le : a.life ≤ b.life = (found_in (λ (d : Dated). d.object.id ≡ id → d.life ≤ b.life) id others a at all_b).0 own_a in
    let keys : key a ≡ key b = even (key a) (key b) (below_key a b a_le (own_a ∙ sym own_b.1)) (below_key b a b_le (own_b.1 ∙ sym own_a)) in
    let same = All-permutation (λ (d : Dated). key d ≡ key b → d ≡ b) lives others (IsPermutation-sym others lives perm) (same_found lives id b (table_asc form m table lives s) found) in
    (found_in (λ (d : Dated). key d ≡ key b → d ≡ b) id others a at same).0 keys

go : (form : Form) (m : PageMap) (table : Tree) (lives others : List Dated) (id : ℕ) (o p : Option Dated) → TableStands form m table lives → IsPermutation others lives → LastsAreGreatest others
    → last_life id others ≡ o → last_life id lives ≡ p → o ≡ p
go form m table lives others id None None s perm greatest at found = refl
go form m table lives others id (Some a) (Some b) s perm greatest at found = ap (λ (d : Dated). Some d) (found_same form m table lives others id a b s perm greatest at found)
go form m table lives others id None (Some b) s perm greatest at found =
    let none = All-permutation (λ (d : Dated). d.object.id ≢ id) others lives perm (no_last_no_life id others at) in
    absurd ((found_in (λ (d : Dated). d.object.id ≢ id) id lives b found none).0 (found_in (λ (d : Dated). d.life ≡ d.life) id lives b found (λ i d h. refl)).1)
go form m table lives others id (Some a) None s perm greatest at found =
    let none = All-permutation (λ (d : Dated). d.object.id ≢ id) lives others (IsPermutation-sym others lives perm) (no_last_no_life id lives found) in
    absurd ((found_in (λ (d : Dated). d.object.id ≢ id) id others a at none).0 (found_in (λ (d : Dated). d.life ≡ d.life) id others a at (λ i d h. refl)).1)

pub last_in_any_order : (form : Form) (m : PageMap) (table : Tree) (lives others : List Dated) (id : ℕ) → TableStands form m table lives → IsPermutation others lives → LastsAreGreatest others
    → last_life id others ≡ last_life id lives
last_in_any_order form m table lives others id s perm greatest =
    go form m table lives others id (last_life id others) (last_life id lives) s perm greatest refl refl

pub withdrawn_in_any_order : (form : Form) (m : PageMap) (table : Tree) (lives others : List Dated) (id version event : ℕ) → TableStands form m table lives → IsPermutation others lives → LastsAreGreatest others
    → IsPermutation (with_withdrawal id version event others) (with_withdrawal id version event lives)
withdrawn_in_any_order form m table lives others id version event s perm greatest =
    let f : Option Dated → Dated → Dated = λ o d. if option_map_or (λ (last : Dated). key last == key d) o false then withdrawn_at version event d else d in
    let mapped = IsPermutation-map (f (last_life id lives)) others lives perm in
    subst (λ (o : Option Dated). IsPermutation (map (f o) others) (with_withdrawal id version event lives)) (sym (last_in_any_order form m table lives others id s perm greatest)) mapped
