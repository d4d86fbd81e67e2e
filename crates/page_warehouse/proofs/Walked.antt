-- A walk through the object table of a disk that holds a history.
use Rattle.std.proofs.Common.{◌≡◌, ℕ, suc, ◌-◌, ◌^◌, ◌<◌, ◌≤◌, nat_le, Bool, ◌==◌, List, [], ◌∷◌, ◌++◌, Option, Some, None, SomeIff, refl, sym, ◌∙◌, ap, subst, arith, inl, inr, if◌then◌else◌}
use Rattle.std.proofs.lemmas.Bool.{cases_Bool, leb-false, leb-true, le-leb, ne_eqb}
use Rattle.std.specs.List.{All}
use Rattle.std.specs.Option.{option_to_list}
use Rattle.bw_types.specs.History.{History}
use Rattle.bw_types.specs.declared.dated.Dated.{Dated}
use Rattle.bw_types.specs.declared.params.Params.{Params}
use Rattle.page_disk.specs.Image.{Image}
use Rattle.page_layout.specs.declared.meta.Meta.{Meta}
use Rattle.ports.specs.Pages.{PageMap}
use Rattle.page_space.specs.Laws.{HoldsOne}
use Rattle.page_space.specs.Space.{HoldsSpace}
use Rattle.object_table.specs.Keys.{key}
use Rattle.object_table.specs.Laws.{LivesAscend}
use Rattle.object_table.specs.Lives.{AreNext, first_from, from_id, from_life, lives_from}
use Rattle.object_table.specs.Stands.{TableStands}
use Rattle.object_table.specs.declared.form.Form.{Form}
use Rattle.object_table.specs.declared.form.Form.TheVariants.{ByIds, ByLives}
use Rattle.dom_index.specs.declared.index.DomIndex.{Ghosts}
use Rattle.page_warehouse.specs.Holds.{Holds, table_form}
use Rattle.page_warehouse.specs.Table.{IsTableOf, KeepsLives}
use Rattle.page_warehouse.proofs.Opened.{unordered}

-- The object table of these pages stands for the lives.
record Walks (meta : Meta) (map : PageMap) (kept : List Dated) : Type 0 where
  pub stands : TableStands (table_form meta) map meta.table kept
  pub first : meta.lives ≡ 0 → All (λ d. d.life ≡ 1) kept

by_ids : (meta : Meta) → meta.lives ≡ 0 → table_form meta ≡ ByIds
by_ids meta none = ap (λ (n : ℕ). if n == 0 then ByIds else ByLives) none

by_lives : (meta : Meta) → (meta.lives ≡ 0 → ⊥) → table_form meta ≡ ByLives
by_lives meta some = ap (λ (b : Bool). if b then ByIds else ByLives) (ne_eqb meta.lives 0 some)

module _ {X : Type 0} (g : Ghosts X) where
  pub table_kept : LivesAscend → (x : Image) (params : Params) (h : History) → Holds g x params h → (kept : List Dated) × IsTableOf g x params h kept
  table_kept ascend x params h held = (
    held.table.kept,
    record {
      keeps = record { holds = held; table = refl };
      all = held.table.all;
      ascend = ascend (table_form held.meta) held.pages held.meta.table held.table.kept held.table.stands;
    },
  )

  -- the table of the space that is open on the disk
  walks_here : HoldsOne → (x : Image) (params : Params) (meta : Meta) (map : PageMap) (ordered : Type 0) → HoldsSpace x params meta map ordered → (h : History) (kept : List Dated)
      → KeepsLives g x params h kept → Walks meta map kept
  walks_here one x params meta map ordered space h kept keeps =
      let held = keeps.holds in
      let same = one x params params held.meta meta held.pages map (unordered x params held.meta held.pages (Unit {0}) held.space) (unordered x params meta map ordered space) in
      let at : Walks held.meta held.pages kept = subst (λ (ds : List Dated). Walks held.meta held.pages ds) keeps.table (record { stands = held.table.stands; first = held.table.first }) in
      subst (λ (m : PageMap). Walks meta m kept) same.2 (subst (λ (m : Meta). Walks m held.pages kept) same.1 at)

  -- by the meta page as it is read: its form, and its table
  pub by_ids_here : HoldsOne → (x : Image) (params : Params) (meta : Meta) (map : PageMap) (ordered : Type 0) → HoldsSpace x params meta map ordered → (h : History) (kept : List Dated)
      → KeepsLives g x params h kept → (form table : Meta) → form ≡ meta → table ≡ meta → form.lives ≡ 0 → TableStands ByIds map table.table kept × All (λ d. d.life ≡ 1) kept
  by_ids_here one x params meta map ordered space h kept keeps form table is at none =
      let walks = walks_here one x params meta map ordered space h kept keeps in
      let none_there : meta.lives ≡ 0 = sym (ap (λ (m : Meta). m.lives) is) ∙ none in
      let stands = subst (λ (f : Form). TableStands f map meta.table kept) (by_ids meta none_there) walks.stands in
      (subst (λ (m : Meta). TableStands ByIds map m.table kept) (sym at) stands, walks.first none_there)

  pub by_lives_here : HoldsOne → (x : Image) (params : Params) (meta : Meta) (map : PageMap) (ordered : Type 0) → HoldsSpace x params meta map ordered → (h : History) (kept : List Dated)
      → KeepsLives g x params h kept → (form table : Meta) → form ≡ meta → table ≡ meta → (form.lives ≡ 0 → ⊥) → TableStands ByLives map table.table kept
  by_lives_here one x params meta map ordered space h kept keeps form table is at some =
      let walks = walks_here one x params meta map ordered space h kept keeps in
      let stands = subst (λ (f : Form). TableStands f map meta.table kept) (by_lives meta (λ none. some (ap (λ (m : Meta). m.lives) is ∙ none))) walks.stands in
      subst (λ (m : Meta). TableStands ByLives map m.table kept) (sym at) stands

le_alike : (a b k : ℕ) → (a ≤ k → b ≤ k) → (b ≤ k → a ≤ k) → nat_le a k ≡ nat_le b k
le_alike a b k f g = elim (cases_Bool (nat_le a k)) [
  | inl below ↦ below ∙ sym (le-leb b k (f (leb-true a k below)))
  | inr above ↦ elim (cases_Bool (nat_le b k)) [
    | inl so ↦ absurd (omega (arith, leb-false a k above, g (leb-true b k so)))
    | inr neither ↦ above ∙ sym neither
  ]
]

-- numbers between which no first life has its key give the same
first_alike : (a b : ℕ) (kept : List Dated) → ((d : Dated) → d.life ≡ 1 → (a ≤ key d → b ≤ key d) × (b ≤ key d → a ≤ key d)) → All (λ d. d.life ≡ 1) kept
    → first_from a kept ≡ first_from b kept
first_alike a b [] alike first = refl
first_alike a b (d ∷ kept) alike first =
    let both = alike d (first 0 d (omega arith)) in
    let here : nat_le a (key d) ≡ nat_le b (key d) = le_alike a b (key d) both.0 both.1 in
    rw here (ap (λ (o : Option Dated). if nat_le b (key d) then Some d else o) (first_alike a b kept alike (λ k e lt. first (suc k) e (omega arith))))

-- from after a life on, no other life of its id comes
pub from_its_id : (id life : ℕ) (kept : List Dated) → (life ≡ 0 → ⊥) → life < 2 ^ 32 → All (λ d. d.life ≡ 1) kept → first_from (from_id (Some id)) kept ≡ first_from (from_life (Some (id, life))) kept
from_its_id id life kept some small first =
    first_alike (from_id (Some id)) (from_life (Some (id, life))) kept (λ d one.
    (λ a. omega (arith, one, small, a), λ b. omega (arith, one, small, b, some))) first

-- from the id on, its first life comes too
pub from_before : (id life : ℕ) (found : Option ℕ) (kept : List Dated) → life ≡ 0 → SomeIff found (1 ≤ id) (id - 1) → All (λ d. d.life ≡ 1) kept → first_from (from_id found) kept ≡ first_from (from_life (Some (id, life))) kept
from_before id life None kept first_life none first = first_alike (from_id None) (from_life (Some (id, life))) kept (λ d one. (λ a. omega (arith, one, first_life, none), λ b. omega arith)) first
from_before id life (Some before) kept first_life is first =
    first_alike (from_id (Some before)) (from_life (Some (id, life))) kept (λ d one. (λ a. omega (arith, one, first_life, is.0, is.1, a), λ b. omega (arith, one, first_life, is.0, is.1, b))) first

-- The first life from a key on is next, alone.
first_alone : (least : ℕ) (kept : List Dated) → (later : List Dated) × (lives_from least kept ≡ option_to_list (first_from least kept) ++ later) × (option_to_list (first_from least kept) ≡ [] → later ≡ [])
first_alone least [] = ([], refl, λ none. refl)
first_alone least (d ∷ kept) = elim (cases_Bool (nat_le least (key d))) [
  | inl here ↦ rw here (lives_from least kept, refl, λ none. absurd cc)
  | inr below ↦ rw below (first_alone least kept)
]

pub next_alone : (least : ℕ) (kept : List Dated) (found : Option Dated) (row : List Dated) → row ≡ option_to_list found → found ≡ first_from least kept → AreNext row least kept
next_alone least kept found row alone is =
    let begins = first_alone least kept in
    subst (λ (ds : List Dated). AreNext ds least kept) (sym (alone ∙ ap option_to_list is)) (record { later = begins.0; cut = begins.1; some = begins.2 })
