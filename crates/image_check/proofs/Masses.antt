-- The masses of changes.
use Rattle.std.proofs.Common.{◌≡◌, ◌^◌, nat_abs, if◌then◌else◌, ℕ, zero, suc, ◌+◌, ◌<◌, ◌≤◌, true, false, List, [], ◌∷◌, ◌++◌, length, get_or, map, take, drop, refl, sym, ◌∙◌, ap, subst, arith}
use Rattle.std.specs.List.{All, list_all}
use Rattle.std.proofs.lemmas.List.Elements.{All-cons, All-nil}
use Rattle.std.proofs.lemmas.Bool.{and_from, and_parts}
use Rattle.std.proofs.lemmas.List.{take_more, take-append-drop, map-append}
use Rattle.std.proofs.lemmas.List.Folds.{list_all-append}
use Rattle.std.proofs.lemmas.List.Sums.{sum_by-append, sum_by-cons}
use Rattle.bw_types.specs.Fits.{row_fits}
use Rattle.bw_types.specs.History.{History, changes, flat, flat_row}
use Rattle.bw_types.specs.Lawful.{AreLawfulAfter, IsLawful, staged_rows}
use Rattle.bw_types.specs.Refusals.{added_mass, total_mass}
use Rattle.bw_types.specs.declared.change.Change.{Change}
use Rattle.bw_types.specs.declared.params.Params.{Params}
use Rattle.bw_types.specs.declared.row.Row.{Row}
use Rattle.bw_types.specs.declared.row.Row.TheVariants as row
use Rattle.bw_types.specs.declared.change.Change.TheVariants as change
use Rattle.history_laws.specs.Bounds.{HasSmallWeight}
use Rattle.object_table.proofs.Searching.{All-head, All-tail}
use Rattle.history_laws.proofs.Staging.{flat_staged}
use Rattle.page_warehouse.specs.Events.{change_in}
use Rattle.page_warehouse.specs.declared.event.Event.{Event}
use Rattle.image_check.specs.Fitting.{change_fits}

-- one change more
pub mass_more : (params : Params) (es : List Event) (i : ℕ) (d : Event) → i < length es
    → total_mass params (map change_in (take (i + 1) es)) ≡ total_mass params (map change_in (take i es)) + added_mass params (change_in (get_or es i d))
mass_more params es i d lt =
    let one = sum_by-cons (added_mass params) (change_in (get_or es i d)) [] in
    let both = sum_by-append (added_mass params) (map change_in (take i es)) (change_in (get_or es i d) ∷ []) in
    ap (λ (xs : List Event). total_mass params (map change_in xs)) (take_more es i d lt)
    ∙ ap (total_mass params) (map-append change_in (take i es) (get_or es i d ∷ []))
    ∙ (let e : total_mass params (map change_in (take i es) ++ (change_in (get_or es i d) ∷ [])) ≡ total_mass params (map change_in (take i es)) + added_mass params (change_in (get_or es i d)) = omega (arith, one, both) in e)

-- a front has no more mass
pub front_mass : (params : Params) (es : List Event) (k : ℕ) → total_mass params (map change_in (take k es)) ≤ total_mass params (map change_in es)
front_mass params es k =
    let whole : map change_in es ≡ map change_in (take k es) ++ map change_in (drop k es) = ap (map change_in) (sym (take-append-drop k es)) ∙ map-append change_in (take k es) (drop k es) in
    let both = sum_by-append (added_mass params) (map change_in (take k es)) (map change_in (drop k es)) in
    omega (arith, ap (total_mass params) whole, both)

-- each of changes that all fit does
pub fits_at : (params : Params) (es : List Event) (i : ℕ) (d : Event) → i < length es → list_all (change_fits params) (map change_in es) ≡ true → change_fits params (change_in (get_or es i d)) ≡ true
fits_at params [] i d lt all = absurd (omega (arith, lt))
fits_at params (e ∷ es) zero d lt all = (and_parts (change_fits params (change_in e)) (list_all (change_fits params) (map change_in es)) all).0
fits_at params (e ∷ es) (suc i) d lt all = fits_at params es i d (omega (arith, lt)) (and_parts (change_fits params (change_in e)) (list_all (change_fits params) (map change_in es)) all).1

-- the changes of rows that fit
row_fits_each : (params : Params) (r : Row) → row_fits params r ≡ true → list_all (change_fits params) (flat_row r) ≡ true
row_fits_each params (row.Add o) h = and_from _ _ h refl
row_fits_each params (row.Withdraw id) h = refl
row_fits_each params (row.Move o) h = and_from _ _ h refl

rows_fit_each : (params : Params) (rows : List Row) → list_all (row_fits params) rows ≡ true → list_all (change_fits params) (flat rows) ≡ true
rows_fit_each params [] h = refl
rows_fit_each params (r ∷ rows) h =
    let both = and_parts _ _ h in
    list_all-append (change_fits params) (flat_row r) (flat rows) ∙ and_from _ _ (row_fits_each params r both.0) (rows_fit_each params rows both.1)

after_fit : (params : Params) (before h : History) → AreLawfulAfter params before h → list_all (change_fits params) (changes h) ≡ true
after_fit params before [] l = refl
after_fit params before (b ∷ bs) l =
    let own : list_all (change_fits params) b ≡ true = subst (λ (cs : List Change). list_all (change_fits params) cs ≡ true) (flat_staged b) (rows_fit_each params (staged_rows b) (sym (sym l.0.fits))) in
    list_all-append (change_fits params) b (changes bs) ∙ and_from _ _ own (after_fit params (before ++ b ∷ []) bs l.1)

-- the changes of a lawful history fit
pub lawful_fit : (params : Params) (h : History) → IsLawful params h → list_all (change_fits params) (changes h) ≡ true
lawful_fit params h l = after_fit params [] h l

-- the weight of the object that an event adds
small_change : (e : Event) → nat_abs e.object.weight ≤ 2 ^ 63 → HasSmallWeight (change_in e)
small_change e small = elim e.add as (λ b. HasSmallWeight (if b then change.Add e.object else change.Withdraw e.object.id)) [ true ↦ small | false ↦ tt ]

-- the changes of events whose weights are small
pub small_changes : (es : List Event) → All (λ e. nat_abs e.object.weight ≤ 2 ^ 63) es → All HasSmallWeight (map change_in es)
small_changes [] all = All-nil HasSmallWeight
small_changes (e ∷ es) all =
    All-cons HasSmallWeight (change_in e) (map change_in es) (small_change e (All-head (λ (x : Event). nat_abs x.object.weight ≤ 2 ^ 63) e es all))
    (small_changes es (All-tail (λ (x : Event). nat_abs x.object.weight ≤ 2 ^ 63) e es all))
