-- The rows of a batch in turn.
use Rattle.std.proofs.Common.{◌≡◌, ℕ, ◌+◌, ◌*◌, ◌<◌, ◌≤◌, List, [], ◌∷◌, ◌++◌, length, get_or, take, drop, refl, add-one, sym, ◌∙◌, ap, subst, arith, length-append, pos}
use Rattle.std.proofs.Math.Seq.{drop-cons}
use Rattle.std.proofs.lemmas.Grind.{flat_map-append}
use Rattle.std.proofs.lemmas.List.{take_more, take-append-drop, append-nil}
use Rattle.bw_types.specs.History.{History, flat, flat_row}
use Rattle.std.proofs.lemmas.List.Sums.{sum_by-append}
use Rattle.bw_types.specs.Lawful.{IsLawfulBatch}
use Rattle.bw_types.specs.Refusals.{added_mass, total_mass}
use Rattle.bw_types.specs.declared.change.Change.{Change}
use Rattle.bw_types.specs.declared.params.Params.{Params}
use Rattle.bw_types.specs.declared.row.Row.{Row}
use Rattle.bw_types.specs.declared.row.Row.TheVariants as row
use Rattle.ports.specs.Calls.{WentOn}
use Rattle.ports.specs.declared.pages.Pages.{Ghosts as PageGhosts}
use Rattle.dom_index.specs.declared.index.DomIndex.{Ghosts}
use Rattle.page_warehouse.specs.Begun.{with_changes}
use Rattle.page_warehouse.specs.Entering.{PagesWait}
use Rattle.page_warehouse.specs.declared.roots.Roots.{Roots}
use Rattle.corner_forest.specs.declared.entry.Entry.{Entry as Waiting}

-- With these changes in the table so much is given out for each, and the trees wait.
pub record ToldSoFar {P X : Type 0} (s : PageGhosts P) (g : Ghosts X) (old now : P) (roots : Roots) (version : ℕ) (h : History) (done : List Change) (waiting : List Waiting) : Type 0 where
  pub went : WentOn s (8 * length done) old now
  pub wait : PagesWait g (s.map now) roots version (with_changes h done) waiting

-- one row more
pub flat-more : (rows : List Row) (i : ℕ) (d : Row) → i < length rows → flat (take (i + 1) rows) ≡ flat (take i rows) ++ flat_row (get_or rows i d)
flat-more rows i d within =
    ap flat (take_more rows i d within) ∙ flat_map-append flat_row (take i rows) (get_or rows i d ∷ [])
    ∙ ap (λ cs. flat (take i rows) ++ cs) (append-nil (flat_row (get_or rows i d)))

rest-at : (rows : List Row) (i : ℕ) (d : Row) → i < length rows → drop i rows ≡ get_or rows i d ∷ drop (i + 1) rows
rest-at rows i d within = drop-cons rows i d within ∙ rw (add-one i) refl

-- the rows before, this one and those after it
pub flat-at : (rows : List Row) (i : ℕ) (d : Row) → i < length rows → flat rows ≡ flat (take i rows) ++ (flat_row (get_or rows i d) ++ flat (drop (i + 1) rows))
flat-at rows i d within =
    ap flat (sym (take-append-drop i rows)) ∙ flat_map-append flat_row (take i rows) (drop i rows)
    ∙ ap (λ (rs : List Row). flat (take i rows) ++ flat rs) (rest-at rows i d within)

pub batch-at : (params : Params) (h : History) (rows : List Row) (i : ℕ) (d : Row) → i < length rows → IsLawfulBatch params h (flat rows)
    → IsLawfulBatch params h (flat (take i rows) ++ (flat_row (get_or rows i d) ++ flat (drop (i + 1) rows)))
batch-at params h rows i d within batch = subst (λ (l : List Change). IsLawfulBatch params h l) (flat-at rows i d within) batch

pub length-at : (rows : List Row) (i : ℕ) (d : Row) → i < length rows
    → length (flat rows) ≡ length (flat (take i rows)) + length (flat_row (get_or rows i d)) + length (flat (drop (i + 1) rows))
length-at rows i d within =
    let parts = ap length (flat-at rows i d within) in
    let first = length-append (flat (take i rows)) (flat_row (get_or rows i d) ++ flat (drop (i + 1) rows)) in
    let second = length-append (flat_row (get_or rows i d)) (flat (drop (i + 1) rows)) in
    omega (arith, parts, first, second)

pub length-more : (rows : List Row) (i : ℕ) (d : Row) → i < length rows → length (flat (take (i + 1) rows)) ≡ length (flat (take i rows)) + length (flat_row (get_or rows i d))
length-more rows i d within = ap length (flat-more rows i d within) ∙ length-append (flat (take i rows)) (flat_row (get_or rows i d))

-- so much for each in the table, and so much for each in the trees
pub for_both : (n trees : ℕ) → 8 * n + n * trees ≤ n * (8 + trees)
for_both n trees = let whole : n * (8 + trees) ≡ 8 * n + n * trees = grind arith in omega (arith, whole)

-- what stands at a place outside of a list of rows
abbrev pub blank_row : Row
blank_row = row.Add (record { id = 0; low = []; high = []; weight = pos 0; coeffs = [] })

-- the mass of the rows before, of this one and of those after it
pub mass-at : (params : Params) (rows : List Row) (i : ℕ) (d : Row) → i < length rows
    → total_mass params (flat rows) ≡ total_mass params (flat (take i rows)) + (total_mass params (flat_row (get_or rows i d)) + total_mass params (flat (drop (i + 1) rows)))
mass-at params rows i d within =
    ap (total_mass params) (flat-at rows i d within)
    ∙ sum_by-append (added_mass params) (flat (take i rows)) (flat_row (get_or rows i d) ++ flat (drop (i + 1) rows))
    ∙ ap (λ (n : ℕ). total_mass params (flat (take i rows)) + n) (sum_by-append (added_mass params) (flat_row (get_or rows i d)) (flat (drop (i + 1) rows)))

pub mass-more : (params : Params) (rows : List Row) (i : ℕ) (d : Row) → i < length rows
    → total_mass params (flat (take (i + 1) rows)) ≡ total_mass params (flat (take i rows)) + total_mass params (flat_row (get_or rows i d))
mass-more params rows i d within =
    ap (total_mass params) (flat-more rows i d within) ∙ sum_by-append (added_mass params) (flat (take i rows)) (flat_row (get_or rows i d))
