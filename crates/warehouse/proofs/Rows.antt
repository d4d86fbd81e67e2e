-- The changes of rows, one row after the other.
use Rattle.std.proofs.Common.{◌≡◌, ℕ, ◌+◌, ◌<◌, ◌≤◌, List, [], ◌∷◌, ◌++◌, length, take, drop, get_or, sym, ◌∙◌, ap, arith}
use Rattle.std.proofs.lemmas.List.{append-nil, take_more, drop_more, length-append, take-append-drop}
use Rattle.std.proofs.lemmas.List.Concat.{flat_map-append}
use Rattle.std.proofs.lemmas.List.Sums.{sum_by-append}
use Rattle.bw_types.specs.History.{flat, flat_row}
use Rattle.bw_types.specs.Refusals.{added_mass, total_mass}
use Rattle.bw_types.specs.declared.change.Change.{Change}
use Rattle.bw_types.specs.declared.params.Params.{Params}
use Rattle.bw_types.specs.declared.row.Row.{Row}

-- one row more
pub flat_more : (rows : List Row) (i : ℕ) (d : Row) → i < length rows → flat (take (i + 1) rows) ≡ flat (take i rows) ++ flat_row (get_or rows i d)
flat_more rows i d lt =
    ap flat (take_more rows i d lt) ∙ flat_map-append flat_row (take i rows) (get_or rows i d ∷ []) ∙ ap (λ cs. flat (take i rows) ++ cs) (append-nil (flat_row (get_or rows i d)))

-- the next row, and those after it
pub flat_left : (rows : List Row) (i : ℕ) (d : Row) → i < length rows → flat (drop i rows) ≡ flat_row (get_or rows i d) ++ flat (drop (i + 1) rows)
flat_left rows i d lt = ap flat (drop_more rows i d lt)

-- the rows so far, the next one and the others
flat_cut : (rows : List Row) (i : ℕ) (d : Row) → i < length rows → flat rows ≡ flat (take (i + 1) rows) ++ flat (drop (i + 1) rows)
flat_cut rows i d lt = ap flat (sym (take-append-drop (i + 1) rows)) ∙ flat_map-append flat_row (take (i + 1) rows) (drop (i + 1) rows)

length_more : (rows : List Row) (i : ℕ) (d : Row) → i < length rows
    → (length (flat (take (i + 1) rows)) ≡ length (flat (take i rows)) + length (flat_row (get_or rows i d))) × (length (flat (take (i + 1) rows)) ≤ length (flat rows))
length_more rows i d lt =
    let whole = ap length (flat_cut rows i d lt) ∙ length-append (flat (take (i + 1) rows)) (flat (drop (i + 1) rows)) in
    (ap length (flat_more rows i d lt) ∙ length-append (flat (take i rows)) (flat_row (get_or rows i d)), omega (arith, whole))

pub mass_more : (params : Params) (cs xs : List Change) → total_mass params (cs ++ xs) ≡ total_mass params cs + total_mass params xs
mass_more params cs xs = sum_by-append (added_mass params) cs xs

row_mass_more : (params : Params) (rows : List Row) (i : ℕ) (d : Row) → i < length rows
    → (total_mass params (flat (take (i + 1) rows)) ≡ total_mass params (flat (take i rows)) + total_mass params (flat_row (get_or rows i d)))
    × (total_mass params (flat (take (i + 1) rows)) ≤ total_mass params (flat rows))
row_mass_more params rows i d lt =
    let whole = ap (total_mass params) (flat_cut rows i d lt) ∙ mass_more params (flat (take (i + 1) rows)) (flat (drop (i + 1) rows)) in
    (ap (total_mass params) (flat_more rows i d lt) ∙ mass_more params (flat (take i rows)) (flat_row (get_or rows i d)), omega (arith, whole))

-- a row adds no more than all rows, nor do the rows up to it
pub row_mass_below : (params : Params) (rows : List Row) (i m limit : ℕ) (d : Row) → i < length rows → m + total_mass params (flat rows) < limit
    → total_mass params (flat_row (get_or rows i d)) < limit
row_mass_below params rows i m limit d lt below =
    let more = row_mass_more params rows i d lt in omega (arith, more.0, more.1, below)

pub mass_so_far_below : (params : Params) (rows : List Row) (i m total r limit : ℕ) (d : Row) → i < length rows → m + total_mass params (flat rows) < limit
    → total ≡ m + total_mass params (flat (take i rows)) → r ≡ total_mass params (flat_row (get_or rows i d)) → total + r < limit
mass_so_far_below params rows i m total r limit d lt below so_far is =
    let more = row_mass_more params rows i d lt in omega (arith, more.0, more.1, below, so_far, is)

pub count_so_far_below : (rows : List Row) (i count n limit : ℕ) (d : Row) → i < length rows → length (flat rows) < limit
    → count ≡ length (flat (take i rows)) → n ≡ length (flat_row (get_or rows i d)) → count + n < limit
count_so_far_below rows i count n limit d lt below so_far is =
    let more = length_more rows i d lt in omega (arith, more.0, more.1, below, so_far, is)

-- room for the changes of the rows that are left has room for the next row, and then for those after it
pub row_room : (rows : List Row) (i len room : ℕ) (d : Row) → i < length rows → len + length (flat rows) ≤ room + length (flat (take i rows))
    → len + length (flat_row (get_or rows i d)) ≤ room
row_room rows i len room d lt fits =
    let more = length_more rows i d lt in omega (arith, more.0, more.1, fits)

pub rest_room : (rows : List Row) (i len room len' room' : ℕ) (d : Row) → i < length rows → len + length (flat rows) ≤ room + length (flat (take i rows))
    → len' ≤ len + length (flat_row (get_or rows i d)) → room ≤ room' → len' + length (flat rows) ≤ room' + length (flat (take (i + 1) rows))
rest_room rows i len room len' room' d lt fits longer wider =
    let more = length_more rows i d lt in omega (arith, more.0, fits, longer, wider)
