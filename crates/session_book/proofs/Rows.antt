-- The rows of a batch in turn.
use Rattle.std.proofs.Common.{◌≡◌, ℕ, suc, ◌+◌, ◌^◌, ◌<◌, ◌≤◌, List, [], ◌∷◌, ◌++◌, length, get_or, take, drop, Option, Some, None, sym, ◌∙◌, ap, subst, add-one, arith, pos}
use Rattle.std.specs.Option.{option_or, option_map}
use Rattle.std.proofs.Math.Seq.{drop-cons}
use Rattle.std.proofs.lemmas.Grind.{flat_map-append}
use Rattle.std.proofs.lemmas.List.{get_or_default, take_more, append-nil}
use Rattle.std.proofs.lemmas.List.Sums.{sum_by-append}
use Rattle.bw_types.specs.History.{flat, flat_row}
use Rattle.bw_types.specs.Refusals.{added_mass, total_mass, row_refusal, first_refused_row, refused_at}
use Rattle.bw_types.specs.declared.params.Params.{Params}
use Rattle.bw_types.specs.declared.change.Change.{Change}
use Rattle.bw_types.specs.declared.row.Row.{Row}
use Rattle.bw_types.specs.declared.row.Row.TheVariants as row
use Rattle.bw_types.specs.declared.refusal.Reason.{Reason}
use Rattle.session_book.specs.declared.seen.Life.{Life}
use Rattle.session_book.specs.declared.seen.Life.TheVariants as life
use Rattle.session_book.specs.declared.batch.Batch.{Batch}
use Rattle.session_book.specs.Standing.{standing_after, standing_by}
use Rattle.session_book.specs.declared.standing.Standing.{Standing}
use Rattle.session_book.specs.Batch.{row_id, own, IsAfter}
use Rattle.session_book.proofs.Judged.{IsJudged}

-- one row more
pub flat-more : (rows : List Row) (i : ℕ) (d : Row) → i < length rows → flat (take (i + 1) rows) ≡ flat (take i rows) ++ flat_row (get_or rows i d)
flat-more rows i d within =
    ap flat (take_more rows i d within) ∙ flat_map-append flat_row (take i rows) (get_or rows i d ∷ [])
    ∙ ap (λ cs. flat (take i rows) ++ cs) (append-nil (flat_row (get_or rows i d)))

-- the mass of one row more
pub mass-more : (params : Params) (rows : List Row) (i : ℕ) (row d : Row) (before now next : ℕ) → i < length rows → row ≡ get_or rows i d → now ≡ before + total_mass params (flat (take i rows))
    → next ≡ now + total_mass params (flat_row row) → next ≡ before + total_mass params (flat (take (i + 1) rows))
mass-more params rows i row d before now next within at so_far is =
    let longer : total_mass params (flat (take (i + 1) rows)) ≡ total_mass params (flat (take i rows)) + total_mass params (flat_row row) =
    ap (total_mass params) (flat-more rows i d within) ∙ sum_by-append (added_mass params) (flat (take i rows)) (flat_row (get_or rows i d))
    ∙ ap (λ r. total_mass params (flat (take i rows)) + total_mass params (flat_row r)) (sym at) in
    omega arith

-- a row is at least one change
pub length-flat : (rows : List Row) → length rows ≤ length (flat rows)
length-flat [] = omega arith
length-flat (row.Add o ∷ rows) = omega (arith, length-flat rows)
length-flat (row.Withdraw id ∷ rows) = omega (arith, length-flat rows)
length-flat (row.Move o ∷ rows) = omega (arith, length-flat rows)

-- the first i rows are accepted, and the batch is what is kept of them
pub record IsSoFar (params : Params) (told : ℕ → Life) (past : List Change) (rows : List Row) (i : ℕ) (batch : Batch) : Type 0 where
  pub after : IsAfter params told past (flat (take i rows)) batch
  pub rest : first_refused_row params past [] 1 rows ≡ first_refused_row params past (flat (take i rows)) (i + 1) (drop i rows)

front : (rows : List Row) (i : ℕ) (row : Row) → i < length rows → row ≡ get_or rows i row → drop i rows ≡ row ∷ drop (i + 1) rows
front rows i row within at = drop-cons rows i row within ∙ rw (add-one i) (ap (λ r. r ∷ drop (suc i) rows) (sym at))

pub IsSoFar-more : (params : Params) (told : ℕ → Life) (past : List Change) (rows : List Row) (i : ℕ) (row : Row) (old new : Batch) → i < length rows → row ≡ get_or rows i row → IsSoFar params told past rows i old → None ≡ row_refusal params past (flat (take i rows)) row → IsAfter params told past (flat (take i rows) ++ flat_row row) new → IsSoFar params told past rows (i + 1) new
IsSoFar-more params told past rows i row old new within at so_far accepted after =
    let staged : flat (take (i + 1) rows) ≡ flat (take i rows) ++ flat_row row =
    flat-more rows i row within ∙ ap (λ r. flat (take i rows) ++ flat_row r) (sym at) in
    record {
      after = subst (λ cs. IsAfter params told past cs new) (sym staged) after;
      rest =
          so_far.rest ∙ ap (λ rs. first_refused_row params past (flat (take i rows)) (i + 1) rs) (front rows i row within at)
          ∙ ap (λ why. option_or (option_map (refused_at (i + 1)) why) (first_refused_row params past (flat (take i rows) ++ flat_row row) (i + 1 + 1) (drop (i + 1) rows))) (sym accepted)
          ∙ ap (λ cs. first_refused_row params past cs (i + 1 + 1) (drop (i + 1) rows)) (sym staged);
    }

pub first_refused_row-at : (params : Params) (told : ℕ → Life) (past : List Change) (rows : List Row) (i : ℕ) (row : Row) (batch : Batch) (why : Reason) → i < length rows → row ≡ get_or rows i row → IsSoFar params told past rows i batch → Some why ≡ row_refusal params past (flat (take i rows)) row → first_refused_row params past [] 1 rows ≡ Some (refused_at (i + 1) why)
first_refused_row-at params told past rows i row batch why within at so_far refused =
    so_far.rest ∙ ap (λ rs. first_refused_row params past (flat (take i rows)) (i + 1) rs) (front rows i row within at)
    ∙ ap (λ why. option_or (option_map (refused_at (i + 1)) why) (first_refused_row params past (flat (take i rows) ++ flat_row row) (i + 1 + 1) (drop (i + 1) rows))) (sym refused)

-- one row: how its id stands, and what `judge` made of it
module _ (params : Params) (told now : ℕ → Life) (past : List Change) (rows : List Row) (i : ℕ) (d : Row) (old new : Batch) (id : ℕ) (standing : Standing) (why : Option Reason)
    (within : i < length rows) (so_far : IsSoFar params told past rows i old) (id_is : id ≡ row_id (get_or rows i d)) (id_fits : id < 2 ^ 64)
    (same : now ≡ told) (standing_is : standing ≡ standing_by (own old id) (now id)) (judged : IsJudged params old new (get_or rows i d) standing why) where
  at : get_or rows i d ≡ get_or rows i (get_or rows i d)
  at = get_or_default rows i d (get_or rows i d) within

  outcome : (why ≡ row_refusal params past (flat (take i rows)) (get_or rows i d)) × (why ≡ None → IsAfter params told past (flat (take i rows) ++ flat_row (get_or rows i d)) new)
  outcome = judged told past (flat (take i rows)) so_far.after
      (standing_is ∙ ap (λ t. standing_by (own old id) (t id)) same ∙ sym (so_far.after.standings id id_fits) ∙ ap (standing_after past (flat (take i rows))) id_is)

  pub IsSoFar-accepted : why ≡ None → IsSoFar params told past rows (i + 1) new
  IsSoFar-accepted none = IsSoFar-more params told past rows i (get_or rows i d) old new within at so_far (sym none ∙ outcome.0) (outcome.1 none)

  pub first_refused_row-judged : (reason : Reason) → why ≡ Some reason → Some (refused_at (i + 1) reason) ≡ first_refused_row params past [] 1 rows
  first_refused_row-judged reason some = sym (first_refused_row-at params told past rows i (get_or rows i d) old reason within at so_far (sym some ∙ outcome.0))

-- what stands at a place outside of a list of rows
abbrev pub blank_row : Row
blank_row = row.Add (record { id = 0; low = []; high = []; weight = pos 0; coeffs = [] })
