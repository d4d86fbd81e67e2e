-- What is replied to a row that asks for a grid, and how many reads it asks for, by whether there is its version.
use Rattle.std.proofs.Common.{◌≡◌, ℕ, ◌+◌, ◌*◌, ◌<◌, ◌≤◌, List, ◌++◌, ℤ, Some, refl, ap, ◌∙◌, unwrap_or, inl, inr, arith}
use Rattle.std.proofs.lemmas.Bool.{cases_lt, le-leb, lt-leb}
use Rattle.bw_types.specs.History.{History, last_version}
use Rattle.bw_types.specs.declared.params.Params.{Params}
use Rattle.csv_rows.specs.Replies.{reply_text}
use Rattle.csv_rows.specs.declared.reply.Reply.TheVariants.{NoVersion}
use Rattle.page_warehouse.specs.Costs.{below_cost}
use Rattle.grid_report.specs.GridCosts.{row_cost}
use Rattle.grid_report.specs.GridReplies.{cells_text, grid_text, replies_to_row, version_asked}
use Rattle.grid_report.specs.Grids.{cell_count, cells_of, grid_corners, grid_integrals}
use Rattle.grid_report.specs.declared.asked.GridRow.{GridRow}

module _ (params : Params) (h : History) (row : GridRow) (version last : ℕ) (is_last : last ≡ last_version h) (asked : version ≡ unwrap_or row.version last) where
  version-is : version ≡ version_asked h row
  version-is = asked ∙ ap (unwrap_or row.version) is_last

  -- where there is the version
  cells-replied : (n : ℕ) → version ≤ last
      → grid_text version (cell_count params row.grid) ++ cells_text (cells_of params row.grid) (grid_integrals params h version row.grid) ≡ replies_to_row params h n (Some row)
  cells-replied n within =
      let test = le-leb (version_asked h row) (last_version h) (omega (arith, version-is, is_last, within)) in
      rw test (ap (λ v. grid_text v (cell_count params row.grid) ++ cells_text (cells_of params row.grid) (grid_integrals params h v row.grid)) version-is)

  pub put-replied : (other : Params) (n : ℕ) (old new : List ℕ) (values : List ℤ) → other ≡ params → version ≤ last → values ≡ grid_integrals params h version row.grid
      → new ≡ old ++ (grid_text version (cell_count other row.grid) ++ cells_text (cells_of other row.grid) values) → new ≡ old ++ replies_to_row params h n (Some row)
  put-replied other n old new values same within are put =
      let text = λ (p : Params) (xs : List ℤ). grid_text version (cell_count p row.grid) ++ cells_text (cells_of p row.grid) xs in
      put ∙ ap (λ t. old ++ t) (ap (λ (p : Params). text p values) same ∙ ap (text params) are ∙ cells-replied n within)

  -- where there is not
  pub none-replied : (n : ℕ) → last < version → reply_text (NoVersion n) ≡ replies_to_row params h n (Some row)
  none-replied n above =
      let test = lt-leb (version_asked h row) (last_version h) (omega (arith, version-is, is_last, above)) in
      rw test refl

  -- reads for the corners, or none
  pub row-reads : (cost : ℕ → ℕ → ℕ) (first then_read : ℕ) → (last < version → then_read ≡ first) → then_read ≤ first + grid_corners params row.grid * below_cost cost params h
      → then_read ≤ first + row_cost cost params h (Some row)
  row-reads cost first then_read none some =
      elim (cases_lt last version) [
        | inl above ↦ (let same = none above in omega arith)
        | inr within ↦
            let test = le-leb (version_asked h row) (last_version h) (omega (arith, version-is, is_last, within)) in
            rw test some
      ]
