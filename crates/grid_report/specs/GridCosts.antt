-- How many pages rows that ask for grids read at most.
use Rattle.std.specs.Prelude.{ℕ, ◌*◌, nat_le, if◌then◌else◌, List, Option, Some, None}
use Rattle.bw_types.specs.History.{History, last_version}
use Rattle.bw_types.specs.declared.params.Params.{Params}
use Rattle.page_warehouse.specs.Costs.{below_cost}
use Rattle.grid_report.specs.Grids.{grid_corners}
use Rattle.grid_report.specs.GridReplies.{version_asked}
use Rattle.grid_report.specs.GridRows.{grid_row}
use Rattle.grid_report.specs.declared.asked.GridRow.{GridRow}

-- the most reads that a row asks for: those of the integral below each corner, and none where there is no such version
abbrev pub row_cost : (ℕ → ℕ → ℕ) → Params → History → Option GridRow → ℕ
row_cost cost params h None = 0
row_cost cost params h (Some row) =
    if nat_le (version_asked h row) (last_version h) then grid_corners params row.grid * below_cost cost params h else 0

abbrev pub grid_line_cost : (ℕ → ℕ → ℕ) → Params → History → List ℕ → ℕ
grid_line_cost cost params h line = row_cost cost params h (grid_row params line)
