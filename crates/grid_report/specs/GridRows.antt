-- Rows that ask for grids.
use Rattle.std.specs.Prelude.{ℕ, ◌+◌, ◌*◌, ◌&&◌, ◌==◌, if◌then◌else◌, List, length, Option, None, option_map, codes}
use Rattle.std.specs.Str.{bytes_eq}
use Rattle.bw_types.specs.declared.params.Params.{Params}
use Rattle.csv_rows.specs.Fields.{field_at}
use Rattle.csv_rows.specs.Input.{each_given, fields_of_line, filled, given, provided, stored_of, version_of}
use Rattle.csv_rows.specs.Numbers.{number_of}
use Rattle.grid_report.specs.Grids.{grid_fits}
use Rattle.grid_report.specs.declared.asked.Grid.{Grid}
use Rattle.grid_report.specs.declared.asked.GridRow.{GridRow}

-- three numbers, of which those of the dimensions are read from each third field from a place on, and the rest are 0
abbrev pub thirds_at : Params → List (List ℕ) → ℕ → (List ℕ → Option ℕ) → Option (List ℕ)
thirds_at params fields place read = option_map (filled 3 0) (each_given params.dims (λ i. read (field_at fields (place + 3 * i))))

-- a step or a number of cells: a number of 32 bits
abbrev pub extent_of : List ℕ → Option ℕ
extent_of field = number_of 4294967295 field

-- the grid, where it keeps the rules
abbrev pub asking_grid : Params → Option ℕ → Grid → Option GridRow
asking_grid params version g = provided (grid_fits params g) (record { version = version; grid = g })

-- what fields spell: the word, the version, and for each dimension the low end, the step and the number of cells
abbrev pub grid_of : Params → List (List ℕ) → Option GridRow
grid_of params fields =
    if bytes_eq (field_at fields 0) (codes "grid") && (length fields == 2 + 3 * params.dims)
    then given (version_of (field_at fields 1)) (λ version.
    given (thirds_at params fields 2 (stored_of params)) (λ low.
    given (thirds_at params fields 3 extent_of) (λ step.
    given (thirds_at params fields 4 extent_of) (λ cells.
    asking_grid params version (record { low = low; step = step; cells = cells })))))
    else None

-- what a line asks for, or None where it is bad
abbrev pub grid_row : Params → List ℕ → Option GridRow
grid_row params line = given (fields_of_line line) (grid_of params)
