-- What is replied to rows that ask for grids.
use Rattle.std.specs.Prelude.{ℕ, nat_le, if◌then◌else◌, List, ◌++◌, Option, Some, None, unwrap_or, codes, ℤ}
use Rattle.std.specs.Fmt.{decimal, signed_decimal}
use Rattle.std.specs.List.{flat_map, zip}
use Rattle.bw_types.specs.History.{History, last_version}
use Rattle.bw_types.specs.declared.params.Params.{Params}
use Rattle.csv_rows.specs.Replies.{reply_text}
use Rattle.csv_rows.specs.declared.reply.Reply.TheVariants.{Bad, NoVersion}
use Rattle.grid_report.specs.Grids.{cell_count, cells_of, grid_integrals}
use Rattle.grid_report.specs.GridRows.{grid_row}
use Rattle.grid_report.specs.declared.asked.GridRow.{GridRow}

-- the line of a cell: its index in each dimension, and its integral
abbrev pub cell_text : List ℕ → ℤ → List ℕ
cell_text js x = codes "cell," ++ flat_map (λ j. decimal j ++ codes ",") js ++ signed_decimal x ++ codes "\n"

-- the first line: the version, and how many lines of cells follow
abbrev pub grid_text : ℕ → ℕ → List ℕ
grid_text version count = codes "grid," ++ decimal version ++ codes "," ++ decimal count ++ codes "\n"

-- the lines of all cells
abbrev pub cells_text : List (List ℕ) → List ℤ → List ℕ
cells_text cells values = flat_map (λ (js, x). cell_text js x) (zip cells values)

-- the version that is asked for: the last one where none is given
abbrev pub version_asked : History → GridRow → ℕ
version_asked h row = unwrap_or row.version (last_version h)

-- the replies to line number n, from what it asks for
abbrev pub replies_to_row : Params → History → ℕ → Option GridRow → List ℕ
replies_to_row params h n None = reply_text (Bad n)
replies_to_row params h n (Some row) =
    if nat_le (version_asked h row) (last_version h)
    then grid_text (version_asked h row) (cell_count params row.grid) ++ cells_text (cells_of params row.grid) (grid_integrals params h (version_asked h row) row.grid)
    else reply_text (NoVersion n)

-- the replies to a line
abbrev pub grid_replies : Params → History → ℕ → List ℕ → List ℕ
grid_replies params h n line = replies_to_row params h n (grid_row params line)
