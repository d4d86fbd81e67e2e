-- What is staged on a desk.
use Rattle.std.specs.Prelude.{List, IsTrue}
use Rattle.std.specs.List.{list_all}
use Rattle.bw_types.specs.Fits.{row_fits}
use Rattle.bw_types.specs.declared.params.Params.{Params}
use Rattle.bw_types.specs.declared.row.Row.{Row}

-- all that is staged fits the params
abbrev pub OnlyFitting : Params → List (List Row) → Type 0
OnlyFitting params staged = IsTrue (list_all (list_all (row_fits params)) staged)
