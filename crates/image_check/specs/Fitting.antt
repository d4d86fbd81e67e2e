-- Which changes keep the rules of a warehouse.
use Rattle.std.specs.Prelude.{Bool}
use Rattle.bw_types.specs.Fits.{row_fits}
use Rattle.bw_types.specs.Lawful.{as_row}
use Rattle.bw_types.specs.declared.change.Change.{Change}
use Rattle.bw_types.specs.declared.params.Params.{Params}

-- the change keeps the rules: a withdrawal always does
abbrev pub change_fits : Params → Change → Bool
change_fits params c = row_fits params (as_row c)
