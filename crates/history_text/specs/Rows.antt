-- The rows that rebuild a history.
use Rattle.std.specs.Prelude.{ℕ, ℤ, List, ◌++◌, slice_index, take, codes}
use Rattle.std.specs.Fmt.{decimal, signed_decimal}
use Rattle.std.specs.List.{flat_map, range_with_len}
use Rattle.bw_types.specs.Fits.{coefficient_count, coordinate}
use Rattle.bw_types.specs.History.{History}
use Rattle.bw_types.specs.Lawful.{staged_rows}
use Rattle.bw_types.specs.declared.change.Change.{Change}
use Rattle.bw_types.specs.declared.object.Object.{Object}
use Rattle.bw_types.specs.declared.params.Params.{Params}
use Rattle.bw_types.specs.declared.row.Row.{Row}
use Rattle.bw_types.specs.declared.row.Row.TheVariants.{Add, Withdraw, Move}

-- a number, with a comma before it and a minus sign where it is negative
abbrev pub field : ℤ → List ℕ
field number = codes "," ++ signed_decimal number

-- the two ends of a box in one dimension, as coordinates
abbrev pub ends_text : Params → Object → ℕ → List ℕ
ends_text params o i = field (coordinate params (slice_index o.low i)) ++ field (coordinate params (slice_index o.high i))

-- the fields of an object behind the session: its id, its ends, one dimension after the other, its weight and its coefficients
abbrev pub object_text : Params → Object → List ℕ
object_text params o =
    codes "," ++ decimal o.id
    ++ flat_map (ends_text params o) (range_with_len 0 params.dims)
    ++ field o.weight
    ++ flat_map field (take (coefficient_count params) o.coeffs)

-- a row of session 1, with the line feed that ends it
abbrev pub row_text : Params → Row → List ℕ
row_text params (Add o) = codes "add,1" ++ object_text params o ++ codes "\n"
row_text params (Withdraw id) = codes "withdraw,1," ++ decimal id ++ codes "\n"
row_text params (Move o) = codes "move,1" ++ object_text params o ++ codes "\n"

-- the rows of a batch and the commit that ends it; a withdrawal directly followed by an add of its id is a move
abbrev pub batch_text : Params → List Change → List ℕ
batch_text params batch = flat_map (row_text params) (staged_rows batch) ++ codes "commit,1\n"

-- the rows of all batches, in their order
abbrev pub rows_of : Params → History → List ℕ
rows_of params h = flat_map (batch_text params) h
