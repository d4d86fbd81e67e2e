-- Lines with what they spell, as facts over the definitions.
use Rattle.std.specs.Prelude.{◌≡◌, ◌<◌, ℕ, ℤ, pos, negsuc, List, [], ◌∷◌, map, length, replicate, Option, None, Some, codes}
use Rattle.bw_types.specs.declared.params.Params.{Params}
use Rattle.bw_types.specs.declared.object.Object.{Object}
use Rattle.bw_types.specs.declared.row.Row.TheVariants.{Add, Move, Withdraw}
use Rattle.bw_types.specs.declared.query.Query.{Query}
use Rattle.bw_types.specs.declared.query.Kind.{Kind}
use Rattle.bw_types.specs.declared.query.Kind.TheVariants.{Count, Integral, Sum}
use Rattle.csv_rows.specs.Input.{input}
use Rattle.csv_rows.specs.declared.input.Input.{Input}
use Rattle.csv_rows.specs.declared.input.Input.TheVariants.{Ask, Commit, Drop, Stage}

-- a warehouse of some dimensions, with or without a degree, whose coordinates are numbers
abbrev pub plain : ℕ → Option ℕ → Params
plain dims degree = record { dims = dims; degree = degree; events = 1000000; pages = 1048576; origin = 0 }

-- one of one dimension without a degree, whose coordinates are signed numbers
abbrev pub signed_line : Params
signed_line = record { dims = 1; degree = None; events = 1000000; pages = 1048576; origin = 2147483647 }

-- an object of one dimension without coefficients
abbrev pub flat_object : ℕ → ℕ → ℕ → ℤ → Object
flat_object id low high weight = record { id = id; low = low ∷ 0 ∷ 0 ∷ []; high = high ∷ 0 ∷ 0 ∷ []; weight = weight; coeffs = replicate 27 (pos 0) }

-- a query of one dimension
abbrev pub flat_query : Kind → ℕ → ℕ → Query
flat_query kind low high = record { kind = kind; low = low ∷ 0 ∷ 0 ∷ []; high = high ∷ 0 ∷ 0 ∷ [] }

-- what each of some lines spells
abbrev pub spelled : Params → List (List ℕ) → List (Option Input)
spelled params lines = map (input params) lines

-- an add, the same with fields in quotes, and with leading zeros, twenty digits at most
abbrev pub AddsSpell : Type 0
AddsSpell =
    spelled (plain 1 None) (codes "add,1,501,2,5,10" ∷ codes "\"add\",\"1\",\"501\",2,5,\"10\"" ∷ codes "add,01,0501,002,00000000000000000005,0010" ∷ [])
    ≡ replicate 3 (Some (Stage 1 (Add (flat_object 501 2 5 (pos 10)))))

-- rows of the other words; a box may be a point, and every id of 64 bits is one
abbrev pub SessionRowsSpell : Type 0
SessionRowsSpell =
    spelled (plain 1 None) (codes "move,16,7,4294967294,4294967294,-0" ∷ codes "withdraw,3,18446744073709551615" ∷ codes "commit,9" ∷ codes "drop,0016" ∷ [])
    ≡ Some (Stage 16 (Move (flat_object 7 4294967294 4294967294 (pos 0)))) ∷ Some (Stage 3 (Withdraw 18446744073709551615)) ∷ Some (Commit 9) ∷ Some (Drop 16) ∷ []

-- queries; the word `now` may stand in quotes
abbrev pub QueriesSpell : Type 0
QueriesSpell =
    spelled (plain 1 (Some 2)) (codes "sum,4294967295,0,9" ∷ codes "count,\"now\",5,5" ∷ codes "integral,now,1,2" ∷ [])
    ≡ Some (Ask (Some 4294967295) (flat_query Sum 0 9)) ∷ Some (Ask None (flat_query Count 5 5)) ∷ Some (Ask None (flat_query Integral 1 2)) ∷ []

-- signed coordinates, stored as their distance from the least one, and signed weights
abbrev pub SignedNumbersSpell : Type 0
SignedNumbersSpell =
    spelled signed_line (codes "add,1,1,-5,3,-7" ∷ codes "add,1,1,-2147483647,-0,-9223372036854775808" ∷ codes "sum,now,-0,2147483646" ∷ [])
    ≡ Some (Stage 1 (Add (flat_object 1 2147483642 2147483650 (negsuc 6)))) ∷ Some (Stage 1 (Add (flat_object 1 0 2147483647 (negsuc 9223372036854775807)))) ∷ Some (Ask None (flat_query Sum 2147483647 4294967293)) ∷ []

-- the ends of two dimensions, one dimension after the other, and the four coefficients of degree 1
abbrev pub CoefficientsSpell : Type 0
CoefficientsSpell =
    spelled (plain 2 (Some 1)) (codes "add,1,1,0,2,3,4,1,0,-6,0,1" ∷ [])
    ≡ Some (Stage 1 (Add (record { id = 1; low = 0 ∷ 3 ∷ 0 ∷ []; high = 2 ∷ 4 ∷ 0 ∷ []; weight = pos 1; coeffs = pos 0 ∷ negsuc 5 ∷ pos 0 ∷ pos 1 ∷ replicate 23 (pos 0) }))) ∷ []

-- fields that are no number of their kind: session 0 and 17, an id of 65 bits, 21 digits, a plus sign, a minus sign where
-- coordinates are numbers, a blank, no digit, a version of 33 bits
abbrev pub BadNumbers : Type 0
BadNumbers =
    spelled (plain 1 None) (codes "commit,0" ∷ codes "commit,17" ∷ codes "withdraw,1,18446744073709551616" ∷ codes "commit,000000000000000000001" ∷ codes "commit,+1" ∷ codes "add,1,1,-0,5,10" ∷ codes "commit, 1" ∷ codes "commit," ∷ codes "sum,4294967296,0,1" ∷ [])
    ≡ replicate 9 None

-- boxes that are none: a low end above its high one, and ends out of range, plain and signed
abbrev pub BadBoxes : Type 0
BadBoxes =
    (spelled (plain 1 None) (codes "add,1,1,6,5,1" ∷ codes "sum,now,6,5" ∷ codes "add,1,1,0,4294967295,1" ∷ []) ≡ replicate 3 None)
    × (spelled signed_line (codes "add,1,1,3,-3,1" ∷ codes "add,1,1,-2147483648,0,1" ∷ codes "add,1,1,0,2147483647,1" ∷ []) ≡ replicate 3 None)

-- lines of another form: no word or an unknown one, one that is not in lower case or begins with a byte order mark, a field
-- too few or too many, an integral without a degree
abbrev pub BadRows : Type 0
BadRows =
    spelled (plain 1 None) ([] ∷ codes "total,1" ∷ codes "Commit,1" ∷ (0xef ∷ 0xbb ∷ 0xbf ∷ codes "commit,1") ∷ codes "add,1,1,0,5" ∷ codes "add,1,1,0,5,10,0" ∷ codes "commit" ∷ codes "commit,1," ∷ codes "integral,now,0,1" ∷ [])
    ≡ replicate 9 None

-- fields that are not in quotes as a whole, a quote alone, a comma in quotes, and a carriage return
abbrev pub BadFields : Type 0
BadFields =
    spelled (plain 1 None) (codes "commit,\"1" ∷ codes "commit,1\"" ∷ codes "commit,\"" ∷ codes "commit,\"\"1\"" ∷ codes "\"commit,1\"" ∷ codes "commit,1\r" ∷ codes "commit\r,1" ∷ [])
    ≡ replicate 7 None

-- a line of more than 4096 bytes is bad
abbrev pub LongLinesAreBad : Type 0
LongLinesAreBad = (params : Params) (line : List ℕ) → 4096 < length line → input params line ≡ None
