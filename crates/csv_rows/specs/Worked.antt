-- Whole inputs with what is written for them, as facts over the definitions.
use Rattle.std.specs.Prelude.{◌≡◌, [], None, Some, codes}
use Rattle.bw_types.specs.declared.params.Params.{Params}
use Rattle.csv_rows.specs.Machine.{text}

-- a plain warehouse of one dimension without a degree
abbrev pub plain_line : Params
plain_line = record { dims = 1; degree = None; events = 1000000; pages = 1048576; origin = 0 }

-- two boxes that touch at 5, and the weight that touches 5
abbrev pub TouchingBoxesCount : Type 0
TouchingBoxesCount = text plain_line [] (codes "add,1,1,2,5,10\nadd,1,2,5,9,7\ncommit,1\nsum,1,5,5\n") ≡ codes "version,1\nsum,1,17\n"

-- value functions of degree 2 on a line
abbrev pub square_line : Params
square_line = record { dims = 1; degree = Some 2; events = 1000000; pages = 1048576; origin = 0 }

-- the same with signed coordinates
abbrev pub signed_line : Params
signed_line = record { dims = 1; degree = Some 2; events = 1000000; pages = 1048576; origin = 2147483647 }

-- value functions of degree 1 and of degree 0 in two dimensions
abbrev pub linear_plane : Params
linear_plane = record { dims = 2; degree = Some 1; events = 1000000; pages = 1048576; origin = 0 }

abbrev pub constant_plane : Params
constant_plane = record { dims = 2; degree = Some 0; events = 1000000; pages = 1048576; origin = 0 }

-- a withdrawal leaves past versions as they were
abbrev pub PastVersionsStay : Type 0
PastVersionsStay = text plain_line [] (codes "add,1,1,2,5,10\nadd,1,2,5,9,7\ncommit,1\nwithdraw,1,1\ncommit,1\nsum,1,5,5\nsum,2,5,5\ncount,2,0,9\n") ≡ codes "version,1\nversion,2\nsum,1,17\nsum,2,7\ncount,2,1\n"

-- lines that are bad, each for a reason of its own, and a commit after them
abbrev pub BadLinesAreAnswered : Type 0
BadLinesAreAnswered = text plain_line [] (codes "add,1,1,6,5,1\nadd,1,1,0,4294967295,1\n\ntotal,1\nadd,17,1,0,1,1\nintegral,now,0,1\ncommit,1\ncount,now,0,4294967294\n") ≡ codes "bad,1\nbad,2\nbad,3\nbad,4\nbad,5\nbad,6\nversion,1\ncount,1,0\n"

-- the integral of a square, 2 * (8 - 1)
abbrev pub SquareIsIntegrated : Type 0
SquareIsIntegrated = text square_line [] (codes "add,1,1,0,3,1,0,0,1\ncommit,1\nintegral,now,1,2\n") ≡ codes "version,1\nintegral,1,14\n"

-- the integral of a product of two coordinates, 3 * (4 - 1) times 3 * 1
abbrev pub PlaneIsIntegrated : Type 0
PlaneIsIntegrated = text linear_plane [] (codes "add,1,1,0,2,0,2,1,0,0,0,1\ncommit,1\nintegral,now,1,2,0,1\n") ≡ codes "version,1\nintegral,1,27\n"

-- each way in which a batch is refused for an id
abbrev pub IdsAreRefused : Type 0
IdsAreRefused = text plain_line [] (codes "add,1,1,0,9,5\ncommit,1\nadd,1,2,0,9,1\nadd,1,1,3,4,1\ncommit,1\nadd,1,3,0,1,1\nwithdraw,1,3\ncommit,1\nwithdraw,1,8\ncommit,1\nwithdraw,1,1\ncommit,1\nwithdraw,1,1\ncommit,1\nadd,1,1,0,9,5\ncommit,1\n") ≡ codes "version,1\nrefused,2,used\nrefused,2,fresh\nrefused,1,unknown\nversion,2\nrefused,1,gone\nversion,3\n"

-- quoted fields, carriage returns, and a last line that does not end
abbrev pub QuotesAreRead : Type 0
QuotesAreRead = text constant_plane [] (codes "\"add\",1,\"501\",100,149,200,259,1,7\r\n\"commit\",1\r\n\"integral\",now,120,139,190,209\r\nsum,now,120,139,190,209") ≡ codes "version,1\nintegral,1,43092\nsum,1,1\n"

-- signed coordinates, on both sides of 0
abbrev pub SignedLineIsIntegrated : Type 0
SignedLineIsIntegrated = text signed_line [] (codes "add,1,1,-3,2,5,0,1,0\ncommit,1\nintegral,now,-2,1\nsum,now,-9,-3\nsum,now,-9,-4\n") ≡ codes "version,1\nintegral,1,-9\nsum,1,5\nsum,1,0\n"

-- a move, a withdrawal and a new life of one id, and its refusals
abbrev pub LivesFollowOneAnother : Type 0
LivesFollowOneAnother = text plain_line [] (codes "add,1,1,0,9,5\ncommit,1\nmove,1,1,20,29,5\ncommit,1\nwithdraw,1,1\ncommit,1\nadd,1,1,0,9,7\ncommit,1\nsum,1,0,9\nsum,2,25,25\nsum,3,0,99\nsum,4,0,9\nwithdraw,1,1\nadd,1,1,0,1,3\nwithdraw,1,1\ncommit,1\nmove,1,2,0,1,1\ncommit,1\n") ≡ codes "version,1\nversion,2\nversion,3\nversion,4\nsum,1,5\nsum,2,5\nsum,3,0\nsum,4,7\nrefused,3,fresh\nrefused,1,unknown\n"
