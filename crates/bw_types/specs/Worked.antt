-- Whole examples, computed from the definitions.
use Rattle.std.specs.Prelude.{◌≡◌, ℕ, ◌-◌, ◌^◌, List, [], ◌∷◌, ◌++◌, length, replicate, ℤ, pos, negsuc, Option, None, Some, true, false}
use Rattle.bw_types.specs.Fits.{object_fits, query_fits}
use Rattle.bw_types.specs.Mass.{mass}
use Rattle.bw_types.specs.History.{History, flat}
use Rattle.bw_types.specs.Lives.{lives}
use Rattle.bw_types.specs.Refusals.{first_refusal, refused_at}
use Rattle.bw_types.specs.Answers.{sum_at, count_at, integral_at}
use Rattle.bw_types.specs.Lawful.{IsLawful}
use Rattle.bw_types.specs.declared.params.Params.{Params}
use Rattle.bw_types.specs.declared.object.Object.{Object}
use Rattle.bw_types.specs.declared.query.Query.{Query}
use Rattle.bw_types.specs.declared.query.Kind.TheVariants as kind
use Rattle.bw_types.specs.declared.row.Row.{Row}
use Rattle.bw_types.specs.declared.row.Row.TheVariants.{Add, Withdraw, Move}
use Rattle.bw_types.specs.declared.refusal.Reason.TheVariants.{Used, Unknown, Fresh, Gone, Mass, Events}
use Rattle.bw_types.specs.declared.dated.Dated.{Dated}

-- the ends in three dimensions: 0 past those given
abbrev pub ends : List ℕ → List ℕ
ends given = given ++ replicate (3 - length given) 0

-- 27 coefficients: 0 past those given
abbrev pub coefficients : List ℤ → List ℤ
coefficients given = given ++ replicate (27 - length given) (pos 0)

-- a plain warehouse with the highest limits
abbrev pub plain : ℕ → Option ℕ → Params
plain dims degree = record { dims = dims; degree = degree; events = 268435456; pages = 4294967295; origin = 0 }

-- a signed one
abbrev pub signed : ℕ → Option ℕ → Params
signed dims degree = record { dims = dims; degree = degree; events = 268435456; pages = 4294967295; origin = 2147483647 }

-- a box with its id, ends, weight and coefficients
abbrev pub valued : ℕ → List ℕ → List ℕ → ℤ → List ℤ → Object
valued id low high weight given = record { id = id; low = ends low; high = ends high; weight = weight; coeffs = coefficients given }

-- a box of one dimension without a value function
abbrev pub span : ℕ → ℕ → ℕ → ℕ → Object
span id low high weight = valued id (low ∷ []) (high ∷ []) (pos weight) []

-- a query box
abbrev pub asked : List ℕ → List ℕ → Query
asked low high = record { kind = kind.Sum; low = ends low; high = ends high }

-- a query box of one dimension
abbrev pub over : ℕ → ℕ → Query
over low high = asked (low ∷ []) (high ∷ [])

-- the history of these staged batches
abbrev pub history : List (List Row) → History
history [] = []
history (rows ∷ batches) = flat rows ∷ history batches

abbrev pub line : Params
line = plain 1 None

-- two boxes that touch at 5, and then the first is withdrawn
abbrev pub two_spans : History
two_spans = history ((Add (span 1 2 5 10) ∷ Add (span 2 5 9 7) ∷ []) ∷ (Withdraw 1 ∷ []) ∷ [])

-- boxes that touch meet; a withdrawal leaves the versions before it as they were
abbrev pub TouchingBoxesMeet : Type 0
TouchingBoxesMeet =
    (sum_at line two_spans 1 (over 5 5) ≡ pos 17)
    × (sum_at line two_spans 1 (over 6 6) ≡ pos 7)
    × (sum_at line two_spans 1 (over 0 1) ≡ pos 0)
    × (sum_at line two_spans 1 (over 0 5) ≡ pos 17)

abbrev pub PastVersionsStay : Type 0
PastVersionsStay =
    (sum_at line two_spans 0 (over 0 4294967294) ≡ pos 0)
    × (sum_at line two_spans 1 (over 5 5) ≡ pos 17)
    × (sum_at line two_spans 2 (over 5 5) ≡ pos 7)
    × (count_at line two_spans 2 (over 0 9) ≡ pos 1)

-- boxes of three dimensions that touch in a corner
abbrev pub two_cubes : History
two_cubes = history
    ((Add (valued 1 (0 ∷ 0 ∷ 0 ∷ []) (2 ∷ 2 ∷ 2 ∷ []) (pos 4) []) ∷ Add (valued 2 (2 ∷ 2 ∷ 2 ∷ []) (4 ∷ 4 ∷ 4 ∷ []) (pos 5) []) ∷ []) ∷ [])

-- a box meets a query where it does so in each dimension
abbrev pub EachDimensionCounts : Type 0
EachDimensionCounts =
    (sum_at (plain 3 None) two_cubes 1 (asked (2 ∷ 2 ∷ 2 ∷ []) (2 ∷ 2 ∷ 2 ∷ [])) ≡ pos 9)
    × (sum_at (plain 3 None) two_cubes 1 (asked (3 ∷ 0 ∷ 0 ∷ []) (9 ∷ 9 ∷ 9 ∷ [])) ≡ pos 5)
    × (count_at (plain 3 None) two_cubes 1 (asked (0 ∷ 0 ∷ 3 ∷ []) (1 ∷ 1 ∷ 9 ∷ [])) ≡ pos 0)

-- the history of one box
abbrev pub one_box : Object → History
one_box o = history ((Add o ∷ []) ∷ [])

-- x^2 over [1,2], times 6: 2 * (8 - 1)
abbrev pub square_on_a_line : Object
square_on_a_line = valued 1 (0 ∷ []) (3 ∷ []) (pos 1) (pos 0 ∷ pos 0 ∷ pos 1 ∷ [])

-- x y over [1,2] x [0,1], times 36: 3 * (4 - 1) times 3 * 1
abbrev pub product_on_a_square : Object
product_on_a_square = valued 1 (0 ∷ 0 ∷ []) (2 ∷ 2 ∷ []) (pos 1) (pos 0 ∷ pos 0 ∷ pos 0 ∷ pos 1 ∷ [])

-- 7 over [120,139] x [200,209], times 36: 7 times 6 * 19 times 6 * 9
abbrev pub constant_on_a_square : Object
constant_on_a_square = valued 501 (100 ∷ 200 ∷ []) (149 ∷ 259 ∷ []) (pos 1) (pos 7 ∷ [])

-- x^2 y^2 z^2 over [0,1]^3, times 216: 2 * 2 * 2
abbrev pub squares_on_a_cube : Object
squares_on_a_cube = valued 1 (0 ∷ 0 ∷ 0 ∷ []) (1 ∷ 1 ∷ 1 ∷ []) (pos 1) (replicate 26 (pos 0) ++ pos 1 ∷ [])

abbrev pub IntegralsAreScaled : Type 0
IntegralsAreScaled =
    (integral_at (plain 1 (Some 2)) (one_box square_on_a_line) 1 (over 1 2) ≡ pos 14)
    × (integral_at (plain 2 (Some 1)) (one_box product_on_a_square) 1 (asked (1 ∷ 0 ∷ []) (2 ∷ 1 ∷ [])) ≡ pos 27)
    × (integral_at (plain 2 (Some 0)) (one_box constant_on_a_square) 1 (asked (120 ∷ 190 ∷ []) (139 ∷ 209 ∷ [])) ≡ pos 43092)
    × (integral_at (plain 3 (Some 2)) (one_box squares_on_a_cube) 1 (asked (0 ∷ 0 ∷ 0 ∷ []) (4294967294 ∷ 4294967294 ∷ 4294967294 ∷ [])) ≡ pos 8)

-- x on [-3,2], stored as the coordinate plus 2147483647
abbrev pub signed_line : Object
signed_line = valued 1 (2147483644 ∷ []) (2147483649 ∷ []) (pos 5) (pos 0 ∷ pos 1 ∷ pos 0 ∷ [])

-- x over [-2,1], times 6, is -9; the boxes [-9,-3] and [-9,-4] touch and miss the box
abbrev pub SignedCoordinates : Type 0
SignedCoordinates =
    (integral_at (signed 1 (Some 2)) (one_box signed_line) 1 (over 2147483645 2147483648) ≡ negsuc 8)
    × (sum_at (signed 1 (Some 2)) (one_box signed_line) 1 (over 2147483638 2147483644) ≡ pos 5)
    × (sum_at (signed 1 (Some 2)) (one_box signed_line) 1 (over 2147483638 2147483643) ≡ pos 0)

-- a box of one dimension from 0 with a polynomial of degree 2
abbrev pub from_zero : ℕ → ℕ → List ℤ → Object
from_zero id high given = valued id (0 ∷ []) (high ∷ []) (pos 0) given

abbrev pub parabola : Params
parabola = plain 1 (Some 2)

abbrev pub almost_all_mass : Object
almost_all_mass = from_zero 1 2147483648 (pos 0 ∷ pos 0 ∷ pos 4294967295 ∷ [])

abbrev pub half_of_the_rest : Object
half_of_the_rest = from_zero 2 1048576 (pos 0 ∷ pos 0 ∷ pos 8589934591 ∷ [])

abbrev pub all_but_one : Object
all_but_one = from_zero 3 1 (pos 0 ∷ pos 1 ∷ pos 1152921504606846974 ∷ [])

abbrev pub all_but_two : Object
all_but_two = from_zero 3 1 (pos 0 ∷ pos 0 ∷ pos 1152921504606846975 ∷ [])

abbrev pub mass_two : Object
mass_two = from_zero 4 1 (pos 0 ∷ pos 0 ∷ pos 1 ∷ [])

abbrev pub MassesOfBoxes : Type 0
MassesOfBoxes =
    (mass parabola almost_all_mass ≡ 2 ^ 126 - 2 ^ 94)
    × (mass parabola half_of_the_rest ≡ 2 ^ 94 - 2 ^ 61)
    × (mass parabola all_but_one ≡ 2 ^ 61 - 1)
    × (mass parabola all_but_two ≡ 2 ^ 61 - 2)
    × (mass parabola mass_two ≡ 2)
    × (mass line (span 1 0 9 5) ≡ 0)
    -- from -3 to 0 and from 0 to 2, the sizes of both: 3 * (9 + 4)
    × (mass (signed 1 (Some 2)) signed_line ≡ 39)

-- the batch that ends with this object
abbrev pub nearly_full : Object → List Row
nearly_full last = Add almost_all_mass ∷ Add half_of_the_rest ∷ Add last ∷ []

-- the masses of all objects ever added stay below 2^126: a total of 2^126 - 1 is accepted, and 2^126 is not
abbrev pub MassIsLimited : Type 0
MassIsLimited =
    (first_refusal parabola [] (nearly_full all_but_one) ≡ None)
    × (first_refusal parabola (history (nearly_full all_but_one ∷ [])) (Add mass_two ∷ []) ≡ Some (refused_at 1 Mass))
    × (first_refusal parabola (history (nearly_full all_but_two ∷ [])) (Add mass_two ∷ []) ≡ Some (refused_at 1 Mass))
    × (first_refusal parabola (history (nearly_full all_but_two ∷ [])) (Move mass_two ∷ []) ≡ Some (refused_at 1 Unknown))
    × (first_refusal parabola (history (nearly_full all_but_two ∷ [])) (Move (from_zero 3 1 (pos 0 ∷ pos 0 ∷ pos 1 ∷ [])) ∷ []) ≡ Some (refused_at 1 Mass))
    × (first_refusal (plain 3 (Some 2)) [] (Add (valued 1 (0 ∷ 0 ∷ 0 ∷ []) (4294967294 ∷ 4294967294 ∷ 4294967294 ∷ []) (pos 1) (replicate 26 (pos 0) ++ pos 1 ∷ [])) ∷ []) ≡ Some (refused_at 1 Mass))

abbrev pub first_add : List Row
first_add = Add (span 1 0 9 5) ∷ []

-- an id is used while it is live, fresh in the batch that adds it, gone after its withdrawal, and unknown before its first add
abbrev pub IdsAreJudged : Type 0
IdsAreJudged =
    (first_refusal line [] first_add ≡ None)
    × (first_refusal line (history (first_add ∷ [])) (Add (span 2 0 9 1) ∷ Add (span 1 3 4 1) ∷ []) ≡ Some (refused_at 2 Used))
    × (first_refusal line (history (first_add ∷ [])) (Add (span 3 0 1 1) ∷ Withdraw 3 ∷ []) ≡ Some (refused_at 2 Fresh))
    × (first_refusal line (history (first_add ∷ [])) (Withdraw 8 ∷ []) ≡ Some (refused_at 1 Unknown))
    × (first_refusal line (history (first_add ∷ [])) (Withdraw 1 ∷ []) ≡ None)
    × (first_refusal line (history (first_add ∷ (Withdraw 1 ∷ []) ∷ [])) (Withdraw 1 ∷ []) ≡ Some (refused_at 1 Gone))
    × (first_refusal line (history (first_add ∷ (Withdraw 1 ∷ []) ∷ [])) first_add ≡ None)

-- the batch of another session that was staged before the first one was accepted
abbrev pub SessionsCollide : Type 0
SessionsCollide = first_refusal line (history (first_add ∷ [])) (Add (span 1 0 9 6) ∷ []) ≡ Some (refused_at 1 Used)

-- a warehouse of one dimension for so many events
abbrev pub line_for : ℕ → Params
line_for events = record { dims = 1; degree = None; events = events; pages = 4294967295; origin = 0 }

-- each add, withdrawal and batch is an event, a move is two, and a batch that would pass the limit is refused whole
abbrev pub EventsAreLimited : Type 0
EventsAreLimited =
    (first_refusal (line_for 3) [] (Add (span 1 0 1 1) ∷ []) ≡ None)
    × (first_refusal (line_for 3) (history ((Add (span 1 0 1 1) ∷ []) ∷ [])) (Add (span 2 0 1 1) ∷ []) ≡ Some (refused_at 0 Events))
    × (first_refusal (line_for 3) (history ((Add (span 1 0 1 1) ∷ []) ∷ [])) [] ≡ None)
    × (first_refusal (line_for 3) (history ((Add (span 1 0 1 1) ∷ []) ∷ [] ∷ [])) [] ≡ Some (refused_at 0 Events))
    × (first_refusal (line_for 4) (history ((Add (span 1 0 1 1) ∷ []) ∷ [])) (Move (span 1 2 3 1) ∷ []) ≡ Some (refused_at 0 Events))
    × (first_refusal (line_for 5) (history ((Add (span 1 0 1 1) ∷ []) ∷ [])) (Move (span 1 2 3 1) ∷ []) ≡ None)

-- an id is added, moved, withdrawn and added again
abbrev pub moved_and_back : History
moved_and_back = history
    ((Add (span 1 0 9 5) ∷ []) ∷ (Move (span 1 20 29 5) ∷ []) ∷ (Withdraw 1 ∷ []) ∷ (Add (span 1 0 9 7) ∷ []) ∷ [])

abbrev pub AnIdLivesAgain : Type 0
AnIdLivesAgain =
    (sum_at line moved_and_back 1 (over 0 9) ≡ pos 5)
    × (sum_at line moved_and_back 2 (over 0 9) ≡ pos 0)
    × (sum_at line moved_and_back 2 (over 25 25) ≡ pos 5)
    × (sum_at line moved_and_back 3 (over 0 99) ≡ pos 0)
    × (sum_at line moved_and_back 4 (over 0 9) ≡ pos 7)

-- what a batch may do with an id that it withdrew itself
abbrev pub WithinOneBatch : Type 0
WithinOneBatch =
    (first_refusal line moved_and_back (Withdraw 1 ∷ Add (span 1 0 1 3) ∷ Withdraw 1 ∷ []) ≡ Some (refused_at 3 Fresh))
    × (first_refusal line moved_and_back (Move (span 2 0 1 1) ∷ []) ≡ Some (refused_at 1 Unknown))
    × (first_refusal line moved_and_back (Withdraw 1 ∷ Add (span 1 0 1 3) ∷ []) ≡ None)
    × (first_refusal line moved_and_back (Withdraw 1 ∷ Withdraw 1 ∷ []) ≡ Some (refused_at 2 Gone))
    × (first_refusal line moved_and_back (Move (span 1 0 1 3) ∷ Move (span 1 0 1 3) ∷ []) ≡ Some (refused_at 2 Fresh))
    × (first_refusal line moved_and_back (Move (span 1 0 1 3) ∷ Add (span 1 0 1 3) ∷ []) ≡ Some (refused_at 2 Used))

-- a life with its number, and the versions and event numbers of its ends
abbrev pub lived : Object → ℕ → ℕ → ℕ → ℕ → ℕ → Dated
lived o life added add_event withdrawn withdraw_event =
    record { object = o; life = life; added = added; add_event = add_event; withdrawn = withdrawn; withdraw_event = withdraw_event }

abbrev pub LivesAreNumbered : Type 0
LivesAreNumbered =
    lives moved_and_back
    ≡ lived (span 1 0 9 5) 1 1 0 2 1 ∷ lived (span 1 20 29 5) 2 2 2 3 3 ∷ lived (span 1 0 9 7) 3 4 4 0 0 ∷ []

-- a history that a warehouse may come to hold
abbrev pub LawfulHistoriesAre : Type 0
LawfulHistoriesAre = IsLawful line moved_and_back

-- the greatest coordinates fit and the next do not, ends are in order, and what lies past the dimensions and coefficients is 0
abbrev pub WhatFits : Type 0
WhatFits =
    (object_fits line (span 1 0 4294967294 5) ≡ true)
    × (object_fits line (span 1 0 4294967295 5) ≡ false)
    × (object_fits (signed 1 None) (span 1 0 4294967293 5) ≡ true)
    × (object_fits (signed 1 None) (span 1 0 4294967294 5) ≡ false)
    × (object_fits line (span 1 5 5 5) ≡ true)
    × (object_fits line (span 1 6 5 5) ≡ false)
    × (object_fits line (valued 1 (0 ∷ 0 ∷ []) (9 ∷ 1 ∷ []) (pos 5) []) ≡ false)
    × (object_fits line (valued 1 (0 ∷ []) (9 ∷ []) (pos 5) (pos 1 ∷ [])) ≡ false)
    × (object_fits (plain 2 (Some 1)) product_on_a_square ≡ true)
    × (object_fits (plain 2 (Some 0)) product_on_a_square ≡ false)
    × (query_fits line (over 3 2) ≡ false)
    × (query_fits line (record (over 2 3) { kind = kind.Integral }) ≡ false)
    × (query_fits parabola (record (over 2 3) { kind = kind.Integral }) ≡ true)
