-- Whole lines with what they spell and what is replied to them, as facts over the definitions.
use Rattle.std.specs.Prelude.{◌≡◌, ℕ, List, [], ◌∷◌, map, replicate, pos, None, Some, codes}
use Rattle.bw_types.specs.Answers.{integral_at}
use Rattle.bw_types.specs.History.{History}
use Rattle.bw_types.specs.Worked.{ends, one_box, parabola, plain, signed, signed_line, square_on_a_line, valued}
use Rattle.bw_types.specs.declared.params.Params.{Params}
use Rattle.grid_report.specs.CellsAddUp.{grid_query}
use Rattle.grid_report.specs.GridReplies.{grid_replies}
use Rattle.grid_report.specs.GridRows.{grid_row}
use Rattle.grid_report.specs.declared.asked.Grid.{Grid}

-- a grid with these numbers in the first dimensions
abbrev pub grid_with : List ℕ → List ℕ → List ℕ → Grid
grid_with low step cells = record { low = ends low; step = ends step; cells = ends cells }

-- x^2 over [0,1], [1,2] and [2,3], times 6: 2 * 1, 2 * (8 - 1) and 2 * (27 - 8). It has nothing past 3: over [2,5] it is as over [2,3].
abbrev pub SquaresOverCells : Type 0
SquaresOverCells =
    (grid_replies parabola (one_box square_on_a_line) 1 (codes "grid,now,0,1,3") ≡ codes "grid,1,3\ncell,0,2\ncell,1,14\ncell,2,38\n")
    × (grid_replies parabola (one_box square_on_a_line) 1 (codes "grid,1,2,3,2") ≡ codes "grid,1,2\ncell,0,38\ncell,1,0\n")

-- x^2 over [0,3], the box of the first of these grids, times 6: as much as over its cells together
abbrev pub SquareOverTheGrid : Type 0
SquareOverTheGrid = integral_at parabola (one_box square_on_a_line) 1 (grid_query parabola (grid_with (0 ∷ []) (1 ∷ []) (3 ∷ []))) ≡ pos 54

-- value functions of degree 1 in two dimensions, and the function x y on [0,9] times [0,9]
abbrev pub plane : Params
plane = plain 2 (Some 1)

abbrev pub product_on_a_plane : History
product_on_a_plane = one_box (valued 1 (0 ∷ 0 ∷ []) (9 ∷ 9 ∷ []) (pos 1) (pos 0 ∷ pos 0 ∷ pos 0 ∷ pos 1 ∷ []))

-- The last index runs fastest, and the low end, the step and the number of cells of a dimension stand together. Over [1,4] and [4,7] times
-- [0,1], [1,2] and [2,3] the integrals, times 36, are 3 * 15 and 3 * 33 times 3 * 1, 3 * 3 and 3 * 5.
abbrev pub LastIndexRunsFastest : Type 0
LastIndexRunsFastest =
    grid_replies plane product_on_a_plane 1 (codes "grid,now,1,3,2,0,1,3")
    ≡ codes "grid,1,6\ncell,0,0,135\ncell,0,1,405\ncell,0,2,675\ncell,1,0,297\ncell,1,1,891\ncell,1,2,1485\n"

-- a version that is past and one that is not there yet, and a grid of too many corners, 65 * 65
abbrev pub LinesAreAnswered : Type 0
LinesAreAnswered =
    (grid_replies plane product_on_a_plane 1 (codes "grid,0,0,1,2,0,1,1") ≡ codes "grid,0,2\ncell,0,0,0\ncell,1,0,0\n")
    × (grid_replies plane product_on_a_plane 2 (codes "grid,9,0,1,1,0,1,1") ≡ codes "noversion,2\n")
    × (grid_replies plane product_on_a_plane 3 (codes "grid,now,0,1,64,0,1,64") ≡ codes "bad,3\n")

-- The largest grids: 64 * 64 corners, last lines at the greatest coordinates, and from the least signed coordinate to the greatest.
abbrev pub LargestGridsAreRead : Type 0
LargestGridsAreRead =
    (grid_row plane (codes "grid,now,0,1,63,0,1,63") ≡ Some (record { version = None; grid = grid_with (0 ∷ 0 ∷ []) (1 ∷ 1 ∷ []) (63 ∷ 63 ∷ []) }))
    × (grid_row plane (codes "\"grid\",7,4294967293,1,1,0,2147483647,2") ≡ Some (record { version = Some 7; grid = grid_with (4294967293 ∷ 0 ∷ []) (1 ∷ 2147483647 ∷ []) (1 ∷ 2 ∷ []) }))
    × (grid_row (signed 1 (Some 2)) (codes "grid,now,-2147483647,4294967293,1") ≡ Some (record { version = None; grid = grid_with (0 ∷ []) (4294967293 ∷ []) (1 ∷ []) }))

-- one corner too many, 17 * 241, a last line past the greatest coordinate and one past 32 bits, no step, no cell, a field too few, one too
-- many, another word, and a version and a low end below 0
abbrev pub bad_lines : List (List ℕ)
bad_lines =
    codes "grid,now,0,1,16,0,1,240"
    ∷ codes "grid,now,4294967294,1,1,0,1,1"
    ∷ codes "grid,now,4,4294967295,1,0,1,1"
    ∷ codes "grid,now,0,0,1,0,1,1"
    ∷ codes "grid,now,0,1,1,0,1,0"
    ∷ codes "grid,now,0,1,1,0,1"
    ∷ codes "grid,now,0,1,1,0,1,1,1"
    ∷ codes "grids,now,0,1,1,0,1,1"
    ∷ codes "grid,-1,0,1,1,0,1,1"
    ∷ codes "grid,now,-1,1,1,0,1,1"
    ∷ []

-- None of these is read, nor is a grid one step past the greatest signed coordinate, nor any where there are no value functions.
abbrev pub BadGridsAreNotRead : Type 0
BadGridsAreNotRead =
    (map (grid_row plane) bad_lines ≡ replicate 10 None)
    × (grid_row (signed 1 (Some 2)) (codes "grid,now,-2147483647,4294967294,1") ≡ None)
    × (grid_row (plain 2 None) (codes "grid,now,0,1,1,0,1,1") ≡ None)

-- x over [-2,-1], [-1,0] and [0,1] in a signed warehouse, times 6: 3 * (1 - 4), 3 * (0 - 1) and 3 * (1 - 0)
abbrev pub CellsBelowZero : Type 0
CellsBelowZero =
    grid_replies (signed 1 (Some 2)) (one_box signed_line) 1 (codes "grid,now,-2,1,3") ≡ codes "grid,1,3\ncell,0,-9\ncell,1,-3\ncell,2,3\n"
