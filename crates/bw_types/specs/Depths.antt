-- How deep the cuts over points may lie, how many pages a query reads, and how many pages building and adding give out.
use Rattle.std.specs.Prelude.{◌≡◌, ℕ, zero, suc, ◌+◌, ◌*◌, ◌/◌, ◌≤◌, ◌==◌, nat_le, if◌then◌else◌}
use Rattle.bw_types.specs.Digits.{digit_count}

-- the most points of a side of a cut of n points: three fifths of them
abbrev pub most_of_side : ℕ → ℕ
most_of_side n = 3 * n / 5

-- the most cuts on a path in a part of n points; so many steps are enough as there are points
abbrev pub depth_within : ℕ → ℕ → ℕ
depth_within zero n = 0
depth_within (suc steps) n = if nat_le n 64 then 0 else suc (depth_within steps (most_of_side n))

abbrev pub depth : ℕ → ℕ
depth n = depth_within n n

-- the most pages that the value of a part of n points is read from, where a border of n points costs this many
abbrev pub reads_within : (ℕ → ℕ) → ℕ → ℕ → ℕ
reads_within cost zero n = 0
reads_within cost (suc steps) n =
    if n == 0 then 0 else (if nat_le n 64 then 1 else reads_within cost steps (most_of_side n) + 1 + cost (most_of_side n))

-- the most pages that a query over so many dimensions reads among n points
abbrev pub query_pages : ℕ → ℕ → ℕ
query_pages zero n = digit_count 32 n
query_pages (suc zero) n = digit_count 32 n + digit_count 24 n
query_pages (suc (suc d)) n = reads_within (query_pages (suc d)) n n

-- the most pages a point that building a part of n points gives out, where borders of n points take so many a point: two for
-- leaves and pages of cuts, and at each depth those of the borders there, which share no point
abbrev pub share_above : (ℕ → ℕ) → ℕ → ℕ
share_above share n = 2 + depth n * share n

-- the most pages a point that building a tree of n points over so many dimensions gives out
abbrev pub pages_a_point : ℕ → ℕ → ℕ
pages_a_point zero n = 24
pages_a_point (suc zero) n = 24
pages_a_point (suc (suc d)) n = share_above (pages_a_point (suc d)) n

-- the most pages that an addition to a part of n points gives out, where one to a border of n points gives out so many, and
-- building one so many a point: a page that is split and an addition to a border for each cut on the way, one border that begins,
-- and one part that is made anew
abbrev pub growth_above : (ℕ → ℕ) → (ℕ → ℕ) → ℕ → ℕ
growth_above growth share n = depth (n + 1) * (1 + growth n) + 65 * share 65 + (n + 1) * share_above share (n + 1)

-- the most pages that an addition to a tree of n points over so many dimensions gives out: beside those of its part a new leaf, a
-- new root page, and one more
abbrev pub added_pages : ℕ → ℕ → ℕ
added_pages zero n = 24
added_pages (suc zero) n = 24
added_pages (suc (suc d)) n = 3 + growth_above (added_pages (suc d)) (pages_a_point (suc d)) n

-- A number that does not fall as the number of points grows.
abbrev pub NeverFalls : (ℕ → ℕ) → Type 0
NeverFalls f = (m n : ℕ) → m ≤ n → f m ≤ f n

-- A cost grows with the number of points, and is some page where there is a point.
pub record IsCost (cost : ℕ → ℕ) : Type 0 where
  pub grows : NeverFalls cost
  pub some : (n : ℕ) → 1 ≤ n → 1 ≤ cost n

-- More points lie no less deep.
abbrev pub DepthsGrow : Type 0
DepthsGrow = NeverFalls depth

-- The numbers of queries grow with the number of points, and where there is a point they are not 0; those of building and of adding never fall.
abbrev pub QueriesAreCosts : Type 0
QueriesAreCosts = (d : ℕ) → IsCost (query_pages d)

abbrev pub BuildingGrows : Type 0
BuildingGrows = (d : ℕ) → NeverFalls (pages_a_point d)

abbrev pub AddingGrows : Type 0
AddingGrows = (d : ℕ) → NeverFalls (added_pages d)

-- Depths of so many points.
abbrev pub DepthsWorked : Type 0
DepthsWorked =
    (depth 64 ≡ 0) × (depth 65 ≡ 1) × (depth 108 ≡ 1) × (depth 182 ≡ 3) × (depth 1000 ≡ 6) × (depth 10000 ≡ 10) × (depth 200000 ≡ 16)

-- A query over 0, 1, 2 and 3 dimensions among 1, 33, 1000 and 40000 points.
abbrev pub QueriesWorkedAt : ℕ → ℕ → ℕ → ℕ → ℕ → Type 0
QueriesWorkedAt n a b c d = (query_pages 0 n ≡ a) × (query_pages 1 n ≡ b) × (query_pages 2 n ≡ c) × (query_pages 3 n ≡ d)

abbrev pub QueriesWorked : Type 0
QueriesWorked = QueriesWorkedAt 1 1 2 1 1 × QueriesWorkedAt 33 2 4 1 1 × QueriesWorkedAt 1000 2 5 32 88 × QueriesWorkedAt 40000 4 8 83 467

-- Building and adding over two dimensions, among 1000 points.
abbrev pub GrowthWorked : Type 0
GrowthWorked = (pages_a_point 2 1000 ≡ 146) × (added_pages 2 1000 ≡ 147859)
