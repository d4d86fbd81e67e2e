-- What holds of a grid that keeps the rules.
use Rattle.std.proofs.Common.{◌≡◌, ℕ, zero, suc, ◌<◌, ◌≤◌, ◌&&◌, Bool, true, is_some, nat_le, slice_index, ap, ◌∙◌, inl, inr, arith}
use Rattle.std.proofs.lemmas.Bool.{and_parts, cases_lt, leb-true}
use Rattle.bw_types.specs.Fits.{greatest_number}
use Rattle.bw_types.specs.Tally.{each_below}
use Rattle.bw_types.specs.declared.params.Params.{Params}
use Rattle.grid_report.specs.Grids.{grid_corners, grid_fits, line_at}
use Rattle.grid_report.specs.declared.asked.Grid.{Grid}

-- a test that holds of each number below n
each_below-true : (n : ℕ) (p : ℕ → Bool) → each_below n p ≡ true → (i : ℕ) → i < n → p i ≡ true
each_below-true zero p h i lt = absurd (omega arith)
each_below-true (suc n) p h i lt =
    let both = and_parts (each_below n p) (p n) h in
    elim (cases_lt i n) [
      | inl below ↦ each_below-true n p both.0 i below
      | inr last ↦ let e : i ≡ n = omega arith in ap p e ∙ both.1
    ]

-- one step, one cell and the last line in a dimension
pub record FitsIn (params : Params) (g : Grid) (i : ℕ) : Type 0 where
  pub step : 1 ≤ slice_index g.step i
  pub cells : 1 ≤ slice_index g.cells i
  pub last : line_at g i (slice_index g.cells i) ≤ greatest_number params

pub record Fitted (params : Params) (g : Grid) : Type 0 where
  pub degree : is_some params.degree ≡ true
  pub each : (i : ℕ) → i < params.dims → FitsIn params g i
  pub corners : grid_corners params g ≤ 4096

pub fitted : (params : Params) (g : Grid) → grid_fits params g ≡ true → Fitted params g
fitted params g h =
    let test = λ (i : ℕ). nat_le 1 (slice_index g.step i) && nat_le 1 (slice_index g.cells i) && nat_le (line_at g i (slice_index g.cells i)) (greatest_number params) in
    let outer = and_parts (is_some params.degree && each_below params.dims test) (nat_le (grid_corners params g) 4096) h in
    let inner = and_parts (is_some params.degree) (each_below params.dims test) outer.0 in
    record {
      degree = inner.0;
      each = λ i lt.
          let all = and_parts (nat_le 1 (slice_index g.step i) && nat_le 1 (slice_index g.cells i)) (nat_le (line_at g i (slice_index g.cells i)) (greatest_number params)) (each_below-true params.dims test inner.1 i lt) in
          let two = and_parts (nat_le 1 (slice_index g.step i)) (nat_le 1 (slice_index g.cells i)) all.0 in
          record { step = leb-true 1 (slice_index g.step i) two.0; cells = leb-true 1 (slice_index g.cells i) two.1; last = leb-true (line_at g i (slice_index g.cells i)) (greatest_number params) all.1 };
      corners = leb-true (grid_corners params g) 4096 outer.1;
    }
