-- The answers of the trees are those of the history.
use Rattle.std.proofs.Common.{◌≡◌, ℕ, ◌^◌, ◌<◌, ℤ, pos, neg_ℤ, ◌≤ℤ◌, ◌<ℤ◌, nat_abs, sym, subst, arith}
use Rattle.std.proofs.lemmas.Int.{ints}
use Rattle.bw_types.specs.Answers.{integral_at}
use Rattle.bw_types.specs.Fits.{IsInRange}
use Rattle.bw_types.specs.History.{History}
use Rattle.bw_types.specs.declared.params.Params.{Params}
use Rattle.bw_types.specs.declared.query.Query.{Query}
use Rattle.corner_weights.specs.PlaneSums.{integral_at as entered_integral_at}
use Rattle.history_laws.specs.Bounds.{HasRoom, IntegralsAreBounded}
use Rattle.history_laws.specs.Entries.{history_entries}
use Rattle.history_laws.specs.Answers.{IntegralByEntries}

-- a number of 127 bits and a sign
pub record IsSmall (z : ℤ) : Type 0 where
  pub least : neg_ℤ (pos (2 ^ 127)) ≤ℤ z
  pub most : z <ℤ pos (2 ^ 127)

small_from : (z : ℤ) → nat_abs z < 2 ^ 127 → IsSmall z
small_from z h = record { least = omega (arith, ints); most = omega (arith, ints) }

module _ (params : Params) (range : IsInRange params) (h : History) (room : HasRoom params h) (version : ℕ) (q : Query) where
  -- what the entries give is what the history answers, and not too great
  pub integral_given : IntegralByEntries → IntegralsAreBounded → (entered_integral_at params q version (history_entries h) ≡ integral_at params h version q) × IsSmall (entered_integral_at params q version (history_entries h))
  integral_given given bounded =
      let e : entered_integral_at params q version (history_entries h) ≡ integral_at params h version q = given params h version q in
      let most = bounded params h version q in
      let mass = room.mass in
      (e, subst IsSmall (sym e) (small_from (integral_at params h version q) (omega arith)))
