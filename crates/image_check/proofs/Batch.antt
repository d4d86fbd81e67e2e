-- A batch that is staged and put in.
use Rattle.std.proofs.Common.{◌≡◌, List, [], ◌∷◌, ◌++◌, ◌∙◌, ap}
use Rattle.bw_types.specs.History.{History, flat}
use Rattle.bw_types.specs.Lawful.{staged_rows}
use Rattle.bw_types.specs.declared.change.Change.{Change}
use Rattle.bw_types.specs.declared.row.Row.{Row}
use Rattle.history_laws.proofs.Staging.{flat_staged}

-- its rows have its changes
pub put_last : (h : History) (batch : List Change) (rows : List Row) → rows ≡ staged_rows batch → h ++ (flat rows ∷ []) ≡ h ++ (batch ∷ [])
put_last h batch rows staged = ap (λ (cs : List Change). h ++ (cs ∷ [])) (ap flat staged ∙ flat_staged batch)
