-- What a warehouse in memory is to its callers.
use Rattle.bw_types.specs.History.{History}
use Rattle.bw_types.specs.declared.params.Params.{Params}

-- what it was made for, and the batches that it accepted, in order
pub record ListState : Type 0 where
  pub params : Params
  pub history : History
