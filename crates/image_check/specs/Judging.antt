-- What the lives of a table are found to tell.
use Rattle.std.specs.Prelude.{List, IsPermutation}
use Rattle.std.specs.List.{All}
use Rattle.bw_types.specs.History.{History, changes}
use Rattle.bw_types.specs.Lawful.{IsLawful}
use Rattle.bw_types.specs.Lives.{lives}
use Rattle.bw_types.specs.declared.dated.Dated.{Dated}
use Rattle.bw_types.specs.declared.params.Params.{Params}
use Rattle.history_laws.specs.Bounds.{HasSmallWeight}
use Rattle.page_layout.specs.declared.meta.Meta.{Meta}
use Rattle.page_warehouse.specs.Holds.{TellsOf}

-- The history is lawful, the meta page tells of it, and these are its lives, in any order.
pub record IsKept (params : Params) (meta : Meta) (kept : List Dated) (h : History) : Type 0 where
  pub tells : TellsOf params meta h
  pub lawful : IsLawful params h
  pub weights : All HasSmallWeight (changes h)
  pub all : IsPermutation kept (lives h)
