-- What a meta page tells of a history, whatever else is on the disk.
use Rattle.std.specs.Prelude.{◌≡◌, length}
use Rattle.bw_types.specs.History.{History, changes, last_version}
use Rattle.page_layout.specs.declared.meta.Meta.{Meta}

-- The history has the last version of the meta page, and as many adds and withdrawals as that says.
pub record HasNumbersOf (meta : Meta) (h : History) : Type 0 where
  pub version : last_version h ≡ meta.version
  pub rows : length (changes h) ≡ meta.rows
