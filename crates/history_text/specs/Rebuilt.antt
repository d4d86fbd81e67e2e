-- What the rows of a history make when a new warehouse reads them.
use Rattle.std.specs.Prelude.{◌≡◌, ℕ, ◌<◌, ◌^◌, IsTrue, ◌&&◌, int_le, ℤ, pos, negsuc, List, [], length}
use Rattle.std.specs.List.{All, flat_map, range_with_len}
use Rattle.bw_types.specs.Fits.{IsInRange}
use Rattle.bw_types.specs.History.{History, changes, last_version}
use Rattle.bw_types.specs.Lawful.{IsLawful}
use Rattle.bw_types.specs.declared.change.Change.{Change}
use Rattle.bw_types.specs.declared.change.Change.TheVariants as change
use Rattle.bw_types.specs.declared.object.Object.{Object}
use Rattle.bw_types.specs.declared.params.Params.{Params}
use Rattle.csv_rows.specs.Machine.{after, text}
use Rattle.csv_rows.specs.Replies.{reply_text}
use Rattle.csv_rows.specs.declared.reply.Reply.TheVariants.{Version}
use Rattle.history_text.specs.Rows.{rows_of}

-- the number is a signed one of 64 bits
abbrev pub Has64Bits : ℤ → Type 0
Has64Bits number = IsTrue (int_le (negsuc 9223372036854775807) number && int_le number (pos 9223372036854775807))

-- The numbers of an object have the sizes of their fields.
pub record HasSizes (o : Object) : Type 0 where
  pub id : o.id < 2 ^ 64
  pub low : length o.low ≡ 3
  pub high : length o.high ≡ 3
  pub weight : Has64Bits o.weight
  pub coeffs : length o.coeffs ≡ 27
  pub each : All Has64Bits o.coeffs

-- so do those of a change
abbrev pub ChangeHasSizes : Change → Type 0
ChangeHasSizes (change.Add o) = HasSizes o
ChangeHasSizes (change.Withdraw id) = id < 2 ^ 64

-- the replies to commits that are all accepted, as versions from 1 on
abbrev pub version_replies : ℕ → List ℕ
version_replies last = flat_map (λ version. reply_text (Version version)) (range_with_len 1 last)

-- Read by a new warehouse with the same params, the rows of the history make this history, and each commit is replied with its version.
pub record Rebuilds (params : Params) (h : History) : Type 0 where
  pub history : after params [] (rows_of params h) ≡ h
  pub replies : text params [] (rows_of params h) ≡ version_replies (last_version h)

-- The rows of each lawful history rebuild it.
abbrev pub RowsRebuild : Type 0
RowsRebuild = (params : Params) (h : History) → IsInRange params → IsLawful params h → All ChangeHasSizes (changes h)
    → Rebuilds params h
