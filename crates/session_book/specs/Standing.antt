-- How an id stands for the next row of a batch.
use Rattle.std.specs.Prelude.{ℕ, Bool, true, false, List, ◌++◌, Option, Some, None}
use Rattle.bw_types.specs.Refusals.{is_live, was_added}
use Rattle.bw_types.specs.declared.change.Change.{Change}
use Rattle.bw_types.specs.declared.refusal.Reason.{Reason}
use Rattle.bw_types.specs.declared.refusal.Reason.TheVariants as reason
use Rattle.session_book.specs.declared.seen.Life.{Life}
use Rattle.session_book.specs.declared.seen.Life.TheVariants as life
use Rattle.session_book.specs.declared.standing.Standing.{Standing}
use Rattle.session_book.specs.declared.standing.Standing.TheVariants.{Never, Withdrawn, Live, Fresh}

-- by whether it is live, was added by the batch, and was ever added
abbrev pub standing_of : Bool → Bool → Bool → Standing
standing_of true true added = Fresh
standing_of true false added = Live
standing_of false fresh true = Withdrawn
standing_of false fresh false = Never

-- after the changes of the past and those of earlier rows of the batch
abbrev pub standing_after : List Change → List Change → ℕ → Standing
standing_after past batch id = standing_of (is_live id (past ++ batch)) (was_added id batch) (was_added id (past ++ batch))

-- an id that no row of the batch has changed
abbrev pub standing_in_past : Life → Standing
standing_in_past life.Never = Never
standing_in_past life.Live = Live
standing_in_past life.Withdrawn = Withdrawn

-- an id by what the batch did to it last, an add or a withdrawal, and else by the past
abbrev pub standing_by : Option Bool → Life → Standing
standing_by (Some true) past = Fresh
standing_by (Some false) past = Withdrawn
standing_by None past = standing_in_past past

abbrev pub refusal_to_add : Standing → Option Reason
refusal_to_add Never = None
refusal_to_add Withdrawn = None
refusal_to_add Live = Some reason.Used
refusal_to_add Fresh = Some reason.Used

abbrev pub refusal_to_withdraw : Standing → Option Reason
refusal_to_withdraw Never = Some reason.Unknown
refusal_to_withdraw Withdrawn = Some reason.Gone
refusal_to_withdraw Live = None
refusal_to_withdraw Fresh = Some reason.Fresh
