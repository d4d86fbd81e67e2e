-- Replies that are gathered and not put yet.
use Rattle.std.specs.Prelude.{ℕ, List}
use Rattle.row_machine.specs.declared.outbox.Outbox.{Outbox}

abbrev pub gathered : Outbox → List ℕ
gathered outbox = outbox.text.items
