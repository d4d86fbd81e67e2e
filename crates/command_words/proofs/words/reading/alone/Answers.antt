use Rattle.std.proofs.Common.{Some, map}
use Rattle.std.specs.String.{string_bytes}
use Rattle.clap.specs.Words.{app_of}
use Rattle.command_words.specs.Command.{bare_table, read_by}
use Rattle.command_words.specs.Reading.{bare_app}
use Rattle.command_words.proofs.WordsTables.{bare_reads, reads_none, reads_some}
use Rattle.command_words.proofs.words.reading.alone.Goals as goal

pub returns-in-None : goal.returns-in-None
returns-in-None c =
    let words = map string_bytes c.args.words.now in
    reads_none (app_of c.bare_command.result) bare_app words c.in_ok-found.field-0 (λ _. Some c.args.asked) (read_by bare_table (λ _. Some c.args.asked) words) c.in-None.is c.in_ok-found.ensures
    c.bare_command.ensures (bare_reads c.args.asked words)

pub returns-in-Some : goal.returns-in-Some
returns-in-Some c =
    let words = map string_bytes c.args.words.now in
    reads_some (app_of c.bare_command.result) bare_app words c.in_ok-found.field-0 (λ _. Some c.args.asked) (read_by bare_table (λ _. Some c.args.asked) words) c.in-Some._matches c.in-Some.is
    c.in_ok-found.ensures c.bare_command.ensures (bare_reads c.args.asked words)
