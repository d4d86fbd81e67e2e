use Rattle.std.proofs.Common.{◌∙◌, ap, codes, map}
use Rattle.std.specs.String.{string_bytes}
use Rattle.clap.proofs.WalkLemmas.{first_value-rows}
use Rattle.clap.specs.Words.{app_of, found_of}
use Rattle.command_words.specs.Command.{compact_table, read_by, version_from, version_of}
use Rattle.command_words.specs.Reading.{compact_app, version_in}
use Rattle.command_words.proofs.WordsTables.{compact_reads, reads_none, reads_some}
use Rattle.command_words.proofs.words.reading.compact_version.Goals as goal

pub returns-in-None : goal.returns-in-None
returns-in-None c =
    let words = map string_bytes c.args.words.now in
    reads_none (app_of c.in_ok-compact_command.field-0) compact_app words c.in_ok-found.field-0 version_in (read_by compact_table version_of words) c.in-None.is c.in_ok-found.ensures
    c.in_ok-compact_command.ensures (compact_reads words)

pub returns-in-Some : goal.returns-in-Some
returns-in-Some c =
    let words = map string_bytes c.args.words.now in
    c.version.ensures ∙ ap version_from (c.get_str.ensures ∙ first_value-rows (found_of c.in-Some.matches) (codes "version"))
    ∙ reads_some (app_of c.in_ok-compact_command.field-0) compact_app words c.in_ok-found.field-0 version_in (read_by compact_table version_of words) c.in-Some.matches c.in-Some.is c.in_ok-found.ensures
    c.in_ok-compact_command.ensures (compact_reads words)
