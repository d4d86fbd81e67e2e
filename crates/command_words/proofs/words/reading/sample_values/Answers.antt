use Rattle.std.proofs.Common.{◌∙◌, ap₂, codes, map}
use Rattle.std.specs.String.{string_bytes}
use Rattle.clap.proofs.WalkLemmas.{first_value-rows}
use Rattle.clap.specs.Words.{app_of, found_of}
use Rattle.command_words.specs.Command.{sample_from, sample_of, sample_table, read_by}
use Rattle.command_words.specs.Reading.{sample_app, sample_in}
use Rattle.command_words.proofs.WordsTables.{sample_reads, reads_none, reads_some}
use Rattle.command_words.proofs.words.reading.sample_values.Goals as goal

pub returns-in-None : goal.returns-in-None
returns-in-None c =
    let words = map string_bytes c.args.words.now in
    reads_none (app_of c.in_ok-sample_command.field-0) sample_app words c.in_ok-found.field-0 sample_in (read_by sample_table sample_of words) c.in-None.is c.in_ok-found.ensures
    c.in_ok-sample_command.ensures (sample_reads words)

pub returns-in-Some : goal.returns-in-Some
returns-in-Some c =
    let words = map string_bytes c.args.words.now in
    c.sample_numbers.ensures ∙ ap₂ sample_from (c.get_str.ensures ∙ first_value-rows (found_of c.in-Some.matches) (codes "start")) (c.get_str-in-Some.ensures ∙ first_value-rows (found_of c.in-Some.matches) (codes "count"))
    ∙ reads_some (app_of c.in_ok-sample_command.field-0) sample_app words c.in_ok-found.field-0 sample_in (read_by sample_table sample_of words) c.in-Some.matches c.in-Some.is c.in_ok-found.ensures
    c.in_ok-sample_command.ensures (sample_reads words)
