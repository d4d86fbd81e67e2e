use Rattle.std.proofs.Common.{◌∙◌, ap, map}
use Rattle.std.specs.String.{string_bytes}
use Rattle.clap.specs.Words.{app_of}
use Rattle.command_words.specs.Command.{create_table, params_from, params_of, read_by}
use Rattle.command_words.specs.Reading.{create_app, params_in}
use Rattle.command_words.proofs.WordsTables.{create_reads, reads_none, reads_some}
use Rattle.command_words.proofs.words.reading.create_params.Goals as goal

pub returns-in-None-clause-value : goal.returns-in-None-clause-value
returns-in-None-clause-value c =
    let words = map string_bytes c.args.words.now in
    reads_none (app_of c.in_ok-create_command.field-0) create_app words c.in_ok-found.field-0 params_in (read_by create_table params_of words) c.in-None.is c.in_ok-found.ensures
    c.in_ok-create_command.ensures (create_reads words)

pub returns-in-Some-clause-value : goal.returns-in-Some-clause-value
returns-in-Some-clause-value c =
    let words = map string_bytes c.args.words.now in
    c.params.ensures.value ∙ ap params_from c.params_text.ensures
    ∙ reads_some (app_of c.in_ok-create_command.field-0) create_app words c.in_ok-found.field-0 params_in (read_by create_table params_of words) c.in-Some.matches c.in-Some.is c.in_ok-found.ensures
    c.in_ok-create_command.ensures (create_reads words)
