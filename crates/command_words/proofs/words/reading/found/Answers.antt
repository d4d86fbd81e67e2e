use Rattle.std.proofs.Common.{◌∙◌, map}
use Rattle.std.specs.String.{string_bytes}
use Rattle.clap.specs.Words.{app_of}
use Rattle.command_words.proofs.WordsTables.{found_none, found_some}
use Rattle.command_words.proofs.words.reading.found.Goals as goal

pub returns-in-Ok : goal.returns-in-Ok
returns-in-Ok c = found_some (app_of c.args.command) (map string_bytes c.args.words.now) c.in-Ok.matches c.requires c.in-Ok.ensures.kinds c.in-Ok.ensures.matches

pub returns : goal.returns
returns c =
    found_none (app_of c.args.command) (map string_bytes c.args.words.now) c.in-Err.error c.in-Err.ensures.kinds c.requires (λ e. c.in_default.not-OutOfMemory (c.kind.ensures ∙ e))
