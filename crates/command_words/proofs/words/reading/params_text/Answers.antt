use Rattle.std.proofs.Common.{◌∙◌, codes}
use Rattle.clap.proofs.WalkLemmas.{first_value-rows}
use Rattle.clap.specs.Words.{found_of}
use Rattle.command_words.proofs.words.reading.params_text.Goals as goal

pub returns : goal.returns
returns c = λ i. record {
  dims = (c.get_str.ensures ∙ first_value-rows (found_of c.args.matches.now) (codes "dims")) i;
  degree = (c.get_str-2.ensures ∙ first_value-rows (found_of c.args.matches.now) (codes "degree")) i;
  events = (c.get_str-3.ensures ∙ first_value-rows (found_of c.args.matches.now) (codes "events")) i;
  pages = (c.get_str-4.ensures ∙ first_value-rows (found_of c.args.matches.now) (codes "pages")) i;
  signed = (c.get_str-5.ensures ∙ first_value-rows (found_of c.args.matches.now) (codes "signed")) i;
}
