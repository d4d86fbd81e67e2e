use Rattle.std.proofs.Common.{◌≡◌, ◌∙◌, eqb, false, refl, rules, tests, is_some}
use Rattle.std.proofs.lemmas.Iterator.Search.{all_from_yields_List}
use Rattle.std.proofs.lemmas.Iterator.Splits.{YieldsList-from_slice_split}
use Rattle.csv_rows.specs.Fields.{content_of, holds_quote, parts_of}
use Rattle.csv_rows.proofs.Contents.{all-have}
use Rattle.csv_rows.proofs.PlainLines.{plain-fields}
use Rattle.csv_rows.proofs.fields.has_only_fields.Goals as goal

pub returns : goal.returns
returns c =
    all_from_yields_List (λ part. is_some (content_of part)) _ _ _ c.all.ensures.ran (YieldsList-from_slice_split _ (λ b. eqb b 44) c.args.line.now c.split.ensures.rest c.split.ensures.done c.split.ensures.closure (λ x r q k. search (rules, tests))) (λ x b q k. search (rules, tests))
    ∙ all-have (parts_of c.args.line.now)

pub returns-then-not-contains : goal.returns-then-not-contains
returns-then-not-contains c =
    let plain : holds_quote c.args.line.now ≡ false = search rules in
    rw (plain-fields c.args.line.now plain) refl
