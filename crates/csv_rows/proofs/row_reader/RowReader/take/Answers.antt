use Rattle.std.proofs.Common.{◌∙◌, Some, drop}
use Rattle.std.specs.Io.Cursor.{cursor_remaining}
use Rattle.csv.specs.Records.{fields_of}
use Rattle.csv_rows.specs.Fields.{line_fields}
use Rattle.csv_rows.proofs.Contents.{some-of}
use Rattle.csv_rows.proofs.FeedLemmas.{behind-line, reads-next, within-text}
use Rattle.csv_rows.proofs.row_reader.RowReader.take.Goals as goal

pub invariant_of-self : goal.invariant_of-self
invariant_of-self c =
    let a = c.self.inside in
    let line = c.args.line.now in
    let (rest, begins) = c.requires.next in
    let here = c.self.view_is ∙ begins in
    let (contents, has) = some-of (line_fields line) c.requires.whole in
    let stands = c.self.invariant.1 in
    let read = rw c.in-Ok-true.field-0-test at (c.in-Ok-true.ensures.reads stands.1 stands.3) in
    let next = reads-next (cursor_remaining (λ v. Some v.items)) a.reader c.read_byte_record.new.self (drop a.at a.text.items) line rest (fields_of c.read_byte_record.new.row) contents stands here has c.in-Ok-true.ensures.flexible (c.in-Ok-true.ensures.ready stands.1) read in
    (within-text a.text.items line rest a.at c.self.invariant.0 here, rw (behind-line a.text.items line rest a.at here) next.0)

pub returns-in-Ok-true : goal.returns-in-Ok-true
returns-in-Ok-true c contents has =
    let a = c.self.inside in
    let line = c.args.line.now in
    let (rest, begins) = c.requires.next in
    let here = c.self.view_is ∙ begins in
    let stands = c.self.invariant.1 in
    let read = rw c.in-Ok-true.field-0-test at (c.in-Ok-true.ensures.reads stands.1 stands.3) in
    (reads-next (cursor_remaining (λ v. Some v.items)) a.reader c.read_byte_record.new.self (drop a.at a.text.items) line rest (fields_of c.read_byte_record.new.row) contents stands here has c.in-Ok-true.ensures.flexible (c.in-Ok-true.ensures.ready stands.1) read).1
