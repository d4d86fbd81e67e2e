use Rattle.std.proofs.Common.{ℕ, List, Ok, ap, subst, sym}
use Rattle.image_check.specs.Reading.{AreItsPages}
use Rattle.image_check.proofs.Whole.{its_pages, reads_each}
use Rattle.image_check.proofs.reading.read_table.Goals as goal

pub returns-in_err-stands-clause-reads : goal.returns-in_err-stands-clause-reads
returns-in_err-stands-clause-reads g c =
    reads_each g.P.Pages c.args.form c.args.table.now c.new-seen.result.keys c.read_root-stands.new.seen.keys c.args.pages.now c.read_root-stands.new.pages c.new-seen.ensures.empty c.len.ensures.ordered c.read_root-stands.ensures.reads c.read_root-stands.ensures.sees

pub returns-then-not-branch-clause-reads : goal.returns-then-not-branch-clause-reads
returns-then-not-branch-clause-reads g c =
    reads_each g.P.Pages c.args.form c.args.table.now c.new-seen.result.keys c.read_root-stands.new.seen.keys c.args.pages.now c.read_root-stands.new.pages c.new-seen.ensures.empty c.len.ensures.ordered c.read_root-stands.ensures.reads c.read_root-stands.ensures.sees

pub returns-clause-reads : goal.returns-clause-reads
returns-clause-reads g c =
    reads_each g.P.Pages c.args.form c.args.table.now c.new-seen.result.keys c.read_root-stands.new.seen.keys c.args.pages.now c.read_root-stands.new.pages c.new-seen.ensures.empty c.len.ensures.ordered c.read_root-stands.ensures.reads c.read_root-stands.ensures.sees

pub returns-in_err-pages-clause-reads : goal.returns-in_err-pages-clause-reads
returns-in_err-pages-clause-reads g c =
    reads_each g.P.Pages c.args.form c.args.table.now c.new-seen.result.keys c.read_root-stands.new.seen.keys c.args.pages.now c.read_root-stands.new.pages c.new-seen.ensures.empty c.len.ensures.ordered c.read_root-stands.ensures.reads c.read_root-stands.ensures.sees

pub returns-clause-pages : goal.returns-clause-pages
returns-clause-pages g c = λ tells.
    subst (λ (ps : List ℕ). AreItsPages c.args.form (g.P.Pages.map c.args.pages.now) c.args.table.now ps) (sym c.in_ok-pages.ensures)
    (its_pages c.args.form (g.P.Pages.map c.args.pages.now) c.args.table.now c.new-seen.result.keys c.read_root-stands.new.seen.keys c.new-seen.ensures.empty c.len.ensures.ordered
    (c.in_ok-stands.ensures.yes (ap Ok c.if-not-branch.false) tells).names)
