use Rattle.std.proofs.Common.{Some, refl, sym, ap, ◌∙◌}
use Rattle.page_layout.specs.declared.mv_node.MvEntry.{MvEntry}
use Rattle.mv_pages.specs.Alive.{is_beyond, next_entry}
use Rattle.mv_pages.specs.Lows.{low_of}
use Rattle.mv_pages.proofs.Adding.{next-found, next-none}
use Rattle.mv_pages.proofs.Changes.{read_at}
use Rattle.mv_pages.proofs.Found.{found, found_none}
use Rattle.mv_pages.proofs.path.next_low.Goals as goal

none : MvEntry
none = record { low = 0; start = 0; end = 0; value = 0; child = 0 }

pub returns-in-Some : goal.returns-in-Some
unfolding none
returns-in-Some c =
    let r = found (is_beyond c.args.key c.args.version) c.args.entries.now c.in-Some.index (sym c.in-Some.ensures) in
    let next = ap (λ es. next_entry es c.args.key c.args.version) r.3 ∙ next-found c.args.key c.args.version r.0 r.1 r.2 r.6 r.5 in
    let same = read_at c.args.entries.now c.args.entries.now r.0 r.2 c.in-Some.index r.1 none refl r.3 r.4 in
    ap (λ (e : MvEntry). Some e.low) same ∙ sym (ap low_of next)

pub returns-in-None : goal.returns-in-None
returns-in-None c = sym (ap low_of (next-none c.args.key c.args.version c.args.entries.now (found_none (is_beyond c.args.key c.args.version) c.args.entries.now (sym c.in-None.ensures))))
