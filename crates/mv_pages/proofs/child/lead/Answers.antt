use Rattle.std.proofs.Common.{◌≡◌, Option, Some, None, IsSome, ℕ, sym, ◌∙◌, ap, subst}
use Rattle.page_layout.specs.declared.mv_node.MvEntry.{MvEntry}
use Rattle.mv_pages.specs.Alive.{path_child}
use Rattle.mv_pages.specs.Edits.{IsChanged, new_entry}
use Rattle.mv_pages.proofs.Changes.{read_at}
use Rattle.mv_pages.proofs.Leading.{no_path}
use Rattle.mv_pages.proofs.child.lead.Goals as goal

none : MvEntry
none = record { low = 0; start = 0; end = 0; value = 0; child = 0 }

pub returns-in-Some-clause-led : goal.returns-in-Some-clause-led
unfolding none
returns-in-Some-clause-led c =
    let r = c.in-Some.ensures in
    let whole = sym c.as_slice.ensures.value ∙ r.3 in
    let same = read_at c.as_slice-in-Some.result.now c.args.entries.now.items r.0 r.2 c.in-Some.index r.1 none c.as_slice-in-Some.ensures.value whole r.4 in
    let is = c.new_entry-changed.ensures ∙ ap (λ (e : MvEntry). new_entry e.low c.args.version e.value c.args.child) same in
    (r.0, r.1, r.2, whole, r.5, r.6, subst (λ (x : MvEntry). IsChanged r.0 r.1 r.2 c.args.version x c.change.new.entries.items) is (c.change.ensures.changed r.0 r.2 r.1 whole r.4))

none_there : (o : Option ℕ) → IsSome o → o ≡ None → ⊥
none_there None h same = absurd cc
none_there (Some n) h same = absurd cc

pub returns-in-None-clause-led : goal.returns-in-None-clause-led
returns-in-None-clause-led c =
    let gone = no_path c.args.key c.args.version c.as_slice.result.now c.in-None.ensures in
    absurd (none_there (path_child c.args.entries.now.items c.args.key c.args.version) c.requires.path (ap (λ es. path_child es c.args.key c.args.version) (sym c.as_slice.ensures.value) ∙ gone))
