use Rattle.std.proofs.Common.{◌≡◌, ◌∙◌, ℕ, Option, Some, None, sym, refl}
use Rattle.ba_tree.proofs.Pieces.{home_is_freed, stays_home}
use Rattle.ba_tree.proofs.splitting.store.Goals as goal

only_none : (o : Option ℕ) → ((x : ℕ) → o ≡ Some x → ⊥) → o ≡ None
only_none None h = refl
only_none (Some x) h = absurd (h x refl)

pub returns-in-Ok-clause-stored : goal.returns-in-Ok-clause-stored
returns-in-Ok-clause-stored g c = λ tells n part is stood once. home_is_freed g.B.BorderTree c.border_laws.ensures.laws
    (g.S.Pages.map c.args.stage.now) (g.S.Pages.map c.free_again.new.stage) c.args.page n c.in-Some.child part (sym (c.in-Some.ensures.begins part is)) stood once (c.in-Ok.ensures.freed tells)

pub returns-in-Ok-put_again-clause-stored : goal.returns-in-Ok-put_again-clause-stored
returns-in-Ok-put_again-clause-stored g c = λ tells n part is stood once.
    let none : c.page_of.result ≡ None = only_none c.page_of.result c.in_default.not-Some in
    stays_home g.B.BorderTree c.border_laws.ensures.laws (g.S.Pages.map c.args.stage.now) (g.S.Pages.map c.put_again.new.stage) c.args.page n part c.args.cuts.now.nodes.items
    (sym (c.page_of.ensures.begins part is) ∙ none) is stood once (c.in-Ok-put_again.ensures.put tells) (c.in-Ok-put_again.ensures.change tells)
