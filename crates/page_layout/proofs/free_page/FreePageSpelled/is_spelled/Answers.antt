use Rattle.std.proofs.Common.{ℕ, List, IsTrue, sym, ap, ◌∙◌}
use Rattle.page_layout.specs.Numbers.{spelled, number_in}
use Rattle.page_layout.specs.Counted.{counted_page, double_of, entries_of}
use Rattle.page_layout.specs.Respelling.{number-respells}
use Rattle.page_layout.specs.FreePage.{next_fits}
use Rattle.page_layout.specs.FreePageView.{front_alone}
use Rattle.page_layout.proofs.free_page.FreePageSpelled.is_spelled.Goals as goal

pub is_counted-requires-clause-respells : goal.is_counted-requires-clause-respells
is_counted-requires-clause-respells c = number-respells 8

pub returns-clause-exact : goal.returns-clause-exact
returns-clause-exact c =
    let page : List ℕ = c.args.page.now in
    let none : List ℕ = entries_of (number_in 8) 8 0 page in
    let fits : IsTrue (next_fits (double_of page)) = ap next_fits (sym c.read_double-next.ensures) ∙ sym c.next_fits.ensures ∙ c.if-not-next_fits.false in
    let alone = ap (λ (level : ℕ). counted_page (spelled 8) 9 level 0 c.read_double-next.result none) c.if-page-ne0.false
    ∙ ap (λ (next : ℕ). counted_page (spelled 8) 9 0 0 next none) c.read_double-next.ensures
    ∙ front_alone 9 0 0 (double_of page) page in
    (λ t. (fits, c.is_counted.ensures.0 t ∙ alone), λ h. c.is_counted.ensures.1 (h.1 ∙ sym alone))
