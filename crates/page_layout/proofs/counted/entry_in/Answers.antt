use Rattle.std.proofs.Common.{◌≡◌, ◌+◌, ◌*◌, ℕ, List, drop, sym, ap, ◌∙◌}
use Rattle.std.proofs.lemmas.List.{drop-drop}
use Rattle.page_layout.proofs.counted.entry_in.Goals as goal

at_place : (n size place : ℕ) (page : List ℕ) → n ≡ size → drop (16 + place * n) page ≡ drop (place * size) (drop 16 page)
at_place n size place page e = rw e (sym (drop-drop (place * size) 16 page))

pub returns : goal.returns
returns g c = c.get.ensures.value ∙ ap g.T.Entry.value_at (c.after.ensures.value ∙ at_place c.SIZE.result g.T.Entry.SIZE c.args.place c.args.page.now c.SIZE.ensures)
