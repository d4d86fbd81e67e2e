use Rattle.std.proofs.Common.{◌∙◌, ap, sym, length, arith, ltb-true, slice_index_or, List}
use Rattle.std.proofs.lemmas.Bool.{ltb-false}
use Rattle.settled_pages.specs.declared.places.ImagePlace.{ImagePlace}
use Rattle.settled_pages.proofs.LookupLemmas.{place_looked, place_past}
use Rattle.settled_pages.proofs.settled.SettledPages.place_of.Goals as goal

pub returns-in-Some : goal.returns-in-Some
returns-in-Some c =
    let within = ltb-true _ _ (sym c.in-Some.ensures.lookup.0) in
    let image : ImagePlace = c.in-Some.image.now in
    let at = λ (s : List ImagePlace). slice_index_or s c.count_below.result image in
    c.then_some.ensures
    ∙ place_looked image c.count_below.ensures (omega (arith, within, c.deref.ensures.len, ap length c.deref.ensures.value)) (c.in-Some.ensures.lookup.1 ∙ ap at c.deref.ensures.value)

pub returns-in-None : goal.returns-in-None
returns-in-None c =
    let past = ltb-false _ _ (sym c.in-None.ensures.lookup.0) in
    let d : ImagePlace = record { home = 0; place = 0 } in
    sym (place_past d c.count_below.ensures (omega (arith, past, ap length c.deref.ensures.value)))
