-- The changes of a history have the sizes of the events that they are.
use Rattle.std.proofs.Common.{◌≡◌, ℕ, ◌+◌, ◌≤◌, ◌&&◌, nat_le, cond, get_or, le-leb, ℤ, pos, negsuc, Bool, true, false, IsTrue, List, [], ◌∷◌, ◌++◌, length, map, refl, sym, ap, subst, ◌∙◌, arith, w64, FitsSigned}
use Rattle.std.proofs.lemmas.List.{map-append}
use Rattle.std.proofs.lemmas.List.Elements.{All-map}
use Rattle.std.specs.List.{All}
use Rattle.bw_types.specs.History.{History, changes}
use Rattle.bw_types.specs.Lives.{Numbered, numbered_batch, numbered_from}
use Rattle.bw_types.specs.declared.change.Change.{Change}
use Rattle.bw_types.specs.declared.change.Change.TheVariants as change
use Rattle.bw_types.specs.declared.object.Object.{Object}
use Rattle.page_warehouse.specs.Events.{AreEventsOf, change_in, numbered_in}
use Rattle.page_warehouse.specs.declared.event.Event.{Event}
use Rattle.history_text.specs.Rebuilt.{ChangeHasSizes, Has64Bits, HasSizes}

below : (n : ℕ) → n ≤ 9223372036854775807 → IsTrue (nat_le n 9223372036854775807)
below n small = le-leb n 9223372036854775807 small

and_true : (b : Bool) → IsTrue b → IsTrue (b && true)
and_true true t = t
and_true false t = t

pub bits_of : (z : ℤ) → FitsSigned w64 z → Has64Bits z
bits_of (pos n) f = below n (omega (arith, f.sfits))
bits_of (negsuc n) f = and_true (nat_le n 9223372036854775807) (below n (omega (arith, f.sfits)))

pub bits_of_all : (zs : List ℤ) → All (FitsSigned w64) zs → All Has64Bits zs
bits_of_all zs fits = λ i d within. bits_of _ (fits i d within)

changes_of_batch : (v e : ℕ) (batch : List Change) → map (λ (n : Numbered). n.change) (numbered_batch v e batch) ≡ batch
changes_of_batch v e [] = refl
changes_of_batch v e (c ∷ cs) = ap (λ (rest : List Change). c ∷ rest) (changes_of_batch v (e + 1) cs)

changes_of : (v e : ℕ) (h : History) → map (λ (n : Numbered). n.change) (numbered_from v e h) ≡ changes h
changes_of v e [] = refl
changes_of v e (batch ∷ h) =
    map-append (λ (n : Numbered). n.change) (numbered_batch v e batch) (numbered_from (v + 1) (e + length batch) h)
    ∙ ap (λ (front : List Change). front ++ map (λ (n : Numbered). n.change) (numbered_from (v + 1) (e + length batch) h)) (changes_of_batch v e batch)
    ∙ ap (λ (rest : List Change). batch ++ rest) (changes_of (v + 1) (e + length batch) h)

changes_in : (events : List Event) → map (λ (n : Numbered). n.change) (map numbered_in events) ≡ map change_in events
changes_in [] = refl
changes_in (e ∷ events) = ap (λ (rest : List Change). change_in e ∷ rest) (changes_in events)

either_sized : (add : Bool) (o : Object) → HasSizes o → ChangeHasSizes (cond add (change.Add o) (change.Withdraw o.id))
either_sized true o sizes = sizes
either_sized false o sizes = sizes.id

pub changes_have_sizes : (events : List Event) (h : History) → All (λ (e : Event). HasSizes e.object) events → AreEventsOf events h → All ChangeHasSizes (changes h)
changes_have_sizes events h sizes are =
    let same : map change_in events ≡ changes h = sym (changes_in events) ∙ ap (map (λ (n : Numbered). n.change)) are ∙ changes_of 1 0 h in
    subst (All ChangeHasSizes) same (All-map ChangeHasSizes change_in events (λ i d within. either_sized (get_or events i d).add (get_or events i d).object (sizes i d within)))
