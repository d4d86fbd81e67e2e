-- A life more, or the end of one.
use Rattle.std.proofs.Common.{◌≡◌, ◌≢◌, ℕ, true, false, ◌==◌, List, [], ◌∷◌, ◌++◌, refl, sym, ◌∙◌, ap, subst, append_assoc, IsPermutation}
use Rattle.std.proofs.lemmas.Bool.{eq-eqb, ne_eqb}
use Rattle.std.proofs.lemmas.List.Concat.{flat_map-append}
use Rattle.std.proofs.lemmas.List.Sorted.{IsPermutation-middle}
use Rattle.bw_types.specs.declared.dated.Dated.{Dated}
use Rattle.corner_weights.specs.PlaneSums.{Entered}
use Rattle.history_laws.specs.Entries.{begun_entry, ended_entry, life_entries, entries_of}

pub by_add : (ds : List Dated) (d : Dated) → d.withdrawn ≡ 0 → entries_of (ds ++ d ∷ []) ≡ entries_of ds ++ begun_entry d ∷ []
by_add ds d none =
    let still : (d.withdrawn == 0) ≡ true = eq-eqb d.withdrawn 0 none in
    let one : entries_of (d ∷ []) ≡ begun_entry d ∷ [] = rw still refl in
    flat_map-append life_entries ds (d ∷ []) ∙ ap (λ (es : List Entered). entries_of ds ++ es) one

pub by_end : (before after : List Dated) (d : Dated) (version event : ℕ) → d.withdrawn ≡ 0 → version ≢ 0
    → IsPermutation (entries_of (before ++ record d { withdrawn = version; withdraw_event = event } ∷ after))
    (ended_entry (record d { withdrawn = version; withdraw_event = event }) ∷ entries_of (before ++ d ∷ after))
by_end before after d version event none some =
    let over : Dated = record d { withdrawn = version; withdraw_event = event } in
    let es : List Entered = entries_of before in
    let rest : List Entered = entries_of after in
    let still : (d.withdrawn == 0) ≡ true = eq-eqb d.withdrawn 0 none in
    let ended : (version == 0) ≡ false = ne_eqb version 0 some in
    let two : life_entries over ≡ begun_entry d ∷ ended_entry over ∷ [] = rw ended refl in
    let one : life_entries d ≡ begun_entry d ∷ [] = rw still refl in
    let new : entries_of (before ++ over ∷ after) ≡ (es ++ begun_entry d ∷ []) ++ ended_entry over ∷ rest =
    flat_map-append life_entries before (over ∷ after) ∙ (ap (λ (ls : List Entered). es ++ (ls ++ rest)) two ∙ sym (append_assoc es (begun_entry d ∷ []) (ended_entry over ∷ rest))) in
    let old : entries_of (before ++ d ∷ after) ≡ (es ++ begun_entry d ∷ []) ++ rest =
    flat_map-append life_entries before (d ∷ after) ∙ (ap (λ (ls : List Entered). es ++ (ls ++ rest)) one ∙ sym (append_assoc es (begun_entry d ∷ []) rest)) in
    subst (λ (ls : List Entered). IsPermutation ls (ended_entry over ∷ entries_of (before ++ d ∷ after))) (sym new)
    (subst (λ (ls : List Entered). IsPermutation ((es ++ begun_entry d ∷ []) ++ ended_entry over ∷ rest) (ended_entry over ∷ ls)) (sym old)
    (IsPermutation-middle (es ++ begun_entry d ∷ []) (ended_entry over) rest))
