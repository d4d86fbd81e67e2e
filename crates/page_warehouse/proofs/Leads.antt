-- Entries that wait: one more put last, and all of them made.
use Rattle.std.proofs.Common.{◌≡◌, ℕ, zero, suc, ◌+◌, ◌*◌, ◌^◌, ◌<◌, ◌≤◌, List, [], ◌∷◌, ◌++◌, length, map, refl, sym, ◌∙◌, ap, subst, arith, length-append, append_assoc, IsPermutation}
use Rattle.std.specs.List.{All}
use Rattle.std.proofs.lemmas.List.{length-map}
use Rattle.std.proofs.lemmas.List.Elements.{All-append}
use Rattle.std.proofs.lemmas.List.Sorted.{All-permutation, IsPermutation-cons, IsPermutation-middle, IsPermutation-refl, IsPermutation-trans, length_permutation}
use Rattle.bw_types.specs.declared.params.Params.{Params}
use Rattle.bw_types.specs.declared.tree.Tree.{Tree}
use Rattle.ports.specs.Pages.{PageMap}
use Rattle.corner_weights.specs.PlaneSums.{Entered}
use Rattle.dom_index.specs.declared.index.DomIndex.{Ghosts}
use Rattle.corner_forest.specs.Enters.{batch_growth}
use Rattle.corner_forest.specs.Entries.{AreNextEntries, IsNextEntry, corner_count, with_entries}
use Rattle.corner_forest.specs.Laws.{EntryStandsAnywhere}
use Rattle.corner_forest.specs.Stands.{ForestStands}
use Rattle.corner_forest.specs.declared.entry.Entry.{Entry as Waiting}
use Rattle.page_warehouse.specs.Growth.{GrowthIsBounded, most_growth}
use Rattle.page_warehouse.specs.Waiting.{CanWait, HasOneMore, LeadTo, entered_at}

more_length : (before after : List Entered) (e : Entered) → HasOneMore before after e → length after ≡ length before + 1
more_length before after e more =
    let was = ap length more.was ∙ length-append more.front more.back in
    let is = ap length more.is ∙ length-append more.front (e ∷ more.back) in
    omega (arith, was, is)

lead_length : (params : Params) (entries waiting last : List Entered) → LeadTo params entries waiting last → length last ≡ length entries + length waiting
lead_length params entries [] last lead = let same = ap length lead in omega (arith, same)
lead_length params entries (e ∷ waiting) last lead =
    let more = more_length entries lead.mid e lead.more in
    let rest = lead_length params lead.mid waiting last lead.rest in
    omega (arith, more, rest)

lead_more : (params : Params) (entries waiting last grown : List Entered) (e : Entered) → LeadTo params entries waiting last → IsNextEntry params last e → HasOneMore last grown e
    → LeadTo params entries (waiting ++ e ∷ []) grown
lead_more params entries [] last grown e lead next more = record {
  next = subst (λ (l : List Entered). IsNextEntry params l e) (sym lead) next;
  mid = grown;
  more = subst (λ (l : List Entered). HasOneMore l grown e) (sym lead) more;
  rest = refl;
}
lead_more params entries (w ∷ waiting) last grown e lead next more = record {
  next = lead.next;
  mid = lead.mid;
  more = lead.more;
  rest = lead_more params lead.mid waiting last grown e lead.rest next more;
}

map_more : (version : ℕ) (waiting : List Waiting) (w : Waiting) → map (entered_at version) (waiting ++ w ∷ []) ≡ map (entered_at version) waiting ++ entered_at version w ∷ []
map_more version [] w = refl
map_more version (v ∷ waiting) w = ap (λ (l : List Entered). entered_at version v ∷ l) (map_more version waiting w)

-- one more waits, which is the next one of those that all lead to
pub wait_more : (params : Params) (version : ℕ) (entries : List Entered) (waiting with_one : List Waiting) (w : Waiting) (last grown : List Entered) → with_one ≡ waiting ++ w ∷ []
    → LeadTo params entries (map (entered_at version) waiting) last → IsNextEntry params last (entered_at version w) → HasOneMore last grown (entered_at version w)
    → LeadTo params entries (map (entered_at version) with_one) grown
wait_more params version entries waiting with_one w last grown is lead next more =
    subst (λ (l : List Entered). LeadTo params entries l grown) (sym (ap (map (entered_at version)) is ∙ map_more version waiting w))
    (lead_more params entries (map (entered_at version) waiting) last grown (entered_at version w) lead next more)

-- where these lead on, each of them is the next one
leads_on : (params : Params) (entries others batch last : List Entered) → IsPermutation entries others → LeadTo params entries batch last → AreNextEntries params others batch
leads_on params entries others [] last same lead = tt
leads_on params entries others (e ∷ batch) last same lead =
    let next = lead.next in
    let few = next.few in
    let long = length_permutation entries others same in
    let front : List Entered = lead.more.front in
    let back : List Entered = lead.more.back in
    let moved : IsPermutation (front ++ e ∷ back) (e ∷ others) =
    IsPermutation-trans (front ++ e ∷ back) (e ∷ (front ++ back)) (e ∷ others) (IsPermutation-middle front e back)
    (IsPermutation-cons e (front ++ back) others (subst (λ (l : List Entered). IsPermutation l others) lead.more.was same)) in (
      record {
        after = All-permutation (λ (f : Entered). f.event < e.event) entries others same next.after;
        last = All-permutation (λ (f : Entered). f.version ≤ e.version) entries others same next.last;
        few = subst (λ (n : ℕ). n * corner_count params + corner_count params ≤ 2 ^ 31) (sym long) few;
      },
      leads_on params lead.mid (e ∷ others) batch last (subst (λ (l : List Entered). IsPermutation l (e ∷ others)) (sym lead.more.is) moved) lead.rest,
    )

pub are_next : (params : Params) (entries batch last : List Entered) → LeadTo params entries batch last → AreNextEntries params entries batch
are_next params entries batch last lead = leads_on params entries entries batch last (IsPermutation-refl entries) lead

with_all : (batch entries : List Entered) → with_entries batch entries ≡ with_entries batch [] ++ entries
with_all [] entries = refl
with_all (e ∷ batch) entries =
    with_all batch (e ∷ entries) ∙ sym (append_assoc (with_entries batch []) (e ∷ []) entries) ∙ ap (λ (l : List Entered). l ++ entries) (sym (with_all batch (e ∷ [])))

-- Trees that stand for those that wait beside the others stand for all to which they lead, each at its place.
pub all_placed : {X : Type 0} (g : Ghosts X) → EntryStandsAnywhere g → (pages : PageMap) (params : Params) (roots : List Tree) (entries batch last : List Entered) → LeadTo params entries batch last
    → ForestStands g pages params roots (with_entries batch entries) → ForestStands g pages params roots last
all_placed g anywhere pages params roots entries [] last lead stands = subst (λ (l : List Entered). ForestStands g pages params roots l) lead stands
all_placed g anywhere pages params roots entries (e ∷ batch) last lead stands =
    let made : List Entered = with_entries batch [] in
    let front : List Entered = lead.more.front in
    let back : List Entered = lead.more.back in
    let S : List Entered → Type 0 = λ l. ForestStands g pages params roots l in
    let here : S (made ++ e ∷ (front ++ back)) = subst S (with_all batch (e ∷ entries) ∙ ap (λ (l : List Entered). made ++ e ∷ l) lead.more.was) stands in
    let first : S (e ∷ (made ++ (front ++ back))) = (anywhere pages params roots made (front ++ back) e).1 here in
    let moved : S ((made ++ front) ++ e ∷ back) =
    (anywhere pages params roots (made ++ front) back e).0 (subst (λ (l : List Entered). S (e ∷ l)) (sym (append_assoc made front back)) first) in
    let placed : S (with_entries batch lead.mid) =
    subst S (append_assoc made front (e ∷ back) ∙ ap (λ (l : List Entered). made ++ l) (sym lead.more.is) ∙ sym (with_all batch lead.mid)) moved in
    all_placed g anywhere pages params roots lead.mid batch last lead.rest placed

-- how many there are in the end
pub all_led : (params : Params) (version : ℕ) (entries last : List Entered) (waiting : List Waiting) → LeadTo params entries (map (entered_at version) waiting) last
    → length entries + length waiting ≡ length last
all_led params version entries last waiting lead =
    let all = lead_length params entries (map (entered_at version) waiting) last lead in
    let long = length-map waiting (entered_at version) in
    omega (arith, all, long)

-- what each of them takes at most, and all together
pub batch_bounded : GrowthIsBounded → (params : Params) (entries n most : ℕ) → entries + n ≤ most → batch_growth params entries n ≤ n * most_growth params most
batch_bounded bounded params entries zero most le = omega arith
batch_bounded bounded params entries (suc n) most le =
    let before = batch_bounded bounded params entries n most (omega (arith, le)) in
    let here = bounded params (entries + n) most (omega (arith, le)) in
    let whole : suc n * most_growth params most ≡ n * most_growth params most + most_growth params most = omega arith in
    omega (arith, before, here, whole)

one_can : (params : Params) (w : Waiting) → CanWait params w → All (CanWait params) (w ∷ [])
one_can params w can zero d within = can
one_can params w can (suc i) d within = absurd (omega (arith, within))

-- with one more all may still wait
pub can_more : (params : Params) (waiting with_one : List Waiting) (w : Waiting) → with_one ≡ waiting ++ w ∷ [] → All (CanWait params) waiting → CanWait params w
    → All (CanWait params) with_one × (length with_one ≡ length waiting + 1)
can_more params waiting with_one w is all can = (
  subst (λ (l : List Waiting). All (CanWait params) l) (sym is) (All-append (CanWait params) waiting (w ∷ []) all (one_can params w can)),
  ap length is ∙ length-append waiting (w ∷ []),
)
