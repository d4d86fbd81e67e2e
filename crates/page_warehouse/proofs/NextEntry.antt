-- The entry of a change that comes next may follow those of the history.
use Rattle.std.proofs.Common.{◌≡◌, ℕ, zero, suc, ◌+◌, ◌*◌, ◌^◌, ◌<◌, ◌≤◌, Bool, true, false, ◌==◌, List, [], ◌∷◌, ◌++◌, Option, Some, None, length, refl, sym, subst, arith, inl, inr, if◌then◌else◌}
use Rattle.std.proofs.lemmas.Bool.{cases_Bool}
use Rattle.std.proofs.lemmas.List.Elements.{All-nil, All-cons, All-append, All-head, All-tail, All-weaker}
use Rattle.std.specs.List.{All, find}
use Rattle.std.specs.Option.{option_map_or}
use Rattle.bw_types.specs.Fits.{IsInRange}
use Rattle.bw_types.specs.History.{History, changes, last_version, withdraws}
use Rattle.bw_types.specs.Lawful.{IsLawful}
use Rattle.bw_types.specs.Lives.{Numbered, numbered, begun_life, lives_after, life_of, withdrawal_of}
use Rattle.bw_types.specs.declared.change.Change.{Change}
use Rattle.bw_types.specs.declared.change.Change.TheVariants as change
use Rattle.bw_types.specs.declared.dated.Dated.{Dated}
use Rattle.bw_types.specs.declared.object.Object.{Object}
use Rattle.bw_types.specs.declared.params.Params.{Params}
use Rattle.corner_weights.specs.PlaneSums.{Entered}
use Rattle.corner_forest.specs.Entries.{IsNextEntry}
use Rattle.history_laws.specs.Entries.{begun_entry, ended_entry, entries_of, history_entries, life_entries}
use Rattle.history_laws.specs.Entering.{EntriesAreChanges}
use Rattle.history_laws.specs.Bounds.{LawfulHasRoom}
use Rattle.page_warehouse.specs.Begun.{next_event, next_version, with_changes}
use Rattle.page_warehouse.proofs.Fronts.{changes_are_few}
use Rattle.page_warehouse.proofs.Numbers.{IsWithin, count_with, numbers_within, version_with}

some_is : (x y : Numbered) → Some x ≡ Some y → x ≡ y
some_is x y e = cc

-- what is found is one of the list
find_holds : (P : Numbered → Type 0) (p : Numbered → Bool) (ns : List Numbered) (w : Numbered) → find p ns ≡ Some w → All P ns → P w
find_holds P p [] w found all = absurd (let none : ◌≡◌ {A = Option Numbered} None (Some w) = found in cc)
find_holds P p (n ∷ ns) w found all = elim (cases_Bool (p n)) [
  | inl here ↦ subst P (some_is n w (rw here at found)) (All-head P n ns all)
  | inr later ↦ find_holds P p ns w (rw later at found) (All-tail P n ns all)
]

-- the entries of a life have the numbers of its changes
pub record IsEarlier (latest events : ℕ) (f : Entered) : Type 0 where
  pub event : f.event < events
  pub version : f.version ≤ latest

ended_with : Numbered → List Numbered → Object → Option Numbered → Dated
ended_with n earlier o found = record (life_of earlier n o []) {
  withdrawn = option_map_or (λ (w : Numbered). w.version) found 0;
  withdraw_event = option_map_or (λ (w : Numbered). w.event) found 0;
}

life_earlier : (latest events : ℕ) (earlier : List Numbered) (n : Numbered) (o : Object) (later : List Numbered) → IsWithin latest events n → All (IsWithin latest events) later
    → All (IsEarlier latest events) (life_entries (life_of earlier n o later))
unfolding ended_with
life_earlier latest events earlier n o later own all = by_found (withdrawal_of o.id later) refl
  where
    begun : IsEarlier latest events (record { object = o; event = n.event; version = n.version; minus = false })
    begun = record { event = own.event; version = own.last }

    by_found : (found : Option Numbered) → withdrawal_of o.id later ≡ found → All (IsEarlier latest events) (life_entries (ended_with n earlier o (withdrawal_of o.id later)))
    by_found None e =
        subst (λ (f : Option Numbered). All (IsEarlier latest events) (life_entries (ended_with n earlier o f))) (sym e)
        (All-cons (IsEarlier latest events) (begun_entry (life_of earlier n o [])) [] begun (All-nil (IsEarlier latest events)))
    by_found (Some w) e =
        let within : IsWithin latest events w = find_holds (IsWithin latest events) (λ (m : Numbered). withdraws o.id m.change) later w e all in
        let d : Dated = ended_with n earlier o (Some w) in
        let ended : IsEarlier latest events (ended_entry d) = record { event = within.event; version = within.last } in
        subst (λ (f : Option Numbered). All (IsEarlier latest events) (life_entries (ended_with n earlier o f))) (sym e)
        (elim (w.version == 0) as (λ b. All (IsEarlier latest events) (if b then begun_entry d ∷ [] else begun_entry d ∷ ended_entry d ∷ [])) [
          | true ↦ All-cons (IsEarlier latest events) (begun_entry d) [] begun (All-nil (IsEarlier latest events))
          | false ↦ All-cons (IsEarlier latest events) (begun_entry d) (ended_entry d ∷ []) begun (All-cons (IsEarlier latest events) (ended_entry d) [] ended (All-nil (IsEarlier latest events)))
        ])

earlier_step : (latest events : ℕ) (earlier : List Numbered) (n : Numbered) (ns : List Numbered) (c : Change) → IsWithin latest events n → All (IsWithin latest events) ns
    → All (IsEarlier latest events) (entries_of (lives_after (earlier ++ n ∷ []) ns)) → All (IsEarlier latest events) (entries_of (begun_life earlier n c ns ++ lives_after (earlier ++ n ∷ []) ns))
earlier_step latest events earlier n ns (change.Withdraw id) own all rest = rest
earlier_step latest events earlier n ns (change.Add o) own all rest =
    All-append (IsEarlier latest events) (life_entries (life_of earlier n o ns)) (entries_of (lives_after (earlier ++ n ∷ []) ns)) (life_earlier latest events earlier n o ns own all) rest

entries_earlier : (latest events : ℕ) (earlier ns : List Numbered) → All (IsWithin latest events) ns → All (IsEarlier latest events) (entries_of (lives_after earlier ns))
entries_earlier latest events earlier [] all = All-nil (IsEarlier latest events)
entries_earlier latest events earlier (n ∷ ns) all =
    let later = All-tail (IsWithin latest events) n ns all in
    earlier_step latest events earlier n ns n.change (All-head (IsWithin latest events) n ns all) later (entries_earlier latest events (earlier ++ n ∷ []) ns later)

-- the points of 2^28 entries have room
corners_room : (n dims : ℕ) → n + 1 ≤ 2 ^ 28 → dims ≤ 3 → n * 2 ^ dims + 2 ^ dims ≤ 2 ^ 31
corners_room n zero few low = omega arith
corners_room n (suc zero) few low = omega arith
corners_room n (suc (suc zero)) few low = omega arith
corners_room n (suc (suc (suc zero))) few low = omega arith
corners_room n (suc (suc (suc (suc d)))) few low = absurd (omega arith)

pub next_entry : EntriesAreChanges → LawfulHasRoom → (params : Params) (h : History) (done : List Change) (e : Entered) → IsInRange params → IsLawful params (with_changes h done)
    → e.event ≡ next_event h done → e.version ≡ next_version h → IsNextEntry params (history_entries (with_changes h done)) e
next_entry counted room params h done e range lawful event version =
    let k : History = with_changes h done in
    let all : All (IsEarlier (last_version k) (length (changes k))) (history_entries k) = entries_earlier (last_version k) (length (changes k)) [] (numbered k) (numbers_within k) in
    let few : length (history_entries k) + 1 ≤ 2 ^ 28 = omega (arith, counted params k lawful, changes_are_few room params k range lawful) in
    record {
      after = All-weaker (IsEarlier (last_version k) (length (changes k))) (λ (f : Entered). f.event < e.event) (λ f earlier. omega (arith, earlier.event, count_with h done, event)) (history_entries k) all;
      last = All-weaker (IsEarlier (last_version k) (length (changes k))) (λ (f : Entered). f.version ≤ e.version) (λ f earlier. omega (arith, earlier.version, version_with h done, version)) (history_entries k) all;
      few = corners_room (length (history_entries k)) params.dims few range.dims;
    }
