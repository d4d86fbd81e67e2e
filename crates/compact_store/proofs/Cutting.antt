-- Lists of events that are cut into batches.
use Rattle.std.proofs.Common.{◌≡◌, ℕ, zero, suc, ◌+◌, ◌-◌, ◌*◌, ◌≤◌, nat_le, min, List, [], ◌∷◌, ◌++◌, length, map, take, drop, refl, sym, ◌∙◌, ap, subst, arith, inl, inr}
use Rattle.std.proofs.lemmas.Bool.{cases_lt, le-leb, lt-leb}
use Rattle.std.proofs.lemmas.List.{drop-drop, drop-map, drop_all, length-append, length-drop, length-map, length-take, take-map, take_min}
use Rattle.std.proofs.lemmas.List.Concat.{flat_map-append}
use Rattle.bw_types.specs.Fits.{IsInRange}
use Rattle.bw_types.specs.History.{History, changes, last_version, live}
use Rattle.bw_types.specs.Lawful.{IsLawful}
use Rattle.bw_types.specs.Lives.{numbered_batch, numbered_from}
use Rattle.bw_types.specs.declared.change.Change.{Change}
use Rattle.bw_types.specs.declared.change.Change.TheVariants as change
use Rattle.bw_types.specs.declared.object.Object.{Object}
use Rattle.bw_types.specs.declared.params.Params.{Params}
use Rattle.history_laws.proofs.Room.{lawful_room}
use Rattle.page_warehouse.proofs.CutByVersion.{batches_are, both_cons, passes, stops}
use Rattle.page_warehouse.proofs.EventNumbers.{events_count}
use Rattle.page_warehouse.specs.Batches.{batches_from}
use Rattle.page_warehouse.specs.Events.{AreEventsOf, change_in, numbered_in}
use Rattle.page_warehouse.specs.declared.event.Event.{Event}
use Rattle.compact_store.specs.Cuts.{batches_by_size, batches_of, count_to}
use Rattle.compact_store.specs.Keeping.{HaveRoom, IsKept}
use Rattle.compact_store.specs.Kept.{kept, most_adds}
use Rattle.compact_store.proofs.KeptLaws.{front_lawful, live_room}
use Rattle.compact_store.proofs.LiveAgain.{adds_like}
use Rattle.compact_store.proofs.Pieces.{kept_is, pieces}

-- a front of the next n, or of all where there are fewer
take_few : (n : ℕ) (events : List Event) → take (min (length events) n) events ≡ take n events
take_few n events =
    let same : min (length events) n ≡ min n (length events) = omega arith in
    ap (λ (k : ℕ). take k events) same ∙ take_min n events

drop_few : (n : ℕ) (events : List Event) → drop (min (length events) n) events ≡ drop n events
drop_few n events = elim (cases_lt (length events) n) [
  | inl lt ↦
      let all : min (length events) n ≡ length events = omega (arith, lt) in
      ap (λ (k : ℕ). drop k events) all ∙ (drop_all (length events) events (omega arith) ∙ sym (drop_all n events (omega (arith, lt))))
  | inr ge ↦ (let some : min (length events) n ≡ n = omega (arith, ge) in ap (λ (k : ℕ). drop k events) some)
]

-- the next batch by size, and the later ones
pub by_size_step : (n m k : ℕ) (batch rest events : List Event) → n ≡ suc m → k ≡ min (length events) most_adds → batch ≡ take k events → rest ≡ drop k events
    → batches_by_size n events ≡ map change_in batch ∷ batches_by_size m rest
by_size_step n m k batch rest events more size front back =
    let own : take most_adds events ≡ batch = sym (front ∙ (ap (λ (x : ℕ). take x events) size ∙ take_few most_adds events)) in
    let left : drop most_adds events ≡ rest = sym (back ∙ (ap (λ (x : ℕ). drop x events) size ∙ drop_few most_adds events)) in
    ap (λ (x : ℕ). batches_by_size x events) more ∙ both_cons (ap (map change_in) own) (ap (batches_by_size m) left)

-- adds of objects, cut by size, are pieces of the objects
by_size_is : (n : ℕ) (adds : List Event) (objects : List Object) → map change_in adds ≡ map change.Add objects → batches_by_size n adds ≡ pieces objects n
by_size_is zero adds objects are = refl
by_size_is (suc n) adds objects are =
    let own : map change_in (take most_adds adds) ≡ map change.Add (take most_adds objects) =
    sym (take-map change_in most_adds adds) ∙ (ap (λ (cs : List Change). take most_adds cs) are ∙ take-map change.Add most_adds objects) in
    let left : map change_in (drop most_adds adds) ≡ map change.Add (drop most_adds objects) =
    sym (drop-map change_in most_adds adds) ∙ (ap (λ (cs : List Change). drop most_adds cs) are ∙ drop-map change.Add most_adds objects) in
    both_cons own (by_size_is n (drop most_adds adds) (drop most_adds objects) left)

-- the events after a version are those of the later batches
after_is : (h : History) (k v w e : ℕ) (events : List Event) → w + k ≡ v + 1 → map numbered_in events ≡ numbered_from w e h
    → (f : ℕ) × (map numbered_in (drop (count_to v events) events) ≡ numbered_from (v + 1) f (drop k h))
after_is h zero v w e events at is =
    let next : w ≡ v + 1 = omega (arith, at) in
    let here : map numbered_in events ≡ numbered_from (v + 1) e h = subst (λ (u : ℕ). map numbered_in events ≡ numbered_from u e h) next is in
    let stop = stops (λ u. nat_le u v) h (v + 1) e events (λ u le. lt-leb u v (omega (arith, le))) here in
    (e, ap (λ (n : ℕ). map numbered_in (drop n events)) stop ∙ here)
after_is [] (suc k) v w e [] at is = (e, refl)
after_is [] (suc k) v w e (x ∷ xs) at is = absurd (cc)
after_is (batch ∷ h) (suc k) v w e events at is =
    let r = passes (λ u. nat_le u v) batch w e events (numbered_from (w + 1) (e + length batch) h) (le-leb w v (omega (arith, at))) is in
    let rest : List Event = drop (length batch) events in
    let later = after_is h k v (w + 1) (e + length batch) rest (omega (arith, at)) r.left_is in
    let dropped : drop (count_to v events) events ≡ drop (count_to v rest) rest =
    ap (λ (n : ℕ). drop n events) r.count ∙ sym (drop-drop (count_to v rest) (length batch) events) in
    (later.0, ap (map numbered_in) dropped ∙ later.1)

-- there are as many of them as changes
batch_length : (v e : ℕ) (cs : List Change) → length (numbered_batch v e cs) ≡ length cs
batch_length v e [] = refl
batch_length v e (c ∷ cs) = omega (arith, batch_length v (e + 1) cs)

from_length : (v e : ℕ) (h : History) → length (numbered_from v e h) ≡ length (changes h)
from_length v e [] = refl
from_length v e (batch ∷ h) =
    omega (
      arith,
      length-append (numbered_batch v e batch) (numbered_from (v + 1) (e + length batch) h),
      batch_length v e batch,
      from_length (v + 1) (e + length batch) h,
      length-append batch (changes h),
    )

-- Events of a history: those after a version, cut by version, are its later batches, and they are as many as the changes of these.
record IsLater (h : History) (version last : ℕ) (later : List Event) : Type 0 where
  are : batches_from (version + 1) (last - version) later ≡ drop version h
  count : length later ≡ length (changes (drop version h))

later_is : (h : History) (version last : ℕ) (events later : List Event) → last ≡ last_version h → AreEventsOf events h → later ≡ drop (count_to version events) events → IsLater h version last later
later_is h version last events later all are left =
    let after = after_is h version version 1 0 events (omega arith) are in
    let size : length (drop version h) ≡ last - version = length-drop version h ∙ ap (λ (n : ℕ). n - version) (sym all) in
    let own : map numbered_in later ≡ numbered_from (version + 1) after.0 (drop version h) = ap (map numbered_in) left ∙ after.1 in
    record {
      are = subst (λ (n : ℕ). batches_from (version + 1) n later ≡ drop version h) size (batches_are (drop version h) (version + 1) after.0 later own);
      count = sym (length-map later numbered_in) ∙ (ap length own ∙ from_length (version + 1) after.0 (drop version h));
    }

-- what is gathered, cut into batches, is the history from the version on
pub kept_cut : (h : History) (version last : ℕ) (adds events later : List Event) → last ≡ last_version h → IsKept h version adds events → later ≡ drop (count_to version events) events
    → batches_of version last adds later ≡ kept h version
kept_cut h version last adds events later all is left =
    ap (λ (bs : History). bs ++ batches_from (version + 1) (last - version) later) (by_size_is version adds (live h version) is.adds_are)
    ∙ (ap (λ (bs : History). pieces (live h version) version ++ bs) (later_is h version last events later all is.events_are left).are ∙ sym (kept_is h version))

-- what is behind a front
behind : (front rest : History) → drop (length front) (front ++ rest) ≡ rest
behind [] rest = refl
behind (b ∷ front) rest = behind front rest

-- so many batches by size, with all adds that they have room for
by_size_length : (n : ℕ) (adds : List Event) → length (batches_by_size n adds) ≡ n
by_size_length zero adds = refl
by_size_length (suc n) adds = omega (arith, by_size_length n (drop most_adds adds))

by_size_count : (n : ℕ) (adds : List Event) → length adds ≤ most_adds * n → length (changes (batches_by_size n adds)) ≡ length adds
by_size_count zero adds few = omega (arith, few)
by_size_count (suc n) adds few =
    let front : List Change = map change_in (take most_adds adds) in
    let rest : List Event = drop most_adds adds in
    omega (
      arith,
      few,
      length-append front (changes (batches_by_size n rest)),
      length-map (take most_adds adds) change_in,
      length-take most_adds adds,
      length-drop most_adds adds,
      by_size_count n rest (omega (arith, few, length-drop most_adds adds)),
    )

-- the batches have all adds and all later events
pub all_there : (h : History) (version last : ℕ) (adds events later : List Event) → last ≡ last_version h → AreEventsOf events h → later ≡ drop (count_to version events) events
    → length adds ≤ most_adds * version → length adds + length later ≡ length (changes (batches_of version last adds later))
all_there h version last adds events later all are left few =
    let is = later_is h version last events later all are left in
    let first : History = batches_by_size version adds in
    let rest : History = batches_from (version + 1) (last - version) later in
    omega (
      arith,
      by_size_count version adds few,
      is.count,
      ap (λ (bs : History). length (changes bs)) is.are,
      ap length (flat_map-append (λ (b : List Change). b) first rest),
      length-append (changes first) (changes rest),
    )

-- and there are as many of them as versions
pub all_versions : (h : History) (version last : ℕ) (adds events later : List Event) → last ≡ last_version h → AreEventsOf events h → later ≡ drop (count_to version events) events
    → version ≤ last → last_version (batches_of version last adds later) ≡ last
all_versions h version last adds events later all are left le =
    let is = later_is h version last events later all are left in
    let first : History = batches_by_size version adds in
    let rest : History = batches_from (version + 1) (last - version) later in
    omega (arith, le, all, length-append first rest, by_size_length version adds, ap length is.are, length-drop version h)

-- and those after the version are those of the history
pub later_there : (h : History) (version last : ℕ) (adds events later : List Event) → last ≡ last_version h → AreEventsOf events h → later ≡ drop (count_to version events) events
    → drop version (batches_of version last adds later) ≡ drop version h
later_there h version last adds events later all are left =
    let first : History = batches_by_size version adds in
    let rest : History = batches_from (version + 1) (last - version) later in
    ap (λ (n : ℕ). drop n (first ++ rest)) (sym (by_size_length version adds)) ∙ (behind first rest ∙ (later_is h version last events later all are left).are)

-- What is gathered of a lawful history has room.
pub has_room : (params : Params) (h : History) (version : ℕ) (adds events : List Event) → IsInRange params → IsLawful params h → IsKept h version adds events → HaveRoom version adds events
has_room params h version adds events range lawful is =
    let count : length adds ≡ length (map change.Add (live h version)) = sym (length-map adds change_in) ∙ ap length is.adds_are in
    let first = lawful_room params (take version h) (front_lawful params h version lawful) in
    let all = lawful_room params h lawful in (
      omega (arith, count, length-map (live h version) change.Add, live_room params h version lawful),
      omega (arith, count, (adds_like params (changes (take version h))).count, first.events, all.events, events_count h events is.events_are, range.events),
    )
