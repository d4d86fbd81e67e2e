-- The points of events that come in turn are new to a tree, one after the other.
use Rattle.std.proofs.Common.{◌≡◌, ℕ, ◌+◌, ◌++◌, ◌^◌, ◌<◌, ◌≤◌, ◌-◌, Bool, true, false, pos, IsTrue, nat_lt, if◌then◌else◌, List, [], ◌∷◌, length, map, get_or, take, refl, IsPermutation, sym, ap, ◌∙◌, subst, arith}
use Rattle.std.specs.List.{All}
use Rattle.std.proofs.lemmas.List.{append-nil, length-map, map-append, take_more}
use Rattle.std.proofs.lemmas.List.Elements.{All-cons, All-head, All-map, All-nil, All-tail}
use Rattle.std.proofs.lemmas.List.Sorted.{IsPermutation-middle, IsPermutation-refl, IsPermutation-trans}
use Rattle.bw_types.specs.declared.params.Params.{Params}
use Rattle.bw_types.specs.declared.point.Point.{Point}
use Rattle.corner_weights.specs.Entries.{corner_point}
use Rattle.page_warehouse.specs.declared.event.Event.{Event}
use Rattle.corner_weights.specs.PlaneSums.{Entered}
use Rattle.dom_index.specs.Adding.{AreNewInTurn, with_points}
use Rattle.dom_index.specs.Points.{IsNewPoint, keys_differ}
use Rattle.corner_forest.specs.Entries.{corner_count}
use Rattle.corner_forest.proofs.Newness.{corners_differ}
use Rattle.span_planes.specs.FillPoints.{point_in, subset_at}
use Rattle.span_planes.specs.Filled.{CanFill, ComeInTurn, entries_in, entry_of, points_at}
use Rattle.span_planes.specs.SpanPoints.{dated_weight, plain_weight, weighed}

-- The event comes after those of which the entries are made, and its number is no less than how many they are.
pub record Follows (done : List Entered) (e : Event) : Type 0 where
  pub after : All (λ f. f.event < e.event) done
  pub last : All (λ f. f.version ≤ e.version) done
  pub few : length done ≤ e.event

none_before : (e : Event) → Follows [] e
none_before e = record {
  after = All-nil (λ (f : Entered). f.event < e.event);
  last = All-nil (λ (f : Entered). f.version ≤ e.version);
  few = omega arith;
}

follows_more : (done : List Entered) (e later : Event) → e.event < later.event → e.version ≤ later.version → Follows done e → Follows done later
    → Follows (entry_of e ∷ done) later
follows_more done e later after last first f = record {
  after = All-cons (λ (x : Entered). x.event < later.event) (entry_of e) done after f.after;
  last = All-cons (λ (x : Entered). x.version ≤ later.version) (entry_of e) done last f.last;
  few = let count = first.few in omega (arith, count, after);
}

is_new : (params : Params) (place : ℕ) (done : List Entered) (e : Event) → params.dims ≤ 3 → CanFill params e → Follows done e
    → IsNewPoint params.dims (map (point_in params place) done) (point_in params place (entry_of e))
is_new params place done e few can f =
    let p = point_in params place (entry_of e) in
    let subset = subset_at params place in
    let number = can.number in
    let small : e.event < 2 ^ 32 = omega (arith, number) in
    record {
      apart = All-map (λ (q : Point). IsTrue (keys_differ params.dims q p)) (point_in params place) done (λ i d inside.
          let x = get_or done i d in
          let before = f.after i d inside in
          corners_differ params.dims x.object e.object x.event e.event subset subset (point_in params place x) p few (omega (arith, before, small)) small
          (λ same. omega (arith, before, same)) refl refl);
      last = All-map (λ (q : Point). q.version ≤ p.version) (point_in params place) done (λ i d inside. f.last i d inside);
      few = let count = length-map done (point_in params place) in let most = f.few in omega (arith, count, most, number);
    }

turns : (params : Params) (place : ℕ) (done : List Entered) (events : List Event) → params.dims ≤ 3 → All (CanFill params) events → ComeInTurn events → All (Follows done) events
    → AreNewInTurn params.dims (map (point_in params place) done) (map (point_in params place) (entries_in events))
turns params place done [] few can come follow = tt
turns params place done (e ∷ events) few can come follow =
    let first = All-head (Follows done) e events follow in
    let rest = All-tail (Follows done) e events follow in (
      is_new params place done e few (All-head (CanFill params) e events can) first,
      turns params place (entry_of e ∷ done) events few (All-tail (CanFill params) e events can) come.1
          (λ i d inside. let next = come.0 i d inside in follows_more done e (get_or events i d) next.0 next.1 first (rest i d inside)),
    )

-- the points of the events are new to an empty tree, in turn
pub events_are_new : (params : Params) (place : ℕ) (events : List Event) (points : List Point) → points ≡ map (point_in params place) (entries_in events) → params.dims ≤ 3
    → All (CanFill params) events → ComeInTurn events → AreNewInTurn params.dims [] points
events_are_new params place events points is few can come =
    subst (λ (l : List Point). AreNewInTurn params.dims [] l) (sym is) (turns params place [] events few can come (λ i d inside. none_before (get_or events i d)))

made_by : (plain : Bool) (dims place less : ℕ) (entries : List Entered)
    → map (λ e. corner_point dims (if plain then place else less) (weighed (λ x. if plain then plain_weight x else dated_weight x) e)) entries
    ≡ (if plain then map (λ e. corner_point dims place (weighed plain_weight e)) entries else map (λ e. corner_point dims less (weighed dated_weight e)) entries)
made_by true dims place less entries = refl
made_by false dims place less entries = refl

-- the points of a tree, made one by one
pub points_made : (params : Params) (place : ℕ) (entries : List Entered) → map (point_in params place) entries ≡ points_at params entries place
points_made params place entries = made_by (nat_lt place (corner_count params)) params.dims place (place - corner_count params) entries

-- the added points beside those that were kept, in another order
turned : (points kept : List Point) → IsPermutation (with_points points kept) (points ++ kept)
turned [] kept = IsPermutation-refl kept
turned (p ∷ points) kept =
    IsPermutation-trans (with_points points (p ∷ kept)) (points ++ p ∷ kept) (p ∷ (points ++ kept)) (turned points (p ∷ kept)) (IsPermutation-middle points p kept)

pub all_turned : (points : List Point) → IsPermutation (with_points points []) points
all_turned points = subst (λ (l : List Point). IsPermutation (with_points points []) l) (append-nil points) (turned points [])

-- each event has one point in a tree
pub length_made : (params : Params) (place : ℕ) (events : List Event) (points : List Point) → points ≡ map (point_in params place) (entries_in events) → length points ≡ length events
length_made params place events points is = ap length is ∙ length-map (entries_in events) (point_in params place) ∙ length-map events entry_of

-- what stands at a place past the events
abbrev pub no_event : Event
no_event = record { event = 0; version = 0; add = false; object = record { id = 0; low = []; high = []; weight = pos 0; coeffs = [] } }

-- one event's point more
pub point_next : (params : Params) (place : ℕ) (events : List Event) (i : ℕ) (items more : List Point) (p : Point) → i < length events
    → items ≡ map (point_in params place) (entries_in (take i events)) → p ≡ point_in params place (entry_of (get_or events i no_event)) → more ≡ items ++ p ∷ []
    → more ≡ map (point_in params place) (entries_in (take (i + 1) events))
point_next params place events i items more p lt is is_p is_more =
    let e = get_or events i no_event in
    let before : List Entered = entries_in (take i events) in
    is_more ∙ ap (λ (l : List Point). l ++ p ∷ []) is ∙ ap (λ (q : Point). map (point_in params place) before ++ q ∷ []) is_p
    ∙ sym (ap (λ (l : List Event). map (point_in params place) (entries_in l)) (take_more events i no_event lt)
    ∙ ap (map (point_in params place)) (map-append entry_of (take i events) (e ∷ [])) ∙ map-append (point_in params place) before (entry_of e ∷ []))
