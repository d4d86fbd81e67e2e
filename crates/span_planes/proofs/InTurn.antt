-- The events of a history come in turn.
use Rattle.std.proofs.Common.{◌≡◌, ℕ, suc, ◌+◌, ◌<◌, ◌≤◌, List, [], ◌∷◌, ◌++◌, length, map, refl, sym, ◌∙◌, ap, subst, arith, length-append}
use Rattle.std.proofs.lemmas.List.{length-map}
use Rattle.std.proofs.lemmas.List.Elements.{All-append, All-cons, All-head, All-nil, All-tail, All-weaker}
use Rattle.std.specs.List.{All}
use Rattle.bw_types.specs.History.{History, changes}
use Rattle.bw_types.specs.Lives.{Numbered, numbered_batch, numbered_from}
use Rattle.bw_types.specs.declared.change.Change.{Change}
use Rattle.page_warehouse.specs.Events.{AreEventsOf, numbered_in}
use Rattle.page_warehouse.specs.declared.event.Event.{Event}
use Rattle.span_planes.specs.Filled.{ComeInTurn}

-- what is so of each of the images is so of each element
pub all_of_map : {A B : Type 0} (P : B → Type 0) (f : A → B) (xs : List A) → All P (map f xs) → All (λ (x : A). P (f x)) xs
all_of_map P f [] all = All-nil (λ x. P (f x))
all_of_map P f (x ∷ xs) all = All-cons (λ x. P (f x)) x xs (All-head P (f x) (map f xs) all) (all_of_map P f xs (All-tail P (f x) (map f xs) all))

-- The change has no lower number and no lower version.
abbrev IsLater : ℕ → ℕ → Numbered → Type 0
IsLater event version n = (event ≤ n.event) × (version ≤ n.version)

abbrev Follows : ℕ → ℕ → Numbered → Type 0
Follows event version n = (event < n.event) × (version ≤ n.version)

abbrev InTurn : List Numbered → Type 0
InTurn [] = Unit {0}
InTurn (n ∷ ns) = All (Follows n.event n.version) ns × InTurn ns

batch_in_turn : (version event : ℕ) (cs : List Change) (rest : List Numbered) → All (IsLater (event + length cs) version) rest → InTurn rest
    → All (IsLater event version) (numbered_batch version event cs ++ rest) × InTurn (numbered_batch version event cs ++ rest)
batch_in_turn version event [] rest later turn =
    (All-weaker (IsLater (event + 0) version) (IsLater event version) (λ n p. let low = p.0 in (omega (arith, low), p.1)) rest later, turn)
batch_in_turn version event (c ∷ cs) rest later turn =
    let r = batch_in_turn version (event + 1) cs rest
    (All-weaker (IsLater (event + length (c ∷ cs)) version) (IsLater (event + 1 + length cs) version) (λ n p. let low = p.0 in (omega (arith, low), p.1)) rest later) turn in
    let more : List Numbered = numbered_batch version (event + 1) cs ++ rest in (
      All-cons (IsLater event version) (record { version = version; event = event; change = c }) more (omega arith, omega arith)
          (All-weaker (IsLater (event + 1) version) (IsLater event version) (λ n p. let low = p.0 in (omega (arith, low), p.1)) more r.0),
      (All-weaker (IsLater (event + 1) version) (Follows event version) (λ n p. let low = p.0 in (omega (arith, low), p.1)) more r.0, r.1),
    )

from_in_turn : (version event : ℕ) (h : History) → All (IsLater event version) (numbered_from version event h) × InTurn (numbered_from version event h)
from_in_turn version event [] = (All-nil (IsLater event version), tt)
from_in_turn version event (batch ∷ batches) =
    let r = from_in_turn (version + 1) (event + length batch) batches in
    batch_in_turn version event batch (numbered_from (version + 1) (event + length batch) batches)
    (All-weaker (IsLater (event + length batch) (version + 1)) (IsLater (event + length batch) version) (λ n p. let low = p.1 in (p.0, omega (arith, low))) _ r.0) r.1

events_in_turn : (events : List Event) → InTurn (map numbered_in events) → ComeInTurn events
events_in_turn [] turn = tt
events_in_turn (e ∷ es) turn = (all_of_map (Follows e.event e.version) numbered_in es turn.0, events_in_turn es turn.1)

pub come_in_turn : (events : List Event) (h : History) → AreEventsOf events h → ComeInTurn events
come_in_turn events h all = events_in_turn events (subst InTurn (sym all) (from_in_turn 1 0 h).1)

-- how many there are
batch_count : (version event : ℕ) (cs : List Change) → length (numbered_batch version event cs) ≡ length cs
batch_count version event [] = refl
batch_count version event (c ∷ cs) = ap suc (batch_count version (event + 1) cs)

from_count : (version event : ℕ) (h : History) → length (numbered_from version event h) ≡ length (changes h)
from_count version event [] = refl
from_count version event (batch ∷ batches) =
    let both = length-append (numbered_batch version event batch) (numbered_from (version + 1) (event + length batch) batches) in
    let all = length-append batch (changes batches) in
    let own = batch_count version event batch in
    let rest = from_count (version + 1) (event + length batch) batches in
    omega (arith, both, all, own, rest)

pub event_number : (events : List Event) (h : History) → AreEventsOf events h → length events ≡ length (changes h)
event_number events h all = sym (length-map events numbered_in) ∙ (ap (λ (ns : List Numbered). length ns) all ∙ from_count 1 0 h)

-- no version is above the last one
batch_low : (most version event : ℕ) (cs : List Change) → version < most → All (λ (n : Numbered). n.version < most) (numbered_batch version event cs)
batch_low most version event [] low = All-nil (λ n. n.version < most)
batch_low most version event (c ∷ cs) low = All-cons (λ n. n.version < most) (record { version = version; event = event; change = c }) (numbered_batch version (event + 1) cs) low (batch_low most version (event + 1) cs low)

from_low : (most version event : ℕ) (h : History) → version + length h ≤ most → All (λ (n : Numbered). n.version < most) (numbered_from version event h)
from_low most version event [] low = All-nil (λ n. n.version < most)
from_low most version event (batch ∷ batches) low =
    All-append (λ (n : Numbered). n.version < most) (numbered_batch version event batch) (numbered_from (version + 1) (event + length batch) batches)
    (batch_low most version event batch (omega (arith, low))) (from_low most (version + 1) (event + length batch) batches (omega (arith, low)))

pub versions_low : (events : List Event) (h : History) → AreEventsOf events h → All (λ (e : Event). e.version < 1 + length h) events
versions_low events h all =
    all_of_map (λ (n : Numbered). n.version < 1 + length h) numbered_in events
    (subst (λ (ns : List Numbered). All (λ (n : Numbered). n.version < 1 + length h) ns) (sym all) (from_low (1 + length h) 1 0 h (omega arith)))
