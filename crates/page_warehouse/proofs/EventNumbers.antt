-- Events are those of a history exactly where their numbers go on.
use Rattle.std.proofs.Common.{◌≡◌, ℕ, zero, suc, ◌+◌, ◌-◌, ◌≤◌, List, [], ◌∷◌, ◌++◌, length, map, refl, sym, ◌∙◌, ap, subst, arith}
use Rattle.std.proofs.lemmas.List.{length-map}
use Rattle.bw_types.specs.History.{History, changes, last_version}
use Rattle.bw_types.specs.Lives.{Numbered, numbered, numbered_batch, numbered_from}
use Rattle.bw_types.specs.declared.change.Change.{Change}
use Rattle.history_laws.proofs.Batches.{changed, changed_all}
use Rattle.page_warehouse.specs.Events.{AreEventsOf, change_in, numbered_in}
use Rattle.page_warehouse.specs.Numbering.{AreNumbered, GoOn}
use Rattle.page_warehouse.specs.declared.event.Event.{Event}

-- The changes are those of some batches, from this version and event on.
record Cut (last version event : ℕ) (ns : List Numbered) : Type 0 where
  history : History
  many : length history + version ≡ last + 1
  same : numbered_from version event history ≡ ns

-- batches without changes
no_changes : (k version event : ℕ) → (h : History) × (length h ≡ k) × (numbered_from version event h ≡ [])
no_changes zero version event = ([], refl, refl)
no_changes (suc k) version event =
    let rest = no_changes k (version + 1) (event + 0) in
    ([] ∷ rest.0, omega (arith, rest.1), rest.2)

-- so many of them in front
in_front : (k last version event : ℕ) (ns : List Numbered) → Cut last (version + k) event ns → Cut last version event ns
in_front zero last version event ns cut = subst (λ (v : ℕ). Cut last v event ns) (let same : version + 0 ≡ version = omega arith in same) cut
in_front (suc k) last version event ns cut =
    let next : version + suc k ≡ version + 1 + k = omega arith in
    let same_event : event ≡ event + 0 = omega arith in
    let rest = in_front k last (version + 1) event ns (subst (λ (v : ℕ). Cut last v event ns) next cut) in
    record {
      history = [] ∷ rest.history;
      many = omega (arith, rest.many);
      same = ap (λ (e : ℕ). numbered_from (version + 1) e rest.history) (sym same_event) ∙ rest.same;
    }

-- one change more in the first batch
first_more : (last version event : ℕ) (n : Numbered) (ns : List Numbered) → n.event ≡ event → n.version ≡ version → version ≤ last → Cut last version (event + 1) ns → Cut last version event (n ∷ ns)
first_more last version event n ns at made low cut = by_batches cut.history cut.many cut.same
  where
    by_batches : (h : History) → length h + version ≡ last + 1 → numbered_from version (event + 1) h ≡ ns → Cut last version event (n ∷ ns)
    by_batches [] many same = absurd (omega (arith, many, low))
    by_batches (b ∷ bs) many same =
        let moved : event + length (n.change ∷ b) ≡ event + 1 + length b = omega arith in
        let own : ◌≡◌ {A = Numbered} (record { version = version; event = event; change = n.change }) n =
        ap (λ (v : ℕ). record { version = v; event = event; change = n.change }) (sym made) ∙ ap (λ (e : ℕ). record { version = n.version; event = e; change = n.change }) (sym at) in
        record {
          history = (n.change ∷ b) ∷ bs;
          many = omega (arith, many);
          same = ap (λ (e : ℕ). record { version = version; event = event; change = n.change } ∷ (numbered_batch version (event + 1) b ++ numbered_from (version + 1) e bs)) moved
              ∙ ap (λ (ms : List Numbered). record { version = version; event = event; change = n.change } ∷ ms) same
              ∙ ap (λ (m : Numbered). m ∷ ns) own;
        }

cut_all : (last version event : ℕ) (ns : List Numbered) → version ≤ last + 1 → GoOn last event version ns → Cut last version event ns
cut_all last version event [] low on =
    let none = no_changes (last + 1 - version) version event in
    record { history = none.0; many = omega (arith, none.1, low); same = none.2 }
cut_all last version event (n ∷ ns) low on =
    let rest = cut_all last n.version (event + 1) ns (omega (arith, on.2)) on.3 in
    let first = first_more last n.version event n ns on.0 refl on.2 rest in
    let up : n.version ≡ version + (n.version - version) = omega (arith, on.1) in
    in_front (n.version - version) last version event (n ∷ ns) (subst (λ (v : ℕ). Cut last v event (n ∷ ns)) up first)

-- from a lower version
lower : (last event version from : ℕ) (ns : List Numbered) → from ≤ version → GoOn last event version ns → GoOn last event from ns
lower last event version from [] le on = tt
lower last event version from (n ∷ ns) le on = (on.0, omega (arith, le, on.1), on.2, on.3)

-- the changes of a history
batch_goes : (last version event : ℕ) (cs : List Change) (later : List Numbered) → version ≤ last → GoOn last (event + length cs) version later → GoOn last event version (numbered_batch version event cs ++ later)
batch_goes last version event [] later low on = subst (λ (e : ℕ). GoOn last e version later) (let same : event + 0 ≡ event = omega arith in same) on
batch_goes last version event (c ∷ cs) later low on =
    let moved : event + length (c ∷ cs) ≡ event + 1 + length cs = omega arith in
    (refl, omega arith, low, batch_goes last version (event + 1) cs later low (subst (λ (e : ℕ). GoOn last e version later) moved on))

all_go : (last version event : ℕ) (h : History) → length h + version ≤ last + 1 → GoOn last event version (numbered_from version event h)
all_go last version event [] low = tt
all_go last version event (b ∷ bs) low =
    batch_goes last version event b (numbered_from (version + 1) (event + length b) bs) (omega (arith, low))
    (lower last (event + length b) (version + 1) version (numbered_from (version + 1) (event + length b) bs) (omega arith) (all_go last (version + 1) (event + length b) bs (omega (arith, low))))

histories_go : (h : History) → GoOn (last_version h) 0 1 (numbered h)
histories_go h = all_go (length h) 1 0 h (omega arith)

-- where the numbers go on, there is a history
pub numbers_make : (last : ℕ) (events : List Event) → AreNumbered last events → (h : History) × (AreEventsOf events h) × (last_version h ≡ last)
numbers_make last events on =
    let cut = cut_all last 1 0 (map numbered_in events) (omega arith) on in (cut.history, sym cut.same, omega (arith, cut.many))

-- and those of a history go on
pub made_numbers : (last : ℕ) (events : List Event) (h : History) → AreEventsOf events h → last_version h ≡ last → AreNumbered last events
made_numbers last events h are version =
    subst (λ (ns : List Numbered). GoOn last 0 1 ns) (sym are) (subst (λ (l : ℕ). GoOn l 0 1 (numbered h)) version (histories_go h))

-- the events of a history have its changes
changed_events : (es : List Event) → changed (map numbered_in es) ≡ map change_in es
changed_events [] = refl
changed_events (e ∷ es) = ap (λ (cs : List Change). change_in e ∷ cs) (changed_events es)

pub events_changes : (h : History) (es : List Event) → AreEventsOf es h → map change_in es ≡ changes h
events_changes h es are = sym (changed_events es) ∙ (ap changed are ∙ changed_all h)

pub events_count : (h : History) (es : List Event) → AreEventsOf es h → length es ≡ length (changes h)
events_count h es are = sym (length-map es change_in) ∙ ap (length {A = Change}) (events_changes h es are)
