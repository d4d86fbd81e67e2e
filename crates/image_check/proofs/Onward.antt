-- A history of which some batches were put in, and the events of the others.
use Rattle.std.proofs.Common.{◌≡◌, ℕ, ◌+◌, ◌<◌, ◌≤◌, ◌==◌, List, [], ◌∷◌, ◌++◌, length, map, take, drop, refl, sym, ◌∙◌, ap, subst, arith, append_assoc, length-append}
use Rattle.std.proofs.lemmas.Bool.{eq-eqb, ne_eqb}
use Rattle.std.proofs.lemmas.List.{append-nil}
use Rattle.bw_types.specs.History.{History}
use Rattle.bw_types.specs.Lawful.{AreLawfulAfter, IsLawful, IsLawfulBatch}
use Rattle.bw_types.specs.Lives.{numbered_from}
use Rattle.bw_types.specs.declared.change.Change.{Change}
use Rattle.bw_types.specs.declared.params.Params.{Params}
use Rattle.page_warehouse.specs.Batches.{count_of}
use Rattle.page_warehouse.specs.Events.{AreEventsOf, change_in, numbered_in}
use Rattle.page_warehouse.specs.declared.event.Event.{Event}
use Rattle.page_warehouse.proofs.CutByVersion.{passes, stops}

abbrev no_batches : History
no_batches = []

-- The history begins with these batches, so many of them, and the events are those of the others.
pub record IsCutAt (h before : History) (version : ℕ) (events : List Event) : Type 0 where
  pub rest : History
  pub whole : h ≡ before ++ rest
  pub count : length before ≡ version
  pub first : ℕ
  pub are : map numbered_in events ≡ numbered_from (version + 1) first rest

pub cut_start : (h : History) (events : List Event) → AreEventsOf events h → IsCutAt h [] 0 events
cut_start h events are = record { rest = h; whole = refl; count = refl; first = 0; are = are }

pub cut_end : (h before : History) (version : ℕ) (events : List Event) → length h ≤ version → IsCutAt h before version events → h ≡ before
cut_end h before version events end cut = by_rest cut.rest cut.whole
  where
    by_rest : (rest : History) → h ≡ before ++ rest → h ≡ before
    by_rest [] whole = whole ∙ append-nil before
    by_rest (b ∷ bs) whole = absurd (omega (arith, ap (length {A = List Change}) whole, length-append before (b ∷ bs), cut.count, end))

-- the next batch is that of the events of the next version
pub record HasNext (h before : History) (version k : ℕ) (events : List Event) : Type 0 where
  pub later : History
  pub whole : h ≡ before ++ (map change_in (take k events) ∷ later)
  pub next : IsCutAt h (before ++ (map change_in (take k events) ∷ [])) (version + 1) (drop k events)

pub cut_next : (h before : History) (version k : ℕ) (events : List Event) → version < length h → k ≡ count_of (version + 1) events → IsCutAt h before version events → HasNext h before version k events
cut_next h before version k events low size cut = by_rest cut.rest cut.whole cut.are
  where
    by_rest : (rest : History) → h ≡ before ++ rest → map numbered_in events ≡ numbered_from (version + 1) cut.first rest → HasNext h before version k events
    by_rest [] whole are = absurd (omega (arith, ap (length {A = List Change}) whole, length-append before no_batches, cut.count, low))
    by_rest (b ∷ bs) whole are =
        let v : ℕ = version + 1 in
        let r = passes (λ w. w == v) b v cut.first events (numbered_from (v + 1) (cut.first + length b) bs) (eq-eqb v v refl) are in
        let stop = stops (λ w. w == v) bs (v + 1) (cut.first + length b) (drop (length b) events) (λ u le. ne_eqb u v (λ same. omega (arith, same, le))) r.left_is in
        let same : length b ≡ k = omega (arith, r.count, stop, size) in
        let batch : map change_in (take k events) ≡ b = subst (λ (n : ℕ). map change_in (take n events) ≡ b) same r.batch_is in
        let left : map numbered_in (drop k events) ≡ numbered_from (v + 1) (cut.first + length b) bs =
        subst (λ (n : ℕ). map numbered_in (drop n events) ≡ numbered_from (v + 1) (cut.first + length b) bs) same r.left_is in
        let all : h ≡ before ++ (map change_in (take k events) ∷ bs) = whole ∙ ap (λ (c : List Change). before ++ (c ∷ bs)) (sym batch) in
        record {
          later = bs;
          whole = all;
          next = record {
            rest = bs;
            whole = all ∙ sym (append_assoc before (map change_in (take k events) ∷ []) bs);
            count = omega (arith, cut.count, length-append before (map change_in (take k events) ∷ []));
            first = cut.first + length b;
            are = left;
          };
        }

-- the next batch of a lawful history is lawful
next_after : (params : Params) (earlier before : History) (batch : List Change) (later : History) → AreLawfulAfter params earlier (before ++ batch ∷ later) → IsLawfulBatch params (earlier ++ before) batch
next_after params earlier [] batch later lawful = subst (λ (k : History). IsLawfulBatch params k batch) (sym (append-nil earlier)) lawful.0
next_after params earlier (b ∷ before) batch later lawful =
    subst (λ (k : History). IsLawfulBatch params k batch) (append_assoc earlier (b ∷ []) before) (next_after params (earlier ++ b ∷ []) before batch later lawful.1)

pub next_lawful : (params : Params) (h before : History) (batch : List Change) (later : History) → h ≡ before ++ (batch ∷ later) → IsLawful params h → IsLawfulBatch params before batch
next_lawful params h before batch later whole lawful = next_after params [] before batch later (subst (λ (k : History). IsLawful params k) whole lawful)
