-- The events of a history, cut by version, are its batches.
use Rattle.std.proofs.Common.{◌≡◌, ℕ, suc, ◌+◌, ◌≤◌, ◌==◌, Bool, true, false, List, [], ◌∷◌, ◌++◌, length, map, take, drop, refl, sym, ◌∙◌, ap, subst, arith, cond}
use Rattle.std.proofs.lemmas.Bool.{eq-eqb, ne_eqb}
use Rattle.std.specs.List.{prefix_len}
use Rattle.bw_types.specs.History.{History}
use Rattle.bw_types.specs.Lives.{Numbered, numbered_batch, numbered_from}
use Rattle.bw_types.specs.declared.change.Change.{Change}
use Rattle.page_warehouse.specs.Batches.{batches_from, count_of}
use Rattle.page_warehouse.specs.Events.{change_in, numbered_in}
use Rattle.page_warehouse.specs.declared.event.Event.{Event}

-- lists with the same first element and the same rest
pub both_cons : {X : Type 0} {x y : X} {xs ys : List X} → x ≡ y → xs ≡ ys → x ∷ xs ≡ y ∷ ys
both_cons e f = cc

-- the batch of the next version, and the later ones
pub next_batch : (v n m k : ℕ) (batch rest events : List Event) → n ≡ suc m → k ≡ count_of v events → batch ≡ take k events → rest ≡ drop k events
    → batches_from v n events ≡ map change_in batch ∷ batches_from (v + 1) m rest
next_batch v n m k batch rest events more size front back =
    ap (λ (x : ℕ). batches_from v x events) more
    ∙ (ap (λ (x : ℕ). map change_in (take x events) ∷ batches_from (v + 1) m (drop x events)) (sym size)
    ∙ (ap (λ (es : List Event). map change_in es ∷ batches_from (v + 1) m (drop k events)) (sym front)
    ∙ ap (λ (es : List Event). map change_in batch ∷ batches_from (v + 1) m es) (sym back)))

-- The events begin with those of a batch whose version passes, and these changes are left.
pub record Passes (p : ℕ → Bool) (events : List Event) (batch : List Change) (left : List Numbered) : Type 0 where
  pub count : prefix_len (λ (e : Event). p e.version) events ≡ length batch + prefix_len (λ (e : Event). p e.version) (drop (length batch) events)
  pub batch_is : map change_in (take (length batch) events) ≡ batch
  pub left_is : map numbered_in (drop (length batch) events) ≡ left

pub passes : (p : ℕ → Bool) (batch : List Change) (v e : ℕ) (events : List Event) (ns : List Numbered) → p v ≡ true → map numbered_in events ≡ numbered_batch v e batch ++ ns
    → Passes p events batch ns
passes p [] v e events ns so is = record { count = omega arith; batch_is = refl; left_is = is }
passes p (c ∷ cs) v e [] ns so is = absurd (cc)
passes p (c ∷ cs) v e (x ∷ xs) ns so is =
    let first : numbered_in x ≡ record { version = v; event = e; change = c } = cc in
    let more : map numbered_in xs ≡ numbered_batch v (e + 1) cs ++ ns = cc in
    let r = passes p cs v (e + 1) xs ns so more in
    let own : p x.version ≡ true = ap (λ (n : Numbered). p n.version) first ∙ so in
    let counted : prefix_len (λ (y : Event). p y.version) (x ∷ xs) ≡ 1 + prefix_len (λ (y : Event). p y.version) xs =
    ap (λ (b : Bool). cond b (1 + prefix_len (λ (y : Event). p y.version) xs) 0) own in
    record {
      count = counted ∙ (let sum : 1 + prefix_len (λ (y : Event). p y.version) xs ≡ suc (length cs) + prefix_len (λ (y : Event). p y.version) (drop (length cs) xs) = omega (arith, r.count) in sum);
      batch_is = both_cons (ap (λ (n : Numbered). n.change) first) r.batch_is;
      left_is = r.left_is;
    }

-- no event passes where the versions from there on do not
pub stops : (p : ℕ → Bool) (h : History) (v e : ℕ) (events : List Event) → ((u : ℕ) → v ≤ u → p u ≡ false) → map numbered_in events ≡ numbered_from v e h
    → prefix_len (λ (x : Event). p x.version) events ≡ 0
stops p [] v e [] none is = refl
stops p [] v e (x ∷ xs) none is = absurd (cc)
stops p ([] ∷ h) v e events none is = stops p h (v + 1) (e + 0) events (λ u le. none u (omega (arith, le))) is
stops p ((c ∷ cs) ∷ h) v e [] none is = absurd (cc)
stops p ((c ∷ cs) ∷ h) v e (x ∷ xs) none is =
    let first : numbered_in x ≡ record { version = v; event = e; change = c } = cc in
    let own : p x.version ≡ false = ap (λ (n : Numbered). p n.version) first ∙ none v (omega arith) in
    ap (λ (b : Bool). cond b (1 + prefix_len (λ (y : Event). p y.version) xs) 0) own

-- the events of batches, cut by version, are the batches
pub batches_are : (h : History) (v e : ℕ) (events : List Event) → map numbered_in events ≡ numbered_from v e h → batches_from v (length h) events ≡ h
batches_are [] v e events is = refl
batches_are (batch ∷ h) v e events is =
    let r = passes (λ w. w == v) batch v e events (numbered_from (v + 1) (e + length batch) h) (eq-eqb v v refl) is in
    let stop = stops (λ w. w == v) h (v + 1) (e + length batch) (drop (length batch) events) (λ u le. ne_eqb u v (λ same. omega (arith, same, le))) r.left_is in
    let count : length batch ≡ count_of v events = omega (arith, r.count, stop) in
    subst (λ (k : ℕ). map change_in (take k events) ∷ batches_from (v + 1) (length h) (drop k events) ≡ batch ∷ h) count
    (both_cons r.batch_is (batches_are h (v + 1) (e + length batch) (drop (length batch) events) r.left_is))
