-- The changes of a history, cut into its batches.
use Rattle.std.proofs.Common.{◌≡◌, ℕ, ◌+◌, ◌<◌, ◌≤◌, true, false, ◌==◌, List, [], ◌∷◌, ◌++◌, length, map, refl, sym, ◌∙◌, ap, append_assoc, arith}
use Rattle.std.proofs.lemmas.Bool.{ne_eqb, eq-eqb}
use Rattle.std.proofs.lemmas.List.{append-nil, map-append}
use Rattle.std.proofs.lemmas.List.Elements.{filter-append}
use Rattle.std.specs.List.{filter, range_with_len}
use Rattle.bw_types.specs.History.{History, changes}
use Rattle.bw_types.specs.Lives.{Numbered, numbered, numbered_batch, numbered_from}
use Rattle.bw_types.specs.declared.change.Change.{Change}
use Rattle.history_laws.specs.Told.{batch_of}
use Rattle.history_laws.proofs.InOrder.{From, Rising, from_lower}

-- the event numbers of a history rise
batch_rises : (w e : ℕ) (cs : List Change) (later : List Numbered) → From (e + length cs) later → Rising later
    → From e (numbered_batch w e cs ++ later) × Rising (numbered_batch w e cs ++ later)
batch_rises w e [] later f r = (from_lower e (e + 0) later (omega arith) f, r)
batch_rises w e (c ∷ cs) later f r =
    let rest = batch_rises w (e + 1) cs later (from_lower (e + 1 + length cs) (e + length (c ∷ cs)) later (omega arith) f) r in
    ((omega arith, from_lower e (e + 1) (numbered_batch w (e + 1) cs ++ later) (omega arith) rest.0), (rest.0, rest.1))

rises_from : (w e : ℕ) (h : History) → From e (numbered_from w e h) × Rising (numbered_from w e h)
rises_from w e [] = (tt, tt)
rises_from w e (b ∷ bs) =
    let rest = rises_from (w + 1) (e + length b) bs in
    batch_rises w e b (numbered_from (w + 1) (e + length b) bs) rest.0 rest.1

pub events_rise : (h : History) → Rising (numbered h)
events_rise h = (rises_from 1 0 h).1

-- its changes, without their numbers
abbrev pub changed : List Numbered → List Change
changed ns = map (λ n. n.change) ns

batch_changed : (w e : ℕ) (cs : List Change) → changed (numbered_batch w e cs) ≡ cs
batch_changed w e [] = refl
batch_changed w e (c ∷ cs) = ap (λ (ds : List Change). c ∷ ds) (batch_changed w (e + 1) cs)

changed_from : (w e : ℕ) (h : History) → changed (numbered_from w e h) ≡ changes h
changed_from w e [] = refl
changed_from w e (b ∷ bs) =
    map-append (λ (n : Numbered). n.change) (numbered_batch w e b) (numbered_from (w + 1) (e + length b) bs)
    ∙ (ap (λ (cs : List Change). cs ++ changed (numbered_from (w + 1) (e + length b) bs)) (batch_changed w e b)
    ∙ ap (λ (cs : List Change). b ++ cs) (changed_from (w + 1) (e + length b) bs))

pub changed_all : (h : History) → changed (numbered h) ≡ changes h
changed_all h = changed_from 1 0 h

-- no version is w
abbrev pub Without : ℕ → List Numbered → Type 0
Without w [] = Unit {0}
Without w (n ∷ ns) = (n.version ≡ w → ⊥) × Without w ns

batch_without : (v w e : ℕ) (cs : List Change) → (w ≡ v → ⊥) → Without v (numbered_batch w e cs)
batch_without v w e [] other = tt
batch_without v w e (c ∷ cs) other = (other, batch_without v w (e + 1) cs other)

append_without : (v : ℕ) (ns ms : List Numbered) → Without v ns → Without v ms → Without v (ns ++ ms)
append_without v [] ms a b = b
append_without v (n ∷ ns) ms a b = (a.0, append_without v ns ms a.1 b)

pub later_without : (v w e : ℕ) (h : History) → v < w → Without v (numbered_from w e h)
later_without v w e [] lt = tt
later_without v w e (b ∷ bs) lt =
    append_without v (numbered_batch w e b) (numbered_from (w + 1) (e + length b) bs) (batch_without v w e b (λ same. omega (arith, same, lt)))
    (later_without v (w + 1) (e + length b) bs (omega arith))

-- the changes of a version among those of others
none_of : (v : ℕ) (ns : List Numbered) → Without v ns → batch_of ns v ≡ []
none_of v [] a = refl
none_of v (n ∷ ns) a = let other : (n.version == v) ≡ false = ne_eqb n.version v a.0 in rw other (none_of v ns a.1)

all_of : (w e : ℕ) (cs : List Change) → batch_of (numbered_batch w e cs) w ≡ cs
all_of w e [] = refl
all_of w e (c ∷ cs) = let same : (w == w) ≡ true = eq-eqb w w refl in rw same (ap (λ (ds : List Change). c ∷ ds) (all_of w (e + 1) cs))

append_of : (v : ℕ) (ns ms : List Numbered) → batch_of (ns ++ ms) v ≡ batch_of ns v ++ batch_of ms v
append_of v ns ms =
    ap changed (filter-append (λ (n : Numbered). n.version == v) ns ms)
    ∙ map-append (λ (n : Numbered). n.change) (filter (λ (n : Numbered). n.version == v) ns) (filter (λ (n : Numbered). n.version == v) ms)

first_of_all : (w e : ℕ) (earlier : List Numbered) (b : List Change) (later : List Numbered) → Without w earlier → Without w later
    → batch_of (earlier ++ (numbered_batch w e b ++ later)) w ≡ b
first_of_all w e earlier b later none_before none_after =
    append_of w earlier (numbered_batch w e b ++ later)
    ∙ (ap (λ (cs : List Change). cs ++ batch_of (numbered_batch w e b ++ later) w) (none_of w earlier none_before)
    ∙ (append_of w (numbered_batch w e b) later
    ∙ (ap (λ (cs : List Change). cs ++ batch_of later w) (all_of w e b)
    ∙ (ap (λ (cs : List Change). b ++ cs) (none_of w later none_after) ∙ append-nil b))))

-- the batches from version w on, after those of earlier versions
cut_after : (earlier : List Numbered) (w e : ℕ) (h : History) → ((v : ℕ) → w ≤ v → Without v earlier)
    → map (batch_of (earlier ++ numbered_from w e h)) (range_with_len w (length h)) ≡ h
cut_after earlier w e [] before = refl
cut_after earlier w e (b ∷ bs) before =
    let later : List Numbered = numbered_from (w + 1) (e + length b) bs in
    let first = first_of_all w e earlier b later (before w (omega arith)) (later_without w (w + 1) (e + length b) bs (omega arith)) in
    let rest = cut_after (earlier ++ numbered_batch w e b) (w + 1) (e + length b) bs
    (λ v le. append_without v earlier (numbered_batch w e b) (before v (omega arith)) (batch_without v w e b (λ same. omega (arith, same, le)))) in
    let moved = ap (λ (ns : List Numbered). map (batch_of ns) (range_with_len (w + 1) (length bs))) (append_assoc earlier (numbered_batch w e b) later) in
    ap (λ (c : List Change). c ∷ map (batch_of (earlier ++ (numbered_batch w e b ++ later))) (range_with_len (w + 1) (length bs))) first
    ∙ ap (λ (cs : History). b ∷ cs) (sym moved ∙ rest)

pub cut_again : (h : History) → map (batch_of (numbered h)) (range_with_len 1 (length h)) ≡ h
cut_again h = cut_after [] 1 0 h (λ v le. tt)
