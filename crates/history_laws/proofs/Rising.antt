-- The changes of a history in the order of their versions, and those up to a version.
use Rattle.std.proofs.Common.{◌≡◌, ℕ, ◌+◌, ◌<◌, ◌≤◌, true, false, nat_le, List, [], ◌∷◌, ◌++◌, length, map, take, refl, sym, ◌∙◌, ap, arith, zero, suc}
use Rattle.std.proofs.lemmas.Bool.{le-leb, lt-leb}
use Rattle.std.proofs.lemmas.List.{map-append}
use Rattle.std.proofs.lemmas.List.Elements.{filter-append}
use Rattle.std.specs.List.{filter}
use Rattle.bw_types.specs.History.{History, changes}
use Rattle.bw_types.specs.Lives.{Numbered, numbered, numbered_batch, numbered_from}
use Rattle.bw_types.specs.declared.change.Change.{Change}

-- each version is at least w
abbrev pub From : ℕ → List Numbered → Type 0
From w [] = Unit {0}
From w (n ∷ ns) = (w ≤ n.version) × From w ns

-- versions begin at 1 and never fall
abbrev pub Rises : List Numbered → Type 0
Rises [] = Unit {0}
Rises (n ∷ ns) = (1 ≤ n.version) × From n.version ns × Rises ns

from_lower : (w v : ℕ) (ns : List Numbered) → v ≤ w → From w ns → From v ns
from_lower w v [] le f = tt
from_lower w v (n ∷ ns) le f = (omega (arith, f.0), from_lower w v ns le f.1)

-- the changes of one batch, and the later ones
batch_rises : (w e : ℕ) (cs : List Change) (later : List Numbered) → 1 ≤ w → From w later → Rises later → From w (numbered_batch w e cs ++ later) × Rises (numbered_batch w e cs ++ later)
batch_rises w e [] later one from rises = (from, rises)
batch_rises w e (c ∷ cs) later one from rises =
    let rest = batch_rises w (e + 1) cs later one from rises in
    ((omega arith, rest.0), (one, rest.0, rest.1))

from_rises : (w e : ℕ) (h : History) → 1 ≤ w → From w (numbered_from w e h) × Rises (numbered_from w e h)
from_rises w e [] one = (tt, tt)
from_rises w e (b ∷ bs) one =
    let rest = from_rises (w + 1) (e + length b) bs (omega arith) in
    batch_rises w e b (numbered_from (w + 1) (e + length b) bs) one (from_lower (w + 1) w _ (omega arith) rest.0) rest.1

pub rises : (h : History) → Rises (numbered h)
rises h = (from_rises 1 0 h (omega arith)).1

-- those up to a version
abbrev pub seen : ℕ → List Numbered → List Numbered
seen v ns = filter (λ n. nat_le n.version v) ns

abbrev pub changed : List Numbered → List Change
changed ns = map (λ n. n.change) ns

pub none_seen : (v w : ℕ) (ns : List Numbered) → v < w → From w ns → seen v ns ≡ []
none_seen v w [] lt f = refl
none_seen v w (n ∷ ns) lt f =
    let later : nat_le n.version v ≡ false = lt-leb n.version v (omega (arith, f.0)) in
    rw later (none_seen v w ns lt f.1)

batch_seen : (v w e : ℕ) (cs : List Change) → w ≤ v → seen v (numbered_batch w e cs) ≡ numbered_batch w e cs
batch_seen v w e [] le = refl
batch_seen v w e (c ∷ cs) le =
    let yes : nat_le w v ≡ true = le-leb w v le in
    rw yes (ap (λ (ns : List Numbered). record { version = w; event = e; change = c } ∷ ns) (batch_seen v w (e + 1) cs le))

batch_changed : (w e : ℕ) (cs : List Change) → changed (numbered_batch w e cs) ≡ cs
batch_changed w e [] = refl
batch_changed w e (c ∷ cs) = ap (λ ds. c ∷ ds) (batch_changed w (e + 1) cs)

all_changed : (w e : ℕ) (h : History) → changed (numbered_from w e h) ≡ changes h
all_changed w e [] = refl
all_changed w e (b ∷ bs) =
    map-append (λ (n : Numbered). n.change) (numbered_batch w e b) (numbered_from (w + 1) (e + length b) bs)
    ∙ (ap (λ (cs : List Change). cs ++ changed (numbered_from (w + 1) (e + length b) bs)) (batch_changed w e b)
    ∙ ap (λ (cs : List Change). b ++ cs) (all_changed (w + 1) (e + length b) bs))

pub changed_all : (h : History) → changed (numbered h) ≡ changes h
changed_all h = all_changed 1 0 h

changes_seen : (w e k v : ℕ) (h : History) → v + 1 ≡ w + k → 1 ≤ w → changes (take k h) ≡ changed (seen v (numbered_from w e h))
changes_seen w e zero v [] eq one = refl
changes_seen w e (suc k) v [] eq one = refl
changes_seen w e zero v (b ∷ bs) eq one =
    let none = none_seen v w (numbered_from w e (b ∷ bs)) (omega arith) (from_rises w e (b ∷ bs) one).0 in
    rw none refl
changes_seen w e (suc k) v (b ∷ bs) eq one =
    let rest = numbered_from (w + 1) (e + length b) bs in
    let parts : seen v (numbered_batch w e b ++ rest) ≡ numbered_batch w e b ++ seen v rest =
    filter-append (λ (n : Numbered). nat_le n.version v) (numbered_batch w e b) rest ∙ ap (λ (ns : List Numbered). ns ++ seen v rest) (batch_seen v w e b (omega arith)) in
    ap (λ (cs : List Change). b ++ cs) (changes_seen (w + 1) (e + length b) k v bs (omega arith) (omega arith))
    ∙ sym (ap changed parts ∙ (map-append (λ (n : Numbered). n.change) (numbered_batch w e b) (seen v rest)
    ∙ ap (λ (cs : List Change). cs ++ changed (seen v rest)) (batch_changed w e b)))

-- the changes of the first batches are those up to their version
pub changes_up_to : (h : History) (v : ℕ) → changes (take v h) ≡ changed (seen v (numbered h))
changes_up_to h v = changes_seen 1 0 v v h (omega arith) (omega arith)
