-- The numbers of the changes of a history, and of one change more.
use Rattle.std.proofs.Common.{◌≡◌, ℕ, ◌+◌, ◌<◌, ◌≤◌, List, [], ◌∷◌, ◌++◌, length, refl, sym, ◌∙◌, ap, arith, append_assoc, length-append}
use Rattle.std.proofs.lemmas.List.{append-nil, length_push}
use Rattle.std.proofs.lemmas.List.Concat.{flat_map-append}
use Rattle.std.proofs.lemmas.List.Elements.{All-nil, All-cons, All-append, All-weaker}
use Rattle.std.proofs.lemmas.List.Sums.{sum_by-append, sum_by-cons}
use Rattle.std.specs.List.{All, count_by}
use Rattle.bw_types.specs.History.{History, adds, changes, last_version}
use Rattle.bw_types.specs.Lives.{Numbered, numbered, numbered_batch, numbered_from, lives, life_of}
use Rattle.bw_types.specs.declared.change.Change.{Change}
use Rattle.bw_types.specs.declared.change.Change.TheVariants as change
use Rattle.bw_types.specs.declared.dated.Dated.{Dated}
use Rattle.bw_types.specs.declared.object.Object.{Object}
use Rattle.history_laws.specs.Entries.{entries_of}
use Rattle.history_laws.specs.Growing.{LivesGrow, NumbersGrow, lives_in, lives_with}
use Rattle.page_warehouse.specs.Begun.{BeginsAlike, begun_life, next_event, next_version, with_changes}
use Rattle.page_warehouse.proofs.Lasts.{adds_in, one_if}

pub changes_with : (h : History) (done : List Change) → changes (with_changes h done) ≡ changes h ++ done
changes_with h done = flat_map-append (λ (b : List Change). b) h (done ∷ []) ∙ ap (λ (cs : List Change). changes h ++ cs) (append-nil done)

pub count_with : (h : History) (done : List Change) → length (changes (with_changes h done)) ≡ next_event h done
count_with h done = ap length (changes_with h done) ∙ length-append (changes h) done

pub version_with : (h : History) (done : List Change) → last_version (with_changes h done) ≡ next_version h
version_with h done = length_push h done

-- versions begin at 1, and neither they nor the event numbers go beyond those of the history
pub record IsWithin (version events : ℕ) (n : Numbered) : Type 0 where
  pub begun : 1 ≤ n.version
  pub last : n.version ≤ version
  pub event : n.event < events

batch_within : (w e version events : ℕ) (cs : List Change) → 1 ≤ w → w ≤ version → e + length cs ≤ events → All (IsWithin version events) (numbered_batch w e cs)
batch_within w e version events [] one le room = All-nil (IsWithin version events)
batch_within w e version events (c ∷ cs) one le room =
    All-cons (IsWithin version events) (record { version = w; event = e; change = c }) (numbered_batch w (e + 1) cs) (record { begun = one; last = le; event = omega arith })
    (batch_within w (e + 1) version events cs one le (omega arith))

from_within : (w e version events : ℕ) (h : History) → 1 ≤ w → w + length h ≤ version + 1 → e + length (changes h) ≤ events → All (IsWithin version events) (numbered_from w e h)
from_within w e version events [] one le room = All-nil (IsWithin version events)
from_within w e version events (b ∷ bs) one le room =
    let parts = length-append b (changes bs) in
    All-append (IsWithin version events) (numbered_batch w e b) (numbered_from (w + 1) (e + length b) bs) (batch_within w e version events b one (omega arith) (omega arith))
    (from_within (w + 1) (e + length b) version events bs (omega arith) (omega arith) (omega arith))

pub numbers_within : (h : History) → All (IsWithin (last_version h) (length (changes h))) (numbered h)
numbers_within h = from_within 1 0 (last_version h) (length (changes h)) h (omega arith) (omega arith) (omega arith)

-- the change that comes next, with its numbers
abbrev pub next_change : History → List Change → Change → Numbered
next_change h done c = record { version = next_version h; event = next_event h done; change = c }

batch_more : (w e : ℕ) (done : List Change) (c : Change) → numbered_batch w e (done ++ c ∷ []) ≡ numbered_batch w e done ++ record { version = w; event = e + length done; change = c } ∷ []
batch_more w e [] c = ap (λ (k : ℕ). record { version = w; event = k; change = c } ∷ []) (omega arith)
batch_more w e (d ∷ done) c =
    ap (λ (ns : List Numbered). record { version = w; event = e; change = d } ∷ ns)
    (batch_more w (e + 1) done c ∙ ap (λ (k : ℕ). numbered_batch w (e + 1) done ++ record { version = w; event = k; change = c } ∷ []) (omega arith))

pub numbered_more : NumbersGrow → (h : History) (done : List Change) (c : Change) → numbered (with_changes h (done ++ c ∷ [])) ≡ numbered (with_changes h done) ++ next_change h done c ∷ []
numbered_more numbers h done c =
    numbers h (done ++ c ∷ []) ∙ (ap (λ (ns : List Numbered). numbered h ++ ns) (batch_more (next_version h) (length (changes h)) done c)
    ∙ (sym (append_assoc (numbered h) (numbered_batch (next_version h) (length (changes h)) done) (next_change h done c ∷ []))
    ∙ ap (λ (ns : List Numbered). ns ++ next_change h done c ∷ []) (sym (numbers h done))))

pub lives_more : LivesGrow → NumbersGrow → (h : History) (done : List Change) (c : Change)
    → lives (with_changes h (done ++ c ∷ [])) ≡ lives_with (numbered (with_changes h done)) (next_change h done c) c (lives (with_changes h done))
lives_more grow numbers h done c =
    let k : History = with_changes h done in
    ap lives_in (numbered_more numbers h done c)
    ∙ grow (numbered k) (next_change h done c) (All-weaker (IsWithin (last_version k) (length (changes k))) (λ (n : Numbered). 1 ≤ n.version) (λ n w. w.begun) (numbered k) (numbers_within k))

-- the adds of an id, counted with their numbers
batch_adds : (id w e : ℕ) (cs : List Change) → adds_in id (numbered_batch w e cs) ≡ count_by (adds id) cs
batch_adds id w e [] = refl
batch_adds id w e (c ∷ cs) =
    let n : Numbered = record { version = w; event = e; change = c } in
    let rest = batch_adds id w (e + 1) cs in
    let left = sum_by-cons (λ (m : Numbered). one_if (adds id m.change)) n (numbered_batch w (e + 1) cs) in
    let right = sum_by-cons (λ (d : Change). one_if (adds id d)) c cs in
    left ∙ (ap (λ (k : ℕ). one_if (adds id c) + k) rest ∙ sym right)

from_adds : (id w e : ℕ) (h : History) → adds_in id (numbered_from w e h) ≡ count_by (adds id) (changes h)
from_adds id w e [] = refl
from_adds id w e (b ∷ bs) =
    let rest = from_adds id (w + 1) (e + length b) bs in
    let first = batch_adds id w e b in
    let left = sum_by-append (λ (m : Numbered). one_if (adds id m.change)) (numbered_batch w e b) (numbered_from (w + 1) (e + length b) bs) in
    let right = sum_by-append (λ (d : Change). one_if (adds id d)) b (changes bs) in
    left ∙ (ap (λ (k : ℕ). k + adds_in id (numbered_from (w + 1) (e + length b) bs)) first ∙ (ap (λ (k : ℕ). count_by (adds id) b + k) rest ∙ sym right))

pub adds_with : (h : History) (done : List Change) (id : ℕ) → adds_in id (numbered (with_changes h done)) ≡ count_by (adds id) (changes h ++ done)
adds_with h done id = from_adds id 1 0 (with_changes h done) ∙ ap (count_by (adds id)) (changes_with h done)

-- the life that an add begins is the one of the contract
numbered_life : History → List Change → Object → ℕ → Dated
numbered_life h done o count = record { object = o; life = 1 + count; added = next_version h; add_event = next_event h done; withdrawn = 0; withdraw_event = 0 }

pub life_begun : (h : History) (done : List Change) (o : Object) → life_of (numbered (with_changes h done)) (next_change h done (change.Add o)) o [] ≡ begun_life h done o
unfolding numbered_life
life_begun h done o = ap (numbered_life h done o) (adds_with h done o.id)

-- an empty batch
numbered_none : NumbersGrow → (h : History) → numbered (with_changes h []) ≡ numbered h
numbered_none numbers h = numbers h [] ∙ append-nil (numbered h)

pub begins_alike : NumbersGrow → (h : History) → BeginsAlike h
begins_alike numbers h = record {
  changes = changes_with h [] ∙ append-nil (changes h);
  lives = ap lives_in (numbered_none numbers h);
  entries = ap (λ (ns : List Numbered). entries_of (lives_in ns)) (numbered_none numbers h);
}
