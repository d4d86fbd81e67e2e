-- Rows of entries, one entry at a time.
use Rattle.std.proofs.Common.{◌≡◌, ℕ, suc, ◌+◌, ◌-◌, ◌*◌, ◌<◌, ◌≤◌, List, [], ◌∷◌, ◌++◌, drop, sym, ◌∙◌, append_assoc, append-nil, arith, All}
use Rattle.std.proofs.Math.Nat.{suc-mul}
use Rattle.std.proofs.lemmas.List.Elements.{All-push}
use Rattle.page_layout.specs.Entries.{entries_at}

pub next_so_far : {X : Type 0} (f : List ℕ → X) (size n : ℕ) (front new : List X) (x : X) (count i : ℕ) (bytes rest : List ℕ) (total : List X) → i < count
    → n ≡ size → new ≡ front ++ x ∷ [] → x ≡ f bytes → rest ≡ drop n bytes
    → front ++ entries_at f size (count - i) bytes ≡ total → new ++ entries_at f size (count - (i + 1)) rest ≡ total
unfolding entries_at
next_so_far f size n front new x count i bytes rest total lt is_size is_new is_x is_rest h =
    let k : count - i ≡ suc (count - (i + 1)) = omega arith in
    rw (is_new, is_x, is_rest, is_size) (append_assoc front (f bytes ∷ []) _ ∙ rw k at h)

pub next_typed : {X : Type 0} (P : X → Type 0) (front new : List X) (x : X) → new ≡ front ++ x ∷ [] → All P front → P x → All P new
next_typed P front new x is_new each one = rw is_new (All-push P front x each one)

pub next_room : (size n count i before after : ℕ) → i < count → n ≡ size → after + n ≡ before → (count - i) * size ≤ before → (count - (i + 1)) * size ≤ after
next_room size n count i before after lt is_size is_after h =
    let k : count - i ≡ suc (count - (i + 1)) = omega arith in
    let whole = rw (k, suc-mul) at h in
    omega arith

pub no_more : {X : Type 0} (f : List ℕ → X) (size : ℕ) (front : List X) (count i : ℕ) (bytes : List ℕ) (total : List X) → count ≤ i
    → front ++ entries_at f size (count - i) bytes ≡ total → front ≡ total
unfolding entries_at
no_more f size front count i bytes total le h =
    let k : count - i ≡ 0 = omega arith in
    sym (append-nil front) ∙ rw k at h
