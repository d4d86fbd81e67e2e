-- What a change of one entry makes of the entries.
use Rattle.std.proofs.Common.{◌≡◌, ◌≢◌, ℕ, ◌+◌, ◌<◌, ◌≤◌, ◌⊎◌, inl, inr, Bool, true, false, ◌&&◌, cond, nat_le, List, [], ◌∷◌, ◌++◌, length, get_or, Option, Some, None, refl, sym, ap, ◌∙◌, subst, arith}
use Rattle.std.specs.Prelude.{slice_set}
use Rattle.std.specs.List.{All, sum_by}
use Rattle.std.proofs.lemmas.Bool.{cases_lt, true≢false}
use Rattle.std.proofs.lemmas.List.Elements.{All-cons, All-nil, All-head, All-tail}
use Rattle.std.proofs.lemmas.List.Sums.{sum_by-cons, sum_by-append}
use Rattle.page_layout.specs.declared.mv_node.MvEntry.{MvEntry}
use Rattle.mv_pages.specs.Alive.{is_alive, reaches, or_later, child_reached, path_child, is_alive_from, alive_one, alive_count, IsPastOf}
use Rattle.mv_pages.specs.Edits.{closed, put_in, IsChanged}
use Rattle.mv_pages.proofs.Found.{read_there, set_there}
use Rattle.mv_pages.proofs.Order.{Before, before_low, before_start, Ordered, All-swap, All-right, All-both, All-at, ordered-swap, lows_before, lows_after}
use Rattle.mv_pages.proofs.Paths.{path-append, or_later-none}
use Rattle.mv_pages.proofs.Putting.{put_sum, put_all, put_ordered, put_past, put_path-dead, put_path}
use Rattle.mv_pages.proofs.Reaching.{alive-open, alive-within, alive-early, alive-over, reaches-dead, from-alive, from-dead}

pub in_place : (shown items new before after : List MvEntry) (index v : ℕ) (e x d : MvEntry) → shown ≡ items → items ≡ before ++ (e ∷ after) → length before ≡ index
    → (get_or shown index d).start ≡ v → new ≡ slice_set items index x → IsChanged before e after v x new
in_place shown items new before after index v e x d same whole at start made =
    let read : get_or shown index d ≡ e = ap (λ (l : List MvEntry). get_or l index d) (same ∙ whole) ∙ ap (λ (i : ℕ). get_or (before ++ (e ∷ after)) i d) (sym at) ∙ read_there before e after d in
    let set : slice_set items index x ≡ before ++ (x ∷ after) = ap (λ (l : List MvEntry). slice_set l index x) whole ∙ ap (λ (i : ℕ). slice_set (before ++ (e ∷ after)) i x) (sym at) ∙ set_there before e x after in
    inl (ap (λ (y : MvEntry). y.start) (sym read) ∙ start, made ∙ set)

pub by_copy : (shown items replaced new before after : List MvEntry) (index v : ℕ) (e x y d : MvEntry) → shown ≡ items → items ≡ before ++ (e ∷ after) → length before ≡ index
    → (get_or shown index d).start ≢ v → y ≡ closed (get_or shown index d) v → replaced ≡ slice_set items index y → new ≡ put_in x replaced → IsChanged before e after v x new
by_copy shown items replaced new before after index v e x y d same whole at start close made put =
    let read : get_or shown index d ≡ e = ap (λ (l : List MvEntry). get_or l index d) (same ∙ whole) ∙ ap (λ (i : ℕ). get_or (before ++ (e ∷ after)) i d) (sym at) ∙ read_there before e after d in
    let set : slice_set items index y ≡ before ++ (y ∷ after) = ap (λ (l : List MvEntry). slice_set l index y) whole ∙ ap (λ (i : ℕ). slice_set (before ++ (e ∷ after)) i y) (sym at) ∙ set_there before e y after in
    let shut : y ≡ closed e v = close ∙ ap (λ (z : MvEntry). closed z v) read in
    let late : e.start ≢ v = subst (λ (z : MvEntry). z.start ≢ v) read start in
    inr (late, put ∙ ap (put_in x) (made ∙ set ∙ ap (λ (z : MvEntry). before ++ (z ∷ after)) shut))

pub read_at : (shown items before after : List MvEntry) (index : ℕ) (e d : MvEntry) → shown ≡ items → items ≡ before ++ (e ∷ after) → length before ≡ index → get_or shown index d ≡ e
read_at shown items before after index e d same whole at =
    ap (λ (l : List MvEntry). get_or l index d) (same ∙ whole) ∙ ap (λ (i : ℕ). get_or (before ++ (e ∷ after)) i d) (sym at) ∙ read_there before e after d

-- An entry that is alive and not past its version is open.
pub alive_is_open : (v : ℕ) (e : MvEntry) → v < 4294967295 → IsPastOf v e → is_alive v e ≡ true → e.end ≡ 4294967295
alive_is_open v e last past alive = elim past.1 [
  | inl o ↦ o
  | inr over ↦ absurd (true≢false (sym alive ∙ alive-over v e over (omega (arith, over, last))))
]

-- The entry may be changed to the other at the version.
pub record CanChange (before : List MvEntry) (e : MvEntry) (after : List MvEntry) (v : ℕ) (x : MvEntry) : Type 0 where
  pub order : Ordered (before ++ (e ∷ after))
  pub past : All (IsPastOf v) (before ++ (e ∷ after))
  pub lives : All (λ y. y.start < y.end) (before ++ (e ∷ after))
  pub once : (low : ℕ) → alive_count (before ++ (e ∷ after)) v low ≤ 1
  pub last : v < 4294967295
  pub stays : e.end ≡ 4294967295
  pub low : x.low ≡ e.low
  pub starts : x.start ≡ v
  pub ends : x.end ≡ 4294967295

pub started : (before : List MvEntry) (e : MvEntry) (after : List MvEntry) (v : ℕ) (x : MvEntry) → CanChange before e after v x → e.start ≤ v
started before e after v x can = let p : IsPastOf v e = All-at (IsPastOf v) before e after can.past in p.0

pub changed_all : (P : MvEntry → Type 0) (before : List MvEntry) (e : MvEntry) (after : List MvEntry) (v : ℕ) (x : MvEntry) (new : List MvEntry) → IsChanged before e after v x new
    → All P (before ++ (e ∷ after)) → P x → (e.start ≢ v → P (closed e v)) → All P new
changed_all P before e after v x new (inl c) all here shut = subst (All P) (sym c.1) (All-swap P before e x after all here)
changed_all P before e after v x new (inr c) all here shut = subst (All P) (sym c.1) (put_all P x (before ++ (closed e v ∷ after)) (All-swap P before e (closed e v) after all (shut c.0)) here)

pub sum_swap : (f : MvEntry → ℕ) (before : List MvEntry) (e x : MvEntry) (after : List MvEntry) → sum_by f (before ++ (x ∷ after)) + f e ≡ sum_by f (before ++ (e ∷ after)) + f x
sum_swap f before e x after =
    omega (arith, sum_by-append f before (x ∷ after), sum_by-append f before (e ∷ after), sum_by-cons f x after, sum_by-cons f e after)

-- A sum after a change, where the first part of the closed entry and the copy together give what is wanted.
pub changed_sum : (f : MvEntry → ℕ) (before : List MvEntry) (e : MvEntry) (after : List MvEntry) (v : ℕ) (x : MvEntry) (new : List MvEntry) → IsChanged before e after v x new
    → ((e.start ≡ v) × (sum_by f new + f e ≡ sum_by f (before ++ (e ∷ after)) + f x))
    ⊎ ((e.start ≢ v) × (sum_by f new + f e ≡ sum_by f (before ++ (e ∷ after)) + (f (closed e v) + f x)))
changed_sum f before e after v x new (inl c) =
    let s = ap (sum_by f) c.1 in
    inl (c.0, (let t : sum_by f new + f e ≡ sum_by f (before ++ (e ∷ after)) + f x = omega (arith, s, sum_swap f before e x after) in t))
changed_sum f before e after v x new (inr c) =
    let s = ap (sum_by f) c.1 in
    let p = put_sum f x (before ++ (closed e v ∷ after)) in
    inr (c.0, (let t : sum_by f new + f e ≡ sum_by f (before ++ (e ∷ after)) + (f (closed e v) + f x) = omega (arith, s, p, sum_swap f before e (closed e v) after) in t))

is_none_here : (v low : ℕ) (x : MvEntry) → IsPastOf v x → alive_one v low x ≡ 0 → x.low ≡ low → x.end ≤ v
is_none_here v low x past none same = elim past.1 [
  | inl o ↦
      let alive : is_alive_from v low x ≡ true = from-alive v low x same (alive-open v x past.0 o) in
      let one : alive_one v low x ≡ 1 = rw alive refl in
      absurd (omega (arith, one, none))
  | inr over ↦ over
]

-- Where none is alive that begins at a low, those that begin there are closed.
pub all_closed : (v low : ℕ) (xs : List MvEntry) → All (IsPastOf v) xs → alive_count xs v low ≡ 0 → All (λ x. x.low ≡ low → x.end ≤ v) xs
all_closed v low [] past none = All-nil (λ (x : MvEntry). x.low ≡ low → x.end ≤ v)
all_closed v low (x ∷ xs) past none =
    let f : MvEntry → ℕ = alive_one v low in
    let sum = sum_by-cons f x xs in
    let first : f x ≡ 0 = omega (arith, sum, none) in
    let rest : alive_count xs v low ≡ 0 = omega (arith, sum, none) in
    All-cons (λ (x : MvEntry). x.low ≡ low → x.end ≤ v) x xs (is_none_here v low x (All-head (IsPastOf v) x xs past) first) (all_closed v low xs (All-tail (IsPastOf v) x xs past) rest)

-- Once the entry is closed, none is alive that begins at its low.
pub none_left : (before : List MvEntry) (e : MvEntry) (after : List MvEntry) (v : ℕ) (x : MvEntry) → CanChange before e after v x
    → alive_count (before ++ (closed e v ∷ after)) v e.low ≡ 0
none_left before e after v x can =
    let f : MvEntry → ℕ = alive_one v e.low in
    let alive : is_alive_from v e.low e ≡ true = from-alive v e.low e refl (alive-open v e (started before e after v x can) can.stays) in
    let one : f e ≡ 1 = rw alive refl in
    let dead : is_alive_from v e.low (closed e v) ≡ false = from-dead v e.low (closed e v) (alive-over v (closed e v) (omega arith) can.last) in
    let no : f (closed e v) ≡ 0 = rw dead refl in
    omega (arith, sum_swap f before e (closed e v) after, one, no, can.once e.low)

-- what has begun at or below a low stands before an entry of the low that starts when all of those are closed
pub all_before : (v : ℕ) (x : MvEntry) (xs : List MvEntry) → x.start ≡ v → All (λ y. y.start < y.end) xs → All (λ y. y.low ≡ x.low → y.end ≤ v) xs → All (λ y. y.low ≤ x.low → Before y x) xs
all_before v x xs starts lives shut = All-both (λ y. y.start < y.end) (λ y. y.low ≡ x.low → y.end ≤ v) (λ y. y.low ≤ x.low → Before y x) xs
    (λ y life over le. elim (cases_lt y.low x.low) [
      | inl less ↦ before_low y x less
      | inr not_less ↦
          let same : y.low ≡ x.low = omega (arith, le, not_less) in
          before_start y x same (omega (arith, life, over same, starts))
    ]) lives shut

pub changed_order : (before : List MvEntry) (e : MvEntry) (after : List MvEntry) (v : ℕ) (x : MvEntry) (new : List MvEntry) → CanChange before e after v x → IsChanged before e after v x new → Ordered new
changed_order before e after v x new can (inl c) = subst Ordered (sym c.1) (ordered-swap before e x after can.low (can.starts ∙ sym c.0) can.order)
changed_order before e after v x new can (inr c) =
    let l : List MvEntry = before ++ (closed e v ∷ after) in
    let begun = started before e after v x can in
    let order : Ordered l = ordered-swap before e (closed e v) after refl refl can.order in
    let past : All (IsPastOf v) l = All-swap (IsPastOf v) before e (closed e v) after can.past (begun, inr (omega arith)) in
    let lives : All (λ y. y.start < y.end) l = All-swap (λ y. y.start < y.end) before e (closed e v) after can.lives (omega (arith, begun, c.0)) in
    let none : alive_count l v x.low ≡ 0 = ap (alive_count l v) can.low ∙ none_left before e after v x can in
    subst Ordered (sym c.1) (put_ordered x l order (all_before v x l can.starts lives (all_closed v x.low l past none)))

path_swap : (q w : ℕ) (before : List MvEntry) (e x : MvEntry) (after : List MvEntry) → child_reached q w x ≡ child_reached q w e
    → path_child (before ++ (x ∷ after)) q w ≡ path_child (before ++ (e ∷ after)) q w
path_swap q w before e x after same =
    path-append before (x ∷ after) q w ∙ ap (λ (o : Option ℕ). or_later (path_child before q w) (or_later o (path_child after q w))) same ∙ sym (path-append before (e ∷ after) q w)

pub child-dead : (q w : ℕ) (x : MvEntry) → is_alive w x ≡ false → child_reached q w x ≡ None
child-dead q w x dead = let r = reaches-dead q w x dead in rw r refl

pub closed_alive : (w v : ℕ) (e : MvEntry) → w < v → e.end ≡ 4294967295 → is_alive w (closed e v) ≡ is_alive w e
closed_alive w v e early stays = elim (cases_lt w e.start) [
  | inl not_yet ↦ alive-early w (closed e v) not_yet ∙ sym (alive-early w e not_yet)
  | inr begun ↦ alive-within w (closed e v) begun early ∙ sym (alive-open w e begun stays)
]

pub closed_reaches : (q w v : ℕ) (e : MvEntry) → w < v → e.end ≡ 4294967295 → reaches q w (closed e v) ≡ reaches q w e
closed_reaches q w v e early stays = ap (λ (b : Bool). nat_le e.low q && b) (closed_alive w v e early stays)

-- The past keeps its paths.
pub changed_path-early : (before : List MvEntry) (e : MvEntry) (after : List MvEntry) (v : ℕ) (x : MvEntry) (new : List MvEntry) → CanChange before e after v x → IsChanged before e after v x new
    → (q w : ℕ) → w < v → path_child new q w ≡ path_child (before ++ (e ∷ after)) q w
changed_path-early before e after v x new can (inl c) q w early =
    let none : child_reached q w x ≡ None = child-dead q w x (alive-early w x (omega (arith, early, can.starts))) in
    let was : child_reached q w e ≡ None = child-dead q w e (alive-early w e (omega (arith, early, c.0))) in
    ap (λ (l : List MvEntry). path_child l q w) c.1 ∙ path_swap q w before e x after (none ∙ sym was)
changed_path-early before e after v x new can (inr c) q w early =
    let none : child_reached q w x ≡ None = child-dead q w x (alive-early w x (omega (arith, early, can.starts))) in
    let same : child_reached q w (closed e v) ≡ child_reached q w e = ap (λ (b : Bool). cond b (Some e.child) None) (closed_reaches q w v e early can.stays) in
    ap (λ (l : List MvEntry). path_child l q w) c.1 ∙ put_path-dead q w x (before ++ (closed e v ∷ after)) none ∙ path_swap q w before e (closed e v) after same

-- From the version on, a path goes by what the entry has become in its place.
pub changed_path-late : (before : List MvEntry) (e : MvEntry) (after : List MvEntry) (v : ℕ) (x : MvEntry) (new : List MvEntry) → CanChange before e after v x → IsChanged before e after v x new
    → (q w : ℕ) → v ≤ w → path_child new q w ≡ or_later (path_child before q w) (or_later (child_reached q w x) (path_child after q w))
changed_path-late before e after v x new can (inl c) q w late = ap (λ (l : List MvEntry). path_child l q w) c.1 ∙ path-append before (x ∷ after) q w
changed_path-late before e after v x new can (inr c) q w late =
    let l : List MvEntry = before ++ (closed e v ∷ after) in
    let begun = started before e after v x can in
    let past : All (IsPastOf v) l = All-swap (IsPastOf v) before e (closed e v) after can.past (begun, inr (omega arith)) in
    let none : alive_count l v x.low ≡ 0 = ap (alive_count l v) can.low ∙ none_left before e after v x can in
    let shut : All (λ y. y.low ≡ x.low → y.end ≤ v) (closed e v ∷ after) = All-right (λ y. y.low ≡ x.low → y.end ≤ v) before (closed e v ∷ after) (all_closed v x.low l past none) in
    let above : All (λ y. e.low ≤ y.low) (closed e v ∷ after) = All-cons (λ y. e.low ≤ y.low) (closed e v) after (omega arith) (lows_after before e after can.order) in
    let dead : All (λ y. y.low ≤ x.low → child_reached q w y ≡ None) (closed e v ∷ after) =
    All-both (λ y. y.low ≡ x.low → y.end ≤ v) (λ y. e.low ≤ y.low) (λ y. y.low ≤ x.low → child_reached q w y ≡ None) (closed e v ∷ after)
    (λ y over from le.
    let same : y.low ≡ x.low = omega (arith, from, le, can.low) in
    let ended = over same in
    child-dead q w y (alive-over w y (omega (arith, ended, late)) (omega (arith, ended, can.last)))) shut above in
    let lows : All (λ y. y.low ≤ x.low) before = subst (λ (n : ℕ). All (λ (y : MvEntry). y.low ≤ n) before) (sym can.low) (lows_before before e after can.order) in
    let gone : child_reached q w (closed e v) ≡ None = child-dead q w (closed e v) (alive-over w (closed e v) late can.last) in
    let tail : path_child (closed e v ∷ after) q w ≡ path_child after q w = ap (λ (o : Option ℕ). or_later o (path_child after q w)) gone ∙ or_later-none (path_child after q w) in
    ap (λ (l : List MvEntry). path_child l q w) (c.1 ∙ put_past x before (closed e v ∷ after) lows)
    ∙ path-append before (put_in x (closed e v ∷ after)) q w
    ∙ ap (or_later (path_child before q w)) (put_path q w x (closed e v ∷ after) dead ∙ ap (or_later (child_reached q w x)) tail)

-- Where the entry leads to the same child, all paths stay.
pub changed_path : (before : List MvEntry) (e : MvEntry) (after : List MvEntry) (v : ℕ) (x : MvEntry) (new : List MvEntry) → CanChange before e after v x → IsChanged before e after v x new → x.child ≡ e.child
    → (q w : ℕ) → path_child new q w ≡ path_child (before ++ (e ∷ after)) q w
changed_path before e after v x new can c same q w = elim (cases_lt w v) [
  | inl early ↦ changed_path-early before e after v x new can c q w early
  | inr late ↦
      let begun = started before e after v x can in
      let alive : is_alive w x ≡ is_alive w e = alive-open w x (omega (arith, late, can.starts)) can.ends ∙ sym (alive-open w e (omega (arith, late, begun)) can.stays) in
      let reach : reaches q w x ≡ reaches q w e = ap (λ (n : ℕ). nat_le n q && is_alive w x) can.low ∙ ap (λ (b : Bool). nat_le e.low q && b) alive in
      let child : child_reached q w x ≡ child_reached q w e = ap (λ (n : ℕ). cond (reaches q w x) (Some n) None) same ∙ ap (λ (b : Bool). cond b (Some e.child) None) reach in
      changed_path-late before e after v x new can c q w late
      ∙ ap (λ (o : Option ℕ). or_later (path_child before q w) (or_later o (path_child after q w))) child
      ∙ sym (path-append before (e ∷ after) q w)
]
