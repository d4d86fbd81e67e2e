-- What a call on a stage promises of its answer, and what it forgets.
use Rattle.std.proofs.Common.{◌≡◌, ◌≢◌, ◌⊎◌, ℕ, ◌+◌, ◌<◌, ◌≤◌, List, IsSome, IsTrue, true, false, inl, inr, arith}
use Rattle.std.specs.Prelude.{Result, Ok, Err, OnOk, OnErr, IfOk, is_err}
use Rattle.std.proofs.lemmas.Bool.Decides.{nat_tests}
use Rattle.ports.specs.Calls.{Changes, IsForgotten, WentOn}
use Rattle.ports.specs.Pages.{PageMap, empty_map, put_page}
use Rattle.ports.specs.declared.pages.Pages.{Ghosts}

-- What an Ok promises holds where the answer is no error.
pub on_ok : {T E : Type 0} (r : Result T E) (P : Type 0) → is_err r ≡ false → OnOk r P → P
on_ok (Ok x) P fine h = h
on_ok (Err e) P fine h = cc

-- What an error promises holds where the answer is one.
pub on_err : {T E : Type 0} (r : Result T E) (P : Type 0) → is_err r ≡ true → OnErr r P → P
on_err (Ok x) P fails h = cc
on_err (Err e) P fails h = h

pub if_ok_join : {T E : Type 0} (r : Result T E) (A B C : T → Type 0) → IfOk r (λ x. A x × B x) → IfOk r C → IfOk r (λ x. A x × B x × C x)
if_ok_join (Ok x) A B C h k = (h.0, h.1, k)
if_ok_join (Err e) A B C h k = tt

-- The stage went on where this is so.
pub went : {P : Type 0} (g : Ghosts P) (most : ℕ) (old new : P) → g.tells new ≡ g.tells old → g.base new ≡ g.base old → g.limit new ≡ g.limit old
    → g.allotted old ≤ g.allotted new → g.allotted new ≤ g.allotted old + most → g.gets old ≤ g.gets new → g.faults old ≤ g.faults new
    → (IsTrue (g.tells old) → g.free_in_order old → g.free_in_order new)
    → (IsTrue (g.tells old) → g.free_in_order old → (page : ℕ) → IsForgotten g new page → IsForgotten g old page)
    → WentOn g most old new
went g most old new tells base limit more at_most gets faults order forgotten = record {
  tells = tells;
  base = base;
  limit = limit;
  free_in_order = order;
  none_forgotten = forgotten;
  allotted = more;
  at_most = at_most;
  gets = gets;
  faults = faults;
}

-- A call that is Ok was refused for nothing.
pub changes_ok : {P T : Type 0} (g : Ghosts P) (most : ℕ) (old new : P) (value : T) → WentOn g most old new → Changes g most old new (Ok value)
changes_ok g most old new value went_on = record { went_on = went_on; disk = λ e. absurd cc; page_limit = λ n e. absurd cc }

-- Images lie from the meta page on, below this number.
abbrev pub LieWithin : PageMap → ℕ → Type 0
LieWithin images most = (p : ℕ) → IsSome (images p) → (2 ≤ p) × (p < most)

-- Each page that is given out since has an image.
abbrev pub AreFresh : PageMap → ℕ → ℕ → Type 0
AreFresh images base most = (p : ℕ) → base ≤ p → p < most → IsSome (images p)

pub none_within : (images : PageMap) (most : ℕ) → images ≡ empty_map → LieWithin images most
none_within images most e p h = let none = rw e at h in cc

-- The image was put, or there was no memory and all is as before.
put_at : {T E : Type 0} (r : Result T E) (old new : PageMap) (page : ℕ) (bytes : List ℕ) → OnOk r (new ≡ put_page old page bytes) → OnErr r (new ≡ old)
    → (p : ℕ) → (new p ≡ put_page old page bytes p) ⊎ (new p ≡ old p)
put_at (Ok x) old new page bytes ok err p = inl (rw ok)
put_at (Err x) old new page bytes ok err p = inr (rw err)

pub put_fresh : {T E : Type 0} (r : Result T E) (old new : PageMap) (page : ℕ) (bytes : List ℕ) → OnOk r (new ≡ put_page old page bytes) → OnErr r (new ≡ old)
    → (base most : ℕ) → AreFresh old base most → AreFresh new base most
put_fresh r old new page bytes ok err base most fresh p low high = grind (arith, nat_tests, put_at r old new page bytes ok err p, fresh p low high)

pub put_within : {T E : Type 0} (r : Result T E) (old new : PageMap) (page : ℕ) (bytes : List ℕ) → OnOk r (new ≡ put_page old page bytes) → OnErr r (new ≡ old)
    → (most : ℕ) → 2 ≤ page → page < most → LieWithin old most → LieWithin new most
put_within r old new page bytes ok err most low high within p some = grind (arith, nat_tests, put_at r old new page bytes ok err p, within p)

-- Where nothing was put the images lie as before.
pub err_within : {T E : Type 0} (r : Result T E) (old new : PageMap) → is_err r ≡ true → OnErr r (new ≡ old)
    → (most : ℕ) → LieWithin old most → LieWithin new most
err_within r old new fails err most within = rw (on_err r (new ≡ old) fails err) within

-- The page that was put may be a new one.
pub fresh_more : (old new : PageMap) (page : ℕ) (image : List ℕ) (base m n : ℕ) → new ≡ put_page old page image
    → ((p : ℕ) → page ≢ p → p < n → p < m) → AreFresh old base m → AreFresh new base n
fresh_more old new page image base m n put only fresh p low high = rw put (grind (arith, nat_tests, only p, fresh p low))
