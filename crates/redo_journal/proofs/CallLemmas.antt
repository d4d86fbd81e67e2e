-- Calls on a disk, one after another.
use Rattle.redo_journal.proofs.Common.{PageMap, IsInPlacing, ◌≡◌, ℕ, ◌+◌, ◌∙◌, Bool, true, false, List, [], ◌∷◌, Result, Ok, Err, OnOk, OnErr, ◌⊎◌, inl, inr, arith, refl, IsTrue, WentOn, Writes, TellsImage, Image, Moment, LeavesOnly, LeavesOnly-same}
use Rattle.page_disk.specs.declared.disk.Disk.{Ghosts}
use Rattle.redo_journal.proofs.RestLemmas.{HomesGo}

-- What follows from two facts of an answer.
pub on_both : {T E P Q R : Type 0} (r : Result T E) → (P → Q → R) → OnOk r P → OnOk r Q → OnOk r R
on_both (Ok x) both p q = both p q
on_both (Err e) both p q = tt

-- An answer is one of the two.
pub on_either : {T E P Q : Type 0} (r : Result T E) → OnErr r P → OnOk r Q → P ⊎ Q
on_either (Ok x) p q = inr q
on_either (Err e) p q = inl p

no_moments : (image : Image) (moments : List Moment) → TellsImage false image moments → moments ≡ []
no_moments image [] told = refl
no_moments image (m ∷ earlier) told = absurd cc

-- What is claimed of a disk's moments is claimed where its image is told.
where_told : (C : List Moment → List Moment → Type 0) (t : Bool) (before after : Image) (old new : List Moment)
    → TellsImage t before old → TellsImage t after new → C [] [] → (IsTrue t → C old new) → C old new
where_told C true before after old new a b none claim = claim refl
where_told C false before after old new a b none claim = rw (no_moments before old a, no_moments after new b) none

module _ {D : Type 0} (g : Ghosts D) where
  pub no_call : (disk : D) → WentOn g 0 disk disk
  no_call disk = record { tells = λ i. g.tells disk; reads = omega arith; at_most = omega arith; faults = λ i. g.faults disk }

  pub went_on : {T E : Type 0} {of_device : E → Bool} {x : T} {a b : ℕ} {first second third : D}
      → WentOn g a first second → Writes g of_device b second third (Ok x) → WentOn g (a + b) first third
  went_on f h = record { tells = h.tells ∙ f.tells; reads = omega arith; at_most = omega arith; faults = h.faults ∙ f.faults }

  module _ (law : (d : D) → TellsImage (g.tells d) (g.image d) (g.moments d)) {old new : D} (same : g.tells new ≡ g.tells old) where
    -- What is claimed of the moments of a disk is claimed where it tells its image.
    pub by_telling : {P : Image → Type 0} → (IsTrue (g.tells old) → LeavesOnly P (g.moments old) (g.moments new)) → LeavesOnly P (g.moments old) (g.moments new)
    by_telling {P} claim =
        where_told (LeavesOnly P) (g.tells old) (g.image old) (g.image new) (g.moments old) (g.moments new) (law old) (rw (← same) (law new)) (LeavesOnly-same P []) claim

    -- The same of what is pending as well.
    pub homes_by_telling : {images : PageMap} {start : Image} → (IsTrue (g.tells old) → HomesGo images start (g.moments old) (g.moments new))
        → HomesGo images start (g.moments old) (g.moments new)
    homes_by_telling {images} {start} claim =
        where_told (HomesGo images start) (g.tells old) (g.image old) (g.image new) (g.moments old) (g.moments new)
        (law old) (rw (← same) (law new)) (LeavesOnly-same (IsInPlacing images start) [], tt) claim
