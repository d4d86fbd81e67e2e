-- A warehouse whose disk is as it was, and what a crash may leave after a batch.
use Rattle.std.proofs.Common.{◌≡◌, ◌⊎◌, ℕ, Bool, IsTrue, List, [], ◌∷◌, inl, inr, sym, ap, subst, arith}
use Rattle.bw_types.specs.History.{History}
use Rattle.bw_types.specs.declared.params.Params.{Params}
use Rattle.page_disk.specs.Image.{Image}
use Rattle.page_disk.specs.Moment.{Moment, MayBeLeftNow, MayBeLeftSince, clock_of}
use Rattle.page_disk.specs.Since.{LeavesOnly, SinceNowIsNow}
use Rattle.page_disk.specs.declared.disk.Disk.{Ghosts as DiskGhosts}
use Rattle.page_space.specs.Begun.{Begun}
use Rattle.page_space.specs.Shown.{begun_of, disk_of, params_of}
use Rattle.page_space.specs.declared.space.Space.{Space}
use Rattle.dom_index.specs.declared.index.DomIndex.{Ghosts}
use Rattle.warehouse.specs.Committed.{IfDone, IfKept, IfPageLimit}
use Rattle.warehouse.specs.Crashes.{OnlyLeaves}
use Rattle.warehouse.specs.Left.{IsAsBefore}
use Rattle.warehouse.specs.declared.committed.Committed.{Committed}
use Rattle.warehouse.specs.declared.committed.Committed.TheVariants.{Done, Refused, PageLimit, NoMemory, Damaged, Disk}
use Rattle.page_warehouse.specs.Holds.{IsByLives}
use Rattle.page_warehouse.specs.Needs.{charge_of}
use Rattle.page_warehouse.specs.Shown.{HasNewForm, HoldsHistory, disk_charge, disk_in, params_in, space_in}
use Rattle.page_warehouse.specs.declared.state.Warehouse.{Warehouse}
use Rattle.page_warehouse.proofs.Queried.{held_same}

module _ {D X : Type 0} {d : DiskGhosts D} (g : Ghosts X) where
  pub held_alike : (whole : Bool) (old new : Space D d) (params : Params) (h : History) → begun_of new ≡ begun_of old → HoldsHistory d g whole (disk_of old) params h → HoldsHistory d g whole (disk_of new) params h
  held_alike whole old new params h same held = held_same d g whole (disk_of old) (disk_of new) params h (ap (λ (b : Begun). b.tells) same) (ap (λ (b : Begun). b.image) same) held

  -- under its own params
  pub held_own : (whole : Bool) (old new : Space D d) (h : History) → begun_of new ≡ begun_of old → HoldsHistory d g whole (disk_of old) (params_of old) h → HoldsHistory d g whole (disk_of new) (params_of new) h
  held_own whole old new h same held =
      subst (λ (p : Params). HoldsHistory d g whole (disk_of new) p h) (sym (ap (λ (b : Begun). b.params) same)) (held_alike whole old new (params_of old) h same held)

module _ {D X : Type 0} {d : DiskGhosts D} {g : Ghosts X} where
  -- a warehouse over a space that is as before
  pub as_before : (old new : Warehouse D X d g) → begun_of (space_in new) ≡ begun_of (space_in old)
      → IsAsBefore params_in disk_in (HoldsHistory d g) (HasNewForm d) d.tells d.image d.moments (disk_charge d) old new
  as_before old new same = record {
    params = ap (λ (b : Begun). b.params) same;
    stands = λ whole h held. held_alike g whole (space_in old) (space_in new) (params_in old) h same held;
    current = λ had told. subst (λ (x : Image). IsByLives x) (sym (ap (λ (b : Begun). b.image) same)) (had (subst IsTrue (ap (λ (b : Begun). b.tells) same) told));
    tells = ap (λ (b : Begun). b.tells) same;
    image = ap (λ (b : Begun). b.image) same;
    moments = ap (λ (b : Begun). b.moments) same;
    charge = ap (λ (b : Begun). charge_of b.image) same;
  }

pub only_leaves : (P Q : Image → Type 0) (old new : List Moment) → ((x : Image) → P x → Q x) → LeavesOnly P old new → OnlyLeaves clock_of MayBeLeftSince Q old new
only_leaves P Q old new f h = record {
  later = h.later;
  each = λ t x le left. elim (h.each t x le left) [
    | inl before ↦ inl before
    | inr p ↦ inr (f x p)
  ];
}

left_since : (moments : List Moment) (t : ℕ) (x : Image) → MayBeLeftNow moments x → MayBeLeftSince moments t x
left_since [] t x never = absurd never
left_since (m ∷ earlier) t x now = inl now

-- what may be left now was possible before, or has P
pub left_now : (P K : Image → Type 0) (old new : List Moment) → SinceNowIsNow → LeavesOnly P old new → ((x : Image) → MayBeLeftNow old x → K x) → (x : Image) → MayBeLeftNow new x → K x ⊎ P x
left_now P K old new law h settled x now = elim (h.each (clock_of old) x (omega arith) (left_since new (clock_of old) x now)) [
  | inl before ↦ inl (settled x (law old x before))
  | inr p ↦ inr p
]

module _ {H D : Type 0} where
  pub both_done : (r : Committed H D) (P Q R : H → ℕ → Type 0) → ((house : H) (version : ℕ) → P house version → Q house version → R house version) → IfDone r P → IfDone r Q → IfDone r R
  both_done (Done house version) P Q R f p q = f house version p q
  both_done (Refused house refusal) P Q R f p q = tt
  both_done (PageLimit house allotted) P Q R f p q = tt
  both_done (NoMemory house) P Q R f p q = tt
  both_done (Damaged house page) P Q R f p q = tt
  both_done (Disk device) P Q R f p q = tt

  pub both_at_limit : (r : Committed H D) (P : H → Type 0) (Q R S : H → ℕ → Type 0) → ((house : H) (allotted : ℕ) → P house → Q house allotted → R house allotted → S house allotted)
      → IfKept r P → IfPageLimit r Q → IfPageLimit r R → IfPageLimit r S
  both_at_limit (Done house version) P Q R S f p q t = tt
  both_at_limit (Refused house refusal) P Q R S f p q t = tt
  both_at_limit (PageLimit house allotted) P Q R S f p q t = f house allotted p q t
  both_at_limit (NoMemory house) P Q R S f p q t = tt
  both_at_limit (Damaged house page) P Q R S f p q t = tt
  both_at_limit (Disk device) P Q R S f p q t = tt

  -- what is so of each history is so where the limit is met
  pub limit_each : (r : Committed H D) (S : History → Type 0) (Q : History → H → ℕ → Type 0) → ((h : History) → S h → IfPageLimit r (Q h)) → IfPageLimit r (λ house allotted. (h : History) → S h → Q h house allotted)
  limit_each (Done house version) S Q each = tt
  limit_each (Refused house refusal) S Q each = tt
  limit_each (PageLimit house allotted) S Q each = each
  limit_each (NoMemory house) S Q each = tt
  limit_each (Damaged house page) S Q each = tt
  limit_each (Disk device) S Q each = tt
