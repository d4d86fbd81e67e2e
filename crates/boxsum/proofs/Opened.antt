-- A run over a disk: what it begins with, and what follows from how serving ends.
use Rattle.std.proofs.Common.{◌≡◌, ◌≢◌, ◌⊎◌, ℕ, suc, ◌+◌, ◌≤◌, Bool, true, false, IsTrue, List, [], ◌∷◌, ◌++◌, length, inl, inr, refl, sym, ◌∙◌, ap, subst, append_assoc, arith}
use Rattle.std.proofs.lemmas.List.{append-nil, append_cancel_left, append_cancel_right}
use Rattle.bw_types.specs.History.{History}
use Rattle.bw_types.specs.declared.params.Params.{Params}
use Rattle.bw_types.specs.declared.row.Row.{Row}
use Rattle.line_reader.specs.Lines.{lines}
use Rattle.csv_rows.specs.Input.{input as input_of}
use Rattle.csv_rows.specs.Machine.{State, begun, replies, step}
use Rattle.page_disk.specs.Image.{Image, PageList}
use Rattle.page_disk.specs.Moment.{Moment, MayBeLeftNow, MayBeLeftSince, clock_of}
use Rattle.page_disk.specs.Since.{LeavesNow, LeavesOnly}
use Rattle.page_disk.specs.declared.disk.Disk.{Ghosts}
use Rattle.redo_journal.specs.Gates.{is_empty}
use Rattle.redo_journal.specs.Settled.{SettlesTo}
use Rattle.page_space.specs.Faults.{AtBadJournal, AtDamaged, AtEmpty}
use Rattle.page_space.specs.Opening.{StandsAlike}
use Rattle.page_space.specs.Settling.{IsBadAt}
use Rattle.page_space.specs.declared.refusal.OpenFault.{OpenFault}
use Rattle.page_space.specs.declared.refusal.OpenFault.TheVariants as fault
use Rattle.dom_index.specs.declared.index.DomIndex.{Ghosts as IndexGhosts}
use Rattle.page_warehouse.specs.Holds.{Holds, HoldsTrees}
use Rattle.page_warehouse.specs.Laws.{HoldsForQueries}
use Rattle.page_warehouse.specs.Needs.{LacksPages}
use Rattle.page_warehouse.specs.Shown.{HoldsHistory}
use Rattle.warehouse.specs.Crashes.{OnlyLeaves}
use Rattle.row_machine.specs.Ended.{AllMayBeServed, SilentLinesKeep}
use Rattle.row_machine.specs.Housed.{GoesOnFrom, rows_committed}
use Rattle.ports.specs.Written.{WritesPart}
use Rattle.row_machine.specs.Serving.{MayServe, NextIsVersion, lines_sum, lines_need, next_rows}
use Rattle.boxsum.specs.Held.{BeginsWith, HoldsBetween, HoldsFrom, IsRefusal, LeavesEach, Refuses}
use Rattle.boxsum.specs.Runs.{AreReplied, LacksPagesNext, history_by, state_by}
use Rattle.boxsum.specs.Statuses.{status_of_fault}
use Rattle.boxsum.specs.declared.status.Ran.{Ran}
use Rattle.boxsum.specs.declared.status.Status.{Status}
use Rattle.boxsum.specs.declared.status.Status.TheVariants.{DiskFault, NoMemory, Damaged}
use Rattle.boxsum.specs.declared.status.Status.TheVariants as status

pub goes_on_same : (h : History) → GoesOnFrom h h
goes_on_same h = record { later = []; goes_on = sym (append-nil h) }

pub goes_on_twice : (a b c : History) → GoesOnFrom a b → GoesOnFrom b c → GoesOnFrom a c
goes_on_twice a b c f g = record {
  later = f.later ++ g.later;
  goes_on = g.goes_on ∙ (ap (λ (t : History). t ++ g.later) f.goes_on ∙ append_assoc a f.later g.later);
}

-- where nothing was written, a part of any text was
pub writes_nothing : (written text : List ℕ) → WritesPart written written text
writes_nothing written text = record { out = []; rest = text; wrote = sym (append-nil written); part = refl }

pub goes_with : (read taken left other : List ℕ) → read ≡ taken ++ left → read ≡ other ++ left → taken ≡ other
goes_with read taken left other a b = append_cancel_right taken other left (sym a ∙ b)

-- what an opening answers is a cause to refuse
refusal : (at_fault : Image → ℕ → Type 0) (x : Image) (told : Type 0) → told → (f : OpenFault) → AtEmpty f (told → is_empty x ≡ true) → AtBadJournal f (λ page. told → IsBadAt x page)
    → AtDamaged f (λ page. told → at_fault x page) → IsRefusal at_fault x (status_of_fault f)
refusal at_fault x told t fault.Disk empty bad damaged = tt
refusal at_fault x told t fault.Empty empty bad damaged = empty t
refusal at_fault x told t (fault.Damaged page) empty bad damaged = damaged t
refusal at_fault x told t fault.NoMemory empty bad damaged = tt
refusal at_fault x told t (fault.BadJournal page) empty bad damaged = bad t

-- a disk that was not opened is refused
pub refuses : {D : Type 0} (g : Ghosts D) (at_fault : Image → ℕ → Type 0) (old : D) (f : OpenFault) (ran : Ran D) → IsTrue (g.tells old) → ran.status ≡ status_of_fault f
    → AtEmpty f (IsTrue (g.tells old) → is_empty (g.image old) ≡ true) → AtBadJournal f (λ page. IsTrue (g.tells old) → IsBadAt (g.image old) page)
    → AtDamaged f (λ page. IsTrue (g.tells old) → at_fault (g.image old) page)
    → ((pages : PageList) → SettlesTo (g.image old) pages → LeavesOnly (λ x. SettlesTo x pages) (g.moments old) (g.moments ran.disk))
    → (f ≢ fault.Disk → IsTrue (g.tells old) → StandsAlike (g.image old) (g.image ran.disk))
    → (f ≢ fault.Disk → IsTrue (g.tells old) → LeavesNow (g.moments ran.disk) (g.image ran.disk))
    → Refuses g at_fault old ran
refuses g at_fault old f ran told is empty bad damaged moments stands left = record {
  cause = subst (λ (s : Status). IsRefusal at_fault (g.image old) s) (sym is) (refusal at_fault (g.image old) (IsTrue (g.tells old)) told f empty bad damaged);
  moments = moments;
  stands = λ other. stands (λ e. other (is ∙ ap status_of_fault e)) told;
  left = λ other x now. inr (left (λ e. other (is ∙ ap status_of_fault e)) told x now);
}

module _ {D X : Type 0} (g : Ghosts D) (i : IndexGhosts X) where
  -- a run begins with what the disk holds, whole or as far as queries read
  pub some_way : AllMayBeServed → (told : Bool) (d : D) (input : List ℕ) (params : Params) (h : History) → BeginsWith g i d told input params h
      → (whole : Bool) × (MayServe whole params (lines input) × HoldsHistory g i whole d params h)
  some_way may told d input params h b = elim b [
    | inl held ↦ (true, (may params (lines input), held))
    | inr w ↦ (false, (w.1, w.2))
  ]

  pub for_queries : HoldsForQueries i → (whole : Bool) (d : D) (params : Params) (h : History) → HoldsHistory g i whole d params h → IsTrue (g.tells d) × HoldsTrees i (g.image d) params h
  for_queries law true d params h held = (held.0, law (g.image d) params h held.1)
  for_queries law false d params h held = held

  -- an opened warehouse stands for what the disk held
  pub opened : (whole : Bool) (d new : D) (read params : Params) (h : History)
      → ((p : Params) (k : History) → IsTrue (g.tells d) → Holds i (g.image d) p k → (read ≡ p) × Holds i (g.image new) p k)
      → ((p : Params) (k : History) → IsTrue (g.tells d) → HoldsTrees i (g.image d) p k → (read ≡ p) × HoldsTrees i (g.image new) p k)
      → g.tells new ≡ g.tells d → HoldsHistory g i whole d params h → (read ≡ params) × HoldsHistory g i whole new params h
  opened true d new read params h holds trees same held =
      let r = holds params h held.0 held.1 in (r.0, (same ∙ held.0, r.1))
  opened false d new read params h holds trees same held =
      let r = trees params h held.0 held.1 in (r.0, (same ∙ held.0, r.1))

  -- a disk that holds a history is refused only where the device fails or there is no memory
  pub refused_status : (f : OpenFault) (s : Status) → s ≡ status_of_fault f → (f ≡ fault.Disk) ⊎ (f ≡ fault.NoMemory) → (s ≡ DiskFault) ⊎ (s ≡ NoMemory)
  refused_status f s is why = elim why [
    | inl disk ↦ inl (is ∙ ap status_of_fault disk)
    | inr memory ↦ inr (is ∙ ap status_of_fault memory)
  ]

pub not_damaged : (s : Status) (area : _) (page : ℕ) → (s ≡ DiskFault) ⊎ (s ≡ NoMemory) → s ≢ Damaged area page
not_damaged s area page why = λ e. elim why [
  | inl disk ↦ (let no : DiskFault ≡ Damaged area page = sym disk ∙ e in cc)
  | inr memory ↦ (let no : NoMemory ≡ Damaged area page = sym memory ∙ e in cc)
]

pub only_memory : (s : Status) → (s ≡ DiskFault) ⊎ (s ≡ NoMemory) → s ≢ DiskFault → (s ≡ status.Fine) ⊎ (s ≡ NoMemory)
only_memory s why other = elim why [ inl disk ↦ absurd (other disk) | inr memory ↦ inr memory ]

-- Where nothing was written, no line that was replied committed.
pub nothing_replied : SilentLinesKeep → (params : Params) (h : History) (input written : List ℕ) (first : List (List ℕ)) → AreReplied params h input written written first → history_by params h first ≡ h
nothing_replied silent params h input written first r =
    let none : List ℕ = replies params 1 (begun h) first in
    let all : none ++ r.more ≡ [] = append_cancel_left written (none ++ r.more) [] (sym r.wrote ∙ sym (append-nil written)) in
    silent params 1 (begun h) first (front_of_nothing none r.more all)
  where
    front_of_nothing : (xs ys : List ℕ) → xs ++ ys ≡ [] → xs ≡ []
    front_of_nothing [] ys e = refl
    front_of_nothing (x ∷ xs) ys e = absurd (cc)

-- Images, over any index.
module _ {X : Type 0} (i : IndexGhosts X) where
  pub from_here : (params : Params) (h : History) (x : Image) → Holds i x params h → HoldsFrom i params h x
  from_here params h x holds = record { kept = h; holds = holds; begins = goes_on_same h }

  pub between_here : (params : Params) (h last : History) (x : Image) → GoesOnFrom h last → Holds i x params h → HoldsBetween i params h last x
  between_here params h last x within holds = record { kept = h; holds = holds; begins = goes_on_same h; within = within }

  pub between_by : (params : Params) (h first last : History) (x : Image) → first ≡ h → HoldsBetween i params h last x → HoldsBetween i params first last x
  between_by params h first last x same b = subst (λ (k : History). HoldsBetween i params k last x) (sym same) b

  -- between a later history and the last
  pub between_later : (params : Params) (first sure last : History) (x : Image) → GoesOnFrom first sure → HoldsBetween i params sure last x → HoldsBetween i params first last x
  between_later params first sure last x later b = record { kept = b.kept; holds = b.holds; begins = goes_on_twice first sure b.kept later b.begins; within = b.within }

  pub from_later : (params : Params) (first sure : History) (x : Image) → GoesOnFrom first sure → HoldsFrom i params sure x → HoldsFrom i params first x
  from_later params first sure x later b = record { kept = b.kept; holds = b.holds; begins = goes_on_twice first sure b.kept later b.begins }

-- where the image alone may be left, each image that may be left has what it has
pub settled_has : (P : Image → Type 0) (moments : List Moment) (image : Image) → LeavesNow moments image → P image → LeavesEach P moments
settled_has P moments image only has = λ x left. subst P (sym (only x left)) has

-- What may be left now may have been left at any moment since the clock's own time, and the other way round.
now_is_since : (moments : List Moment) (t : ℕ) (x : Image) → MayBeLeftNow moments x → MayBeLeftSince moments t x
now_is_since [] t x now = absurd now
now_is_since (m ∷ earlier) t x now = inl now

since_is_now : (moments : List Moment) (x : Image) → MayBeLeftSince moments (clock_of moments) x → MayBeLeftNow moments x
since_is_now [] x since = absurd since
since_is_now (m ∷ earlier) x since = elim since [ inl now ↦ now | inr w ↦ absurd (let late : suc (clock_of earlier) ≤ clock_of earlier = w.0 in omega arith) ]

-- what may be left at the end of a stretch might have been left at its beginning, or it has P
pub left_only : (P : Image → Type 0) (old new : List Moment) (x : Image) → LeavesOnly P old new → MayBeLeftNow new x → MayBeLeftNow old x ⊎ P x
left_only P old new x only now = elim (only.each (clock_of old) x (let n : ℕ = clock_of old in omega arith) (now_is_since new (clock_of old) x now)) [
  | inl before ↦ inl (since_is_now old x before)
  | inr has ↦ inr has
]

-- Stretches of calls.
pub wider : (P Q : Image → Type 0) (old new : List Moment) → ((x : Image) → P x → Q x) → LeavesOnly P old new → LeavesOnly Q old new
wider P Q old new step f = record {
  later = f.later;
  each = λ t x le left. elim (f.each t x le left) [ inl before ↦ inl before | inr has ↦ inr (step x has) ];
}

pub stretched : (P Q R : Image → Type 0) (first second third : List Moment) → ((x : Image) → P x → R x) → ((x : Image) → Q x → R x)
    → LeavesOnly P first second → OnlyLeaves clock_of MayBeLeftSince Q second third → LeavesOnly R first third
stretched P Q R first second third p q f s = record {
  later = let a : clock_of first ≤ clock_of second = f.later in
      let b : clock_of second ≤ clock_of third = s.later in omega arith;
  each = λ t x le left.
      let within : t ≤ clock_of second = let a : clock_of first ≤ clock_of second = f.later in omega arith in
      elim (s.each t x within left) [
        | inl before ↦ elim (f.each t x le before) [ inl old ↦ inl old | inr has ↦ inr (p x has) ]
        | inr has ↦ inr (q x has)
      ];
}

-- What the first lines ask for is at most what all do.
sum_within : (part : ℕ → State → List ℕ → ℕ) (params : Params) (n : ℕ) (s : State) (first more : List (List ℕ)) → lines_sum part params n s first ≤ lines_sum part params n s (first ++ more)
sum_within part params n s [] more = omega arith
sum_within part params n s (line ∷ first) more =
    let rest : lines_sum part params (n + 1) (step params n s line).state first ≤ lines_sum part params (n + 1) (step params n s line).state (first ++ more) =
    sum_within part params (n + 1) (step params n s line).state first more in
    omega arith

pub need_within : (need : Params → History → List Row → ℕ) (params : Params) (s : State) (all served begins rest : List (List ℕ)) → all ≡ served ++ (begins ++ rest)
    → lines_need need params 1 s (served ++ begins) ≤ lines_need need params 1 s all
need_within need params s all served begins rest cut =
    subst (λ (ls : List (List ℕ)). lines_need need params 1 s (served ++ begins) ≤ lines_need need params 1 s ls)
    (append_assoc served begins rest ∙ sym cut)
    (sum_within _ params 1 s (served ++ begins) rest)

-- the commit that comes next
pub lacks_next : {X : Type 0} (i : IndexGhosts X) (params : Params) (h : History) (input : List ℕ) (x : Image) (told told' : Bool) (written written' : List ℕ) (allotted : ℕ) (served begins rest : List (List ℕ)) (sure : History)
    → lines input ≡ served ++ (begins ++ rest) → (IsTrue told → IsTrue told' → written' ≡ written ++ replies params 1 (begun h) served)
    → NextIsVersion params (1 + length served) (state_by params h served) begins → sure ≡ history_by params h served → Holds i x params sure → allotted ≡ params.pages
    → LacksPages x params sure (next_rows params (state_by params h served) begins) → LacksPagesNext i params h input x told told' written written' allotted
lacks_next i params h input x told told' written written' allotted served [] rest sure cut wrote accepted is holds limit lacks = absurd accepted
lacks_next i params h input x told told' written written' allotted served (line ∷ more) rest sure cut wrote accepted is holds limit lacks = record {
  amid = record {
    served = served;
    line = line;
    rest = more ++ rest;
    cut = cut;
    accepted = accepted;
    kept = subst (λ (k : History). Holds i x params k) is holds;
    limit = limit;
    lacks = subst (λ (k : History). LacksPages x params k (rows_committed (state_by params h served) (input_of params line))) is lacks;
  };
  wrote = wrote;
}
