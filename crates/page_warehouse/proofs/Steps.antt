-- Calls that keep a history, one after another.
use Rattle.std.proofs.Common.{◌≡◌, ℕ, ◌+◌, ◌≤◌, IsTrue, Result, Ok, Err, OnOk, List, [], ◌∷◌, ◌++◌, sym, ap, subst, arith, append_assoc, length-append}
use Rattle.bw_types.specs.History.{History}
use Rattle.bw_types.specs.Lawful.{IsLawfulBatch}
use Rattle.bw_types.specs.declared.change.Change.{Change}
use Rattle.bw_types.specs.declared.params.Params.{Params}
use Rattle.ports.specs.Calls.{Changes, WentOn}
use Rattle.ports.specs.Pages.{PageMap}
use Rattle.ports.specs.declared.page.StageFault.{StageFault}
use Rattle.ports.specs.declared.page.StageFault.TheVariants.{Damaged}
use Rattle.ports.specs.declared.pages.Pages.{Ghosts as PageGhosts}
use Rattle.dom_index.specs.declared.index.DomIndex.{Ghosts}
use Rattle.page_warehouse.specs.Begun.{next_event, with_changes}
use Rattle.page_warehouse.specs.Entering.{KeepsOn, PagesWait}
use Rattle.page_warehouse.specs.declared.roots.Roots.{Roots}
use Rattle.corner_forest.specs.declared.entry.Entry.{Entry as Waiting}
use Rattle.page_warehouse.proofs.Exits.{exit_error}
use Rattle.page_warehouse.proofs.Stages.{changes_then, refused}

module _ {P : Type 0} (s : PageGhosts P) where
  pub widened : {T : Type 0} (a c : ℕ) (old new : P) (r : Result T StageFault) → a ≤ c → Changes s a old new r → Changes s c old new r
  widened a c old new r le h = record {
    went_on = let w = h.went_on in record {
      tells = w.tells;
      base = w.base;
      limit = w.limit;
      free_in_order = w.free_in_order;
      none_forgotten = w.none_forgotten;
      allotted = w.allotted;
      at_most = let m = w.at_most in omega (arith, m, le);
      gets = w.gets;
      faults = w.faults;
    };
    disk = h.disk;
    page_limit = λ n e. let l = h.page_limit n e in let third = l.2 in (l.0, l.1, omega (arith, third, le));
  }

  -- a call is refused for what it called
  pub keeps_refused : {T U : Type 0} (a c : ℕ) (old new : P) (q : Result U StageFault) (fault : StageFault) (Q R : Type 0)
      → ((y : StageFault) × (q ≡ Err y) × (y ≡ fault)) → a ≤ c → KeepsOn {T = T} s a old new (Err fault) Q → KeepsOn s c old new q R
  keeps_refused {T} a c old new q fault Q R told le h = record {
    changes = refused s c old new q fault told (widened a c old new (Err fault) le h.changes);
    sound = λ order page asked. let same = exit_error q fault (Damaged page) told asked in h.sound order page (ap (λ (f : StageFault). Err f) same);
    left = let is = told.1 in subst (λ r. OnOk r R) (sym is) tt;
  }

  -- a call is Ok where what it called is
  pub keeps_ok : {T U : Type 0} (a c : ℕ) (old new : P) (v : T) (w : U) (Q R : Type 0) → a ≤ c → (Q → R) → KeepsOn s a old new (Ok v) Q → KeepsOn s c old new (Ok w) R
  keeps_ok a c old new v w Q R le f h = record {
    changes = record { went_on = (widened a c old new (Ok v) le h.changes).went_on; disk = λ e. cc; page_limit = λ n e. cc };
    sound = λ order page asked. cc;
    left = f h.left;
  }

  -- one call after another
  pub keeps_then : {T : Type 0} (a b c : ℕ) (old mid new : P) (r : Result T StageFault) (R : Type 0) → IsTrue (s.tells old) → WentOn s a old mid → a + b ≤ c
      → KeepsOn s b mid new r R → KeepsOn s c old new r R
  keeps_then a b c old mid new r R tells went le h = record {
    changes = changes_then s a b c old mid new r went h.changes le;
    sound = λ order page asked. h.sound (went.free_in_order tells order) page asked;
    left = h.left;
  }

-- two changes one by one, and both together
pub batch_on : (params : Params) (h : History) (done later : List Change) (c : Change) → IsLawfulBatch params h (done ++ c ∷ later) → IsLawfulBatch params h ((done ++ c ∷ []) ++ later)
batch_on params h done later c batch = subst (λ (l : List Change). IsLawfulBatch params h l) (sym (append_assoc done (c ∷ []) later)) batch

pub event_on : (h : History) (done : List Change) (c : Change) (event : ℕ) → event ≡ next_event h done → event + 1 ≡ next_event h (done ++ c ∷ [])
event_on h done c event ev = let long = length-append done (c ∷ []) in omega (arith, ev, long)

pub waits_on : {X : Type 0} (g : Ghosts X) (pages : PageMap) (roots : Roots) (version : ℕ) (h : History) (done : List Change) (c d : Change) (waiting : List Waiting)
    → PagesWait g pages roots version (with_changes h ((done ++ c ∷ []) ++ d ∷ [])) waiting → PagesWait g pages roots version (with_changes h (done ++ (c ∷ d ∷ []))) waiting
waits_on g pages roots version h done c d waiting keep = subst (λ (l : List Change). PagesWait g pages roots version (with_changes h l) waiting) (append_assoc done (c ∷ []) (d ∷ [])) keep
