-- A query of the trees that a space has.
use Rattle.std.proofs.Common.{◌≡◌, ℕ, ◌+◌, ◌*◌, ◌≤◌, true, false, Bool, IsTrue, List, length, Result, Ok, Err, IfOk, ℤ, sym, ◌∙◌, ap, subst}
use Rattle.bw_types.specs.Answers.{answer, answer_of}
use Rattle.bw_types.specs.Below.{below_at, integral_below}
use Rattle.bw_types.specs.History.{History, changes}
use Rattle.bw_types.specs.Residues.{residue}
use Rattle.bw_types.specs.declared.params.Params.{Params}
use Rattle.bw_types.specs.declared.query.Kind.{Kind}
use Rattle.bw_types.specs.declared.query.Query.{Query}
use Rattle.bw_types.specs.declared.tree.Tree.{Tree}
use Rattle.ports.specs.Pages.{PageMap}
use Rattle.dom_index.specs.declared.index.DomIndex.{Ghosts}
use Rattle.corner_forest.specs.Entries.{corner_count}
use Rattle.corner_forest.specs.Stands.{AreBalanced, ForestStands}
use Rattle.corner_forest.specs.declared.forest.Forest.{Forest}
use Rattle.history_laws.specs.Answers.{EntriesCountLive}
use Rattle.history_laws.specs.Entries.{history_entries}
use Rattle.corner_weights.specs.Planes.{plane_count}
use Rattle.corner_weights.specs.PlaneSums.{entered_below}
use Rattle.page_disk.specs.declared.disk.Disk.{Ghosts as DiskGhosts}
use Rattle.page_warehouse.specs.Costs.{below_cost, kind_cost, query_cost}
use Rattle.page_warehouse.specs.Holds.{Holds, HoldsTrees, TreesStand}
use Rattle.page_warehouse.specs.Shown.{HoldsHistory}
use Rattle.page_warehouse.proofs.Answered.{IsSmall}
use Rattle.page_warehouse.proofs.Opened.{for_queries}

-- what follows from a good answer holds of each
pub if_ok : {T E : Type 0} (P Q : T → Type 0) (r : Result T E) → ((v : T) → P v → Q v) → IfOk r P → IfOk r Q
if_ok P Q (Ok v) f p = f v p
if_ok P Q (Err e) f p = tt

module _ {X : Type 0} (g : Ghosts X) (params : Params) (map : PageMap) (roots : List Tree) (forest : Forest) (same : forest.params ≡ params) (trees : forest.roots.items ≡ roots) where
  -- the forest that is kept stands for the history
  pub forest_here : (h : History) → TreesStand g params map roots h → ForestStands g map forest.params forest.roots.items (history_entries h)
  forest_here h stand =
      subst (λ (rs : List Tree). ForestStands g map forest.params rs (history_entries h)) (sym trees)
      (subst (λ (p : Params). ForestStands g map p roots (history_entries h)) (sym same) stand.forest)

  pub balanced_here : (h : History) → TreesStand g params map roots h → AreBalanced g map forest.params forest.roots.items
  balanced_here h stand =
      subst (λ (rs : List Tree). AreBalanced g map forest.params rs) (sym trees)
      (subst (λ (p : Params). AreBalanced g map p roots) (sym same) stand.balanced)

  -- the answer of one kind, from what the forest gives
  pub answered : (of : Params → ℤ) (at : Params → History → ℕ → Query → ℤ) (kind : Kind) (h : History) (version : ℕ) (q : Query) (value : ℤ)
      → q.kind ≡ kind → answer_of kind ≡ at
      → of params ≡ at params h version q → value ≡ of forest.params → value ≡ answer params h version q
  answered of at kind h version q value is meaning given exact =
      let here : of forest.params ≡ at params h version q = subst (λ (p : Params). of p ≡ at params h version q) (sym same) given in
      exact ∙ (here ∙ (ap (λ (f : Params → History → ℕ → Query → ℤ). f params h version q) (sym meaning) ∙ ap (λ (k : Kind). answer_of k params h version q) (sym is)))

  -- what the forest gives is as small
  pub small_here : (of : Params → ℤ) → IsSmall (of params) → IsSmall (of forest.params)
  small_here of small = subst (λ (p : Params). IsSmall (of p)) (sym same) small

  -- what a query of this kind reads
  pub reads_at_most : (cost : ℕ → ℕ → ℕ) (h : History) (kind : Kind) (q : Query) (before after : ℕ) → length (history_entries h) ≡ length (changes h) → q.kind ≡ kind
      → after ≤ before + kind_cost cost forest.params (length (history_entries h)) kind → after ≤ before + query_cost cost params h q
  reads_at_most cost h kind q before after entries is most =
      subst (λ (k : Kind). after ≤ before + kind_cost cost params (length (changes h)) k) (sym is)
      (subst (λ (n : ℕ). after ≤ before + kind_cost cost params n kind) entries
      (subst (λ (p : Params). after ≤ before + kind_cost cost p (length (history_entries h)) kind) same most))

  -- what is below a corner, from what the forest gives
  pub below_given : EntriesCountLive → (h : History) (version : ℕ) (at : List ℕ) (value : ℕ)
      → value ≡ residue (entered_below forest.params at version (history_entries h)) → value ≡ residue (below_at params h version at)
  below_given live h version at value given =
      subst (λ (p : Params). value ≡ residue (entered_below p at version (history_entries h))) same given ∙ ap residue (live (integral_below params at) h version)

  -- what it reads
  pub below_at_most : (cost : ℕ → ℕ → ℕ) (h : History) (before after : ℕ) → length (history_entries h) ≡ length (changes h)
      → after ≤ before + plane_count forest.params * cost forest.params.dims (length (history_entries h) * corner_count forest.params)
      → after ≤ before + below_cost cost params h
  below_at_most cost h before after entries most =
      subst (λ (n : ℕ). after ≤ before + plane_count params * cost params.dims (n * corner_count params)) entries
      (subst (λ (p : Params). after ≤ before + plane_count p * cost p.dims (length (history_entries h) * corner_count p)) same most)

module _ {D X : Type 0} (d : DiskGhosts D) (g : Ghosts X) where
  -- a disk that holds a history, whole or not, holds it as far as queries read
  pub trees_of : (whole : Bool) (disk : D) (params : Params) (h : History) → HoldsHistory d g whole disk params h → IsTrue (d.tells disk) × HoldsTrees g (d.image disk) params h
  trees_of true disk params h held = (held.0, for_queries g (d.image disk) params h held.1)
  trees_of false disk params h held = held

  -- a disk with the same image holds the same history
  pub held_same : (whole : Bool) (old new : D) (params : Params) (h : History) → d.tells new ≡ d.tells old → d.image new ≡ d.image old → HoldsHistory d g whole old params h → HoldsHistory d g whole new params h
  held_same true old new params h tells image held = (tells ∙ held.0, subst (λ x. Holds g x params h) (sym image) held.1)
  held_same false old new params h tells image held = (tells ∙ held.0, subst (λ x. HoldsTrees g x params h) (sym image) held.1)
