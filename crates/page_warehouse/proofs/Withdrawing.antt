-- A withdrawal that comes next.
use Rattle.std.proofs.Common.{◌≡◌, ℕ, List, [], ◌∷◌, ◌++◌, true, IsPermutation, Some, refl, sym, ◌∙◌, subst, arith}
use Rattle.std.proofs.lemmas.List.Sorted.{IsPermutation-sym}
use Rattle.bw_types.specs.Fits.{IsInRange}
use Rattle.bw_types.specs.History.{History}
use Rattle.bw_types.specs.Lawful.{IsLawful, IsLawfulBatch}
use Rattle.bw_types.specs.Lives.{lives}
use Rattle.bw_types.specs.declared.change.Change.{Change}
use Rattle.bw_types.specs.declared.change.Change.TheVariants as change
use Rattle.bw_types.specs.declared.dated.Dated.{Dated}
use Rattle.bw_types.specs.declared.params.Params.{Params}
use Rattle.object_table.specs.Edits.{CanWithdraw, with_withdrawal}
use Rattle.object_table.specs.Laws.{WithdrawnInAnyOrder}
use Rattle.object_table.specs.Lives.{last_life, table_pages}
use Rattle.object_table.specs.Stands.{TableStands}
use Rattle.object_table.specs.declared.form.Form.TheVariants.{ByLives}
use Rattle.ports.specs.Frame.{Replaces}
use Rattle.ports.specs.Pages.{PageMap}
use Rattle.corner_weights.specs.PlaneSums.{Entered}
use Rattle.dom_index.specs.declared.index.DomIndex.{Ghosts}
use Rattle.corner_forest.specs.Enters.{entry_of}
use Rattle.corner_forest.specs.Entries.{IsNextEntry}
use Rattle.history_laws.specs.Entries.{history_entries}
use Rattle.page_warehouse.specs.Begun.{next_event, next_version, with_changes}
use Rattle.page_warehouse.specs.Next.{WithdrawalGoesOn, WithdrawalsGoOn}
use Rattle.page_warehouse.specs.Entering.{PagesTell}
use Rattle.page_warehouse.specs.Waiting.{HasOneMore}
use Rattle.page_warehouse.specs.declared.roots.Roots.{Roots}
use Rattle.page_warehouse.proofs.Adding.{NextLaws}
use Rattle.page_warehouse.proofs.Next.{entry_is, last_told}
use Rattle.page_warehouse.proofs.Pages.{PageLaws, forest_stays, tells_beside}

module _ {X : Type 0} (g : Ghosts X) (laws : PageLaws g) (nexts : NextLaws) (ends : WithdrawalsGoOn) (any : WithdrawnInAnyOrder) (params : Params) (in_range : IsInRange params) (h : History) (done later : List Change) (es : List Entered) (id : ℕ)
    (lawful : IsLawful params h) (batch : IsLawfulBatch params h (done ++ change.Withdraw id ∷ later)) where
  pub goes : WithdrawalGoesOn params h done id
  goes = ends params h done later id in_range lawful batch

  -- the last life that the table tells is that of the history
  pub last_is : (pages : PageMap) (roots : Roots) → (keep : PagesTell g pages roots (with_changes h done) es) → last_life id keep.kept ≡ Some goes.last
  last_is pages roots keep = sym (last_told nexts.any nexts.greatest pages roots.table keep.kept (with_changes h done) id keep.stands keep.all) ∙ goes.found

  pub can_end : (pages : PageMap) (roots : Roots) → (keep : PagesTell g pages roots (with_changes h done) es) → (version : ℕ) → version ≡ next_version h → CanWithdraw id version keep.kept
  can_end pages roots keep version ver = record {
    last = goes.last;
    found = last_is pages roots keep;
    lives_on = goes.lives_on;
    earlier = let before = goes.earlier in omega (arith, before, ver);
  }

  pub next_is : (last : Dated) (event version : ℕ) → last ≡ goes.last → event ≡ next_event h done → version ≡ next_version h
      → IsNextEntry params (history_entries (with_changes h done)) (entry_of last.object true event version)
  next_is last event version is ev ver =
      entry_is params (history_entries (with_changes h done)) last.object true event (next_event h done) version (next_version h) ev ver
      (subst (λ (d : Dated). IsNextEntry params (history_entries (with_changes h done)) (entry_of d.object true (next_event h done) (next_version h))) (sym is) goes.next)

  -- the table tells the history with the withdrawal
  pub told_then : (before mid : PageMap) (old : Roots) → (keep : PagesTell g before old (with_changes h done) es) → (event version : ℕ) → event ≡ next_event h done → version ≡ next_version h
      → TableStands ByLives mid old.table (with_withdrawal id version event keep.kept) → table_pages ByLives mid old.table ≡ table_pages ByLives before old.table
      → Replaces (table_pages ByLives before old.table) (table_pages ByLives before old.table) before mid
      → PagesTell g mid old (with_changes h (done ++ change.Withdraw id ∷ [])) es
  told_then before mid old keep event version ev ver marked same moved =
      let h' : History = with_changes h (done ++ change.Withdraw id ∷ []) in
      let kept : List Dated = with_withdrawal id version event keep.kept in
      let ended : lives h' ≡ with_withdrawal id version event (lives (with_changes h done)) =
      goes.lives ∙ (λ i. with_withdrawal id (sym ver i) (sym ev i) (lives (with_changes h done))) in
      let others = any ByLives before old.table keep.kept (lives (with_changes h done)) id version event keep.stands (IsPermutation-sym keep.kept (lives (with_changes h done)) keep.all) (nexts.greatest (with_changes h done)) in
      let all : IsPermutation kept (lives h') =
      subst (λ (l : List Dated). IsPermutation kept l) (sym ended) (IsPermutation-sym (with_withdrawal id version event (lives (with_changes h done))) kept others) in
      let beside = forest_stays g laws old.forest.params before mid old.forest.roots.items es (table_pages ByLives before old.table) (table_pages ByLives mid old.table) keep.forest keep.balanced keep.apart
      (subst (λ (ps : List ℕ). Replaces (table_pages ByLives before old.table) ps before mid) (sym same) moved) in
      tells_beside g laws mid old old h' es refl kept marked all beside

  -- and its entry is one more
  pub one_more_entry : (last : Dated) (event version : ℕ) → last ≡ goes.last → event ≡ next_event h done → version ≡ next_version h
      → HasOneMore (history_entries (with_changes h done)) (history_entries (with_changes h (done ++ change.Withdraw id ∷ []))) (entry_of last.object true event version)
  one_more_entry last event version is ev ver = record {
    front = goes.before;
    back = goes.after;
    was = goes.entries;
    is = goes.entries_then ∙ (λ i. goes.before ++ entry_of (sym is i).object true (sym ev i) (sym ver i) ∷ goes.after);
  }
