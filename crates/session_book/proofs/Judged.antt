-- What is kept of a batch after one row more, and why that row is refused.
use Rattle.std.proofs.Common.{◌≡◌, ℕ, ◌+◌, Bool, true, false, ◌==◌, List, [], ◌∷◌, ◌++◌, if◌then◌else◌, nat_le, Option, Some, None, Result, Ok, Err, IfOk, OnOk, refl, sym, ◌∙◌, ap, subst, inl, inr, append_assoc, add-zero}
use Rattle.std.specs.Option.{option_or}
use Rattle.std.proofs.lemmas.Bool.{cases_Bool, eqb-true}
use Rattle.std.proofs.lemmas.List.Sums.{sum_by_push}
use Rattle.bw_types.specs.History.{flat_row}
use Rattle.bw_types.specs.Mass.{mass, mass_limit}
use Rattle.bw_types.specs.Refusals.{added_mass, total_mass, mass_refusal, row_refusal, is_live}
use Rattle.bw_types.specs.declared.params.Params.{Params}
use Rattle.bw_types.specs.declared.object.Object.{Object}
use Rattle.bw_types.specs.declared.change.Change.{Change}
use Rattle.bw_types.specs.declared.change.Change.TheVariants as change
use Rattle.bw_types.specs.declared.row.Row.{Row}
use Rattle.bw_types.specs.declared.row.Row.TheVariants.{Add, Withdraw, Move}
use Rattle.bw_types.specs.declared.refusal.Reason.{Reason}
use Rattle.bw_types.specs.declared.refusal.Reason.TheVariants as reason
use Rattle.session_book.specs.declared.seen.Life.{Life}
use Rattle.session_book.specs.declared.batch.Batch.{Batch}
use Rattle.session_book.specs.declared.standing.Standing.TheVariants.{Withdrawn, Fresh}
use Rattle.session_book.specs.Standing.{standing_after, standing_by, refusal_to_add, refusal_to_withdraw}
use Rattle.session_book.specs.Batch.{row_id, own, IsAfter, Marks}
use Rattle.session_book.specs.declared.standing.Standing.{Standing}
use Rattle.session_book.proofs.Standings.{standing-add-same, standing-add-other, standing-withdraw-same, standing-withdraw-other, is_live-accepted, withdrawal_refusal-is, add_refusal-is}

-- one change more
total_mass-push : (params : Params) (past staged : List Change) (c : Change) → total_mass params (past ++ (staged ++ c ∷ [])) ≡ total_mass params (past ++ staged) + added_mass params c
total_mass-push params past staged c = rw (← append_assoc past staged (c ∷ [])) (sum_by_push (added_mass params) (past ++ staged) c)

marked : (old new : Batch) (id other : ℕ) (fresh : Bool) → Marks old new id fresh → (id == other) ≡ true → own new other ≡ Some fresh
marked old new id other fresh marks same = marks other ∙ rw same refl

unmarked : (old new : Batch) (id other : ℕ) (fresh : Bool) → Marks old new id fresh → (id == other) ≡ false → own new other ≡ own old other
unmarked old new id other fresh marks differs = marks other ∙ rw differs refl

-- after an add
IsAfter-add : (params : Params) (told : ℕ → Life) (past staged : List Change) (old new : Batch) (o : Object) → IsAfter params told past staged old → Marks old new o.id true → new.mass ≡ old.mass + mass params o → IsAfter params told past (staged ++ change.Add o ∷ []) new
IsAfter-add params told past staged old new o after marks total = record {
  standings = λ id fits. elim (cases_Bool (o.id == id)) [
    | inl same ↦
        subst (λ k. standing_after past (staged ++ change.Add o ∷ []) k ≡ Fresh) (eqb-true o.id id same) (standing-add-same past staged o)
        ∙ ap (λ mark. standing_by mark (told id)) (sym (marked old new o.id id true marks same))
    | inr other ↦
        standing-add-other past staged o id other ∙ after.standings id fits
        ∙ ap (λ mark. standing_by mark (told id)) (sym (unmarked old new o.id id true marks other))
  ];
  total = total ∙ rw after.total (sym (total_mass-push params past staged (change.Add o)));
}

-- after a withdrawal of an id that was live
IsAfter-withdraw : (params : Params) (told : ℕ → Life) (past staged : List Change) (old new : Batch) (w : ℕ) → IsAfter params told past staged old → is_live w (past ++ staged) ≡ true → Marks old new w false → new.mass ≡ old.mass → IsAfter params told past (staged ++ change.Withdraw w ∷ []) new
IsAfter-withdraw params told past staged old new w after live marks total = record {
  standings = λ id fits. elim (cases_Bool (w == id)) [
    | inl same ↦
        subst (λ k. standing_after past (staged ++ change.Withdraw w ∷ []) k ≡ Withdrawn) (eqb-true w id same) (standing-withdraw-same past staged w live)
        ∙ ap (λ mark. standing_by mark (told id)) (sym (marked old new w id false marks same))
    | inr other ↦
        standing-withdraw-other past staged w id other ∙ after.standings id fits
        ∙ ap (λ mark. standing_by mark (told id)) (sym (unmarked old new w id false marks other))
  ];
  total = total ∙ rw after.total (sym (total_mass-push params past staged (change.Withdraw w) ∙ add-zero (total_mass params (past ++ staged))));
}

-- after a move
IsAfter-move : (params : Params) (told : ℕ → Life) (past staged : List Change) (old new : Batch) (o : Object) → IsAfter params told past staged old → Marks old new o.id true → new.mass ≡ old.mass + mass params o → IsAfter params told past (staged ++ change.Withdraw o.id ∷ change.Add o ∷ []) new
IsAfter-move params told past staged old new o after marks total =
    let withdrawn = staged ++ change.Withdraw o.id ∷ [] in
    let mass_is : total_mass params (past ++ (withdrawn ++ change.Add o ∷ [])) ≡ total_mass params (past ++ staged) + mass params o =
    total_mass-push params past withdrawn (change.Add o)
    ∙ ap (λ n. n + mass params o) (total_mass-push params past staged (change.Withdraw o.id) ∙ add-zero (total_mass params (past ++ staged))) in
    subst (λ cs. IsAfter params told past cs new) (append_assoc staged (change.Withdraw o.id ∷ []) (change.Add o ∷ [])) (record {
      standings = λ id fits. elim (cases_Bool (o.id == id)) [
        | inl same ↦
            subst (λ k. standing_after past (withdrawn ++ change.Add o ∷ []) k ≡ Fresh) (eqb-true o.id id same) (standing-add-same past withdrawn o)
            ∙ ap (λ mark. standing_by mark (told id)) (sym (marked old new o.id id true marks same))
        | inr other ↦
            standing-add-other past withdrawn o id other ∙ standing-withdraw-other past staged o.id id other ∙ after.standings id fits
            ∙ ap (λ mark. standing_by mark (told id)) (sym (unmarked old new o.id id true marks other))
      ];
      total = total ∙ rw after.total (sym mass_is);
    })

-- the mass of the batch is that of all objects added
mass_refusal-is : (params : Params) (told : ℕ → Life) (past staged : List Change) (old : Batch) (o : Object) → IsAfter params told past staged old → (if nat_le mass_limit (old.mass + mass params o) then Some reason.Mass else None) ≡ mass_refusal params (past ++ staged) o
mass_refusal-is params told past staged old o after = rw after.total refl

module _ (params : Params) (told : ℕ → Life) (past staged : List Change) (old new : Batch) (after : IsAfter params told past staged old) where
  -- an add that its id does not refuse
  pub add_judged : (o : Object) (why : Option Reason) → why ≡ (if nat_le mass_limit (old.mass + mass params o) then Some reason.Mass else None) → (why ≡ None → Marks old new o.id true) → (why ≡ None → new.mass ≡ old.mass + mass params o) → refusal_to_add (standing_after past staged o.id) ≡ None → (why ≡ row_refusal params past staged (Add o)) × (why ≡ None → IsAfter params told past (staged ++ flat_row (Add o)) new)
  add_judged o why is marks total accepted = (
    is ∙ mass_refusal-is params told past staged old o after ∙ ap (λ r. option_or r (mass_refusal params (past ++ staged) o)) (sym accepted)
        ∙ sym (add_refusal-is past staged o.id (mass_refusal params (past ++ staged) o)),
    λ none. IsAfter-add params told past staged old new o after (marks none) (total none),
  )

  -- a move that its id does not refuse
  pub move_judged : (o : Object) (why : Option Reason) → why ≡ (if nat_le mass_limit (old.mass + mass params o) then Some reason.Mass else None) → (why ≡ None → Marks old new o.id true) → (why ≡ None → new.mass ≡ old.mass + mass params o) → refusal_to_withdraw (standing_after past staged o.id) ≡ None → (why ≡ row_refusal params past staged (Move o)) × (why ≡ None → IsAfter params told past (staged ++ flat_row (Move o)) new)
  move_judged o why is marks total accepted = (
    is ∙ mass_refusal-is params told past staged old o after
        ∙ ap (λ r. option_or r (mass_refusal params (past ++ staged) o)) (sym (withdrawal_refusal-is past staged o.id ∙ accepted)),
    λ none. IsAfter-move params told past staged old new o after (marks none) (total none),
  )

  -- a withdrawal that its id does not refuse
  pub withdraw_judged : (id : ℕ) (why : Option Reason) → why ≡ None → Marks old new id false → new.mass ≡ old.mass → refusal_to_withdraw (standing_after past staged id) ≡ None → (why ≡ row_refusal params past staged (Withdraw id)) × (why ≡ None → IsAfter params told past (staged ++ flat_row (Withdraw id)) new)
  withdraw_judged id why is marks total accepted = (
    is ∙ sym (withdrawal_refusal-is past staged id ∙ accepted),
    λ none. IsAfter-withdraw params told past staged old new id after (is_live-accepted past staged id accepted) marks total,
  )

-- rows that their ids refuse
pub add_refused : (params : Params) (past staged : List Change) (o : Object) (why : Reason) → refusal_to_add (standing_after past staged o.id) ≡ Some why → Some why ≡ row_refusal params past staged (Add o)
add_refused params past staged o why refused =
    sym (add_refusal-is past staged o.id (mass_refusal params (past ++ staged) o) ∙ rw refused refl)

pub withdraw_refused : (params : Params) (past staged : List Change) (id : ℕ) (why : Reason) → refusal_to_withdraw (standing_after past staged id) ≡ Some why → Some why ≡ row_refusal params past staged (Withdraw id)
withdraw_refused params past staged id why refused = sym (withdrawal_refusal-is past staged id ∙ refused)

pub move_refused : (params : Params) (past staged : List Change) (o : Object) (why : Reason) → refusal_to_withdraw (standing_after past staged o.id) ≡ Some why → Some why ≡ row_refusal params past staged (Move o)
move_refused params past staged o why refused =
    sym (ap (λ r. option_or r (mass_refusal params (past ++ staged) o)) (withdrawal_refusal-is past staged o.id ∙ refused))

-- what `judge` says of a row whose id stands so
abbrev pub IsJudged : Params → Batch → Batch → Row → Standing → Option Reason → Type 0
IsJudged params old new row standing why =
    (told : ℕ → Life) (past staged : List Change) → IsAfter params told past staged old → standing ≡ standing_after past staged (row_id row)
    → (why ≡ row_refusal params past staged row) × (why ≡ None → IsAfter params told past (staged ++ flat_row row) new)

-- a refusal that depends on how the id stands, at what the row is
at_row : (f : Standing → Option Reason) (standing : Standing) (past staged : List Change) (row known : Row) (why : Option Reason) → row ≡ known → standing ≡ standing_after past staged (row_id row) → f standing ≡ why → f (standing_after past staged (row_id known)) ≡ why
at_row f standing past staged row known why is at refusal =
    sym (ap f (at ∙ ap (λ r. standing_after past staged (row_id r)) is)) ∙ refusal

judged_at : (params : Params) (told : ℕ → Life) (past staged : List Change) (new : Batch) (row known : Row) (why : Option Reason) → row ≡ known → (why ≡ row_refusal params past staged known) × (why ≡ None → IsAfter params told past (staged ++ flat_row known) new) → (why ≡ row_refusal params past staged row) × (why ≡ None → IsAfter params told past (staged ++ flat_row row) new)
judged_at params told past staged new row known why is judged =
    subst (λ r. (why ≡ row_refusal params past staged r) × (why ≡ None → IsAfter params told past (staged ++ flat_row r) new)) (sym is) judged

module _ {E : Type 0} (params : Params) (old new : Batch) (row : Row) (standing : Standing) where
  pub add_clause : (o : Object) (r : Result (Option Reason) E) → row ≡ Add o → refusal_to_add standing ≡ None
      → IfOk r (λ why. why ≡ (if nat_le mass_limit (old.mass + mass params o) then Some reason.Mass else None))
      → IfOk r (λ why. why ≡ None → Marks old new o.id true) → IfOk r (λ why. why ≡ None → new.mass ≡ old.mass + mass params o)
      → IfOk r (IsJudged params old new row standing)
  add_clause o (Ok why) is accepted reason_is marks total = λ told past staged after at.
      judged_at params told past staged new row (Add o) why is
      (add_judged params told past staged old new after o why reason_is marks total (at_row refusal_to_add standing past staged row (Add o) None is at accepted))
  add_clause o (Err e) is accepted reason_is marks total = tt

  pub move_clause : (o : Object) (r : Result (Option Reason) E) → row ≡ Move o → refusal_to_withdraw standing ≡ None
      → IfOk r (λ why. why ≡ (if nat_le mass_limit (old.mass + mass params o) then Some reason.Mass else None))
      → IfOk r (λ why. why ≡ None → Marks old new o.id true) → IfOk r (λ why. why ≡ None → new.mass ≡ old.mass + mass params o)
      → IfOk r (IsJudged params old new row standing)
  move_clause o (Ok why) is accepted reason_is marks total = λ told past staged after at.
      judged_at params told past staged new row (Move o) why is
      (move_judged params told past staged old new after o why reason_is marks total (at_row refusal_to_withdraw standing past staged row (Move o) None is at accepted))
  move_clause o (Err e) is accepted reason_is marks total = tt

  pub withdraw_clause : (id : ℕ) (r : Result (Option Reason) E) → row ≡ Withdraw id → refusal_to_withdraw standing ≡ None
      → IfOk r (λ why. why ≡ None) → OnOk r (Marks old new id false) → new.mass ≡ old.mass
      → IfOk r (IsJudged params old new row standing)
  withdraw_clause id (Ok why) is accepted reason_is marks total = λ told past staged after at.
      judged_at params told past staged new row (Withdraw id) why is
      (withdraw_judged params told past staged old new after id why reason_is marks total (at_row refusal_to_withdraw standing past staged row (Withdraw id) None is at accepted))
  withdraw_clause id (Err e) is accepted reason_is marks total = tt

refused_only : (params : Params) (told : ℕ → Life) (past staged : List Change) (new : Batch) (row : Row) (why : Reason) → Some why ≡ row_refusal params past staged row → (Some why ≡ row_refusal params past staged row) × (Some why ≡ None → IsAfter params told past (staged ++ flat_row row) new)
refused_only params told past staged new row why is = (is, λ none. cc)

module _ (params : Params) (old new : Batch) (row : Row) (standing : Standing) (why : Reason) where
  pub add_refused_clause : (o : Object) → row ≡ Add o → refusal_to_add standing ≡ Some why → IsJudged params old new row standing (Some why)
  add_refused_clause o is refused = λ told past staged after at.
      judged_at params told past staged new row (Add o) (Some why) is
      (refused_only params told past staged new (Add o) why (add_refused params past staged o why (at_row refusal_to_add standing past staged row (Add o) (Some why) is at refused)))

  pub withdraw_refused_clause : (id : ℕ) → row ≡ Withdraw id → refusal_to_withdraw standing ≡ Some why → IsJudged params old new row standing (Some why)
  withdraw_refused_clause id is refused = λ told past staged after at.
      judged_at params told past staged new row (Withdraw id) (Some why) is
      (refused_only params told past staged new (Withdraw id) why (withdraw_refused params past staged id why (at_row refusal_to_withdraw standing past staged row (Withdraw id) (Some why) is at refused)))

  pub move_refused_clause : (o : Object) → row ≡ Move o → refusal_to_withdraw standing ≡ Some why → IsJudged params old new row standing (Some why)
  move_refused_clause o is refused = λ told past staged after at.
      judged_at params told past staged new row (Move o) (Some why) is
      (refused_only params told past staged new (Move o) why (move_refused params past staged o why (at_row refusal_to_withdraw standing past staged row (Move o) (Some why) is at refused)))
