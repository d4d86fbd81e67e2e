-- A line whose reply was written whole has its batch in the history that is sure.
use Rattle.std.proofs.Common.{◌≡◌, ◌⊎◌, ℕ, ◌+◌, Bool, IsTrue, List, [], ◌∷◌, ◌++◌, length, Option, None, Some, inl, inr, refl, sym, ◌∙◌, ap, subst, arith, length-append}
use Rattle.std.proofs.lemmas.List.{append_cancel_left}
use Rattle.bw_types.specs.History.{History}
use Rattle.bw_types.specs.Refusals.{first_refusal}
use Rattle.bw_types.specs.declared.params.Params.{Params}
use Rattle.bw_types.specs.declared.refusal.Refusal.{Refusal}
use Rattle.line_reader.specs.Lines.{lines}
use Rattle.csv_rows.specs.Input.{input}
use Rattle.csv_rows.specs.Machine.{State, commit_step, line_step, replied, replies, rows_of, state_after, step}
use Rattle.csv_rows.specs.declared.input.Input.{Input}
use Rattle.csv_rows.specs.declared.input.Input.TheVariants.{Stage, Commit, Drop, Ask}
use Rattle.warehouse.specs.declared.house.House.{Ghosts}
use Rattle.row_machine.specs.declared.ending.RunEnd.{RunEnd}
use Rattle.row_machine.specs.Housed.{GoesOnFrom}
use Rattle.row_machine.specs.Serving.{Ends}
use Rattle.row_machine.proofs.Housing.{after_goes_on, ask_history, goes_on_twice, stage_history}
use Rattle.row_machine.proofs.Lasting.{which_goes}
use Rattle.row_machine.proofs.Replies.{replies-append, state_after-append}

no_items : (xs : List ℕ) → length xs ≡ 0 → xs ≡ []
no_items [] e = refl
no_items (x ∷ xs) e = absurd (omega arith)

front_empty : (xs ys : List ℕ) → xs ++ ys ≡ [] → (xs ≡ []) × (ys ≡ [])
front_empty [] ys e = (refl, e)
front_empty (x ∷ xs) ys e = absurd (cc)

-- a line without a reply leaves the history
silent_commit : (s : State) (session : ℕ) (first : Option Refusal) → replied (commit_step s session first).reply ≡ [] → (commit_step s session first).state.history ≡ s.history
silent_commit s session (Some refusal) e = refl
silent_commit s session None e = absurd (cc)

silent_line : (params : Params) (n : ℕ) (s : State) (i : Option Input) → replied (line_step params n s i).reply ≡ [] → (line_step params n s i).state.history ≡ s.history
silent_line params n s None e = refl
silent_line params n s (Some (Stage session r)) e = stage_history n s session r
silent_line params n s (Some (Commit session)) e = silent_commit s session (first_refusal params s.history (rows_of s session)) e
silent_line params n s (Some (Drop session)) e = refl
silent_line params n s (Some (Ask version q)) e = ask_history params n s _ q

pub silent_lines : (params : Params) (n : ℕ) (s : State) (ls : List (List ℕ)) → replies params n s ls ≡ [] → (state_after params n s ls).history ≡ s.history
silent_lines params n s [] e = refl
silent_lines params n s (line ∷ ls) e =
    let parts = front_empty (replied (step params n s line).reply) (replies params (n + 1) (step params n s line).state ls) e in
    silent_lines params (n + 1) (step params n s line).state ls parts.1 ∙ silent_line params n s (input params line) parts.0

-- of two fronts of a list one goes on from the other
abbrev Longer : List (List ℕ) → List (List ℕ) → Type 0
Longer xs ys = (more : List (List ℕ)) × (ys ≡ xs ++ more)

fronts : (a b x y : List (List ℕ)) → a ++ x ≡ b ++ y → Longer a b ⊎ Longer b a
fronts [] b x y e = inl (b, refl)
fronts (a ∷ at) [] x y e = inr (a ∷ at, refl)
fronts (a ∷ at) (b ∷ bt) x y e =
    let same : a ≡ b = cc in
    let rest : at ++ x ≡ bt ++ y = cc in
    elim (fronts at bt x y rest) [
      | inl longer ↦ inl (longer.0, ap (λ (ls : List (List ℕ)). b ∷ ls) longer.1 ∙ ap (λ (l : List ℕ). l ∷ at ++ longer.0) (sym same))
      | inr longer ↦ inr (longer.0, ap (λ (ls : List (List ℕ)). a ∷ ls) longer.1 ∙ ap (λ (l : List ℕ). l ∷ bt ++ longer.0) same)
    ]

-- the history goes on with more lines
more_goes_on : (params : Params) (begin : State) (first more : List (List ℕ)) → GoesOnFrom (state_after params 1 begin first).history (state_after params 1 begin (first ++ more)).history
more_goes_on params begin first more =
    subst (λ (s : State). GoesOnFrom (state_after params 1 begin first).history s.history) (sym (state_after-append params 1 begin first more))
    (after_goes_on params (1 + length first) (state_after params 1 begin first) more)

-- lines of which all replies are among those of fewer lines, from the first on, leave the same history
no_more : (params : Params) (begin : State) (served more : List (List ℕ)) (after rest : List ℕ) → replies params 1 begin served ≡ (replies params 1 begin (served ++ more) ++ after) ++ rest
    → (state_after params 1 begin (served ++ more)).history ≡ (state_after params 1 begin served).history
no_more params begin served more after rest e =
    let later : List ℕ = replies params (1 + length served) (state_after params 1 begin served) more in
    let split : replies params 1 begin (served ++ more) ≡ replies params 1 begin served ++ later = replies-append params 1 begin served more in
    let len : length later ≡ 0 =
    omega (arith, ap length e, length-append (replies params 1 begin (served ++ more) ++ after) rest, length-append (replies params 1 begin (served ++ more)) after, ap length split, length-append (replies params 1 begin served) later) in
    ap (λ (s : State). s.history) (state_after-append params 1 begin served more) ∙ silent_lines params (1 + length served) (state_after params 1 begin served) more (no_items later len)

module _ {H D : Type 0} (g : Ghosts H D) where
  pub acknowledged : (whole tells tells' still : Bool) (params : Params) (begin : State) (input left : List ℕ) (before : D) (ran : RunEnd D) (written written' : List ℕ)
      → (e : Ends g whole tells tells' still params begin input left before ran written written') → IsTrue tells → IsTrue tells'
      → (first later : List (List ℕ)) (more : List ℕ) → lines input ≡ first ++ later → written' ≡ written ++ (replies params 1 begin first ++ more)
      → GoesOnFrom (state_after params 1 begin first).history e.sure
  acknowledged whole tells tells' still params begin input left before ran written written' e told told' first later more cut wrote =
      let part = e.wrote told told' in
      let out : part.out ≡ replies params 1 begin first ++ more = append_cancel_left written part.out (replies params 1 begin first ++ more) (sym part.wrote ∙ wrote) in
      let sure = which_goes (state_after params 1 begin e.served).history (state_after params 1 begin (e.served ++ e.begun)).history e.sure e.which (more_goes_on params begin e.served e.begun) in
      elim (fronts e.served first (e.begun ++ e.rest) later (sym e.cut ∙ cut)) [
        | inl longer ↦
            let same : (state_after params 1 begin first).history ≡ (state_after params 1 begin e.served).history =
            ap (λ (ls : List (List ℕ)). (state_after params 1 begin ls).history) longer.1
            ∙ no_more params begin e.served longer.0 more part.rest
            (part.part ∙ ap (λ (t : List ℕ). t ++ part.rest) (out ∙ ap (λ (ls : List (List ℕ)). replies params 1 begin ls ++ more) longer.1)) in
            subst (λ (h : History). GoesOnFrom h e.sure) (sym same) sure.0
        | inr longer ↦
            goes_on_twice _ _ _ (subst (λ (ls : List (List ℕ)). GoesOnFrom (state_after params 1 begin first).history (state_after params 1 begin ls).history) (sym longer.1) (more_goes_on params begin first longer.0)) sure.0
      ]
