-- In a lawful history each withdrawal is of an id that is live.
use Rattle.std.proofs.Common.{◌≡◌, ℕ, ◌+◌, Bool, true, false, ◌&&◌, not, List, [], ◌∷◌, ◌++◌, Option, Some, None, is_none, map, refl, sym, ◌∙◌, ap, subst, append_assoc, if◌then◌else◌}
use Rattle.std.proofs.lemmas.Bool.{not-false}
use Rattle.std.proofs.lemmas.List.{append-nil}
use Rattle.std.proofs.lemmas.List.Concat.{flat_map-append}
use Rattle.std.specs.Option.{option_or, option_map}
use Rattle.bw_types.specs.History.{History, changes}
use Rattle.bw_types.specs.Lawful.{AreLawfulAfter, IsLawful, as_row, staged_rows}
use Rattle.bw_types.specs.Refusals.{first_refusal, first_refused_row, is_live, refused_at, row_refusal, was_added}
use Rattle.bw_types.specs.declared.change.Change.{Change}
use Rattle.bw_types.specs.declared.change.Change.TheVariants as change
use Rattle.bw_types.specs.declared.params.Params.{Params}
use Rattle.bw_types.specs.declared.refusal.Reason.TheVariants.{Fresh, Unknown, Gone, Events}
use Rattle.history_laws.specs.Lawful.{StagingChangesNoRefusal}

-- if the change is a withdrawal, its id is live after the earlier changes
abbrev pub EndsOneLive : List Change → Change → Type 0
EndsOneLive earlier (change.Add o) = Unit {0}
EndsOneLive earlier (change.Withdraw id) = is_live id earlier ≡ true

-- each withdrawal is of an id that is live after the changes before it
abbrev pub EndLive : List Change → List Change → Type 0
EndLive earlier [] = Unit {0}
EndLive earlier (c ∷ cs) = EndsOneLive earlier c × EndLive (earlier ++ c ∷ []) cs

end_append : (earlier cs ds : List Change) → EndLive earlier cs → EndLive (earlier ++ cs) ds → EndLive earlier (cs ++ ds)
end_append earlier [] ds a b = subst (λ (es : List Change). EndLive es ds) (append-nil earlier) b
end_append earlier (c ∷ cs) ds a b = (a.0, end_append (earlier ++ c ∷ []) cs ds a.1 (subst (λ (es : List Change). EndLive es ds) (sym (append_assoc earlier (c ∷ []) cs)) b))

-- what is not there
first_none : {X : Type 0} (o p : Option X) → option_or o p ≡ None → o ≡ None
first_none None p e = refl
first_none (Some x) p e = absurd (cc)

second_none : {X : Type 0} (o p : Option X) → option_or o p ≡ None → p ≡ None
second_none None p e = e
second_none (Some x) p e = absurd (cc)

mapped_none : {X Y : Type 0} (f : X → Y) (o : Option X) → option_map f o ≡ None → o ≡ None
mapped_none f None e = refl
mapped_none f (Some x) e = absurd (cc)

untested : {X : Type 0} (b : Bool) (x : X) (o : Option X) → (if b then Some x else o) ≡ None → (b ≡ false) × (o ≡ None)
untested true x o e = absurd (cc)
untested false x o e = (refl, e)

is_nothing : {X : Type 0} (o : Option X) → is_none o ≡ true → o ≡ None
is_nothing None e = refl
is_nothing (Some x) e = absurd (let no : false ≡ true = e in cc)

-- a withdrawal without a refusal
one_ends : (params : Params) (past batch : List Change) (c : Change) → row_refusal params past batch (as_row c) ≡ None → EndsOneLive (past ++ batch) c
one_ends params past batch (change.Add o) e = tt
one_ends params past batch (change.Withdraw id) e =
    let fresh = untested (is_live id (past ++ batch) && was_added id batch) Fresh _ e in
    let unknown = untested (not (was_added id (past ++ batch))) Unknown _ fresh.1 in
    let gone = untested (not (is_live id (past ++ batch))) Gone None unknown.1 in
    not-false _ gone.0

batch_ends : (params : Params) (past batch : List Change) (place : ℕ) (cs : List Change) → first_refused_row params past batch place (map as_row cs) ≡ None → EndLive (past ++ batch) cs
batch_ends params past batch place [] e = tt
batch_ends params past batch place (change.Add o ∷ cs) e = (
  tt,
  subst (λ (es : List Change). EndLive es cs) (sym (append_assoc past batch (change.Add o ∷ [])))
      (batch_ends params past (batch ++ change.Add o ∷ []) (place + 1) cs (second_none _ _ e)),
)
batch_ends params past batch place (change.Withdraw id ∷ cs) e = (
  one_ends params past batch (change.Withdraw id) (mapped_none (refused_at place) _ (first_none _ _ e)),
  subst (λ (es : List Change). EndLive es cs) (sym (append_assoc past batch (change.Withdraw id ∷ [])))
      (batch_ends params past (batch ++ change.Withdraw id ∷ []) (place + 1) cs (second_none _ _ e)),
)

history_ends : StagingChangesNoRefusal → (params : Params) (before h : History) → AreLawfulAfter params before h → EndLive (changes before) (changes h)
history_ends law params before [] l = tt
history_ends law params before (b ∷ bs) l =
    let none = (law params before b).1 (is_nothing (first_refusal params before (staged_rows b)) l.0.accepted) in
    let rows = (untested _ (refused_at 0 Events) _ none).1 in
    let own : EndLive (changes before) b = subst (λ (es : List Change). EndLive es b) (append-nil (changes before)) (batch_ends params (changes before) [] 1 b rows) in
    let with_batch : changes (before ++ b ∷ []) ≡ changes before ++ b = flat_map-append (λ (c : List Change). c) before (b ∷ []) ∙ ap (λ (cs : List Change). changes before ++ cs) (append-nil b) in
    end_append (changes before) b (changes bs) own (subst (λ (es : List Change). EndLive es (changes bs)) with_batch (history_ends law params (before ++ b ∷ []) bs l.1))

pub lawful_ends : StagingChangesNoRefusal → (params : Params) (h : History) → IsLawful params h → EndLive [] (changes h)
lawful_ends law params h l = history_ends law params [] h l
