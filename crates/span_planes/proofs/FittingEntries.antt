-- The entries of a lawful history keep the rules: their objects fit, and their event numbers are few.
use Rattle.std.proofs.Common.{◌≡◌, ℕ, ◌+◌, ◌<◌, ◌≤◌, ◌^◌, true, false, ◌==◌, List, [], ◌∷◌, ◌++◌, length, inl, inr, arith, length-append, cond, Some, if◌then◌else◌}
use Rattle.std.specs.List.{All, list_all}
use Rattle.std.specs.Option.{option_map_or}
use Rattle.std.proofs.lemmas.Bool.{and_parts, cases_Bool}
use Rattle.std.proofs.lemmas.List.Elements.{All-append, All-cons, All-nil}
use Rattle.bw_types.specs.Fits.{object_fits, row_fits}
use Rattle.bw_types.specs.History.{History, changes, event_count, withdraws}
use Rattle.bw_types.specs.Lawful.{AreLawfulAfter, IsLawful, staged_rows}
use Rattle.bw_types.specs.Lives.{Numbered, begun_life, lives, lives_after, numbered, numbered_batch, numbered_from, withdrawal_of}
use Rattle.bw_types.specs.declared.change.Change.{Change}
use Rattle.bw_types.specs.declared.change.Change.TheVariants as change
use Rattle.bw_types.specs.declared.dated.Dated.{Dated}
use Rattle.bw_types.specs.declared.params.Params.{Params}
use Rattle.history_laws.specs.Entries.{begun_entry, ended_entry, entries_of, history_entries, life_entries}
use Rattle.corner_weights.specs.PlaneSums.{EnteredFits}

module _ (params : Params) where
  -- The object that a change adds fits.
  abbrev AddsFitting : Change → Type 0
  AddsFitting (change.Add o) = object_fits params o ≡ true
  AddsFitting (change.Withdraw id) = Unit {0}

  abbrev AllFitting : List Change → Type 0
  AllFitting [] = Unit {0}
  AllFitting (c ∷ cs) = AddsFitting c × AllFitting cs

  staged_fit : (cs : List Change) → list_all (row_fits params) (staged_rows cs) ≡ true → AllFitting cs
  staged_fit [] h = tt
  staged_fit (change.Add o ∷ cs) h = let both = and_parts _ _ h in (both.0, staged_fit cs both.1)
  staged_fit (change.Withdraw id ∷ []) h = (tt, tt)
  staged_fit (change.Withdraw id ∷ change.Withdraw other ∷ cs) h = (tt, staged_fit (change.Withdraw other ∷ cs) h)
  staged_fit (change.Withdraw id ∷ change.Add o ∷ cs) h =
      let both : (object_fits params o ≡ true) × (list_all (row_fits params) (staged_rows cs) ≡ true) =
      elim (cases_Bool (o.id == id)) [
        | inl same ↦ and_parts _ _ (rw same at h)
        | inr other ↦ and_parts _ _ (rw other at h)
      ] in
      (tt, (both.0, staged_fit cs both.1))

  both_fit : (xs ys : List Change) → AllFitting xs → AllFitting ys → AllFitting (xs ++ ys)
  both_fit [] ys fx fy = fy
  both_fit (x ∷ xs) ys fx fy = (fx.0, both_fit xs ys fx.1 fy)

  changes_fit : (before h : History) → AreLawfulAfter params before h → AllFitting (changes h)
  changes_fit before [] lawful = tt
  changes_fit before (batch ∷ batches) lawful =
      both_fit batch (changes batches) (staged_fit batch lawful.0.fits) (changes_fit (before ++ batch ∷ []) batches lawful.1)

  module _ (most : ℕ) where
    -- The change has an event number below the limit, and the object that it adds fits.
    abbrev IsGood : Numbered → Type 0
    IsGood n = (n.event < most) × AddsFitting n.change

    abbrev AllGood : List Numbered → Type 0
    AllGood [] = Unit {0}
    AllGood (n ∷ ns) = IsGood n × AllGood ns

    good_batch : (version event : ℕ) (cs : List Change) → event + length cs ≤ most → AllFitting cs → AllGood (numbered_batch version event cs)
    good_batch version event [] few fit = tt
    good_batch version event (c ∷ cs) few fit = ((omega (arith, few), fit.0), good_batch version (event + 1) cs (omega (arith, few)) fit.1)

    good_both : (xs ys : List Numbered) → AllGood xs → AllGood ys → AllGood (xs ++ ys)
    good_both [] ys gx gy = gy
    good_both (x ∷ xs) ys gx gy = (gx.0, good_both xs ys gx.1 gy)

    fitting_front : (xs ys : List Change) → AllFitting (xs ++ ys) → AllFitting xs
    fitting_front [] ys f = tt
    fitting_front (x ∷ xs) ys f = (f.0, fitting_front xs ys f.1)

    fitting_rest : (xs ys : List Change) → AllFitting (xs ++ ys) → AllFitting ys
    fitting_rest [] ys f = f
    fitting_rest (x ∷ xs) ys f = fitting_rest xs ys f.1

    good_from : (version event : ℕ) (h : History) → event + length (changes h) ≤ most → AllFitting (changes h) → AllGood (numbered_from version event h)
    good_from version event [] few fit = tt
    good_from version event (batch ∷ batches) few fit =
        let both = length-append batch (changes batches) in
        good_both (numbered_batch version event batch) (numbered_from (version + 1) (event + length batch) batches)
        (good_batch version event batch (omega (arith, few, both)) (fitting_front batch (changes batches) fit))
        (good_from (version + 1) (event + length batch) batches (omega (arith, few, both)) (fitting_rest batch (changes batches) fit))

    withdrawal_early : 0 < most → (id : ℕ) (ns : List Numbered) → AllGood ns → option_map_or (λ (w : Numbered). w.event) (withdrawal_of id ns) 0 < most
    withdrawal_early some id [] good = some
    withdrawal_early some id (n ∷ ns) good =
        elim (withdraws id n.change) as (λ b. option_map_or (λ (w : Numbered). w.event) (cond b (Some n) (withdrawal_of id ns)) 0 < most) [
          | true ↦ good.0.0
          | false ↦ withdrawal_early some id ns good.1
        ]

    -- The entries of the life keep the rules.
    abbrev GoodLife : Dated → Type 0
    GoodLife d = (object_fits params d.object ≡ true) × (d.add_event < most) × (d.withdraw_event < most)

    abbrev AllGoodLives : List Dated → Type 0
    AllGoodLives [] = Unit {0}
    AllGoodLives (d ∷ ds) = GoodLife d × AllGoodLives ds

    good_begun : 0 < most → (earlier later : List Numbered) (n : Numbered) (c : Change) (rest : List Dated) → n.event < most → AddsFitting c → AllGood later → AllGoodLives rest
        → AllGoodLives (begun_life earlier n c later ++ rest)
    good_begun some earlier later n (change.Add o) rest lt fit good all = ((fit, lt, withdrawal_early some o.id later good), all)
    good_begun some earlier later n (change.Withdraw id) rest lt fit good all = all

    good_lives : 0 < most → (earlier ns : List Numbered) → AllGood ns → AllGoodLives (lives_after earlier ns)
    good_lives some earlier [] good = tt
    good_lives some earlier (n ∷ later) good =
        good_begun some earlier later n n.change (lives_after (earlier ++ n ∷ []) later) good.0.0 good.0.1 good.1 (good_lives some (earlier ++ n ∷ []) later good.1)

  entries_fit : (ds : List Dated) → AllGoodLives (2 ^ 28) ds → All (EnteredFits params) (entries_of ds)
  entries_fit [] good = All-nil (EnteredFits params)
  entries_fit (d ∷ ds) good =
      All-append (EnteredFits params) (life_entries d) (entries_of ds)
      (elim (d.withdrawn == 0) as (λ b. All (EnteredFits params) (if b then begun_entry d ∷ [] else begun_entry d ∷ ended_entry d ∷ [])) [
        | true ↦ All-cons (EnteredFits params) (begun_entry d) [] (good.0.0, good.0.1) (All-nil (EnteredFits params))
        | false ↦
            All-cons (EnteredFits params) (begun_entry d) (ended_entry d ∷ []) (good.0.0, good.0.1)
            (All-cons (EnteredFits params) (ended_entry d) [] (good.0.0, good.0.2) (All-nil (EnteredFits params)))
      ])
      (entries_fit ds good.1)

  pub history_fits : (h : History) → IsLawful params h → event_count h ≤ 2 ^ 28 → All (EnteredFits params) (history_entries h)
  history_fits h lawful few =
      entries_fit (lives h) (good_lives (2 ^ 28) (omega arith) [] (numbered h) (good_from (2 ^ 28) 1 0 h (omega (arith, few)) (changes_fit [] h lawful)))
