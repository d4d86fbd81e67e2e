-- An add that comes next.
use Rattle.std.proofs.Common.{◌≡◌, ℕ, ◌+◌, false, List, [], ◌∷◌, ◌++◌, refl, sym, ◌∙◌, ap, subst, arith, append_assoc, length-append}
use Rattle.std.proofs.lemmas.List.{length_push}
use Rattle.std.proofs.lemmas.List.Sums.{count_by-le-length}
use Rattle.bw_types.specs.Fits.{IsInRange}
use Rattle.bw_types.specs.History.{History, adds, changes}
use Rattle.bw_types.specs.Lawful.{IsLawful, IsLawfulBatch}
use Rattle.bw_types.specs.Lives.{lives, numbered}
use Rattle.bw_types.specs.declared.change.Change.{Change}
use Rattle.bw_types.specs.declared.change.Change.TheVariants as change
use Rattle.bw_types.specs.declared.dated.Dated.{Dated}
use Rattle.bw_types.specs.declared.object.Object.{Object}
use Rattle.bw_types.specs.declared.params.Params.{Params}
use Rattle.corner_forest.specs.Enters.{entry_of}
use Rattle.history_laws.specs.Entries.{entries_of}
use Rattle.page_warehouse.specs.Begun.{begun_life, next_event, next_version, with_changes}
use Rattle.page_warehouse.specs.Next.{AddGoesOn}
use Rattle.page_warehouse.proofs.Facts.{Facts}
use Rattle.page_warehouse.proofs.Fronts.{changes_are_few, fronts_lawful, next_fits}
use Rattle.page_warehouse.proofs.Lasts.{last_counts}
use Rattle.page_warehouse.proofs.NextEntry.{next_entry}
use Rattle.page_warehouse.proofs.Numbers.{adds_with, count_with, life_begun, lives_more}

pub add_goes_on : Facts → (params : Params) (h : History) (done later : List Change) (o : Object) → IsInRange params → IsLawful params h
    → IsLawfulBatch params h (done ++ change.Add o ∷ later) → AddGoesOn params h done o
add_goes_on facts params h done later o range lawful batch =
    let k : History = with_changes h done in
    let now = fronts_lawful facts.staging facts.lawful params h done (change.Add o ∷ later) lawful batch in
    let more : IsLawful params (with_changes h (done ++ change.Add o ∷ [])) =
    (fronts_lawful facts.staging facts.lawful params h (done ++ change.Add o ∷ []) later lawful
    (subst (λ (cs : List Change). IsLawfulBatch params h cs) (sym (append_assoc done (change.Add o ∷ []) later)) batch)).1 in
    let grown : lives (with_changes h (done ++ change.Add o ∷ [])) ≡ lives k ++ begun_life h done o ∷ [] =
    lives_more facts.lives facts.numbers h done (change.Add o) ∙ ap (λ (d : Dated). lives k ++ d ∷ []) (life_begun h done o) in
    record {
      fits = next_fits params h done later (change.Add o) batch;
      number = ap (λ (n : ℕ). 1 + n) (sym (last_counts o.id [] (numbered k) ∙ adds_with h done o.id));
      small = omega (
        arith,
        changes_are_few facts.room params (with_changes h (done ++ change.Add o ∷ [])) range more,
        count_with h (done ++ change.Add o ∷ []),
        length_push done (change.Add o),
        length-append (changes h) done,
        count_by-le-length (adds o.id) (changes h ++ done),
      );
      lives = grown;
      entries = ap entries_of grown ∙ facts.add (lives k) (begun_life h done o) refl;
      next = next_entry facts.count facts.room params h done (entry_of o false (next_event h done) (next_version h)) range now.1 refl refl;
    }
