-- What an event names stays as it is when lives are added and ended.
use Rattle.std.proofs.Common.{map, ◌≡◌, ℕ, zero, suc, ◌<◌, true, List, [], ◌∷◌, ◌++◌, Some, length, option_map, option_to_list, refl, sym, ◌∙◌, ap, arith, take, get_or, append_assoc, ◌+◌}
use Rattle.std.proofs.lemmas.Bool.{and_parts, and_from, ltb-true, lt-ltb}
use Rattle.std.proofs.lemmas.List.Concat.{flat_map-append}
use Rattle.std.proofs.lemmas.List.{append-nil, map_push}
use Rattle.std.proofs.lemmas.List.Folds.{list_all-append}
use Rattle.std.specs.List.{list_all}
use Rattle.bw_types.specs.History.{flat, flat_row}
use Rattle.bw_types.specs.declared.object.Object.{Object}
use Rattle.bw_types.specs.declared.change.Change.{Change}
use Rattle.bw_types.specs.declared.change.Change.TheVariants as change
use Rattle.bw_types.specs.declared.row.Row.{Row}
use Rattle.bw_types.specs.declared.row.Row.TheVariants as row
use Rattle.warehouse.specs.Events.{object_in, change_of, changes_of, has_life, have_lives, KeepsObjects}
use Rattle.warehouse.specs.declared.event.Event.{Event}
use Rattle.warehouse.specs.declared.event.Event.TheVariants as event
use Rattle.warehouse.specs.declared.life.Life.{Life}
use Rattle.warehouse.proofs.Rows.{flat_more}

-- a place that is below the number of lives has an object, and one that has an object is below it
object_below : (lives : List Life) (place : ℕ) → place < length lives → (o : Object) × (object_in lives place ≡ Some o)
object_below [] place lt = absurd (omega arith)
object_below (l ∷ lives) zero lt = (l.object, refl)
object_below (l ∷ lives) (suc place) lt = object_below lives place (omega arith)

below_of_object : (lives : List Life) (place : ℕ) (o : Object) → object_in lives place ≡ Some o → place < length lives
below_of_object [] place o e = absurd (cc)
below_of_object (l ∷ lives) zero o e = omega arith
below_of_object (l ∷ lives) (suc place) o e = let lt = below_of_object lives place o e in omega arith

kept_life : (lives lives' : List Life) (e : Event) → KeepsObjects lives lives' → has_life lives e ≡ true → (change_of lives' e ≡ change_of lives e) × (has_life lives' e ≡ true)
kept_life lives lives' (event.Add place) keeps named =
    let one = object_below lives place (ltb-true _ _ named) in
    let same = keeps place one.0 one.1 in
    (ap (λ o. option_to_list (option_map change.Add o)) (same ∙ sym one.1), lt-ltb _ _ (below_of_object lives' place one.0 same))
kept_life lives lives' (event.Withdraw id) keeps named = (refl, refl)

-- lives that keep their objects leave the changes of a batch as they are
kept_events : (lives lives' : List Life) (events : List Event) → KeepsObjects lives lives' → have_lives lives events ≡ true
    → (changes_of lives' events ≡ changes_of lives events) × (have_lives lives' events ≡ true)
kept_events lives lives' [] keeps named = (refl, refl)
kept_events lives lives' (e ∷ events) keeps named =
    let both = and_parts _ _ named in
    let first = kept_life lives lives' e keeps both.0 in
    let rest = kept_events lives lives' events keeps both.1 in
    (ap (λ cs. cs ++ changes_of lives' events) first.0 ∙ ap (λ cs. change_of lives e ++ cs) rest.0, and_from _ _ first.1 rest.1)

-- one event more
event_more : (lives : List Life) (events later : List Event) (e : Event) (c : Change) → later ≡ events ++ e ∷ [] → change_of lives e ≡ c ∷ [] → changes_of lives later ≡ changes_of lives events ++ c ∷ []
event_more lives events later e c pushed is =
    ap (changes_of lives) pushed
    ∙ flat_map-append (change_of lives) events (e ∷ [])
    ∙ ap (λ cs. changes_of lives events ++ cs) (append-nil (change_of lives e) ∙ is)

-- the life at the end has its object
last_object : (lives : List Life) (l : Life) → object_in (lives ++ l ∷ []) (length lives) ≡ Some l.object
last_object [] l = refl
last_object (x ∷ lives) l = last_object lives l

-- an event of the life that was put last adds its object
added_event : (before after : List Life) (l : Life) (events later : List Event) → after ≡ before ++ l ∷ [] → later ≡ events ++ event.Add (length before) ∷ []
    → changes_of after later ≡ changes_of after events ++ change.Add l.object ∷ []
added_event before after l events later more pushed =
    let own : object_in after (length before) ≡ Some l.object = ap (λ ls. object_in ls (length before)) more ∙ last_object before l in
    event_more after events later (event.Add (length before)) (change.Add l.object) pushed (ap (λ o. option_to_list (option_map change.Add o)) own)

-- the events of a row
pub add_events : (before after : List Life) (l : Life) (events later : List Event) (r : Row) → r ≡ row.Add l.object → after ≡ before ++ l ∷ []
    → later ≡ events ++ event.Add (length before) ∷ [] → changes_of after later ≡ changes_of after events ++ flat_row r
add_events before after l events later r is more pushed = added_event before after l events later more pushed ∙ ap (λ x. changes_of after events ++ flat_row x) (sym is)

pub move_events : (before after : List Life) (l : Life) (events between later : List Event) (r : Row) → r ≡ row.Move l.object → after ≡ before ++ l ∷ []
    → between ≡ events ++ event.Withdraw l.object.id ∷ [] → later ≡ between ++ event.Add (length before) ∷ [] → changes_of after later ≡ changes_of after events ++ flat_row r
move_events before after l events between later r is more first second =
    added_event before after l between later more second
    ∙ ap (λ cs. cs ++ change.Add l.object ∷ []) (event_more after events between (event.Withdraw l.object.id) (change.Withdraw l.object.id) first refl)
    ∙ append_assoc (changes_of after events) (change.Withdraw l.object.id ∷ []) (change.Add l.object ∷ [])
    ∙ ap (λ x. changes_of after events ++ flat_row x) (sym is)

-- the events of a batch with those of its next row
pub events_step : (lives lives' : List Life) (events events' : List Event) (past : List Change) (rows : List Row) (i : ℕ) (d : Row) → i < length rows → KeepsObjects lives lives'
    → changes_of lives events ≡ past ++ flat (take i rows) → have_lives lives events ≡ true → changes_of lives' events' ≡ changes_of lives' events ++ flat_row (get_or rows i d)
    → (have_lives lives' events ≡ true → have_lives lives' events' ≡ true)
    → (changes_of lives' events' ≡ past ++ flat (take (i + 1) rows)) × (have_lives lives' events' ≡ true)
events_step lives lives' events events' past rows i d lt keeps so_far named more still =
    let kept = kept_events lives lives' events keeps named in (
      more
          ∙ ap (λ cs. cs ++ flat_row (get_or rows i d)) (kept.0 ∙ so_far)
          ∙ append_assoc past (flat (take i rows)) (flat_row (get_or rows i d))
          ∙ ap (λ cs. past ++ cs) (sym (flat_more rows i d lt)),
      still kept.1,
    )

-- lives that keep their objects leave the history as it is
kept_history : {X : Type 0} (events : X → List Event) (lives lives' : List Life) (batches : List X) → KeepsObjects lives lives'
    → list_all (λ batch. have_lives lives (events batch)) batches ≡ true
    → (map (λ batch. changes_of lives' (events batch)) batches ≡ map (λ batch. changes_of lives (events batch)) batches)
    × (list_all (λ batch. have_lives lives' (events batch)) batches ≡ true)
kept_history events lives lives' [] keeps named = (refl, refl)
kept_history events lives lives' (b ∷ batches) keeps named =
    let both = and_parts _ _ named in
    let first = kept_events lives lives' (events b) keeps both.0 in
    let rest = kept_history events lives lives' batches keeps both.1 in
    (ap (λ cs. cs ∷ map (λ batch. changes_of lives' (events batch)) batches) first.0 ∙ ap (λ h. changes_of lives (events b) ∷ h) rest.0, and_from _ _ first.1 rest.1)

-- a batch more
pub history_more : {X : Type 0} (events : X → List Event) (lives lives' : List Life) (batches later : List X) (x : X) (cs : List Change) → KeepsObjects lives lives'
    → list_all (λ batch. have_lives lives (events batch)) batches ≡ true → later ≡ batches ++ x ∷ [] → changes_of lives' (events x) ≡ cs → have_lives lives' (events x) ≡ true
    → (map (λ batch. changes_of lives' (events batch)) later ≡ map (λ batch. changes_of lives (events batch)) batches ++ cs ∷ [])
    × (list_all (λ batch. have_lives lives' (events batch)) later ≡ true)
history_more events lives lives' batches later x cs keeps named more is own =
    let kept = kept_history events lives lives' batches keeps named in (
      ap (map (λ batch. changes_of lives' (events batch))) more
          ∙ map_push (λ batch. changes_of lives' (events batch)) batches x
          ∙ ap (λ h. h ++ changes_of lives' (events x) ∷ []) kept.0
          ∙ ap (λ c. map (λ batch. changes_of lives (events batch)) batches ++ c ∷ []) is,
      ap (list_all (λ batch. have_lives lives' (events batch))) more
          ∙ list_all-append (λ batch. have_lives lives' (events batch)) batches (x ∷ [])
          ∙ and_from _ _ kept.1 (and_from _ _ own refl),
    )
