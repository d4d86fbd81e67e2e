-- What the last life of an id tells of it.
use Rattle.std.proofs.Common.{◌≡◌, ◌≢◌, ℕ, Bool, true, false, ◌&&◌, ◌==◌, if◌then◌else◌, Option, Some, None, refl, ◌∙◌, ap, subst, ◌≤◌}
use Rattle.std.proofs.lemmas.Bool.{and_left, eq-eqb, ne_eqb}
use Rattle.std.proofs.lemmas.List.Elements.{All-contains, All-weaker}
use Rattle.std.proofs.lemmas.List.Folds.{list_any_at, list_any_none}
use Rattle.std.specs.List.{Contains}
use Rattle.bw_types.specs.History.{History, changes}
use Rattle.bw_types.specs.Lives.{lives}
use Rattle.bw_types.specs.Refusals.{is_live, was_added}
use Rattle.bw_types.specs.declared.dated.Dated.{Dated}
use Rattle.history_laws.specs.Living.{LastLivesTell, LivesTellAdded, LivesTellIds}
use Rattle.object_table.specs.Laws.{NoLastNoLife}
use Rattle.object_table.specs.Lives.{last_life}
use Rattle.session_book.specs.Told.{life_in}
use Rattle.session_book.specs.declared.seen.Life.TheVariants.{Never, Live, Withdrawn}
use Rattle.page_warehouse.specs.Ids.{life_told}
use Rattle.page_warehouse.proofs.Lasts.{found_among, lasts_are_greatest}

never_told : (live added : Bool) → live ≡ false → added ≡ false → Never ≡ (if live then Live else (if added then Withdrawn else Never))
never_told live added e f = rw (e, f) refl

last_told : (live added still : Bool) → live ≡ still → added ≡ true → (if still then Live else Withdrawn) ≡ (if live then Live else (if added then Withdrawn else Never))
last_told live added still e f = rw (e, f) refl

-- the last life of an id that has one is live where the id is
pub last_is_live : LastLivesTell → (h : History) (id : ℕ) (last : Dated) → last_life id (lives h) ≡ Some last → is_live id (changes h) ≡ (last.withdrawn == 0)
last_is_live tells h id last found =
    let among = found_among id (lives h) last found in
    let greatest : (e : Dated) → Contains (lives h) e → e.object.id ≡ last.object.id → e.life ≤ last.life =
    λ e at same. All-contains (λ (d : Dated). d.object.id ≡ id → d.life ≤ last.life) (lives h) e (lasts_are_greatest h id last found) at (same ∙ among.1) in
    subst (λ (k : ℕ). is_live k (changes h) ≡ (last.withdrawn == 0)) among.1 (tells h last among.0 greatest)

-- an id without a last life is not live
pub none_is_live : NoLastNoLife → LivesTellIds → (h : History) (id : ℕ) → last_life id (lives h) ≡ None → is_live id (changes h) ≡ false
none_is_live nothing tells h id none =
    tells h id
    ∙ list_any_none (λ (d : Dated). d.object.id == id && d.withdrawn == 0) (lives h)
    (All-weaker (λ (d : Dated). d.object.id ≢ id) (λ (d : Dated). (d.object.id == id && d.withdrawn == 0) ≡ false) (λ d other. and_left _ _ (ne_eqb d.object.id id other)) (lives h) (nothing id (lives h) none))

none_was_added : NoLastNoLife → LivesTellAdded → (h : History) (id : ℕ) → last_life id (lives h) ≡ None → was_added id (changes h) ≡ false
none_was_added nothing tells h id none =
    tells h id
    ∙ list_any_none (λ (d : Dated). d.object.id == id) (lives h)
    (All-weaker (λ (d : Dated). d.object.id ≢ id) (λ (d : Dated). (d.object.id == id) ≡ false) (λ d other. ne_eqb d.object.id id other) (lives h) (nothing id (lives h) none))

last_was_added : LivesTellAdded → (h : History) (id : ℕ) (last : Dated) → last_life id (lives h) ≡ Some last → was_added id (changes h) ≡ true
last_was_added tells h id last found =
    let among = found_among id (lives h) last found in
    tells h id
    ∙ list_any_at (λ (d : Dated). d.object.id == id) (lives h) among.0.0 last among.0.1 (ap (λ (d : Dated). d.object.id == id) among.0.2 ∙ eq-eqb last.object.id id among.1)

pub told_by_last : NoLastNoLife → LivesTellIds → LivesTellAdded → LastLivesTell → (h : History) (id : ℕ) (o : Option Dated) → last_life id (lives h) ≡ o → life_told o ≡ life_in (changes h) id
told_by_last nothing lived added tells h id None none =
    never_told (is_live id (changes h)) (was_added id (changes h)) (none_is_live nothing lived h id none) (none_was_added nothing added h id none)
told_by_last nothing lived added tells h id (Some last) found =
    last_told (is_live id (changes h)) (was_added id (changes h)) (last.withdrawn == 0) (last_is_live tells h id last found) (last_was_added added h id last found)
