-- The adds of the objects that are live at a version, life by life.
use Rattle.std.proofs.Common.{◌≡◌, ℕ, ◌+◌, ◌<◌, ◌≤◌, Bool, true, false, List, [], ◌∷◌, ◌++◌, length, get_or, map, drop, refl, sym, ◌∙◌, ap, append_assoc, if◌then◌else◌}
use Rattle.std.proofs.lemmas.List.{append-nil, drop_all, drop_more, map-append}
use Rattle.std.specs.List.{filter}
use Rattle.bw_types.specs.declared.change.Change.{Change}
use Rattle.bw_types.specs.declared.change.Change.TheVariants.{Add}
use Rattle.bw_types.specs.declared.dated.Dated.{Dated}
use Rattle.bw_types.specs.declared.object.Object.{Object}
use Rattle.history_laws.specs.Living.{is_live_at, objects_at}
use Rattle.page_warehouse.specs.Events.{change_in}
use Rattle.page_warehouse.specs.declared.event.Event.{Event}

-- the add of a life
abbrev pub add_of : Dated → Event
add_of d = record { event = d.add_event; version = d.added; add = true; object = d.object }

-- one life more, by whether it is live
objects_if : (version : ℕ) (d : Dated) (ds : List Dated) (b : Bool) → is_live_at version d ≡ b → objects_at version (d ∷ ds) ≡ (if b then d.object ∷ objects_at version ds else objects_at version ds)
objects_if version d ds b is =
    ap (λ (c : Bool). map (λ (x : Dated). x.object) (if c then d ∷ filter (is_live_at version) ds else filter (is_live_at version) ds)) is
    ∙ elim b as (λ c. map (λ (x : Dated). x.object) (if c then d ∷ filter (is_live_at version) ds else filter (is_live_at version) ds) ≡ (if c then d.object ∷ objects_at version ds else objects_at version ds)) [
      | true ↦ refl
      | false ↦ refl
    ]

module _ (version : ℕ) (lives : List Dated) (i : ℕ) (d : Dated) (adds : List Event) (whole : List Change) (lt : i < length lives)
    (so_far : map change_in adds ++ map Add (objects_at version (drop i lives)) ≡ whole) where
  next : (b : Bool) → is_live_at version (get_or lives i d) ≡ b
      → objects_at version (drop i lives) ≡ (if b then (get_or lives i d).object ∷ objects_at version (drop (i + 1) lives) else objects_at version (drop (i + 1) lives))
  next b is = ap (objects_at version) (drop_more lives i d lt) ∙ objects_if version (get_or lives i d) (drop (i + 1) lives) b is

  -- a life that is live
  pub adds_on : (more : List Event) → is_live_at version (get_or lives i d) ≡ true → more ≡ adds ++ add_of (get_or lives i d) ∷ []
      → map change_in more ++ map Add (objects_at version (drop (i + 1) lives)) ≡ whole
  adds_on more is pushed =
      let x : Dated = get_or lives i d in
      let rest : List Object = objects_at version (drop (i + 1) lives) in
      ap (λ (es : List Event). map change_in es ++ map Add rest) pushed
      ∙ (ap (λ (cs : List Change). cs ++ map Add rest) (map-append change_in adds (add_of x ∷ []))
      ∙ (append_assoc (map change_in adds) (Add x.object ∷ []) (map Add rest)
      ∙ (ap (λ (os : List Object). map change_in adds ++ map Add os) (sym (next true is)) ∙ so_far)))

  -- one that is not
  pub adds_stay : is_live_at version (get_or lives i d) ≡ false → map change_in adds ++ map Add (objects_at version (drop (i + 1) lives)) ≡ whole
  adds_stay is = ap (λ (os : List Object). map change_in adds ++ map Add os) (sym (next false is)) ∙ so_far

-- all of them
pub adds_all : (version : ℕ) (lives : List Dated) (i : ℕ) (adds : List Event) (whole : List Change) → length lives ≤ i
    → map change_in adds ++ map Add (objects_at version (drop i lives)) ≡ whole → map change_in adds ≡ whole
adds_all version lives i adds whole le so_far =
    sym (append-nil (map change_in adds)) ∙ (ap (λ (ds : List Dated). map change_in adds ++ map Add (objects_at version ds)) (sym (drop_all i lives le)) ∙ so_far)

-- so they add the objects that are live, where the lives are all of a history
pub adds_live : (version : ℕ) (adds : List Event) (lives found all : List Dated) (objects : List Object) → map change_in adds ≡ map Add (objects_at version lives) → lives ≡ found → found ≡ all
    → objects ≡ objects_at version all → map change_in adds ≡ map Add objects
adds_live version adds lives found all objects are same whole live =
    are ∙ (ap (λ (ds : List Dated). map Add (objects_at version ds)) (same ∙ whole) ∙ ap (map Add) (sym live))
