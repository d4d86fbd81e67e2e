-- One step of entering at an index node, from what its calls answer.
use Rattle.std.proofs.Common.{◌≡◌, ℕ, zero, suc, ◌+◌, ◌-◌, ◌<◌, ◌≤◌, ◌==◌, false, List, [], ◌∷◌, ◌++◌, length, get_or, take, drop, Option, Some, None, IsSome, refl, sym, ap, ◌∙◌, subst, arith, append_assoc, length-append, length-drop}
use Rattle.std.specs.List.{All, flat_map}
use Rattle.std.proofs.lemmas.Bool.{or_parts}
use Rattle.std.proofs.lemmas.List.{take-append-drop, length-take-le}
use Rattle.std.proofs.lemmas.List.Concat.{flat_map-append}
use Rattle.bw_types.specs.declared.dated.Dated.{Dated}
use Rattle.ports.specs.Pages.{PageMap}
use Rattle.ports.specs.Frame.{names_page}
use Rattle.ports.specs.FrameLaws.{names_page-append}
use Rattle.page_layout.specs.Damage.{IsDamagedBelow, NothingBeside}
use Rattle.page_layout.specs.DamageLaws as laws
use Rattle.page_layout.specs.Footprint.{NamesNoneTwice}
use Rattle.page_layout.specs.FootprintLaws.{once_left, once_right}
use Rattle.page_layout.specs.LifeNode.{IsLifeIndex, IsLifeEntryTyped, life_node_page}
use Rattle.page_layout.specs.declared.life_node.LifeNode.{LifeNode}
use Rattle.page_layout.specs.declared.life_node.LifeEntry.{LifeEntry}
use Rattle.object_table.specs.declared.form.Form.TheVariants.{ByLives}
use Rattle.object_table.specs.declared.path.Step.{Step}
use Rattle.object_table.specs.declared.place.Place.{Place}
use Rattle.object_table.specs.Damage.{FitsPlace, FitsAsked, IsFullBelow, GoesBy, IsPlaceOf, LeadsTo}
use Rattle.object_table.specs.Entered.{IsEntered, SecondFits, WasFull, second_entries}
use Rattle.object_table.specs.Keys.{key, key_of, low_key}
use Rattle.object_table.specs.Lives.{pages_below}
use Rattle.object_table.specs.Nodes.{FitsLevel, node_on, entries_in, entries_on}
use Rattle.object_table.specs.Stands.{first_low, fewest, StandsBelow}
use Rattle.object_table.specs.Steps.{IsCut, IsStepTo}
use Rattle.object_table.specs.Stored.{IsStored, IsSecondOf, IsWhole, OthersStay, entry_name, index_of}
use Rattle.object_table.proofs.BelowIndex.{EntriesEntered, entries_with, entered_below, proper_with, ends_with, from_with, begins_with, length_with, whole_entered, halves_entered, half_keeps}
use Rattle.object_table.proofs.Clearing.{own_pages}
use Rattle.object_table.proofs.Footprints.{page_kept, apart_from_missing, eqb_swap}
use Rattle.object_table.proofs.Landing.{ListEntered, landed_whole, landed_halves}
use Rattle.object_table.proofs.LastLives.{step_path, step_leads}
use Rattle.object_table.proofs.Nodes.{node_on-fits}
use Rattle.object_table.proofs.Order.{first_low-later}
use Rattle.object_table.proofs.Ordered.{proper_take, proper_drop}
use Rattle.object_table.proofs.Reading.{begun_at, index_is}
use Rattle.object_table.proofs.Rules.{ProperEntries, index_proper, index_rules, fits_index}
use Rattle.object_table.proofs.Standing.{pages_on, list_pages}
use Rattle.object_table.proofs.Stepping.{second_between, first_typed}
use Rattle.object_table.proofs.Within.{parts_at}

-- An index node that was read in its place, and the step to its child.
pub record ReadIndex (level : ℕ) (place : Place) (bytes : List ℕ) (entries shown : List LifeEntry) (k : ℕ) (step : Step) : Type 0 where
  pub fits : FitsPlace ByLives level place (index_of level entries) bytes
  pub same : shown ≡ entries
  pub cut : IsCut shown k place.sought
  pub steps : (d : LifeEntry) → IsStepTo step (get_or shown (k - 1) d) (drop (k - 1 + 1) shown) place.high place.sought
  pub some : 1 ≤ k
  pub below : place.sought < place.high

pub index_read : (level : ℕ) (place : Place) (node : LifeNode) (bytes : List ℕ) (l : ℕ) (entries : List LifeEntry) → FitsPlace ByLives level place node bytes → node ≡ index_of l entries
    → FitsPlace ByLives level place (index_of level entries) bytes
index_read level place node bytes l entries f is =
    let f1 = subst (λ (n : LifeNode). FitsPlace ByLives level place n bytes) is f in
    subst (λ (k : ℕ). FitsPlace ByLives level place (index_of k entries) bytes) f1.fits.at_level f1

-- The parts of the node at the step.
pub record StepParts (level : ℕ) (place : Place) (bytes : List ℕ) (entries : List LifeEntry) (k : ℕ) (step : Step) : Type 0 where
  pub before : List LifeEntry
  pub at : LifeEntry
  pub after : List LifeEntry
  pub goes : GoesBy entries before at after place.sought
  pub child : step.child ≡ at.child
  pub inner : IsPlaceOf step.place at after place.high place.sought
  pub first : take k entries ≡ before ++ (at ∷ [])
  pub rest : after ≡ drop k entries
  pub rules : IsLifeIndex 200 level entries
  pub proper : ProperEntries entries

pub step_parts : (level : ℕ) (place : Place) (bytes : List ℕ) (entries shown : List LifeEntry) (k : ℕ) (step : Step) → ReadIndex level place bytes entries shown k step → StepParts level place bytes entries k step
step_parts level place bytes entries shown k step r =
    let cut = subst (λ (es : List LifeEntry). IsCut es k place.sought) r.same r.cut in
    let steps = subst (λ (es : List LifeEntry). (d : LifeEntry) → IsStepTo step (get_or es (k - 1) d) (drop (k - 1 + 1) es) place.high place.sought) r.same r.steps in
    let p = step_path entries k place.sought place.high step cut r.some steps in
    record {
      before = p.0;
      at = p.1;
      after = p.2;
      goes = p.3;
      child = p.4.child;
      inner = p.4.place;
      first = p.6;
      rest = p.5;
      rules = r.fits.fits.rules;
      proper = index_proper 200 level entries r.fits.fits.rules r.fits.fits.typed;
    }

pub index_leads : (level : ℕ) (place : Place) (bytes : List ℕ) (entries shown : List LifeEntry) (k : ℕ) (step : Step) → ReadIndex level place bytes entries shown k step → LeadsTo place (index_of level entries) step.child step.place
index_leads level place bytes entries shown k step r = step_leads place (index_of level entries) shown k step r.same r.cut r.some r.steps

pub step_bounds : (level : ℕ) (place : Place) (bytes : List ℕ) (entries shown : List LifeEntry) (k : ℕ) (step : Step) → ReadIndex level place bytes entries shown k step
    → (step.place.low ≤ step.place.sought) × (step.place.sought < step.place.high) × (step.place.sought ≡ place.sought)
step_bounds level place bytes entries shown k step r =
    let p = step_parts level place bytes entries shown k step r in (
      omega (arith, p.inner.low, p.inner.sought, p.goes.here),
      omega (arith, p.inner.high, p.inner.sought, first_low-later p.after place.sought place.high p.goes.later r.below),
      p.inner.sought,
    )

-- the entries with that of the second page, as the code puts it in
pub with_second : (level : ℕ) (place : Place) (bytes : List ℕ) (entries : List LifeEntry) (k : ℕ) (step : Step) (p : StepParts level place bytes entries k step) (s : LifeEntry)
    → take k entries ++ (s ∷ drop k entries) ≡ entries_with p.before p.at (Some s) p.after
with_second level place bytes entries k step p s =
    ap (λ (es : List LifeEntry). es ++ (s ∷ drop k entries)) p.first ∙ append_assoc p.before (p.at ∷ []) (s ∷ drop k entries) ∙ ap (λ (es : List LifeEntry). p.before ++ (p.at ∷ (s ∷ es))) (sym p.rest)

-- where the second page fits, in terms of the parts
second_at : (level : ℕ) (place : Place) (bytes : List ℕ) (entries : List LifeEntry) (k : ℕ) (step : Step) (p : StepParts level place bytes entries k step) (o : Option LifeEntry)
    → SecondFits step.place.low step.place.high o → SecondFits (low_key p.at) (first_low p.after place.high) o
second_at level place bytes entries k step p o fits =
    subst (λ (h : ℕ). SecondFits (low_key p.at) h o) p.inner.high (subst (λ (l : ℕ). SecondFits l step.place.high o) p.inner.low fits)

pub with_rules : (level : ℕ) (place : Place) (bytes : List ℕ) (entries shown : List LifeEntry) (k : ℕ) (step : Step) (s : LifeEntry) → ReadIndex level place bytes entries shown k step
    → SecondFits step.place.low step.place.high (Some s) → IsLifeIndex 201 level (take k entries ++ (s ∷ drop k entries))
with_rules level place bytes entries shown k step s r fits =
    let p = step_parts level place bytes entries shown k step r in
    let fits1 = second_at level place bytes entries k step p (Some s) fits in
    let proper = proper_with p.before p.at (Some s) p.after place.high (subst ProperEntries p.goes.whole p.proper) fits1 in
    let count = length_with p.before p.at (Some s) p.after in
    let same_count = ap (λ (es : List LifeEntry). length es) p.goes.whole in
    let all = index_rules 201 level (entries_with p.before p.at (Some s) p.after) p.rules.low_level p.rules.high_level proper (omega (arith, count)) (omega (arith, count, same_count, p.rules.few)) in
    subst (IsLifeIndex 201 level) (sym (with_second level place bytes entries k step p s)) all

pub index_second : (level : ℕ) (place : Place) (bytes : List ℕ) (entries shown : List LifeEntry) (k : ℕ) (step : Step) (s : LifeEntry) (second : Option LifeEntry) → ReadIndex level place bytes entries shown k step
    → SecondFits step.place.low step.place.high (Some s) → IsSecondOf entry_name 200 100 (take k entries ++ (s ∷ drop k entries)) second → SecondFits place.low place.high second
index_second level place bytes entries shown k step s None r fits is = tt
index_second level place bytes entries shown k step s (Some second) r fits is =
    let p = step_parts level place bytes entries shown k step r in
    let fits1 = second_at level place bytes entries k step p (Some s) fits in
    let news : List LifeEntry = entries_with p.before p.at (Some s) p.after in
    let proper = proper_with p.before p.at (Some s) p.after place.high (subst ProperEntries p.goes.whole p.proper) fits1 in
    let is1 = subst (λ (es : List LifeEntry). IsSecondOf entry_name 200 100 es (Some second)) (with_second level place bytes entries k step p s) is in
    let from = from_with p.before p.at (Some s) p.after place.low place.high (subst (λ (es : List LifeEntry). All (λ (e : LifeEntry). place.low ≤ low_key e) es) p.goes.whole r.fits.admitted.begin) fits1 in
    let below = ends_with p.before p.at (Some s) p.after place.high (subst (λ (es : List LifeEntry). All (λ (e : LifeEntry). low_key e < place.high) es) p.goes.whole r.fits.admitted.below) fits1 in
    let by = is1.2 in
    let x : LifeEntry = by.0 in
    let between = second_between low_key 100 news x by.1 place.low place.high by.2 (omega arith) (omega (arith, is1.3)) proper.asc from below in
    let typed = first_typed IsLifeEntryTyped 100 news x by.1 by.2 proper.types in
    let middle : low_key second ≡ low_key x = ap (λ (n : ℕ). key_of n second.low_life) by.3 ∙ ap (key_of x.low_id) by.4 in
    record {
      child = is1.0;
      from = omega (arith, middle, between.0);
      below = omega (arith, middle, between.1);
      typed = (omega (arith, by.3, typed.0), omega (arith, by.4, typed.1), is1.1);
    }

pub index_full : (level : ℕ) (m : PageMap) (page : ℕ) (place : Place) (bytes : List ℕ) (entries shown : List LifeEntry) (k : ℕ) (step : Step) (s : LifeEntry) (second : Option LifeEntry) → m page ≡ Some bytes
    → ReadIndex level place bytes entries shown k step → IsSecondOf entry_name 200 100 (take k entries ++ (s ∷ drop k entries)) second
    → IsFullBelow (level - 1) m step.child step.place.sought → WasFull second (IsFullBelow level m page place.sought)
index_full level m page place bytes entries shown k step s None there r is full = tt
index_full zero m page place bytes entries shown k step s (Some second) there r is full = absurd (omega (arith, r.fits.fits.rules.low_level))
index_full (suc zero) m page place bytes entries shown k step s (Some second) there r is full = absurd (omega (arith, r.fits.fits.rules.low_level))
index_full (suc (suc l)) m page place bytes entries shown k step s (Some second) there r is full =
    let p = step_parts (suc (suc l)) place bytes entries shown k step r in
    let on : entries_on ByLives m page ≡ entries = ap entries_in (node_on-fits ByLives m page (suc (suc l)) (index_of (suc (suc l)) entries) bytes there r.fits.fits) in
    let cut = subst (λ (es : List LifeEntry). IsCut es k place.sought) r.same r.cut in
    let count = length-append (take k entries) (s ∷ drop k entries) in
    let all = ap (λ (es : List LifeEntry). length es) (take-append-drop k entries) in
    let parts = length-append (take k entries) (drop k entries) in
    let less : suc (suc l) - 1 ≡ suc l = omega arith in
    let f1 = subst (λ (n : ℕ). IsFullBelow n m step.child step.place.sought) less full in
    let f2 = subst (λ (c : ℕ). IsFullBelow (suc l) m c step.place.sought) p.child f1 in
    let f3 = subst (λ (v : ℕ). IsFullBelow (suc l) m p.at.child v) p.inner.sought f2 in (
      ap (λ (es : List LifeEntry). length es) on ∙ (let e : length entries ≡ 200 = omega (arith, count, all, parts, is.3) in e),
      (p.before, p.at, p.after, subst (λ (es : List LifeEntry). GoesBy es p.before p.at p.after place.sought) (sym on) p.goes, f3),
    )

-- what a step leaves below the node
below_of : (l : ℕ) (m0 m2 : PageMap) (page least : ℕ) (place : Place) (bytes : List ℕ) (d : Dated) (entries : List LifeEntry) (k : ℕ) (step : Step) (o : Option LifeEntry)
    → m0 page ≡ Some bytes → FitsPlace ByLives (suc (suc l)) place (index_of (suc (suc l)) entries) bytes → (p : StepParts (suc (suc l)) place bytes entries k step)
    → place.sought ≡ key d → place.sought < place.high
    → ((low : ℕ) → StandsBelow ByLives (suc l) m0 step.child step.place.low step.place.high low → NamesNoneTwice (pages_below ByLives (suc l) m0 step.child)
    → IsEntered (suc l) m0 m2 step.child step.place.low step.place.high low d o)
    → StandsBelow ByLives (suc (suc l)) m0 page place.low place.high least → NamesNoneTwice (pages_below ByLives (suc (suc l)) m0 page)
    → EntriesEntered (suc l) m0 m2 (entries_on ByLives m0 page) (entries_with p.before p.at o p.after) place.high d
below_of l m0 m2 page least place bytes d entries k step o there fits p sought below call s once =
    let on : entries_on ByLives m0 page ≡ entries = ap entries_in (node_on-fits ByLives m0 page (suc (suc l)) (index_of (suc (suc l)) entries) bytes there fits.fits) in
    let goes1 = subst (λ (es : List LifeEntry). GoesBy es p.before p.at p.after place.sought) (sym on) p.goes in
    let goes = subst (λ (v : ℕ). GoesBy (entries_on ByLives m0 page) p.before p.at p.after v) sought goes1 in
    let parts = parts_at ByLives l m0 page place.low place.high least p.before p.at p.after s goes.whole in
    let once1 = (subst NamesNoneTwice (pages_on (suc l) m0 page (node_on ByLives m0 page) refl) once).1 in
    let call1 = subst (λ (c : ℕ). (low : ℕ) → StandsBelow ByLives (suc l) m0 c step.place.low step.place.high low → NamesNoneTwice (pages_below ByLives (suc l) m0 c) → IsEntered (suc l) m0 m2 c step.place.low step.place.high low d o) p.child call in
    let call2 = subst (λ (n : ℕ). (low : ℕ) → StandsBelow ByLives (suc l) m0 p.at.child n step.place.high low → NamesNoneTwice (pages_below ByLives (suc l) m0 p.at.child) → IsEntered (suc l) m0 m2 p.at.child n step.place.high low d o) p.inner.low call1 in
    let call3 = subst (λ (n : ℕ). (low : ℕ) → StandsBelow ByLives (suc l) m0 p.at.child (low_key p.at) n low → NamesNoneTwice (pages_below ByLives (suc l) m0 p.at.child) → IsEntered (suc l) m0 m2 p.at.child (low_key p.at) n low d o) p.inner.high call2 in
    let own_once = once_own (entries_on ByLives m0 page) p.before p.at p.after goes.whole once1 in
    entered_below l m0 m2 page place.low place.high least d p.before p.at p.after o s goes (omega (arith, sought, below)) once1 (call3 (fewest ByLives (suc l)) parts.own.0 own_once) where
      once_own : (es before : List LifeEntry) (at : LifeEntry) (after : List LifeEntry) → es ≡ before ++ (at ∷ after) → NamesNoneTwice (list_pages (suc l) m0 es) → NamesNoneTwice (own_pages ByLives (suc l) m0 at)
      once_own es before at after whole once =
          let cut = ap (list_pages (suc l) m0) whole ∙ flat_map-append (own_pages ByLives (suc l) m0) before (at ∷ after) in
          once_left (own_pages ByLives (suc l) m0 at) (list_pages (suc l) m0 after) (once_right (list_pages (suc l) m0 before) (list_pages (suc l) m0 (at ∷ after)) (subst NamesNoneTwice cut once))

-- the new entries where the page stands
news_of : (l : ℕ) (m0 : PageMap) (page least : ℕ) (place : Place) (bytes : List ℕ) (entries : List LifeEntry) (k : ℕ) (step : Step) (o : Option LifeEntry)
    → m0 page ≡ Some bytes → FitsPlace ByLives (suc (suc l)) place (index_of (suc (suc l)) entries) bytes → (p : StepParts (suc (suc l)) place bytes entries k step)
    → StandsBelow ByLives (suc (suc l)) m0 page place.low place.high least → SecondFits step.place.low step.place.high o
    → (first_low (entries_with p.before p.at o p.after) place.high ≡ place.low) × All (λ e. low_key e < place.high) (entries_with p.before p.at o p.after)
    × ProperEntries (entries_with p.before p.at o p.after) × (length (entries_on ByLives m0 page) + length (second_entries o) ≡ length (entries_with p.before p.at o p.after))
news_of l m0 page least place bytes entries k step o there fits p s second =
    let on : entries_on ByLives m0 page ≡ entries = ap entries_in (node_on-fits ByLives m0 page (suc (suc l)) (index_of (suc (suc l)) entries) bytes there fits.fits) in
    let whole : entries_on ByLives m0 page ≡ p.before ++ (p.at ∷ p.after) = on ∙ p.goes.whole in
    let fits1 = second_at (suc (suc l)) place bytes entries k step p o second in (
      begins_with p.before p.at o p.after place.high ∙ ap (λ (es : List LifeEntry). first_low es place.high) (sym whole) ∙ s.0.begins,
      ends_with p.before p.at o p.after place.high (subst (λ (es : List LifeEntry). All (λ (e : LifeEntry). low_key e < place.high) es) whole s.0.ends) fits1,
      proper_with p.before p.at o p.after place.high (subst ProperEntries p.goes.whole p.proper) fits1,
      omega (arith, length_with p.before p.at o p.after, ap (λ (es : List LifeEntry). length es) whole),
    )

none_step : (l : ℕ) (m0 m2 : PageMap) (page least : ℕ) (place : Place) (bytes : List ℕ) (d : Dated) (entries : List LifeEntry) (k : ℕ) (step : Step)
    → m0 page ≡ Some bytes → FitsPlace ByLives (suc (suc l)) place (index_of (suc (suc l)) entries) bytes → (p : StepParts (suc (suc l)) place bytes entries k step)
    → EntriesEntered (suc l) m0 m2 (entries_on ByLives m0 page) (entries_with p.before p.at None p.after) place.high d
    → StandsBelow ByLives (suc (suc l)) m0 page place.low place.high least → NamesNoneTwice (pages_below ByLives (suc (suc l)) m0 page)
    → IsEntered (suc (suc l)) m0 m2 page place.low place.high least d None
none_step l m0 m2 page least place bytes d entries k step there fits p e s once =
    let news : List LifeEntry = entries_with p.before p.at None p.after in
    let n = news_of l m0 page least place bytes entries k step None there fits p s tt in
    let is : news ≡ entries = sym p.goes.whole in
    let once1 = subst NamesNoneTwice (pages_on (suc l) m0 page (node_on ByLives m0 page) refl) once in
    let there1 : IsSome (m0 page) = subst IsSome (sym there) refl in
    let kept = page_kept (list_pages (suc l) m0 (entries_on ByLives m0 page)) (list_pages (suc l) m2 news) m0 m2 page e.change there1 once1.0 in
    let entered = whole_entered l (suc (suc l)) m0 m2 page place.low place.high least d news s e n.0 n.1 (omega (arith, n.3)) in
    let at_entries = subst (λ (es : List LifeEntry). ListEntered (suc l) m0 m2 (node_on ByLives m0 page) (index_of (suc (suc l)) es) place.low place.high least d) is entered in
    let spelled : bytes ≡ life_node_page (index_of (suc (suc l)) entries) = fits.fits.spelled in
    landed_whole (suc l) m0 m2 m2 page place.low place.high least d (index_of (suc (suc l)) entries) s.0.node once
    (subst (λ (b : List ℕ). FitsLevel ByLives (suc (suc l)) (index_of (suc (suc l)) entries) b) spelled fits.fits) at_entries
    (kept.1 ∙ there ∙ ap (λ (b : List ℕ). Some b) spelled, λ q o. refl)

some_step : (l : ℕ) (m0 m2 m3 : PageMap) (page least : ℕ) (place : Place) (bytes : List ℕ) (d : Dated) (entries : List LifeEntry) (k : ℕ) (step : Step) (s1 : LifeEntry) (second : Option LifeEntry)
    → m0 page ≡ Some bytes → FitsPlace ByLives (suc (suc l)) place (index_of (suc (suc l)) entries) bytes → (p : StepParts (suc (suc l)) place bytes entries k step) → SecondFits step.place.low step.place.high (Some s1)
    → EntriesEntered (suc l) m0 m2 (entries_on ByLives m0 page) (entries_with p.before p.at (Some s1) p.after) place.high d
    → StandsBelow ByLives (suc (suc l)) m0 page place.low place.high least → NamesNoneTwice (pages_below ByLives (suc (suc l)) m0 page)
    → IsStored (index_of (suc (suc l))) entry_name 200 100 (entries_with p.before p.at (Some s1) p.after) m2 m3 page second
    → IsEntered (suc (suc l)) m0 m3 page place.low place.high least d second
some_step l m0 m2 m3 page least place bytes d entries k step s1 None there fits p fits_s e s once stored =
    let L : ℕ = suc (suc l) in
    let news : List LifeEntry = entries_with p.before p.at (Some s1) p.after in
    let n = news_of l m0 page least place bytes entries k step (Some s1) there fits p s fits_s in
    landed_whole (suc l) m0 m2 m3 page place.low place.high least d (index_of L news) s.0.node once
    (fits_index L news (omega arith) p.rules.high_level n.2 (omega (arith, n.3)) stored.0)
    (whole_entered l L m0 m2 page place.low place.high least d news s e n.0 n.1 (omega (arith, n.3))) stored.1
some_step l m0 m2 m3 page least place bytes d entries k step s1 (Some second) there fits p fits_s e s once stored =
    let L : ℕ = suc (suc l) in
    let news : List LifeEntry = entries_with p.before p.at (Some s1) p.after in
    let n = news_of l m0 page least place bytes entries k step (Some s1) there fits p s fits_s in
    let long : length news ≡ 201 = omega (arith, stored.0) in
    let count_f : length (take 100 news) ≡ 100 = length-take-le 100 news (omega (arith, long)) in
    let count_r : length (drop 100 news) ≡ 101 = omega (arith, long, length-drop 100 news) in
    landed_halves (suc l) m0 m2 m3 page place.low place.high least d (index_of L (take 100 news)) (index_of L (drop 100 news)) second s.0.node once
    (fits_index L (take 100 news) (omega arith) p.rules.high_level (proper_take low_key _ _ 100 news n.2) (omega (arith, count_f)) (omega (arith, count_f)))
    (fits_index L (drop 100 news) (omega arith) p.rules.high_level (proper_drop low_key _ _ 100 news n.2) (omega (arith, count_r)) (omega (arith, count_r)))
    (halves_entered l L m0 m2 page place.low place.high d news second e n.2 n.0 n.1 long stored.1) (half_keeps (suc l) m2 news place.high second e.each stored.1) stored.2

-- what the call below answers, one level less
abbrev pub Call : ℕ → PageMap → PageMap → Step → Dated → Option LifeEntry → Type 0
Call level m1 m2 step d o = (low : ℕ) → StandsBelow ByLives level m1 step.child step.place.low step.place.high low → NamesNoneTwice (pages_below ByLives level m1 step.child)
    → IsEntered level m1 m2 step.child step.place.low step.place.high low d o

pub index_none : (level : ℕ) (m0 m1 m2 : PageMap) (page least : ℕ) (place : Place) (bytes : List ℕ) (d : Dated) (entries shown : List LifeEntry) (k : ℕ) (step : Step) (o : Option LifeEntry)
    → m1 ≡ m0 → m0 page ≡ Some bytes → ReadIndex level place bytes entries shown k step → place.sought ≡ key d → o ≡ None → Call (level - 1) m1 m2 step d o
    → StandsBelow ByLives level m0 page place.low place.high least → NamesNoneTwice (pages_below ByLives level m0 page) → IsEntered level m0 m2 page place.low place.high least d None
index_none zero m0 m1 m2 page least place bytes d entries shown k step o same there r sought none call s once = absurd (omega (arith, r.fits.fits.rules.low_level))
index_none (suc zero) m0 m1 m2 page least place bytes d entries shown k step o same there r sought none call s once = absurd (omega (arith, r.fits.fits.rules.low_level))
index_none (suc (suc l)) m0 m1 m2 page least place bytes d entries shown k step o same there r sought none call s once =
    let p = step_parts (suc (suc l)) place bytes entries shown k step r in
    let less : suc (suc l) - 1 ≡ suc l = omega arith in
    let call1 = subst (λ (n : ℕ). Call n m1 m2 step d o) less call in
    let call2 = subst (λ (m : PageMap). Call (suc l) m m2 step d o) same call1 in
    let call3 = subst (λ (q : Option LifeEntry). Call (suc l) m0 m2 step d q) none call2 in
    none_step l m0 m2 page least place bytes d entries k step there r.fits p (below_of l m0 m2 page least place bytes d entries k step None there r.fits p sought r.below call3 s once) s once

pub index_some : (level : ℕ) (m0 m1 m2 m3 : PageMap) (page least : ℕ) (place : Place) (bytes : List ℕ) (d : Dated) (entries shown : List LifeEntry) (k : ℕ) (step : Step) (o : Option LifeEntry) (s1 : LifeEntry) (second : Option LifeEntry)
    → m1 ≡ m0 → m0 page ≡ Some bytes → ReadIndex level place bytes entries shown k step → place.sought ≡ key d → o ≡ Some s1 → Call (level - 1) m1 m2 step d o → SecondFits step.place.low step.place.high (Some s1)
    → IsStored (index_of level) entry_name 200 100 (take k entries ++ (s1 ∷ drop k entries)) m2 m3 page second
    → StandsBelow ByLives level m0 page place.low place.high least → NamesNoneTwice (pages_below ByLives level m0 page) → IsEntered level m0 m3 page place.low place.high least d second
index_some zero m0 m1 m2 m3 page least place bytes d entries shown k step o s1 second same there r sought is call fits stored s once = absurd (omega (arith, r.fits.fits.rules.low_level))
index_some (suc zero) m0 m1 m2 m3 page least place bytes d entries shown k step o s1 second same there r sought is call fits stored s once = absurd (omega (arith, r.fits.fits.rules.low_level))
index_some (suc (suc l)) m0 m1 m2 m3 page least place bytes d entries shown k step o s1 second same there r sought is call fits stored s once =
    let L : ℕ = suc (suc l) in
    let p = step_parts L place bytes entries shown k step r in
    let less : suc (suc l) - 1 ≡ suc l = omega arith in
    let call1 = subst (λ (n : ℕ). Call n m1 m2 step d o) less call in
    let call2 = subst (λ (m : PageMap). Call (suc l) m m2 step d o) same call1 in
    let call3 = subst (λ (q : Option LifeEntry). Call (suc l) m0 m2 step d q) is call2 in
    let stored1 = subst (λ (es : List LifeEntry). IsStored (index_of L) entry_name 200 100 es m2 m3 page second) (with_second L place bytes entries k step p s1) stored in
    some_step l m0 m2 m3 page least place bytes d entries k step s1 second there r.fits p fits (below_of l m0 m2 page least place bytes d entries k step (Some s1) there r.fits p sought r.below call3 s once) s once stored1

-- A page that is damaged further down.
pub index_damaged : (asked : List Dated → Type 0) (m0 m1 : PageMap) (level page damaged : ℕ) (place : Place) (bytes : List ℕ) (entries shown : List LifeEntry) (k : ℕ) (step : Step) → m1 ≡ m0 → m0 page ≡ Some bytes
    → ReadIndex level place bytes entries shown k step → IsDamagedBelow (FitsAsked asked ByLives) LeadsTo NothingBeside m1 (level - 1) step.place step.child damaged
    → IsDamagedBelow (FitsAsked asked ByLives) LeadsTo NothingBeside m0 level place page damaged
index_damaged asked m0 m1 level page damaged place bytes entries shown k step same there r why =
    laws.damaged_further (FitsAsked asked ByLives) LeadsTo NothingBeside m0 level place page damaged (index_of level entries) bytes step.child step.place
    (omega (arith, r.fits.fits.rules.low_level)) there (record { fits = r.fits; leaf = λ one. absurd (omega (arith, one, r.fits.fits.rules.low_level)) })
    (index_leads level place bytes entries shown k step r)
    (subst (λ (m : PageMap). IsDamagedBelow (FitsAsked asked ByLives) LeadsTo NothingBeside m (level - 1) step.place step.child damaged) same why)

-- What is outside the pages of the node stays.
pub stored_others : {X : Type 0} (node : List X → LifeNode) (name : X → ℕ × ℕ) (most half page : ℕ) (xs : List X) (m n : PageMap) (o : Option LifeEntry) → IsStored node name most half xs m n page o → OthersStay (page ∷ []) m n
stored_others node name most half page xs m n None s = λ p outside there. s.1.1 p (or_parts (page == p) false outside).0
stored_others node name most half page xs m n (Some second) s = λ p outside there.
    s.2.others p (or_parts (page == p) false outside).0 (eqb_swap p second.child (apart_from_missing m p second.child there s.2.unused))

pub others_then : (ps qs rs : List ℕ) (a b c : PageMap)
    → ((p : ℕ) → names_page ps p ≡ false → (names_page qs p ≡ false) × (names_page rs p ≡ false))
    → OthersStay qs a b → OthersStay rs b c → OthersStay ps a c
others_then ps qs rs a b c parts first then = λ p outside there.
    let n = parts p outside in
    let same = first p n.0 there in
    then p n.1 (subst (λ (o : Option (List ℕ)). IsSome o) (sym same) there) ∙ same

outside_both : (l : ℕ) (m : PageMap) (page : ℕ) (place : Place) (bytes : List ℕ) (entries : List LifeEntry) (k : ℕ) (step : Step) → m page ≡ Some bytes
    → FitsPlace ByLives (suc (suc l)) place (index_of (suc (suc l)) entries) bytes → StepParts (suc (suc l)) place bytes entries k step
    → (p : ℕ) → names_page (pages_below ByLives (suc (suc l)) m page) p ≡ false → (names_page (pages_below ByLives (suc l) m step.child) p ≡ false) × (names_page (page ∷ []) p ≡ false)
outside_both l m page place bytes entries k step there fits parts p outside =
    let own : LifeEntry → List ℕ = own_pages ByLives (suc l) m in
    let on = node_on-fits ByLives m page (suc (suc l)) (index_of (suc (suc l)) entries) bytes there fits.fits in
    let pages = subst (λ (ps : List ℕ). names_page ps p ≡ false) (pages_on (suc l) m page (index_of (suc (suc l)) entries) on) outside in
    let n = or_parts (page == p) (names_page (flat_map own entries) p) pages in
    let cut : flat_map own entries ≡ flat_map own parts.before ++ (own parts.at ++ flat_map own parts.after) = ap (flat_map own) parts.goes.whole ∙ flat_map-append own parts.before (parts.at ∷ parts.after) in
    let all = subst (λ (ps : List ℕ). names_page ps p ≡ false) cut n.1 in
    let later = (or_parts _ _ (sym (names_page-append (flat_map own parts.before) (own parts.at ++ flat_map own parts.after) p) ∙ all)).1 in
    let here = (or_parts _ _ (sym (names_page-append (own parts.at) (flat_map own parts.after) p) ∙ later)).0 in
    (subst (λ (c : ℕ). names_page (pages_below ByLives (suc l) m c) p ≡ false) (sym parts.child) here, rw n.0 refl)

pub index_others : (level : ℕ) (m0 m1 m2 m3 : PageMap) (page : ℕ) (place : Place) (bytes : List ℕ) (entries shown : List LifeEntry) (k : ℕ) (step : Step) → m1 ≡ m0 → m0 page ≡ Some bytes
    → ReadIndex level place bytes entries shown k step → OthersStay (pages_below ByLives (level - 1) m1 step.child) m1 m2 → OthersStay (page ∷ []) m2 m3 → OthersStay (pages_below ByLives level m0 page) m0 m3
index_others zero m0 m1 m2 m3 page place bytes entries shown k step same there r below stored = absurd (omega (arith, r.fits.fits.rules.low_level))
index_others (suc zero) m0 m1 m2 m3 page place bytes entries shown k step same there r below stored = absurd (omega (arith, r.fits.fits.rules.low_level))
index_others (suc (suc l)) m0 m1 m2 m3 page place bytes entries shown k step same there r below stored =
    let less : suc (suc l) - 1 ≡ suc l = omega arith in
    let below1 = subst (λ (n : ℕ). OthersStay (pages_below ByLives n m1 step.child) m1 m2) less below in
    let below2 = subst (λ (m : PageMap). OthersStay (pages_below ByLives (suc l) m step.child) m m2) same below1 in
    others_then (pages_below ByLives (suc (suc l)) m0 page) (pages_below ByLives (suc l) m0 step.child) (page ∷ []) m0 m2 m3
    (outside_both l m0 page place bytes entries k step there r.fits (step_parts (suc (suc l)) place bytes entries shown k step r)) below2 stored

pub index_seen : (level : ℕ) (place : Place) (node : LifeNode) (bytes : List ℕ) (entries : List LifeEntry) (k : ℕ) (step : Step) → 2 ≤ level → FitsPlace ByLives level place node bytes
    → entries ≡ entries_in node → IsCut (entries_in node) k place.sought
    → ((d : LifeEntry) → IsStepTo step (get_or (entries_in node) (k - 1) d) (drop (k - 1 + 1) (entries_in node)) place.high place.sought) → place.sought < place.high
    → ReadIndex level place bytes entries (entries_in node) k step
index_seen level place node bytes entries k step high f same cut steps below =
    record {
      fits = index_read level place node bytes level entries f (index_is level node bytes high f.fits ∙ ap (index_of level) (sym same));
      same = sym same;
      cut = cut;
      steps = steps;
      some = begun_at ByLives level place node bytes k high f cut;
      below = below;
    }

-- the second page in terms of the answer
pub second_is : (o : Option LifeEntry) (s : LifeEntry) (low high : ℕ) → o ≡ Some s → SecondFits low high o → SecondFits low high (Some s)
second_is o s low high is fits = subst (λ (q : Option LifeEntry). SecondFits low high q) is fits

pub full_is : (o : Option LifeEntry) (s : LifeEntry) (level : ℕ) (m0 m1 : PageMap) (page sought : ℕ) → o ≡ Some s → m1 ≡ m0 → WasFull o (IsFullBelow level m1 page sought) → IsFullBelow level m0 page sought
full_is o s level m0 m1 page sought is same full =
    subst (λ (m : PageMap). IsFullBelow level m page sought) same (subst (λ (q : Option LifeEntry). WasFull q (IsFullBelow level m1 page sought)) is full)

pub whole_others : (node : LifeNode) (page : ℕ) (m n : PageMap) → IsWhole node m n page → OthersStay (page ∷ []) m n
whole_others node page m n s = λ p outside there. s.1 p (or_parts (page == p) false outside).0
