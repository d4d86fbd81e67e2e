-- Where the last life of an id stands.
use Rattle.std.proofs.Common.{◌≡◌, ◌≢◌, ℕ, zero, suc, ◌+◌, ◌-◌, ◌*◌, ◌^◌, ◌<◌, ◌≤◌, inl, inr, List, [], ◌∷◌, ◌++◌, get_or, take, drop, Option, Some, None, refl, sym, ap, ◌∙◌, subst, arith}
use Rattle.std.specs.List.{All, flat_map}
use Rattle.std.specs.Option.{option_or}
use Rattle.std.proofs.lemmas.Bool.{cases_eq, ne_eqb, eq-eqb}
use Rattle.std.proofs.lemmas.List.{take_more}
use Rattle.bw_types.specs.declared.dated.Dated.{Dated}
use Rattle.ports.specs.Pages.{PageMap}
use Rattle.page_layout.specs.declared.life_node.LifeNode.{LifeNode}
use Rattle.page_layout.specs.declared.life_node.LifeEntry.{LifeEntry}
use Rattle.object_table.specs.declared.form.Form.{Form}
use Rattle.object_table.specs.declared.path.Step.{Step}
use Rattle.object_table.specs.declared.place.Place.{Place}
use Rattle.object_table.specs.Keys.{low_key, greatest_key, key_end}
use Rattle.object_table.specs.Damage.{GoesBy, LeadsTo}
use Rattle.object_table.specs.Steps.{IsCut, IsStepTo}
use Rattle.object_table.specs.Nodes.{FitsLevel, entries_in, entries_on}
use Rattle.object_table.specs.Lives.{last_life, lives_below}
use Rattle.object_table.specs.Stands.{first_low, KeepsItsLow, fewest, StandsBelow, RootStands}
use Rattle.object_table.proofs.Order.{GoesBy-cut}
use Rattle.object_table.proofs.Searching.{or_none, last_life-append, last_life-begins, last_life-none, All-head}
use Rattle.object_table.proofs.Nodes.{node_on-fits}
use Rattle.object_table.proofs.Within.{IsWithin, own_lives, lives_within, parts_at}

none_before : (id bound : ℕ) (low : ℕ) (ds : List Dated) → bound ≤ id * 2 ^ 32 → All (IsWithin low bound) ds → last_life id ds ≡ None
none_before id bound low ds small all = last_life-none id ds (λ k d h.
    let w = all k d h in
    ne_eqb (get_or ds k d).object.id id (λ e. omega (arith, e, w.ends, small)))

none_after : (id low high : ℕ) (ds : List Dated) → greatest_key id < low → All (IsWithin low high) ds → last_life id ds ≡ None
none_after id low high ds great all = last_life-none id ds (λ k d h.
    let w = all k d h in
    ne_eqb (get_or ds k d).object.id id (λ e. omega (arith, e, w.from, w.typed, great)))

-- Where objects begin with the entry's low, no life of the id stands before them that is the last.
drop_before : (id : ℕ) (e : LifeEntry) (low high : ℕ) (before own : List Dated) → low_key e ≤ greatest_key id → All (IsWithin low (low_key e)) before
    → All (IsWithin (low_key e) high) own → KeepsItsLow e own → option_or (last_life id own) (last_life id before) ≡ last_life id own
drop_before id e low high before own here below within (inl first) =
    let small : low_key e ≤ id * 2 ^ 32 = omega (arith, first, here) in
    ap (λ (o : Option Dated). option_or (last_life id own) o) (none_before id (low_key e) low before small below) ∙ or_none (last_life id own)
drop_before id e low high before [] here below within (inr begins) = absurd begins
drop_before id e low high before (d ∷ ds) here below within (inr begins) = elim (cases_eq d.object.id id) [
  | inl same ↦ last_life-begins id d ds (last_life id before) (eq-eqb d.object.id id same)
  | inr other ↦
      let w = All-head (IsWithin (low_key e) high) d ds within in
      let small : low_key e ≤ id * 2 ^ 32 = omega (arith, begins, here, w.typed, other) in
      ap (λ (o : Option Dated). option_or (last_life id (d ∷ ds)) o) (none_before id (low_key e) low before small below) ∙ or_none (last_life id (d ∷ ds))
]

-- The last life of the id is that under the path's entry.
last_at_path : (id : ℕ) (e : LifeEntry) (low high end : ℕ) (before own after : List Dated) → low_key e ≤ greatest_key id
    → All (IsWithin low (low_key e)) before → All (IsWithin (low_key e) high) own → KeepsItsLow e own → last_life id after ≡ None
    → last_life id (before ++ (own ++ after)) ≡ last_life id own
last_at_path id e low high end before own after here below within keeps none =
    last_life-append id before (own ++ after)
    ∙ ap (λ (o : Option Dated). option_or o (last_life id before)) (last_life-append id own after ∙ ap (λ (o : Option Dated). option_or o (last_life id own)) none)
    ∙ drop_before id e low high before own here below within keeps

none_past : (form : Form) (level : ℕ) (pages : PageMap) (id high : ℕ) (after : List LifeEntry) → All (λ e. greatest_key id < low_key e) after
    → All (IsWithin (first_low after high) high) (flat_map (own_lives form level pages) after) → last_life id (flat_map (own_lives form level pages) after) ≡ None
none_past form level pages id high [] later all = refl
none_past form level pages id high (f ∷ fs) later all =
    none_after id (low_key f) high (flat_map (own_lives form level pages) (f ∷ fs)) (All-head (λ (e : LifeEntry). greatest_key id < low_key e) f fs later) all

pub last_below : (form : Form) (level : ℕ) (pages : PageMap) (page low high least id : ℕ) (before : List LifeEntry) (at : LifeEntry) (after : List LifeEntry)
    → StandsBelow form (suc (suc level)) pages page low high least → GoesBy (entries_on form pages page) before at after (greatest_key id)
    → last_life id (lives_below form (suc (suc level)) pages page) ≡ last_life id (lives_below form (suc level) pages at.child)
last_below form level pages page low high least id before at after s p =
    let parts = parts_at form level pages page low high least before at after s p.whole in
    let own : LifeEntry → List Dated = own_lives form (suc level) pages in
    ap (last_life id) parts.whole
    ∙ last_at_path id at (first_low before (low_key at)) (first_low after high) high (flat_map own before) (own at) (flat_map own after) p.here parts.below
    (lives_within form (suc level) pages at.child (low_key at) (first_low after high) (fewest form (suc level)) parts.own.0) parts.own.1
    (none_past form (suc level) pages id high after p.later parts.above)

-- what a step on the path leads to
pub step_path : (entries : List LifeEntry) (k v end : ℕ) (step : Step) → IsCut entries k v → 1 ≤ k
    → ((d : LifeEntry) → IsStepTo step (get_or entries (k - 1) d) (drop (k - 1 + 1) entries) end v)
    → (before : List LifeEntry) × (at : LifeEntry) × (after : List LifeEntry) × GoesBy entries before at after v × IsStepTo step at after end v × (after ≡ drop k entries) × (take k entries ≡ before ++ (at ∷ []))
step_path entries zero v end step cut some steps = absurd (omega (arith, some))
step_path entries (suc k) v end step cut some steps =
    let d : LifeEntry = record { low_id = 0; low_life = 0; child = 0 } in
    let less : suc k - 1 ≡ k = omega arith in
    let more : suc k - 1 + 1 ≡ suc k = omega arith in
    let is1 = subst (λ (n : ℕ). IsStepTo step (get_or entries n d) (drop (suc k - 1 + 1) entries) end v) less (steps d) in
    let is2 = subst (λ (n : ℕ). IsStepTo step (get_or entries k d) (drop n entries) end v) more is1 in
    let more1 : suc k ≡ k + 1 = omega arith in
    (take k entries, get_or entries k d, drop (suc k) entries, GoesBy-cut entries k v d cut, is2, refl, ap (λ (n : ℕ). take n entries) more1 ∙ take_more entries k d (omega (arith, cut.bound)))

pub step_leads : (place : Place) (node : LifeNode) (entries : List LifeEntry) (k : ℕ) (step : Step) → entries ≡ entries_in node → IsCut entries k place.sought → 1 ≤ k
    → ((d : LifeEntry) → IsStepTo step (get_or entries (k - 1) d) (drop (k - 1 + 1) entries) place.high place.sought)
    → LeadsTo place node step.child step.place
step_leads place node entries k step same cut some steps =
    let p = step_path entries k place.sought place.high step cut some steps in
    (p.0, p.1, p.2, subst (λ (es : List LifeEntry). GoesBy es p.0 p.1 p.2 place.sought) same p.3, p.4.child, p.4.place)

-- the place of a child that a step leads to stands
pub child_stands : (form : Form) (level : ℕ) (pages : PageMap) (high end from : ℕ) (step : Step) (at : LifeEntry) (after : List LifeEntry) → IsStepTo step at after end from
    → StandsBelow form level pages at.child (low_key at) (first_low after end) (fewest form level)
    → StandsBelow form level pages step.child step.place.low step.place.high (fewest form level)
child_stands form level pages high end from step at after is s =
    let s1 = subst (λ (c : ℕ). StandsBelow form level pages c (low_key at) (first_low after end) (fewest form level)) (sym is.child) s in
    let s2 = subst (λ (l : ℕ). StandsBelow form level pages step.child l (first_low after end) (fewest form level)) (sym is.place.low) s1 in
    subst (λ (h : ℕ). StandsBelow form level pages step.child step.place.low h (fewest form level)) (sym is.place.high) s2

pub find_index : (form : Form) (level : ℕ) (pages : PageMap) (page id least k : ℕ) (place : Place) (step : Step) (node : LifeNode) (bytes : List ℕ) (entries : List LifeEntry) (found : Option Dated)
    → 2 ≤ level → pages page ≡ Some bytes → FitsLevel form level node bytes → entries ≡ entries_in node → IsCut entries k place.sought → 1 ≤ k
    → ((d : LifeEntry) → IsStepTo step (get_or entries (k - 1) d) (drop (k - 1 + 1) entries) place.high place.sought)
    → ((l : ℕ) → StandsBelow form (level - 1) pages step.child step.place.low step.place.high l → found ≡ last_life id (lives_below form (level - 1) pages step.child))
    → place.sought ≡ greatest_key id → StandsBelow form level pages page place.low place.high least
    → found ≡ last_life id (lives_below form level pages page)
find_index form zero pages page id least k place step node bytes entries found high there fits same cut some steps below sought s = absurd (omega (arith, high))
find_index form (suc zero) pages page id least k place step node bytes entries found high there fits same cut some steps below sought s = absurd (omega (arith, high))
find_index form (suc (suc level)) pages page id least k place step node bytes entries found high there fits same cut some steps below sought s =
    let p = step_path entries k place.sought place.high step cut some steps in
    let on : entries ≡ entries_on form pages page = same ∙ ap entries_in (sym (node_on-fits form pages page (suc (suc level)) node bytes there fits)) in
    let goes = subst (λ (v : ℕ). GoesBy (entries_on form pages page) p.0 p.1 p.2 v) sought (subst (λ (es : List LifeEntry). GoesBy es p.0 p.1 p.2 place.sought) on p.3) in
    let parts = parts_at form level pages page place.low place.high least p.0 p.1 p.2 s goes.whole in
    let less : suc (suc level) - 1 ≡ suc level = omega arith in
    let below1 = subst (λ (n : ℕ). (l : ℕ) → StandsBelow form n pages step.child step.place.low step.place.high l → found ≡ last_life id (lives_below form n pages step.child)) less below in
    below1 (fewest form (suc level)) (child_stands form (suc level) pages place.high place.high place.sought step p.1 p.2 p.4 parts.own.0)
    ∙ ap (λ (c : ℕ). last_life id (lives_below form (suc level) pages c)) p.4.child
    ∙ sym (last_below form level pages page place.low place.high least id p.0 p.1 p.2 s goes)

pub root_last : (form : Form) (levels : ℕ) (pages : PageMap) (root id : ℕ) (found : Option Dated)
    → ((least : ℕ) → greatest_key id ≡ greatest_key id → StandsBelow form levels pages root 0 key_end least → found ≡ last_life id (lives_below form levels pages root))
    → levels ≢ 0 → RootStands form levels pages root → found ≡ last_life id (lives_below form levels pages root)
root_last form zero pages root id found below some s = absurd (some refl)
root_last form (suc level) pages root id found below some s = below 1 refl s
