-- Where the next object of a walk stands.
use Rattle.std.proofs.Common.{◌≡◌, ◌≢◌, ℕ, zero, suc, ◌+◌, ◌-◌, ◌<◌, ◌≤◌, ◌⊎◌, inl, inr, List, [], ◌∷◌, ◌++◌, length, get_or, drop, Some, refl, sym, ap, ◌∙◌, subst, arith, append_assoc, drop-cons}
use Rattle.std.specs.List.{All, flat_map}
use Rattle.std.proofs.lemmas.List.{drop_all}
use Rattle.bw_types.specs.declared.dated.Dated.{Dated}
use Rattle.ports.specs.Pages.{PageMap}
use Rattle.page_layout.specs.declared.life_node.LifeNode.{LifeNode}
use Rattle.page_layout.specs.declared.life_node.LifeEntry.{LifeEntry}
use Rattle.object_table.specs.declared.form.Form.{Form}
use Rattle.object_table.specs.declared.path.Step.{Step}
use Rattle.object_table.specs.declared.place.Place.{Place}
use Rattle.object_table.specs.Keys.{key, low_key, key_end}
use Rattle.object_table.specs.Damage.{GoesBy, LeadsPast}
use Rattle.object_table.specs.Steps.{IsCut, IsStepTo}
use Rattle.object_table.specs.Nodes.{FitsLevel, node_on, entries_in, entries_on}
use Rattle.object_table.specs.Lives.{AreNext, lives_below, lives_from}
use Rattle.object_table.specs.Stands.{first_low, fewest, StandsBelow, RootStands}
use Rattle.object_table.proofs.Order.{Ascends, before_below}
use Rattle.object_table.proofs.Searching.{All-head}
use Rattle.object_table.proofs.Nexts.{from-append, from-none, next_before, next_past}
use Rattle.object_table.proofs.Nodes.{node_on-fits, entries_ascend}
use Rattle.object_table.proofs.LastLives.{step_path, child_stands}
use Rattle.object_table.proofs.Within.{own_lives, lives_within, Parts, parts_at}

-- Nothing stands before the path of the least key.
none_before : (es before : List LifeEntry) (at : LifeEntry) (after : List LifeEntry) (v high : ℕ) → Ascends es → first_low es high ≡ v → GoesBy es before at after v → before ≡ []
none_before es [] at after v high a first p = refl
none_before es (b ∷ before) at after v high a first p =
    let low : low_key b ≡ v = sym (ap (λ (xs : List LifeEntry). first_low xs high) p.whole) ∙ first in
    let below = All-head (λ (e : LifeEntry). low_key e < low_key at) b before (before_below (b ∷ before) at after (subst Ascends p.whole a)) in
    absurd (omega (arith, low, below, p.here))

-- what begins with the objects of the first entry
begun_by : (own : LifeEntry → List Dated) (before : List LifeEntry) (at : LifeEntry) (after : List LifeEntry) (whole found rest : List Dated)
    → whole ≡ flat_map own before ++ (own at ++ flat_map own after) → before ≡ [] → own at ≡ found ++ rest → whole ≡ found ++ (rest ++ flat_map own after)
begun_by own before at after whole found rest is none is_own =
    is ∙ ap (λ (es : List LifeEntry). flat_map own es ++ (own at ++ flat_map own after)) none ∙ ap (λ (xs : List Dated). xs ++ flat_map own after) is_own ∙ append_assoc found rest (flat_map own after)

pub first_index : (form : Form) (level : ℕ) (pages : PageMap) (page least k : ℕ) (place : Place) (step : Step) (node : LifeNode) (bytes : List ℕ) (entries : List LifeEntry) (found : List Dated)
    → 2 ≤ level → pages page ≡ Some bytes → FitsLevel form level node bytes → entries ≡ entries_in node → IsCut entries k place.sought → 1 ≤ k
    → ((d : LifeEntry) → IsStepTo step (get_or entries (k - 1) d) (drop (k - 1 + 1) entries) place.high place.sought)
    → ((l : ℕ) → step.place.sought ≡ step.place.low → StandsBelow form (level - 1) pages step.child step.place.low step.place.high l
    → (rest : List Dated) × (lives_below form (level - 1) pages step.child ≡ found ++ rest))
    → place.sought ≡ place.low → StandsBelow form level pages page place.low place.high least
    → (rest : List Dated) × (lives_below form level pages page ≡ found ++ rest)
first_index form zero pages page least k place step node bytes entries found high there fits same cut some steps below sought s = absurd (omega (arith, high))
first_index form (suc zero) pages page least k place step node bytes entries found high there fits same cut some steps below sought s = absurd (omega (arith, high))
first_index form (suc (suc level)) pages page least k place step node bytes entries found high there fits same cut some steps below sought s =
    let p = step_path entries k place.sought place.high step cut some steps in
    let on : entries ≡ entries_on form pages page = same ∙ ap entries_in (sym (node_on-fits form pages page (suc (suc level)) node bytes there fits)) in
    let goes = subst (λ (es : List LifeEntry). GoesBy es p.0 p.1 p.2 place.sought) on p.3 in
    let parts = parts_at form level pages page place.low place.high least p.0 p.1 p.2 s goes.whole in
    let first : first_low (entries_on form pages page) place.high ≡ place.sought = s.0.begins ∙ sym sought in
    let none = none_before (entries_on form pages page) p.0 p.1 p.2 place.sought place.high
    (entries_ascend form (suc (suc level)) (node_on form pages page) s.0.node.bytes s.0.node.fits) first goes in
    let start : low_key p.1 ≡ place.sought =
    sym (ap (λ (xs : List LifeEntry). first_low xs place.high) (goes.whole ∙ ap (λ (xs : List LifeEntry). xs ++ (p.1 ∷ p.2)) none)) ∙ first in
    let less : suc (suc level) - 1 ≡ suc level = omega arith in
    let below1 = subst (λ (n : ℕ). (l : ℕ) → step.place.sought ≡ step.place.low → StandsBelow form n pages step.child step.place.low step.place.high l
    → (rest : List Dated) × (lives_below form n pages step.child ≡ found ++ rest)) less below in
    let came = below1 (fewest form (suc level)) (p.4.place.sought ∙ sym start ∙ sym p.4.place.low)
    (child_stands form (suc level) pages place.high place.high place.sought step p.1 p.2 p.4 parts.own.0) in
    let own : LifeEntry → List Dated = own_lives form (suc level) pages in
    let is_own : own p.1 ≡ found ++ came.0 = ap (λ (c : ℕ). lives_below form (suc level) pages c) (sym p.4.child) ∙ came.1 in
    (came.0 ++ flat_map own p.2, begun_by own p.0 p.1 p.2 (lives_below form (suc (suc level)) pages page) found came.0 parts.whole none is_own)

-- Below the path's entry nothing is from the key sought on.
past_before : (form : Form) (level : ℕ) (pages : PageMap) (page high v : ℕ) (before : List LifeEntry) (at : LifeEntry) (after : List LifeEntry)
    → Parts form level pages page high before at after → low_key at ≤ v
    → lives_from v (lives_below form (suc (suc level)) pages page)
    ≡ lives_from v (own_lives form (suc level) pages at) ++ lives_from v (flat_map (own_lives form (suc level) pages) after)
past_before form level pages page high v before at after parts here =
    let own : LifeEntry → List Dated = own_lives form (suc level) pages in
    let none : lives_from v (flat_map own before) ≡ [] = from-none v (flat_map own before) (λ k d h. let w = parts.below k d h in omega (arith, w.ends, here)) in
    ap (lives_from v) parts.whole ∙ from-append v (flat_map own before) (own at ++ flat_map own after)
    ∙ ap (λ (xs : List Dated). xs ++ lives_from v (own at ++ flat_map own after)) none ∙ from-append v (own at) (flat_map own after)

pub walk_found : (form : Form) (level : ℕ) (pages : PageMap) (page least k : ℕ) (place : Place) (step : Step) (node : LifeNode) (bytes : List ℕ) (entries : List LifeEntry) (found : List Dated)
    → 2 ≤ level → pages page ≡ Some bytes → FitsLevel form level node bytes → entries ≡ entries_in node → IsCut entries k place.sought → 1 ≤ k
    → ((d : LifeEntry) → IsStepTo step (get_or entries (k - 1) d) (drop (k - 1 + 1) entries) place.high place.sought)
    → ((l : ℕ) → StandsBelow form (level - 1) pages step.child step.place.low step.place.high l → AreNext found step.place.sought (lives_below form (level - 1) pages step.child))
    → StandsBelow form level pages page place.low place.high least → (1 ≤ length found) ⊎ (length entries ≤ k)
    → AreNext found place.sought (lives_below form level pages page)
walk_found form zero pages page least k place step node bytes entries found high there fits same cut some steps below s end = absurd (omega (arith, high))
walk_found form (suc zero) pages page least k place step node bytes entries found high there fits same cut some steps below s end = absurd (omega (arith, high))
walk_found form (suc (suc level)) pages page least k place step node bytes entries found high there fits same cut some steps below s end =
    let p = step_path entries k place.sought place.high step cut some steps in
    let on : entries ≡ entries_on form pages page = same ∙ ap entries_in (sym (node_on-fits form pages page (suc (suc level)) node bytes there fits)) in
    let goes = subst (λ (es : List LifeEntry). GoesBy es p.0 p.1 p.2 place.sought) on p.3 in
    let parts = parts_at form level pages page place.low place.high least p.0 p.1 p.2 s goes.whole in
    let less : suc (suc level) - 1 ≡ suc level = omega arith in
    let below1 = subst (λ (n : ℕ). (l : ℕ) → StandsBelow form n pages step.child step.place.low step.place.high l → AreNext found step.place.sought (lives_below form n pages step.child)) less below in
    let own : LifeEntry → List Dated = own_lives form (suc level) pages in
    let v : ℕ = place.sought in
    let mine : AreNext found v (own p.1) =
    subst (λ (c : ℕ). AreNext found v (lives_below form (suc level) pages c)) p.4.child
    (subst (λ (n : ℕ). AreNext found n (lives_below form (suc level) pages step.child)) p.4.place.sought
    (below1 (fewest form (suc level)) (child_stands form (suc level) pages place.high place.high v step p.1 p.2 p.4 parts.own.0))) in
    let whole = past_before form level pages page place.high v p.0 p.1 p.2 parts goes.here in
    next_before v found (lives_below form (suc (suc level)) pages page) (own p.1) (lives_from v (flat_map own p.2)) mine whole (elim end [
      | inl is_some ↦ inl is_some
      | inr last ↦ inr (ap (λ (es : List LifeEntry). lives_from v (flat_map own es)) (p.5 ∙ drop_all k entries last))
    ])

-- the node leads past the path's entry to the next one
pub past_leads : (place : Place) (node : LifeNode) (entries : List LifeEntry) (k : ℕ) (step next : Step) → entries ≡ entries_in node → IsCut entries k place.sought → 1 ≤ k
    → ((d : LifeEntry) → IsStepTo step (get_or entries (k - 1) d) (drop (k - 1 + 1) entries) place.high place.sought)
    → k < length entries → ((d : LifeEntry) → IsStepTo next (get_or entries k d) (drop (k + 1) entries) place.high (low_key (get_or entries k d)))
    → LeadsPast place node next.child next.place
past_leads place node entries k step next same cut some steps within nexts =
    let d : LifeEntry = record { low_id = 0; low_life = 0; child = 0 } in
    let p = step_path entries k place.sought place.high step cut some steps in
    let more : k + 1 ≡ suc k = omega arith in
    let is = subst (λ (n : ℕ). IsStepTo next (get_or entries k d) (drop n entries) place.high (low_key (get_or entries k d))) more (nexts d) in
    let rest : p.2 ≡ get_or entries k d ∷ drop (suc k) entries = p.5 ∙ drop-cons entries k d within in
    let goes = subst (λ (es : List LifeEntry). GoesBy es p.0 p.1 p.2 place.sought) same p.3 in
    (p.0, p.1, get_or entries k d, drop (suc k) entries, subst (λ (xs : List LifeEntry). GoesBy (entries_in node) p.0 p.1 xs place.sought) rest goes, is.child, is.place)

pub walk_past : (form : Form) (level : ℕ) (pages : PageMap) (page least k : ℕ) (place : Place) (step next : Step) (node : LifeNode) (bytes : List ℕ) (entries : List LifeEntry) (found first : List Dated)
    → 2 ≤ level → pages page ≡ Some bytes → FitsLevel form level node bytes → entries ≡ entries_in node → IsCut entries k place.sought → 1 ≤ k
    → ((d : LifeEntry) → IsStepTo step (get_or entries (k - 1) d) (drop (k - 1 + 1) entries) place.high place.sought)
    → ((l : ℕ) → StandsBelow form (level - 1) pages step.child step.place.low step.place.high l → AreNext found step.place.sought (lives_below form (level - 1) pages step.child))
    → found ≡ [] → k < length entries
    → ((d : LifeEntry) → IsStepTo next (get_or entries k d) (drop (k + 1) entries) place.high (low_key (get_or entries k d)))
    → ((l : ℕ) → next.place.sought ≡ next.place.low → StandsBelow form (level - 1) pages next.child next.place.low next.place.high l
    → (rest : List Dated) × (lives_below form (level - 1) pages next.child ≡ first ++ rest)) → 1 ≤ length first
    → StandsBelow form level pages page place.low place.high least
    → AreNext first place.sought (lives_below form level pages page)
walk_past form zero pages page least k place step next node bytes entries found first high there fits same cut some steps below none within nexts beyond more s = absurd (omega (arith, high))
walk_past form (suc zero) pages page least k place step next node bytes entries found first high there fits same cut some steps below none within nexts beyond more s = absurd (omega (arith, high))
walk_past form (suc (suc level)) pages page least k place step next node bytes entries found first high there fits same cut some steps below none within nexts beyond more s =
    let d : LifeEntry = record { low_id = 0; low_life = 0; child = 0 } in
    let f : LifeEntry = get_or entries k d in
    let fs : List LifeEntry = drop (suc k) entries in
    let p = step_path entries k place.sought place.high step cut some steps in
    let and_one : k + 1 ≡ suc k = omega arith in
    let is = subst (λ (n : ℕ). IsStepTo next f (drop n entries) place.high (low_key f)) and_one (nexts d) in
    let rest : p.2 ≡ f ∷ fs = p.5 ∙ drop-cons entries k d within in
    let on : entries ≡ entries_on form pages page = same ∙ ap entries_in (sym (node_on-fits form pages page (suc (suc level)) node bytes there fits)) in
    let goes = subst (λ (xs : List LifeEntry). GoesBy (entries_on form pages page) p.0 p.1 xs place.sought) rest (subst (λ (es : List LifeEntry). GoesBy es p.0 p.1 p.2 place.sought) on p.3) in
    let parts = parts_at form level pages page place.low place.high least p.0 p.1 (f ∷ fs) s goes.whole in
    let less : suc (suc level) - 1 ≡ suc level = omega arith in
    let below1 = subst (λ (n : ℕ). (l : ℕ) → StandsBelow form n pages step.child step.place.low step.place.high l → AreNext found step.place.sought (lives_below form n pages step.child)) less below in
    let beyond1 = subst (λ (n : ℕ). (l : ℕ) → next.place.sought ≡ next.place.low → StandsBelow form n pages next.child next.place.low next.place.high l
    → (rest : List Dated) × (lives_below form n pages next.child ≡ first ++ rest)) less beyond in
    let own : LifeEntry → List Dated = own_lives form (suc level) pages in
    let v : ℕ = place.sought in
    let at_step = subst (λ (xs : List LifeEntry). IsStepTo step p.1 xs place.high v) rest p.4 in
    let mine : AreNext found v (own p.1) =
    subst (λ (c : ℕ). AreNext found v (lives_below form (suc level) pages c)) p.4.child
    (subst (λ (n : ℕ). AreNext found n (lives_below form (suc level) pages step.child)) p.4.place.sought
    (below1 (fewest form (suc level)) (child_stands form (suc level) pages place.high place.high v step p.1 (f ∷ fs) at_step parts.own.0))) in
    let whole = past_before form level pages page place.high v p.0 p.1 (f ∷ fs) parts goes.here in
    let came = beyond1 (fewest form (suc level)) (is.place.sought ∙ sym is.place.low) (child_stands form (suc level) pages place.high place.high (low_key f) next f fs is parts.later.0.0) in
    let is_own : own f ≡ first ++ came.0 = ap (λ (c : ℕ). lives_below form (suc level) pages c) (sym is.child) ∙ came.1 in
    let later : v < low_key f = All-head (λ (e : LifeEntry). v < low_key e) f fs goes.later in
    let inside = lives_within form (suc level) pages f.child (low_key f) (first_low fs place.high) (fewest form (suc level)) parts.later.0.0 in
    let all : All (λ (d : Dated). v ≤ key d) (own f) = λ i d h. omega (arith, later, (inside i d h).from) in
    next_past v found first (lives_below form (suc (suc level)) pages page) (own p.1) (own f) (flat_map own fs) came.0 mine none whole is_own all more

pub root_next : (form : Form) (levels : ℕ) (pages : PageMap) (root sought : ℕ) (found : List Dated)
    → ((least : ℕ) → StandsBelow form levels pages root 0 key_end least → AreNext found sought (lives_below form levels pages root))
    → levels ≢ 0 → RootStands form levels pages root → AreNext found sought (lives_below form levels pages root)
root_next form zero pages root sought found below some s = absurd (some refl)
root_next form (suc level) pages root sought found below some s = below 1 s
