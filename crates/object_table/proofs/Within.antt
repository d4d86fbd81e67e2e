-- The keys of what stands below a page.
use Rattle.std.proofs.Common.{◌≡◌, ℕ, zero, suc, ◌^◌, ◌<◌, ◌≤◌, List, [], ◌∷◌, ◌++◌, ap, ◌∙◌, subst, arith}
use Rattle.std.specs.List.{All, flat_map}
use Rattle.std.proofs.lemmas.List.Elements.{All-nil}
use Rattle.std.proofs.lemmas.List.Concat.{flat_map-append}
use Rattle.bw_types.specs.declared.dated.Dated.{Dated}
use Rattle.ports.specs.Pages.{PageMap}
use Rattle.page_layout.specs.declared.life_node.LifeEntry.{LifeEntry}
use Rattle.object_table.specs.declared.form.Form.{Form}
use Rattle.object_table.specs.Keys.{key, low_key}
use Rattle.object_table.specs.Nodes.{node_on, entries_on}
use Rattle.object_table.specs.Lives.{lives_below}
use Rattle.object_table.specs.Stands.{first_low, KeepsItsLow, EachStands, fewest, StandsBelow}
use Rattle.object_table.proofs.Order.{Ascends, All-right, All-join, EachStands-path, first_low-above, first_low-within, before_ascends, before_below, after_ascends}
use Rattle.object_table.proofs.Searching.{All-tail}
use Rattle.object_table.proofs.Nodes.{lives_typed, entries_ascend}

-- The key lies from `low` to before `high`, and the life is below its type's end.
pub record IsWithin (low high : ℕ) (d : Dated) : Type 0 where
  pub from : low ≤ key d
  pub ends : key d < high
  pub typed : d.life < 2 ^ 32

widened : (low high from to : ℕ) (ds : List Dated) → from ≤ low → high ≤ to → All (IsWithin low high) ds → All (IsWithin from to) ds
widened low high from to ds below above all = λ k d h.
    let w = all k d h in
    record { from = omega (arith, below, w.from); ends = omega (arith, above, w.ends); typed = w.typed }

pub each_within : (stands : LifeEntry → ℕ → Type 0) (own : LifeEntry → List Dated)
    → ((e : LifeEntry) (to : ℕ) → stands e to → All (IsWithin (low_key e) to) (own e))
    → (es : List LifeEntry) (high : ℕ) → Ascends es → All (λ e. low_key e < high) es → EachStands stands es high
    → All (IsWithin (first_low es high) high) (flat_map own es)
each_within stands own each [] high a ends s = All-nil (IsWithin high high)
each_within stands own each (e ∷ es) high a ends s =
    let below : low_key e < high = ends 0 e (omega arith) in
    let rest_ends = All-tail (λ (e : LifeEntry). low_key e < high) e es ends in
    let above = first_low-above e es high a below in
    let first = widened (low_key e) (first_low es high) (low_key e) high (own e) (omega arith) (first_low-within es high rest_ends) (each e (first_low es high) s.0) in
    let rest = widened (first_low es high) high (low_key e) high (flat_map own es) (omega (arith, above)) (omega arith) (each_within stands own each es high a.1 rest_ends s.1) in
    All-join (IsWithin (low_key e) high) (own e) (flat_map own es) first rest

-- the stands of an entry's child
abbrev pub ChildStands : Form → ℕ → PageMap → LifeEntry → ℕ → Type 0
ChildStands form level pages e to = StandsBelow form level pages e.child (low_key e) to (fewest form level) × KeepsItsLow e (lives_below form level pages e.child)

-- the objects under an entry
abbrev pub own_lives : Form → ℕ → PageMap → LifeEntry → List Dated
own_lives form level pages e = lives_below form level pages e.child

pub lives_within : (form : Form) (level : ℕ) (pages : PageMap) (page low high least : ℕ) → StandsBelow form level pages page low high least
    → All (IsWithin low high) (lives_below form level pages page)
lives_within form zero pages page low high least s = absurd s
lives_within form (suc zero) pages page low high least s = λ k d h.
    record { from = s.from k d h; ends = s.ends k d h; typed = lives_typed form 1 (node_on form pages page) s.node.bytes s.node.fits k d h }
lives_within form (suc (suc level)) pages page low high least s =
    let es : List LifeEntry = entries_on form pages page in
    let all = each_within (ChildStands form (suc level) pages) (own_lives form (suc level) pages)
    (λ e to stands. lives_within form (suc level) pages e.child (low_key e) to (fewest form (suc level)) stands.0)
    es high (entries_ascend form (suc (suc level)) (node_on form pages page) s.0.node.bytes s.0.node.fits) s.0.ends s.1 in
    subst (λ (l : ℕ). All (IsWithin l high) (flat_map (own_lives form (suc level) pages) es)) s.0.begins all

-- What a node that stands says of one of its entries, and of those before and after it.
pub record Parts (form : Form) (level : ℕ) (pages : PageMap) (page high : ℕ) (before : List LifeEntry) (at : LifeEntry) (after : List LifeEntry) : Type 0 where
  pub own : ChildStands form (suc level) pages at (first_low after high)
  pub later : EachStands (ChildStands form (suc level) pages) after high
  pub whole : lives_below form (suc (suc level)) pages page
      ≡ flat_map (own_lives form (suc level) pages) before ++ (own_lives form (suc level) pages at ++ flat_map (own_lives form (suc level) pages) after)
  pub below : All (IsWithin (first_low before (low_key at)) (low_key at)) (flat_map (own_lives form (suc level) pages) before)
  pub above : All (IsWithin (first_low after high) high) (flat_map (own_lives form (suc level) pages) after)

pub parts_at : (form : Form) (level : ℕ) (pages : PageMap) (page low high least : ℕ) (before : List LifeEntry) (at : LifeEntry) (after : List LifeEntry)
    → StandsBelow form (suc (suc level)) pages page low high least → entries_on form pages page ≡ before ++ (at ∷ after)
    → Parts form level pages page high before at after
parts_at form level pages page low high least before at after s whole =
    let own : LifeEntry → List Dated = own_lives form (suc level) pages in
    let each = EachStands-path (ChildStands form (suc level) pages) (entries_on form pages page) before at after high whole s.1 in
    let rec : (e : LifeEntry) (to : ℕ) → ChildStands form (suc level) pages e to → All (IsWithin (low_key e) to) (own e) =
    λ e to stands. lives_within form (suc level) pages e.child (low_key e) to (fewest form (suc level)) stands.0 in
    let a = subst Ascends whole (entries_ascend form (suc (suc level)) (node_on form pages page) s.0.node.bytes s.0.node.fits) in
    let ends = All-right (λ (e : LifeEntry). low_key e < high) before (at ∷ after) (subst (λ (es : List LifeEntry). All (λ (e : LifeEntry). low_key e < high) es) whole s.0.ends) in
    record {
      own = each.1.0;
      later = each.1.1;
      whole = ap (flat_map own) whole ∙ flat_map-append own before (at ∷ after);
      below = each_within (ChildStands form (suc level) pages) own rec before (low_key at) (before_ascends before (at ∷ after) a) (before_below before at after a) each.0;
      above = each_within (ChildStands form (suc level) pages) own rec after high (after_ascends before at after a).1 (All-tail (λ (e : LifeEntry). low_key e < high) at after ends) each.1.1;
    }
