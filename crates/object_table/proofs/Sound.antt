-- Where a table stands, no call finds it damaged.
use Rattle.std.proofs.Common.{◌≡◌, ℕ, zero, suc, ◌<◌, ◌≤◌, inl, inr, List, [], ◌∷◌, ◌++◌, Some, refl, sym, ap, ◌∙◌, subst, arith}
use Rattle.std.specs.List.{All}
use Rattle.std.proofs.lemmas.List.Elements.{All-nil}
use Rattle.bw_types.specs.declared.dated.Dated.{Dated}
use Rattle.ports.specs.Pages.{PageMap}
use Rattle.page_layout.specs.Damage.{IsDamagedBelow, NothingBeside}
use Rattle.page_layout.specs.declared.life_node.LifeNode.{LifeNode}
use Rattle.page_layout.specs.declared.life_node.LifeEntry.{LifeEntry}
use Rattle.object_table.specs.declared.form.Form.{Form}
use Rattle.object_table.specs.declared.place.Place.{Place}
use Rattle.object_table.specs.Keys.{key, low_key}
use Rattle.object_table.specs.Damage.{FitsPlace, LeadsTo, LeadsOn, root_place}
use Rattle.object_table.specs.Nodes.{node_on, entries_in}
use Rattle.object_table.specs.Stands.{LeafStands, IndexStands, first_low, fewest, StandsBelow, RootStands}
use Rattle.object_table.proofs.Order.{all_from}
use Rattle.object_table.proofs.Nodes.{leaf_entries, index_objects, entries_ascend, same_spelled}
use Rattle.object_table.proofs.Within.{parts_at}

pub leaf_fits : (form : Form) (pages : PageMap) (page least : ℕ) (place : Place) (s : LeafStands form pages page place.low place.high least)
    → FitsPlace form 1 place (node_on form pages page) s.node.bytes
leaf_fits form pages page least place s =
    let none = sym (leaf_entries form (node_on form pages page) s.node.bytes s.node.fits) in
    record {
      fits = s.node.fits;
      admitted = record {
        from = s.from;
        ends = s.ends;
        begin = subst (λ (es : List LifeEntry). All (λ (e : LifeEntry). place.low ≤ low_key e) es) none (All-nil (λ (e : LifeEntry). place.low ≤ low_key e));
        below = subst (λ (es : List LifeEntry). All (λ (e : LifeEntry). low_key e < place.high) es) none (All-nil (λ (e : LifeEntry). low_key e < place.high));
        leads = inl refl;
      };
    }

pub index_fits : (form : Form) (level : ℕ) (pages : PageMap) (page least : ℕ) (place : Place) (s : IndexStands form pages (suc (suc level)) page place.low place.high least)
    → place.low ≤ place.sought → FitsPlace form (suc (suc level)) place (node_on form pages page) s.node.bytes
index_fits form level pages page least place s from =
    let node : LifeNode = node_on form pages page in
    let none = sym (index_objects form level node s.node.bytes s.node.fits) in
    record {
      fits = s.node.fits;
      admitted = record {
        from = subst (λ (ds : List Dated). All (λ (d : Dated). place.low ≤ key d) ds) none (All-nil (λ (d : Dated). place.low ≤ key d));
        ends = subst (λ (ds : List Dated). All (λ (d : Dated). key d < place.high) ds) none (All-nil (λ (d : Dated). key d < place.high));
        begin = all_from (entries_in node) place.low place.high (entries_ascend form (suc (suc level)) node s.node.bytes s.node.fits) s.begins;
        below = s.ends;
        leads = inr (subst (λ (n : ℕ). n ≤ place.sought) (sym s.begins) from);
      };
    }

pub some_same : (x y : List ℕ) → Some x ≡ Some y → x ≡ y
some_same x y e = cc

-- A child to which a node leads is one of its entries', for a key from its low on.
pub record StepsInside (place : Place) (node : LifeNode) (child : ℕ) (inner : Place) : Type 0 where
  pub before : List LifeEntry
  pub at : LifeEntry
  pub after : List LifeEntry
  pub whole : entries_in node ≡ before ++ (at ∷ after)
  pub child_is : child ≡ at.child
  pub low : inner.low ≡ low_key at
  pub high : inner.high ≡ first_low after place.high
  pub from : inner.low ≤ inner.sought

pub to_inside : (place : Place) (node : LifeNode) (child : ℕ) (inner : Place) → LeadsTo place node child inner → StepsInside place node child inner
to_inside place node child inner l = record {
  before = l.0;
  at = l.1;
  after = l.2;
  whole = l.3.whole;
  child_is = l.4;
  low = l.5.low;
  high = l.5.high;
  from = omega (arith, l.5.low, l.5.sought, l.3.here);
}

append_one : (before : List LifeEntry) (at : LifeEntry) (rest : List LifeEntry) → before ++ (at ∷ rest) ≡ (before ++ (at ∷ [])) ++ rest
append_one [] at rest = refl
append_one (b ∷ before) at rest = ap (λ (es : List LifeEntry). b ∷ es) (append_one before at rest)

pub on_inside : (place : Place) (node : LifeNode) (child : ℕ) (inner : Place) → LeadsOn place node child inner → StepsInside place node child inner
on_inside place node child inner (inl l) = to_inside place node child inner l
on_inside place node child inner (inr l) = record {
  before = l.0 ++ (l.1 ∷ []);
  at = l.2;
  after = l.3;
  whole = l.4.whole ∙ append_one l.0 l.1 (l.2 ∷ l.3);
  child_is = l.5;
  low = l.6.low;
  high = l.6.high;
  from = omega (arith, l.6.low, l.6.sought);
}

module _ (leads : Place → LifeNode → ℕ → Place → Type 0)
    (inside : (place : Place) (node : LifeNode) (child : ℕ) (inner : Place) → leads place node child inner → StepsInside place node child inner) where
  pub undamaged : (form : Form) (level : ℕ) (pages : PageMap) (page least damaged : ℕ) (place : Place) → StandsBelow form level pages page place.low place.high least
      → place.low ≤ place.sought → IsDamagedBelow (FitsPlace form) leads NothingBeside pages level place page damaged → ⊥
  undamaged form zero pages page least damaged place s from d = d
  undamaged form (suc zero) pages page least damaged place s from (inl d) = d.1 (node_on form pages page) s.node.bytes s.node.there (leaf_fits form pages page least place s)
  undamaged form (suc zero) pages page least damaged place s from (inr (inl d)) = d.4
  undamaged form (suc zero) pages page least damaged place s from (inr (inr d)) = d.7
  undamaged form (suc (suc level)) pages page least damaged place s from (inl d) =
      d.1 (node_on form pages page) s.0.node.bytes s.0.node.there (index_fits form level pages page least place s.0 from)
  undamaged form (suc (suc level)) pages page least damaged place s from (inr (inl d)) = d.4
  undamaged form (suc (suc level)) pages page least damaged place s from (inr (inr d)) =
      let l : ℕ = suc (suc level) in
      let bytes : d.1 ≡ s.0.node.bytes = some_same d.1 s.0.node.bytes (sym d.4 ∙ s.0.node.there) in
      let fits = subst (λ (b : List ℕ). FitsPlace form l place d.0 b) bytes d.5 in
      let same : d.0 ≡ node_on form pages page = same_spelled form s.0.node.bytes l l d.0 (node_on form pages page) fits.fits s.0.node.fits in
      let step = inside place d.0 d.2 d.3 d.6 in
      let parts = parts_at form level pages page place.low place.high least step.before step.at step.after s (ap entries_in (sym same) ∙ step.whole) in
      let s1 = subst (λ (c : ℕ). StandsBelow form (suc level) pages c (low_key step.at) (first_low step.after place.high) (fewest form (suc level))) (sym step.child_is) parts.own.0 in
      let s2 = subst (λ (b : ℕ). StandsBelow form (suc level) pages d.2 b (first_low step.after place.high) (fewest form (suc level))) (sym step.low) s1 in
      let s3 = subst (λ (h : ℕ). StandsBelow form (suc level) pages d.2 d.3.low h (fewest form (suc level))) (sym step.high) s2 in
      undamaged form (suc level) pages d.2 (fewest form (suc level)) damaged d.3 s3 step.from d.7

  pub root_undamaged : (form : Form) (levels : ℕ) (pages : PageMap) (root sought damaged : ℕ) → RootStands form levels pages root
      → IsDamagedBelow (FitsPlace form) leads NothingBeside pages levels (root_place sought) root damaged → ⊥
  root_undamaged form zero pages root sought damaged s d = d
  root_undamaged form (suc levels) pages root sought damaged s d =
      undamaged form (suc levels) pages root 1 damaged (root_place sought) s (omega arith) d
