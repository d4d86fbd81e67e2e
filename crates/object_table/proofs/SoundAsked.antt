-- Where a table stands and a leaf's objects are as asked, nothing is damaged.
use Rattle.std.proofs.Common.{◌≡◌, ℕ, zero, suc, ◌≤◌, inl, inr, List, ◌++◌, refl, sym, ◌∙◌, subst, arith}
use Rattle.std.specs.List.{flat_map}
use Rattle.bw_types.specs.declared.dated.Dated.{Dated}
use Rattle.ports.specs.Pages.{PageMap}
use Rattle.page_layout.specs.Damage.{IsDamagedBelow, NothingBeside}
use Rattle.page_layout.specs.declared.life_node.LifeNode.{LifeNode}
use Rattle.page_layout.specs.declared.life_node.LifeEntry.{LifeEntry}
use Rattle.object_table.specs.declared.form.Form.TheVariants.{ByLives}
use Rattle.object_table.specs.declared.place.Place.{Place}
use Rattle.object_table.specs.Keys.{key, low_key}
use Rattle.object_table.specs.Damage.{FitsAsked, GoesBy, LeadsTo, HaveNot, root_place}
use Rattle.object_table.specs.Lives.{lives_below}
use Rattle.object_table.specs.Nodes.{node_on, entries_in, entries_on}
use Rattle.object_table.specs.Stands.{first_low, fewest, StandsBelow, RootStands}
use Rattle.object_table.proofs.Nodes.{same_spelled}
use Rattle.object_table.proofs.Order.{All-left, All-right}
use Rattle.object_table.proofs.Sound.{leaf_fits, index_fits, some_same}
use Rattle.object_table.proofs.Within.{parts_at, own_lives}

-- what is asked of all objects below a node is asked of those below the child on the way to the key
abbrev pub GoesDown : (List Dated → Type 0) → ℕ → Type 0
GoesDown asked v = (level : ℕ) (m : PageMap) (page low high least : ℕ) (before : List LifeEntry) (at : LifeEntry) (after : List LifeEntry) → StandsBelow ByLives (suc (suc level)) m page low high least
    → GoesBy (entries_on ByLives m page) before at after v → asked (lives_below ByLives (suc (suc level)) m page) → asked (lives_below ByLives (suc level) m at.child)

module _ (asked : List Dated → Type 0) (v : ℕ) (down : GoesDown asked v) where
  pub undamaged : (level : ℕ) (pages : PageMap) (page least damaged : ℕ) (place : Place) → StandsBelow ByLives level pages page place.low place.high least
      → place.low ≤ place.sought → place.sought ≡ v → asked (lives_below ByLives level pages page) → IsDamagedBelow (FitsAsked asked ByLives) LeadsTo NothingBeside pages level place page damaged → ⊥
  undamaged zero pages page least damaged place s from sought all d = d
  undamaged (suc zero) pages page least damaged place s from sought all (inl d) =
      d.1 (node_on ByLives pages page) s.node.bytes s.node.there (record { fits = leaf_fits ByLives pages page least place s; leaf = λ one. all })
  undamaged (suc zero) pages page least damaged place s from sought all (inr (inl d)) = d.4
  undamaged (suc zero) pages page least damaged place s from sought all (inr (inr d)) = d.7
  undamaged (suc (suc level)) pages page least damaged place s from sought all (inl d) =
      d.1 (node_on ByLives pages page) s.0.node.bytes s.0.node.there (record { fits = index_fits ByLives level pages page least place s.0 from; leaf = λ one. absurd (omega (arith, one)) })
  undamaged (suc (suc level)) pages page least damaged place s from sought all (inr (inl d)) = d.4
  undamaged (suc (suc level)) pages page least damaged place s from sought all (inr (inr d)) =
      let l : ℕ = suc (suc level) in
      let bytes : d.1 ≡ s.0.node.bytes = some_same d.1 s.0.node.bytes (sym d.4 ∙ s.0.node.there) in
      let fits = subst (λ (b : List ℕ). FitsAsked asked ByLives l place d.0 b) bytes d.5 in
      let same : d.0 ≡ node_on ByLives pages page = same_spelled ByLives s.0.node.bytes l l d.0 (node_on ByLives pages page) fits.fits.fits s.0.node.fits in
      let lead : LeadsTo place d.0 d.2 d.3 = d.6 in
      let at : LifeEntry = lead.1 in
      let after : List LifeEntry = lead.2 in
      let goes1 = subst (λ (n : LifeNode). GoesBy (entries_in n) lead.0 at after place.sought) same lead.3 in
      let goes = subst (λ (n : ℕ). GoesBy (entries_on ByLives pages page) lead.0 at after n) sought goes1 in
      let parts = parts_at ByLives level pages page place.low place.high least lead.0 at after s goes.whole in
      let all1 = down level pages page place.low place.high least lead.0 at after s goes all in
      let s1 = subst (λ (c : ℕ). StandsBelow ByLives (suc level) pages c (low_key at) (first_low after place.high) (fewest ByLives (suc level))) (sym lead.4) parts.own.0 in
      let s2 = subst (λ (b : ℕ). StandsBelow ByLives (suc level) pages d.2 b (first_low after place.high) (fewest ByLives (suc level))) (sym lead.5.low) s1 in
      let s3 = subst (λ (h : ℕ). StandsBelow ByLives (suc level) pages d.2 d.3.low h (fewest ByLives (suc level))) (sym lead.5.high) s2 in
      let all2 = subst (λ (c : ℕ). asked (lives_below ByLives (suc level) pages c)) (sym lead.4) all1 in
      undamaged (suc level) pages d.2 (fewest ByLives (suc level)) damaged d.3 s3 (omega (arith, lead.5.low, lead.5.sought, lead.3.here)) (lead.5.sought ∙ sought) all2 d.7

  pub root_undamaged : (levels : ℕ) (pages : PageMap) (root damaged : ℕ) (place : Place) → place ≡ root_place v → RootStands ByLives levels pages root → asked (lives_below ByLives levels pages root)
      → IsDamagedBelow (FitsAsked asked ByLives) LeadsTo NothingBeside pages levels place root damaged → ⊥
  root_undamaged zero pages root damaged place same s all d = d
  root_undamaged (suc levels) pages root damaged place same s all d =
      undamaged (suc levels) pages root 1 damaged (root_place v) s (omega arith) refl all (subst (λ (q : Place). IsDamagedBelow (FitsAsked asked ByLives) LeadsTo NothingBeside pages (suc levels) q root damaged) same d)

pub not_down : (k v : ℕ) → GoesDown (HaveNot k) v
not_down k v level m page low high least before at after s goes all =
    let own : LifeEntry → List Dated = own_lives ByLives (suc level) m in
    let parts = parts_at ByLives level m page low high least before at after s goes.whole in
    let all1 = subst (HaveNot k) parts.whole all in
    All-left (λ (d : Dated). key d ≡ k → ⊥) (own at) (flat_map own after) (All-right (λ (d : Dated). key d ≡ k → ⊥) (flat_map own before) (own at ++ flat_map own after) all1)
