-- A batch entered in one tree after another.
use Rattle.std.proofs.Common.{◌≡◌, ℕ, suc, ◌+◌, ◌<◌, ◌≤◌, Bool, if◌then◌else◌, inl, inr, List, [], ◌∷◌, ◌++◌, length, sym, ap, ◌∙◌, subst, arith}
use Rattle.std.specs.List.{All}
use Rattle.std.proofs.lemmas.Bool.{cases_lt, lt-ltb, le-ltb}
use Rattle.std.proofs.lemmas.List.Elements.{All-cons, All-nil, All-head, All-tail}
use Rattle.bw_types.specs.declared.params.Params.{Params}
use Rattle.bw_types.specs.declared.point.Point.{Point}
use Rattle.bw_types.specs.declared.tree.Tree.{Tree}
use Rattle.ports.specs.Pages.{PageMap}
use Rattle.ports.specs.Frame.{AgreeOn, AreInMap}
use Rattle.ports.specs.FrameLaws.{Replaces-then, Replaces-same}
use Rattle.page_layout.specs.Footprint.{NamesNoneTwice}
use Rattle.corner_weights.specs.PlaneSums.{Entered, EnteredFits}
use Rattle.dom_index.specs.declared.index.DomIndex.{Ghosts}
use Rattle.dom_index.specs.Adding.{TreeTakes}
use Rattle.corner_forest.specs.Entries.{AreNextEntries, batch_points, root_count, root_points, with_entries}
use Rattle.corner_forest.specs.Enters.{ForestEnters, IsEntering, points_reached}
use Rattle.corner_forest.specs.Stands.{AreBalanced, ForestStands, HasSmallWeight, forest_pages}
use Rattle.corner_forest.specs.Trees.{EachStands}
use Rattle.corner_forest.proofs.Changing.{change_at, each_same}
use Rattle.corner_forest.proofs.Turns.{all_with, batch_entered, few_with}

-- what was reached before
reached_before : (params : Params) (es batch : List Entered) (k j : ℕ) → j < k → points_reached params es batch k j ≡ root_points params (with_entries batch es) j
reached_before params es batch k j lt = ap (λ (t : Bool). if t then root_points params (with_entries batch es) j else root_points params es j) (lt-ltb j k lt)

not_reached : (params : Params) (es batch : List Entered) (k j : ℕ) → k ≤ j → points_reached params es batch k j ≡ root_points params es j
not_reached params es batch k j le = ap (λ (t : Bool). if t then root_points params (with_entries batch es) j else root_points params es j) (le-ltb j k le)

reached_same : (params : Params) (es batch : List Entered) (k j : ℕ) → (j ≡ k → ⊥) → points_reached params es batch (k + 1) j ≡ points_reached params es batch k j
reached_same params es batch k j ne = elim (cases_lt j k) [
  | inl lt ↦ reached_before params es batch (k + 1) j (omega (arith, lt)) ∙ sym (reached_before params es batch k j lt)
  | inr ge ↦
      let above : k + 1 ≤ j = elim (cases_lt k j) [ inl more ↦ omega (arith, more) | inr less ↦ absurd (ne (omega (arith, ge, less))) ] in
      not_reached params es batch (k + 1) j above ∙ sym (not_reached params es batch k j ge)
]

pub tree_at : (S : Tree → List Point → Type 0) (P : ℕ → List Point) (from : ℕ) (done : List Tree) (t : Tree) (rest : List Tree) → EachStands S P from (done ++ t ∷ rest) → S t (P (from + length done))
tree_at S P from [] t rest s = subst (λ (k : ℕ). S t (P k)) (omega arith) s.0
tree_at S P from (h ∷ done) t rest s = subst (λ (k : ℕ). S t (P k)) (omega arith) (tree_at S P (suc from) done t rest s.1)

pub each_with : (S : Tree → List Point → Type 0) (B : Type 0) (low : Tree → Type 0) (P : ℕ → List Point) (from : ℕ) (ts : List Tree) → (B → All low ts) → EachStands S P from ts
    → EachStands (λ t ps. S t ps × (B → low t)) P from ts
each_with S B low P from [] all s = tt
each_with S B low P from (t ∷ ts) all s = ((s.0, λ b. All-head low t ts (all b)), each_with S B low P (suc from) ts (λ b. All-tail low t ts (all b)) s.1)

pub each_without : (S : Tree → List Point → Type 0) (B : Type 0) (low : Tree → Type 0) (P : ℕ → List Point) (from : ℕ) (ts : List Tree) → EachStands (λ t ps. S t ps × (B → low t)) P from ts → EachStands S P from ts
each_without S B low P from [] s = tt
each_without S B low P from (t ∷ ts) s = (s.0.0, each_without S B low P (suc from) ts s.1)

pub each_low : (S : Tree → List Point → Type 0) (B : Type 0) (low : Tree → Type 0) (P : ℕ → List Point) (from : ℕ) (ts : List Tree) → EachStands (λ t ps. S t ps × (B → low t)) P from ts → B → All low ts
each_low S B low P from [] s b = All-nil low
each_low S B low P from (t ∷ ts) s b = All-cons low t ts (s.0.1 b) (each_low S B low P (suc from) ts s.1 b)

module _ {X : Type 0} (g : Ghosts X)
    (by_its_pages : (pages others : PageMap) (dims : ℕ) (tree : Tree) (points : List Point) → g.stands pages dims tree points
    → AgreeOn (g.footprint pages dims tree) pages others → g.stands others dims tree points × (g.footprint others dims tree ≡ g.footprint pages dims tree))
    (balance : (pages others : PageMap) (dims : ℕ) (tree : Tree) (points : List Point) → g.stands pages dims tree points
    → AgreeOn (g.footprint pages dims tree) pages others → g.balanced pages dims tree → g.balanced others dims tree)
    (in_map : (pages : PageMap) (dims : ℕ) (tree : Tree) (points : List Point) → g.stands pages dims tree points → AreInMap pages (g.footprint pages dims tree))
    (single : (pages : PageMap) (dims : ℕ) (tree : Tree) (points : List Point) → g.stands pages dims tree points → NamesNoneTwice (g.footprint pages dims tree)) where
  pub begins : (params : Params) (m : PageMap) (old : List Tree) (es batch : List Entered) → ForestStands g m params old es → NamesNoneTwice (forest_pages g m params old)
      → IsEntering g params m m old old es batch 0
  begins params m old es batch s once = record {
    stands = each_same (λ t ps. g.stands m params.dims t ps × (AreBalanced g m params old → g.balanced m params.dims t)) (root_points params es) (points_reached params es batch 0) 0 old
        (λ j low high. not_reached params es batch 0 j low)
        (each_with (g.stands m params.dims) (AreBalanced g m params old) (g.balanced m params.dims) (root_points params es) 0 old (λ b. b) s.trees);
    once = once;
    change = Replaces-same (forest_pages g m params old) m;
  }

  -- the tree that comes next
  pub next_tree : (params : Params) (m0 m : PageMap) (old done : List Tree) (t : Tree) (rest : List Tree) (es batch : List Entered) (k : ℕ) → length done ≡ k
      → IsEntering g params m0 m old (done ++ t ∷ rest) es batch k → g.stands m params.dims t (root_points params es k) × (AreBalanced g m0 params old → g.balanced m params.dims t)
  next_tree params m0 m old done t rest es batch k is_k f =
      let S : Tree → List Point → Type 0 = λ t ps. g.stands m params.dims t ps × (AreBalanced g m0 params old → g.balanced m params.dims t) in
      let here = tree_at S (points_reached params es batch k) 0 done t rest f.stands in
      let place : 0 + length done ≡ k = omega (arith, is_k) in
      subst (λ (ps : List Point). S t ps) (ap (λ (j : ℕ). points_reached params es batch k j) place ∙ not_reached params es batch k k (omega arith)) here

  pub goes_on : (params : Params) (m0 m n : PageMap) (old done : List Tree) (t u : Tree) (rest : List Tree) (es batch : List Entered) (k : ℕ) → length done ≡ k
      → IsEntering g params m0 m old (done ++ t ∷ rest) es batch k → TreeTakes g params.dims m n t u (batch_points params k batch) (root_points params es k)
      → IsEntering g params m0 n old (done ++ u ∷ rest) es batch (k + 1)
  goes_on params m0 m n old done t u rest es batch k is_k f enters =
      let B : Type 0 = AreBalanced g m0 params old in
      let S : PageMap → Tree → List Point → Type 0 = λ m t ps. g.stands m params.dims t ps × (B → g.balanced m params.dims t) in
      let place : 0 + length done ≡ k = omega (arith, is_k) in
      let tree = next_tree params m0 m old done t rest es batch k is_k f in
      let stands = subst (λ (ps : List Point). g.stands n params.dims u ps) (batch_entered params k batch es) enters.stands in
      let here : S n u (root_points params (with_entries batch es) k) = (stands, λ b. enters.balanced (tree.1 b)) in
      let there : S n u (points_reached params es batch (k + 1) (0 + length done)) =
      subst (λ (ps : List Point). S n u ps) (sym (ap (λ (j : ℕ). points_reached params es batch (k + 1) j) place ∙ reached_before params es batch (k + 1) k (omega arith))) here in
      let changed = change_at S (λ m t. g.footprint m params.dims t)
      (λ m n t ps s agree. let still = by_its_pages m n params.dims t ps s.0 agree in ((still.0, λ b. balance m n params.dims t ps s.0 agree (s.1 b)), still.1))
      (λ m t ps s. in_map m params.dims t ps s.0) (λ m t ps s. single m params.dims t ps s.0)
      m n (points_reached params es batch k) (points_reached params es batch (k + 1)) 0 done t u rest f.stands f.once there enters.change
      (λ j other. reached_same params es batch k j (λ same. other (same ∙ sym place))) in
      record {
        stands = changed.stands;
        once = changed.once;
        change = Replaces-then (forest_pages g m0 params old) (forest_pages g m params (done ++ t ∷ rest)) (forest_pages g n params (done ++ u ∷ rest)) m0 m n f.change changed.change;
      }

  pub ends : (params : Params) (m0 m : PageMap) (old new : List Tree) (es batch : List Entered) (k : ℕ) → length new ≡ k → k ≡ root_count params → ForestStands g m0 params old es → All (EnteredFits params) batch
      → All HasSmallWeight batch → AreNextEntries params es batch → IsEntering g params m0 m old new es batch k → ForestEnters g params m0 m old new es batch
  ends params m0 m old new es batch k is_k is_count stood fits small next f =
      let B : Type 0 = AreBalanced g m0 params old in
      let low : Tree → Type 0 = λ t. g.balanced m params.dims t in
      record {
        stands = record {
          count = is_k ∙ is_count;
          fits = all_with (EnteredFits params) es batch stood.fits fits;
          weights = all_with HasSmallWeight es batch stood.weights small;
          few = few_with params es batch stood.few next;
          trees = each_same (g.stands m params.dims) (points_reached params es batch k) (root_points params (with_entries batch es)) 0 new
              (λ j from to. sym (reached_before params es batch k j (omega (arith, to, is_k))))
              (each_without (g.stands m params.dims) B low (points_reached params es batch k) 0 new f.stands);
        };
        once = f.once;
        change = f.change;
        balanced = λ b. each_low (g.stands m params.dims) B low (points_reached params es batch k) 0 new f.stands b;
      }
