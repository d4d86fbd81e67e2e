-- The two halves of the trees of spans, as the space has them: what they stand for, and what reading them costs.
use Rattle.std.proofs.Common.{◌≡◌, ℕ, ◌+◌, ◌*◌, ◌/◌, ◌≤◌, List, length, take, drop, sym, ap, ◌∙◌, subst, arith}
use Rattle.std.specs.List.{All}
use Rattle.std.proofs.lemmas.List.{length-map}
use Rattle.std.proofs.lemmas.List.Elements.{All-drop, All-take}
use Rattle.bw_types.specs.History.{History, changes}
use Rattle.bw_types.specs.Lawful.{IsLawful}
use Rattle.bw_types.specs.declared.params.Params.{Params}
use Rattle.bw_types.specs.declared.point.Point.{Point}
use Rattle.bw_types.specs.declared.query.Query.{Query}
use Rattle.bw_types.specs.declared.tree.Tree.{Tree}
use Rattle.corner_weights.specs.Entries.{corner_point}
use Rattle.corner_weights.specs.Subsets.{residue_signed_by}
use Rattle.corner_weights.specs.Sums.{residue_sum_below}
use Rattle.corner_forest.specs.Corners.{value_at}
use Rattle.corner_forest.specs.Entries.{corner_count}
use Rattle.corner_forest.specs.Trees.{EachStands}
use Rattle.dom_index.specs.declared.index.DomIndex.{Ghosts}
use Rattle.history_laws.specs.Entries.{history_entries}
use Rattle.history_laws.specs.Entering.{EntriesAreChanges}
use Rattle.ports.specs.Pages.{PageMap}
use Rattle.corner_weights.specs.PlaneSums.{Entered}
use Rattle.span_planes.specs.SpanHolds.{SpansStand, without_degree}
use Rattle.span_planes.specs.SpanPoints.{dated_weight, plain_weight, span_points, span_roots, weighed}
use Rattle.span_planes.proofs.SpanTotals.{IsSaid}

-- an entry has one point in each tree of its half
pub points_of_changes : EntriesAreChanges → (params : Params) (weight : Entered → ℕ) (h : History) → IsLawful params h → (subset : ℕ)
    → length (span_points params weight (history_entries h) subset) ≡ length (changes h)
points_of_changes law params weight h lawful subset = length-map (history_entries h) (λ e. corner_point params.dims subset (weighed weight e)) ∙ law params h lawful

-- The trees in two parts, in these pages and under these params: the one stands for the entries of the history with their weights, and the
-- other with their weights times their versions.
pub record AreHalves {X : Type 0} (g : Ghosts X) (now : PageMap) (own params : Params) (front back : List Tree) (h : History) : Type 0 where
  pub params_are : own ≡ without_degree params
  pub plain : EachStands (g.stands now own.dims) (span_points params plain_weight (history_entries h)) 0 front
  pub plain_balanced : All (g.balanced now own.dims) front
  pub dated : EachStands (g.stands now own.dims) (span_points params dated_weight (history_entries h)) 0 back
  pub dated_balanced : All (g.balanced now own.dims) back

module _ (own params : Params) (is : own ≡ without_degree params) where
  same_dims : params.dims ≡ own.dims
  same_dims = sym (ap (λ (p : Params). p.dims) is)

  -- half of the trees are as many as there are subsets
  half_of_roots : (count : ℕ) → count ≡ span_roots own → count / 2 ≡ corner_count params
  half_of_roots count all =
      let halved : (n : ℕ) → count ≡ 2 * n → count / 2 ≡ n = λ n e. omega (arith, e) in
      halved (corner_count params) (all ∙ ap (λ (p : Params). span_roots p) is)

  -- what is said under the params of the space is said under those of the history
  pub said_under : (weight : Entered → ℕ) (es : List Entered) (q : Query) (version total : ℕ)
      → total ≡ residue_sum_below (corner_count own) (λ subset. residue_signed_by subset (value_at own.dims q version (span_points params weight es subset) subset))
      → IsSaid params weight es q version total
  said_under weight es q version total e =
      e ∙ ap (λ (p : Params). residue_sum_below (corner_count p) (λ subset. residue_signed_by subset (value_at p.dims q version (span_points params weight es subset) subset))) is

  module _ {X : Type 0} (g : Ghosts X) where
    pub cost_under : (n before after : ℕ) → after ≤ before + corner_count own * g.cost own.dims n → after ≤ before + corner_count params * g.cost params.dims n
    cost_under n before after h = subst (λ (p : Params). after ≤ before + corner_count p * g.cost p.dims n) is h

    module _ (pages now : PageMap) (same : now ≡ pages) where
      each_now : (points : ℕ → List Point) (trees part : List Tree) → part ≡ trees → EachStands (g.stands pages params.dims) points 0 trees → EachStands (g.stands now own.dims) points 0 part
      each_now points trees part here each =
          subst (λ (ts : List Tree). EachStands (g.stands now own.dims) points 0 ts) (sym here)
          (subst (λ (d : ℕ). EachStands (g.stands now d) points 0 trees) same_dims
          (subst (λ (m : PageMap). EachStands (g.stands m params.dims) points 0 trees) (sym same) each))

      all_now : (trees part : List Tree) → part ≡ trees → All (g.balanced pages params.dims) trees → All (g.balanced now own.dims) part
      all_now trees part here all =
          subst (λ (ts : List Tree). All (g.balanced now own.dims) ts) (sym here)
          (subst (λ (d : ℕ). All (g.balanced now d) trees) same_dims
          (subst (λ (m : PageMap). All (g.balanced m params.dims) trees) (sym same) all))

      -- the trees of the space, cut at half of their number
      pub cut_in_halves : (roots shown front back : List Tree) (count : ℕ) (h : History) → SpansStand g params pages roots h → shown ≡ roots → count ≡ span_roots own
          → front ≡ take (count / 2) shown → back ≡ drop (count / 2) shown → AreHalves g now own params front back h
      cut_in_halves roots shown front back count h stands shows all is_front is_back =
          let half = half_of_roots count all in
          let first : front ≡ take (corner_count params) roots =
          is_front ∙ ap (λ (k : ℕ). take k shown) half ∙ ap (λ (ts : List Tree). take (corner_count params) ts) shows in
          let second : back ≡ drop (corner_count params) roots =
          is_back ∙ ap (λ (k : ℕ). drop k shown) half ∙ ap (λ (ts : List Tree). drop (corner_count params) ts) shows in
          record {
            params_are = is;
            plain = each_now (span_points params plain_weight (history_entries h)) (take (corner_count params) roots) front first stands.plain;
            plain_balanced = all_now (take (corner_count params) roots) front first (All-take (g.balanced pages params.dims) (corner_count params) roots stands.balanced);
            dated = each_now (span_points params dated_weight (history_entries h)) (drop (corner_count params) roots) back second stands.dated;
            dated_balanced = all_now (drop (corner_count params) roots) back second (All-drop (g.balanced pages params.dims) (corner_count params) roots stands.balanced);
          }

-- two halves are read, or one of them
pub both_halves : (half old mid new : ℕ) → mid ≤ old + half → new ≤ mid + half → new ≤ old + 2 * half
both_halves half old mid new first second = omega (arith, first, second)

pub one_half : (half old new : ℕ) → new ≤ old + half → new ≤ old + 2 * half
one_half half old new first = omega (arith, first)
