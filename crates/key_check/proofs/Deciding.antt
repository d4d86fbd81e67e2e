-- What a walk over a tree over versions decides.
use Rattle.std.proofs.Common.{◌≡◌, ℕ, ◌^◌, ◌<◌, IsTrue, List, [], ◌∷◌, length, map, suc, refl, sym, ◌∙◌, ap, subst, arith}
use Rattle.std.specs.List.{All}
use Rattle.std.proofs.lemmas.List.Elements.{All-cons, All-map}
use Rattle.bw_types.specs.declared.point.Point.{Point}
use Rattle.bw_types.specs.declared.tree.Tree.{Tree}
use Rattle.ports.specs.Pages.{PageMap}
use Rattle.page_layout.specs.Footprint.{NamesNoneTwice}
use Rattle.sb_tree.specs.Stands.{SbStands, is_marked}
use Rattle.sb_tree.specs.Steps.{tree_value}
use Rattle.key_check.specs.Sums.{SumOverVersions, corner_sum}
use Rattle.key_check.specs.Numbers.{HasNumbersOf}
use Rattle.key_check.specs.Steps.{AreResidues, AscendFrom, jumps, step_value}
use Rattle.key_check.specs.Walks.{IsWalk}
use Rattle.key_check.specs.declared.step.Step.{Step}
use Rattle.key_check.specs.declared.version_tree.Walk.{Walk}
use Rattle.key_check.proofs.Jumping.{jumps_tell}
use Rattle.key_check.proofs.Lows.{lows_are, versions_of}
use Rattle.key_check.proofs.Valuing.{tells_tree, tree_ascends}

none_left : (points : List Point) → length points ≡ 0 → points ≡ []
none_left [] e = refl
none_left (p ∷ points) e = absurd (omega (arith, e))

-- The steps are at marked versions.
abbrev pub AreMarked : List Point → List Step → Type 0
AreMarked points steps = All (λ s. IsTrue (is_marked points s.version)) steps

-- The sum of the jumps is the value of the tree.
pub jumps_are_values : (m : PageMap) (tree : Tree) (walk : Walk) (v : ℕ) → IsWalk m tree walk → AreResidues walk.steps.items → v < 2 ^ 32
    → corner_sum (jumps 0 walk.steps.items) 0 v ≡ tree_value m tree v
jumps_are_values m tree walk v w typed below =
    jumps_tell walk.steps.items (2 ^ 32) v typed (subst (λ (ss : List Step). AscendFrom 0 ss (2 ^ 32)) (sym w.steps_are) (tree_ascends tree.levels m tree.root w.stands))
    ∙ ap (λ (ss : List Step). step_value 0 ss v) w.steps_are ∙ tells_tree tree.levels m tree.root v w.stands below

from_map : {X : Type 0} (P : ℕ → Type 0) (f : X → ℕ) (xs : List X) → All P (map f xs) → All (λ x. P (f x)) xs
from_map P f [] all = λ k d h. absurd (omega (arith, h))
from_map P f (x ∷ xs) all = All-cons (λ y. P (f y)) x xs (all 0 (f x) (omega arith)) (from_map P f xs (λ k d h. all (suc k) d (omega (arith, h))))

pub stands : (m : PageMap) (tree : Tree) (points : List Point) (walk : Walk) → HasNumbersOf tree points → IsWalk m tree walk → NamesNoneTwice walk.named.items
    → AreMarked points walk.steps.items → AreResidues walk.steps.items → SumOverVersions (jumps 0 walk.steps.items) points → SbStands m tree points
stands m tree points walk n w once marked typed sums = record {
  count = n.count;
  few = n.few;
  some = λ e. none_left points (n.some e);
  changes = n.changes;
  last = n.last;
  nodes = w.stands;
  once = subst NamesNoneTwice w.named_are once;
  lows = subst (λ (ls : List ℕ). All (λ l. IsTrue (is_marked points l)) ls) (ap versions_of w.steps_are ∙ sym (lows_are tree.levels m tree.root 0))
      (All-map (λ l. IsTrue (is_marked points l)) (λ (s : Step). s.version) walk.steps.items marked);
  values = λ v below. sym (jumps_are_values m tree walk v w typed below) ∙ sums v below;
}

pub numbers_of : (m : PageMap) (tree : Tree) (points : List Point) → SbStands m tree points → HasNumbersOf tree points
numbers_of m tree points s = record {
  few = s.few;
  count = s.count;
  some = λ e. ap length (s.some e);
  changes = s.changes;
  last = s.last;
}

pub marked_of : (m : PageMap) (tree : Tree) (points : List Point) (walk : Walk) → SbStands m tree points → IsWalk m tree walk → AreMarked points walk.steps.items
marked_of m tree points walk s w =
    from_map (λ l. IsTrue (is_marked points l)) (λ (x : Step). x.version) walk.steps.items
    (subst (λ (ls : List ℕ). All (λ l. IsTrue (is_marked points l)) ls) (lows_are tree.levels m tree.root 0 ∙ sym (ap versions_of w.steps_are)) s.lows)

pub sums_of : (m : PageMap) (tree : Tree) (points : List Point) (walk : Walk) → SbStands m tree points → IsWalk m tree walk → AreResidues walk.steps.items
    → SumOverVersions (jumps 0 walk.steps.items) points
sums_of m tree points walk s w typed = λ v below. jumps_are_values m tree walk v w typed below ∙ s.values v below

pub once_of : (m : PageMap) (tree : Tree) (points : List Point) (walk : Walk) → SbStands m tree points → IsWalk m tree walk → NamesNoneTwice walk.named.items
once_of m tree points walk s w = subst NamesNoneTwice (sym w.named_are) s.once
