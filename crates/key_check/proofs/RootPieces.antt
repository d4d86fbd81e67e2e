-- The pieces in which the roots are reached.
use Rattle.std.proofs.Common.{◌≡◌, ◌≢◌, ℕ, Bool, ◌+◌, ◌%◌, ◌^◌, ◌<◌, ◌≤◌, ◌&&◌, ◌++◌, false, true, nat_le, nat_lt, cond, List, [], ◌∷◌, length, drop, get_or, None, refl, sym, ◌∙◌, ap, subst, arith, inl, inr}
use Rattle.std.proofs.lemmas.Bool.{cases_lt, le-leb, le-ltb, ne_eqb}
use Rattle.std.proofs.lemmas.List.Elements.{All-nil}
use Rattle.bw_types.specs.Digits.{digit_count}
use Rattle.ports.specs.Pages.{PageMap}
use Rattle.key_check.specs.declared.corner.Corner.{Corner}
use Rattle.key_check.specs.Sums.{corner_sum}
use Rattle.mvsb_tree.specs.Stands.{StandsOnWay}
use Rattle.mvsb_tree.specs.Steps.{node_on, root_level, total_below}
use Rattle.page_layout.specs.declared.mv_node.MvNode.{MvNode}
use Rattle.key_check.specs.Cells.{Adds}
use Rattle.key_check.specs.KeyTrees.{AddsRoots, RootLasts, RootsKeep, first_step, root_total, steps_total, stretch_total}
use Rattle.key_check.specs.Levels.{PiecesStand, Pushes, StandsThere, pieces_total, total_there}
use Rattle.key_check.specs.Steps.{AscendFrom, step_value}
use Rattle.key_check.specs.declared.leveled.Leveled.{Leveled}
use Rattle.key_check.specs.declared.step.Step.{Step}
use Rattle.key_check.proofs.Pushing.{pushes_both, pushes_none, pushes_one}
use Rattle.key_check.proofs.RootSteps.{before_first, begin_keeps, begins_first, either_none, first_left, lasts_of, more_keeps, none_keeps, some_stands, total_none, two_stretches}

-- Where there is no root there is no piece.
pub no_root : (m : PageMap) (nodes : List ℕ) (count root from to : ℕ) (old : List Leveled) → root ≡ 0 → Pushes (RootLasts m nodes count root from to) (stretch_total m root from to) m nodes old old
no_root m nodes count root from to old e =
    pushes_none (RootLasts m nodes count root from to) (stretch_total m root from to) m nodes old (λ version key _ _ _. none_keeps m nodes count root version key e)
    (λ key v. either_none (nat_le from v && nat_lt v to) (root_total m root key v) (total_none m root key v e))

all_keys : (b k : Bool) (n : ℕ) → k ≡ true → cond (b && (k && true)) n 0 ≡ cond b n 0
all_keys true k n e = ap (λ (x : Bool). cond (x && true) n 0) e
all_keys false k n e = refl

abbrev pub root_piece : ℕ → ℕ → ℕ → ℕ → Leveled
root_piece level page from to = record { level = level; piece = record { page = page; from = from; to = to; low = 0; high = None; least = 1 } }

module _ (m : PageMap) (nodes : List ℕ) (count root from to level : ℕ) (some : root ≢ 0) (small : root < 2 ^ 64) (at : root_level m root ≡ level) (balanced : level ≤ digit_count 24 count) where
  lasts : StandsThere m nodes (root_piece level root from to) → RootLasts m nodes count root from to
  lasts s = λ version key f t k. record {
    stands = inr (small, subst (λ (n : ℕ). StandsOnWay n m nodes root version key 0 None 1) (sym at) (s version key (record { from = f; before = t; inside = record { from = omega arith; before = refl; fits = k } })));
    balanced = omega (arith, at, balanced);
  }

  there : RootLasts m nodes count root from to → StandsThere m nodes (root_piece level root from to)
  there l = λ v key p. subst (λ (n : ℕ). StandsOnWay n m nodes root v key 0 None 1) at (some_stands m nodes root v key some (l v key p.from p.before p.inside.fits).stands).1

  same_total : (key v : ℕ) → total_there m (root_piece level root from to) key v ≡ stretch_total m root from to key v
  same_total key v =
      all_keys (nat_le from v && nat_lt v to) (nat_le 0 key) (total_below level m root key v) (le-leb 0 key (omega arith))
      ∙ ap (λ (n : ℕ). cond (nat_le from v && nat_lt v to) (total_below n m root key v) 0) (sym at)

  pub some_root : (old new : List Leveled) → new ≡ old ++ root_piece level root from to ∷ [] → Pushes (RootLasts m nodes count root from to) (stretch_total m root from to) m nodes old new
  some_root old new is =
      let p = pushes_one m nodes old new (root_piece level root from to) is in
      record {
        parts = λ s. (let x = p.parts s in (x.0, lasts x.1));
        whole = λ s l. p.whole s (there l);
        totals = λ key v. p.totals key v ∙ ap (λ (n : ℕ). pieces_total m old key v + n) (same_total key v);
      }

-- Of all roots before a step.
abbrev pub RootsPushed : PageMap → List ℕ → ℕ → List Step → ℕ → List Leveled → Type 0
RootsPushed m nodes count steps to rooted = Pushes (RootsKeep m nodes count steps to) (steps_total m steps to) m nodes [] rooted

pub first_roots : (m : PageMap) (nodes : List ℕ) (count : ℕ) (steps : List Step) → AscendFrom 0 steps (2 ^ 32) → RootsPushed m nodes count steps (first_step steps (2 ^ 32)) []
first_roots m nodes count steps a =
    pushes_none (RootsKeep m nodes count steps (first_step steps (2 ^ 32))) (steps_total m steps (first_step steps (2 ^ 32))) m nodes [] (begin_keeps m nodes count steps a)
    (λ key version. elim (cases_lt version (first_step steps (2 ^ 32))) [
      | inl before ↦ either_none (nat_lt version (first_step steps (2 ^ 32))) (root_total m (step_value 0 steps version) key version)
          (total_none m (step_value 0 steps version) key version (before_first 0 0 version steps a before))
      | inr after ↦ ap (λ (b : Bool). cond b (root_total m (step_value 0 steps version) key version) 0) (le-ltb version (first_step steps (2 ^ 32)) after)
    ])

pub more_roots : (m : PageMap) (nodes : List ℕ) (count : ℕ) (steps : List Step) (k : ℕ) (d : Step) (to : ℕ) (old new : List Leveled) → AscendFrom 0 steps (2 ^ 32) → k < length steps
    → to ≡ first_step (drop (k + 1) steps) (2 ^ 32) → RootsPushed m nodes count steps (first_step (drop k steps) (2 ^ 32)) old
    → Pushes (RootLasts m nodes count (get_or steps k d).value (get_or steps k d).version to) (stretch_total m (get_or steps k d).value (get_or steps k d).version to) m nodes old new
    → RootsPushed m nodes count steps (first_step (drop (k + 1) steps) (2 ^ 32)) new
more_roots m nodes count steps k d to old new a h e p q =
    let s : Step = get_or steps k d in
    let left = first_left steps k d h in
    let up = begins_first steps k d to a h e in
    pushes_both (RootsKeep m nodes count steps (first_step (drop k steps) (2 ^ 32))) (RootLasts m nodes count s.value s.version to) (RootsKeep m nodes count steps (first_step (drop (k + 1) steps) (2 ^ 32)))
    (steps_total m steps (first_step (drop k steps) (2 ^ 32))) (stretch_total m s.value s.version to) (steps_total m steps (first_step (drop (k + 1) steps) (2 ^ 32))) m nodes [] old new p q
    (more_keeps m nodes count steps k d to a h e)
    (λ keeps. (
      λ version key before fits. keeps version key (omega (arith, left, up, e, before)) fits,
      lasts_of m nodes count steps k d to a h e (first_step (drop (k + 1) steps) (2 ^ 32)) (omega (arith, e)) keeps,
    ))
    (λ key version.
    ap (λ (n : ℕ). steps_total m steps n key version) (sym e) ∙ two_stretches m steps k d to key version a h e
    ∙ ap (λ (n : ℕ). steps_total m steps n key version + stretch_total m s.value s.version to key version) (sym left))

-- What a walk down from the roots finds.
pub roots_found : (m : PageMap) (nodes : List ℕ) (count : ℕ) (steps : List Step) (rooted : List Leveled) → RootsPushed m nodes count steps (2 ^ 32) rooted
    → (PiecesStand m nodes rooted → RootsKeep m nodes count steps (2 ^ 32)) × (RootsKeep m nodes count steps (2 ^ 32) → PiecesStand m nodes rooted)
roots_found m nodes count steps rooted p = (λ s. (p.parts s).1, λ k. p.whole (All-nil (StandsThere m nodes)) k)

adds_as : (old new total steps none : ℕ) → new ≡ (old + total) % 2 ^ 128 → total ≡ none + steps → none ≡ 0 → new ≡ (old + steps) % 2 ^ 128
adds_as old new total steps none a b c = omega arith

pub roots_add : (m : PageMap) (nodes : List ℕ) (count : ℕ) (steps : List Step) (rooted : List Leveled) (old new : List Corner) → RootsPushed m nodes count steps (2 ^ 32) rooted
    → Adds (pieces_total m rooted) old new → AddsRoots m steps (2 ^ 32) old new
roots_add m nodes count steps rooted old new p adds = λ key version k v.
    adds_as (corner_sum old key version) (corner_sum new key version) (pieces_total m rooted key version) (steps_total m steps (2 ^ 32) key version) (pieces_total m [] key version)
    (adds key version k v) (p.totals key version) refl

pub level_of : (m : PageMap) (root page : ℕ) (node : MvNode) → root ≢ 0 → root ≡ page → node_on m page ≡ node → root_level m root ≡ node.level
level_of m root page node some is same =
    ap (λ (b : Bool). cond b 0 (node_on m root).level) (ne_eqb root 0 some) ∙ ap (λ (n : ℕ). (node_on m n).level) is ∙ ap (λ (n : MvNode). n.level) same
