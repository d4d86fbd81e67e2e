-- How a walk below the roots goes on from one step of the directory to the next.
use Rattle.std.proofs.Common.{◌≡◌, ◌≢◌, ℕ, Bool, zero, suc, ◌+◌, ◌%◌, ◌^◌, ◌<◌, ◌≤◌, ◌&&◌, false, true, nat_lt, cond, List, [], ◌∷◌, length, drop, get_or, Option, None, refl, sym, ◌∙◌, ap, subst, arith, inl, inr, drop-cons, add-one, zero-add}
use Rattle.std.proofs.lemmas.Bool.{cases_lt, le-leb, le-ltb, lt-leb, lt-ltb}
use Rattle.bw_types.specs.declared.point.Point.{Point}
use Rattle.ports.specs.Pages.{PageMap}
use Rattle.key_check.specs.declared.corner.Corner.{Corner}
use Rattle.key_check.specs.Sums.{SumOverKeys, corner_sum}
use Rattle.mvsb_tree.specs.Stands.{RootStands, StandsOnWay}
use Rattle.mvsb_tree.specs.Steps.{root_level}
use Rattle.key_check.specs.Chains.{HoldsNode}
use Rattle.key_check.specs.KeyTrees.{AddsRoots, RootKeeps, RootLasts, RootsKeep, ValuesKeep, first_step, root_total, steps_total, stretch_total}
use Rattle.key_check.specs.Steps.{AscendFrom, step_value}
use Rattle.key_check.specs.declared.step.Step.{Step}
use Rattle.key_check.proofs.Ascending.{not_yet}
use Rattle.key_check.proofs.Changing.{from_low}

level_none : (m : PageMap) (root : ℕ) → root ≡ 0 → root_level m root ≡ 0
level_none m root e = ap (root_level m) e

pub total_none : (m : PageMap) (root key version : ℕ) → root ≡ 0 → root_total m root key version ≡ 0
total_none m root key version e = ap (λ (n : ℕ). root_total m n key version) e

-- Where there is no root there is nothing to stand.
pub none_keeps : (m : PageMap) (nodes : List ℕ) (count root version key : ℕ) → root ≡ 0 → RootKeeps m nodes count root version key
none_keeps m nodes count root version key e = record {
  stands = inl e;
  balanced = omega (arith, level_none m root e);
}

pub either_none : (b : Bool) (n : ℕ) → n ≡ 0 → cond b n 0 ≡ 0
either_none true n e = e
either_none false n e = refl

way_holds : (level : ℕ) (m : PageMap) (nodes : List ℕ) (page version key low : ℕ) (high : Option ℕ) (least : ℕ) → StandsOnWay level m nodes page version key low high least → HoldsNode m page
way_holds zero m nodes page version key low high least s = absurd s
way_holds (suc zero) m nodes page version key low high least s = record { spelled = s.spelled; rules = s.rules; typed = s.typed }
way_holds (suc (suc level)) m nodes page version key low high least s = record { spelled = s.0.spelled; rules = s.0.rules; typed = s.0.typed }

-- What a root is that stands.
pub some_stands : (m : PageMap) (nodes : List ℕ) (root version key : ℕ) → root ≢ 0 → RootStands m nodes root version key
    → (root < 2 ^ 64) × StandsOnWay (root_level m root) m nodes root version key 0 None 1
some_stands m nodes root version key some (inl e) = absurd (some e)
some_stands m nodes root version key some (inr s) = s

pub lasts_holds : (m : PageMap) (nodes : List ℕ) (count root from to : ℕ) → root ≢ 0 → from < to → RootLasts m nodes count root from to → HoldsNode m root
lasts_holds m nodes count root from to some begun l =
    way_holds (root_level m root) m nodes root from 0 0 None 1 (some_stands m nodes root from 0 some (l from 0 (omega arith) begun (omega arith)).stands).1

-- Before the first of the steps the value is as it was.
pub before_first : (low before v : ℕ) (steps : List Step) → AscendFrom low steps (2 ^ 32) → v < first_step steps (2 ^ 32) → step_value before steps v ≡ before
before_first low before v [] a h = refl
before_first low before v (s ∷ steps) a h = not_yet s.version (2 ^ 32) before v (s ∷ steps) h (omega arith, a.1, a.2)

-- Between a step and the next one the value is the step's.
pub value_at : (steps : List Step) (k : ℕ) (d : Step) (low before v : ℕ) → AscendFrom low steps (2 ^ 32) → k < length steps → (get_or steps k d).version ≤ v
    → v < first_step (drop (suc k) steps) (2 ^ 32) → step_value before steps v ≡ (get_or steps k d).value
value_at [] k d low before v a h from to = absurd (omega (arith, h))
value_at (s ∷ steps) zero d low before v a h from to =
    ap (λ (b : Bool). step_value (cond b s.value before) steps v) (le-leb s.version v from) ∙ before_first (s.version + 1) s.value v steps a.2 to
value_at (s ∷ steps) (suc k) d low before v a h from to =
    let later = from_low (s.version + 1) (2 ^ 32) steps a.2 k d (omega (arith, h)) in
    ap (λ (b : Bool). step_value (cond b s.value before) steps v) (le-leb s.version v (omega (arith, later, from)))
    ∙ value_at steps k d (s.version + 1) s.value v a.2 (omega (arith, h)) from to

pub first_left : (steps : List Step) (k : ℕ) (d : Step) → k < length steps → first_step (drop k steps) (2 ^ 32) ≡ (get_or steps k d).version
first_left steps k d h = ap (λ (ss : List Step). first_step ss (2 ^ 32)) (drop-cons steps k d h)

pub begin_keeps : (m : PageMap) (nodes : List ℕ) (count : ℕ) (steps : List Step) → AscendFrom 0 steps (2 ^ 32) → RootsKeep m nodes count steps (first_step steps (2 ^ 32))
begin_keeps m nodes count steps a = λ version key before _. none_keeps m nodes count (step_value 0 steps version) version key (before_first 0 0 version steps a before)

pub more_keeps : (m : PageMap) (nodes : List ℕ) (count : ℕ) (steps : List Step) (k : ℕ) (d : Step) (to : ℕ) → AscendFrom 0 steps (2 ^ 32) → k < length steps
    → to ≡ first_step (drop (k + 1) steps) (2 ^ 32) → RootsKeep m nodes count steps (first_step (drop k steps) (2 ^ 32))
    → RootLasts m nodes count (get_or steps k d).value (get_or steps k d).version to → RootsKeep m nodes count steps (first_step (drop (k + 1) steps) (2 ^ 32))
more_keeps m nodes count steps k d to a h e keeps lasts = λ version key before fits. elim (cases_lt version (get_or steps k d).version) [
  | inl early ↦ keeps version key (omega (arith, first_left steps k d h, early)) fits
  | inr begun ↦
      let next : drop (k + 1) steps ≡ drop (suc k) steps = ap (λ (n : ℕ). drop n steps) (add-one k) in
      let same : step_value 0 steps version ≡ (get_or steps k d).value =
      value_at steps k d 0 0 version a h begun (subst (λ (ss : List Step). version < first_step ss (2 ^ 32)) next before) in
      subst (λ (n : ℕ). RootKeeps m nodes count n version key) (sym same) (lasts version key begun (omega (arith, before, e)) fits)
]

pub lasts_of : (m : PageMap) (nodes : List ℕ) (count : ℕ) (steps : List Step) (k : ℕ) (d : Step) (to : ℕ) → AscendFrom 0 steps (2 ^ 32) → k < length steps
    → to ≡ first_step (drop (k + 1) steps) (2 ^ 32) → (end : ℕ) → to ≤ end → RootsKeep m nodes count steps end
    → RootLasts m nodes count (get_or steps k d).value (get_or steps k d).version to
lasts_of m nodes count steps k d to a h e end few keeps = λ version key begun before fits.
    let next : drop (k + 1) steps ≡ drop (suc k) steps = ap (λ (n : ℕ). drop n steps) (add-one k) in
    let same : step_value 0 steps version ≡ (get_or steps k d).value =
    value_at steps k d 0 0 version a h begun (subst (λ (ss : List Step). version < first_step ss (2 ^ 32)) next (omega (arith, before, e))) in
    subst (λ (n : ℕ). RootKeeps m nodes count n version key) same (keeps version key (omega (arith, before, few)) fits)

-- The step at a place begins before the next one.
begins_before : (steps : List Step) (k : ℕ) (d : Step) (low : ℕ) → AscendFrom low steps (2 ^ 32) → k < length steps → (get_or steps k d).version < first_step (drop (suc k) steps) (2 ^ 32)
begins_before [] k d low a h = absurd (omega (arith, h))
begins_before (s ∷ []) zero d low a h = a.1
begins_before (s ∷ (t ∷ steps)) zero d low a h = omega (arith, a.2.0)
begins_before (s ∷ steps) (suc k) d low a h = begins_before steps k d (s.version + 1) a.2 (omega (arith, h))

-- The same by the version at which the next step begins.
pub begins_first : (steps : List Step) (k : ℕ) (d : Step) (to : ℕ) → AscendFrom 0 steps (2 ^ 32) → k < length steps → to ≡ first_step (drop (k + 1) steps) (2 ^ 32) → (get_or steps k d).version < to
begins_first steps k d to a h e =
    let next : drop (k + 1) steps ≡ drop (suc k) steps = ap (λ (n : ℕ). drop n steps) (add-one k) in
    subst (λ (n : ℕ). (get_or steps k d).version < n) (sym (e ∙ ap (λ (ss : List Step). first_step ss (2 ^ 32)) next)) (begins_before steps k d 0 a h)

-- Up to the next step there is what there was before this one, and the stretch between them.
pub two_stretches : (m : PageMap) (steps : List Step) (k : ℕ) (d : Step) (to key version : ℕ) → AscendFrom 0 steps (2 ^ 32) → k < length steps → to ≡ first_step (drop (k + 1) steps) (2 ^ 32)
    → steps_total m steps to key version ≡ steps_total m steps (get_or steps k d).version key version + stretch_total m (get_or steps k d).value (get_or steps k d).version to key version
two_stretches m steps k d to key version a h e =
    let s : Step = get_or steps k d in
    let next : drop (k + 1) steps ≡ drop (suc k) steps = ap (λ (n : ℕ). drop n steps) (add-one k) in
    let up : s.version < to = begins_first steps k d to a h e in
    let total : ℕ = root_total m (step_value 0 steps version) key version in
    let own : ℕ = root_total m s.value key version in
    elim (cases_lt version s.version) [
      | inl early ↦
          let x : steps_total m steps to key version ≡ total = ap (λ (b : Bool). cond b total 0) (lt-ltb version to (omega (arith, early, up))) in
          let y : steps_total m steps s.version key version ≡ total = ap (λ (b : Bool). cond b total 0) (lt-ltb version s.version early) in
          let z : stretch_total m s.value s.version to key version ≡ 0 = ap (λ (b : Bool). cond (b && nat_lt version to) own 0) (lt-leb s.version version early) in
          omega (arith, x, y, z)
      | inr begun ↦
          let y : steps_total m steps s.version key version ≡ 0 = ap (λ (b : Bool). cond b total 0) (le-ltb version s.version begun) in
          let z : stretch_total m s.value s.version to key version ≡ cond (nat_lt version to) own 0 = ap (λ (b : Bool). cond (b && nat_lt version to) own 0) (le-leb s.version version begun) in
          elim (cases_lt version to) [
            | inl before ↦
                let same : step_value 0 steps version ≡ s.value = value_at steps k d 0 0 version a h begun
                (subst (λ (n : ℕ). version < n) (e ∙ ap (λ (ss : List Step). first_step ss (2 ^ 32)) next) before) in
                let x : steps_total m steps to key version ≡ total = ap (λ (b : Bool). cond b total 0) (lt-ltb version to before) in
                let w : cond (nat_lt version to) own 0 ≡ own = ap (λ (b : Bool). cond b own 0) (lt-ltb version to before) in
                let o : total ≡ own = ap (λ (n : ℕ). root_total m n key version) same in
                omega (arith, x, y, z, w, o)
            | inr after ↦
                let x : steps_total m steps to key version ≡ 0 = ap (λ (b : Bool). cond b total 0) (le-ltb version to after) in
                let w : cond (nat_lt version to) own 0 ≡ 0 = ap (λ (b : Bool). cond b own 0) (le-ltb version to after) in
                omega (arith, x, y, z, w)
          ]
    ]

-- Over all versions the sum of the corners is that of the points exactly where what the nodes come to is.
pub sums_are_totals : (m : PageMap) (steps : List Step) (points : List Point) (corners : List Corner) → AddsRoots m steps (2 ^ 32) [] corners
    → (SumOverKeys corners points → ValuesKeep m steps points) × (ValuesKeep m steps points → SumOverKeys corners points)
sums_are_totals m steps points corners adds =
    let told : (key version : ℕ) → key < 2 ^ 64 → version < 2 ^ 32 → corner_sum corners key version ≡ root_total m (step_value 0 steps version) key version % 2 ^ 128 = λ key version fits below.
    let total : ℕ = root_total m (step_value 0 steps version) key version in
    adds key version fits below ∙ ap (λ (b : Bool). (0 + cond b total 0) % 2 ^ 128) (lt-ltb version (2 ^ 32) below) ∙ ap (λ (n : ℕ). n % 2 ^ 128) (zero-add total) in (
      λ sums key version fits below. sym (told key version fits below) ∙ sums key version fits below,
      λ values key version fits below. told key version fits below ∙ values key version fits below,
    )
