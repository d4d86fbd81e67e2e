-- The changes that a tree over versions stands for.
use Rattle.std.proofs.Common.{◌≡◌, ◌≢◌, ℕ, Bool, zero, suc, ◌+◌, ◌-◌, ◌*◌, ◌%◌, ◌^◌, ◌<◌, ◌≤◌, ◌==◌, ◌&&◌, ◌||◌, nat_le, nat_eq, cond, true, false, IsTrue, List, [], ◌∷◌, ◌++◌, length, map, replicate, get_or, refl, sym, ◌∙◌, ap, subst, lit<, arith, inl, inr, length-append}
use Rattle.std.specs.List.{All, AllByRecursion, IsDistinct, list_any, sum_by}
use Rattle.std.proofs.lemmas.Bool.{cases_Bool, eq-eqb, eqb-true, false≢true, le-leb, leb-true, ne_eqb, or_cases, or_left, or_parts, or_right, lt-leb, cases_lt}
use Rattle.std.proofs.Math.Dec.{leb-zero}
use Rattle.std.proofs.Math.Nat.{mul-zero}
use Rattle.std.proofs.lemmas.Cmp.{nat_eq_equiv}
use Rattle.std.proofs.lemmas.List.{length-map, length-replicate}
use Rattle.std.proofs.lemmas.List.Elements.{All-append, All-cons, All-replicate}
use Rattle.std.proofs.lemmas.List.Folds.{list_any-append, list_any_at, sum_by-replicate}
use Rattle.std.proofs.lemmas.List.Sums.{sum_by-append, sum_by-cons}
use Rattle.std.proofs.lemmas.Map.Made.{length-le_from_is_member}
use Rattle.bw_types.specs.Dominance.{dominance_sum, dominated_weight, is_dominated}
use Rattle.bw_types.specs.declared.point.Point.{Point}
use Rattle.bw_types.specs.declared.tree.Tree.{Tree}
use Rattle.ports.specs.Pages.{PageMap}
use Rattle.page_layout.specs.Footprint.{NamesNoneTwice}
use Rattle.page_layout.specs.declared.sb_node.SbEntry.{SbEntry}
use Rattle.sb_tree.specs.Stands.{is_marked}
use Rattle.sb_tree.specs.Steps.{entries_on}
use Rattle.mvsb_tree.specs.Stands.{has_come}
use Rattle.key_check.specs.declared.corner.Corner.{Corner}
use Rattle.key_check.specs.Sums.{counts_at, weight_at}
use Rattle.key_check.specs.Changes.{AreMade, HasChangesOf, StandsForChanges, needed}
use Rattle.key_check.specs.Numbers.{HasNumbersOf}
use Rattle.key_check.specs.Steps.{AreResidues, AscendFrom, entries_steps, jump, jumps, leaf_steps, more, step_value, steps_below}
use Rattle.key_check.specs.Walks.{IsWalk}
use Rattle.key_check.specs.declared.step.Step.{Step}
use Rattle.key_check.specs.declared.version_tree.Walk.{Walk}
use Rattle.key_check.proofs.Ascending.{ascend_later, not_yet}
use Rattle.key_check.proofs.Deciding.{AreMarked, marked_of, stands}
use Rattle.key_check.proofs.Jumping.{jumps_tell, keys_are_zero}
use Rattle.key_check.proofs.Valuing.{tells_tree, tree_ascends}
use Rattle.key_check.proofs.Walking.{child_steps}

-- The values of steps are residues.
entries_small : (own : SbEntry → ℕ → List Step) → ((e : SbEntry) (value : ℕ) → value < 2 ^ 128 → AreResidues (own e value)) → (es : List SbEntry) (before : ℕ) → AreResidues (entries_steps own before es)
entries_small own each [] before = λ k d h. absurd (omega (arith, h))
entries_small own each (e ∷ es) before =
    All-append (λ (s : Step). s.value < 2 ^ 128) (own e (more before e)) (entries_steps own (more before e) es) (each e (more before e) (omega arith)) (entries_small own each es (more before e))

pub steps_small : (level : ℕ) (m : PageMap) (page before : ℕ) → AreResidues (steps_below level m page before)
steps_small zero m page before = λ k d h. absurd (omega (arith, h))
steps_small (suc zero) m page before = entries_small leaf_steps (λ e value small. All-cons (λ (s : Step). s.value < 2 ^ 128) (record { version = e.low; value = value }) [] small (λ k d h. absurd (omega (arith, h)))) (entries_on m page) before
steps_small (suc (suc level)) m page before = entries_small (child_steps (suc level) m) (λ e value small. steps_small (suc level) m e.child value) (entries_on m page) before

and_first : (a b : Bool) → (a && b) ≡ true → a ≡ true
and_first true b h = refl
and_first false b h = h

and_second : (a b : Bool) → (a && b) ≡ true → b ≡ true
and_second true b h = h
and_second false b h = absurd (false≢true h)

-- What holds of the steps that need a change, by whether the first does.
needed_by : (P : List Step → Type 0) (s : Step) (steps : List Step) → (s.version ≡ 0 → s.value ≡ 0 → P steps) → ((s.version == 0 && s.value == 0) ≡ false → P (s ∷ steps)) → P (needed (s ∷ steps))
needed_by P s steps gone kept = elim (cases_Bool (s.version == 0 && s.value == 0)) [
  | inl is ↦ subst (λ (b : Bool). P (cond b steps (s ∷ steps))) (sym is) (gone (eqb-true s.version 0 (and_first (s.version == 0) (s.value == 0) is)) (eqb-true s.value 0 (and_second (s.version == 0) (s.value == 0) is)))
  | inr isnt ↦ subst (λ (b : Bool). P (cond b steps (s ∷ steps))) (sym isnt) (kept isnt)
]

either_zero : (b : Bool) (n : ℕ) → n ≡ 0 → cond b n 0 ≡ 0
either_zero true n e = e
either_zero false n e = refl

needed_value : (steps : List Step) (v : ℕ) → step_value 0 (needed steps) v ≡ step_value 0 steps v
needed_value [] v = refl
needed_value (s ∷ steps) v = needed_by (λ ss. step_value 0 ss v ≡ step_value 0 (s ∷ steps) v) s steps
    (λ at value. ap (λ (n : ℕ). step_value n steps v) (sym (either_zero (nat_le s.version v) s.value value))) (λ _. refl)

pub needed_ascend : (steps : List Step) (high : ℕ) → AscendFrom 0 steps high → AscendFrom 0 (needed steps) high
needed_ascend [] high a = tt
needed_ascend (s ∷ steps) high a = needed_by (λ ss. AscendFrom 0 ss high) s steps (λ _ _. ascend_later 0 (s.version + 1) high steps (omega arith) a.2) (λ _. a)

needed_small : (steps : List Step) → AreResidues steps → AreResidues (needed steps)
needed_small [] all = all
needed_small (s ∷ steps) all = needed_by AreResidues s steps (λ _ _ k d h. all (suc k) d (omega (arith, h))) (λ _. all)

abbrev pub point_at : Corner → Point
point_at c = record { keys = 0 ∷ 0 ∷ 0 ∷ []; version = c.version; weight = c.weight }

abbrev pub no_change : Point
no_change = record { keys = 0 ∷ 0 ∷ 0 ∷ []; version = 0; weight = 0 }

-- a change for each jump, and so many more that change nothing
abbrev pub changes_of : ℕ → List Step → List Point
changes_of count steps = map point_at (jumps 0 (needed steps)) ++ replicate (count - length (needed steps)) no_change

length-jumps : (before : ℕ) (steps : List Step) → length (jumps before steps) ≡ length steps
length-jumps before [] = refl
length-jumps before (s ∷ steps) = ap (λ (n : ℕ). suc n) (length-jumps s.value steps)

pub length-changes : (count : ℕ) (steps : List Step) → length (needed steps) ≤ count → length (changes_of count steps) ≡ count
length-changes count steps few =
    let points = map point_at (jumps 0 (needed steps)) in
    let rest = replicate (count - length (needed steps)) no_change in
    let a : length (points ++ rest) ≡ length points + length rest = length-append points rest in
    let b : length points ≡ length (needed steps) = length-map (jumps 0 (needed steps)) point_at ∙ length-jumps 0 (needed steps) in
    let c : length rest ≡ count - length (needed steps) = length-replicate (count - length (needed steps)) no_change in
    omega arith

points_weigh : (cs : List Corner) (v : ℕ) → All (λ c. c.key ≡ 0) cs → dominated_weight 0 (map point_at cs) [] v ≡ sum_by (weight_at 0 v) cs
points_weigh [] v all = refl
points_weigh (c ∷ cs) v all =
    let key : c.key ≡ 0 = all 0 c (omega arith) in
    let test : is_dominated 0 [] v (point_at c) ≡ counts_at 0 v c = ap (λ (b : Bool). nat_le c.version v && b) (sym (ap (λ (n : ℕ). nat_le n 0) key ∙ leb-zero 0)) in
    let here : cond (is_dominated 0 [] v (point_at c)) c.weight 0 ≡ weight_at 0 v c = ap (λ (b : Bool). cond b c.weight 0) test in
    let rest : dominated_weight 0 (map point_at cs) [] v ≡ sum_by (weight_at 0 v) cs = points_weigh cs v (λ k d h. all (suc k) d (omega (arith, h))) in
    let a = sum_by-cons (λ (p : Point). cond (is_dominated 0 [] v p) p.weight 0) (point_at c) (map point_at cs) in
    let b = sum_by-cons (weight_at 0 v) c cs in
    omega (arith, a, b, here, rest)

none_weigh : (n v : ℕ) → dominated_weight 0 (replicate n no_change) [] v ≡ 0
none_weigh n v =
    sum_by-replicate (λ (p : Point). cond (is_dominated 0 [] v p) p.weight 0) n no_change
    ∙ ap (λ (x : ℕ). n * x) (either_zero (is_dominated 0 [] v no_change) 0 refl) ∙ mul-zero n

-- The changes come to the values of the steps.
pub changes_weigh : (count : ℕ) (steps : List Step) (high v : ℕ) → AreResidues steps → AscendFrom 0 steps high → dominance_sum 0 (changes_of count steps) [] v ≡ step_value 0 steps v
changes_weigh count steps high v typed a =
    let cs : List Corner = jumps 0 (needed steps) in
    let parts = sum_by-append (λ (p : Point). cond (is_dominated 0 [] v p) p.weight 0) (map point_at cs) (replicate (count - length (needed steps)) no_change) in
    let points = points_weigh cs v (keys_are_zero (needed steps) 0) in
    let rest = none_weigh (count - length (needed steps)) v in
    let whole : dominated_weight 0 (changes_of count steps) [] v ≡ sum_by (weight_at 0 v) cs = omega (arith, parts, points, rest) in
    ap (λ (n : ℕ). n % 2 ^ 128) whole ∙ jumps_tell (needed steps) high v (needed_small steps typed) (needed_ascend steps high a) ∙ needed_value steps v

jumps_any : (v before : ℕ) (steps : List Step) → list_any (λ p. p.version == v) (map point_at (jumps before steps)) ≡ list_any (λ s. s.version == v) steps
jumps_any v before [] = refl
jumps_any v before (s ∷ steps) = ap (λ (b : Bool). s.version == v || b) (jumps_any v s.value steps)

-- A change is made at each step that needs one.
change_at : (count : ℕ) (steps : List Step) (v : ℕ) → list_any (λ s. s.version == v) (needed steps) ≡ true → list_any (λ p. p.version == v) (changes_of count steps) ≡ true
change_at count steps v h =
    list_any-append (λ p. p.version == v) (map point_at (jumps 0 (needed steps))) (replicate (count - length (needed steps)) no_change)
    ∙ or_left (list_any (λ p. p.version == v) (map point_at (jumps 0 (needed steps)))) _ (jumps_any v 0 (needed steps) ∙ h)

one_at : (steps : List Step) (k : ℕ) (d : Step) → k < length steps → list_any (λ s. s.version == (get_or steps k d).version) steps ≡ true
one_at steps k d h = list_any_at (λ s. s.version == (get_or steps k d).version) steps k d h (eq-eqb (get_or steps k d).version (get_or steps k d).version refl)

marked_first : (changes : List Point) (v : ℕ) → v ≡ 0 → IsTrue (is_marked changes v)
marked_first changes v e = or_left (v == 0) (list_any (λ p. p.version == v) changes) (eq-eqb v 0 e)

marked_by : (changes : List Point) (v : ℕ) → list_any (λ p. p.version == v) changes ≡ true → IsTrue (is_marked changes v)
marked_by changes v h = or_right (v == 0) (list_any (λ p. p.version == v) changes) h

marked_all : (changes : List Point) (steps : List Step) → ((v : ℕ) → list_any (λ s. s.version == v) (needed steps) ≡ true → list_any (λ p. p.version == v) changes ≡ true) → AreMarked changes steps
marked_all changes [] told = λ k d h. absurd (omega (arith, h))
marked_all changes (s ∷ steps) told =
    needed_by (λ ss. ((v : ℕ) → list_any (λ x. x.version == v) ss ≡ true → list_any (λ p. p.version == v) changes ≡ true) → AreMarked changes (s ∷ steps)) s steps
    (λ at value each. All-cons (λ (x : Step). IsTrue (is_marked changes x.version)) s steps (marked_first changes s.version at)
    (λ k d h. marked_by changes (get_or steps k d).version (each (get_or steps k d).version (one_at steps k d h))))
    (λ _ each k d h. marked_by changes (get_or (s ∷ steps) k d).version (each (get_or (s ∷ steps) k d).version (one_at (s ∷ steps) k d h))) told

come_of : (points : List Point) (before : ℕ) (steps : List Step) → All (λ s. IsTrue (has_come points s.version)) steps → All (λ c. IsTrue (has_come points c.version)) (map point_at (jumps before steps))
come_of points before [] all = λ k d h. absurd (omega (arith, h))
come_of points before (s ∷ steps) all =
    All-cons (λ (c : Point). IsTrue (has_come points c.version)) (point_at (jump before s)) (map point_at (jumps s.value steps)) (all 0 s (omega arith)) (come_of points s.value steps (λ k d h. all (suc k) d (omega (arith, h))))

-- Where there is a point, one has come at version 0.
come_at_zero : (points : List Point) → 1 ≤ length points → IsTrue (has_come points 0)
come_at_zero [] some = absurd (omega (arith, some))
come_at_zero (p ∷ points) some = or_left (nat_le 0 p.version) (has_come points 0) (leb-zero p.version)

come_rest : (points : List Point) (n : ℕ) → (1 ≤ n → 1 ≤ length points) → All (λ c. IsTrue (has_come points c.version)) (replicate n no_change)
come_rest points zero some = λ k d h. absurd (omega (arith, h))
come_rest points (suc n) some = All-replicate (λ (c : Point). IsTrue (has_come points c.version)) (suc n) no_change (come_at_zero points (some (omega arith)))

pub stands_for : (m : PageMap) (tree : Tree) (points : List Point) (walk : Walk) → HasChangesOf tree points → IsWalk m tree walk → AreMade walk.steps.items tree.count points
    → NamesNoneTwice walk.named.items → StandsForChanges m tree points
stands_for m tree points walk n w made once =
    let steps : List Step = walk.steps.items in
    let changes : List Point = changes_of tree.count steps in
    let typed : AreResidues steps = subst AreResidues (sym w.steps_are) (steps_small tree.levels m tree.root 0) in
    let ups : AscendFrom 0 steps (2 ^ 32) = subst (λ (ss : List Step). AscendFrom 0 ss (2 ^ 32)) (sym w.steps_are) (tree_ascends tree.levels m tree.root w.stands) in
    let many : length changes ≡ tree.count = length-changes tree.count steps made.few in
    let numbers : HasNumbersOf tree changes = record {
      few = omega (arith, n.few);
      count = sym many;
      some = λ e. many ∙ n.some e;
      changes = n.changes;
      last = n.last;
    } in
    record {
      changes = changes;
      stands = stands m tree changes walk numbers w once
          (marked_all changes steps (λ v h. change_at tree.count steps v h)) typed
          (λ v below. jumps_tell steps (2 ^ 32) v typed ups ∙ sym (changes_weigh tree.count steps (2 ^ 32) v typed ups));
      past = All-append (λ (c : Point). IsTrue (has_come points c.version)) (map point_at (jumps 0 (needed steps))) (replicate (tree.count - length (needed steps)) no_change)
          (come_of points 0 (needed steps) made.come) (come_rest points (tree.count - length (needed steps)) (λ some. n.begun (omega arith)));
    }

-- What there is to say of each of the steps that need a change.
abbrev HasChange : List Point → Step → Type 0
HasChange changes s = list_any (λ c. c.version == s.version) changes ≡ true

pub from_low : (low high : ℕ) (steps : List Step) → AscendFrom low steps high → All (λ s. low ≤ s.version) steps
from_low low high [] a = λ k d h. absurd (omega (arith, h))
from_low low high (s ∷ steps) a =
    let rest = from_low (s.version + 1) high steps a.2 in
    All-cons (λ (x : Step). low ≤ x.version) s steps a.0 (λ k d h. omega (arith, a.0, rest k d h))

changed_at : (changes : List Point) (v : ℕ) → v ≢ 0 → IsTrue (is_marked changes v) → list_any (λ c. c.version == v) changes ≡ true
changed_at changes v some marked = elim (or_cases (v == 0) (list_any (λ c. c.version == v) changes) marked) [
  | inl at_zero ↦ absurd (some (eqb-true v 0 at_zero))
  | inr there ↦ there
]

-- Without a change at version 0 the value there is 0.
unweighed : (changes : List Point) (v : ℕ) → v ≡ 0 → list_any (λ c. c.version == v) changes ≡ false → dominated_weight 0 changes [] 0 ≡ 0
unweighed [] v e none = refl
unweighed (c ∷ changes) v e none =
    let parts = or_parts (c.version == v) (list_any (λ x. x.version == v) changes) none in
    let rest : dominated_weight 0 changes [] 0 ≡ 0 = unweighed changes v e parts.1 in
    let later : 0 < c.version = elim (cases_lt 0 c.version) [ inl some ↦ some | inr at_zero ↦ absurd (false≢true (sym parts.0 ∙ eq-eqb c.version v (omega arith))) ] in
    let here : cond (is_dominated 0 [] 0 c) c.weight 0 ≡ 0 = ap (λ (b : Bool). cond (b && true) c.weight 0) (lt-leb c.version 0 later) in
    omega (arith, sum_by-cons (λ (p : Point). cond (is_dominated 0 [] 0 p) p.weight 0) c changes, here, rest)

first_value : (s : Step) (steps : List Step) (high : ℕ) → s.version ≡ 0 → AscendFrom 0 (s ∷ steps) high → step_value 0 (s ∷ steps) 0 ≡ s.value
first_value s steps high e a =
    ap (λ (b : Bool). step_value (cond b s.value 0) steps 0) (le-leb s.version 0 (omega arith)) ∙ not_yet (s.version + 1) high s.value 0 steps (omega arith) a.2

second_false : (a b : Bool) → a ≡ true → (a && b) ≡ false → b ≡ false
second_false true b e h = h
second_false false b e h = absurd (false≢true e)

first_changed : (changes : List Point) (s : Step) (steps : List Step) (high : ℕ) → AreMarked changes (s ∷ steps) → AscendFrom 0 (s ∷ steps) high → AreResidues (s ∷ steps)
    → step_value 0 (s ∷ steps) 0 ≡ dominance_sum 0 changes [] 0 → (s.version == 0 && s.value == 0) ≡ false → HasChange changes s
first_changed changes s steps high marked a typed told test = elim (cases_Bool (s.version == 0)) [
  | inr some ↦ changed_at changes s.version (λ e. false≢true (sym some ∙ eq-eqb s.version 0 e)) (marked 0 s (omega arith))
  | inl at_zero ↦
      let at : s.version ≡ 0 = eqb-true s.version 0 at_zero in
      elim (cases_Bool (list_any (λ c. c.version == s.version) changes)) [
        | inl there ↦ there
        | inr none ↦
            let value : s.value ≡ 0 = sym (first_value s steps high at a) ∙ told ∙ ap (λ (n : ℕ). n % 2 ^ 128) (unweighed changes s.version at none) in
            absurd (false≢true (sym (second_false (s.version == 0) (s.value == 0) at_zero test) ∙ eq-eqb s.value 0 value))
      ]
]

need_changes : (changes : List Point) (steps : List Step) (high : ℕ) → AreMarked changes steps → AscendFrom 0 steps high → AreResidues steps
    → step_value 0 steps 0 ≡ dominance_sum 0 changes [] 0 → All (HasChange changes) (needed steps)
need_changes changes [] high marked a typed told = λ k d h. absurd (omega (arith, h))
need_changes changes (s ∷ steps) high marked a typed told =
    let later = from_low (s.version + 1) high steps a.2 in
    let rest : All (HasChange changes) steps = λ k d h. changed_at changes (get_or steps k d).version (λ e. absurd (omega (arith, later k d h, e))) (marked (suc k) d (omega (arith, h))) in
    needed_by (All (HasChange changes)) s steps (λ _ _. rest) (λ test. All-cons (HasChange changes) s steps (first_changed changes s steps high marked a typed told test) rest)

apart_all : (k : ℕ) (steps : List Step) → All (λ s. k < s.version) steps → AllByRecursion (λ y. nat_eq k y ≡ false) (map (λ s. s.version) steps)
apart_all k [] all = tt
apart_all k (s ∷ steps) all = (ne_eqb k s.version (λ e. absurd (omega (arith, all 0 s (omega arith), e))), apart_all k steps (λ i d h. all (suc i) d (omega (arith, h))))

distinct_versions : (low high : ℕ) (steps : List Step) → AscendFrom low steps high → IsDistinct nat_eq (map (λ s. s.version) steps)
unfolding IsDistinct
distinct_versions low high [] a = tt
distinct_versions low high (s ∷ steps) a =
    let later = from_low (s.version + 1) high steps a.2 in
    (apart_all s.version steps (λ k d h. omega (arith, later k d h)), distinct_versions (s.version + 1) high steps a.2)

any_version : (changes : List Point) (q : ℕ) → list_any (λ c. c.version == q) changes ≡ true → list_any (nat_eq q) (map (λ c. c.version) changes) ≡ true
any_version [] q h = h
any_version (c ∷ changes) q h = elim (or_cases (c.version == q) (list_any (λ x. x.version == q) changes) h) [
  | inl here ↦ or_left (nat_eq q c.version) (list_any (nat_eq q) (map (λ x. x.version) changes)) (eq-eqb q c.version (sym (eqb-true c.version q here)))
  | inr rest ↦ or_right (nat_eq q c.version) (list_any (nat_eq q) (map (λ x. x.version) changes)) (any_version changes q rest)
]

-- The version of one of the steps has a change.
has_at : (changes : List Point) (steps : List Step) (q : ℕ) → All (HasChange changes) steps → list_any (nat_eq q) (map (λ s. s.version) steps) ≡ true → list_any (λ c. c.version == q) changes ≡ true
has_at changes [] q all h = absurd (false≢true h)
has_at changes (s ∷ steps) q all h = elim (or_cases (nat_eq q s.version) (list_any (nat_eq q) (map (λ x. x.version) steps)) h) [
  | inl here ↦ subst (λ (n : ℕ). list_any (λ c. c.version == n) changes ≡ true) (sym (eqb-true q s.version here)) (all 0 s (omega arith))
  | inr rest ↦ has_at changes steps q (λ k d i. all (suc k) d (omega (arith, i))) rest
]

-- As many changes are needed as there are steps that need one: their versions differ.
enough : (changes : List Point) (steps : List Step) (low high : ℕ) → AscendFrom low steps high → All (HasChange changes) steps → length steps ≤ length changes
enough changes steps low high a all =
    let many = length-le_from_is_member nat_eq_equiv (map (λ (s : Step). s.version) steps) (map (λ (c : Point). c.version) changes) (distinct_versions low high steps a)
    (λ q h. any_version changes q (has_at changes steps q all h)) in
    let b : length (map (λ (s : Step). s.version) steps) ≡ length steps = length-map steps (λ s. s.version) in
    let c : length (map (λ (p : Point). p.version) changes) ≡ length changes = length-map changes (λ p. p.version) in
    omega (arith, many)

come_by : (points changes : List Point) (v : ℕ) → All (λ c. IsTrue (has_come points c.version)) changes → list_any (λ c. c.version == v) changes ≡ true → IsTrue (has_come points v)
come_by points [] v all h = absurd (false≢true h)
come_by points (c ∷ changes) v all h = elim (or_cases (c.version == v) (list_any (λ x. x.version == v) changes) h) [
  | inl here ↦ subst (λ (n : ℕ). IsTrue (has_come points n)) (eqb-true c.version v here) (all 0 c (omega arith))
  | inr rest ↦ come_by points changes v (λ k d i. all (suc k) d (omega (arith, i))) rest
]

pub made_of : (m : PageMap) (tree : Tree) (points : List Point) (walk : Walk) → StandsForChanges m tree points → IsWalk m tree walk → AreMade walk.steps.items tree.count points
made_of m tree points walk s w =
    let steps : List Step = walk.steps.items in
    let typed : AreResidues steps = subst AreResidues (sym w.steps_are) (steps_small tree.levels m tree.root 0) in
    let ups : AscendFrom 0 steps (2 ^ 32) = subst (λ (ss : List Step). AscendFrom 0 ss (2 ^ 32)) (sym w.steps_are) (tree_ascends tree.levels m tree.root w.stands) in
    let told : step_value 0 steps 0 ≡ dominance_sum 0 s.changes [] 0 =
    ap (λ (ss : List Step). step_value 0 ss 0) w.steps_are ∙ tells_tree tree.levels m tree.root 0 w.stands (lit< tt) ∙ s.stands.values 0 (lit< tt) in
    let all : All (HasChange s.changes) (needed steps) = need_changes s.changes steps (2 ^ 32) (marked_of m tree s.changes walk s.stands w) ups typed told in
    let many : length (needed steps) ≤ length s.changes = enough s.changes (needed steps) 0 (2 ^ 32) (needed_ascend steps (2 ^ 32) ups) all in
    let count : tree.count ≡ length s.changes = s.stands.count in
    record {
      few = omega arith;
      come = λ k d h. come_by points s.changes (get_or (needed steps) k d).version s.past (all k d h);
    }

some_come : (points changes : List Point) → All (λ c. IsTrue (has_come points c.version)) changes → 1 ≤ length changes → 1 ≤ length points
some_come points [] all some = absurd (omega (arith, some))
some_come [] (c ∷ changes) all some = absurd (false≢true (all 0 c (omega arith)))
some_come (p ∷ points) (c ∷ changes) all some = omega arith

pub numbers_for : (m : PageMap) (tree : Tree) (points : List Point) → StandsForChanges m tree points → HasChangesOf tree points
numbers_for m tree points s =
    let count : tree.count ≡ length s.changes = s.stands.count in
    let few : length s.changes ≤ 2 ^ 31 = s.stands.few in
    record {
      few = omega arith;
      some = λ e. count ∙ ap length (s.stands.some e);
      changes = s.stands.changes;
      last = s.stands.last;
      begun = λ some. some_come points s.changes s.past (omega arith);
    }

come_earlier : (points : List Point) (v later : ℕ) → v ≤ later → IsTrue (has_come points later) → IsTrue (has_come points v)
come_earlier [] v later h come = come
come_earlier (p ∷ points) v later h come = elim (or_cases (nat_le later p.version) (has_come points later) come) [
  | inl here ↦ or_left (nat_le v p.version) (has_come points v) (le-leb v p.version (omega (arith, leb-true later p.version here)))
  | inr rest ↦ or_right (nat_le v p.version) (has_come points v) (come_earlier points v later h rest)
]

-- Where a point was added at or after the last of the steps, one was at or after each.
pub come_all : (points : List Point) (steps : List Step) (low high : ℕ) → AscendFrom low steps high → (last : Step) → ((d : Step) → last ≡ get_or steps (length steps - 1) d)
    → IsTrue (has_come points last.version) → All (λ s. IsTrue (has_come points s.version)) steps
come_all points [] low high a last at come = λ k d h. absurd (omega (arith, h))
come_all points (s ∷ []) low high a last at come =
    All-cons (λ (x : Step). IsTrue (has_come points x.version)) s [] (subst (λ (x : Step). IsTrue (has_come points x.version)) (at s) come) (λ k d h. absurd (omega (arith, h)))
come_all points (s ∷ (t ∷ steps)) low high a last at come =
    let one : length (s ∷ (t ∷ steps)) - 1 ≡ suc (length (t ∷ steps) - 1) = omega arith in
    let rest : All (λ x. IsTrue (has_come points x.version)) (t ∷ steps) =
    come_all points (t ∷ steps) (s.version + 1) high a.2 last (λ d. at d ∙ ap (λ (n : ℕ). get_or (s ∷ (t ∷ steps)) n d) one) come in
    All-cons (λ (x : Step). IsTrue (has_come points x.version)) s (t ∷ steps) (come_earlier points s.version t.version (omega (arith, a.2.0)) (rest 0 t (omega arith))) rest
