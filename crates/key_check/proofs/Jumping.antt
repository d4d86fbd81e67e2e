-- The sum of the jumps is the value of the steps.
use Rattle.std.proofs.Common.{◌≡◌, ℕ, Bool, suc, ◌+◌, ◌%◌, ◌^◌, ◌<◌, ◌&&◌, List, [], ◌∷◌, nat_le, cond, refl, sym, ◌∙◌, ap, zero-add, lit<, arith, inl, inr, ◌++◌, length, take, get_or}
use Rattle.std.specs.List.{All, sum_by}
use Rattle.std.proofs.lemmas.Bool.{cases_lt, le-leb, lt-leb}
use Rattle.std.proofs.lemmas.List.{take_more}
use Rattle.std.proofs.lemmas.List.Elements.{All-cons}
use Rattle.std.proofs.lemmas.List.Sums.{sum_by-cons}
use Rattle.bw_types.specs.Residues.{opposite_residue}
use Rattle.key_check.specs.declared.corner.Corner.{Corner}
use Rattle.key_check.specs.Sums.{corner_sum, weight_at}
use Rattle.key_check.specs.declared.step.Step.{Step}
use Rattle.key_check.specs.Steps.{AreResidues, AscendFrom, jump, jumps, last_value, step_value}
use Rattle.key_check.proofs.Ascending.{not_yet}

no_jump_yet : (steps : List Step) (low high before v : ℕ) → v < low → AscendFrom low steps high → sum_by (weight_at 0 v) (jumps before steps) ≡ 0
no_jump_yet [] low high before v h a = refl
no_jump_yet (s ∷ steps) low high before v h a =
    let later : v < s.version = omega (arith, a.0) in
    let rest : sum_by (weight_at 0 v) (jumps s.value steps) ≡ 0 = no_jump_yet steps (s.version + 1) high s.value v (omega arith) a.2 in
    let w : ℕ = (s.value + opposite_residue before) % 2 ^ 128 in
    let here : weight_at 0 v (record { version = s.version; key = 0; weight = w }) ≡ 0 = ap (λ (b : Bool). cond (b && nat_le 0 0) w 0) (lt-leb s.version v later) in
    omega (arith, sum_by-cons (weight_at 0 v) (record { version = s.version; key = 0; weight = w }) (jumps s.value steps))

telescope : (before value rest total : ℕ) → before < 2 ^ 128 → total ≡ (value + opposite_residue before) % 2 ^ 128 + rest → (before + total) % 2 ^ 128 ≡ (value + rest) % 2 ^ 128
telescope before value rest total small e = omega arith

as_before : (before total : ℕ) → before < 2 ^ 128 → total ≡ 0 → (before + total) % 2 ^ 128 ≡ before
as_before before total small e = omega arith

pub jump_sum : (steps : List Step) (low high before v : ℕ) → before < 2 ^ 128 → AreResidues steps → AscendFrom low steps high
    → (before + sum_by (weight_at 0 v) (jumps before steps)) % 2 ^ 128 ≡ step_value before steps v
jump_sum [] low high before v small typed a = as_before before 0 small refl
jump_sum (s ∷ steps) low high before v small typed a = elim (cases_lt v s.version) [
  | inl later ↦
      as_before before (sum_by (weight_at 0 v) (jumps before (s ∷ steps))) small (no_jump_yet (s ∷ steps) s.version high before v later (omega arith, a.1, a.2))
      ∙ sym (not_yet s.version high before v (s ∷ steps) later (omega arith, a.1, a.2))
  | inr begun ↦
      let w : ℕ = (s.value + opposite_residue before) % 2 ^ 128 in
      let c : Corner = record { version = s.version; key = 0; weight = w } in
      let here : weight_at 0 v c ≡ w = ap (λ (b : Bool). cond (b && nat_le 0 0) w 0) (le-leb s.version v begun) ∙ ap (λ (b : Bool). cond b w 0) (le-leb 0 0 (omega arith)) in
      let value : s.value < 2 ^ 128 = typed 0 s (omega arith) in
      telescope before s.value (sum_by (weight_at 0 v) (jumps s.value steps)) (sum_by (weight_at 0 v) (jumps before (s ∷ steps))) small
      (sum_by-cons (weight_at 0 v) c (jumps s.value steps) ∙ ap (λ (n : ℕ). n + sum_by (weight_at 0 v) (jumps s.value steps)) here)
      ∙ jump_sum steps (s.version + 1) high s.value v value (λ k d h. typed (suc k) d (omega (arith, h))) a.2
      ∙ sym (ap (λ (b : Bool). step_value (cond b s.value before) steps v) (le-leb s.version v begun))
]

-- The sum of the jumps at a version is the value there.
pub jumps_tell : (steps : List Step) (high v : ℕ) → AreResidues steps → AscendFrom 0 steps high → corner_sum (jumps 0 steps) 0 v ≡ step_value 0 steps v
jumps_tell steps high v typed a =
    ap (λ (n : ℕ). n % 2 ^ 128) (sym (zero-add (sum_by (weight_at 0 v) (jumps 0 steps)))) ∙ jump_sum steps 0 high 0 v (lit< tt) typed a

pub keys_are_zero : (steps : List Step) (before : ℕ) → All (λ c. c.key ≡ 0) (jumps before steps)
keys_are_zero [] before = λ k d h. absurd (omega (arith, h))
keys_are_zero (s ∷ steps) before = All-cons (λ (c : Corner). c.key ≡ 0) _ (jumps s.value steps) refl (keys_are_zero steps s.value)

jumps-push : (before : ℕ) (steps : List Step) (s : Step) → jumps before (steps ++ s ∷ []) ≡ jumps before steps ++ jump (last_value before steps) s ∷ []
jumps-push before [] s = refl
jumps-push before (t ∷ steps) s = ap (λ (cs : List Corner). jump before t ∷ cs) (jumps-push t.value steps s)

last-push : (before : ℕ) (steps : List Step) (s : Step) → last_value before (steps ++ s ∷ []) ≡ s.value
last-push before [] s = refl
last-push before (t ∷ steps) s = last-push t.value steps s

pub last_more : (steps : List Step) (done : ℕ) (d : Step) → done < length steps → (get_or steps done d).value ≡ last_value 0 (take (done + 1) steps)
last_more steps done d h = sym (ap (last_value 0) (take_more steps done d h) ∙ last-push 0 (take done steps) (get_or steps done d))

pub jumps_more : (steps : List Step) (done : ℕ) (d : Step) (before : ℕ) (old new : List Corner) (c : Corner) → done < length steps → before ≡ last_value 0 (take done steps)
    → old ≡ jumps 0 (take done steps) → new ≡ old ++ c ∷ [] → c ≡ jump before (get_or steps done d) → new ≡ jumps 0 (take (done + 1) steps)
jumps_more steps done d before old new c h value is put same =
    put ∙ ap (λ (x : Corner). old ++ x ∷ []) same ∙ ap (λ (n : ℕ). old ++ jump n (get_or steps done d) ∷ []) value
    ∙ ap (λ (cs : List Corner). cs ++ jump (last_value 0 (take done steps)) (get_or steps done d) ∷ []) is
    ∙ sym (ap (jumps 0) (take_more steps done d h) ∙ jumps-push 0 (take done steps) (get_or steps done d))

pub jump_is : (before value neg : ℕ) → before < 2 ^ 128 → neg < 2 ^ 128 → (neg + before) % 2 ^ 128 ≡ 0 → neg ≡ opposite_residue before
jump_is before value neg hb hn e = omega arith
