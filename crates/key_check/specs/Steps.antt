-- The steps in which the value of a tree over versions changes, as the pages of the map tell them.
use Rattle.std.specs.Prelude.{◌≡◌, ℕ, zero, suc, ◌+◌, ◌%◌, ◌^◌, ◌<◌, ◌≤◌, nat_le, if◌then◌else◌, List, [], ◌∷◌, ◌++◌}
use Rattle.std.specs.List.{All}
use Rattle.bw_types.specs.Residues.{opposite_residue}
use Rattle.ports.specs.Pages.{PageMap}
use Rattle.page_layout.specs.declared.sb_node.SbEntry.{SbEntry}
use Rattle.key_check.specs.declared.corner.Corner.{Corner}
use Rattle.sb_tree.specs.Stands.{StandsBelow}
use Rattle.sb_tree.specs.Steps.{entries_on, pages_below}
use Rattle.key_check.specs.declared.reached.Reached.{Reached}
use Rattle.key_check.specs.declared.step.Step.{Step}

-- the value with so much more, modulo 2^128
abbrev pub more : ℕ → SbEntry → ℕ
more before e = (before + e.value) % 2 ^ 128

-- the value once all of the entries hold
abbrev pub after_all : ℕ → List SbEntry → ℕ
after_all before [] = before
after_all before (e ∷ entries) = after_all (more before e) entries

-- the steps of the entries, one after the other, each with the values of those before it
abbrev pub entries_steps : (SbEntry → ℕ → List Step) → ℕ → List SbEntry → List Step
entries_steps own before [] = []
entries_steps own before (e ∷ entries) = own e (more before e) ++ entries_steps own (more before e) entries

-- an entry of a leaf is a step
abbrev pub leaf_steps : SbEntry → ℕ → List Step
leaf_steps e value = record { version = e.low; value = value } ∷ []

-- the steps of the page and of those below it
abbrev pub steps_below : ℕ → PageMap → ℕ → ℕ → List Step
steps_below zero pages page before = []
steps_below (suc zero) pages page before = entries_steps leaf_steps before (entries_on pages page)
steps_below (suc (suc level)) pages page before =
    entries_steps (λ e value. steps_below (suc level) pages e.child value) before (entries_on pages page)

-- the value at a version: that of the last step at or below it, or `before` where there is none
abbrev pub step_value : ℕ → List Step → ℕ → ℕ
step_value before [] version = before
step_value before (s ∷ steps) version = step_value (if nat_le s.version version then s.value else before) steps version

-- The page stands as it is reached, and its steps and pages were put behind those there were.
pub record Walked (level : ℕ) (pages : PageMap) (reached : Reached) (steps new_steps : List Step) (named new_named : List ℕ) : Type 0 where
  pub stands : StandsBelow level pages reached.page reached.low reached.high reached.least
  pub steps_are : new_steps ≡ steps ++ steps_below level pages reached.page reached.before
  pub named_are : new_named ≡ named ++ pages_below level pages reached.page

-- The steps' versions ascend from one version on, and stay below another.
abbrev pub AscendFrom : ℕ → List Step → ℕ → Type 0
AscendFrom low [] high = Unit {0}
AscendFrom low (s ∷ steps) high = (low ≤ s.version) × (s.version < high) × AscendFrom (s.version + 1) steps high

-- the corner by which a value rises to that of a step
abbrev pub jump : ℕ → Step → Corner
jump before s = record { version = s.version; key = 0; weight = (s.value + opposite_residue before) % 2 ^ 128 }

-- the corners by which the value rises from one step to the next
abbrev pub jumps : ℕ → List Step → List Corner
jumps before [] = []
jumps before (s ∷ steps) = jump before s ∷ jumps s.value steps

-- the value of the last step, or `before` where there is none
abbrev pub last_value : ℕ → List Step → ℕ
last_value before [] = before
last_value before (s ∷ steps) = last_value s.value steps

-- Each value is a residue.
abbrev pub AreResidues : List Step → Type 0
AreResidues steps = All (λ s. s.value < 2 ^ 128) steps
