-- The lows of a tree's leaves are the versions of its steps.
use Rattle.std.proofs.Common.{◌≡◌, ℕ, zero, suc, List, [], ◌∷◌, ◌++◌, map, refl, sym, ◌∙◌, ap}
use Rattle.std.specs.List.{flat_map}
use Rattle.std.proofs.lemmas.List.{map-append}
use Rattle.ports.specs.Pages.{PageMap}
use Rattle.page_layout.specs.declared.sb_node.SbEntry.{SbEntry}
use Rattle.sb_tree.specs.Steps.{entries_on, lows_below}
use Rattle.key_check.specs.declared.step.Step.{Step}
use Rattle.key_check.specs.Steps.{entries_steps, leaf_steps, more, steps_below}
use Rattle.key_check.proofs.Walking.{child_steps}

abbrev pub versions_of : List Step → List ℕ
versions_of steps = map (λ s. s.version) steps

leaf_lows : (es : List SbEntry) (before : ℕ) → map (λ e. e.low) es ≡ versions_of (entries_steps leaf_steps before es)
leaf_lows [] before = refl
leaf_lows (e ∷ es) before = ap (λ (ls : List ℕ). e.low ∷ ls) (leaf_lows es (more before e))

index_lows : (level : ℕ) (m : PageMap) → ((child before : ℕ) → lows_below level m child ≡ versions_of (steps_below level m child before))
    → (es : List SbEntry) (before : ℕ) → flat_map (λ e. lows_below level m e.child) es ≡ versions_of (entries_steps (child_steps level m) before es)
index_lows level m own [] before = refl
index_lows level m own (e ∷ es) before =
    ap (λ (ls : List ℕ). ls ++ flat_map (λ e. lows_below level m e.child) es) (own e.child (more before e))
    ∙ ap (λ (ls : List ℕ). versions_of (child_steps level m e (more before e)) ++ ls) (index_lows level m own es (more before e))
    ∙ sym (map-append (λ (s : Step). s.version) (child_steps level m e (more before e)) (entries_steps (child_steps level m) (more before e) es))

pub lows_are : (level : ℕ) (m : PageMap) (page before : ℕ) → lows_below level m page ≡ versions_of (steps_below level m page before)
lows_are zero m page before = refl
lows_are (suc zero) m page before = leaf_lows (entries_on m page) before
lows_are (suc (suc level)) m page before = index_lows (suc level) m (lows_are (suc level) m) (entries_on m page) before
