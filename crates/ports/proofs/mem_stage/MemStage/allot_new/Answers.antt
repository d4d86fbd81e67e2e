use Rattle.std.proofs.Common.{◌≡◌, ◌∙◌, Bool, true, false, if◌then◌else◌, List, [], ◌∷◌, ◌++◌, reverse, ℕ, ap}
use Rattle.ports.specs.Pages.{blank_bytes}
use Rattle.ports.specs.Kept.{kept_of}
use Rattle.ports.specs.Spare.{are_spare}
use Rattle.ports.specs.SpareLaws.{are_spare-push}
use Rattle.ports.proofs.Forgotten.{push_blank}
use Rattle.ports.proofs.mem_stage.MemStage.allot_new.Goals as goal

-- a list with a new page at its end, where there was memory for it
longer : (pages pushed : List (List ℕ)) (bytes : List ℕ) (chain : List ℕ) (done : Bool) → bytes ≡ blank_bytes
    → pushed ≡ (if done then pages ++ bytes ∷ [] else pages) → are_spare (kept_of pages) chain ≡ true → are_spare (kept_of pushed) chain ≡ true
longer pages pushed bytes chain false blank push spare = rw push spare
longer pages pushed bytes chain true blank push spare =
    let new = push_blank pages pushed (push ∙ ap (λ (b : List ℕ). pages ++ b ∷ []) blank) in
    rw new.kept (are_spare-push (kept_of pages) chain blank_bytes spare)

pub invariant_of-self-clause-spare : goal.invariant_of-self-clause-spare
invariant_of-self-clause-spare c = longer _ _ _ (reverse c.args.self.now.freed.items) _ c.blank_page.ensures c.push.ensures.items c.args.self.now.spare
