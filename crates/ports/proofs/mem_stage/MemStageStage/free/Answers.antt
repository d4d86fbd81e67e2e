use Rattle.std.proofs.Common.{◌≡◌, ◌∷◌, ◌∙◌, ℕ, reverse, None, ap, refl, rules}
use Rattle.ports.specs.Kept.{used_bytes}
use Rattle.ports.specs.KeptLaws.{map_of-place, used_bytes-free}
use Rattle.ports.specs.SpareLaws.{are_spare-free, reverse_push}
use Rattle.ports.proofs.Forgotten.{IsSet, none_removed, same_spare, set_place}
use Rattle.ports.proofs.mem_stage.MemStageStage.free.Goals.{After-set_page}
use Rattle.ports.proofs.mem_stage.MemStageStage.free.Goals as goal

emptied : (c : After-set_page) → IsSet c.args.self.now.pages.items c.set_page.new.pages.items c.args.page None
emptied c = set_place _ _ c.args.page _ _ (map_of-place _ _ (c.requires.in_map refl)) c.set_page.ensures (ap used_bytes c.free_page.ensures ∙ used_bytes-free)

turned : (c : After-set_page) → reverse c.push.new.self.items ≡ c.args.page ∷ reverse c.args.self.now.freed.items
turned c = ap reverse c.in-Ok.ensures.items ∙ reverse_push c.args.self.now.freed.items c.args.page

pub invariant_of-self-clause-spare : goal.invariant_of-self-clause-spare
invariant_of-self-clause-spare c =
    let after = (goal.at.invariant_of-self-clause-spare c).After-set_page in
    same_spare (emptied after).kept (turned after)
    (are_spare-free _ (reverse c.args.self.now.freed.items) c.args.page c.args.self.now.spare (c.requires.in_map refl))

pub returns-in-Ok-clause-ok : goal.returns-in-Ok-clause-ok
returns-in-Ok-clause-ok c told = (emptied (goal.at.returns-in-Ok-clause-ok c).After-set_page).map

pub returns-in-Ok-clause-changes : goal.returns-in-Ok-clause-changes
returns-in-Ok-clause-changes c =
    let after = (goal.at.returns-in-Ok-clause-changes c).After-set_page in
    let set = emptied after in
    let others = λ (p : ℕ). none_removed _ _ _ _ c.args.page p set.map (turned after) in
    search rules
