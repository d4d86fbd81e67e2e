use Rattle.std.proofs.Common.{reverse, Some, ℕ, List, rules, refl}
use Rattle.ports.specs.KeptLaws.{map_of-place, used_bytes-other}
use Rattle.ports.specs.SpareLaws.{are_spare-set, there-unnamed}
use Rattle.ports.proofs.Forgotten.{IsSet, none_put, same_spare, set_place}
use Rattle.ports.proofs.mem_stage.MemStageStage.put.Goals.{After-set_page}
use Rattle.ports.proofs.mem_stage.MemStageStage.put.Goals as goal

filled : (c : After-set_page) → IsSet c.args.self.now.pages.items c.set_page.new.pages.items c.args.page (Some c.args.buf.now)
filled c = set_place _ _ c.args.page c.args.buf.now _ (map_of-place _ _ (c.requires.in_map refl)) c.set_page.ensures (used_bytes-other _ c.requires.kind)

pub invariant_of-self-clause-spare : goal.invariant_of-self-clause-spare
invariant_of-self-clause-spare c =
    let chain : List ℕ = reverse c.args.self.now.freed.items in
    let place = map_of-place _ c.args.page (c.requires.in_map refl) in
    same_spare (filled (goal.at.invariant_of-self-clause-spare c).After-set_page).kept (refl {a = chain})
    (are_spare-set _ chain c.args.page (Some c.args.buf.now) c.args.self.now.spare place.0 place.1 (there-unnamed _ chain c.args.page c.args.self.now.spare (c.requires.in_map refl)))

pub returns-clause-ok : goal.returns-clause-ok
returns-clause-ok c told = (filled (goal.at.returns-clause-ok c).After-set_page).map

pub returns-clause-changes : goal.returns-clause-changes
returns-clause-changes c =
    let set = filled (goal.at.returns-clause-changes c).After-set_page in
    let others = λ (p : ℕ). none_put _ _ c.args.page p c.args.buf.now set.map in
    search rules
