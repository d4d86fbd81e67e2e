use Rattle.std.proofs.Common.{◌≡◌, ℕ, ◌+◌, ◌∙◌, [], ◌∷◌, ◌++◌, length, reverse, ap, sym, arith, rules}
use Rattle.std.proofs.lemmas.Bool.{eqb-false}
use Rattle.std.proofs.lemmas.List.{append-nil, length-set}
use Rattle.ports.specs.Pages.{blank_bytes}
use Rattle.ports.specs.Kept.{used_bytes, kept_of}
use Rattle.ports.specs.KeptLaws.{used_bytes-blank, kept_of-length, kept_of-set}
use Rattle.ports.specs.SpareLaws.{IsTaken, reverse_push, taken_first}
use Rattle.ports.proofs.Forgotten.{none_allotted, none_put, push_blank}
use Rattle.ports.proofs.mem_stage.MemStageStage.allot.Goals.{After-set_page}
use Rattle.ports.proofs.mem_stage.MemStageStage.allot.Goals as goal

-- the page that was freed last is a page of the map again
taken : (c : After-set_page) → IsTaken (kept_of c.args.self.now.pages.items) (kept_of c.set_page.new.pages.items) c.in-Some.page blank_bytes (reverse c.pop.new.self.items)
taken c = taken_first _ _ c.args.self.now.freed.items c.pop.new.self.items c.in-Some.page blank_bytes c.args.self.now.spare c.in-Some.ensures.items
    (kept_of-set _ _ _ _ _ c.set_page.ensures (ap used_bytes c.blank_page.ensures ∙ used_bytes-blank))

pub invariant_of-self-clause-spare : goal.invariant_of-self-clause-spare
invariant_of-self-clause-spare c = (taken (goal.at.invariant_of-self-clause-spare c).After-set_page).spare

pub returns-in-Some-clause-ok : goal.returns-in-Some-clause-ok
returns-in-Some-clause-ok c =
    let first = taken (goal.at.returns-in-Some-clause-ok c).After-set_page in
    (first.low, rw (kept_of-length c.set_page.new.pages.items) at first.high, λ told. (first.absent, first.map))

pub returns-in-Some-clause-changes : goal.returns-in-Some-clause-changes
returns-in-Some-clause-changes c =
    let after = (goal.at.returns-in-Some-clause-changes c).After-set_page in
    let len : length c.set_page.new.pages.items ≡ length c.args.self.now.pages.items = ap length c.set_page.ensures ∙ length-set c.args.self.now.pages.items _ _ in
    let turned = ap reverse c.in-Some.ensures.items ∙ reverse_push c.pop.new.self.items c.in-Some.page in
    let others = λ (p : ℕ). none_allotted _ _ _ _ c.in-Some.page p blank_bytes (taken after).map turned in
    search rules

pub returns-in-None-clause-ok : goal.returns-in-None-clause-ok
returns-in-None-clause-ok c = grind (arith, push_blank)

pub returns-in-None-clause-changes : goal.returns-in-None-clause-changes
returns-in-None-clause-changes c =
    let freed : c.allot_new.new.self.freed.items ≡ c.args.self.now.freed.items = rw (c.allot_new.ensures.freed, c.in-None.ensures.items) (sym (append-nil _)) in
    let others = λ (pushed : c.allot_new.new.self.pages.items ≡ c.args.self.now.pages.items ++ blank_bytes ∷ []) (p : ℕ).
    none_put _ _ (3 + length c.args.self.now.pages.items) p blank_bytes (push_blank _ _ pushed).map in
    grind (arith, eqb-false, push_blank)
