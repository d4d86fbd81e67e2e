use Rattle.std.proofs.Common.{rules, ◌≡◌, ℕ, Option, Some, sym, subst, ◌∙◌}
use Rattle.object_table.specs.Lives.{first_from, from_id, from_life}
use Rattle.page_warehouse.proofs.Walked.{from_before, from_its_id}
use Rattle.page_warehouse.proofs.walking.id_before.Goals as goal

pub returns-in-Some-default-eq0-clause-first : goal.returns-in-Some-default-eq0-clause-first
returns-in-Some-default-eq0-clause-first c = λ kept first.
    subst (λ (a : Option (ℕ × ℕ)). first_from (from_id c.checked_sub.result) kept ≡ first_from (from_life a) kept) (sym c.in-Some-default-eq0.is)
    (from_before c.in-Some-default-eq0.id c.in-Some-default-eq0.field-0-1 c.checked_sub.result kept (sym c.in-Some-default-eq0.field-0-1-is ∙ c.in-Some-default-eq0.field-0-1-test) c.checked_sub.ensures first)

pub returns-in-Some-clause-first : goal.returns-in-Some-clause-first
returns-in-Some-clause-first c = λ kept first.
    subst (λ (a : Option (ℕ × ℕ)). first_from (from_id (Some c.in-Some.id)) kept ≡ first_from (from_life a) kept) (sym c.in-Some.is)
    (from_its_id c.in-Some.id c.in-Some.field-0-1 kept (λ e. c.in-Some.field-0-1-test.1 (c.in-Some.field-0-1-is ∙ e)) (search rules) first)
