use Rattle.std.proofs.Common.{rules, arith}
use Rattle.page_checks.proofs.Order.{rise_once, rises, twice_at}
use Rattle.page_checks.proofs.named.differ_in_order.Goals as goal

pub returns-then-pages-place : goal.returns-then-pages-place
returns-then-pages-place c = (λ never. search rules, λ once. absurd (twice_at c.args.pages.now c.loop-place.place (omega arith) (omega arith) c.if-pages-place.true once))

pub returns : goal.returns
returns c = (λ _. rise_once _ (rises c.args.pages.now c.loop-place.place (omega arith) c.loop-place.invariant), λ _. search rules)
