use Rattle.std.proofs.Common.{◌≡◌, ◌-◌, ℕ, suc, false, List, drop, sym, ◌∙◌, subst, arith}
use Rattle.std.specs.List.{All}
use Rattle.page_layout.specs.declared.mv_node.MvEntry.{MvEntry}
use Rattle.mv_pages.specs.Alive.{is_alive}
use Rattle.mv_pages.proofs.Order.{ordered}
use Rattle.mvsb_tree.specs.Damage.{not_past}
use Rattle.mvsb_tree.proofs.Within.{dead_pass, last_decides, none_alive, one_before}
use Rattle.mvsb_tree.proofs.place.none_begins_past.Goals as goal

pub entry-e-requires : goal.entry-e-requires
entry-e-requires c = omega (arith, c.loop-rest.invariant.fits, c.loop-rest-test.true)

pub returns-then-is_alive : goal.returns-then-is_alive
returns-then-is_alive c =
    let es : List MvEntry = c.args.view.now.entries.items in
    let place : c.loop-rest.rest ≡ suc (c.loop-rest.rest - 1) = omega (arith, c.loop-rest-test.true) in
    c.ends_after.ensures ∙ last_decides c.args.place es (ordered es c.keeps_rules.ensures.entries.order) (c.loop-rest.rest - 1) c.entry-e.result
    (omega (arith, c.loop-rest.invariant.fits, c.loop-rest-test.true)) c.entry-e.ensures (sym c.is_alive.ensures ∙ c.if-is_alive.true)
    (subst (λ (n : ℕ). All (λ f. is_alive c.args.place.version f ≡ false) (drop n es)) place c.loop-rest.invariant.dead)

pub loop-rest-preserved : goal.loop-rest-preserved
loop-rest-preserved c =
    let es : List MvEntry = c.args.view.now.entries.items in
    let place : c.loop-rest.rest ≡ suc (c.loop-rest.rest - 1) = omega (arith, c.loop-rest-test.true) in
    record {
      fits = omega (arith, c.loop-rest.invariant.fits);
      dead = one_before c.args.place.version es (c.loop-rest.rest - 1) c.entry-e.result (omega (arith, c.loop-rest.invariant.fits, c.loop-rest-test.true)) c.entry-e.ensures
          (sym c.is_alive.ensures ∙ c.if-is_alive.false) (subst (λ (n : ℕ). All (λ f. is_alive c.args.place.version f ≡ false) (drop n es)) place c.loop-rest.invariant.dead);
    }

pub returns : goal.returns
returns c =
    let es : List MvEntry = c.args.view.now.entries.items in
    let none : c.loop-rest.rest ≡ 0 = omega (arith, c.loop-rest-test.false) in
    none_alive (not_past c.args.place) c.args.place.version es
    (subst (λ (n : ℕ). All (λ f. is_alive c.args.place.version f ≡ false) (drop n es)) none c.loop-rest.invariant.dead) (λ f dead. dead_pass c.args.place.version f _ dead)
