use Rattle.std.proofs.Common.{◌+◌, ◌<◌, ◌^◌, ℕ, inl, inr, sym, Bool, Err, rules, arith, subst, ap, ◌∙◌, List}
use Rattle.ports.specs.Pages.{PageMap}
use Rattle.page_layout.specs.declared.mv_node.MvEntry.{MvEntry}
use Rattle.mvsb_tree.specs.Stored.{IsFirstStored, all_start_at}
use Rattle.std.proofs.lemmas.Result.{err_from_is_err_and}
use Rattle.ports.specs.declared.page.StageFault.TheVariants.{Damaged}
use Rattle.page_layout.specs.declared.mv_node.MvNode.{MvNode}
use Rattle.mv_pages.specs.Copies.{AreTwoCopies}
use Rattle.mvsb_tree.specs.AddDamage.{IsEndDamaged, IsPlacedAs}
use Rattle.mvsb_tree.proofs.Ending.{end_before, end_of_last, first_keeps, first_pages, one_needed, two_needed}
use Rattle.mvsb_tree.proofs.Exits.{exit_error}
use Rattle.mvsb_tree.proofs.Lasting.{first_stands, some_by_name}
use Rattle.mvsb_tree.proofs.store.close.Goals as goal

pub make_next-requires-clause-count : goal.make_next-requires-clause-count
make_next-requires-clause-count g c = (
  omega (arith, c.in-One.ensures.copied.count, c.requires.rules.living),
  omega (arith, c.in-One.ensures.copied.count, c.in-One.ensures.copied.few),
)

pub returns-in_ok-second-in-Two-clause-closed : goal.returns-in_ok-second-in-Two-clause-closed
returns-in_ok-second-in-Two-clause-closed g c = λ tells.
    let m0 : PageMap = g.S.Pages.map c.args.stage.now in
    let starts = c.all_start_at-starts.ensures ∙ ap (λ (es : List MvEntry). all_start_at c.args.version es) c.as_slice.ensures.value in
    record {
      first_node = c.in-Two.first;
      second_node = c.in-Two.second;
      copies = c.in-Two.ensures.copied;
      typed = c.in-Two.ensures.typed c.requires.rules.typed;
      between = g.S.Pages.map c.store_first.new.stage;
      between_last = c.store_first.new.last;
      stored = subst (λ (b : Bool). IsFirstStored b m0 (g.S.Pages.map c.store_first.new.stage) c.args.page c.args.last.now c.store_first.new.last c.in-Two.first c.in_ok-first-in-Two.first) starts
          (c.in_ok-first-in-Two.ensures.stored tells);
      next = c.in_ok-second-in-Two.ensures.made (search rules);
      ends = c.in_ok-second-in-Two.ensures.number.1;
    }

pub returns-in_err-second-in-Two-clause-sound : goal.returns-in_err-second-in-Two-clause-sound
returns-in_err-second-in-Two-clause-sound g c = λ places p tells s named place before ordered e. (
    let m0 : PageMap = g.S.Pages.map c.args.stage.now in
    let told = err_from_is_err_and c.from_residual-in_err-second-in-Two.result c.from_residual-in_err-second-in-Two.ensures.1 in
    let same = exit_error c.from_residual-in_err-second-in-Two.result c.in_err-second-in-Two.field-0.0 (Damaged p) told e in
    let copied = c.in-Two.ensures.copied in
    let first_place = ap (λ (n : MvNode). n.place) copied.first_made ∙ place in
    let first_before = ap (λ (n : MvNode). n.before) copied.first_made ∙ before in
    let after = first_stands c.all_start_at-starts.result m0 (g.S.Pages.map c.store_first.new.stage) c.args.page places c.args.last.now c.store_first.new.last c.in-Two.first c.in_ok-first-in-Two.first named s
    first_place first_before (c.in-Two.ensures.typed c.requires.rules.typed).0 (some_by_name places m0 c.args.last.now c.args.page named) (c.in_ok-first-in-Two.ensures.stored tells) in
    c.in_err-second-in-Two.ensures.sound after.0 p (c.in_ok-first-in-Two.ensures.grows.went_on.tells ∙ tells) after.2 after.1 (c.in_ok-first-in-Two.ensures.grows.went_on.free_in_order tells ordered) (ap Err same))

-- The first copy has the place of the page.
placed_first : (m : PageMap) (page v : ℕ) (node first second : MvNode) (cut : ℕ) → AreTwoCopies node v first cut second → IsPlacedAs m page node → IsPlacedAs m page first
placed_first m page v node first second cut copies placed = (
  ap (λ (n : MvNode). n.place) copies.first_made ∙ placed.0,
  subst (λ (x : ℕ). x < 2 ^ 32) (sym (ap (λ (n : MvNode). n.place) copies.first_made)) placed.1,
  subst (λ (x : ℕ). x < 2 ^ 64) (sym (ap (λ (n : MvNode). n.before) copies.first_made)) placed.2,
)

pub returns-in_err-first-in-One-clause-damaged : goal.returns-in_err-first-in-One-clause-damaged
returns-in_err-first-in-One-clause-damaged g c = λ p e tells placed. (
    let told = err_from_is_err_and c.from_residual.result c.from_residual.ensures.1 in
    let same = exit_error c.from_residual.result c.in_err-first-in-One.field-0.0 (Damaged p) told e in
    elim (c.in_err-first-in-One.ensures.damaged p (ap Err same) tells) [
      | inl last ↦ inl (end_of_last _ (g.S.Pages.map c.args.stage.now) c.args.last.now p (omega (arith, one_needed c.args.node.now c.args.version c.requires.full c.in-One.ensures.copied.few)) last)
      | inr unordered ↦ inr unordered
    ])

pub returns-in_err-first-in-Two-clause-damaged : goal.returns-in_err-first-in-Two-clause-damaged
returns-in_err-first-in-Two-clause-damaged g c = λ p e tells placed. (
    let told = err_from_is_err_and c.from_residual-in_err-first-in-Two.result c.from_residual-in_err-first-in-Two.ensures.1 in
    let same = exit_error c.from_residual-in_err-first-in-Two.result c.in_err-first-in-Two.field-0.0 (Damaged p) told e in
    elim (c.in_err-first-in-Two.ensures.damaged p (ap Err same) tells) [
      | inl last ↦ inl (end_of_last _ (g.S.Pages.map c.args.stage.now) c.args.last.now p (omega (arith, two_needed c.args.node.now c.args.version c.requires.full c.in-Two.ensures.copied.many)) last)
      | inr unordered ↦ inr unordered
    ])

pub returns-in_err-second-in-Two-clause-damaged : goal.returns-in_err-second-in-Two-clause-damaged
returns-in_err-second-in-Two-clause-damaged g c = λ p e tells placed. (
    let m0 : PageMap = g.S.Pages.map c.args.stage.now in
    let mb : PageMap = g.S.Pages.map c.store_first.new.stage in
    let told = err_from_is_err_and c.from_residual-in_err-second-in-Two.result c.from_residual-in_err-second-in-Two.ensures.1 in
    let same = exit_error c.from_residual-in_err-second-in-Two.result c.in_err-second-in-Two.field-0.0 (Damaged p) told e in
    let first_placed = placed_first m0 c.args.page c.args.version c.args.node.now c.in-Two.first c.in-Two.second c.in-Two.cut c.in-Two.ensures.copied placed in
    let kept = first_keeps c.all_start_at-starts.result m0 mb c.args.page c.args.last.now c.store_first.new.last c.in-Two.first c.in_ok-first-in-Two.first first_placed (c.in-Two.ensures.typed c.requires.rules.typed).0 (c.in_ok-first-in-Two.ensures.stored tells) in
    let grows = c.in_ok-first-in-Two.ensures.grows.went_on in
    let starts = c.all_start_at-starts.ensures ∙ ap (λ (es : List MvEntry). all_start_at c.args.version es) c.as_slice.ensures.value in
    let needed = two_needed c.args.node.now c.args.version c.requires.full c.in-Two.ensures.copied.many in
    elim (c.in_err-second-in-Two.ensures.damaged p (ap Err same) (grows.tells ∙ tells)) [
      | inl last ↦ inl (subst (λ (n : ℕ). IsEndDamaged n m0 c.args.last.now p) (sym (needed ∙ ap (λ (b : Bool). first_pages b + 1) (sym starts)))
          (end_before (first_pages c.all_start_at-starts.result) 1 m0 mb c.args.last.now c.store_first.new.last p kept (end_of_last 1 mb c.store_first.new.last p (omega arith) last)))
      | inr unordered ↦ inr (λ ordered. unordered (grows.free_in_order tells ordered))
    ])
