use Rattle.std.proofs.Common.{rules, arith, ℕ, ◌≡◌, ◌-◌, ◌+◌, ◌%◌, ◌^◌, Bool, IsTrue, List, get_or, ap, sym, ◌∙◌, subst, refl, Ok}
use Rattle.ports.specs.Pages.{PageMap}
use Rattle.page_layout.specs.declared.sb_node.SbEntry.{SbEntry}
use Rattle.sb_tree.specs.Stands.{StandsBelow}
use Rattle.sb_tree.specs.Steps.{entries_on}
use Rattle.key_check.specs.Steps.{more}
use Rattle.key_check.proofs.Walking.{ends, goes_on, index_parts, refused_in, refused_there, value_more, walked_in}
use Rattle.key_check.proofs.walk.+walk_below.Goals as goal

abbrev none : SbEntry
none = record { low = 0; value = 0; child = 0 }

pub returns-then-not-branch-clause-refused : goal.returns-then-not-branch-clause-refused
returns-then-not-branch-clause-refused g t c = λ _ tells s.
    let m : PageMap = g.P.Pages.map c.args.pages.now in
    let es : List SbEntry = c.as_slice-entries.result.now in
    let on : entries_on m c.args.reached.page ≡ es = (c.in_ok-node.ensures.some c.in-Some.node (ap Ok c.in-Some.is) tells).1 ∙ sym c.as_slice-entries.ensures.value in
    let told : IsTrue (g.P.Pages.tells c.loop-place.pages) = subst (λ (b : Bool). IsTrue b) (sym c.loop-place.invariant.read.tells) tells in
    let no_child : StandsBelow (c.args.level - 1) (g.P.Pages.map c.loop-place.pages) (get_or es c.loop-place.place none).child c.from.result c.low_at.result 32 → ⊥ =
    c.in_ok-walk_below.ensures.refused (ap Ok c.if-not-branch.true) told in
    refused_there (c.args.level - 1) m c.args.reached
    (record { page = (get_or es c.loop-place.place none).child; low = c.from.result; high = c.low_at.result; least = 32; before = (c.loop-place.before + (get_or es c.loop-place.place none).value) % 2 ^ 128 })
    es c.loop-place.place none c.loop-place-test.true refl c.from.ensures c.low_at.ensures refl
    (index_parts c.args.level m c.args.reached.page c.args.reached.low c.args.reached.high c.args.reached.least es (omega arith) on s)
    (refused_in (c.args.level - 1) (g.P.Pages.map c.loop-place.pages) m (get_or es c.loop-place.place none).child c.from.result c.low_at.result 32 c.loop-place.invariant.read.map no_child)

pub loop-place-preserved : goal.loop-place-preserved
loop-place-preserved g t c =
    let m : PageMap = g.P.Pages.map c.args.pages.now in
    let es : List SbEntry = c.as_slice-entries.result.now in
    record {
      before = value_more c.args.reached.before c.loop-place.before es c.loop-place.place _ c.loop-place-test.true c.loop-place.invariant.before;
      going = λ tells.
          let told : IsTrue (g.P.Pages.tells c.loop-place.pages) = subst (λ (b : Bool). IsTrue b) (sym c.loop-place.invariant.read.tells) tells in
          goes_on (c.args.level - 1) m c.args.reached
          (record { page = (get_or es c.loop-place.place none).child; low = c.from.result; high = c.low_at.result; least = 32; before = (c.loop-place.before + (get_or es c.loop-place.place none).value) % 2 ^ 128 })
          es c.loop-place.place none c.loop-place-test.true refl c.from.ensures c.low_at.ensures refl
          c.args.steps.now.items c.loop-place.steps.items c.walk_below.new.steps.items c.args.named.now.items c.loop-place.named.items c.walk_below.new.named.items
          (ap (λ (n : ℕ). more n (get_or es c.loop-place.place none)) c.loop-place.invariant.before)
          (c.loop-place.invariant.going tells)
          (walked_in (c.args.level - 1) (g.P.Pages.map c.loop-place.pages) m _ _ _ _ _ c.loop-place.invariant.read.map (c.in_ok-walk_below.ensures.walked (ap Ok c.if-not-branch.false) told));
      read = search rules;
    }

pub returns-clause-walked : goal.returns-clause-walked
returns-clause-walked g t c = λ _ tells.
    let m = g.P.Pages.map c.args.pages.now in
    let es = c.as_slice-entries.result.now in
    let node = c.in_ok-node.ensures.some c.in-Some.node (ap Ok c.in-Some.is) tells in
    ends c.args.level m c.args.reached es c.loop-place.place c.args.steps.now.items c.loop-place.steps.items c.args.named.now.items c.loop-place.named.items
    (omega arith) c.loop-place-test.false node.0 (node.1 ∙ sym c.as_slice-entries.ensures.value) (c.loop-place.invariant.going tells)
