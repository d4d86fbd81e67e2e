use Rattle.std.proofs.Common.{arith, rules, IsTrue, ◌<◌, ◌++◌, length, IsPermutation, get_or, subst, sym, ◌∙◌, refl, ap, Ok}
use Rattle.std.proofs.lemmas.Bool.{false≢true}
use Rattle.bw_types.specs.Empty.{empty_tree}
use Rattle.ports.specs.Pages.{PageMap}
use Rattle.history_laws.specs.Entries.{entries_of}
use Rattle.corner_forest.specs.Entries.{root_points}
use Rattle.image_check.proofs.TreeByTree.{ends, fails, goes_on, named_all, named_more}
use Rattle.image_check.proofs.forest.trees_stand.Goals as goal

pub loop-place-preserved : goal.loop-place-preserved
loop-place-preserved g c =
    let index = g.X.DomIndex in
    let map = g.P.Pages.map c.args.pages.now in
    let dims = c.args.params.now.dims in
    let points = root_points c.args.params.now (entries_of c.args.lives.now) in
    let roots = c.args.roots.now in
    let k = c.loop-place.place in
    let count = c.requires.count in
    let end = c.root_count-place-end.ensures.count in
    let below = c.loop-place-test.true in
    let h : k < length roots = omega (arith, count, end, below) in
    let same = c.loop-place.invariant.read.map in
    record {
      stand = λ tells.
          let told : IsTrue (g.P.Pages.tells c.loop-place.pages) = subst IsTrue (sym c.loop-place.invariant.read.tells) tells in
          let here = subst (λ (m : PageMap). index.stands m dims (get_or roots k empty_tree) (points k) × index.balanced m dims (get_or roots k empty_tree)) same
          ((c.in_ok-tree_stands_at.ensures.stands told).0 c.if-not-branch.false) in
          goes_on (index.stands map dims) (index.balanced map dims) points roots k empty_tree h (c.loop-place.invariant.stand tells) here;
      named = λ tells.
          let told : IsTrue (g.P.Pages.tells c.loop-place.pages) = subst IsTrue (sym c.loop-place.invariant.read.tells) tells in
          let more = subst (λ (m : PageMap). IsPermutation (c.loop-place.named.items ++ index.footprint m dims (get_or roots k empty_tree)) c.tree_stands_at.new.named.items) same
          (c.in_ok-tree_stands_at.ensures.named (ap Ok c.if-not-branch.false) told) in
          named_more (index.footprint map dims) roots k c.args.named.now.items c.loop-place.named.items c.tree_stands_at.new.named.items empty_tree h (c.loop-place.invariant.named tells) more;
      read = search rules;
    }

pub returns-then-not-branch-clause-stands : goal.returns-then-not-branch-clause-stands
returns-then-not-branch-clause-stands g c = λ tells.
    let index = g.X.DomIndex in
    let map = g.P.Pages.map c.args.pages.now in
    let dims = c.args.params.now.dims in
    let points = root_points c.args.params.now (entries_of c.args.lives.now) in
    let roots = c.args.roots.now in
    let k = c.loop-place.place in
    let count = c.requires.count in
    let end = c.root_count-place-end.ensures.count in
    let below = c.loop-place-test.true in
    let h : k < length roots = omega (arith, count, end, below) in
    let told : IsTrue (g.P.Pages.tells c.loop-place.pages) = subst IsTrue (sym c.loop-place.invariant.read.tells) tells in (
      λ never. search rules,
      λ whole.
          absurd (fails (index.stands map dims) (index.balanced map dims) points roots k empty_tree h (c.loop-place.invariant.stand tells)
          (λ here. false≢true (sym c.if-not-branch.true ∙ (c.in_ok-tree_stands_at.ensures.stands told).1
          (subst (λ (m : PageMap). index.stands m dims (get_or roots k empty_tree) (points k) × index.balanced m dims (get_or roots k empty_tree)) (sym c.loop-place.invariant.read.map) here)))
          whole),
    )

pub returns-clause-stands : goal.returns-clause-stands
returns-clause-stands g c = λ tells.
    let index = g.X.DomIndex in
    let map = g.P.Pages.map c.args.pages.now in
    let dims = c.args.params.now.dims in
    let count = c.requires.count in
    let end = c.root_count-place-end.ensures.count in
    let past = c.loop-place-test.false in (
      λ yes. ends (index.stands map dims) (index.balanced map dims) (root_points c.args.params.now (entries_of c.args.lives.now)) c.args.roots.now c.loop-place.place
          (omega (arith, count, end, past)) (c.loop-place.invariant.stand tells),
      λ whole. refl,
    )

pub returns-clause-named : goal.returns-clause-named
returns-clause-named g c = λ is tells.
    let count = c.requires.count in
    let end = c.root_count-place-end.ensures.count in
    let past = c.loop-place-test.false in
    named_all (g.X.DomIndex.footprint (g.P.Pages.map c.args.pages.now) c.args.params.now.dims) c.args.roots.now c.loop-place.place c.args.named.now.items c.loop-place.named.items
    (omega (arith, count, end, past)) (c.loop-place.invariant.named tells)
