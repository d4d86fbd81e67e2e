use Rattle.std.proofs.Common.{◌≡◌, ◌++◌, ◌∷◌, List, [], ℕ, suc, true, false, Ok, IsTrue, sym, ap, ◌∙◌, subst, arith}
use Rattle.std.specs.Prelude.{IsPermutation}
use Rattle.std.proofs.lemmas.Bool.{false≢true}
use Rattle.bw_types.specs.declared.point.Point.{Point}
use Rattle.ports.specs.Pages.{PageMap}
use Rattle.page_layout.specs.Footprint.{NamesNoneTwice}
use Rattle.page_layout.specs.declared.cut_page.CutNode.TheVariants.{Entry}
use Rattle.image_check.specs.Walked.{BeginWalked}
use Rattle.image_check.proofs.WholeParts.{named_once, none_whole, points_found, whole}
use Rattle.image_check.proofs.cut_tree.part_stands.Goals as goal

pub returns-then-not-branch-clause-none : goal.returns-then-not-branch-clause-none
returns-then-not-branch-clause-none g c = λ e tells may part is.
    none_whole g.B.BorderTree (g.P.Pages.map c.args.pages.now) c.args.tree.now c.args.points.now (c.in_ok-walk_page.ensures.none (ap Ok c.if-not-branch.true) tells) part is

pub returns-then-not-branch-2-clause-none : goal.returns-then-not-branch-2-clause-none
returns-then-not-branch-2-clause-none g c = λ e tells may part is.
    let b = g.B.BorderTree in
    let m : PageMap = g.P.Pages.map c.args.pages.now in
    let n : ℕ = c.args.tree.now.count in
    let found : List Point = c.walk_page.new.found.items in
    let own : List ℕ = c.walk_page.new.named.items in
    let walked : BeginWalked b m n (Entry c.args.tree.now.root ∷ []) [] found [] own =
    subst (λ (ps : List Point). BeginWalked b m n (Entry c.args.tree.now.root ∷ []) ps found [] own) c.new-found.ensures.items
    (subst (λ (ps : List ℕ). BeginWalked b m n (Entry c.args.tree.now.root ∷ []) c.new-found.result.items found ps own) c.new-own.ensures.items
    (c.in_ok-walk_page.ensures.walked (ap Ok c.if-not-branch.false) tells)) in
    let same : IsPermutation c.as_mut_slice.result.now c.args.points.now =
    subst (λ (ps : List Point). IsPermutation ps c.args.points.now) (sym c.as_mut_slice.ensures.value) (points_found b m c.args.tree.now c.args.points.now found own walked part is) in
    let yes : c.in_ok-are_same.field-0 ≡ true = (c.in_ok-are_same.ensures (suc b.DIMS) (omega arith) may).1 same in
    let wrong : c.in_ok-are_same.field-0 ≡ false = c.if-not-branch-2.true in
    false≢true (sym wrong ∙ yes)

pub returns-clause-whole : goal.returns-clause-whole
returns-clause-whole g c = λ e tells may.
    let b = g.B.BorderTree in
    let m : PageMap = g.P.Pages.map c.args.pages.now in
    let n : ℕ = c.args.tree.now.count in
    let found : List Point = c.walk_page.new.found.items in
    let own : List ℕ = c.walk_page.new.named.items in
    let walked : BeginWalked b m n (Entry c.args.tree.now.root ∷ []) [] found [] own =
    subst (λ (ps : List Point). BeginWalked b m n (Entry c.args.tree.now.root ∷ []) ps found [] own) c.new-found.ensures.items
    (subst (λ (ps : List ℕ). BeginWalked b m n (Entry c.args.tree.now.root ∷ []) c.new-found.result.items found ps own) c.new-own.ensures.items
    (c.in_ok-walk_page.ensures.walked (ap Ok c.if-not-branch.false) tells)) in
    let same : IsPermutation found c.args.points.now =
    subst (λ (ps : List Point). IsPermutation ps c.args.points.now) c.as_mut_slice.ensures.value
    ((c.in_ok-are_same.ensures (suc b.DIMS) (omega arith) may).0 c.if-not-branch-2.false) in
    let yes : IsTrue c.name_none_twice.result = cc in
    let once : NamesNoneTwice own = subst NamesNoneTwice c.as_mut_slice-2.ensures.value (c.name_none_twice.ensures.once.0 yes) in
    whole b m c.args.tree.now c.args.points.now found own walked c.args.named.now.items c.extend_from_slice.new.self.items same once
    (c.in_ok-extend_from_slice.ensures.items ∙ ap (λ (ps : List ℕ). c.args.named.now.items ++ ps) c.as_slice.ensures.value)

pub returns-clause-none : goal.returns-clause-none
returns-clause-none g c = λ e tells may part is.
    let b = g.B.BorderTree in
    let m : PageMap = g.P.Pages.map c.args.pages.now in
    let n : ℕ = c.args.tree.now.count in
    let found : List Point = c.walk_page.new.found.items in
    let own : List ℕ = c.walk_page.new.named.items in
    let walked : BeginWalked b m n (Entry c.args.tree.now.root ∷ []) [] found [] own =
    subst (λ (ps : List Point). BeginWalked b m n (Entry c.args.tree.now.root ∷ []) ps found [] own) c.new-found.ensures.items
    (subst (λ (ps : List ℕ). BeginWalked b m n (Entry c.args.tree.now.root ∷ []) c.new-found.result.items found ps own) c.new-own.ensures.items
    (c.in_ok-walk_page.ensures.walked (ap Ok c.if-not-branch.false) tells)) in
    let once : NamesNoneTwice own = named_once b m c.args.tree.now c.args.points.now found own walked part is in
    let yes : c.name_none_twice.result ≡ true = c.name_none_twice.ensures.once.1 (subst NamesNoneTwice (sym c.as_mut_slice-2.ensures.value) once) in
    let wrong : c.name_none_twice.result ≡ false = cc in
    false≢true (sym wrong ∙ yes)
