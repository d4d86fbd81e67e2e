use Rattle.ports.specs.Pages.{PageMap}
use Rattle.ports.specs.declared.page.StageFault.TheVariants.{Damaged}
use Rattle.std.proofs.Common.{◌≡◌, ℕ, ◌-◌, ◌*◌, ◌<◌, ◌≤◌, ◌==◌, false, ◌∙◌, sym, ap, subst, suc, arith, List, length, Err, Ok, refl, inl, inr}
use Rattle.std.proofs.lemmas.Bool.{eq-eqb, le-ltb, ne_eqb}
use Rattle.bw_types.specs.Without.{keys_without, without_dimension}
use Rattle.bw_types.specs.declared.point.Point.{Point}
use Rattle.dom_index.specs.Points.{AreKeysBelow, IsNewPoint}
use Rattle.cut_parts.specs.Borders.{OthersStay, TakesPoint}
use Rattle.cut_parts.specs.Parts.{border_points, points_of}
use Rattle.cut_parts.specs.Standing.{PartStands}
use Rattle.cut_parts.specs.declared.border_tree.BorderTree.{Ghosts}
use Rattle.cut_parts.proofs.BorderPoints.{still_below}
use Rattle.cut_parts.proofs.Depths.{parts_are_counted}
use Rattle.cut_parts.proofs.Halves.{length_mapped}
use Rattle.cut_parts.proofs.Staying.{stay_more}
use Rattle.ports.specs.Calls.{Changes, WentOn}
use Rattle.ports.specs.declared.page.StageFault.{StageFault}
use Rattle.ports.specs.declared.pages.Pages.{Ghosts as PageGhosts}
use Rattle.ba_tree.specs.Growing.{border_growth}
use Rattle.ba_tree.proofs.Begun.{first_grown, more_grown}
use Rattle.ba_tree.proofs.Going.{well_more}
use Rattle.ba_tree.proofs.NewPoints.{new_border, with_new}
use Rattle.ba_tree.proofs.border.border_add.Goals as goal

begun_growth : {B : Type 0} (g : Ghosts B) (low : ℕ) → low ≡ 64 → 65 * g.share 65 ≡ border_growth g low
begun_growth g low full =
    let not_less : 64 ≤ low = omega (arith, full) in
    rw (le-ltb low 64 not_less, eq-eqb low 64 full) refl

more_growth : {B : Type 0} (g : Ghosts B) (low : ℕ) → 64 < low → g.growth low ≡ border_growth g low
more_growth g low more =
    let not_less : 64 ≤ low = omega (arith, more) in
    let other : (low == 64) ≡ false = ne_eqb low 64 (λ e. omega (arith, more, e)) in
    rw (le-ltb low 64 not_less, other) refl

again : {P T U : Type 0} (g : PageGhosts P) (a b : ℕ) (old new : P) (x : T) (y : U) → a ≡ b → Changes g a old new (Ok x) → Changes g b old new (Ok y)
again g a b old new x y same changes =
    let went = subst (λ (n : ℕ). WentOn g n old new) same changes.went_on in
    record { went_on = went; disk = λ e. cc; page_limit = λ n e. cc }

refused : {P T U : Type 0} (g : PageGhosts P) (a b : ℕ) (old new : P) (f : StageFault) → a ≡ b → Changes {T = T} g a old new (Err f) → Changes {T = U} g b old new (Err f)
refused g a b old new f same changes =
    let went = subst (λ (n : ℕ). WentOn g n old new) same changes.went_on in
    record {
      went_on = went;
      disk = λ e. changes.disk cc;
      page_limit = λ n e. let limit = changes.page_limit n cc in let third = limit.2 in (limit.0, limit.1, omega (arith, third, same));
    }

new_at : (d i : ℕ) (points : List Point) (p : Point) → i < suc d → IsNewPoint (suc d) points p → IsNewPoint d (border_points i points) (without_dimension i p)
new_at d i points p lt new =
    let less : suc d - 1 ≡ d = omega arith in
    subst (λ (n : ℕ). IsNewPoint n (border_points i points) (without_dimension i p)) less (new_border (suc d) i points p lt new)

pub returns-in-Err-clause-well : goal.returns-in-Err-clause-well
returns-in-Err-clause-well g c = λ tells side takes balanced.
    let b = g.B.BorderTree in
    let full : c.args.low ≡ 64 = c.if-low-eq64.true in
    let stood : PartStands b (g.S.Pages.map c.args.stage.now) 64 side = subst (λ (n : ℕ). PartStands b (g.S.Pages.map c.args.stage.now) n side) full takes.stood in
    let may = with_new (suc b.DIMS) (points_of side) c.args.point.now takes.may_be takes.new c.requires.keys c.requires.version takes.three in
    let number = begun_growth b c.args.low full in
    well_more g.S.Pages _ _ _ _ _ (c.in-Err.ensures.well tells side stood (takes.leaf_is full) may) (omega (arith, number))

pub returns-in-Ok-clause-well : goal.returns-in-Ok-clause-well
returns-in-Ok-clause-well g c = λ tells side takes balanced.
    let b = g.B.BorderTree in
    let full : c.args.low ≡ 64 = c.if-low-eq64.true in
    let stood : PartStands b (g.S.Pages.map c.args.stage.now) 64 side = subst (λ (n : ℕ). PartStands b (g.S.Pages.map c.args.stage.now) n side) full takes.stood in
    let may = with_new (suc b.DIMS) (points_of side) c.args.point.now takes.may_be takes.new c.requires.keys c.requires.version takes.three in
    let number = begun_growth b c.args.low full in
    well_more g.S.Pages _ _ _ _ _ (c.in-Ok.ensures.well tells side stood (takes.leaf_is full) may) (omega (arith, number))

pub returns-in-Ok-clause-grown : goal.returns-in-Ok-clause-grown
returns-in-Ok-clause-grown g c = λ tells side takes.
    let b = g.B.BorderTree in
    let full : c.args.low ≡ 64 = c.if-low-eq64.true in
    let stood : PartStands b (g.S.Pages.map c.args.stage.now) 64 side = subst (λ (n : ℕ). PartStands b (g.S.Pages.map c.args.stage.now) n side) full takes.stood in
    first_grown b c.border_laws.ensures.laws (g.S.Pages.map c.args.stage.now) (g.S.Pages.map c.begin_border.new.stage) c.args.dimension c.args.low c.args.border.now c.in-Ok.begun
    (points_of side) c.args.point.now full (takes.few (omega (arith, full))) (c.in-Ok.ensures.begun tells side stood (takes.leaf_is full))

pub add-requires-clause-keys : goal.add-requires-clause-keys
add-requires-clause-keys g c =
    let d : ℕ = g.B.BorderTree.DIMS in
    let less : suc d - 1 ≡ d = omega arith in
    let is : c.drop_dimension.result.keys ≡ keys_without c.args.dimension c.args.point.now.keys = ap (λ (p : Point). p.keys) c.drop_dimension.ensures in
    subst (λ (ks : List ℕ). AreKeysBelow d ks) (sym is)
    (subst (λ (n : ℕ). AreKeysBelow n (keys_without c.args.dimension c.args.point.now.keys)) less (still_below (suc d) c.args.dimension c.args.point.now.keys c.requires.dimension c.requires.keys))

pub returns-in-Err-add-clause-well : goal.returns-in-Err-add-clause-well
returns-in-Err-add-clause-well g c = λ tells side takes balanced.
    let b = g.B.BorderTree in
    let more : 64 < c.args.low = omega (arith, c.if-low-lt64.false, c.if-low-eq64.false) in
    let kept : List Point = border_points c.args.dimension (points_of side) in
    let counted : length kept ≡ c.args.low = length_mapped (without_dimension c.args.dimension) (points_of side) ∙ sym (parts_are_counted side c.args.low takes.stood.shape) in
    let new = subst (λ (p : Point). IsNewPoint b.DIMS kept p) (sym c.drop_dimension.ensures) (new_at b.DIMS c.args.dimension (points_of side) c.args.point.now c.requires.dimension takes.new) in
    let stood = takes.many more in
    let growth = c.in-Err-add.ensures.growth tells kept stood new (balanced more) in
    let number : b.growth (length kept) ≡ border_growth b c.args.low = ap (λ (n : ℕ). b.growth n) counted ∙ more_growth b c.args.low more in
    record {
      changes = refused g.S.Pages _ _ _ _ c.in-Err-add.fault number growth;
      sound = λ order page e. c.in-Err-add.ensures.sound kept page tells stood new (balanced more) order cc;
    }

pub returns-in-Ok-add-clause-grown : goal.returns-in-Ok-add-clause-grown
returns-in-Ok-add-clause-grown g c = λ tells side takes.
    let b = g.B.BorderTree in
    let more : 64 < c.args.low = omega (arith, c.if-low-lt64.false, c.if-low-eq64.false) in
    let kept : List Point = border_points c.args.dimension (points_of side) in
    let new = subst (λ (p : Point). IsNewPoint b.DIMS kept p) (sym c.drop_dimension.ensures) (new_at b.DIMS c.args.dimension (points_of side) c.args.point.now c.requires.dimension takes.new) in
    more_grown b c.border_laws.ensures.laws (g.S.Pages.map c.args.stage.now) (g.S.Pages.map c.add.new.stage) c.args.dimension c.args.low c.args.border.now c.add.new.tree
    (points_of side) c.args.point.now more
    (subst (λ (p : Point). TakesPoint b.stands b.footprint b.balanced (g.S.Pages.map c.args.stage.now) (g.S.Pages.map c.add.new.stage) c.args.border.now c.add.new.tree kept p) c.drop_dimension.ensures
    (c.in-Ok-add.ensures.added tells kept (takes.many more) new))

pub returns-in-Ok-add-clause-well : goal.returns-in-Ok-add-clause-well
returns-in-Ok-add-clause-well g c = λ tells side takes balanced.
    let b = g.B.BorderTree in
    let more : 64 < c.args.low = omega (arith, c.if-low-lt64.false, c.if-low-eq64.false) in
    let kept : List Point = border_points c.args.dimension (points_of side) in
    let counted : length kept ≡ c.args.low = length_mapped (without_dimension c.args.dimension) (points_of side) ∙ sym (parts_are_counted side c.args.low takes.stood.shape) in
    let new = subst (λ (p : Point). IsNewPoint b.DIMS kept p) (sym c.drop_dimension.ensures) (new_at b.DIMS c.args.dimension (points_of side) c.args.point.now c.requires.dimension takes.new) in
    let growth = c.in-Ok-add.ensures.growth tells kept (takes.many more) new (balanced more) in
    let number : b.growth (length kept) ≡ border_growth b c.args.low = ap (λ (n : ℕ). b.growth n) counted ∙ more_growth b c.args.low more in
    record {
      changes = again g.S.Pages (b.growth (length kept)) (border_growth b c.args.low) c.args.stage.now c.add.new.stage _ c.add.new.tree number growth;
      sound = λ order page e. cc;
    }

pub returns-in-Err-clause-damaged : goal.returns-in-Err-clause-damaged
returns-in-Err-clause-damaged g c = λ damaged e tells. elim (c.begin_border.ensures.damaged damaged (c.in-Err.is ∙ e) tells) [
  | inl begun ↦ inl (inl (c.if-low-eq64.true, begun))
  | inr unordered ↦ inr unordered
]

pub returns-in-Err-add-clause-damaged : goal.returns-in-Err-add-clause-damaged
returns-in-Err-add-clause-damaged g c = λ damaged e tells.
    let b = g.B.BorderTree in
    let m : PageMap = g.S.Pages.map c.args.stage.now in
    let more : 64 < c.args.low = omega (arith, c.if-low-lt64.false, c.if-low-eq64.false) in
    let is : c.in-Err-add.fault ≡ Damaged damaged = cc in
    elim (c.add.ensures.damaged damaged (c.in-Err-add.is ∙ ap (λ (fault : StageFault). Err fault) is) tells) [
      | inl found ↦ inl (inr (more, subst (λ (p : Point). b.damaged_for_add m c.args.border.now p damaged) c.drop_dimension.ensures found))
      | inr unordered ↦ inr unordered
    ]

pub returns-in-Ok-add-clause-apart : goal.returns-in-Ok-add-clause-apart
returns-in-Ok-add-clause-apart g c = λ tells.
    let b = g.B.BorderTree in
    let m0 : PageMap = g.S.Pages.map c.args.stage.now in
    let m1 : PageMap = g.S.Pages.map c.add.new.stage in
    let more : 64 < c.args.low = omega (arith, c.if-low-lt64.false, c.if-low-eq64.false) in
    let left : OthersStay (b.may_change m0 c.args.border.now (without_dimension c.args.dimension c.args.point.now)) m0 m1 =
    subst (λ (p : Point). OthersStay (b.may_change m0 c.args.border.now p) m0 m1) c.drop_dimension.ensures (c.in-Ok-add.ensures.apart tells) in
    stay_more (b.may_change m0 c.args.border.now (without_dimension c.args.dimension c.args.point.now)) _ m0 m1 left (λ q x. (more, x))
