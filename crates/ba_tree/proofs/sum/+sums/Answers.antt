use Rattle.std.proofs.Common.{ap, Result, Ok, Err, suc, inl, inr, ◌≡◌, ◌++◌, ◌∷◌, ◌-◌, ◌<◌, ◌≤◌, ℕ, length, List, [], slice_index, rules, arith, sym, ◌∙◌, subst}
use Rattle.std.proofs.lemmas.Bool.{false≢true}
use Rattle.bw_types.specs.DepthLaws.{reads_some}
use Rattle.bw_types.specs.Without.{keys_without}
use Rattle.bw_types.specs.Dominance.{dominance_sum}
use Rattle.bw_types.specs.declared.point.Point.{Point}
use Rattle.ports.specs.Pages.{PageMap}
use Rattle.ports.specs.declared.page.PageFault.{PageFault}
use Rattle.ports.specs.declared.page.PageFault.TheVariants.{Damaged, Disk}
use Rattle.page_layout.specs.declared.cut_page.CutNode.{CutNode}
use Rattle.page_layout.specs.declared.cut_page.CutNode.TheVariants.{Entry, Cut}
use Rattle.dom_index.specs.Points.{AreKeysBelow}
use Rattle.cut_parts.specs.Borders.{IsSum}
use Rattle.cut_parts.specs.Damage.{BeforeCut, BeforePart, IsDamagedOnWay, after_parts}
use Rattle.cut_parts.specs.Parts.{border_points, points_of}
use Rattle.cut_parts.specs.Spelling.{nodes_of}
use Rattle.cut_parts.specs.Standing.{PartBalanced, PartStands}
use Rattle.cut_parts.proofs.PartNodes.{IsCutOf, cut_of}
use Rattle.cut_parts.proofs.Places.{after_part}
use Rattle.ba_tree.proofs.Costs.{cut_cost_high, cut_cost_low, some_points}
use Rattle.ba_tree.proofs.Damaging.{above_it, at_cut, at_entry, below_it, in_border, in_leaf, no_cuts, on_page, whole_below, whole_entry, whole_from, whole_page, whole_part}
use Rattle.ba_tree.proofs.Keys.{keys_stay_below}
use Rattle.ba_tree.proofs.Sums.{cut_at, cut_below, cut_from, cut_sound, refused_high, refused_low, some_node}
use Rattle.ba_tree.proofs.sum.+sums.Goals as goal

-- the fault of a refusal
fault_of : Result ℕ PageFault → PageFault
fault_of (Ok value) = Disk
fault_of (Err fault) = fault

pub cut_sum-returns-then-not-is_sound-clause-sum : goal.cut_sum-returns-then-not-is_sound-clause-sum
cut_sum-returns-then-not-is_sound-clause-sum g t c = λ tells part rest nodes_are inside stands.
    let b = g.B.BorderTree in
    let m : PageMap = g.P.Pages.map c.args.pages.now in
    let at = c.in-Some-Cut-default in
    let begun : c.args.nodes.now ≡ Cut at.dimension at.key at.low at.border ∷ at.rest = search rules in
    let cut : IsCutOf part at.dimension at.key at.low at.border at.rest rest = cut_of part at.dimension at.key at.low at.border at.rest rest (sym begun ∙ nodes_are) in
    absurd {A = ⊥} (false≢true (sym c.if-not-is_sound.true ∙ c.is_sound.ensures.1
    (cut_sound b m c.border_laws.ensures.laws part at.dimension at.key at.low c.args.count at.border at.rest rest cut stands)))

pub cut_sum-bounds-keys-from : goal.cut_sum-bounds-keys-from
cut_sum-bounds-keys-from g t c =
    let sound = c.is_sound.ensures.0 c.if-not-is_sound.false in
    omega (arith, c.from.ensures, sound.in_dims, c.border_laws.ensures.dims)

pub cut_sum-returns-in-Err-clause-damaged : goal.cut_sum-returns-in-Err-clause-damaged
cut_sum-returns-in-Err-clause-damaged g t c = λ damaged e tells.
    let b = g.B.BorderTree in
    let m : PageMap = g.P.Pages.map c.args.pages.now in
    let at = c.in-Some-Cut-default in
    let begun : c.args.nodes.now ≡ Cut at.dimension at.key at.low at.border ∷ at.rest = search rules in
    let sound = c.is_sound.ensures.0 c.if-not-is_sound.false in
    let below : slice_index c.args.keys.now at.dimension < at.key = rw c.from.ensures at c.if-keys-from.true in
    below_it b m c.args.keys.now c.args.version damaged c.args.count c.args.page at.dimension at.key at.low at.border c.args.nodes.now at.rest begun sound below
    (c.in-Err.ensures.damaged damaged e tells)

pub cut_sum-returns-in-Err-clause-cost : goal.cut_sum-returns-in-Err-clause-cost
cut_sum-returns-in-Err-clause-cost g t c = λ tells is part rest nodes_are inside stands balanced.
    let b = g.B.BorderTree in
    let m : PageMap = g.P.Pages.map c.args.pages.now in
    let at = c.in-Some-Cut-default in
    let begun : c.args.nodes.now ≡ Cut at.dimension at.key at.low at.border ∷ at.rest = search rules in
    let cut : IsCutOf part at.dimension at.key at.low at.border at.rest rest = cut_of part at.dimension at.key at.low at.border at.rest rest (sym begun ∙ nodes_are) in
    cut_cost_low b m is part at.dimension at.key at.low c.args.count at.border at.rest rest (g.P.Pages.gets c.args.pages.now) (g.P.Pages.gets c.part_sum.new.pages) cut
    (λ s b. c.in-Err.ensures.cost tells is cut.low_side (nodes_of cut.high_side ++ rest) cut.nodes_are s b) stands balanced

pub cut_sum-returns-in-Ok-clause-cost : goal.cut_sum-returns-in-Ok-clause-cost
cut_sum-returns-in-Ok-clause-cost g t c = λ tells is part rest nodes_are inside stands balanced.
    let b = g.B.BorderTree in
    let m : PageMap = g.P.Pages.map c.args.pages.now in
    let at = c.in-Some-Cut-default in
    let begun : c.args.nodes.now ≡ Cut at.dimension at.key at.low at.border ∷ at.rest = search rules in
    let cut : IsCutOf part at.dimension at.key at.low at.border at.rest rest = cut_of part at.dimension at.key at.low at.border at.rest rest (sym begun ∙ nodes_are) in
    cut_cost_low b m is part at.dimension at.key at.low c.args.count at.border at.rest rest (g.P.Pages.gets c.args.pages.now) (g.P.Pages.gets c.part_sum.new.pages) cut
    (λ s b. c.in-Ok.ensures.cost tells is cut.low_side (nodes_of cut.high_side ++ rest) cut.nodes_are s b) stands balanced

pub cut_sum-returns-in-Ok-clause-sum : goal.cut_sum-returns-in-Ok-clause-sum
cut_sum-returns-in-Ok-clause-sum g t c = λ tells part rest nodes_are inside stands.
    let b = g.B.BorderTree in
    let m : PageMap = g.P.Pages.map c.args.pages.now in
    let at = c.in-Some-Cut-default in
    let begun : c.args.nodes.now ≡ Cut at.dimension at.key at.low at.border ∷ at.rest = search rules in
    let cut : IsCutOf part at.dimension at.key at.low at.border at.rest rest = cut_of part at.dimension at.key at.low at.border at.rest rest (sym begun ∙ nodes_are) in
    let three : length c.args.keys.now ≡ 3 = search rules in
    let dims = c.border_laws.ensures.dims in
    let below : slice_index c.args.keys.now at.dimension < at.key = rw c.from.ensures at c.if-keys-from.true in
    cut_below b m part at.dimension at.key at.low c.args.count c.args.version at.border at.rest rest c.args.keys.now (Ok c.in-Ok.value) cut
    (omega (arith, three, dims)) (omega (arith, dims)) below (λ s. c.in-Ok.ensures.sum tells cut.low_side (nodes_of cut.high_side ++ rest) cut.nodes_are s) stands

pub cut_sum-returns-in-Ok-clause-whole : goal.cut_sum-returns-in-Ok-clause-whole
cut_sum-returns-in-Ok-clause-whole g t c = λ tells damaged way.
    let b = g.B.BorderTree in
    let m : PageMap = g.P.Pages.map c.args.pages.now in
    let at = c.in-Some-Cut-default in
    let begun : c.args.nodes.now ≡ Cut at.dimension at.key at.low at.border ∷ at.rest = search rules in
    let sound = c.is_sound.ensures.0 c.if-not-is_sound.false in
    let below : slice_index c.args.keys.now at.dimension < at.key = rw c.from.ensures at c.if-keys-from.true in
    whole_below b m c.args.keys.now c.args.version damaged c.args.count c.args.page at.dimension at.key at.low at.border c.args.nodes.now at.rest begun sound below
    (c.in-Ok.ensures.whole tells damaged) way

pub cut_sum-low_sum-requires : goal.cut_sum-low_sum-requires
cut_sum-low_sum-requires g t c κs within =
    let sound = c.is_sound.ensures.0 c.if-not-is_sound.false in
    (search rules, (search rules, (search rules, ((sound.in_dims, omega (arith, c.border_laws.ensures.dims)), c.requires.keys))))

pub cut_sum-returns-in-Err-low_sum-clause-sum : goal.cut_sum-returns-in-Err-low_sum-clause-sum
cut_sum-returns-in-Err-low_sum-clause-sum g t c = λ tells part rest nodes_are inside stands.
    let b = g.B.BorderTree in
    let m : PageMap = g.P.Pages.map c.args.pages.now in
    let at = c.in-Some-Cut-default in
    let begun : c.args.nodes.now ≡ Cut at.dimension at.key at.low at.border ∷ at.rest = search rules in
    let cut : IsCutOf part at.dimension at.key at.low at.border at.rest rest = cut_of part at.dimension at.key at.low at.border at.rest rest (sym begun ∙ nodes_are) in
    refused_low b m part at.dimension at.key at.low c.args.count at.border at.rest rest c.in-Err-low_sum.fault
    (dominance_sum (suc b.DIMS) (points_of cut.low_side) c.args.keys.now c.args.version)
    (dominance_sum b.DIMS (border_points at.dimension (points_of cut.low_side)) (keys_without at.dimension c.args.keys.now) c.args.version)
    (dominance_sum (suc b.DIMS) (points_of part) c.args.keys.now c.args.version) cut
    (λ few s. c.in-Err-low_sum.ensures.leaf few tells cut.low_side (nodes_of cut.high_side ++ rest) cut.nodes_are s)
    (λ many s. c.in-Err-low_sum.ensures.border many tells (border_points at.dimension (points_of cut.low_side)) s) stands

pub cut_sum-returns-in-Err-low_sum-clause-damaged : goal.cut_sum-returns-in-Err-low_sum-clause-damaged
cut_sum-returns-in-Err-low_sum-clause-damaged g t c = λ damaged e tells.
    let b = g.B.BorderTree in
    let m : PageMap = g.P.Pages.map c.args.pages.now in
    let at = c.in-Some-Cut-default in
    let begun : c.args.nodes.now ≡ Cut at.dimension at.key at.low at.border ∷ at.rest = search rules in
    let sound = c.is_sound.ensures.0 c.if-not-is_sound.false in
    let from : at.key ≤ slice_index c.args.keys.now at.dimension = rw c.from.ensures at c.if-keys-from.false in
    elim (c.in-Err-low_sum.ensures.damaged damaged e tells) [
      | inl leaf ↦ in_leaf b m c.args.keys.now c.args.version damaged c.args.count c.args.page at.dimension at.key at.low at.border c.args.nodes.now at.rest begun sound from leaf.0 leaf.1
      | inr edge ↦ in_border b m c.args.keys.now c.args.version damaged c.args.count c.args.page at.dimension at.key at.low at.border c.args.nodes.now at.rest begun sound from edge.0 edge.1
    ]

pub cut_sum-returns-in-Err-low_sum-clause-cost : goal.cut_sum-returns-in-Err-low_sum-clause-cost
cut_sum-returns-in-Err-low_sum-clause-cost g t c = λ tells is part rest nodes_are inside stands balanced.
    let b = g.B.BorderTree in
    let m : PageMap = g.P.Pages.map c.args.pages.now in
    let at = c.in-Some-Cut-default in
    let begun : c.args.nodes.now ≡ Cut at.dimension at.key at.low at.border ∷ at.rest = search rules in
    let cut : IsCutOf part at.dimension at.key at.low at.border at.rest rest = cut_of part at.dimension at.key at.low at.border at.rest rest (sym begun ∙ nodes_are) in
    let mid : ℕ = g.P.Pages.gets c.low_sum.new.pages in
    cut_cost_high b m is part at.dimension at.key at.low c.args.count at.border at.rest rest (g.P.Pages.gets c.args.pages.now) mid mid cut
    (λ few s b. c.in-Err-low_sum.ensures.leaf_cost few tells is cut.low_side (nodes_of cut.high_side ++ rest) cut.nodes_are s b)
    (λ many s b. c.in-Err-low_sum.ensures.border_cost many tells (border_points at.dimension (points_of cut.low_side)) s b)
    (λ s b. omega arith) stands balanced

pub cut_sum-returns-in-Err-part_sum-clause-sum : goal.cut_sum-returns-in-Err-part_sum-clause-sum
cut_sum-returns-in-Err-part_sum-clause-sum g t c = λ tells part rest nodes_are inside stands.
    let b = g.B.BorderTree in
    let m : PageMap = g.P.Pages.map c.args.pages.now in
    let at = c.in-Some-Cut-default in
    let begun : c.args.nodes.now ≡ Cut at.dimension at.key at.low at.border ∷ at.rest = search rules in
    let cut : IsCutOf part at.dimension at.key at.low at.border at.rest rest = cut_of part at.dimension at.key at.low at.border at.rest rest (sym begun ∙ nodes_are) in
    let read = c.in-Ok-low_sum.ensures.reads.read in
    let after : c.after_part.result ≡ nodes_of cut.high_side ++ rest =
    c.after_part.ensures ∙ ap (λ (ns : List CutNode). after_parts 1 ns) cut.nodes_are ∙ after_part cut.low_side 0 (nodes_of cut.high_side ++ rest) in
    refused_high b m part at.dimension at.key at.low c.args.count at.border at.rest rest c.in-Err-part_sum.fault
    (dominance_sum (suc b.DIMS) (points_of cut.high_side) c.args.keys.now c.args.version)
    (dominance_sum (suc b.DIMS) (points_of part) c.args.keys.now c.args.version) cut
    (λ s. c.in-Err-part_sum.ensures.sum (read.tells ∙ tells) cut.high_side rest after
    (subst (λ (n : PageMap). PartStands b n (c.args.count - at.low) cut.high_side) (sym read.map) s)) stands

pub cut_sum-returns-in-Err-part_sum-clause-damaged : goal.cut_sum-returns-in-Err-part_sum-clause-damaged
cut_sum-returns-in-Err-part_sum-clause-damaged g t c = λ damaged e tells.
    let b = g.B.BorderTree in
    let m : PageMap = g.P.Pages.map c.args.pages.now in
    let at = c.in-Some-Cut-default in
    let begun : c.args.nodes.now ≡ Cut at.dimension at.key at.low at.border ∷ at.rest = search rules in
    let sound = c.is_sound.ensures.0 c.if-not-is_sound.false in
    let from : at.key ≤ slice_index c.args.keys.now at.dimension = rw c.from.ensures at c.if-keys-from.false in
    let read = c.in-Ok-low_sum.ensures.reads.read in
    above_it b m c.args.keys.now c.args.version damaged c.args.count c.args.page at.dimension at.key at.low at.border c.args.nodes.now at.rest begun sound
    c.after_part.result c.after_part.ensures from
    (subst (λ (n : PageMap). IsDamagedOnWay b n (c.args.count - at.low) (BeforePart c.args.page c.after_part.result) c.args.keys.now c.args.version damaged) read.map
    (c.in-Err-part_sum.ensures.damaged damaged e (read.tells ∙ tells)))

pub cut_sum-returns-in-Err-part_sum-clause-cost : goal.cut_sum-returns-in-Err-part_sum-clause-cost
cut_sum-returns-in-Err-part_sum-clause-cost g t c = λ tells is part rest nodes_are inside stands balanced.
    let b = g.B.BorderTree in
    let m : PageMap = g.P.Pages.map c.args.pages.now in
    let at = c.in-Some-Cut-default in
    let begun : c.args.nodes.now ≡ Cut at.dimension at.key at.low at.border ∷ at.rest = search rules in
    let cut : IsCutOf part at.dimension at.key at.low at.border at.rest rest = cut_of part at.dimension at.key at.low at.border at.rest rest (sym begun ∙ nodes_are) in
    let read = c.in-Ok-low_sum.ensures.reads.read in
    let after : c.after_part.result ≡ nodes_of cut.high_side ++ rest =
    c.after_part.ensures ∙ ap (λ (ns : List CutNode). after_parts 1 ns) cut.nodes_are ∙ after_part cut.low_side 0 (nodes_of cut.high_side ++ rest) in
    cut_cost_high b m is part at.dimension at.key at.low c.args.count at.border at.rest rest (g.P.Pages.gets c.args.pages.now) (g.P.Pages.gets c.low_sum.new.pages) (g.P.Pages.gets c.part_sum-in-Ok-low_sum.new.pages) cut
    (λ few s b. c.in-Ok-low_sum.ensures.leaf_cost few tells is cut.low_side (nodes_of cut.high_side ++ rest) cut.nodes_are s b)
    (λ many s b. c.in-Ok-low_sum.ensures.border_cost many tells (border_points at.dimension (points_of cut.low_side)) s b)
    (λ s bs. c.in-Err-part_sum.ensures.cost (read.tells ∙ tells) is cut.high_side rest after
    (subst (λ (n : PageMap). PartStands b n (c.args.count - at.low) cut.high_side) (sym read.map) s)
    (subst (λ (n : PageMap). PartBalanced b n cut.high_side) (sym read.map) bs))
    stands balanced

pub cut_sum-returns-in-Ok-part_sum-clause-cost : goal.cut_sum-returns-in-Ok-part_sum-clause-cost
cut_sum-returns-in-Ok-part_sum-clause-cost g t c = λ tells is part rest nodes_are inside stands balanced.
    let b = g.B.BorderTree in
    let m : PageMap = g.P.Pages.map c.args.pages.now in
    let at = c.in-Some-Cut-default in
    let begun : c.args.nodes.now ≡ Cut at.dimension at.key at.low at.border ∷ at.rest = search rules in
    let cut : IsCutOf part at.dimension at.key at.low at.border at.rest rest = cut_of part at.dimension at.key at.low at.border at.rest rest (sym begun ∙ nodes_are) in
    let read = c.in-Ok-low_sum.ensures.reads.read in
    let after : c.after_part.result ≡ nodes_of cut.high_side ++ rest =
    c.after_part.ensures ∙ ap (λ (ns : List CutNode). after_parts 1 ns) cut.nodes_are ∙ after_part cut.low_side 0 (nodes_of cut.high_side ++ rest) in
    cut_cost_high b m is part at.dimension at.key at.low c.args.count at.border at.rest rest (g.P.Pages.gets c.args.pages.now) (g.P.Pages.gets c.low_sum.new.pages) (g.P.Pages.gets c.part_sum-in-Ok-low_sum.new.pages) cut
    (λ few s b. c.in-Ok-low_sum.ensures.leaf_cost few tells is cut.low_side (nodes_of cut.high_side ++ rest) cut.nodes_are s b)
    (λ many s b. c.in-Ok-low_sum.ensures.border_cost many tells (border_points at.dimension (points_of cut.low_side)) s b)
    (λ s bs. c.in-Ok-part_sum.ensures.cost (read.tells ∙ tells) is cut.high_side rest after
    (subst (λ (n : PageMap). PartStands b n (c.args.count - at.low) cut.high_side) (sym read.map) s)
    (subst (λ (n : PageMap). PartBalanced b n cut.high_side) (sym read.map) bs))
    stands balanced

pub cut_sum-returns-in-Ok-part_sum-clause-sum : goal.cut_sum-returns-in-Ok-part_sum-clause-sum
cut_sum-returns-in-Ok-part_sum-clause-sum g t c = λ tells part rest nodes_are inside stands.
    let b = g.B.BorderTree in
    let m : PageMap = g.P.Pages.map c.args.pages.now in
    let at = c.in-Some-Cut-default in
    let begun : c.args.nodes.now ≡ Cut at.dimension at.key at.low at.border ∷ at.rest = search rules in
    let cut : IsCutOf part at.dimension at.key at.low at.border at.rest rest = cut_of part at.dimension at.key at.low at.border at.rest rest (sym begun ∙ nodes_are) in
    let three : length c.args.keys.now ≡ 3 = search rules in
    let dims = c.border_laws.ensures.dims in
    let from : at.key ≤ slice_index c.args.keys.now at.dimension = rw c.from.ensures at c.if-keys-from.false in
    let read = c.in-Ok-low_sum.ensures.reads.read in
    let after : c.after_part.result ≡ nodes_of cut.high_side ++ rest =
    c.after_part.ensures ∙ ap (λ (ns : List CutNode). after_parts 1 ns) cut.nodes_are ∙ after_part cut.low_side 0 (nodes_of cut.high_side ++ rest) in
    cut_from b m part at.dimension at.key at.low c.args.count c.args.version at.border at.rest rest c.args.keys.now c.in-Ok-low_sum.below c.in-Ok-part_sum.above cut
    (omega (arith, three, dims)) (omega (arith, dims)) from
    (λ few s. c.in-Ok-low_sum.ensures.leaf few tells cut.low_side (nodes_of cut.high_side ++ rest) cut.nodes_are s)
    (λ many s. c.in-Ok-low_sum.ensures.border many tells (border_points at.dimension (points_of cut.low_side)) s)
    (λ s. c.in-Ok-part_sum.ensures.sum (read.tells ∙ tells) cut.high_side rest after
    (subst (λ (n : PageMap). PartStands b n (c.args.count - at.low) cut.high_side) (sym read.map) s))
    stands

pub cut_sum-returns-in-Ok-part_sum-clause-whole : goal.cut_sum-returns-in-Ok-part_sum-clause-whole
cut_sum-returns-in-Ok-part_sum-clause-whole g t c = λ tells damaged way.
    let b = g.B.BorderTree in
    let m : PageMap = g.P.Pages.map c.args.pages.now in
    let at = c.in-Some-Cut-default in
    let begun : c.args.nodes.now ≡ Cut at.dimension at.key at.low at.border ∷ at.rest = search rules in
    let sound = c.is_sound.ensures.0 c.if-not-is_sound.false in
    let from : at.key ≤ slice_index c.args.keys.now at.dimension = rw c.from.ensures at c.if-keys-from.false in
    let read = c.in-Ok-low_sum.ensures.reads.read in
    whole_from b m c.args.keys.now c.args.version damaged c.args.count c.args.page at.dimension at.key at.low at.border c.args.nodes.now at.rest begun sound
    c.after_part.result c.after_part.ensures from
    (λ few. c.in-Ok-low_sum.ensures.leaf_whole few tells damaged)
    (λ many. c.in-Ok-low_sum.ensures.border_whole many tells damaged)
    (subst (λ (n : PageMap). IsDamagedOnWay b n (c.args.count - at.low) (BeforePart c.args.page c.after_part.result) c.args.keys.now c.args.version damaged → ⊥) read.map
    (c.in-Ok-part_sum.ensures.whole (read.tells ∙ tells) damaged)) way

pub low_sum-sum-requires : goal.low_sum-sum-requires
low_sum-sum-requires g t c =
    let below = keys_stay_below g.B.BorderTree.DIMS c.args.dimension c.args.keys.now c.requires.dimension.0 c.requires.keys in
    record { keys = subst (λ (ks : List ℕ). AreKeysBelow g.B.BorderTree.DIMS ks) (sym c.drop_key.ensures) below }

pub page_sum-returns-in-Err-clause-cost : goal.page_sum-returns-in-Err-clause-cost
page_sum-returns-in-Err-clause-cost g t c = λ tells is part begins stands balanced.
    let some = some_points part c.args.count stands.shape in
    let one = reads_some g.B.BorderTree.cost c.args.count c.args.count some some in
    let most = c.leaf_sum.ensures.reads.read.at_most in
    omega (arith, one, most)

pub page_sum-returns-in-Ok-clause-cost : goal.page_sum-returns-in-Ok-clause-cost
page_sum-returns-in-Ok-clause-cost g t c = λ tells is part begins stands balanced.
    let some = some_points part c.args.count stands.shape in
    let one = reads_some g.B.BorderTree.cost c.args.count c.args.count some some in
    let most = c.leaf_sum.ensures.reads.read.at_most in
    omega (arith, one, most)

pub page_sum-returns-in-Err-view_cuts-clause-damaged : goal.page_sum-returns-in-Err-view_cuts-clause-damaged
unfolding fault_of
page_sum-returns-in-Err-view_cuts-clause-damaged g t c = λ damaged e tells.
    let b = g.B.BorderTree in
    let m : PageMap = g.P.Pages.map c.args.pages.now in
    let same : c.in-Err-view_cuts.fault ≡ Damaged damaged = ap fault_of e in
    let why = c.in-Err-view_cuts.ensures.damaged damaged (ap (λ (fault : PageFault). Err fault) same) in
    no_cuts b m c.args.keys.now c.args.version damaged c.args.count c.args.page c.if-count-le64.false why.0 (why.1 tells)

pub page_sum-returns-in-Err-view_cuts-clause-cost : goal.page_sum-returns-in-Err-view_cuts-clause-cost
page_sum-returns-in-Err-view_cuts-clause-cost g t c = λ tells is part begins stands balanced.
    let some = some_points part c.args.count stands.shape in
    let one = reads_some g.B.BorderTree.cost c.args.count c.args.count some some in
    let most = c.view_cuts.ensures.reads.read.at_most in
    omega (arith, one, most)

pub page_sum-returns-in-Err-cut_sum-clause-sum : goal.page_sum-returns-in-Err-cut_sum-clause-sum
page_sum-returns-in-Err-cut_sum-clause-sum g t c = λ tells part begins stands.
    let b = g.B.BorderTree in
    let m : PageMap = g.P.Pages.map c.args.pages.now in
    let nodes : List CutNode = c.in-Ok-view_cuts.cuts.nodes.items in
    let read = c.in-Ok-view_cuts.ensures.reads.read in
    let at = cut_at b m part c.args.page c.args.count nodes begins c.if-count-le64.false (c.in-Ok-view_cuts.ensures.found tells) stands in
    subst (λ (ps : List Point). IsSum (Err c.in-Err-cut_sum.fault) (dominance_sum (suc b.DIMS) ps c.args.keys.now c.args.version)) at.points
    (c.in-Err-cut_sum.ensures.sum (read.tells ∙ tells) at.cut [] (c.on.ensures ∙ at.nodes_are) at.inside
    (subst (λ (n : PageMap). PartStands b n c.args.count at.cut) (sym read.map) at.stands))

pub page_sum-returns-in-Err-cut_sum-clause-cost : goal.page_sum-returns-in-Err-cut_sum-clause-cost
page_sum-returns-in-Err-cut_sum-clause-cost g t c = λ tells is part begins stands balanced.
    let b = g.B.BorderTree in
    let m : PageMap = g.P.Pages.map c.args.pages.now in
    let nodes : List CutNode = c.in-Ok-view_cuts.cuts.nodes.items in
    let read = c.in-Ok-view_cuts.ensures.reads.read in
    let at = cut_at b m part c.args.page c.args.count nodes begins c.if-count-le64.false (c.in-Ok-view_cuts.ensures.found tells) stands in
    let some = some_points part c.args.count stands.shape in
    let one = reads_some b.cost c.args.count c.args.count some some in
    let inner = c.in-Err-cut_sum.ensures.cost (read.tells ∙ tells) is at.cut [] (c.on.ensures ∙ at.nodes_are) at.inside
    (subst (λ (n : PageMap). PartStands b n c.args.count at.cut) (sym read.map) at.stands)
    (subst (λ (n : PageMap). PartBalanced b n at.cut) (sym read.map) (at.borders balanced)) in
    let most = read.at_most in
    omega (arith, one, most, inner)

pub page_sum-returns-in-Ok-cut_sum-clause-sum : goal.page_sum-returns-in-Ok-cut_sum-clause-sum
page_sum-returns-in-Ok-cut_sum-clause-sum g t c = λ tells part begins stands.
    let b = g.B.BorderTree in
    let m : PageMap = g.P.Pages.map c.args.pages.now in
    let nodes : List CutNode = c.in-Ok-view_cuts.cuts.nodes.items in
    let read = c.in-Ok-view_cuts.ensures.reads.read in
    let at = cut_at b m part c.args.page c.args.count nodes begins c.if-count-le64.false (c.in-Ok-view_cuts.ensures.found tells) stands in
    subst (λ (ps : List Point). IsSum (Ok c.in-Ok-cut_sum.value) (dominance_sum (suc b.DIMS) ps c.args.keys.now c.args.version)) at.points
    (c.in-Ok-cut_sum.ensures.sum (read.tells ∙ tells) at.cut [] (c.on.ensures ∙ at.nodes_are) at.inside
    (subst (λ (n : PageMap). PartStands b n c.args.count at.cut) (sym read.map) at.stands))

pub page_sum-returns-in-Ok-cut_sum-clause-cost : goal.page_sum-returns-in-Ok-cut_sum-clause-cost
page_sum-returns-in-Ok-cut_sum-clause-cost g t c = λ tells is part begins stands balanced.
    let b = g.B.BorderTree in
    let m : PageMap = g.P.Pages.map c.args.pages.now in
    let nodes : List CutNode = c.in-Ok-view_cuts.cuts.nodes.items in
    let read = c.in-Ok-view_cuts.ensures.reads.read in
    let at = cut_at b m part c.args.page c.args.count nodes begins c.if-count-le64.false (c.in-Ok-view_cuts.ensures.found tells) stands in
    let some = some_points part c.args.count stands.shape in
    let one = reads_some b.cost c.args.count c.args.count some some in
    let inner = c.in-Ok-cut_sum.ensures.cost (read.tells ∙ tells) is at.cut [] (c.on.ensures ∙ at.nodes_are) at.inside
    (subst (λ (n : PageMap). PartStands b n c.args.count at.cut) (sym read.map) at.stands)
    (subst (λ (n : PageMap). PartBalanced b n at.cut) (sym read.map) (at.borders balanced)) in
    let most = read.at_most in
    omega (arith, one, most, inner)

pub page_sum-returns-in-Err-cut_sum-clause-damaged : goal.page_sum-returns-in-Err-cut_sum-clause-damaged
page_sum-returns-in-Err-cut_sum-clause-damaged g t c = λ damaged e tells.
    let b = g.B.BorderTree in
    let m : PageMap = g.P.Pages.map c.args.pages.now in
    let nodes : List CutNode = c.in-Ok-view_cuts.cuts.nodes.items in
    let read = c.in-Ok-view_cuts.ensures.reads.read in
    let way = c.in-Err-cut_sum.ensures.damaged damaged e (read.tells ∙ tells) in
    let there = subst (λ (n : PageMap). IsDamagedOnWay b n c.args.count (BeforeCut c.args.page c.on.result) c.args.keys.now c.args.version damaged) read.map way in
    on_page b m c.args.keys.now c.args.version damaged c.args.count c.args.page nodes c.if-count-le64.false (c.in-Ok-view_cuts.ensures.found tells)
    (subst (λ (ns : List CutNode). IsDamagedOnWay b m c.args.count (BeforeCut c.args.page ns) c.args.keys.now c.args.version damaged) c.on.ensures there)

pub page_sum-returns-in-Ok-cut_sum-clause-whole : goal.page_sum-returns-in-Ok-cut_sum-clause-whole
page_sum-returns-in-Ok-cut_sum-clause-whole g t c = λ tells damaged way.
    let b = g.B.BorderTree in
    let m : PageMap = g.P.Pages.map c.args.pages.now in
    let nodes : List CutNode = c.in-Ok-view_cuts.cuts.nodes.items in
    let read = c.in-Ok-view_cuts.ensures.reads.read in
    let none = c.in-Ok-cut_sum.ensures.whole (read.tells ∙ tells) damaged in
    let there = subst (λ (n : PageMap). IsDamagedOnWay b n c.args.count (BeforeCut c.args.page c.on.result) c.args.keys.now c.args.version damaged → ⊥) read.map none in
    whole_page b m c.args.keys.now c.args.version damaged c.args.count c.args.page nodes c.if-count-le64.false (c.in-Ok-view_cuts.ensures.found tells)
    (subst (λ (ns : List CutNode). IsDamagedOnWay b m c.args.count (BeforeCut c.args.page ns) c.args.keys.now c.args.version damaged → ⊥) c.on.ensures there) way

pub part_sum-returns-in-None-clause-sum : goal.part_sum-returns-in-None-clause-sum
part_sum-returns-in-None-clause-sum g t c = λ tells part rest nodes_are stands.
    some_node part c.args.nodes.now rest (c.split_first.ensures.none c.in-None.is) nodes_are

pub part_sum-returns-in-Err-clause-damaged : goal.part_sum-returns-in-Err-clause-damaged
part_sum-returns-in-Err-clause-damaged g t c = λ damaged e tells.
    let b = g.B.BorderTree in
    let m : PageMap = g.P.Pages.map c.args.pages.now in
    let at = c.in-Some-Entry-default in
    let begun : c.args.nodes.now ≡ Entry at.child ∷ at.field-0-1 = search rules in
    at_entry b m c.args.keys.now c.args.version damaged c.args.count c.args.page at.child c.args.nodes.now at.field-0-1 begun (c.in-Err.ensures.damaged damaged e tells)

pub part_sum-returns-in-Ok-clause-whole : goal.part_sum-returns-in-Ok-clause-whole
part_sum-returns-in-Ok-clause-whole g t c = λ tells damaged way.
    let b = g.B.BorderTree in
    let m : PageMap = g.P.Pages.map c.args.pages.now in
    let at = c.in-Some-Entry-default in
    let begun : c.args.nodes.now ≡ Entry at.child ∷ at.field-0-1 = search rules in
    whole_entry b m c.args.keys.now c.args.version damaged c.args.count c.args.page at.child c.args.nodes.now at.field-0-1 begun (c.in-Ok.ensures.whole tells damaged) way

pub part_sum-returns-in-Err-cut_sum-clause-damaged : goal.part_sum-returns-in-Err-cut_sum-clause-damaged
part_sum-returns-in-Err-cut_sum-clause-damaged g t c = λ damaged e tells.
    let b = g.B.BorderTree in
    let m : PageMap = g.P.Pages.map c.args.pages.now in
    let at = c.in-Some-Cut-default in
    let begun : c.args.nodes.now ≡ Cut at.field-0-0-0 at.field-0-0-1 at.field-0-0-2 at.field-0-0-3 ∷ at.field-0-1 = search rules in
    at_cut b m c.args.keys.now c.args.version damaged c.args.count c.args.page at.field-0-0-0 at.field-0-0-1 at.field-0-0-2 at.field-0-0-3 c.args.nodes.now at.field-0-1 begun
    (c.in-Err-cut_sum.ensures.damaged damaged e tells)

pub part_sum-returns-in-Ok-cut_sum-clause-whole : goal.part_sum-returns-in-Ok-cut_sum-clause-whole
part_sum-returns-in-Ok-cut_sum-clause-whole g t c = λ tells damaged way.
    let b = g.B.BorderTree in
    let m : PageMap = g.P.Pages.map c.args.pages.now in
    let at = c.in-Some-Cut-default in
    let begun : c.args.nodes.now ≡ Cut at.field-0-0-0 at.field-0-0-1 at.field-0-0-2 at.field-0-0-3 ∷ at.field-0-1 = search rules in
    whole_part b m c.args.keys.now c.args.version damaged c.args.count c.args.page at.field-0-0-0 at.field-0-0-1 at.field-0-0-2 at.field-0-0-3 c.args.nodes.now at.field-0-1 begun
    (c.in-Ok-cut_sum.ensures.whole tells damaged) way
