use Rattle.std.proofs.Common.{Err, ◌≡◌, ℕ, suc, ◌+◌, ◌-◌, ◌*◌, ◌/◌, ◌^◌, ◌≤◌, ◌<◌, List, length, slice_index, refl, arith, rules}
use Rattle.std.proofs.lemmas.List.Sorted.{IsPermutation-refl, length_permutation}
use Rattle.std.proofs.lemmas.Result.{err_from_is_err_and}
use Rattle.bw_types.specs.declared.point.Point.{Point}
use Rattle.ba_tree.specs.Building.{pages_of_borders}
use Rattle.ba_tree.proofs.Growth.{builds_less, builds_then, map_both, map_ok, refused, still_told, went, went_then}
use Rattle.ba_tree.proofs.BuiltNumbers.{border_few, half_most, halves_few, low_few, one_at_least, some_halving, twice}
use Rattle.ba_tree.proofs.Pushing.{all_many, all_nodes, cut_pushed, pushed_long}
use Rattle.ba_tree.proofs.Joining.{balanced_halves, cut_built, first_half, halves_may, leaf_built, page_built, parts_permuted, second_half}
use Rattle.ba_tree.proofs.building.+builds.Goals as goal

pub build_page-returns-then-points-le-LEAF_POINTS-clause-built : goal.build_page-returns-then-points-le-LEAF_POINTS-clause-built
build_page-returns-then-points-le-LEAF_POINTS-clause-built g t c = map_both c.make_leaf.result (λ page made change tells.
    leaf_built g.B.BorderTree (g.S.Pages.map c.args.stage.now) (g.S.Pages.map c.make_leaf.new.stage) c.args.points.now page c.requires.some
    c.if-points-le-LEAF_POINTS.true c.requires.points.three (made tells) (change tells)) c.make_leaf.ensures.made c.make_leaf.ensures.change

pub build_page-make_cuts-requires-clause-nodes : goal.build_page-make_cuts-requires-clause-nodes
build_page-make_cuts-requires-clause-nodes g t c = all_nodes c.new.result.items c.build_cut.new.page.nodes.items 128 c.new.ensures c.in_ok-build_cut.ensures.pushed

pub build_page-returns-clause-built : goal.build_page-returns-clause-built
build_page-returns-clause-built g t c = map_both c.make_cuts.result (λ page made change tells.
    let there = still_told (g.S.Pages.tells c.build_cut.new.stage) (g.S.Pages.tells c.args.stage.now) c.build_cut.ensures.builds.grows.went_on.tells tells in
    page_built g.B.BorderTree (g.S.Pages.map c.args.stage.now) (g.S.Pages.map c.build_cut.new.stage) (g.S.Pages.map c.make_cuts.new.stage) c.args.points.now
    c.new.result.items c.build_cut.new.page.nodes.items page c.border_laws.ensures.laws c.new.ensures
    (all_many c.new.result.items c.build_cut.new.page.nodes.items 128 c.new.ensures (omega arith) c.in_ok-build_cut.ensures.pushed).0
    (c.in_ok-build_cut.ensures.built tells) (made there) (change there)) c.make_cuts.ensures.made c.make_cuts.ensures.change

pub build_cut-build_border-requires-clause-points : goal.build_cut-build_border-requires-clause-points
build_cut-build_border-requires-clause-points g t c =
    let d : ℕ = g.B.BorderTree.DIMS in
    let may = halves_may (suc d) c.args.points.now c.median_cut-dimension.new.points c.split_at_mut-lows.result.0.now c.split_at_mut-lows.result.1.now
    c.requires.points c.median_cut-dimension.ensures.permutation c.split_at_mut-lows.ensures.value in
    may.0

pub build_cut-build_nodes-requires : goal.build_cut-build_nodes-requires
build_cut-build_nodes-requires g t c κs within =
    let d : ℕ = g.B.BorderTree.DIMS in
    let n : ℕ = length c.args.points.now in
    let xs : List Point = c.split_at_mut-lows.result.0.now in
    let h : ℕ = c.args.halvings in
    let many = c.requires.many in
    let least = c.requires.least in
    let most = c.requires.most in
    let few = c.requires.halvings in
    let room = c.requires.room in
    let front : length xs ≡ n / 2 = omega (arith, c.split_at_mut-lows.ensures.front_len) in
    let some = some_halving c.args.least h n many most in
    let two = twice h some in
    let one = one_at_least (h - 1) in
    let long = c.push.ensures.len in
    let may = halves_may (suc d) c.args.points.now c.median_cut-dimension.new.points c.split_at_mut-lows.result.0.now c.split_at_mut-lows.result.1.now
    c.requires.points c.median_cut-dimension.ensures.permutation c.split_at_mut-lows.ensures.value in (
      omega (arith, c.decreases, front, many, least),
      (
        within.0,
        (
          within.1,
          (
            omega (arith, front, many, least),
            (
              may.0,
              (
                least,
                (
                  omega (arith, few),
                  (half_most c.args.least h n (length xs) some most (omega (arith, front)), omega (arith, room, two, one, long)),
                ),
              ),
            ),
          ),
        ),
      ),
    )

pub build_cut-build_nodes-requires-2 : goal.build_cut-build_nodes-requires-2
build_cut-build_nodes-requires-2 g t c κs within =
    let d : ℕ = g.B.BorderTree.DIMS in
    let n : ℕ = length c.args.points.now in
    let ys : List Point = c.split_at_mut-lows.result.1.now in
    let h : ℕ = c.args.halvings in
    let many = c.requires.many in
    let least = c.requires.least in
    let most = c.requires.most in
    let few = c.requires.halvings in
    let room = c.requires.room in
    let same = length_permutation c.args.points.now c.median_cut-dimension.new.points c.median_cut-dimension.ensures.permutation in
    let back : length ys ≡ n - n / 2 = omega (arith, c.split_at_mut-lows.ensures.back_len, same) in
    let some = some_halving c.args.least h n many most in
    let two = twice h some in
    let one = one_at_least (h - 1) in
    let long = c.push.ensures.len in
    let low = pushed_long c.push.new.self.items c.build_nodes.new.page.nodes.items 1 (2 * 2 ^ (h - 1)) c.in_ok-build_nodes.ensures.pushed in
    let may = halves_may (suc d) c.args.points.now c.median_cut-dimension.new.points c.split_at_mut-lows.result.0.now c.split_at_mut-lows.result.1.now
    c.requires.points c.median_cut-dimension.ensures.permutation c.split_at_mut-lows.ensures.value in (
      omega (arith, c.decreases, back, many, least),
      (
        within.0,
        (
          within.1,
          (
            omega (arith, back, many, least),
            (
              may.1,
              (
                least,
                (
                  omega (arith, few),
                  (half_most c.args.least h n (length ys) some most (omega (arith, back)), omega (arith, room, two, one, long, low)),
                ),
              ),
            ),
          ),
        ),
      ),
    )

pub build_cut-returns-in_err-border-clause-builds : goal.build_cut-returns-in_err-border-clause-builds
build_cut-returns-in_err-border-clause-builds g t c =
    let n : ℕ = length c.args.points.now in
    let a : ℕ = length c.split_at_mut-lows.result.0.now in
    let share : ℕ → ℕ = g.B.BorderTree.share in
    let most : ℕ = 2 * n - 2 + pages_of_borders g.B.BorderTree n in
    let many = c.requires.many in
    let least = c.requires.least in
    let front = c.split_at_mut-lows.ensures.front_len in
    let half : a ≡ n / 2 = omega (arith, front) in
    refused g.S.Pages most c.args.stage.now c.build_border.new.stage c.from_residual.result c.in_err-border.field-0.0
    (err_from_is_err_and c.from_residual.result c.from_residual.ensures.1)
    (builds_less g.S.Pages (a * share a) most c.args.stage.now c.build_border.new.stage (Err c.in_err-border.field-0.0) c.in_err-border.ensures.builds
    (border_few share c.border_laws.ensures.laws.share_rises n a (n - a) (omega (arith, many, least)) half (omega (arith, half))))

pub build_cut-returns-in_err-build_nodes-clause-permutation : goal.build_cut-returns-in_err-build_nodes-clause-permutation
build_cut-returns-in_err-build_nodes-clause-permutation g t c =
    let xs : List Point = c.split_at_mut-lows.result.0.now in
    let ys : List Point = c.split_at_mut-lows.result.1.now in
    parts_permuted c.args.points.now c.median_cut-dimension.new.points xs ys c.build_nodes.new.points ys c.median_cut-dimension.ensures.permutation c.split_at_mut-lows.ensures.value
    c.build_nodes.ensures.permutation (IsPermutation-refl ys)

pub build_cut-returns-in_err-build_nodes-clause-builds : goal.build_cut-returns-in_err-build_nodes-clause-builds
build_cut-returns-in_err-build_nodes-clause-builds g t c =
    let n : ℕ = length c.args.points.now in
    let a : ℕ = length c.split_at_mut-lows.result.0.now in
    let share : ℕ → ℕ = g.B.BorderTree.share in
    let most : ℕ = 2 * n - 2 + pages_of_borders g.B.BorderTree n in
    let lows : ℕ = 2 * a - 1 + pages_of_borders g.B.BorderTree a in
    let many = c.requires.many in
    let least = c.requires.least in
    let front = c.split_at_mut-lows.ensures.front_len in
    let half : a ≡ n / 2 = omega (arith, front) in
    refused g.S.Pages most c.args.stage.now c.build_nodes.new.stage c.from_residual-in_err-build_nodes.result c.in_err-build_nodes.field-0.0
    (err_from_is_err_and c.from_residual-in_err-build_nodes.result c.from_residual-in_err-build_nodes.ensures.1)
    (builds_then g.S.Pages (a * share a) lows most c.args.stage.now c.build_border.new.stage c.build_nodes.new.stage (Err c.in_err-build_nodes.field-0.0)
    (went g.S.Pages (a * share a) c.args.stage.now c.build_border.new.stage c.build_border.result c.build_border.ensures.builds)
    c.in_err-build_nodes.ensures.builds
    (low_few share c.border_laws.ensures.laws.share_rises n a (n - a) (omega (arith, many, least)) half (omega (arith, half))))

pub build_cut-returns-clause-permutation : goal.build_cut-returns-clause-permutation
build_cut-returns-clause-permutation g t c =
    parts_permuted c.args.points.now c.median_cut-dimension.new.points c.split_at_mut-lows.result.0.now c.split_at_mut-lows.result.1.now c.build_nodes.new.points c.build_nodes-2.new.points
    c.median_cut-dimension.ensures.permutation c.split_at_mut-lows.ensures.value c.build_nodes.ensures.permutation c.build_nodes-2.ensures.permutation

pub build_cut-returns-clause-pushed : goal.build_cut-returns-clause-pushed
build_cut-returns-clause-pushed g t c =
    let n : ℕ = length c.args.points.now in
    let many = c.requires.many in
    let least = c.requires.least in
    let lt = c.median_cut-dimension.ensures.dimension in
    let last = c.border_laws.ensures.dims.1 in
    let few = c.requires.points.few in
    map_ok c.build_nodes-2.result (λ done p.
    cut_pushed c.args.page.now.nodes.items c.push.new.self.items c.build_nodes.new.page.nodes.items c.build_nodes-2.new.page.nodes.items c.args.halvings
    c.median_cut-dimension.result.0 c.median_cut-dimension.result.1 (n / 2) c.in_ok-border.border c.push.ensures.items
    c.in_ok-build_nodes.ensures.pushed p (some_halving c.args.least c.args.halvings n many c.requires.most)
    (omega (arith, lt, last)) (omega (arith, many, least)) c.in_ok-border.ensures.rules (search rules) (omega (arith, few)) c.in_ok-border.ensures.typed)
    c.build_nodes-2.ensures.pushed

pub build_cut-returns-clause-built : goal.build_cut-returns-clause-built
build_cut-returns-clause-built g t c = map_ok c.build_nodes-2.result (λ done built tells.
    let n : ℕ = length c.args.points.now in
    let many = c.requires.many in
    let least = c.requires.least in
    let lt = c.median_cut-dimension.ensures.dimension in
    let d : ℕ = c.median_cut-dimension.result.0 in
    let key : ℕ = c.median_cut-dimension.result.1 in
    let new : List Point = c.median_cut-dimension.new.points in
    let same = c.median_cut-dimension.ensures.permutation in
    let xs : List Point = c.split_at_mut-lows.result.0.now in
    let ys : List Point = c.split_at_mut-lows.result.1.now in
    let front = c.split_at_mut-lows.ensures.front_len in
    let t1 = still_told (g.S.Pages.tells c.build_border.new.stage) (g.S.Pages.tells c.args.stage.now) c.build_border.ensures.builds.grows.went_on.tells tells in
    let t2 = still_told (g.S.Pages.tells c.build_nodes.new.stage) (g.S.Pages.tells c.build_border.new.stage) c.build_nodes.ensures.builds.grows.went_on.tells t1 in
    cut_built g.B.BorderTree (g.S.Pages.map c.args.stage.now) (g.S.Pages.map c.build_border.new.stage) (g.S.Pages.map c.build_nodes.new.stage) (g.S.Pages.map c.build_nodes-2.new.stage)
    c.args.points.now new xs ys d key (n / 2) c.in_ok-border.border c.args.page.now.nodes.items c.push.new.self.items c.build_nodes.new.page.nodes.items
    c.build_nodes-2.new.page.nodes.items c.border_laws.ensures.laws same c.split_at_mut-lows.ensures.value (omega (arith, front))
    (balanced_halves n (n / 2) (omega (arith, many, least)) refl) (omega (arith, lt))
    (first_half (λ (p : Point). slice_index p.keys d < key) c.args.points.now new xs same c.split_at_mut-lows.ensures.front c.median_cut-dimension.ensures.low)
    (second_half (λ (p : Point). key ≤ slice_index p.keys d) c.args.points.now new ys same c.split_at_mut-lows.ensures.back c.median_cut-dimension.ensures.high)
    c.push.ensures.items (c.in_ok-border.ensures.built tells) (c.in_ok-build_nodes.ensures.built t1) (built t2)) c.build_nodes-2.ensures.built

pub build_cut-returns-clause-builds : goal.build_cut-returns-clause-builds
build_cut-returns-clause-builds g t c =
    let n : ℕ = length c.args.points.now in
    let a : ℕ = length c.split_at_mut-lows.result.0.now in
    let b : ℕ = length c.split_at_mut-lows.result.1.now in
    let share : ℕ → ℕ = g.B.BorderTree.share in
    let most : ℕ = 2 * n - 2 + pages_of_borders g.B.BorderTree n in
    let border : ℕ = a * share a in
    let lows : ℕ = 2 * a - 1 + pages_of_borders g.B.BorderTree a in
    let highs : ℕ = 2 * b - 1 + pages_of_borders g.B.BorderTree b in
    let many = c.requires.many in
    let least = c.requires.least in
    let front = c.split_at_mut-lows.ensures.front_len in
    let back = c.split_at_mut-lows.ensures.back_len in
    let long = length_permutation c.args.points.now c.median_cut-dimension.new.points c.median_cut-dimension.ensures.permutation in
    let half : a ≡ n / 2 = omega (arith, front) in
    builds_then g.S.Pages (border + lows) highs most c.args.stage.now c.build_nodes.new.stage c.build_nodes-2.new.stage c.build_nodes-2.result
    (went_then g.S.Pages border lows (border + lows) c.args.stage.now c.build_border.new.stage c.build_nodes.new.stage
    (went g.S.Pages border c.args.stage.now c.build_border.new.stage c.build_border.result c.build_border.ensures.builds)
    (went g.S.Pages lows c.build_border.new.stage c.build_nodes.new.stage c.build_nodes.result c.build_nodes.ensures.builds) (omega arith))
    c.build_nodes-2.ensures.builds
    (halves_few share c.border_laws.ensures.laws.share_rises n a b (omega (arith, many, least)) half (omega (arith, front, back, long)))
