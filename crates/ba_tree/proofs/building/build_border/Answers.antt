use Rattle.std.proofs.Common.{◌≡◌, ℕ, ◌*◌, List, length, sym, ap, ◌∙◌, subst, arith, rules}
use Rattle.bw_types.specs.declared.point.Point.{Point}
use Rattle.ports.specs.Calls.{Grows}
use Rattle.cut_parts.specs.Borders.{IsBuiltOf, MayBeBuilt}
use Rattle.cut_parts.specs.Parts.{border_points}
use Rattle.bw_types.specs.Without.{without_dimension}
use Rattle.cut_parts.proofs.BorderPoints.{border_may}
use Rattle.cut_parts.proofs.Halves.{length_mapped}
use Rattle.ba_tree.proofs.Growth.{builds_end, map_ok, no_memory, went_none}
use Rattle.ba_tree.proofs.Joining.{border_built, border_none}
use Rattle.ba_tree.proofs.building.build_border.Goals as goal

pub build-requires : goal.build-requires
build-requires g c =
    let d : ℕ = g.B.BorderTree.DIMS in
    let few = c.border_laws.ensures.dims.1 in
    record {
      points = subst (λ (ps : List Point). MayBeBuilt d ps) (sym (c.as_mut_slice.ensures.value ∙ c.in-Ok.ensures))
          (border_may d c.args.dimension c.args.lows.now c.requires.dimension (omega (arith, few)) c.requires.points);
    }

pub returns-then-lows-le-BORDERLESS-clause-built : goal.returns-then-lows-le-BORDERLESS-clause-built
returns-then-lows-le-BORDERLESS-clause-built g c = λ tells.
    border_none g.B.BorderTree (g.S.Pages.map c.args.stage.now) c.args.dimension c.args.lows.now c.default.result c.border_laws.ensures.laws c.if-lows-le-BORDERLESS.true (search rules)

pub returns-then-lows-le-BORDERLESS-clause-builds : goal.returns-then-lows-le-BORDERLESS-clause-builds
returns-then-lows-le-BORDERLESS-clause-builds g c =
    let n : ℕ = length c.args.lows.now * g.B.BorderTree.share (length c.args.lows.now) in
    builds_end g.S.Pages n c.args.stage.now c.args.stage.now c.default.result (went_none g.S.Pages n c.args.stage.now)

pub returns-in-Err-clause-builds : goal.returns-in-Err-clause-builds
returns-in-Err-clause-builds g c = no_memory g.S.Pages (length c.args.lows.now * g.B.BorderTree.share (length c.args.lows.now)) c.args.stage.now

pub returns-in-Ok-clause-built : goal.returns-in-Ok-clause-built
returns-in-Ok-clause-built g c = map_ok c.build.result (λ tree built tells.
    border_built g.B.BorderTree (g.S.Pages.map c.args.stage.now) (g.S.Pages.map c.build.new.stage) c.args.dimension c.args.lows.now tree c.border_laws.ensures.laws
    c.if-lows-le-BORDERLESS.false
    (subst (λ (ps : List Point). IsBuiltOf g.B.BorderTree.stands g.B.BorderTree.footprint g.B.BorderTree.balanced (g.S.Pages.map c.args.stage.now) (g.S.Pages.map c.build.new.stage) tree ps)
    (c.as_mut_slice.ensures.value ∙ c.in-Ok.ensures) (built tells))) c.build.ensures.built

pub returns-in-Ok-clause-builds : goal.returns-in-Ok-clause-builds
returns-in-Ok-clause-builds g c =
    let same : c.as_mut_slice.result.now ≡ border_points c.args.dimension c.args.lows.now = c.as_mut_slice.ensures.value ∙ c.in-Ok.ensures in
    let long : length c.as_mut_slice.result.now ≡ length c.args.lows.now =
    ap (λ (ps : List Point). length ps) same ∙ length_mapped (without_dimension c.args.dimension) c.args.lows.now in
    record {
      damaged = c.build.ensures.damaged;
      grows = c.build.ensures.grows;
      few = λ tells. subst (λ (n : ℕ). Grows g.S.Pages (n * g.B.BorderTree.share n) c.args.stage.now c.build.new.stage c.build.result) long (c.build.ensures.few tells);
    }
