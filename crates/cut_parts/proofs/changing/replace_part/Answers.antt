use Rattle.std.proofs.Common.{◌≡◌, ◌<◌, ◌++◌, ◌∷◌, [], List, length, take, drop, sym, ap, ◌∙◌, subst, append_assoc, arith}
use Rattle.page_layout.specs.declared.cut_page.CutNode.{CutNode}
use Rattle.page_layout.specs.declared.cut_page.CutNode.TheVariants.{Entry}
use Rattle.cut_parts.specs.Damage.{after_parts}
use Rattle.cut_parts.specs.Nodes.{AreNodes}
use Rattle.cut_parts.proofs.Places.{after_less}
use Rattle.cut_parts.proofs.Changes.{replace_part}
use Rattle.cut_parts.proofs.changing.replace_part.Goals as goal

pub append-requires : goal.append-requires
append-requires c =
    let tail : List CutNode = c.split_at.result.1.now in
    let whole : length c.as_slice.result.now ≡ length c.args.page.now.nodes.items = ap (λ (ns : List CutNode). length ns) c.as_slice.ensures.value in
    let less : length (after_parts 1 tail) < length tail = after_less tail (omega (arith, whole, c.requires, c.split_at.ensures.back_len)) in
    let after : length c.split_part.result.1.now ≡ length (after_parts 1 tail) = ap (λ (ns : List CutNode). length ns) c.split_part.ensures.after in
    let front : length c.page_of-changed.result.nodes.items ≡ length c.split_at.result.0.now = ap (λ (ns : List CutNode). length ns) c.page_of-changed.ensures in
    omega (arith, less, after, front, c.push.ensures.len, c.split_at.ensures.front_len, c.split_at.ensures.back_len, c.as_slice.ensures.fits)

pub returns-clause-nodes : goal.returns-clause-nodes
returns-clause-nodes c = λ are three.
    let nodes : List CutNode = c.args.page.now.nodes.items in
    let place = c.args.place in
    let behind : List CutNode = c.split_part.result.1.now in
    let entry : CutNode = Entry c.args.child in
    let front : c.page_of-changed.result.nodes.items ≡ take place nodes =
    c.page_of-changed.ensures ∙ c.split_at.ensures.front ∙ ap (λ (ns : List CutNode). take place ns) c.as_slice.ensures.value in
    let back : c.split_at.result.1.now ≡ drop place nodes = c.split_at.ensures.back ∙ ap (λ (ns : List CutNode). drop place ns) c.as_slice.ensures.value in
    let after : behind ≡ after_parts 1 (drop place nodes) = c.split_part.ensures.after ∙ ap (λ (ns : List CutNode). after_parts 1 ns) back in
    let pushed : c.push.new.self.items ≡ take place nodes ++ (entry ∷ []) = c.push.ensures.items ∙ ap (λ (ns : List CutNode). ns ++ (entry ∷ [])) front in
    let set : c.append.new.nodes.items ≡ take place nodes ++ (entry ∷ after_parts 1 (drop place nodes)) =
    c.append.ensures
    ∙ ap (λ (ns : List CutNode). ns ++ behind) pushed
    ∙ append_assoc (take place nodes) (entry ∷ []) behind
    ∙ ap (λ (ns : List CutNode). take place nodes ++ (entry ∷ ns)) after in
    subst AreNodes (sym set) (replace_part nodes place c.args.child c.requires are three c.ranges.child.fits)
