-- Nodes that are put last on a page.
use Rattle.std.proofs.Common.{◌≡◌, ℕ, suc, ◌+◌, ◌-◌, ◌*◌, ◌^◌, ◌<◌, ◌≤◌, IsTrue, List, [], ◌∷◌, ◌++◌, length, sym, ap, ◌∙◌, arith, append_assoc, append-nil, length-append, subst}
use Rattle.std.proofs.lemmas.Bool.{le-leb}
use Rattle.std.proofs.lemmas.List.Elements.{All-append, All-cons}
use Rattle.bw_types.specs.declared.tree.Tree.{Tree}
use Rattle.page_layout.specs.CutPage.{IsNodeTyped, node_fits, open_places}
use Rattle.page_layout.specs.TreeValue.{IsTreeTyped, tree_fits}
use Rattle.page_layout.specs.declared.cut_page.CutNode.{CutNode}
use Rattle.page_layout.specs.declared.cut_page.CutNode.TheVariants.{Cut}
use Rattle.cut_parts.specs.Nodes.{AreNodes}
use Rattle.ba_tree.specs.Building.{ArePushed}
use Rattle.ba_tree.proofs.BuiltNumbers.{twice}

cut_fits : (dimension key low : ℕ) (border : Tree) → dimension ≤ 2 → 1 ≤ low → IsTrue (tree_fits border) → IsTrue (node_fits (Cut dimension key low border))
cut_fits dimension key low border few some fits = rw (le-leb dimension 2 few, le-leb 1 low some) fits

-- a cut, and the nodes of its low side and of its high side behind it
pub cut_pushed : (p0 p1 p2 p3 : List CutNode) (halvings dimension key low : ℕ) (border : Tree) → p1 ≡ p0 ++ (Cut dimension key low border ∷ [])
    → ArePushed p1 p2 1 (2 * 2 ^ (halvings - 1)) → ArePushed p2 p3 1 (2 * 2 ^ (halvings - 1)) → 1 ≤ halvings
    → dimension ≤ 2 → 1 ≤ low → IsTrue (tree_fits border) → key < 2 ^ 64 → low < 2 ^ 32 → IsTreeTyped border
    → ArePushed p0 p3 3 (2 * 2 ^ halvings)
cut_pushed p0 p1 p2 p3 halvings dimension key low border first lows highs some few one fits wide short typed =
    let cut : CutNode = Cut dimension key low border in
    let ls : List CutNode = lows.more in
    let hs : List CutNode = highs.more in
    let fit : CutNode → Type 0 = λ node. IsTrue (node_fits node) in
    record {
      more = cut ∷ (ls ++ hs);
      behind =
          highs.behind ∙ ap (λ (ns : List CutNode). ns ++ hs) (lows.behind ∙ ap (λ (ns : List CutNode). ns ++ ls) first ∙ append_assoc p0 (cut ∷ []) ls)
          ∙ append_assoc p0 (cut ∷ ls) hs;
      filled = λ places rest.
          ap (λ (ns : List CutNode). open_places (suc (suc places)) ns) (append_assoc ls hs rest) ∙ lows.filled (suc places) (hs ++ rest) ∙ highs.filled places rest;
      fit = All-cons (λ (node : CutNode). IsTrue (node_fits node)) cut (ls ++ hs) (cut_fits dimension key low border few one fits)
          (All-append (λ (node : CutNode). IsTrue (node_fits node)) ls hs lows.fit highs.fit);
      typed = All-cons IsNodeTyped cut (ls ++ hs) (wide, short, typed) (All-append IsNodeTyped ls hs lows.typed highs.typed);
      some = let a = lows.some in let b = highs.some in omega (arith, a, b, length-append ls hs);
      few = let a = lows.few in let b = highs.few in let t = twice halvings some in omega (arith, a, b, t, length-append ls hs);
    }

-- nodes that were put on an empty page
pub all_nodes : (none nodes : List CutNode) (most : ℕ) → none ≡ [] → ArePushed none nodes 3 most → AreNodes nodes
all_nodes none nodes most empty p =
    let same : p.more ≡ nodes = sym (p.behind ∙ ap (λ (ns : List CutNode). ns ++ p.more) empty) in
    subst AreNodes same (record {
      filled = subst (λ (ns : List CutNode). IsTrue (open_places 1 ns)) (append-nil p.more) (p.filled 0 []);
      fit = p.fit;
      typed = p.typed;
    })

pub all_many : (none nodes : List CutNode) (most : ℕ) → none ≡ [] → most ≤ 128 → ArePushed none nodes 3 most → (3 ≤ length nodes) × (length nodes ≤ 127)
all_many none nodes most empty le p =
    let long : length nodes ≡ length p.more = ap (λ (ns : List CutNode). length ns) (p.behind ∙ ap (λ (ns : List CutNode). ns ++ p.more) empty) in
    let a = p.some in
    let b = p.few in
    (omega (arith, long, a), omega (arith, long, b, le))

pub pushed_long : (old new : List CutNode) (least most : ℕ) → ArePushed old new least most → length new < length old + most
pushed_long old new least most p =
    let long : length new ≡ length (old ++ p.more) = ap (λ (ns : List CutNode). length ns) p.behind in
    let b = p.few in
    omega (arith, long, b, length-append old p.more)
