-- Nodes of a page, changed at a place.
use Rattle.std.proofs.Common.{◌≡◌, ℕ, suc, ◌+◌, ◌<◌, ◌≤◌, ◌^◌, List, ◌∷◌, ◌++◌, length, take, drop, get_or, slice_set, insert, sym, ap, ◌∙◌, subst, arith, IsTrue, All, take-append-drop, take_at, drop_at, drop-cons, length-take-le}
use Rattle.std.proofs.lemmas.Bool.{le-leb}
use Rattle.std.proofs.lemmas.List.{take-set, drop-set}
use Rattle.std.proofs.lemmas.List.Elements.{All-append, All-cons, All-drop, All-set, All-take}
use Rattle.page_layout.specs.CutPage.{IsNodeTyped, cut_one, node_fits, open_places}
use Rattle.page_layout.specs.declared.cut_page.CutNode.{CutNode}
use Rattle.page_layout.specs.declared.cut_page.CutNode.TheVariants.{Entry}
use Rattle.cut_parts.specs.Damage.{after_parts}
use Rattle.cut_parts.specs.Nodes.{AreNodes}
use Rattle.cut_parts.proofs.Places.{after_all, behind, cut_for_cut, cut_for_entry, entry_for_part}

-- the nodes, parted before the one at the place
parted : (nodes : List CutNode) (place : ℕ) (d : CutNode) → place < length nodes → take place nodes ++ (get_or nodes place d ∷ drop (suc place) nodes) ≡ nodes
parted nodes place d lt = ap (λ (ns : List CutNode). take place nodes ++ ns) (sym (drop-cons nodes place d lt)) ∙ take-append-drop place nodes

-- the nodes with another at the place
set_parted : (nodes : List CutNode) (place : ℕ) (node : CutNode) → place < length nodes → take place nodes ++ (node ∷ drop (suc place) nodes) ≡ slice_set nodes place node
set_parted nodes place node lt =
    let next : place + 1 ≡ suc place = omega arith in
    let front : take place (slice_set nodes place node) ≡ take place nodes = take-set nodes place node in
    let back : drop place (slice_set nodes place node) ≡ node ∷ drop (suc place) nodes = drop-set nodes place node lt ∙ ap (λ (n : ℕ). node ∷ drop n nodes) next in
    ap (λ (ns : List CutNode). ns ++ (node ∷ drop (suc place) nodes)) (sym front)
    ∙ ap (λ (ns : List CutNode). take place (slice_set nodes place node) ++ ns) (sym back)
    ∙ take-append-drop place (slice_set nodes place node)

insert_at : (front back : List CutNode) (place : ℕ) (node : CutNode) → length front ≡ place → insert (front ++ back) place node ≡ front ++ (node ∷ back)
insert_at front back place node sized =
    ap (λ (ns : List CutNode). ns ++ (node ∷ drop place (front ++ back))) (take_at front back place sized)
    ∙ ap (λ (ns : List CutNode). front ++ (node ∷ ns)) (drop_at front back place sized)

pub child_fits : (child : ℕ) → 3 ≤ child → IsTrue (node_fits (Entry child))
child_fits child three = le-leb 3 child three

-- the nodes in another order
same_nodes : (a b : List CutNode) → a ≡ b → AreNodes a → AreNodes b
same_nodes a b e are = subst AreNodes e are

pub set_cut : (nodes : List CutNode) (place : ℕ) (cut : CutNode) → place < length nodes → AreNodes nodes
    → ((d : CutNode) → cut_one (get_or nodes place d) ≡ 1) → cut_one cut ≡ 1 → IsTrue (node_fits cut) → IsNodeTyped cut → AreNodes (slice_set nodes place cut)
set_cut nodes place cut lt are was is fits typed =
    let old : CutNode = get_or nodes place cut in
    let front : List CutNode = take place nodes in
    let rest : List CutNode = drop (suc place) nodes in
    let before : IsTrue (open_places 1 (front ++ (old ∷ rest))) = subst (λ (ns : List CutNode). IsTrue (open_places 1 ns)) (sym (parted nodes place cut lt)) are.filled in
    record {
      filled = subst (λ (ns : List CutNode). IsTrue (open_places 1 ns)) (set_parted nodes place cut lt)
          (behind front (old ∷ rest) (cut ∷ rest) 1 (λ p h. cut_for_cut old cut rest p (was cut) is h) before);
      fit = All-set (λ node. IsTrue (node_fits node)) nodes place cut fits are.fit;
      typed = All-set IsNodeTyped nodes place cut typed are.typed;
    }

-- Of all nodes something holds, where it does of those of a page and of those that are put in.
kept : (P : CutNode → Type 0) (nodes : List CutNode) (place : ℕ) (cut low high : CutNode) → All P nodes → P cut → P low → P high
    → All P (take place nodes ++ (cut ∷ low ∷ high ∷ drop (suc place) nodes))
kept P nodes place cut low high all a b c =
    let rest : List CutNode = drop (suc place) nodes in
    All-append P (take place nodes) (cut ∷ low ∷ high ∷ rest) (All-take P place nodes all)
    (All-cons P cut (low ∷ high ∷ rest) a (All-cons P low (high ∷ rest) b (All-cons P high rest c (All-drop P (suc place) nodes all))))

pub replace_by_cut : (nodes : List CutNode) (place : ℕ) (cut : CutNode) (low high : ℕ) → place < length nodes → AreNodes nodes
    → ((d : CutNode) → cut_one (get_or nodes place d) ≡ 0) → cut_one cut ≡ 1 → IsTrue (node_fits cut) → IsNodeTyped cut
    → 3 ≤ low → 3 ≤ high → low < 2 ^ 64 → high < 2 ^ 64
    → AreNodes (insert (insert (slice_set nodes place (Entry high)) place (Entry low)) place cut)
replace_by_cut nodes place cut low high lt are was is fits typed low_three high_three low_typed high_typed =
    let old : CutNode = get_or nodes place cut in
    let front : List CutNode = take place nodes in
    let rest : List CutNode = drop (suc place) nodes in
    let sized : length front ≡ place = length-take-le place nodes (omega arith) in
    let once : insert (slice_set nodes place (Entry high)) place (Entry low) ≡ front ++ (Entry low ∷ Entry high ∷ rest) =
    ap (λ (ns : List CutNode). insert ns place (Entry low)) (sym (set_parted nodes place (Entry high) lt)) ∙ insert_at front (Entry high ∷ rest) place (Entry low) sized in
    let twice : front ++ (cut ∷ Entry low ∷ Entry high ∷ rest) ≡ insert (insert (slice_set nodes place (Entry high)) place (Entry low)) place cut =
    sym (ap (λ (ns : List CutNode). insert ns place cut) once ∙ insert_at front (Entry low ∷ Entry high ∷ rest) place cut sized) in
    let before : IsTrue (open_places 1 (front ++ (old ∷ rest))) = subst (λ (ns : List CutNode). IsTrue (open_places 1 ns)) (sym (parted nodes place cut lt)) are.filled in
    same_nodes (front ++ (cut ∷ Entry low ∷ Entry high ∷ rest)) (insert (insert (slice_set nodes place (Entry high)) place (Entry low)) place cut) twice record {
      filled = behind front (old ∷ rest) (cut ∷ Entry low ∷ Entry high ∷ rest) 1 (λ p h. cut_for_entry old cut low high rest p (was cut) is h) before;
      fit = kept (λ node. IsTrue (node_fits node)) nodes place cut (Entry low) (Entry high) are.fit fits (child_fits low low_three) (child_fits high high_three);
      typed = kept IsNodeTyped nodes place cut (Entry low) (Entry high) are.typed typed low_typed high_typed;
    }

pub replace_part : (nodes : List CutNode) (place child : ℕ) → place < length nodes → AreNodes nodes → 3 ≤ child → child < 2 ^ 64
    → AreNodes (take place nodes ++ (Entry child ∷ after_parts 1 (drop place nodes)))
replace_part nodes place child lt are three typed =
    let d : CutNode = Entry 0 in
    let old : CutNode = get_or nodes place d in
    let front : List CutNode = take place nodes in
    let rest : List CutNode = drop (suc place) nodes in
    let tail : List CutNode = drop place nodes in
    let at : tail ≡ old ∷ rest = drop-cons nodes place d lt in
    let before : IsTrue (open_places 1 (front ++ tail)) = subst (λ (ns : List CutNode). IsTrue (open_places 1 ns)) (sym (take-append-drop place nodes)) are.filled in
    let step : (p : ℕ) → IsTrue (open_places p tail) → IsTrue (open_places p (Entry child ∷ after_parts 1 tail)) =
    subst (λ (ns : List CutNode). (p : ℕ) → IsTrue (open_places p ns) → IsTrue (open_places p (Entry child ∷ after_parts 1 ns))) (sym at) (λ p h. entry_for_part old child rest p h) in
    record {
      filled = behind front tail (Entry child ∷ after_parts 1 tail) 1 step before;
      fit = All-append (λ node. IsTrue (node_fits node)) front (Entry child ∷ after_parts 1 tail) (All-take (λ node. IsTrue (node_fits node)) place nodes are.fit)
          (All-cons (λ node. IsTrue (node_fits node)) (Entry child) (after_parts 1 tail) (child_fits child three)
          (after_all (λ node. IsTrue (node_fits node)) 1 tail (All-drop (λ node. IsTrue (node_fits node)) place nodes are.fit)));
      typed = All-append IsNodeTyped front (Entry child ∷ after_parts 1 tail) (All-take IsNodeTyped place nodes are.typed)
          (All-cons IsNodeTyped (Entry child) (after_parts 1 tail) typed (after_all IsNodeTyped 1 tail (All-drop IsNodeTyped place nodes are.typed)));
    }
