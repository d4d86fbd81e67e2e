-- Parts among nodes, and the places that nodes fill.
use Rattle.std.proofs.Common.{◌≡◌, ℕ, zero, suc, ◌+◌, ◌<◌, ◌≤◌, List, [], ◌∷◌, ◌++◌, length, refl, ap, ◌∙◌, subst, append_assoc, arith, IsTrue, All}
use Rattle.std.specs.Prelude.{Some, None}
use Rattle.std.proofs.lemmas.List.{append_cancel_right}
use Rattle.std.proofs.lemmas.List.Elements.{All-tail}
use Rattle.page_layout.specs.CutPage.{cut_one, open_places}
use Rattle.page_layout.specs.declared.cut_page.CutNode.{CutNode}
use Rattle.page_layout.specs.declared.cut_page.CutNode.TheVariants.{Entry, Cut}
use Rattle.cut_parts.specs.Parts.{Part, Leaf, Split}
use Rattle.cut_parts.specs.Spelling.{nodes_of}
use Rattle.cut_parts.specs.Damage.{after_parts}

-- The nodes of a part fill one place, whatever follows.
pub fills_place : (part : Part) (places : ℕ) (rest : List CutNode) → open_places (suc places) (nodes_of part ++ rest) ≡ open_places places rest
fills_place (Leaf page points) places rest = refl
fills_place (Split (Some page) d k l b low_side high_side) places rest = refl
fills_place (Split None d k l b low_side high_side) places rest =
    ap (λ (nodes : List CutNode). open_places (suc (suc places)) nodes) (append_assoc (nodes_of low_side) (nodes_of high_side) rest)
    ∙ fills_place low_side (suc places) (nodes_of high_side ++ rest)
    ∙ fills_place high_side places rest

-- The nodes after a part are those that follow it.
pub after_part : (part : Part) (parts : ℕ) (rest : List CutNode) → after_parts (suc parts) (nodes_of part ++ rest) ≡ after_parts parts rest
after_part (Leaf page points) parts rest = refl
after_part (Split (Some page) d k l b low_side high_side) parts rest = refl
after_part (Split None d k l b low_side high_side) parts rest =
    ap (λ (nodes : List CutNode). after_parts (suc (suc parts)) nodes) (append_assoc (nodes_of low_side) (nodes_of high_side) rest)
    ∙ after_part low_side (suc parts) (nodes_of high_side ++ rest)
    ∙ after_part high_side parts rest

-- the nodes of so many parts
first_parts : ℕ → List CutNode → List CutNode
first_parts zero nodes = []
first_parts (suc parts) [] = []
first_parts (suc parts) (Entry child ∷ nodes) = Entry child ∷ first_parts parts nodes
first_parts (suc parts) (Cut dimension key low border ∷ nodes) = Cut dimension key low border ∷ first_parts (suc (suc parts)) nodes

parts_whole : (parts : ℕ) (nodes : List CutNode) → first_parts parts nodes ++ after_parts parts nodes ≡ nodes
unfolding first_parts
parts_whole zero nodes = refl
parts_whole (suc parts) [] = refl
parts_whole (suc parts) (Entry child ∷ nodes) = ap (λ (ns : List CutNode). Entry child ∷ ns) (parts_whole parts nodes)
parts_whole (suc parts) (Cut dimension key low border ∷ nodes) = ap (λ (ns : List CutNode). Cut dimension key low border ∷ ns) (parts_whole (suc (suc parts)) nodes)

-- Of nodes that fill places the first parts fill as many as they are, and the nodes after them the others.
parts_fill : (parts places total : ℕ) (nodes : List CutNode) → total ≡ parts + places → IsTrue (open_places total nodes)
    → IsTrue (open_places parts (first_parts parts nodes)) × IsTrue (open_places places (after_parts parts nodes))
unfolding first_parts
parts_fill zero places total nodes e h =
    let same : total ≡ places = omega arith in
    (refl, subst (λ (n : ℕ). IsTrue (open_places n nodes)) same h)
parts_fill (suc parts) places zero nodes e h = absurd (omega arith)
parts_fill (suc parts) places (suc total) [] e h = absurd cc
parts_fill (suc parts) places (suc total) (Entry child ∷ nodes) e h = parts_fill parts places total nodes (omega arith) h
parts_fill (suc parts) places (suc total) (Cut dimension key low border ∷ nodes) e h = parts_fill (suc (suc parts)) places (suc (suc total)) nodes (omega arith) h

-- Nodes that are cut behind the first part.
pub first_fills : (places : ℕ) (nodes front : List CutNode) → nodes ≡ front ++ after_parts 1 nodes → IsTrue (open_places (suc places) nodes) → IsTrue (open_places 1 front)
first_fills places nodes front whole h =
    let same : first_parts 1 nodes ≡ front = append_cancel_right (first_parts 1 nodes) front (after_parts 1 nodes) (parts_whole 1 nodes ∙ whole) in
    subst (λ (ns : List CutNode). IsTrue (open_places 1 ns)) same (parts_fill 1 places (suc places) nodes (omega arith) h).0

pub after_fills : (places : ℕ) (nodes : List CutNode) → IsTrue (open_places (suc places) nodes) → IsTrue (open_places places (after_parts 1 nodes))
after_fills places nodes h = (parts_fill 1 places (suc places) nodes (omega arith) h).1

-- What holds of all nodes holds of those after some parts.
pub after_all : (P : CutNode → Type 0) (parts : ℕ) (nodes : List CutNode) → All P nodes → All P (after_parts parts nodes)
after_all P zero nodes all = all
after_all P (suc parts) [] all = all
after_all P (suc parts) (Entry child ∷ nodes) all = after_all P parts nodes (All-tail P (Entry child) nodes all)
after_all P (suc parts) (Cut dimension key low border ∷ nodes) all = after_all P (suc (suc parts)) nodes (All-tail P (Cut dimension key low border) nodes all)

after_fewer : (parts : ℕ) (nodes : List CutNode) → length (after_parts parts nodes) ≤ length nodes
after_fewer zero nodes = omega arith
after_fewer (suc parts) [] = omega arith
after_fewer (suc parts) (Entry child ∷ nodes) = omega (arith, after_fewer parts nodes)
after_fewer (suc parts) (Cut dimension key low border ∷ nodes) = omega (arith, after_fewer (suc (suc parts)) nodes)

-- The first part has a node.
pub after_less : (nodes : List CutNode) → 0 < length nodes → length (after_parts 1 nodes) < length nodes
after_less [] some = absurd (omega arith)
after_less (Entry child ∷ nodes) some = omega arith
after_less (Cut dimension key low border ∷ nodes) some = omega (arith, after_fewer 2 nodes)

-- Nodes behind others are replaced by such as fill the same places.
pub behind : (front a b : List CutNode) (places : ℕ) → ((p : ℕ) → IsTrue (open_places p a) → IsTrue (open_places p b))
    → IsTrue (open_places places (front ++ a)) → IsTrue (open_places places (front ++ b))
behind [] a b places step h = step places h
behind (Entry child ∷ front) a b zero step h = absurd cc
behind (Entry child ∷ front) a b (suc places) step h = behind front a b places step h
behind (Cut dimension key low border ∷ front) a b zero step h = absurd cc
behind (Cut dimension key low border ∷ front) a b (suc places) step h = behind front a b (suc (suc places)) step h

-- a cut in the place of a cut
pub cut_for_cut : (old new : CutNode) (rest : List CutNode) (places : ℕ) → cut_one old ≡ 1 → cut_one new ≡ 1
    → IsTrue (open_places places (old ∷ rest)) → IsTrue (open_places places (new ∷ rest))
cut_for_cut (Entry child) new rest places was is h = absurd (omega arith)
cut_for_cut (Cut d k l b) (Entry child) rest places was is h = absurd (omega arith)
cut_for_cut (Cut d k l b) (Cut e m o c) rest zero was is h = absurd cc
cut_for_cut (Cut d k l b) (Cut e m o c) rest (suc places) was is h = h

-- a cut and two entries in the place of an entry
pub cut_for_entry : (old new : CutNode) (low high : ℕ) (rest : List CutNode) (places : ℕ) → cut_one old ≡ 0 → cut_one new ≡ 1
    → IsTrue (open_places places (old ∷ rest)) → IsTrue (open_places places (new ∷ Entry low ∷ Entry high ∷ rest))
cut_for_entry (Cut d k l b) new low high rest places was is h = absurd (omega arith)
cut_for_entry (Entry child) (Entry other) low high rest places was is h = absurd (omega arith)
cut_for_entry (Entry child) (Cut d k l b) low high rest zero was is h = absurd cc
cut_for_entry (Entry child) (Cut d k l b) low high rest (suc places) was is h = h

-- an entry in the place of a part
pub entry_for_part : (node : CutNode) (child : ℕ) (rest : List CutNode) (places : ℕ)
    → IsTrue (open_places places (node ∷ rest)) → IsTrue (open_places places (Entry child ∷ after_parts 1 (node ∷ rest)))
entry_for_part node child rest zero h = absurd cc
entry_for_part node child rest (suc places) h = after_fills places (node ∷ rest) h
