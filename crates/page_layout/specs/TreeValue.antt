-- Trees as the page that names them spells them.
use Rattle.std.specs.Prelude.{◌≡◌, ℕ, ◌<◌, ◌^◌, ◌++◌, List, ◌∷◌, length, drop, slice_index, Bool, true, false, IsTrue, ◌≤◌, ◌&&◌, ◌==◌, nat_le, if◌then◌else◌}
use Rattle.std.proofs.Common.{inl, inr, sym, refl, ap, ◌∙◌, append_assoc, length-append, arith}
use Rattle.std.proofs.lemmas.Bool.{leb-true}
use Rattle.std.proofs.lemmas.Bool.Decides.{eqb_tells}
use Rattle.std.proofs.lemmas.List.{get_or-append_right}
use Rattle.bw_types.specs.declared.tree.Tree.{Tree}
use Rattle.page_layout.specs.Numbers.{spelled, number_in, length-spelled, past_more, next_number, number_at}

-- the 28 bytes of a tree
abbrev pub tree_bytes : Tree → List ℕ
tree_bytes t = spelled 8 t.root ++ (t.levels ∷ 0 ∷ 0 ∷ 0 ∷ (spelled 4 t.count ++ (spelled 4 t.changes ++ spelled 8 t.last)))

-- a tree that the first 28 bytes may spell
abbrev pub tree_at : List ℕ → Tree
tree_at bytes = record { root = number_in 8 bytes; levels = slice_index bytes 8; count = number_in 4 (drop 12 bytes); changes = number_in 4 (drop 16 bytes); last = number_in 8 (drop 20 bytes) }

-- The numbers are those of their types.
abbrev pub IsTreeTyped : Tree → Type 0
IsTreeTyped t = (t.root < 2 ^ 64) × (t.count < 2 ^ 32) × (t.changes < 2 ^ 32) × (t.last < 2 ^ 64)

-- a tree of no levels is all zeros
abbrev pub is_all_zero : Tree → Bool
is_all_zero t = (t.root == 0 && t.count == 0) && (t.changes == 0 && t.last == 0)

-- a tree of some levels has at most 16, a root that is a page of at least 3, and something in it
abbrev pub has_pages : Tree → Bool
has_pages t = nat_le t.levels 16 && (nat_le 3 t.root && nat_le 1 t.count)

-- the rule of a tree of any kind
abbrev pub tree_fits : Tree → Bool
tree_fits t = if t.levels == 0 then is_all_zero t else has_pages t

-- the rule of a tree of a kind that has no directory of roots: it has no changes and no last page
abbrev pub plain_tree_fits : Tree → Bool
plain_tree_fits t = tree_fits t && (t.changes == 0 && t.last == 0)

pub both_true : (a b : Bool) → IsTrue (a && b) → IsTrue a × IsTrue b
both_true true b h = (refl, h)
both_true false b h = absurd cc

pub few_levels : (t : Tree) → IsTrue (tree_fits t) → t.levels ≤ 16
few_levels t h = elim (eqb_tells t.levels 0) [
  | inl a ↦ let none : t.levels ≡ 0 = a.1 in omega arith
  | inr b ↦ let pages : IsTrue (has_pages t) = ap (λ (test : Bool). if test then is_all_zero t else has_pages t) (sym b.0) ∙ h in
      let levels = both_true (nat_le t.levels 16) (nat_le 3 t.root && nat_le 1 t.count) pages in leb-true t.levels 16 levels.0
]

pub length-tree : (t : Tree) → length (tree_bytes t) ≡ 28
length-tree t = simp (length-append, length-spelled)

pub tree-back : (t : Tree) (rest : List ℕ) → IsTreeTyped t → tree_at (tree_bytes t ++ rest) ≡ t
tree-back t rest typed =
    let whole : List ℕ = tree_bytes t ++ rest in
    let r3 : List ℕ = spelled 8 t.last ++ rest in
    let r2 : List ℕ = spelled 4 t.changes ++ r3 in
    let r1 : List ℕ = spelled 4 t.count ++ r2 in
    let r0 : List ℕ = t.levels ∷ 0 ∷ 0 ∷ 0 ∷ r1 in
    let right : whole ≡ spelled 8 t.root ++ r0 = simp append_assoc in
    let fits0 : t.root < 256 ^ 8 = typed.0 in
    let fits1 : t.count < 256 ^ 4 = typed.1 in
    let fits2 : t.changes < 256 ^ 4 = typed.2 in
    let fits3 : t.last < 256 ^ 8 = typed.3 in
    let d12 : drop 12 whole ≡ r1 = ap (λ (b : List ℕ). drop 12 b) right ∙ past_more 8 4 t.root r0 in
    let d16 : drop 16 whole ≡ r2 = next_number whole t.count r2 12 4 d12 in
    let d20 : drop 20 whole ≡ r3 = next_number whole t.changes r3 16 4 d16 in
    let f0 : number_in 8 whole ≡ t.root = number_at whole t.root r0 0 8 right fits0 in
    let f1 : slice_index whole 8 ≡ t.levels = ap (λ (b : List ℕ). slice_index b 8) right ∙ get_or-append_right (spelled 8 t.root) r0 8 8 0 (length-spelled 8 t.root) (omega arith) in
    let f2 : number_in 4 (drop 12 whole) ≡ t.count = number_at whole t.count r2 12 4 d12 fits1 in
    let f3 : number_in 4 (drop 16 whole) ≡ t.changes = number_at whole t.changes r3 16 4 d16 fits2 in
    let f4 : number_in 8 (drop 20 whole) ≡ t.last = number_at whole t.last rest 20 8 d20 fits3 in
    λ i. record { root = f0 i; levels = f1 i; count = f2 i; changes = f3 i; last = f4 i }
