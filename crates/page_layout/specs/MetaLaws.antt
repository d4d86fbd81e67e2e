-- The meta page that a page of one spells.
use Rattle.std.proofs.Common.{◌≡◌, ℕ, ◌<◌, ◌≤◌, ◌^◌, ◌∷◌, ◌++◌, min, List, length, drop, ap, ◌∙◌, append_assoc, arith}
use Rattle.std.specs.List.{flat_map}
use Rattle.page_layout.specs.declared.meta.Meta.{Meta}
use Rattle.page_layout.specs.Numbers.{spelled, number_in, next_number, next_part, number_at}
use Rattle.page_layout.specs.Entries.{entries_at, entries_at-spelled}
use Rattle.page_layout.specs.TreeValue.{tree_bytes, tree_at, IsTreeTyped, length-tree, tree-back}
use Rattle.page_layout.specs.Meta.{IsMeta, IsTyped, count_bytes, root_bytes, roots_of, meta_page, meta_in}

-- a page as its parts, nested to the right
regroup : (meta : Meta) (pad : List ℕ) → (count_bytes meta ++ root_bytes meta) ++ pad
    ≡ 7 ∷ meta.lives ∷ 0 ∷ 0 ∷ (spelled 4 meta.version ++ (spelled 4 meta.events ++ (spelled 4 meta.rows ++ (spelled 8 meta.allotted ++ (spelled 8 meta.free ++ (spelled 16 meta.mass
    ++ (tree_bytes meta.table ++ (spelled 4 (length meta.roots.items) ++ (flat_map tree_bytes meta.roots.items ++ pad)))))))))
regroup meta pad = simp append_assoc

fields : (meta : Meta) → IsTyped meta → IsMeta meta → (pad : List ℕ) → meta_in ((count_bytes meta ++ root_bytes meta) ++ pad) ≡ meta
fields meta typed is_meta pad =
    let whole : List ℕ = (count_bytes meta ++ root_bytes meta) ++ pad in
    let r8 : List ℕ = flat_map tree_bytes meta.roots.items ++ pad in
    let r7 : List ℕ = spelled 4 (length meta.roots.items) ++ r8 in
    let r6 : List ℕ = tree_bytes meta.table ++ r7 in
    let r5 : List ℕ = spelled 16 meta.mass ++ r6 in
    let r4 : List ℕ = spelled 8 meta.free ++ r5 in
    let r3 : List ℕ = spelled 8 meta.allotted ++ r4 in
    let r2 : List ℕ = spelled 4 meta.rows ++ r3 in
    let r1 : List ℕ = spelled 4 meta.events ++ r2 in
    let few : length meta.roots.items ≤ 96 = is_meta.few in
    let count_fits : length meta.roots.items < 256 ^ 4 = omega arith in
    let d4 : drop 4 whole ≡ spelled 4 meta.version ++ r1 = ap (λ (b : List ℕ). drop 4 b) (regroup meta pad) in
    let d8 : drop 8 whole ≡ r1 = next_number whole meta.version r1 4 4 d4 in
    let d12 : drop 12 whole ≡ r2 = next_number whole meta.events r2 8 4 d8 in
    let d16 : drop 16 whole ≡ r3 = next_number whole meta.rows r3 12 4 d12 in
    let d24 : drop 24 whole ≡ r4 = next_number whole meta.allotted r4 16 8 d16 in
    let d32 : drop 32 whole ≡ r5 = next_number whole meta.free r5 24 8 d24 in
    let d48 : drop 48 whole ≡ r6 = next_number whole meta.mass r6 32 16 d32 in
    let d76 : drop 76 whole ≡ r7 = next_part whole (tree_bytes meta.table) r7 48 28 d48 (length-tree meta.table) in
    let d80 : drop 80 whole ≡ r8 = next_number whole (length meta.roots.items) r8 76 4 d76 in
    let version : number_in 4 (drop 4 whole) ≡ meta.version = number_at whole meta.version r1 4 4 d4 typed.version in
    let events : number_in 4 (drop 8 whole) ≡ meta.events = number_at whole meta.events r2 8 4 d8 typed.events in
    let rows : number_in 4 (drop 12 whole) ≡ meta.rows = number_at whole meta.rows r3 12 4 d12 typed.rows in
    let allotted : number_in 8 (drop 16 whole) ≡ meta.allotted = number_at whole meta.allotted r4 16 8 d16 typed.allotted in
    let free : number_in 8 (drop 24 whole) ≡ meta.free = number_at whole meta.free r5 24 8 d24 typed.free in
    let mass : number_in 16 (drop 32 whole) ≡ meta.mass = number_at whole meta.mass r6 32 16 d32 typed.mass in
    let table : tree_at (drop 48 whole) ≡ meta.table = ap (λ (b : List ℕ). tree_at b) d48 ∙ tree-back meta.table r7 typed.table in
    let count : number_in 4 (drop 76 whole) ≡ length meta.roots.items = number_at whole (length meta.roots.items) r8 76 4 d76 count_fits in
    let least : min (length meta.roots.items) 96 ≡ length meta.roots.items = omega arith in
    let roots : roots_of whole ≡ meta.roots.items =
    ap (λ (n : ℕ). entries_at tree_at 28 (min n 96) (drop 80 whole)) count
    ∙ ap (λ (n : ℕ). entries_at tree_at 28 n (drop 80 whole)) least
    ∙ ap (λ (b : List ℕ). entries_at tree_at 28 (length meta.roots.items) b) d80
    ∙ entries_at-spelled tree_bytes tree_at 28 IsTreeTyped (λ x _. length-tree x) tree-back meta.roots.items pad typed.roots in
    λ i. record { lives = meta.lives; version = version i; events = events i; rows = rows i; allotted = allotted i; free = free i; mass = mass i; table = table i; roots = record { items = roots i } }

pub meta_in-page : (meta : Meta) → IsTyped meta → IsMeta meta → meta_in (meta_page meta) ≡ meta
meta_in-page meta typed is_meta = fields meta typed is_meta _
