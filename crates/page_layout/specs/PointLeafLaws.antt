-- The points that a page of points spells.
use Rattle.std.proofs.Common.{◌≡◌, ℕ, ◌-◌, ◌≤◌, ◌++◌, List, length, arith}
use Rattle.std.specs.List.{flat_map}
use Rattle.page_layout.specs.declared.point_leaf.PointLeaf.{PointLeaf}
use Rattle.page_layout.specs.Numbers.{zeros}
use Rattle.page_layout.specs.Counted.{front, entries_of, double_of, entries-counted, double-counted}
use Rattle.page_layout.specs.PointLeaf.{IsPointLeaf, IsTyped, IsPointTyped, point_bytes, point_at, length-point, point-back, point_leaf_page, point_leaf_in}

pub point_leaf_in-page : (leaf : PointLeaf) → IsTyped leaf → IsPointLeaf leaf → point_leaf_in (point_leaf_page leaf) ≡ leaf
point_leaf_in-page leaf typed is_leaf =
    let few : length leaf.points.items ≤ 64 = is_leaf.few in
    let row : List ℕ = flat_map point_bytes leaf.points.items in
    let pad : List ℕ = zeros (4096 - length (front 5 1 (length leaf.points.items) 0 leaf.next ++ row)) in
    let next : double_of (point_leaf_page leaf) ≡ leaf.next = double-counted 5 1 (length leaf.points.items) 0 leaf.next row pad typed.next in
    let points : entries_of point_at 44 64 (point_leaf_page leaf) ≡ leaf.points.items =
    entries-counted point_bytes point_at 44 IsPointTyped (λ x _. length-point x) point-back 5 1 0 leaf.next 64 leaf.points.items few (omega arith) typed.points in
    λ i. record { next = next i; points = record { items = points i } }
