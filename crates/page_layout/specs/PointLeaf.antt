-- Pages of points.
use Rattle.std.specs.Prelude.{◌≡◌, ℕ, ◌<◌, ◌≤◌, ◌^◌, ◌++◌, List, length, drop}
use Rattle.std.specs.List.{All}
use Rattle.std.proofs.Common.{ap, ◌∙◌, append_assoc, length-append}
use Rattle.bw_types.specs.declared.point.Point.{Point}
use Rattle.page_layout.specs.Numbers.{spelled, number_in, length-spelled, number_in-spelled, past-spelled, past_part}
use Rattle.page_layout.specs.Three.{three_bytes, three_in, AreThree, length-three, three_in-back}
use Rattle.page_layout.specs.Counted.{counted_page, entries_of, double_of}
use Rattle.page_layout.specs.declared.point_leaf.PointLeaf.{PointLeaf}

-- the 44 bytes of a point
abbrev pub point_bytes : Point → List ℕ
point_bytes p = three_bytes 8 p.keys ++ (spelled 4 p.version ++ spelled 16 p.weight)

-- a point that the first 44 bytes may spell
abbrev pub point_at : List ℕ → Point
point_at bytes = record { keys = three_in 8 bytes; version = number_in 4 (drop 24 bytes); weight = number_in 16 (drop 28 bytes) }

-- There are three keys, and the numbers are those of their types.
abbrev pub IsPointTyped : Point → Type 0
IsPointTyped p = AreThree (2 ^ 64) p.keys × (p.version < 2 ^ 32) × (p.weight < 2 ^ 128)

pub length-point : (p : Point) → length (point_bytes p) ≡ 44
length-point p = simp (length-append, length-spelled)

pub point-back : (p : Point) (rest : List ℕ) → IsPointTyped p → point_at (point_bytes p ++ rest) ≡ p
point-back p rest typed =
    let r2 : List ℕ = spelled 16 p.weight ++ rest in
    let r1 : List ℕ = spelled 4 p.version ++ r2 in
    let whole : point_bytes p ++ rest ≡ three_bytes 8 p.keys ++ r1 = simp append_assoc in
    let sized : length (three_bytes 8 p.keys) ≡ 24 = length-three 8 p.keys in
    let fits1 : p.version < 256 ^ 4 = typed.1 in
    let fits2 : p.weight < 256 ^ 16 = typed.2 in
    let f0 : three_in 8 (point_bytes p ++ rest) ≡ p.keys = ap (λ (b : List ℕ). three_in 8 b) whole ∙ three_in-back 8 p.keys r1 typed.0 in
    let f1 : number_in 4 (drop 24 (point_bytes p ++ rest)) ≡ p.version = ap (λ (b : List ℕ). number_in 4 (drop 24 b)) whole ∙ ap (λ (b : List ℕ). number_in 4 b) (past_part (three_bytes 8 p.keys) r1 24 0 sized) ∙ number_in-spelled 4 p.version r2 fits1 in
    let f2 : number_in 16 (drop 28 (point_bytes p ++ rest)) ≡ p.weight = ap (λ (b : List ℕ). number_in 16 (drop 28 b)) whole ∙ ap (λ (b : List ℕ). number_in 16 b) (past_part (three_bytes 8 p.keys) r1 24 4 sized ∙ past-spelled 4 p.version r2) ∙ number_in-spelled 16 p.weight rest fits2 in
    λ i. record { keys = f0 i; version = f1 i; weight = f2 i }

-- What a page of points is: 1 to 64 points, in any order, and any next page.
pub record IsPointLeaf (leaf : PointLeaf) : Type 0 where
  pub some : 1 ≤ length leaf.points.items
  pub few : length leaf.points.items ≤ 64

-- The numbers are those of their types.
pub record IsTyped (leaf : PointLeaf) : Type 0 where
  pub next : leaf.next < 2 ^ 64
  pub points : All IsPointTyped leaf.points.items

-- the page that the points are spelled by
abbrev pub point_leaf_page : PointLeaf → List ℕ
point_leaf_page leaf = counted_page point_bytes 5 1 0 leaf.next leaf.points.items

-- the points that a page may spell
abbrev pub point_leaf_in : List ℕ → PointLeaf
point_leaf_in page = record { next = double_of page; points = record { items = entries_of point_at 44 64 page } }
