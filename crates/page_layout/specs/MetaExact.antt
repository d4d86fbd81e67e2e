-- When a page is the spelling of the meta page that it may spell.
use Rattle.std.specs.Prelude.{◌≡◌, ℕ, ◌+◌, ◌-◌, ◌*◌, ◌≤◌, List, ◌∷◌, ◌++◌, length, drop, slice_index, refl}
use Rattle.std.specs.List.{flat_map}
use Rattle.std.proofs.Common.{sym, ap, ◌∙◌, append_assoc, length-append, length-drop, arith}
use Rattle.std.proofs.lemmas.List.{drop_at, drop-drop}
use Rattle.page_layout.specs.Numbers.{spelled, number_in, zeros, length-spelled, length-zeros, next_part, next_number, number_at}
use Rattle.page_layout.specs.Bytes.{AreBytes, bytes-drop}
use Rattle.page_layout.specs.Entries.{length-entries}
use Rattle.page_layout.specs.Respelled.{respelled_at, number_in-lt, length-read, each_of}
use Rattle.page_layout.specs.TreeValue.{tree_bytes, tree_at, IsTreeTyped, length-tree}
use Rattle.page_layout.specs.Meta.{IsTyped, count_bytes, root_bytes, root_count, roots_of, meta_in, meta_page}
use Rattle.page_layout.specs.Exact.{IsExact, EachExact, row_exact, exact_row, next_byte, tree_sized, tree-typed}

-- What the page has where it is exact: its kind, two unnamed bytes that are 0, a count that is not too great, a
-- table and roots that are exact, and zeros after them.
pub record IsExactMeta (page : List ℕ) : Type 0 where
  pub kind : slice_index page 0 ≡ 7
  pub third : slice_index page 2 ≡ 0
  pub fourth : slice_index page 3 ≡ 0
  pub few : number_in 4 (drop 76 page) ≡ root_count page
  pub table : IsExact tree_bytes tree_at 28 (drop 48 page)
  pub roots : EachExact tree_bytes tree_at 28 (root_count page) (drop 80 page)
  pub tail : drop (80 + root_count page * 28) page ≡ zeros (length (drop (80 + root_count page * 28) page))

pub meta_in-typed : (page : List ℕ) → AreBytes page → IsTyped (meta_in page)
meta_in-typed page h = record {
  version = number_in-lt 4 (drop 4 page) (bytes-drop 4 page h);
  events = number_in-lt 4 (drop 8 page) (bytes-drop 8 page h);
  rows = number_in-lt 4 (drop 12 page) (bytes-drop 12 page h);
  allotted = number_in-lt 8 (drop 16 page) (bytes-drop 16 page h);
  free = number_in-lt 8 (drop 24 page) (bytes-drop 24 page h);
  mass = number_in-lt 16 (drop 32 page) (bytes-drop 32 page h);
  table = tree-typed (drop 48 page) (bytes-drop 48 page h);
  roots = each_of IsTreeTyped tree_at 28 tree-typed (root_count page) (drop 80 page) (bytes-drop 80 page h);
}

module _ (page : List ℕ) (bytes : AreBytes page) (whole : length page ≡ 4096) where
  abbrev counts : List ℕ
  counts = count_bytes (meta_in page)

  abbrev table : List ℕ
  table = tree_bytes (tree_at (drop 48 page))

  abbrev count : List ℕ
  count = spelled 4 (length (roots_of page))

  abbrev roots : List ℕ
  roots = flat_map tree_bytes (roots_of page)

  length-counts : length counts ≡ 48
  length-counts = simp (length-append, length-spelled)

  length-its_roots : length (roots_of page) ≡ root_count page
  length-its_roots = length-read tree_at 28 (root_count page) (drop 80 page)

  length-row : length roots ≡ root_count page * 28
  length-row =
      length-entries tree_bytes 28 IsTreeTyped (λ x _. length-tree x) (roots_of page) (meta_in-typed page bytes).roots
      ∙ ap (λ (n : ℕ). n * 28) length-its_roots

  length-part : length (counts ++ root_bytes (meta_in page)) ≡ 80 + root_count page * 28
  length-part =
      omega (arith, length-append counts (table ++ (count ++ roots)), length-append table (count ++ roots), length-append count roots, length-counts, length-tree (tree_at (drop 48 page)), length-spelled 4 (length (roots_of page)), length-row)

  within : root_count page * 28 ≤ 4016
  within = omega arith

  -- what stands behind the counts, nested to the right
  nested : (pad : List ℕ) → (counts ++ root_bytes (meta_in page)) ++ pad ≡ counts ++ (table ++ (count ++ (roots ++ pad)))
  nested pad =
      append_assoc counts (table ++ (count ++ roots)) pad
      ∙ ap (λ (b : List ℕ). counts ++ b) (append_assoc table (count ++ roots) pad)
      ∙ ap (λ (b : List ℕ). counts ++ (table ++ b)) (append_assoc count roots pad)

  -- the counts, where the bytes that no field names are right
  counts_there : IsExactMeta page → counts ++ drop 48 page ≡ page
  counts_there h =
      let lives : ℕ = slice_index page 1 in
      let version : List ℕ = spelled 4 (number_in 4 (drop 4 page)) in
      let events : List ℕ = spelled 4 (number_in 4 (drop 8 page)) in
      let rows : List ℕ = spelled 4 (number_in 4 (drop 12 page)) in
      let allotted : List ℕ = spelled 8 (number_in 8 (drop 16 page)) in
      let free : List ℕ = spelled 8 (number_in 8 (drop 24 page)) in
      let mass : List ℕ = spelled 16 (number_in 16 (drop 32 page)) in
      let right : counts ++ drop 48 page ≡ 7 ∷ lives ∷ 0 ∷ 0 ∷ (version ++ (events ++ (rows ++ (allotted ++ (free ++ (mass ++ drop 48 page)))))) = simp append_assoc in
      right
      ∙ ap (λ (b : List ℕ). 7 ∷ lives ∷ 0 ∷ 0 ∷ (version ++ (events ++ (rows ++ (allotted ++ (free ++ b)))))) (respelled_at 32 16 page bytes (omega (arith, whole)))
      ∙ ap (λ (b : List ℕ). 7 ∷ lives ∷ 0 ∷ 0 ∷ (version ++ (events ++ (rows ++ (allotted ++ b))))) (respelled_at 24 8 page bytes (omega (arith, whole)))
      ∙ ap (λ (b : List ℕ). 7 ∷ lives ∷ 0 ∷ 0 ∷ (version ++ (events ++ (rows ++ b)))) (respelled_at 16 8 page bytes (omega (arith, whole)))
      ∙ ap (λ (b : List ℕ). 7 ∷ lives ∷ 0 ∷ 0 ∷ (version ++ (events ++ b))) (respelled_at 12 4 page bytes (omega (arith, whole)))
      ∙ ap (λ (b : List ℕ). 7 ∷ lives ∷ 0 ∷ 0 ∷ (version ++ b)) (respelled_at 8 4 page bytes (omega (arith, whole)))
      ∙ ap (λ (b : List ℕ). 7 ∷ lives ∷ 0 ∷ 0 ∷ b) (respelled_at 4 4 page bytes (omega (arith, whole)))
      ∙ ap (λ (b : List ℕ). 7 ∷ lives ∷ 0 ∷ b) (next_byte 3 0 page h.fourth (omega (arith, whole)))
      ∙ ap (λ (b : List ℕ). 7 ∷ lives ∷ b) (next_byte 2 0 page h.third (omega (arith, whole)))
      ∙ ap (λ (b : List ℕ). 7 ∷ b) (next_byte 1 lives page refl (omega (arith, whole)))
      ∙ next_byte 0 7 page h.kind (omega (arith, whole))

  -- An exact page is the spelling of the meta page that it may spell.
  pub exact_there : IsExactMeta page → page ≡ meta_page (meta_in page)
  exact_there h =
      let k : ℕ = root_count page in
      let tail : zeros (4096 - length (counts ++ root_bytes (meta_in page))) ≡ drop (k * 28) (drop 80 page) =
      ap zeros (omega (arith, length-part, within, length-drop (80 + k * 28) page, whole)) ∙ sym h.tail ∙ sym (drop-drop (k * 28) 80 page) in
      let after76 : count ++ drop 80 page ≡ drop 76 page =
      ap (λ (n : ℕ). spelled 4 n ++ drop 80 page) (length-its_roots ∙ sym h.few) ∙ respelled_at 76 4 page bytes (omega (arith, whole)) in
      let after48 : table ++ drop 76 page ≡ drop 48 page = ap (λ (b : List ℕ). table ++ b) (sym (drop-drop 28 48 page)) ∙ h.table in
      sym (ap (λ (b : List ℕ). (counts ++ root_bytes (meta_in page)) ++ b) tail
      ∙ nested (drop (k * 28) (drop 80 page))
      ∙ ap (λ (b : List ℕ). counts ++ (table ++ (count ++ b))) (row_exact tree_bytes tree_at 28 k (drop 80 page) h.roots)
      ∙ ap (λ (b : List ℕ). counts ++ (table ++ b)) after76
      ∙ ap (λ (b : List ℕ). counts ++ b) after48
      ∙ counts_there h)

  -- And such a spelling is exact.
  pub exact_back : page ≡ meta_page (meta_in page) → IsExactMeta page
  exact_back e =
      let k : ℕ = root_count page in
      let n : ℕ = length (roots_of page) in
      let rest : List ℕ = zeros (4096 - length (counts ++ root_bytes (meta_in page))) in
      let r2 : List ℕ = roots ++ rest in
      let r1 : List ℕ = count ++ r2 in
      let right : page ≡ counts ++ (table ++ r1) = e ∙ nested rest in
      let at48 : drop 48 page ≡ table ++ r1 = ap (λ (b : List ℕ). drop 48 b) right ∙ drop_at counts (table ++ r1) 48 length-counts in
      let at76 : drop 76 page ≡ r1 = next_part page table r1 48 28 at48 (length-tree (tree_at (drop 48 page))) in
      let at80 : drop 80 page ≡ r2 = next_number page n r2 76 4 at76 in
      let row = exact_row tree_bytes tree_at 28 tree_sized k (drop 80 page) rest (bytes-drop 80 page bytes) (sym at80) in
      let is_rest : drop (80 + k * 28) page ≡ rest = sym (drop-drop (k * 28) 80 page) ∙ sym row.1 in
      record {
        kind = ap (λ (b : List ℕ). slice_index b 0) right;
        third = ap (λ (b : List ℕ). slice_index b 2) right;
        fourth = ap (λ (b : List ℕ). slice_index b 3) right;
        few = number_at page n r2 76 4 at76 (omega (arith, length-its_roots)) ∙ length-its_roots;
        table = ap (λ (b : List ℕ). table ++ b) (drop-drop 28 48 page ∙ at76) ∙ sym at48;
        roots = row.0;
        tail = is_rest ∙ ap zeros (sym (length-zeros (4096 - length (counts ++ root_bytes (meta_in page)))) ∙ ap length (sym is_rest));
      }
