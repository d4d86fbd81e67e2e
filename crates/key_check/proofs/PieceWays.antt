-- How a walk goes over the pieces below a piece.
use Rattle.std.proofs.Common.{◌≡◌, ℕ, zero, suc, Bool, true, false, ◌+◌, ◌-◌, ◌%◌, ◌^◌, ◌<◌, ◌≤◌, IsTrue, List, [], ◌∷◌, length, drop, cond, Option, get_or, refl, sym, ◌∙◌, ap, subst, arith}
use Rattle.std.specs.Option.{option_map_or}
use Rattle.std.proofs.lemmas.List.{drop_more}
use Rattle.ports.specs.Pages.{PageMap}
use Rattle.page_layout.specs.declared.mv_node.MvEntry.{MvEntry}
use Rattle.mv_pages.specs.Alive.{child_of, path_child, value_of}
use Rattle.mvsb_tree.specs.Stands.{ends_after}
use Rattle.mvsb_tree.specs.Steps.{entries_on, node_on, total_below}
use Rattle.key_check.specs.Cells.{CellStands, CellsStand, NodeStandsThroughout, cell_total, cells_total, entries_total, next_low}
use Rattle.key_check.specs.Pieces.{PieceStands, StandsThroughout, is_in_piece, piece_total}
use Rattle.key_check.specs.Runs.{IsRun, after_run, life_until, run_end}
use Rattle.key_check.specs.declared.piece.Piece.{Piece}
use Rattle.key_check.proofs.CellWays.{InsideThroughout, cells_come_to, cells_of, child_in_index, index_leads, inside_behind, inside_throughout, led_by_cells, led_total, piece_of_index}
use Rattle.key_check.proofs.Runs.{cells_of_run, run_keys, run_of_cells, run_total}

-- One run of entries after the other.

pub inside_left : (es : List MvEntry) (i : ℕ) (piece : Piece) → InsideThroughout es piece → InsideThroughout (drop i es) piece
inside_left es zero piece inside = inside
inside_left [] (suc i) piece inside = inside
inside_left (e ∷ es) (suc i) piece inside = inside_left es i piece (inside_behind e es piece inside)

-- A run of entries by other names: its life, and the entries behind it.
module _ (level : ℕ) (m : PageMap) (nodes : List ℕ) (piece : Piece) (e : MvEntry) (others : List MvEntry) (end : ℕ) (life : Piece) (rest behind : List MvEntry)
    (end_is : end ≡ run_end e others) (life_is : life ≡ life_until piece e end) (rest_is : rest ≡ behind) (behind_is : behind ≡ after_run e others) where
  named : (F : Piece → List MvEntry → List MvEntry → Type 0) → F (life_until piece e (run_end e others)) (after_run e others) (after_run e others) → F life rest behind
  named F x =
      subst (λ (l : Piece). F l rest behind) (sym life_is) (subst (λ (n : ℕ). F (life_until piece e n) rest behind) (sym end_is)
      (subst (λ (xs : List MvEntry). F (life_until piece e (run_end e others)) xs behind) (sym rest_is) (subst (λ (xs : List MvEntry). F (life_until piece e (run_end e others)) xs xs) (sym behind_is) x)))

  defined : (F : Piece → List MvEntry → List MvEntry → Type 0) → F life rest behind → F (life_until piece e (run_end e others)) (after_run e others) (after_run e others)
  defined F x =
      subst (λ (xs : List MvEntry). F (life_until piece e (run_end e others)) xs xs) behind_is (subst (λ (xs : List MvEntry). F (life_until piece e (run_end e others)) xs behind) rest_is
      (subst (λ (n : ℕ). F (life_until piece e n) rest behind) end_is (subst (λ (l : Piece). F l rest behind) life_is x)))

  named_keys : InsideThroughout (e ∷ others) piece → (v : ℕ) → life.from ≤ v → v < life.to → IsTrue (ends_after (next_low life.high rest v) life.low)
  named_keys inside = named (λ l xs ys. (v : ℕ) → l.from ≤ v → v < l.to → IsTrue (ends_after (next_low l.high xs v) l.low)) (run_keys level m nodes piece e others inside)

  named_split : CellsStand level m nodes piece (e ∷ others) → CellStands level m nodes life rest life.to × CellsStand level m nodes piece behind
  named_split s = named (λ l xs ys. CellStands level m nodes l xs l.to × CellsStand level m nodes piece ys) (run_of_cells level m nodes piece e others s)

  named_join : CellStands level m nodes life rest life.to × CellsStand level m nodes piece behind → CellsStand level m nodes piece (e ∷ others)
  named_join s = cells_of_run level m nodes piece e others (defined (λ l xs ys. CellStands level m nodes l xs l.to × CellsStand level m nodes piece ys) s)

  named_sum : (key v : ℕ) → cells_total level m piece (e ∷ others) key v ≡ cell_total level m life rest life.to key v + cells_total level m piece behind key v
  named_sum key v = named (λ l xs ys. cells_total level m piece (e ∷ others) key v ≡ cell_total level m l xs l.to key v + cells_total level m piece ys key v) (run_total level m nodes piece e others key v)

-- The run that begins at a place of the entries.
module _ (level : ℕ) (m : PageMap) (nodes : List ℕ) (piece : Piece) (es : List MvEntry) (i end after : ℕ) (d : MvEntry) (life : Piece) (rest : List MvEntry)
    (h : i < length es) (run : IsRun es i end after) (life_is : life ≡ life_until piece (get_or es i d) end) (rest_is : rest ≡ drop after es) where
  more : drop i es ≡ get_or es i d ∷ drop (i + 1) es
  more = drop_more es i d h

  is_run : (end ≡ run_end (get_or es i d) (drop (i + 1) es)) × (drop after es ≡ after_run (get_or es i d) (drop (i + 1) es))
  is_run = run (get_or es i d) (drop (i + 1) es) more

  pub life_ends : piece.to ≤ 2 ^ 32 → life.to ≤ 2 ^ 32
  life_ends most = subst (λ (l : Piece). l.to ≤ 2 ^ 32) (sym life_is) (omega (arith, most))

  pub life_keys : StandsThroughout es piece → (v : ℕ) → life.from ≤ v → v < life.to → IsTrue (ends_after (next_low life.high rest v) life.low)
  life_keys stands =
      named_keys level m nodes piece (get_or es i d) (drop (i + 1) es) end life rest (drop after es) is_run.0 life_is rest_is is_run.1
      (subst (λ (xs : List MvEntry). InsideThroughout xs piece) more (inside_left es i piece (inside_throughout es piece stands)))

  pub life_split : CellsStand level m nodes piece (drop i es) → CellStands level m nodes life rest life.to × CellsStand level m nodes piece (drop after es)
  life_split s =
      named_split level m nodes piece (get_or es i d) (drop (i + 1) es) end life rest (drop after es) is_run.0 life_is rest_is is_run.1
      (subst (CellsStand level m nodes piece) more s)

  pub life_join : CellStands level m nodes life rest life.to → CellsStand level m nodes piece (drop after es) → CellsStand level m nodes piece (drop i es)
  life_join one others =
      subst (CellsStand level m nodes piece) (sym more)
      (named_join level m nodes piece (get_or es i d) (drop (i + 1) es) end life rest (drop after es) is_run.0 life_is rest_is is_run.1 (one, others))

  pub life_sum : (key v : ℕ) → cells_total level m piece (drop i es) key v ≡ cell_total level m life rest life.to key v + cells_total level m piece (drop after es) key v
  life_sum key v =
      ap (λ (xs : List MvEntry). cells_total level m piece xs key v) more
      ∙ named_sum level m nodes piece (get_or es i d) (drop (i + 1) es) end life rest (drop after es) is_run.0 life_is rest_is is_run.1 key v

-- The piece as a whole.

pub index_stands : (level : ℕ) (m : PageMap) (nodes : List ℕ) (piece : Piece) (es : List MvEntry) → 2 ≤ level → entries_on m piece.page ≡ es → piece.to ≤ 2 ^ 32 → StandsThroughout es piece
    → NodeStandsThroughout level m nodes piece → CellsStand (level - 1) m nodes piece es → PieceStands level m nodes piece
index_stands zero m nodes piece es h on most stands node cells = absurd (omega arith)
index_stands (suc zero) m nodes piece es h on most stands node cells = absurd (omega arith)
index_stands (suc (suc level)) m nodes piece es h on most stands node cells =
    let one : suc (suc level) - 1 ≡ suc level = omega arith in
    let here : CellsStand (suc level) m nodes piece es = subst (λ (n : ℕ). CellsStand n m nodes piece es) one cells in
    piece_of_index level m nodes piece node
    (led_by_cells (suc level) m nodes piece (entries_on m piece.page) most
    (subst (λ (xs : List MvEntry). InsideThroughout xs piece) (sym on) (inside_throughout es piece stands)) (subst (CellsStand (suc level) m nodes piece) (sym on) here))

pub index_cells : (level : ℕ) (m : PageMap) (nodes : List ℕ) (piece : Piece) (es : List MvEntry) → 2 ≤ level → entries_on m piece.page ≡ es → StandsThroughout es piece
    → PieceStands level m nodes piece → CellsStand (level - 1) m nodes piece es
index_cells zero m nodes piece es h on stands s = absurd (omega arith)
index_cells (suc zero) m nodes piece es h on stands s = absurd (omega arith)
index_cells (suc (suc level)) m nodes piece es h on stands s =
    let one : suc level ≡ suc (suc level) - 1 = omega arith in
    let inside = inside_throughout es piece stands in
    subst (λ (n : ℕ). CellsStand n m nodes piece es) one
    (subst (CellsStand (suc level) m nodes piece) on
    (cells_of (suc level) m nodes piece (entries_on m piece.page) (subst (λ (xs : List MvEntry). InsideThroughout xs piece) (sym on) inside) (index_leads level m nodes piece s)))

cond_sum : (b : Bool) (a c : ℕ) → cond b (a + c) 0 % 2 ^ 128 ≡ (cond b a 0 + cond b c 0) % 2 ^ 128
cond_sum true a c = refl
cond_sum false a c = refl

leaf_level : (m : PageMap) (nodes : List ℕ) (piece : Piece) (level : ℕ) → piece.from < piece.to → NodeStandsThroughout level m nodes piece → (node_on m piece.page).level ≡ level
leaf_level m nodes piece level some s = (s piece.from (omega arith) some).at_level

pub index_sum : (level : ℕ) (m : PageMap) (nodes : List ℕ) (piece : Piece) (es : List MvEntry) → 2 ≤ level → piece.from < piece.to → piece.to ≤ 2 ^ 32 → entries_on m piece.page ≡ es
    → StandsThroughout es piece → NodeStandsThroughout level m nodes piece → (key v : ℕ) → piece_total level m piece v key % 2 ^ 128 ≡ (entries_total piece es key v + cells_total (level - 1) m piece es key v) % 2 ^ 128
index_sum zero m nodes piece es h some most on stands s key v = absurd (omega arith)
index_sum (suc zero) m nodes piece es h some most on stands s key v = absurd (omega arith)
index_sum (suc (suc level)) m nodes piece es h some most on stands s key v =
    let one : suc level ≡ suc (suc level) - 1 = omega arith in
    let child : child_of (node_on m piece.page) key v ≡ path_child es key v =
    child_in_index (node_on m piece.page) level key v (leaf_level m nodes piece (suc (suc level)) some s) ∙ ap (λ (xs : List MvEntry). path_child xs key v) on in
    let total : total_below (suc (suc level)) m piece.page key v ≡ value_of es key v + led_total (suc level) m es key v =
    ap (λ (o : Option ℕ). value_of (entries_on m piece.page) key v + option_map_or (λ child. total_below (suc level) m child key v) o 0) child
    ∙ ap (λ (xs : List MvEntry). value_of xs key v + led_total (suc level) m es key v) on in
    ap (λ (n : ℕ). cond (is_in_piece piece v key) n 0 % 2 ^ 128) total
    ∙ cond_sum (is_in_piece piece v key) (value_of es key v) (led_total (suc level) m es key v)
    ∙ ap (λ (n : ℕ). (entries_total piece es key v + n) % 2 ^ 128) (sym (cells_come_to (suc level) m piece es key v most (inside_throughout es piece stands)))
    ∙ ap (λ (n : ℕ). (entries_total piece es key v + cells_total n m piece es key v) % 2 ^ 128) one
