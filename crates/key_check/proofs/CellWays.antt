-- A piece stands exactly where its node does at each version, and the cells of its entries.
use Rattle.std.proofs.Common.{◌≡◌, ℕ, zero, suc, Bool, true, false, ◌^◌, ◌<◌, ◌≤◌, IsTrue, List, [], ◌∷◌, nat_le, nat_lt, cond, Option, Some, None, refl, sym, ◌∙◌, ap, subst, arith, inl, inr}
use Rattle.std.specs.List.{All}
use Rattle.std.specs.Option.{option_map_or}
use Rattle.std.proofs.lemmas.Bool.{and_parts, cases_Bool, le-leb, lt-ltb, ltb-true, ne_eqb, false≢true}
use Rattle.std.proofs.lemmas.List.Elements.{All-head}
use Rattle.ports.specs.Pages.{PageMap}
use Rattle.page_layout.specs.declared.mv_node.MvEntry.{MvEntry}
use Rattle.page_layout.specs.declared.mv_node.MvNode.{MvNode}
use Rattle.mv_pages.specs.Alive.{child_of, child_reached, is_alive, or_later, path_child}
use Rattle.mv_pages.specs.Lows.{alive_lows, ascend_from, low_above, low_at}
use Rattle.mvsb_tree.specs.Stands.{StandsOnWay, ends_after, first_of, inner_high, inner_low}
use Rattle.mvsb_tree.specs.Steps.{entries_on, node_on, total_below}
use Rattle.mvsb_tree.proofs.Intervals.{ends_down}
use Rattle.key_check.specs.Cells.{CellsStand, NodeStandsThroughout, cell_total, cells_total, is_within, life_in, next_low}
use Rattle.key_check.specs.Pieces.{IsInPiece, PieceStands, StandsThroughout, is_in_piece}
use Rattle.key_check.specs.declared.piece.Piece.{Piece}
use Rattle.key_check.proofs.Cells.{alive_ends, alive_within, begins_alive}
use Rattle.key_check.proofs.Leads.{Here, Inside, Leads, first_over, found, inside_cut, inside_here, inside_rest, leads_here, leads_later, leads_to, over, reached, under, unreached}
use Rattle.key_check.proofs.Rising.{Within, within_parts, within_yes}

-- At each of the piece's versions the entries' lows ascend within its interval.
abbrev pub InsideThroughout : List MvEntry → Piece → Type 0
InsideThroughout es piece = (v : ℕ) → piece.from ≤ v → v < piece.to → Inside (alive_lows es v) piece.low piece.high

pub inside_throughout : (es : List MvEntry) (piece : Piece) → StandsThroughout es piece → InsideThroughout es piece
inside_throughout es piece stands = λ v from before. inside_cut (alive_lows es v) piece.low piece.high piece.least (stands v from before)

pub inside_behind : (e : MvEntry) (rest : List MvEntry) (piece : Piece) → InsideThroughout (e ∷ rest) piece → InsideThroughout rest piece
inside_behind e rest piece inside = λ v from before. inside_rest e rest v piece.low piece.high (inside v from before)

-- The keys that lead to an entry lie within the interval.
widen : (high : Option ℕ) (lows : List ℕ) (key : ℕ) → All (λ l. IsTrue (ends_after high l)) lows → IsTrue (ends_after (or_later high (first_of lows)) key) → IsTrue (ends_after high key)
widen high [] key ends before = before
widen high (l ∷ lows) key ends before = (let less = ltb-true key l before in ends_down high key l (omega (arith, less)) (All-head (λ (x : ℕ). IsTrue (ends_after high x)) l lows ends))

narrow : (high : Option ℕ) (lows : List ℕ) (key : ℕ) → IsTrue (ends_after (or_later high (first_of lows)) key) → IsTrue (ends_after (first_of lows) key)
narrow high [] key before = refl
narrow high (l ∷ lows) key before = before

join : (high : Option ℕ) (lows : List ℕ) (key : ℕ) → IsTrue (ends_after high key) → All (λ l. key < l) lows → IsTrue (ends_after (or_later high (first_of lows)) key)
join high [] key before above = before
join high (l ∷ lows) key before above = lt-ltb key l (All-head (λ (x : ℕ). key < x) l lows above)

-- What a cell says of a version and a key.
pub record InCell (piece : Piece) (e : MvEntry) (rest : List MvEntry) (v key : ℕ) : Type 0 where
  pub from : piece.from ≤ v
  pub before : v < piece.to
  pub lives : is_alive v e ≡ true
  pub low : piece.low ≤ key
  pub e_low : e.low ≤ key
  pub high : IsTrue (ends_after piece.high key)
  pub above : All (λ l. key < l) (alive_lows rest v)

in_cell : (piece : Piece) (e : MvEntry) (rest : List MvEntry) (v key : ℕ) → InsideThroughout (e ∷ rest) piece → (life_in piece e).from ≤ v → v < (life_in piece e).to
    → e.low ≤ key → IsTrue (ends_after (next_low piece.high rest v) key) → InCell piece e rest v key
in_cell piece e rest v key inside from to low high =
    let f : piece.from ≤ v = omega (arith, from) in
    let t : v < piece.to = omega (arith, to) in
    let lives : is_alive v e ≡ true = alive_within e v (omega (arith, from)) (omega (arith, to)) in
    let all = inside v f t in
    let here : piece.low ≤ e.low = All-head (λ (l : ℕ). piece.low ≤ l) e.low (alive_lows rest v) (inside_here e rest v piece.low piece.high all lives).from in
    let behind = inside_rest e rest v piece.low piece.high all in
    record {
      from = f;
      before = t;
      lives = lives;
      low = omega (arith, here, low);
      e_low = low;
      high = widen piece.high (alive_lows rest v) key behind.ends high;
      above = first_over (alive_lows rest v) key behind.up (narrow piece.high (alive_lows rest v) key high);
    }

-- Whatever child the entries lead a key of the piece to stands.
abbrev pub LedStand : ℕ → PageMap → List ℕ → Piece → List MvEntry → Type 0
LedStand level m nodes piece es = (v key : ℕ) → IsInPiece piece v key → (child low : ℕ) (next : Option ℕ) → Leads es v key child low next
    → StandsOnWay level m nodes child v key low (or_later piece.high next) 24

pub cells_of : (level : ℕ) (m : PageMap) (nodes : List ℕ) (piece : Piece) (es : List MvEntry) → InsideThroughout es piece → LedStand level m nodes piece es → CellsStand level m nodes piece es
cells_of level m nodes piece [] inside led = tt
cells_of level m nodes piece (e ∷ rest) inside led = (
  λ v key from to at.
      let c = in_cell piece e rest v key inside from to at.from at.before in
      led v key (record { from = c.from; before = c.before; inside = record { from = c.low; before = c.high; fits = at.fits } }) e.child e.low (first_of (alive_lows rest v))
      (leads_here e rest v key c.lives c.e_low c.above),
  cells_of level m nodes piece rest (inside_behind e rest piece inside)
      (λ v key at child low next l. led v key at child low next (leads_later e rest v key child low next (inside v at.from at.before).up l)),
)

pub led_by_cells : (level : ℕ) (m : PageMap) (nodes : List ℕ) (piece : Piece) (es : List MvEntry) → piece.to ≤ 2 ^ 32 → InsideThroughout es piece → CellsStand level m nodes piece es → LedStand level m nodes piece es
led_by_cells level m nodes piece [] most inside cells = λ v key at child low next l. absurd (let none : ◌≡◌ {A = Option ℕ} None (Some child) = l.child_is in cc)
led_by_cells level m nodes piece (e ∷ rest) most inside cells = λ v key at child low next l.
    elim (found e rest v key child low next (inside v at.from at.before).up l) [
      | inr behind ↦ led_by_cells level m nodes piece rest most (inside_behind e rest piece inside) cells.1 v key at child low next behind
      | inl h ↦ here v key at child low next h
    ]
  where
    here : (v key : ℕ) → IsInPiece piece v key → (child low : ℕ) (next : Option ℕ) → Here e rest v key child low next → StandsOnWay level m nodes child v key low (or_later piece.high next) 24
    here v key at child low next h =
        let f = at.from in
        let t = at.before in
        let s = begins_alive e v h.lives in
        let z = alive_ends e v (omega (arith, t, most)) h.lives in
        let cell = cells.0 v key (omega (arith, f, s)) (omega (arith, t, z))
        (record { from = h.from; before = join piece.high (alive_lows rest v) key at.inside.before h.above; fits = at.inside.fits }) in
        subst (λ (o : Option ℕ). StandsOnWay level m nodes child v key low (or_later piece.high o) 24) h.next_is
        (subst (λ (l : ℕ). StandsOnWay level m nodes child v key l (next_low piece.high rest v) 24) h.low_is
        (subst (λ (p : ℕ). StandsOnWay level m nodes p v key e.low (next_low piece.high rest v) 24) h.child_is cell))

-- The totals.

-- what the child comes to to which the entries lead
abbrev pub led_total : ℕ → PageMap → List MvEntry → ℕ → ℕ → ℕ
led_total level m es key v = option_map_or (λ child. total_below level m child key v) (path_child es key v) 0

pub cells_come_to : (level : ℕ) (m : PageMap) (piece : Piece) (es : List MvEntry) (key v : ℕ) → piece.to ≤ 2 ^ 32 → InsideThroughout es piece
    → cells_total level m piece es key v ≡ cond (is_in_piece piece v key) (led_total level m es key v) 0
cells_come_to level m piece [] key v most inside = elim (cases_Bool (is_in_piece piece v key)) [
  | inl in_it ↦ ap (λ (b : Bool). cond b 0 0) (sym in_it)
  | inr out ↦ ap (λ (b : Bool). cond b 0 0) (sym out)
]
cells_come_to level m piece (e ∷ rest) key v most inside =
    let life : Piece = life_in piece e in
    let behind = cells_come_to level m piece rest key v most (inside_behind e rest piece inside) in
    elim (cases_Bool (is_within life.from life.to e.low (next_low piece.high rest v) v key)) [
      | inl held ↦
          let w = within_parts life.from life.to e.low (next_low piece.high rest v) v key held in
          let c = in_cell piece e rest v key inside w.from_v w.to_v w.low_k w.high_k in
          let in_it : is_in_piece piece v key ≡ true = within_yes piece.from piece.to piece.low piece.high v key c.from c.before c.low c.high in
          let none : path_child rest key v ≡ None = under rest v key c.above in
          let whole : path_child (e ∷ rest) key v ≡ Some e.child = ap (λ (o : Option ℕ). or_later (child_reached key v e) o) none ∙ reached e v key c.lives c.e_low in
          let one : cell_total level m life rest life.to key v ≡ total_below level m e.child key v = ap (λ (b : Bool). cond b (total_below level m e.child key v) 0) held in
          let zero_behind : cells_total level m piece rest key v ≡ 0 = behind ∙ ap (λ (b : Bool). cond b (led_total level m rest key v) 0) in_it
          ∙ ap (λ (o : Option ℕ). option_map_or (λ child. total_below level m child key v) o 0) none in
          let sum : cells_total level m piece (e ∷ rest) key v ≡ total_below level m e.child key v = omega (arith, one, zero_behind) in
          sum ∙ sym (ap (λ (b : Bool). cond b (led_total level m (e ∷ rest) key v) 0) in_it ∙ ap (λ (o : Option ℕ). option_map_or (λ child. total_below level m child key v) o 0) whole)
      | inr away ↦
          let one : cell_total level m life rest life.to key v ≡ 0 = ap (λ (b : Bool). cond b (total_below level m e.child key v) 0) away in
          let sum : cells_total level m piece (e ∷ rest) key v ≡ cells_total level m piece rest key v = omega (arith, one) in
          sum ∙ behind ∙ elim (cases_Bool (is_in_piece piece v key)) [
            | inr out ↦ ap (λ (b : Bool). cond b (led_total level m rest key v) 0) out ∙ sym (ap (λ (b : Bool). cond b (led_total level m (e ∷ rest) key v) 0) out)
            | inl in_it ↦
                let p = within_parts piece.from piece.to piece.low piece.high v key in_it in
                ap (λ (b : Bool). cond b (led_total level m rest key v) 0) in_it
                ∙ ap (λ (o : Option ℕ). option_map_or (λ child. total_below level m child key v) o 0) (same away p (path_child rest key v) refl)
                ∙ sym (ap (λ (b : Bool). cond b (led_total level m (e ∷ rest) key v) 0) in_it)
          ]
    ]
  where
    same : is_within (life_in piece e).from (life_in piece e).to e.low (next_low piece.high rest v) v key ≡ false → Within piece.from piece.to piece.low piece.high v key
        → (o : Option ℕ) → path_child rest key v ≡ o → path_child rest key v ≡ path_child (e ∷ rest) key v
    same away p (Some c) is = is ∙ sym (ap (λ (o : Option ℕ). or_later (child_reached key v e) o) is)
    same away p None is =
        let f = p.from_v in
        let t = p.to_v in
        is ∙ sym (ap (λ (o : Option ℕ). or_later (child_reached key v e) o) is ∙ unreached e v key (λ lives le.
        let s = begins_alive e v lives in
        let z = alive_ends e v (omega (arith, t, most)) lives in
        false≢true (sym away ∙ within_yes (life_in piece e).from (life_in piece e).to e.low (next_low piece.high rest v) v key (omega (arith, f, s)) (omega (arith, t, z)) le
        (join piece.high (alive_lows rest v) key p.high_k (over rest v key is)))))

-- Nodes.

pub child_in_index : (node : MvNode) (level key v : ℕ) → node.level ≡ suc (suc level) → child_of node key v ≡ path_child node.entries.items key v
child_in_index node level key v at = ap (λ (b : Bool). cond b None (path_child node.entries.items key v)) (ne_eqb node.level 1 (λ one. omega (arith, at, one)))

pub node_stands : (level : ℕ) (m : PageMap) (nodes : List ℕ) (piece : Piece) → piece.low < 2 ^ 64 → IsTrue (ends_after piece.high piece.low) → PieceStands level m nodes piece → NodeStandsThroughout level m nodes piece
node_stands zero m nodes piece small some s = λ v from before. absurd (s v piece.low (record { from = from; before = before; inside = record { from = omega arith; before = some; fits = small } }))
node_stands (suc zero) m nodes piece small some s = λ v from before. s v piece.low (record { from = from; before = before; inside = record { from = omega arith; before = some; fits = small } })
node_stands (suc (suc level)) m nodes piece small some s = λ v from before. (s v piece.low (record { from = from; before = before; inside = record { from = omega arith; before = some; fits = small } })).0

low_found : (lows : List ℕ) (low key : ℕ) → first_of lows ≡ Some low → low ≤ key → (l : ℕ) × (low_at lows key ≡ Some l)
low_found [] low key first le = absurd (let none : ◌≡◌ {A = Option ℕ} None (Some low) = first in cc)
low_found (x ∷ lows) low key first le =
    let is : x ≡ low = cc in
    go (low_at lows key) (le-leb x key (omega (arith, is, le)))
  where
    go : (o : Option ℕ) → nat_le x key ≡ true → (l : ℕ) × (or_later (cond (nat_le x key) (Some x) None) o ≡ Some l)
    go None here = (x, ap (λ (b : Bool). cond b (Some x) None) here)
    go (Some l) here = (l, refl)

pub piece_of_index : (level : ℕ) (m : PageMap) (nodes : List ℕ) (piece : Piece) → NodeStandsThroughout (suc (suc level)) m nodes piece → LedStand (suc level) m nodes piece (entries_on m piece.page)
    → PieceStands (suc (suc level)) m nodes piece
piece_of_index level m nodes piece s led = λ v key at.
    let n = s v at.from at.before in
    let es : List MvEntry = entries_on m piece.page in
    let low = low_found (alive_lows es v) piece.low key n.begins at.inside.from in
    let child = leads_to es v key low.0 low.1 in
    let below = led v key at child.0 low.0 (low_above (alive_lows es v) key) (record { child_is = child.1; low_is = low.1; next_is = refl }) in
    let inner : low.0 ≡ inner_low piece.low (alive_lows es v) key = sym (ap (λ (o : Option ℕ). option_map_or (λ l. l) o piece.low) low.1) in (
      n,
      child.0,
      child_in_index (node_on m piece.page) level key v n.at_level ∙ child.1,
      subst (λ (l : ℕ). StandsOnWay (suc level) m nodes child.0 v key l (inner_high piece.high (alive_lows es v) key) 24) inner below,
    )

pub index_leads : (level : ℕ) (m : PageMap) (nodes : List ℕ) (piece : Piece) → PieceStands (suc (suc level)) m nodes piece → LedStand (suc level) m nodes piece (entries_on m piece.page)
index_leads level m nodes piece s = λ v key at child low next l.
    let p = s v key at in
    let es : List MvEntry = entries_on m piece.page in
    let same : p.1 ≡ child = (let both : Some p.1 ≡ Some child = sym p.2 ∙ child_in_index (node_on m piece.page) level key v p.0.at_level ∙ l.child_is in cc) in
    let inner : inner_low piece.low (alive_lows es v) key ≡ low = ap (λ (o : Option ℕ). option_map_or (λ x. x) o piece.low) l.low_is in
    subst (λ (o : Option ℕ). StandsOnWay (suc level) m nodes child v key low (or_later piece.high o) 24) l.next_is
    (subst (λ (x : ℕ). StandsOnWay (suc level) m nodes child v key x (inner_high piece.high (alive_lows es v) key) 24) inner
    (subst (λ (c : ℕ). StandsOnWay (suc level) m nodes c v key (inner_low piece.low (alive_lows es v) key) (inner_high piece.high (alive_lows es v) key) 24) same p.3))

-- The next low is above the entry's.
pub next_after : (piece : Piece) (e : MvEntry) (rest : List MvEntry) (v : ℕ) → InsideThroughout (e ∷ rest) piece → (life_in piece e).from ≤ v → v < (life_in piece e).to
    → IsTrue (ends_after (next_low piece.high rest v) e.low)
next_after piece e rest v inside from to =
    let lives : is_alive v e ≡ true = alive_within e v (omega (arith, from)) (omega (arith, to)) in
    let here = inside_here e rest v piece.low piece.high (inside v (omega (arith, from)) (omega (arith, to))) lives in
    above_here (alive_lows rest v) here
  where
    above_here : (lows : List ℕ) → Inside (e.low ∷ lows) piece.low piece.high → IsTrue (ends_after (or_later piece.high (first_of lows)) e.low)
    above_here [] here = All-head (λ (l : ℕ). IsTrue (ends_after piece.high l)) e.low [] here.ends
    above_here (l ∷ lows) here = (and_parts (nat_lt e.low l) (ascend_from (Some l) lows) here.up).0
