-- The pieces below a piece.
use Rattle.std.proofs.Common.{◌≡◌, ℕ, zero, Bool, ◌+◌, ◌-◌, ◌%◌, ◌^◌, ◌<◌, ◌≤◌, ◌&&◌, ◌≢◌, ◌⊎◌, ◌++◌, List, [], ◌∷◌, length, take, nat_le, nat_lt, cond, Option, Some, None, get_or, refl, sym, ◌∙◌, ap, subst, arith, inl, inr}
use Rattle.std.specs.List.{sum_by}
use Rattle.std.specs.Option.{option_map_or}
use Rattle.std.proofs.lemmas.Bool.{cases_lt, le-leb, le-ltb, lt-leb}
use Rattle.std.proofs.lemmas.List.{take_all}
use Rattle.std.proofs.lemmas.List.Elements.{All-head, All-nil, All-more}
use Rattle.std.proofs.lemmas.List.Sums.{sum_by_more}
use Rattle.ports.specs.Pages.{PageMap}
use Rattle.page_layout.specs.declared.mv_node.MvEntry.{MvEntry}
use Rattle.key_check.specs.declared.corner.Corner.{Corner}
use Rattle.key_check.specs.Sums.{corner_sum, weight_at}
use Rattle.mv_pages.specs.Alive.{child_of, value_of}
use Rattle.mvsb_tree.specs.Stands.{StandsOnWay, ends_after}
use Rattle.mvsb_tree.specs.Steps.{entries_on, node_on, total_below}
use Rattle.mvsb_tree.specs.Ways.{IsKeyIn}
use Rattle.key_check.specs.Cells.{Adds, CellStands, CellsStand, NodeStandsThroughout, cell_total, cells_total, entries_total, next_low}
use Rattle.key_check.specs.Levels.{AreWhole, IsWhole, Leaves, PiecesStand, Pushes, StandsThere, pieces_total, total_there}
use Rattle.key_check.specs.Pieces.{PieceStands, StandsThroughout, is_in_piece, piece_total}
use Rattle.key_check.specs.declared.leveled.Leveled.{Leveled}
use Rattle.key_check.specs.declared.piece.Piece.{Piece}
use Rattle.key_check.proofs.CellWays.{node_stands}
use Rattle.key_check.proofs.PieceWays.{index_cells, index_stands, index_sum}
use Rattle.key_check.proofs.Pushing.{less, pushes_both, pushes_none, pushes_one, two_parts}

-- One stretch of a life after the other.

module _ (level : ℕ) (m : PageMap) (nodes : List ℕ) (life : Piece) (rest : List MvEntry) where
  no_total : (to : ℕ) → to ≤ life.from → (key v : ℕ) → cell_total level m life rest to key v ≡ 0
  no_total to h key v = elim (cases_lt v life.from) [
    | inl before ↦ ap (λ (b : Bool). cond ((b && nat_lt v to) && (nat_le life.low key && ends_after (next_low life.high rest v) key)) (total_below level m life.page key v) 0) (lt-leb life.from v before)
    | inr after ↦
        ap (λ (b : Bool). cond ((b && nat_lt v to) && (nat_le life.low key && ends_after (next_low life.high rest v) key)) (total_below level m life.page key v) 0) (le-leb life.from v after)
        ∙ ap (λ (b : Bool). cond (b && (nat_le life.low key && ends_after (next_low life.high rest v) key)) (total_below level m life.page key v) 0) (le-ltb v to (omega (arith, after, h)))
  ]

  no_cell : (to : ℕ) → to ≤ life.from → CellStands level m nodes life rest to
  no_cell to h = λ v key f t k. absurd (omega (arith, f, t, h))

  pub no_stretch : (old : List Leveled) → Pushes (CellStands level m nodes life rest life.from) (cell_total level m life rest life.from) m nodes old old
  no_stretch old = pushes_none (CellStands level m nodes life rest life.from) (cell_total level m life rest life.from) m nodes old (no_cell life.from (omega arith)) (no_total life.from (omega arith))

  same_more : (old new a b : ℕ) → new ≡ old + a → a ≡ 0 → b ≡ 0 → new ≡ old + b
  same_more old new a b x y z = omega (arith, x, y, z)

  pub all_stretches : (at to : ℕ) (old new : List Leveled) → (at ≡ life.from) ⊎ (at ≤ to) → to ≤ at → Pushes (CellStands level m nodes life rest at) (cell_total level m life rest at) m nodes old new
      → Pushes (CellStands level m nodes life rest to) (cell_total level m life rest to) m nodes old new
  all_stretches at to old new (inr within) most p = subst (λ (n : ℕ). Pushes (CellStands level m nodes life rest n) (cell_total level m life rest n) m nodes old new) (omega (arith, within, most)) p
  all_stretches at to old new (inl first) most p = record {
    parts = λ s. ((p.parts s).0, no_cell to (omega (arith, first, most)));
    whole = λ s _. p.whole s (no_cell at (omega (arith, first)));
    totals = λ key v. same_more (pieces_total m old key v) (pieces_total m new key v) (cell_total level m life rest at key v) (cell_total level m life rest to key v) (p.totals key v)
        (no_total at (omega (arith, first)) key v) (no_total to (omega (arith, first, most)) key v);
  }

  module _ (at until : ℕ) (high : Option ℕ) (same : (w : ℕ) → at ≤ w → w < until → next_low life.high rest w ≡ high) (begun : life.from ≤ at) (some : at < until) where
    abbrev pub part : Leveled
    part = record { level = level; piece = record { page = life.page; from = at; to = until; low = life.low; high = high; least = life.least } }

    stretch_join : CellStands level m nodes life rest at → StandsThere m nodes part → CellStands level m nodes life rest until
    stretch_join s p v key f t k = elim (cases_lt v at) [
      | inl before ↦ s v key f before k
      | inr after ↦
          let is : next_low life.high rest v ≡ high = same v after t in
          subst (λ (h : Option ℕ). StandsOnWay level m nodes life.page v key life.low h life.least) (sym is)
          (p v key (record { from = after; before = t; inside = subst (λ (h : Option ℕ). IsKeyIn life.low h key) is k }))
    ]

    stretch_split : CellStands level m nodes life rest until → CellStands level m nodes life rest at × StandsThere m nodes part
    stretch_split s = (
      λ v key f t k. s v key f (omega (arith, t, some)) k,
      λ v key p.
          let f = p.from in
          let t = p.before in
          let is : next_low life.high rest v ≡ high = same v f t in
          subst (λ (h : Option ℕ). StandsOnWay level m nodes life.page v key life.low h life.least) is
          (s v key (omega (arith, begun, f)) t (subst (λ (h : Option ℕ). IsKeyIn life.low h key) (sym is) p.inside)),
    )

    part_total : (key v : ℕ) → cond ((nat_le at v && nat_lt v until) && (nat_le life.low key && ends_after (next_low life.high rest v) key)) (total_below level m life.page key v) 0 ≡ total_there m part key v
    part_total key v = elim (cases_lt v at) [
      | inl before ↦
          ap (λ (b : Bool). cond ((b && nat_lt v until) && (nat_le life.low key && ends_after (next_low life.high rest v) key)) (total_below level m life.page key v) 0) (lt-leb at v before)
          ∙ sym (ap (λ (b : Bool). cond ((b && nat_lt v until) && (nat_le life.low key && ends_after high key)) (total_below level m life.page key v) 0) (lt-leb at v before))
      | inr after ↦ elim (cases_lt v until) [
        | inl early ↦ ap (λ (h : Option ℕ). cond ((nat_le at v && nat_lt v until) && (nat_le life.low key && ends_after h key)) (total_below level m life.page key v) 0) (same v after early)
        | inr late ↦
            ap (λ (b : Bool). cond ((b && nat_lt v until) && (nat_le life.low key && ends_after (next_low life.high rest v) key)) (total_below level m life.page key v) 0) (le-leb at v after)
            ∙ ap (λ (b : Bool). cond (b && (nat_le life.low key && ends_after (next_low life.high rest v) key)) (total_below level m life.page key v) 0) (le-ltb v until late)
            ∙ sym (ap (λ (b : Bool). cond ((b && nat_lt v until) && (nat_le life.low key && ends_after high key)) (total_below level m life.page key v) 0) (le-leb at v after)
            ∙ ap (λ (b : Bool). cond (b && (nat_le life.low key && ends_after high key)) (total_below level m life.page key v) 0) (le-ltb v until late))
      ]
    ]

    stretch_sum : (key v : ℕ) → cell_total level m life rest until key v ≡ cell_total level m life rest at key v + total_there m part key v
    stretch_sum key v =
        two_parts life.from at until v (nat_le life.low key && ends_after (next_low life.high rest v) key) (total_below level m life.page key v) begun (omega (arith, some))
        ∙ ap (λ (n : ℕ). cell_total level m life rest at key v + n) (part_total key v)

    pub more_stretch : (old mid new : List Leveled) → Pushes (CellStands level m nodes life rest at) (cell_total level m life rest at) m nodes old mid → new ≡ mid ++ part ∷ []
        → Pushes (CellStands level m nodes life rest until) (cell_total level m life rest until) m nodes old new
    more_stretch old mid new p is =
        pushes_both (CellStands level m nodes life rest at) (StandsThere m nodes part) (CellStands level m nodes life rest until) (cell_total level m life rest at) (total_there m part) (cell_total level m life rest until)
        m nodes old mid new p (pushes_one m nodes mid new part is) stretch_join stretch_split stretch_sum

-- One run of entries after the other: what is there and what is left stand and come to the same.
pub record Goes (level : ℕ) (m : PageMap) (nodes : List ℕ) (piece : Piece) (es left : List MvEntry) (old now : List Leveled) : Type 0 where
  pub parts : PiecesStand m nodes now → CellsStand level m nodes piece left → PiecesStand m nodes old × CellsStand level m nodes piece es
  pub whole : PiecesStand m nodes old → CellsStand level m nodes piece es → PiecesStand m nodes now × CellsStand level m nodes piece left
  pub totals : (key v : ℕ) → pieces_total m now key v + cells_total level m piece left key v ≡ pieces_total m old key v + cells_total level m piece es key v

pub begins : (level : ℕ) (m : PageMap) (nodes : List ℕ) (piece : Piece) (es : List MvEntry) (old : List Leveled) → Goes level m nodes piece es es old old
begins level m nodes piece es old = record { parts = λ s c. (s, c); whole = λ s c. (s, c); totals = λ key v. refl }

next_sum : (now before old whole new one left : ℕ) → now + before ≡ old + whole → before ≡ one + left → new ≡ now + one → new + left ≡ old + whole
next_sum now before old whole new one left a b c = omega (arith, a, b, c)

pub goes_on : (level : ℕ) (m : PageMap) (nodes : List ℕ) (piece : Piece) (es before left : List MvEntry) (old now new : List Leveled) (A : Type 0) (f : ℕ → ℕ → ℕ) → Goes level m nodes piece es before old now
    → (CellsStand level m nodes piece before → A × CellsStand level m nodes piece left) → (A → CellsStand level m nodes piece left → CellsStand level m nodes piece before)
    → ((key v : ℕ) → cells_total level m piece before key v ≡ f key v + cells_total level m piece left key v) → Pushes A f m nodes now new → Goes level m nodes piece es left old new
goes_on level m nodes piece es before left old now new A f g split join sum p = record {
  parts = λ s c. (let x = p.parts s in g.parts x.0 (join x.1 c));
  whole = λ s c.
      let x = g.whole s c in
      let y = split x.1 in
      (p.whole x.0 y.0, y.1);
  totals = λ key v. next_sum (pieces_total m now key v) (cells_total level m piece before key v) (pieces_total m old key v) (cells_total level m piece es key v) (pieces_total m new key v) (f key v)
      (cells_total level m piece left key v) (g.totals key v) (sum key v) (p.totals key v);
}

pub ends : (level : ℕ) (m : PageMap) (nodes : List ℕ) (piece : Piece) (es left : List MvEntry) (old now : List Leveled) → left ≡ [] → Goes level m nodes piece es left old now
    → Pushes (CellsStand level m nodes piece es) (cells_total level m piece es) m nodes old now
ends level m nodes piece es left old now none h =
    let g : Goes level m nodes piece es [] old now = subst (λ (xs : List MvEntry). Goes level m nodes piece es xs old now) none h in
    record {
      parts = λ s. g.parts s tt;
      whole = λ s c. (g.whole s c).0;
      totals = λ key v. (let t = g.totals key v in omega (arith, t));
    }

-- What a walk leaves.

module _ (m : PageMap) (nodes : List ℕ) where
  left_sum : (corner before after more : ℕ) → after ≡ before + more → (corner + after) % 2 ^ 128 ≡ (corner + before + more) % 2 ^ 128
  left_sum corner before after more e = omega arith

  pub leaves_pushed : (A : Type 0) (f : ℕ → ℕ → ℕ) (old new : List Leveled) (corners : List Corner) → Pushes A f m nodes old new → Leaves A f m nodes old new corners corners
  leaves_pushed A f old new corners p = record {
    parts = p.parts;
    whole = p.whole;
    totals = λ key v _ _. left_sum (corner_sum corners key v) (pieces_total m old key v) (pieces_total m new key v) (f key v) (p.totals key v);
  }

  both_left : (c0 c1 c2 p0 p1 p2 f g h : ℕ) → (c1 + p1) % 2 ^ 128 ≡ (c0 + p0 + f) % 2 ^ 128 → (c2 + p2) % 2 ^ 128 ≡ (c1 + p1 + g) % 2 ^ 128 → h ≡ f + g
      → (c2 + p2) % 2 ^ 128 ≡ (c0 + p0 + h) % 2 ^ 128
  both_left c0 c1 c2 p0 p1 p2 f g h a b c = omega arith

  pub leaves_more : (pieces old mid new : List Leveled) (c0 c1 c2 : List Corner) (i : ℕ) (d : Leveled) → i < length pieces
      → Leaves (PiecesStand m nodes (take i pieces)) (pieces_total m (take i pieces)) m nodes old mid c0 c1
      → Leaves (StandsThere m nodes (get_or pieces i d)) (total_there m (get_or pieces i d)) m nodes mid new c1 c2
      → Leaves (PiecesStand m nodes (take (i + 1) pieces)) (pieces_total m (take (i + 1) pieces)) m nodes old new c0 c2
  leaves_more pieces old mid new c0 c1 c2 i d h p q = record {
    parts = λ s.
        let x = q.parts s in
        let y = p.parts x.0 in
        (y.0, All-more (StandsThere m nodes) pieces i d h y.1 x.1);
    whole = λ s all. (let x = less (StandsThere m nodes) pieces i d h all in q.whole (p.whole s x.0) x.1);
    totals = λ key v k w.
        both_left (corner_sum c0 key v) (corner_sum c1 key v) (corner_sum c2 key v) (pieces_total m old key v) (pieces_total m mid key v) (pieces_total m new key v)
        (pieces_total m (take i pieces) key v) (total_there m (get_or pieces i d) key v) (pieces_total m (take (i + 1) pieces) key v) (p.totals key v k w) (q.totals key v k w)
        (sum_by_more (λ l. total_there m l key v) pieces i d h);
  }

  pub leaves_all : (pieces old new : List Leveled) (c0 c1 : List Corner) (i : ℕ) → length pieces ≤ i
      → Leaves (PiecesStand m nodes (take i pieces)) (pieces_total m (take i pieces)) m nodes old new c0 c1 → Leaves (PiecesStand m nodes pieces) (pieces_total m pieces) m nodes old new c0 c1
  leaves_all pieces old new c0 c1 i h p = subst (λ (xs : List Leveled). Leaves (PiecesStand m nodes xs) (pieces_total m xs) m nodes old new c0 c1) (take_all i pieces h) p

  merged_sum : (c0 c1 none below merged pieces : ℕ) → (c1 + below) % 2 ^ 128 ≡ (c0 + none + merged) % 2 ^ 128 → merged ≡ none + pieces → none ≡ 0 → (c1 + below) % 2 ^ 128 ≡ (c0 + none + pieces) % 2 ^ 128
  merged_sum c0 c1 none below merged pieces a b c = omega arith

  pub leaves_merged : (pieces merged below : List Leveled) (c0 c1 : List Corner) → Pushes (PiecesStand m nodes pieces) (pieces_total m pieces) m nodes [] merged
      → Leaves (PiecesStand m nodes merged) (pieces_total m merged) m nodes [] below c0 c1 → Leaves (PiecesStand m nodes pieces) (pieces_total m pieces) m nodes [] below c0 c1
  leaves_merged pieces merged below c0 c1 p q = record {
    parts = λ s. (let x = q.parts s in (x.0, (p.parts x.1).1));
    whole = λ s all. q.whole s (p.whole s all);
    totals = λ key v k w. merged_sum (corner_sum c0 key v) (corner_sum c1 key v) (pieces_total m [] key v) (pieces_total m below key v) (pieces_total m merged key v) (pieces_total m pieces key v) (q.totals key v k w) (p.totals key v) refl;
  }

  -- The piece of a node that stands.
  pub leaves_leaf : (l : Leveled) (es : List MvEntry) (below : List Leveled) (c0 c1 : List Corner) → l.level ≡ 1 → entries_on m l.piece.page ≡ es → NodeStandsThroughout 1 m nodes l.piece
      → Adds (entries_total l.piece es) c0 c1 → Leaves (StandsThere m nodes l) (total_there m l) m nodes below below c0 c1
  leaves_leaf l es below c0 c1 one on node adds = record {
    parts = λ s. (s, subst (λ (n : ℕ). PieceStands n m nodes l.piece) (sym one) (λ v key at. node v at.from at.before));
    whole = λ s _. s;
    totals = λ key v k w. leaf_sum (corner_sum c0 key v) (corner_sum c1 key v) (pieces_total m below key v) (entries_total l.piece es key v) (total_there m l key v) (adds key v k w) (own key v);
  }
    where
      no_child : (key v : ℕ) (o : Option ℕ) → option_map_or (λ child. total_below zero m child key v) o 0 ≡ 0
      no_child key v None = refl
      no_child key v (Some child) = refl

      with_none : (a b : ℕ) → b ≡ 0 → a + b ≡ a
      with_none a b e = omega (arith, e)

      own : (key v : ℕ) → total_there m l key v ≡ entries_total l.piece es key v
      own key v =
          ap (λ (n : ℕ). cond (is_in_piece l.piece v key) (total_below n m l.piece.page key v) 0) one
          ∙ ap (λ (n : ℕ). cond (is_in_piece l.piece v key) n 0)
          (with_none (value_of (entries_on m l.piece.page) key v) _ (no_child key v (child_of (node_on m l.piece.page) key v)) ∙ ap (λ (xs : List MvEntry). value_of xs key v) on)

      leaf_sum : (a c p e t : ℕ) → c ≡ (a + e) % 2 ^ 128 → t ≡ e → (c + p) % 2 ^ 128 ≡ (a + p + t) % 2 ^ 128
      leaf_sum a c p e t x y = omega arith

  index_left : (a c p q e f t : ℕ) → c ≡ (a + e) % 2 ^ 128 → q ≡ p + f → t % 2 ^ 128 ≡ (e + f) % 2 ^ 128 → (c + q) % 2 ^ 128 ≡ (a + p + t) % 2 ^ 128
  index_left a c p q e f t x y z = omega arith

  pub leaves_index : (level : ℕ) (l : Leveled) (es : List MvEntry) (old new : List Leveled) (c0 c1 : List Corner) → l.level ≡ level → 2 ≤ level → IsWhole level l → entries_on m l.piece.page ≡ es
      → StandsThroughout es l.piece → NodeStandsThroughout level m nodes l.piece → Adds (entries_total l.piece es) c0 c1
      → Pushes (CellsStand (level - 1) m nodes l.piece es) (cells_total (level - 1) m l.piece es) m nodes old new → Leaves (StandsThere m nodes l) (total_there m l) m nodes old new c0 c1
  leaves_index level l es old new c0 c1 at h whole on stands node adds p = record {
    parts = λ s.
        let x = p.parts s in
        (x.0, subst (λ (n : ℕ). PieceStands n m nodes l.piece) (sym at) (index_stands level m nodes l.piece es h on whole.most stands node x.1));
    whole = λ s own. p.whole s (index_cells level m nodes l.piece es h on stands (subst (λ (n : ℕ). PieceStands n m nodes l.piece) at own));
    totals = λ key v k w.
        let sum = index_sum level m nodes l.piece es h whole.some whole.most on stands node key v in
        index_left (corner_sum c0 key v) (corner_sum c1 key v) (pieces_total m old key v) (pieces_total m new key v) (entries_total l.piece es key v) (cells_total (level - 1) m l.piece es key v)
        (total_there m l key v) (adds key v k w) (p.totals key v) (ap (λ (n : ℕ). piece_total n m l.piece v key % 2 ^ 128) at ∙ sum);
  }

  pub node_there : (level : ℕ) (l : Leveled) → l.level ≡ level → IsWhole level l → StandsThere m nodes l → NodeStandsThroughout level m nodes l.piece
  node_there level l at whole s = node_stands level m nodes l.piece whole.fits whole.keys (subst (λ (n : ℕ). PieceStands n m nodes l.piece) at s)

  -- At the end.
  pub none_left : (pieces : List Leveled) → AreWhole 0 pieces → PiecesStand m nodes pieces → pieces ≡ []
  none_left [] whole s = refl
  none_left (l ∷ pieces) whole s =
      let w = All-head (IsWhole 0) l pieces whole in
      let z : l.level ≡ 0 = (let b = w.below in omega (arith, b)) in
      let one = All-head (StandsThere m nodes) l pieces s in
      absurd (subst (λ (n : ℕ). PieceStands n m nodes l.piece) z one l.piece.from l.piece.low (record { from = omega arith; before = w.some; inside = record { from = omega arith; before = w.keys; fits = w.fits } }))

  nothing_more : (sum none : ℕ) → none ≡ 0 → sum % 2 ^ 128 ≡ (sum % 2 ^ 128 + none) % 2 ^ 128
  nothing_more sum none e = omega arith

  pub none_add : (pieces : List Leveled) (corners : List Corner) → pieces ≡ [] → Adds (pieces_total m pieces) corners corners
  none_add pieces corners none = subst (λ (xs : List Leveled). Adds (pieces_total m xs) corners corners) (sym none)
      (λ key v _ _. nothing_more (sum_by (weight_at key v) corners) (pieces_total m [] key v) refl)

  pub none_stand : (pieces : List Leveled) → pieces ≡ [] → PiecesStand m nodes pieces
  none_stand pieces none = subst (PiecesStand m nodes) (sym none) (All-nil (StandsThere m nodes))

  below_sum : (c0 c1 c2 none below pieces : ℕ) → c2 ≡ (c1 + below) % 2 ^ 128 → (c1 + below) % 2 ^ 128 ≡ (c0 + none + pieces) % 2 ^ 128 → none ≡ 0 → c2 ≡ (c0 + pieces) % 2 ^ 128
  below_sum c0 c1 c2 none below pieces a b c = omega arith

  pub below_add : (pieces below : List Leveled) (c0 c1 c2 : List Corner) → Leaves (PiecesStand m nodes pieces) (pieces_total m pieces) m nodes [] below c0 c1 → Adds (pieces_total m below) c1 c2
      → Adds (pieces_total m pieces) c0 c2
  below_add pieces below c0 c1 c2 p adds = λ key v k w.
      below_sum (corner_sum c0 key v) (corner_sum c1 key v) (corner_sum c2 key v) (pieces_total m [] key v) (pieces_total m below key v) (pieces_total m pieces key v) (adds key v k w) (p.totals key v k w) refl

  pub below_stand : (pieces below : List Leveled) (c0 c1 : List Corner) → Leaves (PiecesStand m nodes pieces) (pieces_total m pieces) m nodes [] below c0 c1 → PiecesStand m nodes below → PiecesStand m nodes pieces
  below_stand pieces below c0 c1 p s = (p.parts s).1

  pub below_of : (pieces below : List Leveled) (c0 c1 : List Corner) → Leaves (PiecesStand m nodes pieces) (pieces_total m pieces) m nodes [] below c0 c1 → PiecesStand m nodes pieces → PiecesStand m nodes below
  below_of pieces below c0 c1 p s = p.whole (All-nil (StandsThere m nodes)) s

pub lower : (level : ℕ) (l : Leveled) → l.level ≢ level → IsWhole level l → IsWhole (level - 1) l
lower level l other w = (let b = w.below in record { below = omega (arith, b, other); some = w.some; most = w.most; keys = w.keys; fits = w.fits })
