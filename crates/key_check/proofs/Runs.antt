-- The cells of a run of entries are one cell.
use Rattle.std.proofs.Common.{◌≡◌, ℕ, Bool, true, false, ◌+◌, ◌<◌, ◌≤◌, ◌==◌, ◌&&◌, IsTrue, List, [], ◌∷◌, drop, length, get_or, zero, suc, nat_lt, cond, max, min, Option, refl, sym, ◌∙◌, ap, subst, arith, inl, inr}
use Rattle.std.proofs.lemmas.Bool.{and_parts, cases_Bool, cases_lt, eqb-true, ltb-true}
use Rattle.std.proofs.lemmas.List.{drop_more}
use Rattle.ports.specs.Pages.{PageMap}
use Rattle.page_layout.specs.declared.mv_node.MvEntry.{MvEntry}
use Rattle.mv_pages.specs.Alive.{is_alive, or_later}
use Rattle.mv_pages.specs.Lows.{alive_lows}
use Rattle.mv_pages.proofs.LivingLows.{lows_skip}
use Rattle.mvsb_tree.specs.Stands.{StandsOnWay, ends_after, first_of}
use Rattle.mvsb_tree.specs.Steps.{total_below}
use Rattle.mvsb_tree.specs.Ways.{IsKeyIn}
use Rattle.key_check.specs.Cells.{CellStands, CellsStand, cell_total, cells_total, end_of, is_within, next_low}
use Rattle.key_check.specs.Runs.{IsRun, after_run, continues, life_until, run_end}
use Rattle.key_check.specs.declared.piece.Piece.{Piece}
use Rattle.key_check.proofs.Cells.{begins_alive}
use Rattle.key_check.proofs.CellWays.{InsideThroughout, inside_behind, next_after}
use Rattle.key_check.proofs.Rising.{within_parts, within_yes}

-- What it is for an entry to go on in the next one.
record Continued (e f : MvEntry) : Type 0 where
  low : e.low ≡ f.low
  child : e.child ≡ f.child
  begins : e.start < end_of e
  meets : end_of e ≡ f.start
  lasts : f.start < end_of f

continued : (e f : MvEntry) → continues e f ≡ true → Continued e f
continued e f on =
    let all = and_parts (e.low == f.low && e.child == f.child) (nat_lt e.start (end_of e) && (end_of e == f.start && nat_lt f.start (end_of f))) on in
    let same = and_parts (e.low == f.low) (e.child == f.child) all.0 in
    let lives = and_parts (nat_lt e.start (end_of e)) (end_of e == f.start && nat_lt f.start (end_of f)) all.1 in
    let next = and_parts (end_of e == f.start) (nat_lt f.start (end_of f)) lives.1 in
    record {
      low = eqb-true e.low f.low same.0;
      child = eqb-true e.child f.child same.1;
      begins = ltb-true e.start (end_of e) lives.0;
      meets = eqb-true (end_of e) f.start next.0;
      lasts = ltb-true f.start (end_of f) next.1;
    }

-- Lives.

unborn : (f : MvEntry) (v : ℕ) → v < f.start → is_alive v f ≡ false
unborn f v before = elim (cases_Bool (is_alive v f)) [
  | inl lives ↦ absurd (let begun = begins_alive f v lives in omega (arith, before, begun))
  | inr dead ↦ dead
]

before_meets : (v a b : ℕ) → v < a → a ≡ b → v < b
before_meets v a b h e = omega arith

before_lasts : (v a b c : ℕ) → v < a → a ≡ b → b < c → v < c
before_lasts v a b c h e k = omega arith

-- A run ends no earlier than its first entry.
pub run_lasts : (e : MvEntry) (rest : List MvEntry) → end_of e ≤ run_end e rest
run_lasts e [] = omega arith
run_lasts e (f ∷ rest) = elim (cases_Bool (continues e f)) [
  | inl on ↦
      let c = continued e f on in
      subst (λ (b : Bool). end_of e ≤ cond b (run_end f rest) (end_of e)) (sym on) (lasts_on (end_of e) f.start (end_of f) (run_end f rest) c.meets c.lasts (run_lasts f rest))
  | inr off ↦ subst (λ (b : Bool). end_of e ≤ cond b (run_end f rest) (end_of e)) (sym off) (omega arith)
]
  where
    lasts_on : (a b c d : ℕ) → a ≡ b → b < c → c ≤ d → a ≤ d
    lasts_on a b c d p q r = omega arith

-- Before the first entry's end no other entry of the run is alive.
pub alone : (e : MvEntry) (rest : List MvEntry) (v : ℕ) → v < end_of e → alive_lows rest v ≡ alive_lows (after_run e rest) v
alone e [] v h = refl
alone e (f ∷ rest) v h = elim (cases_Bool (continues e f)) [
  | inl on ↦
      let c = continued e f on in
      lows_skip v f rest (unborn f v (before_meets v (end_of e) f.start h c.meets)) ∙ alone f rest v (before_lasts v (end_of e) f.start (end_of f) h c.meets c.lasts)
      ∙ ap (λ (b : Bool). alive_lows (cond b (after_run f rest) (f ∷ rest)) v) (sym on)
  | inr off ↦ ap (λ (b : Bool). alive_lows (cond b (after_run f rest) (f ∷ rest)) v) (sym off)
]

-- The same where the run goes on.
alone_on : (e f : MvEntry) (rest : List MvEntry) (v : ℕ) → Continued e f → v < end_of e → alive_lows (f ∷ rest) v ≡ alive_lows (after_run f rest) v
alone_on e f rest v c h = lows_skip v f rest (unborn f v (before_meets v (end_of e) f.start h c.meets)) ∙ alone f rest v (before_lasts v (end_of e) f.start (end_of f) h c.meets c.lasts)

next_on : (e f : MvEntry) (rest : List MvEntry) (v : ℕ) (high : Option ℕ) → Continued e f → v < end_of e → next_low high (f ∷ rest) v ≡ next_low high (after_run f rest) v
next_on e f rest v high c h = ap (λ (ls : List ℕ). or_later high (first_of ls)) (alone_on e f rest v c h)

-- The two parts of a life.

module _ (pf pt a b c v : ℕ) where
  near_to : max pf a ≤ v → v < b → v < min pt c → v < min pt b
  near_to from less to = omega arith

  far_from : max pf a ≤ v → b ≤ v → max pf b ≤ v
  far_from from le = omega arith

  whole_from : a < b → max pf b ≤ v → max pf a ≤ v
  whole_from ab from = omega arith

  whole_to : b < c → v < min pt b → v < min pt c
  whole_to bc to = omega arith

  is_before : v < min pt b → v < b
  is_before to = omega arith

  is_behind : max pf b ≤ v → b ≤ v
  is_behind from = omega arith

-- Both lives are the whole one.
both_totals : (pf pt a b c low : ℕ) (near far : Option ℕ) (v key x : ℕ) → a < b → b < c → (v < b → near ≡ far)
    → cond (is_within (max pf a) (min pt b) low near v key) x 0 + cond (is_within (max pf b) (min pt c) low far v key) x 0 ≡ cond (is_within (max pf a) (min pt c) low far v key) x 0
both_totals pf pt a b c low near far v key x ab bc same = elim (cases_lt v b) [
  | inl less ↦
      let one : near_in far ≡ whole = same_bool (near_in far) whole (λ is. (let w = within_parts (max pf a) (min pt b) low far v key is in
      within_yes (max pf a) (min pt c) low far v key w.from_v (whole_to pf pt a b c v bc w.to_v) w.low_k w.high_k)) (λ is. (let w = within_parts (max pf a) (min pt c) low far v key is in
      within_yes (max pf a) (min pt b) low far v key w.from_v (near_to pf pt a b c v w.from_v less w.to_v) w.low_k w.high_k)) in
      let none : far_in ≡ false = never far_in (λ is. (let w = within_parts (max pf b) (min pt c) low far v key is in let late = is_behind pf pt a b c v w.from_v in omega (arith, less, late))) in
      ap (λ (h : Option ℕ). cond (near_in h) x 0 + cond far_in x 0) (same less)
      ∙ ap (λ (t : Bool). cond t x 0 + cond far_in x 0) one
      ∙ ap (λ (t : Bool). cond whole x 0 + cond t x 0) none
      ∙ no_more (cond whole x 0)
  | inr le ↦
      let one : far_in ≡ whole = same_bool far_in whole (λ is. (let w = within_parts (max pf b) (min pt c) low far v key is in
      within_yes (max pf a) (min pt c) low far v key (whole_from pf pt a b c v ab w.from_v) w.to_v w.low_k w.high_k)) (λ is. (let w = within_parts (max pf a) (min pt c) low far v key is in
      within_yes (max pf b) (min pt c) low far v key (far_from pf pt a b c v w.from_v le) w.to_v w.low_k w.high_k)) in
      let none : near_in near ≡ false = never (near_in near) (λ is. (let w = within_parts (max pf a) (min pt b) low near v key is in let early = is_before pf pt a b c v w.to_v in omega (arith, le, early))) in
      ap (λ (t : Bool). cond t x 0 + cond far_in x 0) none
      ∙ no_less (cond far_in x 0)
      ∙ ap (λ (t : Bool). cond t x 0) one
]
  where
    near_in : Option ℕ → Bool
    near_in h = is_within (max pf a) (min pt b) low h v key

    far_in : Bool
    far_in = is_within (max pf b) (min pt c) low far v key

    whole : Bool
    whole = is_within (max pf a) (min pt c) low far v key

    same_bool : (p q : Bool) → (p ≡ true → q ≡ true) → (q ≡ true → p ≡ true) → p ≡ q
    same_bool true q f g = sym (f refl)
    same_bool false true f g = g refl
    same_bool false false f g = refl

    never : (p : Bool) → (p ≡ true → ⊥) → p ≡ false
    never true not_so = absurd (not_so refl)
    never false not_so = refl

    no_more : (n : ℕ) → n + 0 ≡ n
    no_more n = omega arith

    no_less : (n : ℕ) → 0 + n ≡ n
    no_less n = omega arith

-- The run as a whole.

module _ (level : ℕ) (m : PageMap) (nodes : List ℕ) (piece : Piece) where
  -- An entry's child stands until this end, with these behind it.
  abbrev pub LifeStands : MvEntry → ℕ → List MvEntry → Type 0
  LifeStands e end rest = CellStands level m nodes (life_until piece e end) rest (life_until piece e end).to

  abbrev pub life_total : MvEntry → ℕ → List MvEntry → ℕ → ℕ → ℕ
  life_total e end rest = cell_total level m (life_until piece e end) rest (life_until piece e end).to

  join_lives : (e f : MvEntry) (rest : List MvEntry) → Continued e f → LifeStands e (end_of e) (f ∷ rest) → LifeStands f (run_end f rest) (after_run f rest) → LifeStands e (run_end f rest) (after_run f rest)
  join_lives e f rest c near far = λ v key from to at. elim (cases_lt v (end_of e)) [
    | inl less ↦
        let same = next_on e f rest v piece.high c less in
        subst (λ (h : Option ℕ). StandsOnWay level m nodes e.child v key e.low h 24) same
        (near v key from (near_to piece.from piece.to e.start (end_of e) (run_end f rest) v from less to) (subst (λ (h : Option ℕ). IsKeyIn e.low h key) (sym same) at))
    | inr le ↦
        let begun : f.start ≤ v = subst (λ (n : ℕ). n ≤ v) c.meets le in
        subst (λ (p : ℕ). StandsOnWay level m nodes p v key e.low (next_low piece.high (after_run f rest) v) 24) (sym c.child)
        (subst (λ (l : ℕ). StandsOnWay level m nodes f.child v key l (next_low piece.high (after_run f rest) v) 24) (sym c.low)
        (far v key (far_from piece.from piece.to e.start f.start (run_end f rest) v from begun) to (subst (λ (l : ℕ). IsKeyIn l (next_low piece.high (after_run f rest) v) key) c.low at)))
  ]

  before_run : (e f : MvEntry) (rest : List MvEntry) → Continued e f → end_of e < run_end f rest
  before_run e f rest c = on (end_of e) f.start (end_of f) (run_end f rest) c.meets c.lasts (run_lasts f rest)
    where
      on : (a b c d : ℕ) → a ≡ b → b < c → c ≤ d → a < d
      on a b c d p q r = omega arith

  near_life : (e f : MvEntry) (rest : List MvEntry) → Continued e f → LifeStands e (run_end f rest) (after_run f rest) → LifeStands e (end_of e) (f ∷ rest)
  near_life e f rest c whole = λ v key from to at.
      let less = is_before piece.from piece.to e.start (end_of e) (run_end f rest) v to in
      let same = next_on e f rest v piece.high c less in
      subst (λ (h : Option ℕ). StandsOnWay level m nodes e.child v key e.low h 24) (sym same)
      (whole v key from (whole_to piece.from piece.to e.start (end_of e) (run_end f rest) v (before_run e f rest c) to) (subst (λ (h : Option ℕ). IsKeyIn e.low h key) same at))

  far_life : (e f : MvEntry) (rest : List MvEntry) → Continued e f → LifeStands e (run_end f rest) (after_run f rest) → LifeStands f (run_end f rest) (after_run f rest)
  far_life e f rest c whole = λ v key from to at.
      subst (λ (p : ℕ). StandsOnWay level m nodes p v key f.low (next_low piece.high (after_run f rest) v) 24) c.child
      (subst (λ (l : ℕ). StandsOnWay level m nodes e.child v key l (next_low piece.high (after_run f rest) v) 24) c.low
      (whole v key (whole_from piece.from piece.to e.start f.start (run_end f rest) v (subst (λ (n : ℕ). e.start < n) c.meets c.begins) from) to
      (subst (λ (l : ℕ). IsKeyIn l (next_low piece.high (after_run f rest) v) key) (sym c.low) at)))

  -- The run and the cells behind it stand exactly where each of its cells does and those behind it.
  abbrev pub RunStands : MvEntry → ℕ → List MvEntry → Type 0
  RunStands e end behind = LifeStands e end behind × CellsStand level m nodes piece behind

  pub run_of_cells : (e : MvEntry) (rest : List MvEntry) → CellsStand level m nodes piece (e ∷ rest) → RunStands e (run_end e rest) (after_run e rest)
  run_of_cells e [] s = s
  run_of_cells e (f ∷ rest) s = elim (cases_Bool (continues e f)) [
    | inl on ↦
        let c = continued e f on in
        let behind = run_of_cells f rest s.1 in
        subst (λ (b : Bool). RunStands e (cond b (run_end f rest) (end_of e)) (cond b (after_run f rest) (f ∷ rest))) (sym on) (join_lives e f rest c s.0 behind.0, behind.1)
    | inr off ↦ subst (λ (b : Bool). RunStands e (cond b (run_end f rest) (end_of e)) (cond b (after_run f rest) (f ∷ rest))) (sym off) s
  ]

  pub cells_of_run : (e : MvEntry) (rest : List MvEntry) → RunStands e (run_end e rest) (after_run e rest) → CellsStand level m nodes piece (e ∷ rest)
  cells_of_run e [] s = s
  cells_of_run e (f ∷ rest) s = elim (cases_Bool (continues e f)) [
    | inl on ↦
        let c = continued e f on in
        let whole = subst (λ (b : Bool). RunStands e (cond b (run_end f rest) (end_of e)) (cond b (after_run f rest) (f ∷ rest))) on s in
        (near_life e f rest c whole.0, cells_of_run f rest (far_life e f rest c whole.0, whole.1))
    | inr off ↦ subst (λ (b : Bool). RunStands e (cond b (run_end f rest) (end_of e)) (cond b (after_run f rest) (f ∷ rest))) off s
  ]

  -- And it comes to what they come to together.
  join_totals : (e f : MvEntry) (rest : List MvEntry) (key v : ℕ) → Continued e f
      → life_total e (end_of e) (f ∷ rest) key v + life_total f (run_end f rest) (after_run f rest) key v ≡ life_total e (run_end f rest) (after_run f rest) key v
  join_totals e f rest key v c =
      let far : Option ℕ = next_low piece.high (after_run f rest) v in
      let near : Option ℕ = next_low piece.high (f ∷ rest) v in
      let here : ℕ = cond (is_within (max piece.from e.start) (min piece.to (end_of e)) e.low near v key) (total_below level m e.child key v) 0 in
      ap (λ (p : ℕ). here + cond (is_within (max piece.from f.start) (min piece.to (run_end f rest)) f.low far v key) (total_below level m p key v) 0) (sym c.child)
      ∙ ap (λ (l : ℕ). here + cond (is_within (max piece.from f.start) (min piece.to (run_end f rest)) l far v key) (total_below level m e.child key v) 0) (sym c.low)
      ∙ ap (λ (n : ℕ). here + cond (is_within (max piece.from n) (min piece.to (run_end f rest)) e.low far v key) (total_below level m e.child key v) 0) (sym c.meets)
      ∙ both_totals piece.from piece.to e.start (end_of e) (run_end f rest) e.low near far v key (total_below level m e.child key v) c.begins (before_run e f rest c) (λ less. next_on e f rest v piece.high c less)

  pub run_total : (e : MvEntry) (rest : List MvEntry) (key v : ℕ)
      → cells_total level m piece (e ∷ rest) key v ≡ life_total e (run_end e rest) (after_run e rest) key v + cells_total level m piece (after_run e rest) key v
  run_total e [] key v = refl
  run_total e (f ∷ rest) key v = elim (cases_Bool (continues e f)) [
    | inl on ↦
        let c = continued e f on in
        regroup (life_total e (end_of e) (f ∷ rest) key v) (life_total f (run_end f rest) (after_run f rest) key v) (cells_total level m piece (after_run f rest) key v)
        (life_total e (run_end f rest) (after_run f rest) key v) (cells_total level m piece (f ∷ rest) key v) (run_total f rest key v) (join_totals e f rest key v c)
        ∙ ap (λ (b : Bool). life_total e (cond b (run_end f rest) (end_of e)) (cond b (after_run f rest) (f ∷ rest)) key v + cells_total level m piece (cond b (after_run f rest) (f ∷ rest)) key v) (sym on)
    | inr off ↦ ap (λ (b : Bool). life_total e (cond b (run_end f rest) (end_of e)) (cond b (after_run f rest) (f ∷ rest)) key v + cells_total level m piece (cond b (after_run f rest) (f ∷ rest)) key v) (sym off)
  ]
    where
      regroup : (one two left whole others : ℕ) → others ≡ two + left → one + two ≡ whole → one + others ≡ whole + left
      regroup one two left whole others p q = omega arith

  -- The keys that lead to a run are some.
  pub run_keys : (e : MvEntry) (rest : List MvEntry) → InsideThroughout (e ∷ rest) piece → (v : ℕ) → max piece.from e.start ≤ v → v < min piece.to (run_end e rest)
      → IsTrue (ends_after (next_low piece.high (after_run e rest) v) e.low)
  run_keys e [] inside v from to = next_after piece e [] v inside from to
  run_keys e (f ∷ rest) inside v from to = elim (cases_Bool (continues e f)) [
    | inl on ↦
        let c = continued e f on in
        let till : v < min piece.to (run_end f rest) = subst (λ (b : Bool). v < min piece.to (cond b (run_end f rest) (end_of e))) on to in
        subst (λ (b : Bool). IsTrue (ends_after (next_low piece.high (cond b (after_run f rest) (f ∷ rest)) v) e.low)) (sym on) (elim (cases_lt v (end_of e)) [
          | inl less ↦
              subst (λ (h : Option ℕ). IsTrue (ends_after h e.low)) (next_on e f rest v piece.high c less)
              (next_after piece e (f ∷ rest) v inside from (near_to piece.from piece.to e.start (end_of e) (run_end f rest) v from less till))
          | inr le ↦
              subst (λ (l : ℕ). IsTrue (ends_after (next_low piece.high (after_run f rest) v) l)) (sym c.low)
              (run_keys f rest (inside_behind e (f ∷ rest) piece inside) v (far_from piece.from piece.to e.start f.start (run_end f rest) v from (subst (λ (n : ℕ). n ≤ v) c.meets le)) till)
        ])
    | inr off ↦
        subst (λ (b : Bool). IsTrue (ends_after (next_low piece.high (cond b (after_run f rest) (f ∷ rest)) v) e.low)) (sym off)
        (next_after piece e (f ∷ rest) v inside from (subst (λ (b : Bool). v < min piece.to (cond b (run_end f rest) (end_of e))) off to))
  ]

-- How a run is found.

-- From here on the run is the same.
abbrev pub SameRun : List MvEntry → ℕ → ℕ → Type 0
SameRun es place last = (e f : MvEntry) (rest left : List MvEntry) → drop place es ≡ e ∷ rest → drop last es ≡ f ∷ left → (run_end e rest ≡ run_end f left) × (after_run e rest ≡ after_run f left)

cons_parts : (e f : MvEntry) (rest left : List MvEntry) → e ∷ rest ≡ f ∷ left → (e ≡ f) × (rest ≡ left)
cons_parts e f rest left is = (cc, cc)

pub same_run : (es : List MvEntry) (place : ℕ) → SameRun es place place
same_run es place e f rest left p q =
    let c = cons_parts e f rest left (sym p ∙ q) in
    (ap (λ (x : MvEntry). run_end x rest) c.0 ∙ ap (λ (xs : List MvEntry). run_end f xs) c.1, ap (λ (x : MvEntry). after_run x rest) c.0 ∙ ap (λ (xs : List MvEntry). after_run f xs) c.1)

pub run_more : (es : List MvEntry) (place last : ℕ) (d : MvEntry) → last + 1 < length es → continues (get_or es last d) (get_or es (last + 1) d) ≡ true → SameRun es place last → SameRun es place (last + 1)
run_more es place last d h on same e f rest left p q =
    let c = cons_parts f (get_or es (last + 1) d) left (drop (last + 1 + 1) es) (sym q ∙ drop_more es (last + 1) d h) in
    let goes : continues (get_or es last d) f ≡ true = subst (λ (x : MvEntry). continues (get_or es last d) x ≡ true) (sym c.0) on in
    let before : drop last es ≡ get_or es last d ∷ (f ∷ left) = drop_more es last d (omega (arith, h)) ∙ ap (λ (xs : List MvEntry). get_or es last d ∷ xs) q in
    let s = same e (get_or es last d) rest (f ∷ left) p before in
    (s.0 ∙ ap (λ (b : Bool). cond b (run_end f left) (end_of (get_or es last d))) goes, s.1 ∙ ap (λ (b : Bool). cond b (after_run f left) (f ∷ left)) goes)

pub run_ends : (es : List MvEntry) (place last : ℕ) (d : MvEntry) → last < length es → (last + 1 < length es → continues (get_or es last d) (get_or es (last + 1) d) ≡ false) → SameRun es place last
    → IsRun es place (end_of (get_or es last d)) (last + 1)
run_ends es place last d h off same e rest p =
    let s = same e (get_or es last d) rest (drop (last + 1) es) p (drop_more es last d h) in
    let ends = last_of (drop (last + 1) es) refl in
    (sym (s.0 ∙ ends.0), sym (s.1 ∙ ends.1))
  where
    some_left : (xs : List MvEntry) (i : ℕ) (f : MvEntry) (left : List MvEntry) → drop i xs ≡ f ∷ left → i < length xs
    some_left [] zero f left q = absurd (let none : ◌≡◌ {A = List MvEntry} [] (f ∷ left) = q in cc)
    some_left [] (suc i) f left q = absurd (let none : ◌≡◌ {A = List MvEntry} [] (f ∷ left) = q in cc)
    some_left (x ∷ xs) zero f left q = omega arith
    some_left (x ∷ xs) (suc i) f left q = (let less = some_left xs i f left q in omega (arith, less))

    last_of : (left : List MvEntry) → drop (last + 1) es ≡ left → (run_end (get_or es last d) left ≡ end_of (get_or es last d)) × (after_run (get_or es last d) left ≡ left)
    last_of [] q = (refl, refl)
    last_of (f ∷ left) q =
        let more : last + 1 < length es = some_left es (last + 1) f left q in
        let c = cons_parts f (get_or es (last + 1) d) left (drop (last + 1 + 1) es) (sym q ∙ drop_more es (last + 1) d more) in
        let stops : continues (get_or es last d) f ≡ false = subst (λ (x : MvEntry). continues (get_or es last d) x ≡ false) (sym c.0) (off more) in
        (ap (λ (b : Bool). cond b (run_end f left) (end_of (get_or es last d))) stops, ap (λ (b : Bool). cond b (after_run f left) (f ∷ left)) stops)
