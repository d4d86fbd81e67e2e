-- Where the keys of a piece lead, entry by entry.
use Rattle.std.proofs.Common.{◌≡◌, ℕ, Bool, true, ◌<◌, ◌≤◌, ◌&&◌, ◌⊎◌, IsTrue, List, [], ◌∷◌, nat_le, nat_lt, cond, Option, Some, None, get_or, refl, sym, ◌∙◌, ap, subst, arith, inl, inr}
use Rattle.std.specs.List.{All}
use Rattle.std.proofs.lemmas.Bool.{and_from, and_parts, cases_Bool, cases_lt, le-leb, lt-ltb, le-ltb, leb-true, ltb-true, false≢true}
use Rattle.std.proofs.lemmas.List.Elements.{All-cons, All-nil, All-head, All-tail}
use Rattle.page_layout.specs.declared.mv_node.MvEntry.{MvEntry}
use Rattle.mv_pages.specs.Alive.{child_reached, is_alive, or_later, path_child}
use Rattle.mv_pages.specs.Lows.{alive_lows, ascend, ascend_from, low_above, low_at}
use Rattle.mv_pages.proofs.LivingLows.{lows_cons, lows_skip}
use Rattle.mvsb_tree.specs.Stands.{ends_after, first_of}
use Rattle.mvsb_tree.specs.Ways.{LowsCut}
use Rattle.mvsb_tree.proofs.Cutting.{none_at}
use Rattle.mvsb_tree.proofs.Sound.{ascend_above, first_least}

-- Lows.

-- The lows ascend within the interval.
pub record Inside (lows : List ℕ) (low : ℕ) (high : Option ℕ) : Type 0 where
  pub up : IsTrue (ascend lows)
  pub from : All (λ l. low ≤ l) lows
  pub ends : All (λ l. IsTrue (ends_after high l)) lows

pub inside_cut : (lows : List ℕ) (low : ℕ) (high : Option ℕ) (least : ℕ) → LowsCut lows low high least → Inside lows low high
inside_cut lows low high least c = record { up = c.differ; from = first_least lows low c.differ c.begins; ends = c.ends }

ascend_rest : (last : ℕ) (lows : List ℕ) → IsTrue (ascend_from (Some last) lows) → IsTrue (ascend lows)
ascend_rest last [] up = refl
ascend_rest last (l ∷ lows) up = (and_parts (nat_lt last l) (ascend_from (Some l) lows) up).1

inside_tail : (l : ℕ) (lows : List ℕ) (low : ℕ) (high : Option ℕ) → Inside (l ∷ lows) low high → Inside lows low high
inside_tail l lows low high c = record {
  up = ascend_rest l lows c.up;
  from = All-tail (λ (x : ℕ). low ≤ x) l lows c.from;
  ends = All-tail (λ (x : ℕ). IsTrue (ends_after high x)) l lows c.ends;
}

pub inside_rest : (e : MvEntry) (es : List MvEntry) (v low : ℕ) (high : Option ℕ) → Inside (alive_lows (e ∷ es) v) low high → Inside (alive_lows es v) low high
inside_rest e es v low high c = elim (cases_Bool (is_alive v e)) [
  | inl lives ↦ inside_tail e.low (alive_lows es v) low high (subst (λ (ls : List ℕ). Inside ls low high) (lows_cons v e es lives) c)
  | inr gone ↦ subst (λ (ls : List ℕ). Inside ls low high) (lows_skip v e es gone) c
]

-- The lows of an entry that lives are inside.
pub inside_here : (e : MvEntry) (es : List MvEntry) (v low : ℕ) (high : Option ℕ) → Inside (alive_lows (e ∷ es) v) low high → is_alive v e ≡ true → Inside (e.low ∷ alive_lows es v) low high
inside_here e es v low high c lives = subst (λ (ls : List ℕ). Inside ls low high) (lows_cons v e es lives) c

pub first_over : (lows : List ℕ) (key : ℕ) → IsTrue (ascend lows) → IsTrue (ends_after (first_of lows) key) → All (λ l. key < l) lows
first_over [] key up before = All-nil (λ (l : ℕ). key < l)
first_over (l ∷ lows) key up before =
    let less : key < l = ltb-true key l before in
    let above : All (λ x. l ≤ x) lows = ascend_above l lows up in
    All-cons (λ (x : ℕ). key < x) l lows less (λ k d h. (let le : l ≤ get_or lows k d = above k d h in omega (arith, less, le)))

above_first : (lows : List ℕ) (key : ℕ) → All (λ l. key < l) lows → low_above lows key ≡ first_of lows
above_first [] key all = refl
above_first (l ∷ lows) key all = ap (λ (b : Bool). cond b (Some l) (low_above lows key)) (lt-ltb key l (All-head (λ (x : ℕ). key < x) l lows all))

no_some : {X : Type 0} (a : X) → ◌≡◌ {A = Option X} None (Some a) → ⊥
no_some a e = cc

some_same : {X : Type 0} (a b : X) → ◌≡◌ {A = Option X} (Some a) (Some b) → a ≡ b
some_same a b e = cc

later_none : {X : Type 0} (a b : Option X) → or_later a b ≡ None → (a ≡ None) × (b ≡ None)
later_none a None e = (e, refl)
later_none a (Some x) e = absurd (no_some x (sym e))

at_none : (lows : List ℕ) (key : ℕ) → low_at lows key ≡ None → All (λ l. key < l) lows
at_none [] key e = All-nil (λ (l : ℕ). key < l)
at_none (l ∷ lows) key e =
    let parts = later_none (cond (nat_le l key) (Some l) None) (low_at lows key) e in
    All-cons (λ (x : ℕ). key < x) l lows (elim (cases_lt key l) [
      | inl less ↦ less
      | inr le ↦ absurd (no_some l (sym (sym (ap (λ (b : Bool). cond b (Some l) None) (le-leb l key le)) ∙ parts.0)))
    ]) (at_none lows key parts.1)

-- Children.

pub unreached : (e : MvEntry) (v key : ℕ) → (is_alive v e ≡ true → e.low ≤ key → ⊥) → child_reached key v e ≡ None
unreached e v key never = elim (cases_Bool (nat_le e.low key && is_alive v e)) [
  | inl here ↦
      let parts = and_parts (nat_le e.low key) (is_alive v e) here in
      absurd (never parts.1 (leb-true e.low key parts.0))
  | inr away ↦ ap (λ (b : Bool). cond b (Some e.child) None) away
]

pub reached : (e : MvEntry) (v key : ℕ) → is_alive v e ≡ true → e.low ≤ key → child_reached key v e ≡ Some e.child
reached e v key lives le = ap (λ (b : Bool). cond b (Some e.child) None) (and_from (nat_le e.low key) (is_alive v e) (le-leb e.low key le) lives)

-- No entry reaches the key exactly where all alive lows are above it.
pub over : (es : List MvEntry) (v key : ℕ) → path_child es key v ≡ None → All (λ l. key < l) (alive_lows es v)
over [] v key none = All-nil (λ (l : ℕ). key < l)
over (e ∷ es) v key none =
    let parts = later_none (child_reached key v e) (path_child es key v) none in
    let rest = over es v key parts.1 in
    elim (cases_Bool (is_alive v e)) [
      | inl lives ↦ subst (All (λ (l : ℕ). key < l)) (sym (lows_cons v e es lives)) (All-cons (λ (l : ℕ). key < l) e.low (alive_lows es v) (elim (cases_lt key e.low) [
        | inl less ↦ less
        | inr le ↦ absurd (no_some e.child (sym parts.0 ∙ reached e v key lives le))
      ]) rest)
      | inr gone ↦ subst (All (λ (l : ℕ). key < l)) (sym (lows_skip v e es gone)) rest
    ]

pub under : (es : List MvEntry) (v key : ℕ) → All (λ l. key < l) (alive_lows es v) → path_child es key v ≡ None
under [] v key all = refl
under (e ∷ es) v key all = elim (cases_Bool (is_alive v e)) [
  | inl lives ↦
      let both : All (λ l. key < l) (e.low ∷ alive_lows es v) = subst (All (λ (l : ℕ). key < l)) (lows_cons v e es lives) all in
      let here : key < e.low = All-head (λ (l : ℕ). key < l) e.low (alive_lows es v) both in
      ap (λ (o : Option ℕ). or_later o (path_child es key v)) (unreached e v key (λ _ le. omega (arith, le, here)))
      ∙ ap (λ (o : Option ℕ). or_later None o) (under es v key (All-tail (λ (l : ℕ). key < l) e.low (alive_lows es v) both))
  | inr gone ↦
      ap (λ (o : Option ℕ). or_later o (path_child es key v)) (unreached e v key (λ lives _. false≢true (sym gone ∙ lives)))
      ∙ ap (λ (o : Option ℕ). or_later None o) (under es v key (subst (All (λ (l : ℕ). key < l)) (lows_skip v e es gone) all))
]

some_child : (o : Option ℕ) → o ≡ None → (c : ℕ) → o ≡ Some c → ⊥
some_child o a c b = no_some c (sym a ∙ b)

-- A child has a low.
pub led : (es : List MvEntry) (v key child : ℕ) → path_child es key v ≡ Some child → (low : ℕ) × (low_at (alive_lows es v) key ≡ Some low)
led es v key child e = go (low_at (alive_lows es v) key) refl
  where
    go : (o : Option ℕ) → low_at (alive_lows es v) key ≡ o → (low : ℕ) × (low_at (alive_lows es v) key ≡ Some low)
    go None at = absurd (some_child (path_child es key v) (under es v key (at_none (alive_lows es v) key at)) child e)
    go (Some low) at = (low, at)

-- And a low has a child.
pub leads_to : (es : List MvEntry) (v key low : ℕ) → low_at (alive_lows es v) key ≡ Some low → (child : ℕ) × (path_child es key v ≡ Some child)
leads_to es v key low e = go (path_child es key v) refl
  where
    go : (o : Option ℕ) → path_child es key v ≡ o → (child : ℕ) × (path_child es key v ≡ Some child)
    go None none = absurd (some_child (low_at (alive_lows es v) key) (none_at (alive_lows es v) key (over es v key none)) low e)
    go (Some child) is = (child, is)

-- The entries lead a key to this child, from this low on up to the next.
pub record Leads (es : List MvEntry) (v key child low : ℕ) (next : Option ℕ) : Type 0 where
  pub child_is : path_child es key v ≡ Some child
  pub low_is : low_at (alive_lows es v) key ≡ Some low
  pub next_is : low_above (alive_lows es v) key ≡ next

pub leads_here : (e : MvEntry) (rest : List MvEntry) (v key : ℕ) → is_alive v e ≡ true → e.low ≤ key → All (λ l. key < l) (alive_lows rest v)
    → Leads (e ∷ rest) v key e.child e.low (first_of (alive_lows rest v))
leads_here e rest v key lives le above =
    let cons = lows_cons v e rest lives in
    record {
      child_is = ap (λ (o : Option ℕ). or_later (child_reached key v e) o) (under rest v key above) ∙ reached e v key lives le;
      low_is = ap (λ (ls : List ℕ). low_at ls key) cons ∙ ap (λ (o : Option ℕ). or_later (cond (nat_le e.low key) (Some e.low) None) o) (none_at (alive_lows rest v) key above)
          ∙ ap (λ (b : Bool). cond b (Some e.low) None) (le-leb e.low key le);
      next_is = ap (λ (ls : List ℕ). low_above ls key) cons ∙ ap (λ (b : Bool). cond b (Some e.low) (low_above (alive_lows rest v) key)) (le-ltb key e.low le)
          ∙ above_first (alive_lows rest v) key above;
    }

low_below : (lows : List ℕ) (key low : ℕ) (last : ℕ) → IsTrue (ascend_from (Some last) lows) → low_at lows key ≡ Some low → last ≤ key
low_below lows key low last up at = elim (cases_lt key last) [
  | inl less ↦
      let above : All (λ x. last ≤ x) lows = ascend_above last lows up in
      absurd (some_child (low_at lows key) (none_at lows key (λ k d h. (let le : last ≤ get_or lows k d = above k d h in omega (arith, less, le)))) low at)
  | inr le ↦ le
]

pub leads_later : (e : MvEntry) (rest : List MvEntry) (v key child low : ℕ) (next : Option ℕ) → IsTrue (ascend (alive_lows (e ∷ rest) v)) → Leads rest v key child low next → Leads (e ∷ rest) v key child low next
leads_later e rest v key child low next up l =
    let child_is : path_child (e ∷ rest) key v ≡ Some child = ap (λ (o : Option ℕ). or_later (child_reached key v e) o) l.child_is in
    elim (cases_Bool (is_alive v e)) [
      | inl lives ↦
          let cons = lows_cons v e rest lives in
          let le : e.low ≤ key = low_below (alive_lows rest v) key low e.low (subst (λ (ls : List ℕ). IsTrue (ascend ls)) cons up) l.low_is in
          record {
            child_is = child_is;
            low_is = ap (λ (ls : List ℕ). low_at ls key) cons ∙ ap (λ (o : Option ℕ). or_later (cond (nat_le e.low key) (Some e.low) None) o) l.low_is;
            next_is = ap (λ (ls : List ℕ). low_above ls key) cons ∙ ap (λ (b : Bool). cond b (Some e.low) (low_above (alive_lows rest v) key)) (le-ltb key e.low le) ∙ l.next_is;
          }
      | inr gone ↦
          let skip = lows_skip v e rest gone in
          record { child_is = child_is; low_is = ap (λ (ls : List ℕ). low_at ls key) skip ∙ l.low_is; next_is = ap (λ (ls : List ℕ). low_above ls key) skip ∙ l.next_is }
    ]

-- The first entry leads there.
pub record Here (e : MvEntry) (rest : List MvEntry) (v key child low : ℕ) (next : Option ℕ) : Type 0 where
  pub lives : is_alive v e ≡ true
  pub from : e.low ≤ key
  pub above : All (λ l. key < l) (alive_lows rest v)
  pub child_is : e.child ≡ child
  pub low_is : e.low ≡ low
  pub next_is : first_of (alive_lows rest v) ≡ next

-- It does so, or those behind it.
pub found : (e : MvEntry) (rest : List MvEntry) (v key child low : ℕ) (next : Option ℕ) → IsTrue (ascend (alive_lows (e ∷ rest) v)) → Leads (e ∷ rest) v key child low next
    → Here e rest v key child low next ⊎ Leads rest v key child low next
found e rest v key child low next up l = go (path_child rest key v) refl
  where
    here : is_alive v e ≡ true → e.low ≤ key → All (λ x. key < x) (alive_lows rest v) → Here e rest v key child low next
    here lives le above =
        let k = leads_here e rest v key lives le above in
        record {
          lives = lives;
          from = le;
          above = above;
          child_is = some_same e.child child (sym k.child_is ∙ l.child_is);
          low_is = some_same e.low low (sym k.low_is ∙ l.low_is);
          next_is = sym k.next_is ∙ l.next_is;
        }

    go : (o : Option ℕ) → path_child rest key v ≡ o → Here e rest v key child low next ⊎ Leads rest v key child low next
    go None none =
        let above = over rest v key none in
        elim (cases_Bool (nat_le e.low key && is_alive v e)) [
          | inl r ↦
              let parts = and_parts (nat_le e.low key) (is_alive v e) r in
              inl (here parts.1 (leb-true e.low key parts.0) above)
          | inr away ↦
              let nothing : path_child (e ∷ rest) key v ≡ None = ap (λ (o : Option ℕ). or_later (child_reached key v e) o) none ∙ ap (λ (b : Bool). cond b (Some e.child) None) away in
              absurd (some_child (path_child (e ∷ rest) key v) nothing child l.child_is)
        ]
    go (Some c) is =
        let d = led rest v key c is in
        let first : Leads rest v key c d.0 (low_above (alive_lows rest v) key) = record { child_is = is; low_is = d.1; next_is = refl } in
        let k = leads_later e rest v key c d.0 (low_above (alive_lows rest v) key) up first in
        inr (record {
          child_is = is ∙ sym k.child_is ∙ l.child_is;
          low_is = d.1 ∙ sym k.low_is ∙ l.low_is;
          next_is = sym k.next_is ∙ l.next_is;
        })
