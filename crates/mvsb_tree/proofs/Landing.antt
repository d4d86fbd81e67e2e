-- What is stored of a node takes the node's part, and the chain grows by it.
use Rattle.std.proofs.Common.{◌≡◌, ℕ, zero, suc, ◌+◌, ◌%◌, ◌^◌, ◌<◌, ◌≤◌, ◌==◌, ◌||◌, inl, inr, true, false, Bool, IsTrue, nat_lt, nat_le, List, [], ◌∷◌, ◌++◌, map, Option, Some, None, IsSome, cond, refl, sym, ap, ◌∙◌, subst, arith}
use Rattle.std.specs.List.{All}
use Rattle.std.proofs.lemmas.Bool.{and_left, and_parts, and_right, cases_Bool, eqb-true, eq-eqb, lt-leb, true≢false}
use Rattle.std.proofs.lemmas.List.Elements.{All-cons, All-head, All-nil, All-tail}
use Rattle.std.proofs.lemmas.List.Sums.{sum_by-cons}
use Rattle.ports.specs.Pages.{PageMap, put_page}
use Rattle.ports.specs.Frame.{names_page}
use Rattle.page_layout.specs.MvNode.{IsMvEntryTyped, IsMvNode, IsTyped, mv_node_page}
use Rattle.page_layout.specs.declared.mv_node.MvNode.{MvNode}
use Rattle.page_layout.specs.declared.mv_node.MvEntry.{MvEntry}
use Rattle.mv_pages.specs.Alive.{child_reached, counted, is_alive, or_later, path_child, value_of}
use Rattle.mv_pages.specs.Copies.{AreFresh, IsOneCopy}
use Rattle.mv_pages.specs.Lows.{alive_lows}
use Rattle.mvsb_tree.specs.declared.replaced.Replaced.{Replaced}
use Rattle.mvsb_tree.specs.Grown.{EntriesHold, Grown, NodesHold, PastStays}
use Rattle.mvsb_tree.specs.Stands.{ChainStands}
use Rattle.mvsb_tree.specs.Steps.{chain_from, node_on}
use Rattle.mvsb_tree.specs.Stored.{AreTwoStored, IsFirstStored, IsNext, IsStored, all_start_at, next_node}
use Rattle.mvsb_tree.specs.Ways.{NodeWays, PartsStand}
use Rattle.mvsb_tree.proofs.Chains.{names_first, same_node}
use Rattle.mvsb_tree.proofs.Growing.{grown_next, grown_put, grown_then, named_second, past_then}
use Rattle.mvsb_tree.proofs.Nodes.{node_on-spelled}
use Rattle.mvsb_tree.proofs.Past.{SpellsNode, chain_spells}
use Rattle.mvsb_tree.proofs.Raising.{stored_as_one, stored_as_two, stored_in_place}

-- A chain has as many places as its last page tells, where it has a page.
pub place_is : (places : ℕ) (m : PageMap) (last p : ℕ) → ChainStands places m last → names_page (chain_from places m last) p ≡ true → places ≡ (node_on m last).place
place_is zero m last p s named = absurd (true≢false (sym named))
place_is (suc places) m last p s named = sym s.3

-- Where each entry starts at a version or after it, none is alive before.
early_dead : (version w : ℕ) (e : MvEntry) → w < version → version ≤ e.start → is_alive w e ≡ false
early_dead version w e early from = and_left (nat_le e.start w) (nat_lt w e.end || e.end == 4294967295) (lt-leb e.start w (omega (arith, early, from)))

early_value : (version w key : ℕ) (es : List MvEntry) → w < version → All (λ e. version ≤ e.start) es → value_of es key w ≡ 0
early_value version w key [] early all = refl
early_value version w key (e ∷ es) early all =
    let dead = early_dead version w e early (All-head (λ (e : MvEntry). version ≤ e.start) e es all) in
    let here : counted key w e ≡ 0 = ap (λ (b : Bool). cond b e.value 0) (and_right (nat_le e.low key) (is_alive w e) dead) in
    let rest = early_value version w key es early (All-tail (λ (e : MvEntry). version ≤ e.start) e es all) in
    omega (arith, here, rest, sum_by-cons (λ (x : MvEntry). counted key w x) e es)

early_path : (version w key : ℕ) (es : List MvEntry) → w < version → All (λ e. version ≤ e.start) es → path_child es key w ≡ None
early_path version w key [] early all = refl
early_path version w key (e ∷ es) early all =
    let dead = early_dead version w e early (All-head (λ (e : MvEntry). version ≤ e.start) e es all) in
    let here : child_reached key w e ≡ None = ap (λ (b : Bool). cond b (Some e.child) None) (and_right (nat_le e.low key) (is_alive w e) dead) in
    ap (λ (o : Option ℕ). or_later o (path_child es key w)) here ∙ ap (λ (o : Option ℕ). or_later None o) (early_path version w key es early (All-tail (λ (e : MvEntry). version ≤ e.start) e es all))

early_lows : (version w : ℕ) (es : List MvEntry) → w < version → All (λ e. version ≤ e.start) es → alive_lows es w ≡ []
early_lows version w [] early all = refl
early_lows version w (e ∷ es) early all =
    let dead = early_dead version w e early (All-head (λ (e : MvEntry). version ≤ e.start) e es all) in
    let skip : alive_lows (e ∷ es) w ≡ alive_lows es w = rw dead refl in
    skip ∙ early_lows version w es early (All-tail (λ (e : MvEntry). version ≤ e.start) e es all)

-- Of a node without a past any other such node says the same.
early_same : (version : ℕ) (node other : MvNode) → All (λ e. version ≤ e.start) node.entries.items → All (λ e. version ≤ e.start) other.entries.items
    → other.level ≡ node.level → other.place ≡ node.place → other.before ≡ node.before → PastStays version node other
early_same version node other all others level place before = record {
  level = level;
  place = place;
  before = before;
  values = λ key w h. ap (λ (n : ℕ). n % 2 ^ 128) (early_value version w key other.entries.items h others ∙ sym (early_value version w key node.entries.items h all));
  children = λ key w h. ap (λ (o : Option ℕ). cond (other.level == 1) None o) (early_path version w key other.entries.items h others)
      ∙ ap (λ (l : ℕ). cond (l == 1) None None) level ∙ sym (ap (λ (o : Option ℕ). cond (node.level == 1) None o) (early_path version w key node.entries.items h all));
  lows = λ w h. early_lows version w other.entries.items h others ∙ sym (early_lows version w node.entries.items h all);
}

starts_from : (version : ℕ) (es : List MvEntry) → all_start_at version es ≡ true → All (λ e. version ≤ e.start) es
starts_from version [] all = All-nil (λ (e : MvEntry). version ≤ e.start)
starts_from version (e ∷ es) all =
    let parts = and_parts (e.start == version) (all_start_at version es) all in
    let here = eqb-true e.start version parts.0 in
    All-cons (λ (e : MvEntry). version ≤ e.start) e es (omega (arith, here)) (starts_from version es parts.1)

fresh_from : (level version : ℕ) (es : List MvEntry) → AreFresh level version es → All (λ e. version ≤ e.start) es
fresh_from level version es fresh = λ k d h. (let here = (fresh.starts k d h).0 in omega (arith, here))

-- What is true of each alive low of entries that are all alive is true of each.
alive_tests : (test : ℕ → Bool) (es : List MvEntry) → All (λ l. IsTrue (test l)) (map (λ (e : MvEntry). e.low) es) → All (λ e. IsTrue (test e.low)) es
alive_tests test [] all = All-nil (λ (e : MvEntry). IsTrue (test e.low))
alive_tests test (e ∷ es) all =
    let P : ℕ → Type 0 = λ l. IsTrue (test l) in
    let ls : List ℕ = map (λ (x : MvEntry). x.low) es in
    All-cons (λ (x : MvEntry). IsTrue (test x.low)) e es (All-head P e.low ls all) (alive_tests test es (All-tail P e.low ls all))

pub lows_test : (test : ℕ → Bool) (v : ℕ) (es : List MvEntry) → All (λ e. IsTrue (test e.low)) es → All (λ l. IsTrue (test l)) (alive_lows es v)
lows_test test v [] all = All-nil (λ (l : ℕ). IsTrue (test l))
lows_test test v (e ∷ es) all =
    let rest = lows_test test v es (All-tail (λ (x : MvEntry). IsTrue (test x.low)) e es all) in
    elim (cases_Bool (is_alive v e)) [
      | inl lives ↦
          let cons : alive_lows (e ∷ es) v ≡ e.low ∷ alive_lows es v = rw lives refl in
          subst (All (λ (l : ℕ). IsTrue (test l))) (sym cons) (All-cons (λ (l : ℕ). IsTrue (test l)) e.low (alive_lows es v) (All-head (λ (x : MvEntry). IsTrue (test x.low)) e es all) rest)
      | inr dead ↦
          let skip : alive_lows (e ∷ es) v ≡ alive_lows es v = rw dead refl in
          subst (All (λ (l : ℕ). IsTrue (test l))) (sym skip) rest
    ]

fresh_tests : (test : ℕ → Bool) (level v : ℕ) (es : List MvEntry) → AreFresh level v es → All (λ l. IsTrue (test l)) (alive_lows es v) → All (λ e. IsTrue (test e.low)) es
fresh_tests test level v es fresh all =
    alive_tests test es (subst (λ (xs : List MvEntry). All (λ l. IsTrue (test l)) (map (λ (e : MvEntry). e.low) xs)) (fresh.alive v (omega arith)) all)

all_front : (P : ℕ → Type 0) (xs ys : List ℕ) → All P (xs ++ ys) → All P xs
all_front P [] ys all = All-nil P
all_front P (x ∷ xs) ys all = All-cons P x xs (All-head P x (xs ++ ys) all) (all_front P xs ys (All-tail P x (xs ++ ys) all))

all_rest : (P : ℕ → Type 0) (xs ys : List ℕ) → All P (xs ++ ys) → All P ys
all_rest P [] ys all = all
all_rest P (x ∷ xs) ys all = all_rest P xs ys (All-tail P x (xs ++ ys) all)

-- What a new page holds.
pub next_spells : (a b : PageMap) (last : ℕ) (node : MvNode) (page : ℕ) → IsNext a b last node page → All IsMvEntryTyped node.entries.items
    → SpellsNode b page × (node_on b page ≡ next_node a last node)
next_spells a b last node page next typed =
    let on : node_on b page ≡ next_node a last node = node_on-spelled b page (next_node a last node) (next.typed typed) next.rules next.made in (
      record {
        spelled = next.made ∙ ap (λ (n : MvNode). Some (mv_node_page n)) (sym on);
        rules = subst IsMvNode (sym on) next.rules;
        typed = subst IsTyped (sym on) (next.typed typed);
      },
      on,
    )

missing : (o : Option (List ℕ)) → o ≡ None → IsSome o → ⊥
missing o none some = (let h : IsSome {T = List ℕ} None = subst IsSome none some in cc)

-- A page that was there is no new one.
pub not_new : (a : PageMap) (page p : ℕ) → a page ≡ None → IsSome (a p) → (page == p) ≡ false
not_new a page p none some = elim (cases_Bool (page == p)) [
  | inl same ↦ absurd (missing (a p) (subst (λ (q : ℕ). a q ≡ None) (eqb-true page p same) none) some)
  | inr other ↦ other
]

module _ (a : PageMap) (page : ℕ) (node : MvNode) (v places last : ℕ) (test : ℕ → Bool)
    (s : ChainStands places a last) (h : NodesHold v test a (chain_from places a last)) (listed : names_page (chain_from places a last) page ≡ true)
    (past : PastStays v (node_on a page) node) (holds : EntriesHold v test node) where
  abbrev chain : List ℕ
  chain = chain_from places a last

  abbrev Low : ℕ → Type 0
  Low p = (node_on a p).level < node.level

  level_apart : (p : ℕ) → Low p → (page == p) ≡ false
  level_apart p low = elim (cases_Bool (page == p)) [
    | inl same ↦
        let is = eqb-true page p same in
        let less : (node_on a page).level < node.level = subst Low (sym is) low in
        absurd (omega (arith, less, past.level))
    | inr other ↦ other
  ]

  typed_in_place : (other : MvNode) → other.place ≡ node.place → other.before ≡ node.before → All IsMvEntryTyped other.entries.items → IsTyped other
  typed_in_place other place before typed =
      let on = chain_spells places a last s page listed in
      record {
        place = subst (λ (n : ℕ). n < 2 ^ 32) (sym (place ∙ past.place)) on.typed.place;
        before = subst (λ (n : ℕ). n < 2 ^ 64) (sym (before ∙ past.before)) on.typed.before;
        entries = typed;
      }

  -- The first step of storing: a page that spells a node of some entries, listed in the chain.
  pub record FirstLanded (b : PageMap) (new_last first : ℕ) (first_node : MvNode) : Type 0 where
    pub new_places : ℕ
    pub grown : Grown v test a b places last new_places new_last
    pub named : names_page (chain_from new_places b new_last) first ≡ true
    pub level : (node_on b first).level ≡ first_node.level
    pub entries : (node_on b first).entries ≡ first_node.entries
    pub stays : (p : ℕ) → IsSome (a p) → Low p → b p ≡ a p

  land_put : (b : PageMap) (other : MvNode) → b ≡ put_page a page (mv_node_page other) → IsMvNode other → IsTyped other → PastStays v (node_on a page) other → EntriesHold v test other
      → FirstLanded b last page other
  land_put b other put rules typed other_past other_holds =
      let grown = grown_put v a b last page other typed rules put other_past test places s h listed other_holds in
      let named = named_second grown.new chain (chain_from places b last) page grown.chain listed in
      let here : b page ≡ Some (mv_node_page other) = ap (λ (m : PageMap). m page) put ∙ put_at page in
      let on : node_on b page ≡ other = node_on-spelled b page other typed rules here in
      record {
        new_places = places;
        grown = grown;
        named = named;
        level = ap (λ (n : MvNode). n.level) on;
        entries = ap (λ (n : MvNode). n.entries) on;
        stays = λ p some low. ap (λ (m : PageMap). m p) put ∙ put_beside p (level_apart p low);
      }
    where
      put_at : (q : ℕ) → put_page a q (mv_node_page other) q ≡ Some (mv_node_page other)
      put_at q = let same : (q == q) ≡ true = eq-eqb q q refl in rw same refl

      put_beside : (p : ℕ) → (page == p) ≡ false → put_page a page (mv_node_page other) p ≡ a p
      put_beside p apart = rw apart refl

  land_next : (b : PageMap) (other : MvNode) (first : ℕ) → IsNext a b last other first → All IsMvEntryTyped other.entries.items → EntriesHold v test (next_node a last other)
      → FirstLanded b first first other
  land_next b other first next typed other_holds =
      let grown = grown_next v a b last first (next_node a last other) (next.typed typed) next.rules next.fresh next.made next.others refl refl test places s h (place_is places a last page s listed) other_holds in
      let on = (next_spells a b last other first next typed).1 in
      record {
        new_places = places + 1;
        grown = grown;
        named = subst (λ (n : ℕ). names_page (chain_from n b first) first ≡ true) (let e : suc places ≡ places + 1 = omega arith in e) (names_first first (chain_from places b (node_on b first).before));
        level = ap (λ (n : MvNode). n.level) on;
        entries = ap (λ (n : MvNode). n.entries) on;
        stays = λ p some low. next.others p (not_new a first p next.fresh some);
      }

  module _ (b : PageMap) (new_last low : ℕ) (high : Option ℕ) (least : ℕ) (total : ℕ → ℕ) (some : 1 ≤ node.level) (typed : All IsMvEntryTyped node.entries.items)
      (ways : NodeWays a (chain_from places a last) node v low high least total) where
    -- The chain has grown, and what is stored stands for the node's keys.
    pub record Landed (replaced : Option Replaced) : Type 0 where
      pub new_places : ℕ
      pub grown : Grown v test a b places last new_places new_last
      pub parts : PartsStand node.level b (chain_from new_places b new_last) page v low high least replaced total

    in_place : IsStored a b page node v last new_last None → Landed None
    in_place st =
        let first = land_put b node st.2 st.3 (typed_in_place node refl refl typed) past holds in
        let g = subst (λ (l : ℕ). Grown v test a b places last first.new_places l) (sym st.1) first.grown in
        let same : chain_from first.new_places b new_last ≡ chain_from first.new_places b last = ap (λ (l : ℕ). chain_from first.new_places b l) st.1 in
        let named : names_page (chain_from first.new_places b new_last) page ≡ true = ap (λ (ps : List ℕ). names_page ps page) same ∙ first.named in
        let on : node_on b page ≡ node = is_node first.level first.entries in
        record {
          new_places = first.new_places;
          grown = g;
          parts = stored_in_place a b chain (chain_from first.new_places b new_last) node v low high least total some ways
              (λ p there listed_p low_p. (first.stays p there low_p, named_second g.new chain (chain_from first.new_places b new_last) p g.chain listed_p))
              page named (chain_spells first.new_places b new_last g.stands page named) on;
        }
      where
        here : b page ≡ Some (mv_node_page node)
        here = ap (λ (m : PageMap). m page) st.2 ∙ (let same : (page == page) ≡ true = eq-eqb page page refl in let e : put_page a page (mv_node_page node) page ≡ Some (mv_node_page node) = rw same refl in e)

        is_node : (node_on b page).level ≡ node.level → (node_on b page).entries ≡ node.entries → node_on b page ≡ node
        is_node level entries = node_on-spelled b page node (typed_in_place node refl refl typed) st.3 here

    one_holds : (one : MvNode) → IsOneCopy node v one → EntriesHold v test (next_node a last one)
    one_holds one copy = record {
      past = copy.fresh.changeable.past;
      lows = λ leaf. fresh_tests test node.level v one.entries.items copy.fresh
          (subst (All (λ (l : ℕ). IsTrue (test l))) (sym (copy.lows v (omega arith))) (lows_test test v node.entries.items (holds.lows (sym (ap (λ (n : MvNode). n.level) copy.made) ∙ leaf))));
    }

    as_one : (first : ℕ) → IsStored a b page node v last new_last (Some (record { first = first; second = None })) → Landed (Some (record { first = first; second = None }))
    as_one first st =
        let one : MvNode = st.1.0 in
        let landed = land_next b one first st.1.3 st.1.2 (one_holds one st.1.1) in
        let g = subst (λ (l : ℕ). Grown v test a b places last landed.new_places l) (sym st.1.4) landed.grown in
        let same : chain_from landed.new_places b new_last ≡ chain_from landed.new_places b first = ap (λ (l : ℕ). chain_from landed.new_places b l) st.1.4 in
        let named : names_page (chain_from landed.new_places b new_last) first ≡ true = ap (λ (ps : List ℕ). names_page ps first) same ∙ landed.named in
        record {
          new_places = landed.new_places;
          grown = g;
          parts = stored_as_one a b chain (chain_from landed.new_places b new_last) node v low high least total some ways
              (λ p there listed_p low_p. (landed.stays p there low_p, named_second g.new chain (chain_from landed.new_places b new_last) p g.chain listed_p))
              page first one st.1.1 named (chain_spells landed.new_places b new_last g.stands first named) landed.level landed.entries;
        }

    module _ (first cut second : ℕ) (st : AreTwoStored a b page node v last new_last first cut second) where
      first_lows_test : node.level ≡ 1 → All (λ l. IsTrue (test l)) (alive_lows st.first_node.entries.items v) × All (λ l. IsTrue (test l)) (alive_lows st.second_node.entries.items v)
      first_lows_test leaf =
          let xs : List ℕ = alive_lows st.first_node.entries.items v in
          let ys : List ℕ = alive_lows st.second_node.entries.items v in
          let all = subst (All (λ (l : ℕ). IsTrue (test l))) (sym (st.copies.lows v (omega arith))) (lows_test test v node.entries.items (holds.lows leaf)) in
          (all_front (λ l. IsTrue (test l)) xs ys all, all_rest (λ l. IsTrue (test l)) xs ys all)

      first_level : st.first_node.level ≡ node.level
      first_level = ap (λ (n : MvNode). n.level) st.copies.first_made

      second_level : st.second_node.level ≡ node.level
      second_level = ap (λ (n : MvNode). n.level) st.copies.second_made

      first_tests : st.first_node.level ≡ 1 → All (λ e. IsTrue (test e.low)) st.first_node.entries.items
      first_tests leaf = fresh_tests test node.level v st.first_node.entries.items st.copies.first_fresh (first_lows_test (sym first_level ∙ leaf)).0

      second_tests : st.second_node.level ≡ 1 → All (λ e. IsTrue (test e.low)) st.second_node.entries.items
      second_tests leaf = fresh_tests test node.level v st.second_node.entries.items st.copies.second_fresh (first_lows_test (sym second_level ∙ leaf)).1

      -- The first copy is in the page, or in a new one.
      first_landed : (starts : Bool) → all_start_at v node.entries.items ≡ starts → IsFirstStored starts a st.between page last st.between_last st.first_node first
          → FirstLanded st.between st.between_last first st.first_node
      first_landed true is here =
          let place : st.first_node.place ≡ node.place = ap (λ (n : MvNode). n.place) st.copies.first_made in
          let before : st.first_node.before ≡ node.before = ap (λ (n : MvNode). n.before) st.copies.first_made in
          let same = early_same v node st.first_node (starts_from v node.entries.items is) (fresh_from node.level v st.first_node.entries.items st.copies.first_fresh) first_level place before in
          let landed = land_put st.between st.first_node here.2 here.3 (typed_in_place st.first_node place before st.typed.0) (past_then v (node_on a page) node st.first_node past same)
          (record { past = st.copies.first_fresh.changeable.past; lows = first_tests }) in
          subst (λ (l : ℕ). FirstLanded st.between l first st.first_node) (sym here.1) (subst (λ (f : ℕ). FirstLanded st.between last f st.first_node) (sym here.0) landed)
      first_landed false is here =
          let landed = land_next st.between st.first_node first here.1 st.typed.0 (record { past = st.copies.first_fresh.changeable.past; lows = first_tests }) in
          subst (λ (l : ℕ). FirstLanded st.between l first st.first_node) (sym here.0) landed

      one : FirstLanded st.between st.between_last first st.first_node
      one = first_landed (all_start_at v node.entries.items) refl st.stored

      in_between : (p : ℕ) → names_page (chain_from one.new_places st.between st.between_last) p ≡ true → IsSome (st.between p)
      in_between p named = subst IsSome (sym (chain_spells one.new_places st.between st.between_last one.grown.stands p named).spelled) refl

      two_grown : Grown v test st.between b one.new_places st.between_last (one.new_places + 1) second
      two_grown = grown_next v st.between b st.between_last second (next_node st.between st.between_last st.second_node) (st.next.typed st.typed.1) st.next.rules st.next.fresh st.next.made st.next.others refl refl
          test one.new_places one.grown.stands one.grown.hold (place_is one.new_places st.between st.between_last first one.grown.stands one.named)
          (record { past = st.copies.second_fresh.changeable.past; lows = second_tests })

      whole : Grown v test a b places last (one.new_places + 1) new_last
      whole = subst (λ (l : ℕ). Grown v test a b places last (one.new_places + 1) l) (sym st.ends)
          (grown_then v test a st.between b places last one.new_places st.between_last (one.new_places + 1) second one.grown two_grown)

      abbrev final_chain : List ℕ
      final_chain = chain_from (one.new_places + 1) b new_last

      final_is : final_chain ≡ chain_from (one.new_places + 1) b second
      final_is = ap (λ (l : ℕ). chain_from (one.new_places + 1) b l) st.ends

      first_named : names_page final_chain first ≡ true
      first_named = ap (λ (ps : List ℕ). names_page ps first) final_is
          ∙ named_second two_grown.new (chain_from one.new_places st.between st.between_last) (chain_from (one.new_places + 1) b second) first two_grown.chain one.named

      second_named : names_page final_chain second ≡ true
      second_named = ap (λ (ps : List ℕ). names_page ps second) final_is
          ∙ subst (λ (n : ℕ). names_page (chain_from n b second) second ≡ true) (let e : suc one.new_places ≡ one.new_places + 1 = omega arith in e) (names_first second (chain_from one.new_places b (node_on b second).before))

      first_stays : node_on b first ≡ node_on st.between first
      first_stays = same_node st.between b first (st.next.others first (not_new st.between second first st.next.fresh (in_between first one.named)))

      pub as_two : Landed (Some (record { first = first; second = Some (cut, second) }))
      as_two =
          let second_on = (next_spells st.between b st.between_last st.second_node second st.next st.typed.1).1 in
          record {
            new_places = one.new_places + 1;
            grown = whole;
            parts = stored_as_two a b chain final_chain node v low high least total some ways
                (λ p there listed_p low_p.
                let kept = one.stays p there low_p in (
                  st.next.others p (not_new st.between second p st.next.fresh (subst IsSome (sym kept) there)) ∙ kept,
                  named_second whole.new chain final_chain p whole.chain listed_p,
                ))
                first second cut st.first_node st.second_node st.copies
                first_named (chain_spells (one.new_places + 1) b new_last whole.stands first first_named) (ap (λ (n : MvNode). n.level) first_stays ∙ one.level) (ap (λ (n : MvNode). n.entries) first_stays ∙ one.entries)
                second_named (chain_spells (one.new_places + 1) b new_last whole.stands second second_named) (ap (λ (n : MvNode). n.level) second_on) (ap (λ (n : MvNode). n.entries) second_on)
                page;
          }

    -- Whatever is stored of the node stands for its keys.
    pub landed : (replaced : Option Replaced) → IsStored a b page node v last new_last replaced → Landed replaced
    landed None st = in_place st
    landed (Some replaced) st = by_second replaced.second refl (subst (λ (r : Replaced). IsStored a b page node v last new_last (Some r)) refl st)
      where
        by_second : (o : Option (ℕ × ℕ)) → replaced.second ≡ o → IsStored a b page node v last new_last (Some replaced) → Landed (Some replaced)
        by_second None is st1 =
            let same : replaced ≡ record { first = replaced.first; second = None } = λ i. record { first = replaced.first; second = is i } in
            subst (λ (r : Replaced). Landed (Some r)) (sym same) (as_one replaced.first (subst (λ (r : Replaced). IsStored a b page node v last new_last (Some r)) same st1))
        by_second (Some pair) is st1 =
            let same : replaced ≡ record { first = replaced.first; second = Some (pair.0, pair.1) } = λ i. record { first = replaced.first; second = is i } in
            subst (λ (r : Replaced). Landed (Some r)) (sym same)
            (as_two replaced.first pair.0 pair.1 (subst (λ (r : Replaced). IsStored a b page node v last new_last (Some r)) same st1).1)
