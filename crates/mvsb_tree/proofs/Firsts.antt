-- The first leaf of a tree, and the ways through it.
use Rattle.std.proofs.Common.{◌≡◌, ◌≢◌, ℕ, ◌+◌, ◌%◌, ◌^◌, ◌<◌, ◌≤◌, ◌==◌, ◌||◌, ◌&&◌, inl, inr, true, false, Bool, IsTrue, nat_le, nat_lt, List, [], ◌∷◌, Some, None, cond, refl, sym, ap, ◌∙◌, subst, arith}
use Rattle.std.specs.List.{All}
use Rattle.std.proofs.Math.Bool.{and-true}
use Rattle.std.proofs.lemmas.Bool.{and_from, cases_Bool, cond-false, le-leb, lt-ltb, ltb-false, ltb-true, or_right, ne_eqb}
use Rattle.std.proofs.lemmas.List.Elements.{All-cons, All-nil}
use Rattle.std.proofs.lemmas.List.Sums.{sum_by-cons}
use Rattle.ports.specs.Pages.{PageMap}
use Rattle.ports.specs.Frame.{names_page}
use Rattle.page_layout.specs.MvNode.{IsMvEntryTyped, IsMvNode, IsTyped, mv_node_page}
use Rattle.page_layout.specs.declared.mv_node.MvNode.{MvNode}
use Rattle.page_layout.specs.declared.mv_node.MvEntry.{MvEntry}
use Rattle.mv_pages.specs.Alive.{IsPastOf, counted, is_alive, reaches, value_of}
use Rattle.mv_pages.specs.Edits.{new_entry}
use Rattle.mv_pages.specs.Lows.{alive_lows}
use Rattle.mvsb_tree.specs.Grown.{EntriesHold}
use Rattle.mvsb_tree.specs.Stands.{StandsOnWay, ends_after}
use Rattle.mvsb_tree.specs.Steps.{chain_from, no_node, node_on, root_level, total_below}
use Rattle.mvsb_tree.specs.Tops.{RootAdded, first_entries, first_node}
use Rattle.mvsb_tree.specs.Ways.{LowsCut, added_at}
use Rattle.mvsb_tree.proofs.Chains.{names_first}
use Rattle.mvsb_tree.proofs.Growing.{grown_next}
use Rattle.mvsb_tree.proofs.Nodes.{node_on-spelled}
use Rattle.mvsb_tree.proofs.Past.{SpellsNode}
use Rattle.mvsb_tree.proofs.Raising.{way_from}

alive_new : (v low value : ℕ) → is_alive v (new_entry low v value 0) ≡ true
alive_new v low value = and_from (nat_le v v) (nat_lt v 4294967295 || 4294967295 == 4294967295) (le-leb v v (omega arith)) (or_right (nat_lt v 4294967295) (4294967295 == 4294967295) refl)

lows_on : (w : ℕ) (e : MvEntry) (es : List MvEntry) → is_alive w e ≡ true → alive_lows (e ∷ es) w ≡ e.low ∷ alive_lows es w
lows_on w e es alive = rw alive refl

module _ (key v value : ℕ) where
  abbrev mine : List MvEntry
  mine = new_entry key v value 0 ∷ []

  abbrev both : List MvEntry
  both = new_entry 0 v 0 0 ∷ mine

  mine_lows : alive_lows mine v ≡ key ∷ []
  mine_lows = lows_on v (new_entry key v value 0) [] (alive_new v key value)

  both_lows : alive_lows both v ≡ 0 ∷ key ∷ []
  both_lows = lows_on v (new_entry 0 v 0 0) mine (alive_new v 0 0) ∙ ap (λ (ls : List ℕ). 0 ∷ ls) mine_lows

  mine_cut : key ≡ 0 → LowsCut (alive_lows mine v) 0 None 1
  mine_cut is = subst (λ (ls : List ℕ). LowsCut ls 0 None 1) (sym (mine_lows ∙ ap (λ (k : ℕ). k ∷ []) is)) (record {
    differ = refl;
    begins = refl;
    ends = All-cons (λ (l : ℕ). IsTrue (ends_after None l)) 0 [] refl (All-nil (λ (l : ℕ). IsTrue (ends_after None l)));
    filled = omega arith;
  })

  both_cut : 0 < key → LowsCut (alive_lows both v) 0 None 1
  both_cut more = subst (λ (ls : List ℕ). LowsCut ls 0 None 1) (sym both_lows) (record {
    differ = and_from (nat_lt 0 key) true (lt-ltb 0 key more) refl;
    begins = refl;
    ends = All-cons (λ (l : ℕ). IsTrue (ends_after None l)) 0 (key ∷ []) refl (All-cons (λ (l : ℕ). IsTrue (ends_after None l)) key [] refl (All-nil (λ (l : ℕ). IsTrue (ends_after None l))));
    filled = omega arith;
  })

  mine_value : (q : ℕ) → value_of mine q v ≡ added_at key value q
  mine_value q =
      let reach : reaches q v (new_entry key v value 0) ≡ nat_le key q = ap (λ (b : Bool). nat_le key q && b) (alive_new v key value) ∙ and-true (nat_le key q) in
      let here : counted q v (new_entry key v value 0) ≡ added_at key value q = ap (λ (b : Bool). cond b value 0) reach in
      let none : value_of [] q v ≡ 0 = refl in
      omega (arith, here, none, sum_by-cons (λ (e : MvEntry). counted q v e) (new_entry key v value 0) [])

  both_value : (q : ℕ) → value_of both q v ≡ added_at key value q
  both_value q =
      let first : counted q v (new_entry 0 v 0 0) ≡ 0 = elim (cases_Bool (reaches q v (new_entry 0 v 0 0))) [
        | inl a ↦ rw a refl
        | inr a ↦ rw a refl
      ] in
      omega (arith, first, mine_value q, sum_by-cons (λ (e : MvEntry). counted q v e) (new_entry 0 v 0 0) mine)

-- What holds with one entry and with both holds of the leaf.
either : (P : List MvEntry → Type 0) (key v value : ℕ) → (0 < key → P (both key v value)) → (key ≡ 0 → P (mine key v value)) → P (first_entries key v value)
either P key v value more none = elim (cases_Bool (nat_lt 0 key)) [
  | inl some ↦ subst (λ (b : Bool). P (cond b (both key v value) (mine key v value))) (sym some) (more (ltb-true 0 key some))
  | inr zero_key ↦ subst (λ (b : Bool). P (cond b (both key v value) (mine key v value))) (sym zero_key) (none (no_more key zero_key))
]
  where
    no_more : (k : ℕ) → nat_lt 0 k ≡ false → k ≡ 0
    no_more k h = let le = ltb-false 0 k h in omega (arith, le)

pub first_added : (test : ℕ → Bool) (m0 m1 : PageMap) (leaf key v value : ℕ) → v < 4294967295 → key < 2 ^ 64 → value < 2 ^ 128 → IsTrue (test 0) → IsTrue (test key) → m0 0 ≡ None → 3 ≤ leaf
    → IsMvNode (first_node key v value) → m0 leaf ≡ None → m1 leaf ≡ Some (mv_node_page (first_node key v value)) → ((p : ℕ) → (leaf == p) ≡ false → m1 p ≡ m0 p)
    → RootAdded test m0 m1 0 leaf v key value 0 0 leaf
first_added test m0 m1 leaf key v value early key_fits value_fits test_zero test_key no_zero three rules fresh made others =
    let es : List MvEntry = first_entries key v value in
    let node : MvNode = first_node key v value in
    let typed_one : (low x : ℕ) → low < 2 ^ 64 → x < 2 ^ 128 → IsMvEntryTyped (new_entry low v x 0) = λ low x l_fits x_fits. (l_fits, omega (arith, early), omega arith, x_fits, omega arith) in
    let typed_mine : All IsMvEntryTyped (mine key v value) = All-cons IsMvEntryTyped (new_entry key v value 0) [] (typed_one key value key_fits value_fits) (All-nil IsMvEntryTyped) in
    let typed : IsTyped node = record {
      place = omega arith;
      before = omega arith;
      entries = either (All IsMvEntryTyped) key v value (λ more. All-cons IsMvEntryTyped (new_entry 0 v 0 0) (mine key v value) (typed_one 0 0 (omega arith) (omega arith)) typed_mine) (λ none. typed_mine);
    } in
    let past_one : (low x : ℕ) → IsPastOf v (new_entry low v x 0) = λ low x. (omega arith, inl refl) in
    let past_mine : All (IsPastOf v) (mine key v value) = All-cons (IsPastOf v) (new_entry key v value 0) [] (past_one key value) (All-nil (IsPastOf v)) in
    let T : MvEntry → Type 0 = λ e. IsTrue (test e.low) in
    let test_mine : All T (mine key v value) = All-cons T (new_entry key v value 0) [] test_key (All-nil T) in
    let held : EntriesHold v test node = record {
      past = either (All (IsPastOf v)) key v value (λ more. All-cons (IsPastOf v) (new_entry 0 v 0 0) (mine key v value) (past_one 0 0) past_mine) (λ none. past_mine);
      lows = λ leaf_level. either (All T) key v value (λ more. All-cons T (new_entry 0 v 0 0) (mine key v value) test_zero test_mine) (λ none. test_mine);
    } in
    let nowhere : node_on m0 0 ≡ no_node = ap (λ (o : Rattle.std.specs.Prelude.Option (List ℕ)). Rattle.std.specs.Option.option_map_or Rattle.page_layout.specs.MvNode.mv_node_in o no_node) no_zero in
    let no_place : (node_on m0 0).place ≡ 0 = ap (λ (n : MvNode). n.place) nowhere in
    let grown = grown_next v m0 m1 0 leaf node typed rules fresh made others (let e : 1 ≡ (node_on m0 0).place + 1 = omega (arith, no_place) in e) refl test 0 refl (λ page named. absurd (Rattle.std.proofs.lemmas.Bool.true≢false (sym named))) (sym no_place) held in
    let on : node_on m1 leaf ≡ node = node_on-spelled m1 leaf node typed rules made in
    let nodes : List ℕ = chain_from (0 + 1) m1 leaf in
    let named : names_page nodes leaf ≡ true = names_first leaf [] in
    let some : leaf ≢ 0 = λ none. omega (arith, none, three) in
    let level : root_level m1 leaf ≡ 1 = cond-false (leaf == 0) 0 (node_on m1 leaf).level (ne_eqb leaf 0 some) ∙ ap (λ (n : MvNode). n.level) on in
    let spells : SpellsNode m1 leaf = record {
      spelled = made ∙ ap (λ (n : MvNode). Some (mv_node_page n)) (sym on);
      rules = subst IsMvNode (sym on) rules;
      typed = subst IsTyped (sym on) typed;
    } in
    let cut : LowsCut (alive_lows es v) 0 None 1 = either (λ xs. LowsCut (alive_lows xs v) 0 None 1) key v value (both_cut key v value) (mine_cut key v value) in
    let cut_on = subst (λ (n : MvNode). LowsCut (alive_lows n.entries.items v) 0 None 1) (sym on) cut in
    let value_is : (q : ℕ) → value_of es q v ≡ added_at key value q = λ q. either (λ xs. value_of xs q v ≡ added_at key value q) key v value (λ more. both_value key v value q) (λ none. mine_value key v value q) in
    record {
      new_places = 0 + 1;
      grown = grown;
      ways = λ q fits. subst (λ (n : ℕ). StandsOnWay n m1 nodes leaf v q 0 None 1) (sym level) (way_from 1 m1 nodes leaf v q 0 None 1 named spells (ap (λ (n : MvNode). n.level) on) cut_on tt);
      totals = λ q fits.
          let one : total_below 1 m1 leaf q v ≡ total_of node q v = ap (λ (n : MvNode). total_of n q v) on in
          let leaf_total : total_of node q v ≡ value_of es q v + 0 = refl in
          let nothing : total_below (root_level m0 0) m0 0 q v ≡ 0 = refl in
          ap (λ (n : ℕ). total_below n m1 leaf q v % 2 ^ 128) level
          ∙ ap (λ (n : ℕ). n % 2 ^ 128) (let e : total_below 1 m1 leaf q v ≡ total_below (root_level m0 0) m0 0 q v + added_at key value q = omega (arith, one, leaf_total, value_is q, nothing) in e);
      height = inr (inl level);
    }
  where
    total_of : MvNode → ℕ → ℕ → ℕ
    total_of n q w = value_of n.entries.items q w + Rattle.std.specs.Option.option_map_or (λ child. 0) (Rattle.mv_pages.specs.Alive.child_of n q w) 0
