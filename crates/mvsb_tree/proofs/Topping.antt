-- The ways from the root that stands above what an addition leaves.
use Rattle.std.proofs.Common.{◌≡◌, ◌≢◌, ℕ, zero, suc, ◌+◌, ◌%◌, ◌^◌, ◌<◌, ◌≤◌, length, ◌==◌, ◌||◌, ◌&&◌, inl, inr, true, false, Bool, IsTrue, nat_le, nat_lt, List, [], ◌∷◌, Option, Some, None, cond, refl, sym, ap, ◌∙◌, subst, arith}
use Rattle.std.proofs.lemmas.Bool.{and_from, cases_Bool, cases_lt, cond-false, eqb-true, le-leb, lt-leb, lt-ltb, le-ltb, or_right}
use Rattle.std.proofs.lemmas.List.Elements.{All-cons, All-nil}
use Rattle.ports.specs.Pages.{PageMap}
use Rattle.ports.specs.Frame.{names_page}
use Rattle.page_layout.specs.declared.mv_node.MvEntry.{MvEntry}
use Rattle.page_layout.specs.declared.mv_node.MvNode.{MvNode}
use Rattle.mv_pages.specs.Alive.{child_of, is_alive, or_later, path_child, reaches, value_of}
use Rattle.mv_pages.specs.Edits.{new_entry}
use Rattle.mv_pages.specs.Lows.{alive_lows}
use Rattle.mvsb_tree.specs.declared.replaced.Replaced.{Replaced}
use Rattle.mvsb_tree.specs.Stands.{StandsOnWay, ends_after, inner_high, inner_low}
use Rattle.mvsb_tree.specs.Steps.{chain_from, entries_on, node_on, root_level, total_below}
use Rattle.mvsb_tree.specs.Tops.{IsCutTyped, IsReplacedTyped, IsTop, IsTopOf, RootAdded}
use Rattle.mvsb_tree.specs.Changed.{ReplacedFits}
use Rattle.mv_pages.specs.Edits.{Cut}
use Rattle.mvsb_tree.specs.Ways.{IsAdded, IsKeyIn, LowsCut, PartsStand, added_at}
use Rattle.mvsb_tree.proofs.Chains.{chain_there, names_first}
use Rattle.mvsb_tree.proofs.Growing.{grown_next, grown_then, named_second}
use Rattle.mvsb_tree.proofs.Intervals.{way_within}
use Rattle.mvsb_tree.proofs.Landing.{next_spells, not_new, place_is}
use Rattle.mvsb_tree.proofs.Past.{SpellsNode}
use Rattle.mvsb_tree.proofs.Raising.{way_from}
use Rattle.mvsb_tree.proofs.Sound.{root_spelled}
use Rattle.mvsb_tree.proofs.Ways.{way_moves}
use Rattle.std.proofs.lemmas.Bool.{ne_eqb}
use Rattle.mvsb_tree.specs.Stored.{IsNext, next_node}
use Rattle.mvsb_tree.specs.Grown.{EntriesHold}
use Rattle.mv_pages.specs.Alive.{IsPastOf}
use Rattle.page_layout.specs.MvNode.{IsMvEntryTyped}
use Rattle.std.specs.List.{All}
use Rattle.std.specs.Option.{option_map_or}
use Rattle.mvsb_tree.specs.Tops.{root_node}

-- The level of a page on whose way nodes stand is that of the way.
pub level_on_way : (level : ℕ) (m : PageMap) (nodes : List ℕ) (page v key low : ℕ) (high : Option ℕ) (least : ℕ) → page ≢ 0 → StandsOnWay level m nodes page v key low high least → root_level m page ≡ level
level_on_way level m nodes page v key low high least some s =
    let top = root_spelled level m nodes page v key low high least s in
    elim (cases_Bool (page == 0)) [
      | inl none ↦ absurd (some (eqb-true page 0 none))
      | inr other ↦ cond-false (page == 0) 0 (node_on m page).level other ∙ top.at_level
    ]

pub any_key : (q : ℕ) → q < 2 ^ 64 → IsKeyIn 0 None q
any_key q fits = record { from = omega arith; before = refl; fits = fits }

-- One page has the root's part: it is the root.
pub one_top : (level : ℕ) (test : ℕ → Bool) (m0 m1 : PageMap) (root top v key value places last last1 : ℕ) (replaced : Option Replaced) → root_level m0 root ≡ level → top ≢ 0
    → IsAdded level test m0 m1 root v key value 0 None 1 places last last1 replaced
    → ((nodes : List ℕ) (total : ℕ → ℕ) → PartsStand level m1 nodes root v 0 None 1 replaced total
    → (q : ℕ) → q < 2 ^ 64 → StandsOnWay level m1 nodes top v q 0 None 1 × (total_below level m1 top q v % 2 ^ 128 ≡ total q % 2 ^ 128))
    → RootAdded test m0 m1 root top v key value places last last1
one_top level test m0 m1 root top v key value places last last1 replaced level_is some added from =
    let nodes : List ℕ = chain_from added.new_places m1 last1 in
    let at : (q : ℕ) → q < 2 ^ 64 → StandsOnWay level m1 nodes top v q 0 None 1 × (total_below level m1 top q v % 2 ^ 128 ≡ (total_below level m0 root q v + added_at key value q) % 2 ^ 128) =
    from nodes (λ q. total_below level m0 root q v + added_at key value q) added.parts in
    let same : root_level m1 top ≡ level = level_on_way level m1 nodes top v 0 0 None 1 some (at 0 (omega arith)).0 in
    record {
      new_places = added.new_places;
      grown = added.grown;
      ways = λ q fits. subst (λ (l : ℕ). StandsOnWay l m1 nodes top v q 0 None 1) (sym same) (at q fits).0;
      totals = λ q fits. ap (λ (l : ℕ). total_below l m1 top q v % 2 ^ 128) same ∙ (at q fits).1
          ∙ ap (λ (l : ℕ). (total_below l m0 root q v + added_at key value q) % 2 ^ 128) (sym level_is);
      height = inl (same ∙ sym level_is);
    }

pub same_top : (level : ℕ) (test : ℕ → Bool) (m0 m1 : PageMap) (root v key value places last last1 : ℕ) → root_level m0 root ≡ level → root ≢ 0
    → IsAdded level test m0 m1 root v key value 0 None 1 places last last1 None → RootAdded test m0 m1 root root v key value places last last1
same_top level test m0 m1 root v key value places last last1 level_is some added =
    one_top level test m0 m1 root root v key value places last last1 None level_is some added (λ nodes total parts q fits. (parts.ways q (any_key q fits), parts.totals q (any_key q fits)))

pub new_top : (level : ℕ) (test : ℕ → Bool) (m0 m1 : PageMap) (root first v key value places last last1 : ℕ) → root_level m0 root ≡ level → first ≢ 0
    → IsAdded level test m0 m1 root v key value 0 None 1 places last last1 (Some (record { first = first; second = None })) → RootAdded test m0 m1 root first v key value places last last1
new_top level test m0 m1 root first v key value places last last1 level_is some added =
    one_top level test m0 m1 root first v key value places last last1 (Some (record { first = first; second = None })) level_is some added (λ nodes total parts q fits. (parts.ways q (any_key q fits), parts.totals q (any_key q fits)))

-- A new root above two pages.
open_alive : (v low child : ℕ) → is_alive v (new_entry low v 0 child) ≡ true
open_alive v low child = and_from (nat_le v v) (nat_lt v 4294967295 || 4294967295 == 4294967295) (le-leb v v (omega arith)) (or_right (nat_lt v 4294967295) (4294967295 == 4294967295) refl)

lows_on : (w : ℕ) (e : MvEntry) (es : List MvEntry) → is_alive w e ≡ true → alive_lows (e ∷ es) w ≡ e.low ∷ alive_lows es w
lows_on w e es alive = rw alive refl

module _ (v first cut second : ℕ) where
  abbrev items : List MvEntry
  items = new_entry 0 v 0 first ∷ new_entry cut v 0 second ∷ []

  items_lows : alive_lows items v ≡ 0 ∷ cut ∷ []
  items_lows = lows_on v (new_entry 0 v 0 first) (new_entry cut v 0 second ∷ []) (open_alive v 0 first)
      ∙ ap (λ (ls : List ℕ). 0 ∷ ls) (lows_on v (new_entry cut v 0 second) [] (open_alive v cut second))

  items_value : (q : ℕ) → value_of items q v ≡ 0
  items_value q = elim (cases_Bool (reaches q v (new_entry 0 v 0 first))) [
    | inl a ↦ elim (cases_Bool (reaches q v (new_entry cut v 0 second))) [
      | inl b ↦ rw (a, b) refl
      | inr b ↦ rw (a, b) refl
    ]
    | inr a ↦ elim (cases_Bool (reaches q v (new_entry cut v 0 second))) [
      | inl b ↦ rw (a, b) refl
      | inr b ↦ rw (a, b) refl
    ]
  ]

  items_child : (q : ℕ) → path_child items q v ≡ Some (cond (nat_le cut q) second first)
  items_child q =
      let one : reaches q v (new_entry 0 v 0 first) ≡ true = and_from (nat_le 0 q) (is_alive v (new_entry 0 v 0 first)) (le-leb 0 q (omega arith)) (open_alive v 0 first) in
      let start : path_child items q v ≡ or_later (Some first) (or_later (cond (nat_le cut q && is_alive v (new_entry cut v 0 second)) (Some second) None) None) =
      ap (λ (b : Bool). or_later (cond b (Some first) None) (path_child (new_entry cut v 0 second ∷ []) q v)) one in
      elim (cases_lt q cut) [
        | inl less ↦
            let no_cut : nat_le cut q ≡ false = lt-leb cut q less in
            start ∙ ap (λ (b : Bool). or_later (Some first) (or_later (cond (b && is_alive v (new_entry cut v 0 second)) (Some second) None) None)) no_cut ∙ ap (λ (b : Bool). Some (cond b second first)) (sym no_cut)
        | inr le ↦
            let at_cut : nat_le cut q ≡ true = le-leb cut q le in
            start ∙ ap (λ (b : Bool). or_later (Some first) (or_later (cond (b && is_alive v (new_entry cut v 0 second)) (Some second) None) None)) at_cut
            ∙ ap (λ (b : Bool). or_later (Some first) (or_later (cond b (Some second) None) None)) (open_alive v cut second) ∙ ap (λ (b : Bool). Some (cond b second first)) (sym at_cut)
      ]

  items_cut : 0 < cut → LowsCut (alive_lows items v) 0 None 1
  items_cut more = subst (λ (ls : List ℕ). LowsCut ls 0 None 1) (sym items_lows) (record {
    differ = and_from (nat_lt 0 cut) true (lt-ltb 0 cut more) refl;
    begins = refl;
    ends = All-cons (λ (l : ℕ). IsTrue (ends_after None l)) 0 (cut ∷ []) refl (All-cons (λ (l : ℕ). IsTrue (ends_after None l)) cut [] refl (All-nil (λ (l : ℕ). IsTrue (ends_after None l))));
    filled = omega arith;
  })

  items_interval : (q : ℕ) → (inner_low 0 (alive_lows items v) q ≡ cond (nat_le cut q) cut 0) × (inner_high None (alive_lows items v) q ≡ cond (nat_le cut q) None (Some cut))
  items_interval q = elim (cases_lt q cut) [
    | inl less ↦
        let zero_at : nat_le 0 q ≡ true = le-leb 0 q (omega arith) in
        let zero_over : nat_lt q 0 ≡ false = le-ltb q 0 (omega arith) in
        let no_cut : nat_le cut q ≡ false = lt-leb cut q less in
        let over : nat_lt q cut ≡ true = lt-ltb q cut less in
        (rw (items_lows, zero_at, no_cut) refl, rw (items_lows, zero_over, over, no_cut) refl)
    | inr le ↦
        let zero_over : nat_lt q 0 ≡ false = le-ltb q 0 (omega arith) in
        let at_cut : nat_le cut q ≡ true = le-leb cut q le in
        let over : nat_lt q cut ≡ false = le-ltb q cut le in
        (rw (items_lows, at_cut) refl, rw (items_lows, zero_over, over, at_cut) refl)
  ]

-- The part of a key has the key.
part_key : (cut q : ℕ) → q < 2 ^ 64 → IsKeyIn (cond (nat_le cut q) cut 0) (cond (nat_le cut q) None (Some cut)) q
part_key cut q fits = elim (cases_lt q cut) [
  | inl less ↦ subst (λ (b : Bool). IsKeyIn (cond b cut 0) (cond b None (Some cut)) q) (sym (lt-leb cut q less)) (record { from = omega arith; before = lt-ltb q cut less; fits = fits })
  | inr le ↦ subst (λ (b : Bool). IsKeyIn (cond b cut 0) (cond b None (Some cut)) q) (sym (le-leb cut q le)) (record { from = le; before = refl; fits = fits })
]

-- A root stands on the way of a key where its child does.
top_from : (l level : ℕ) → level ≡ suc l → (m : PageMap) (nodes : List ℕ) (top child v q : ℕ) → names_page nodes top ≡ true → SpellsNode m top → (node_on m top).level ≡ suc level
    → LowsCut (alive_lows (entries_on m top) v) 0 None 1 → child_of (node_on m top) q v ≡ Some child
    → StandsOnWay level m nodes child v q (inner_low 0 (alive_lows (entries_on m top) v) q) (inner_high None (alive_lows (entries_on m top) v) q) 24 → StandsOnWay (suc level) m nodes top v q 0 None 1
top_from l zero e m nodes top child v q named on at cut leads below = absurd (omega (arith, e))
top_from l (suc level) e m nodes top child v q named on at cut leads below = way_from (suc (suc level)) m nodes top v q 0 None 1 named on at cut (child, leads, below)

pub two_top : (l : ℕ) (level : ℕ) → level ≡ suc l → (test : ℕ → Bool) (m0 m1 m2 : PageMap) (root first cut second top v key value places last last1 last2 : ℕ) → root_level m0 root ≡ level → 1 ≤ level → v < 4294967295
    → 0 < cut → first < 2 ^ 64 → cut < 2 ^ 64 → second < 2 ^ 64
    → IsAdded level test m0 m1 root v key value 0 None 1 places last last1 (Some (record { first = first; second = Some (cut, second) }))
    → IsNext m1 m2 last1 (root_node (level + 1) v first cut second) top → last2 ≡ top → 3 ≤ top
    → (p : ℕ) → names_page (chain_from places m0 last) p ≡ true
    → RootAdded test m0 m2 root top v key value places last last2
two_top l level level_suc test m0 m1 m2 root first cut second top v key value places last last1 last2 level_is some early more first_fits cut_fits second_fits added next ends number p listed =
    let nodes1 : List ℕ = chain_from added.new_places m1 last1 in
    let made : MvNode = next_node m1 last1 (root_node (level + 1) v first cut second) in
    let typed_items : All IsMvEntryTyped (items v first cut second) =
    All-cons IsMvEntryTyped (new_entry 0 v 0 first) (new_entry cut v 0 second ∷ []) (omega arith, omega (arith, early), omega arith, omega arith, first_fits)
    (All-cons IsMvEntryTyped (new_entry cut v 0 second) [] (cut_fits, omega (arith, early), omega arith, omega arith, second_fits) (All-nil IsMvEntryTyped)) in
    let spells = next_spells m1 m2 last1 (root_node (level + 1) v first cut second) top next typed_items in
    let on : node_on m2 top ≡ made = spells.1 in
    let past_one : (low child : ℕ) → IsPastOf v (new_entry low v 0 child) = λ low child. (omega arith, inl refl) in
    let held : EntriesHold v test made = record {
      past = All-cons (IsPastOf v) (new_entry 0 v 0 first) (new_entry cut v 0 second ∷ []) (past_one 0 first) (All-cons (IsPastOf v) (new_entry cut v 0 second) [] (past_one cut second) (All-nil (IsPastOf v)));
      lows = λ leaf. absurd (omega (arith, leaf, some));
    } in
    let named1 = named_second added.grown.new (chain_from places m0 last) nodes1 p added.grown.chain listed in
    let step = grown_next v m1 m2 last1 top made (next.typed typed_items) next.rules next.fresh next.made next.others refl refl test added.new_places added.grown.stands added.grown.hold
    (place_is added.new_places m1 last1 p added.grown.stands named1) held in
    let both = grown_then v test m0 m1 m2 places last added.new_places last1 (added.new_places + 1) top added.grown step in
    let nodes2 : List ℕ = chain_from (added.new_places + 1) m2 top in
    let top_named : names_page nodes2 top ≡ true = subst (λ (n : ℕ). names_page (chain_from n m2 top) top ≡ true) (let e : suc added.new_places ≡ added.new_places + 1 = omega arith in e) (names_first top (chain_from added.new_places m2 (node_on m2 top).before)) in
    let top_some : top ≢ 0 = λ none. omega (arith, none, number) in
    let at_level : (node_on m2 top).level ≡ suc level = ap (λ (n : MvNode). n.level) on ∙ (let e : level + 1 ≡ suc level = omega arith in e) in
    let top_level : root_level m2 top ≡ suc level = elim (cases_Bool (top == 0)) [
      | inl none ↦ absurd (top_some (eqb-true top 0 none))
      | inr other ↦ cond-false (top == 0) 0 (node_on m2 top).level other ∙ at_level
    ] in
    let item_is : entries_on m2 top ≡ items v first cut second = ap (λ (n : MvNode). n.entries.items) on in
    let leads : (q : ℕ) → child_of (node_on m2 top) q v ≡ Some (cond (nat_le cut q) second first) = λ q.
    ap (λ (n : MvNode). child_of n q v) on ∙ cond-false (level + 1 == 1) None (path_child (items v first cut second) q v) (ne_eqb (level + 1) 1 (λ e. omega (arith, e, some))) ∙ items_child v first cut second q in
    let stays : (q : ℕ) → names_page nodes1 q ≡ true → (m2 q ≡ m1 q) × (names_page nodes2 q ≡ true) = λ q named.
    (next.others q (not_new m1 top q next.fresh (chain_there added.new_places m1 last1 added.grown.stands q named)), named_second step.new nodes1 nodes2 q step.chain named) in
    let part : (q : ℕ) → q < 2 ^ 64 → StandsOnWay level m2 nodes2 (cond (nat_le cut q) second first) v q (cond (nat_le cut q) cut 0) (cond (nat_le cut q) None (Some cut)) 24
    × (total_below level m2 (cond (nat_le cut q) second first) q v % 2 ^ 128 ≡ (total_below level m0 root q v + added_at key value q) % 2 ^ 128) = λ q fits.
    let w = added.parts.ways q (any_key q fits) in
    let inside : IsKeyIn (cond (nat_le cut q) cut 0) (cond (nat_le cut q) None (Some cut)) q = part_key cut q fits in
    let moved = way_moves level m1 m2 nodes1 nodes2 (cond (nat_le cut q) second first) v q (cond (nat_le cut q) cut 0) (cond (nat_le cut q) None (Some cut)) 24
    (λ x named. stays x (way_within level m1 nodes1 (cond (nat_le cut q) second first) v q (cond (nat_le cut q) cut 0) (cond (nat_le cut q) None (Some cut)) 24 w inside x named).6) w in
    (moved.0, ap (λ (n : ℕ). n % 2 ^ 128) moved.1 ∙ added.parts.totals q (any_key q fits)) in
    let top_way : (q : ℕ) → q < 2 ^ 64 → StandsOnWay (suc level) m2 nodes2 top v q 0 None 1 = λ q fits.
    let interval = items_interval v first cut second q in
    let low_is : inner_low 0 (alive_lows (entries_on m2 top) v) q ≡ cond (nat_le cut q) cut 0 = ap (λ (es : List MvEntry). inner_low 0 (alive_lows es v) q) item_is ∙ interval.0 in
    let high_is : inner_high None (alive_lows (entries_on m2 top) v) q ≡ cond (nat_le cut q) None (Some cut) = ap (λ (es : List MvEntry). inner_high None (alive_lows es v) q) item_is ∙ interval.1 in
    let w1 = subst (λ (n : ℕ). StandsOnWay level m2 nodes2 (cond (nat_le cut q) second first) v q n (cond (nat_le cut q) None (Some cut)) 24) (sym low_is) (part q fits).0 in
    let w2 = subst (λ (h : Option ℕ). StandsOnWay level m2 nodes2 (cond (nat_le cut q) second first) v q (inner_low 0 (alive_lows (entries_on m2 top) v) q) h 24) (sym high_is) w1 in
    top_from l level level_suc m2 nodes2 top (cond (nat_le cut q) second first) v q top_named spells.0 at_level
    (subst (λ (es : List MvEntry). LowsCut (alive_lows es v) 0 None 1) (sym item_is) (items_cut v first cut second more)) (leads q) w2 in
    let top_total : (q : ℕ) → q < 2 ^ 64 → total_below (suc level) m2 top q v % 2 ^ 128 ≡ (total_below level m0 root q v + added_at key value q) % 2 ^ 128 = λ q fits.
    let own : value_of (entries_on m2 top) q v ≡ 0 = ap (λ (es : List MvEntry). value_of es q v) item_is ∙ items_value v first cut second q in
    let below = ap (λ (o : Option ℕ). option_map_or (λ c. total_below level m2 c q v) o 0) (leads q) in
    let child_total : ℕ = total_below level m2 (cond (nat_le cut q) second first) q v in
    let whole_total : total_below (suc level) m2 top q v ≡ child_total = omega (arith, own, below) in
    ap (λ (n : ℕ). n % 2 ^ 128) whole_total ∙ (part q fits).1 in
    let two_lows : length (alive_lows (entries_on m2 top) v) ≡ 2 = ap (λ (es : List MvEntry). length (alive_lows es v)) item_is ∙ ap (λ (ls : List ℕ). length ls) (items_lows v first cut second) in
    let whole : RootAdded test m0 m2 root top v key value places last top = record {
      new_places = added.new_places + 1;
      grown = both;
      ways = λ q fits. subst (λ (n : ℕ). StandsOnWay n m2 nodes2 top v q 0 None 1) (sym top_level) (top_way q fits);
      totals = λ q fits. ap (λ (n : ℕ). total_below n m2 top q v % 2 ^ 128) top_level ∙ top_total q fits
          ∙ ap (λ (n : ℕ). (total_below n m0 root q v + added_at key value q) % 2 ^ 128) (sym level_is);
      height = inr (inr ((let e : root_level m2 top ≡ root_level m0 root + 1 = omega (arith, top_level, level_is) in e), (let e : 2 ≤ length (alive_lows (entries_on m2 top) v) = omega (arith, two_lows) in e)));
    } in
    subst (λ (x : ℕ). RootAdded test m0 m2 root top v key value places last x) (sym ends) whole

-- The root from the version on, whatever took the old one's part.
pub tops : (l level : ℕ) → level ≡ suc l → (test : ℕ → Bool) (m0 m1 m2 : PageMap) (root top v key value places last last1 last2 : ℕ) (replaced : Option Replaced) → root_level m0 root ≡ level → 3 ≤ root → 3 ≤ top
    → v < 4294967295 → ReplacedFits (Some 0) None replaced → IsReplacedTyped replaced → names_page (chain_from places m0 last) root ≡ true
    → IsAdded level test m0 m1 root v key value 0 None 1 places last last1 replaced → IsTop m1 m2 root level v replaced last1 last2 top
    → RootAdded test m0 m2 root top v key value places last last2
tops l level is test m0 m1 m2 root top v key value places last last1 last2 None level_is root_three three early fits typed listed added top_is =
    let some : root ≢ 0 = λ none. omega (arith, none, root_three) in
    let same : RootAdded test m0 m1 root root v key value places last last1 = same_top level test m0 m1 root v key value places last last1 level_is some added in
    subst (λ (x : ℕ). RootAdded test m0 m2 root top v key value places last x) (sym top_is.2) (subst (λ (m : PageMap). RootAdded test m0 m root top v key value places last last1) (sym top_is.1)
    (subst (λ (x : ℕ). RootAdded test m0 m1 root x v key value places last last1) (sym top_is.0) same))
tops l level is test m0 m1 m2 root top v key value places last last1 last2 (Some replaced) level_is root_three three early fits typed listed added top_is =
    cut_tops replaced.first replaced.second fits typed added top_is
  where
    cut_tops : (first : ℕ) (second : Option Cut) → ReplacedFits (Some 0) None (Some (record { first = first; second = second })) → IsCutTyped first second
        → IsAdded level test m0 m1 root v key value 0 None 1 places last last1 (Some (record { first = first; second = second })) → IsTopOf m1 m2 level v first second last1 last2 top
        → RootAdded test m0 m2 root top v key value places last last2
    cut_tops first None fits typed added top_is =
        let some : first ≢ 0 = λ none. omega (arith, none, fits.0) in
        let new : RootAdded test m0 m1 root first v key value places last last1 = new_top level test m0 m1 root first v key value places last last1 level_is some added in
        subst (λ (x : ℕ). RootAdded test m0 m2 root top v key value places last x) (sym top_is.2) (subst (λ (m : PageMap). RootAdded test m0 m root top v key value places last last1) (sym top_is.1)
        (subst (λ (x : ℕ). RootAdded test m0 m1 root x v key value places last last1) (sym top_is.0) new))
    cut_tops first (Some (cut, second)) fits typed added top_is =
        two_top l level is test m0 m1 m2 root first cut second top v key value places last last1 last2 level_is (omega (arith, is)) early fits.1.1 typed.0 typed.1 typed.2 added top_is.0 top_is.1 three root listed
