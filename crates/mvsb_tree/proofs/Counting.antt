-- How many keys the leaves of a tree have at a version, and how many they may have.
use Rattle.std.proofs.Common.{◌≡◌, ℕ, zero, suc, ◌+◌, ◌*◌, ◌^◌, ◌<◌, ◌≤◌, ◌==◌, ◌||◌, inl, inr, true, false, Bool, IsTrue, nat_le, nat_lt, get_or, List, [], ◌∷◌, ◌++◌, length, map, Option, Some, None, cond, refl, sym, ap, ◌∙◌, subst, arith, append_assoc, length-append, lit≤, lit<}
use Rattle.std.specs.List.{All, list_any}
use Rattle.std.specs.Option.{option_map_or}
use Rattle.std.proofs.lemmas.Bool.{and_parts, le-leb, le-ltb, ltb-true}
use Rattle.std.proofs.lemmas.List.{length-map}
use Rattle.std.proofs.lemmas.List.Elements.{All-append, All-cons, All-head, All-nil, All-tail}
use Rattle.std.proofs.Math.Nat.{suc-mul, pow-suc, mul-le-mul_right, mul_comm, one-le-pow, zero-mul}
use Rattle.bw_types.specs.Digits.{digit_count}
use Rattle.bw_types.specs.DigitLaws.{powers_have_digits}
use Rattle.bw_types.specs.declared.point.Point.{Point}
use Rattle.ports.specs.Pages.{PageMap}
use Rattle.page_layout.specs.declared.mv_node.MvEntry.{MvEntry}
use Rattle.page_layout.specs.MvNode.{IsMvEntryTyped}
use Rattle.mv_pages.specs.Alive.{child_of, is_alive, or_later, path_child}
use Rattle.mv_pages.specs.Lows.{alive_lows, ascend, ascend_from, follows, low_above, low_at}
use Rattle.sb_tree.specs.Stands as over_versions
use Rattle.sb_tree.proofs.Balance.{Rising, few_lows}
use Rattle.mvsb_tree.specs.Grown.{NodesHold}
use Rattle.mvsb_tree.specs.Stands.{NodeStands, StandsOnWay, ends_after, first_of, inner_high, inner_low, is_marked, key_of}
use Rattle.mvsb_tree.specs.Steps.{entries_on, node_on}
use Rattle.mvsb_tree.specs.Ways.{IsKeyIn}
use Rattle.mvsb_tree.proofs.Cutting.{none_at, same_interval}
use Rattle.mvsb_tree.proofs.Intervals.{ends_down}
use Rattle.mvsb_tree.proofs.Landing.{lows_test}
use Rattle.mvsb_tree.proofs.Nodes.{some_same}
use Rattle.mvsb_tree.proofs.Sound.{ascend_above, first_least, root_spelled}
use Rattle.mvsb_tree.proofs.Stepping.{same_leads}

-- So many keys, in order, that begin with the interval, lie in it and pass the test.
record Keys (test : ℕ → Bool) (low : ℕ) (high : Option ℕ) (n : ℕ) : Type 0 where
  keys : List ℕ
  rising : Rising keys
  from : All (λ k. low ≤ k) keys
  before : All (λ k. IsTrue (ends_after high k)) keys
  pass : All (λ k. IsTrue (test k)) keys
  many : n ≤ length keys

-- where the first of the lows begins, or where all end
abbrev next_of : List ℕ → Option ℕ → Option ℕ
next_of ls high = or_later high (first_of ls)

abbrev EachKeys : (ℕ → Bool) → ℕ → List ℕ → Option ℕ → Type 0
EachKeys test n [] high = Unit {0}
EachKeys test n (l ∷ ls) high = Keys test l (next_of ls high) n × EachKeys test n ls high

rising_join : (xs ys : List ℕ) (bound : ℕ) → Rising xs → Rising ys → All (λ l. l < bound) xs → All (λ l. bound ≤ l) ys → Rising (xs ++ ys)
rising_join [] ys bound a b below from = b
rising_join (x ∷ xs) ys bound a b below from =
    let here : x < bound = All-head (λ (l : ℕ). l < bound) x xs below in (
      All-append (λ (l : ℕ). x < l) xs ys a.0 (λ k d h. (let le : bound ≤ get_or ys k d = from k d h in omega (arith, here, le))),
      rising_join xs ys bound a.1 b (All-tail (λ (l : ℕ). l < bound) x xs below) from,
    )

-- The keys of intervals side by side.
side_by_side : (test : ℕ → Bool) (n l : ℕ) (ls : List ℕ) (high : Option ℕ) → ascend_from (Some l) ls ≡ true → All (λ x. IsTrue (ends_after high x)) ls → EachKeys test n (l ∷ ls) high
    → Keys test l high (length (l ∷ ls) * n)
side_by_side test n l [] high up ends each = record {
  keys = each.0.keys;
  rising = each.0.rising;
  from = each.0.from;
  before = each.0.before;
  pass = each.0.pass;
  many = omega (arith, each.0.many, suc-mul 0 n, zero-mul n);
}
side_by_side test n l (m ∷ ls) high up ends each =
    let parts = and_parts (follows (Some l) m) (ascend_from (Some m) ls) up in
    let less : l < m = ltb-true l m parts.0 in
    let rest = side_by_side test n m ls high parts.1 (All-tail (λ (x : ℕ). IsTrue (ends_after high x)) m ls ends) each.1 in
    let own = each.0 in
    let m_before : IsTrue (ends_after high m) = All-head (λ (x : ℕ). IsTrue (ends_after high x)) m ls ends in
    let under : All (λ k. k < m) own.keys = λ k d h. ltb-true (get_or own.keys k d) m (own.before k d h) in
    record {
      keys = own.keys ++ rest.keys;
      rising = rising_join own.keys rest.keys m own.rising rest.rising under rest.from;
      from = All-append (λ (x : ℕ). l ≤ x) own.keys rest.keys own.from (λ k d h. (let le : m ≤ get_or rest.keys k d = rest.from k d h in omega (arith, le, less)));
      before = All-append (λ (x : ℕ). IsTrue (ends_after high x)) own.keys rest.keys
          (λ k d h. (let le : get_or own.keys k d < m = under k d h in ends_down high (get_or own.keys k d) m (omega (arith, le)) m_before)) rest.before;
      pass = All-append (λ (x : ℕ). IsTrue (test x)) own.keys rest.keys own.pass rest.pass;
      many = omega (arith, own.many, rest.many, length-append own.keys rest.keys, suc-mul (length (m ∷ ls)) n);
    }

-- The interval of a low among lows in order.
above_front : (front ls : List ℕ) (key : ℕ) → All (λ x. x ≤ key) front → low_above (front ++ ls) key ≡ low_above ls key
above_front [] ls key all = refl
above_front (x ∷ front) ls key all =
    let under : nat_lt key x ≡ false = le-ltb key x (All-head (λ (l : ℕ). l ≤ key) x front all) in
    ap (λ (b : Bool). cond b (Some x) (low_above (front ++ ls) key)) under ∙ above_front front ls key (All-tail (λ (l : ℕ). l ≤ key) x front all)

above_first : (l : ℕ) (ls : List ℕ) → ascend_from (Some l) ls ≡ true → low_above (l ∷ ls) l ≡ first_of ls
above_first l ls up =
    let under : nat_lt l l ≡ false = le-ltb l l (omega arith) in
    ap (λ (b : Bool). cond b (Some l) (low_above ls l)) under ∙ rest ls up
  where
    rest : (ls : List ℕ) → ascend_from (Some l) ls ≡ true → low_above ls l ≡ first_of ls
    rest [] up = refl
    rest (m ∷ ms) up =
        let parts = and_parts (follows (Some l) m) (ascend_from (Some m) ms) up in
        ap (λ (b : Bool). cond b (Some m) (low_above ms l)) parts.0

at_front : (front ls : List ℕ) (key a : ℕ) → low_at ls key ≡ Some a → low_at (front ++ ls) key ≡ Some a
at_front [] ls key a at = at
at_front (x ∷ front) ls key a at = ap (λ (o : Option ℕ). or_later (cond (nat_le x key) (Some x) None) o) (at_front front ls key a at)

over_first : (l : ℕ) (ls : List ℕ) → ascend_from (Some l) ls ≡ true → All (λ x. l < x) ls
over_first l [] up = All-nil (λ (x : ℕ). l < x)
over_first l (m ∷ ms) up =
    let parts = and_parts (follows (Some l) m) (ascend_from (Some m) ms) up in
    let less : l < m = ltb-true l m parts.0 in
    All-cons (λ (x : ℕ). l < x) m ms less (λ k d h. (let le : m ≤ get_or ms k d = ascend_above m ms parts.1 k d h in omega (arith, le, less)))

at_first : (l : ℕ) (ls : List ℕ) → ascend_from (Some l) ls ≡ true → low_at (l ∷ ls) l ≡ Some l
at_first l ls up =
    ap (λ (b : Bool). or_later (cond b (Some l) None) (low_at ls l)) (le-leb l l (omega arith))
    ∙ ap (λ (o : Option ℕ). or_later (Some l) o) (none_at ls l (over_first l ls up))

abbrev pub SameLeads : Type 0
SameLeads = (entries : List MvEntry) (key other version : ℕ) → low_at (alive_lows entries version) key ≡ low_at (alive_lows entries version) other
    → path_child entries key version ≡ path_child entries other version

rising_from : (l : ℕ) (ls : List ℕ) → ascend_from (Some l) ls ≡ true → Rising (l ∷ ls)
rising_from l [] up = (All-nil (λ (x : ℕ). l < x), tt)
rising_from l (m ∷ ms) up =
    let parts = and_parts (follows (Some l) m) (ascend_from (Some m) ms) up in
    (over_first l (m ∷ ms) up, rising_from m ms parts.1)

rising_lows : (ls : List ℕ) → ascend ls ≡ true → Rising ls
rising_lows [] up = tt
rising_lows (l ∷ ls) up = rising_from l ls (and_parts (follows None l) (ascend_from (Some l) ls) up).1

low_typed : (v : ℕ) (es : List MvEntry) → All IsMvEntryTyped es → All (λ l. l < 2 ^ 64) (alive_lows es v)
low_typed v [] all = All-nil (λ (l : ℕ). l < 2 ^ 64)
low_typed v (e ∷ es) all = elim (Rattle.std.proofs.lemmas.Bool.cases_Bool (is_alive v e)) [
  | inl lives ↦
      let cons : alive_lows (e ∷ es) v ≡ e.low ∷ alive_lows es v = rw lives refl in
      subst (All (λ (l : ℕ). l < 2 ^ 64)) (sym cons) (All-cons (λ (l : ℕ). l < 2 ^ 64) e.low (alive_lows es v) (All-head IsMvEntryTyped e es all).0 (low_typed v es (All-tail IsMvEntryTyped e es all)))
  | inr dead ↦
      let skip : alive_lows (e ∷ es) v ≡ alive_lows es v = rw dead refl in
      subst (All (λ (l : ℕ). l < 2 ^ 64)) (sym skip) (low_typed v es (All-tail IsMvEntryTyped e es all))
]

module _ (m : PageMap) (nodes : List ℕ) (v : ℕ) (test : ℕ → Bool) (same : SameLeads) (hold : NodesHold v test m nodes) where
  -- what is below an index node, by the intervals of its lows
  module _ (level page low : ℕ) (high : Option ℕ) (least : ℕ)
      (ways : (q : ℕ) → IsKeyIn low high q → StandsOnWay (suc (suc level)) m nodes page v q low high least) (here : IsKeyIn low high low)
      (rec : (child lo : ℕ) (hi : Option ℕ) → IsKeyIn lo hi lo → ((q : ℕ) → IsKeyIn lo hi q → StandsOnWay (suc level) m nodes child v q lo hi 24) → Keys test lo hi (length (alive_lows (entries_on m child) v) * 24 ^ level)) where
    lows : List ℕ
    lows = alive_lows (entries_on m page) v

    node : NodeStands m nodes (suc (suc level)) page v low high least
    node = (ways low here).0

    from_low : All (λ l. low ≤ l) (alive_lows (entries_on m page) v)
    from_low = first_least (alive_lows (entries_on m page) v) low node.differ node.begins

    one_below : (front : List ℕ) (l : ℕ) (ls : List ℕ) → alive_lows (entries_on m page) v ≡ front ++ (l ∷ ls) → All (λ x. x ≤ l) front → ascend_from (Some l) ls ≡ true
        → low ≤ l → IsTrue (ends_after high l) → l < 2 ^ 64 → All (λ x. IsTrue (ends_after high x)) ls → Keys test l (next_of ls high) (24 ^ suc level)
    one_below front l ls whole under up from ends fits all_end =
        let at : low_at (alive_lows (entries_on m page) v) l ≡ Some l = ap (λ (xs : List ℕ). low_at xs l) whole ∙ at_front front (l ∷ ls) l l (at_first l ls up) in
        let above : low_above (alive_lows (entries_on m page) v) l ≡ first_of ls = ap (λ (xs : List ℕ). low_above xs l) whole ∙ above_front front (l ∷ ls) l under ∙ above_first l ls up in
        let inside : IsKeyIn low high l = record { from = from; before = ends; fits = fits } in
        let way = ways l inside in
        let child : ℕ = way.1 in
        let next_ends : (x : ℕ) → IsTrue (ends_after (next_of ls high) x) → IsTrue (ends_after high x) × IsTrue (ends_after (first_of ls) x) = λ x h. both_end ls high x all_end h in
        let at_key : (q : ℕ) → IsKeyIn l (next_of ls high) q → StandsOnWay (suc level) m nodes child v q l (next_of ls high) 24 = λ q q_in.
        let before = next_ends q q_in.before in
        let interval = same_interval None (alive_lows (entries_on m page) v) l q l node.differ at q_in.from (subst (λ (o : Option ℕ). IsTrue (ends_after o q)) (sym above) before.1) in
        let q_way = ways q (record { from = (let le : low ≤ q = omega (arith, from, q_in.from) in le); before = before.0; fits = q_in.fits }) in
        let leads : child_of (node_on m page) q v ≡ child_of (node_on m page) l v = same_leads (node_on m page) q l v (same (entries_on m page) q l v (interval.0 ∙ sym at)) in
        let child_is : q_way.1 ≡ child = some_same q_way.1 child (sym q_way.2 ∙ leads ∙ way.2) in
        let low_is : inner_low low (alive_lows (entries_on m page) v) q ≡ l = ap (λ (o : Option ℕ). option_map_or (λ x. x) o low) interval.0 in
        let high_is : inner_high high (alive_lows (entries_on m page) v) q ≡ next_of ls high = ap (λ (o : Option ℕ). or_later high o) (interval.1 ∙ above) in
        let w0 = q_way.3 in
        let w1 = subst (λ (c : ℕ). StandsOnWay (suc level) m nodes c v q (inner_low low (alive_lows (entries_on m page) v) q) (inner_high high (alive_lows (entries_on m page) v) q) 24) child_is w0 in
        let w2 = subst (λ (x : ℕ). StandsOnWay (suc level) m nodes child v q x (inner_high high (alive_lows (entries_on m page) v) q) 24) low_is w1 in
        subst (λ (o : Option ℕ). StandsOnWay (suc level) m nodes child v q l o 24) high_is w2 in
        let begins : IsKeyIn l (next_of ls high) l = record { from = omega arith; before = own_end ls high l up ends; fits = fits } in
        let below = rec child l (next_of ls high) begins at_key in
        let filled : 24 ≤ length (alive_lows (entries_on m child) v) = (root_spelled (suc level) m nodes child v l l (next_of ls high) 24 (at_key l begins)).filled in
        record {
          keys = below.keys;
          rising = below.rising;
          from = below.from;
          before = below.before;
          pass = below.pass;
          many = omega (arith, below.many, pow-suc 24 level, mul-le-mul_right (24 ^ level) filled, mul_comm 24 (24 ^ level));
        }
      where
        own_end : (ls : List ℕ) (high : Option ℕ) (l : ℕ) → ascend_from (Some l) ls ≡ true → IsTrue (ends_after high l) → IsTrue (ends_after (next_of ls high) l)
        own_end [] high l up ends = ends
        own_end (x ∷ xs) high l up ends = (and_parts (follows (Some l) x) (ascend_from (Some x) xs) up).0

        both_end : (ls : List ℕ) (high : Option ℕ) (x : ℕ) → All (λ y. IsTrue (ends_after high y)) ls → IsTrue (ends_after (next_of ls high) x) → IsTrue (ends_after high x) × IsTrue (ends_after (first_of ls) x)
        both_end [] high x all h = (h, refl)
        both_end (y ∷ ys) high x all h =
            let less = ltb-true x y h in
            (ends_down high x y (omega (arith, less)) (All-head (λ (z : ℕ). IsTrue (ends_after high z)) y ys all), h)

    each_below : (front ls : List ℕ) (last : ℕ) → alive_lows (entries_on m page) v ≡ front ++ ls → All (λ x. x ≤ last) front → ascend_from (Some last) ls ≡ true
        → All (λ x. low ≤ x) ls → All (λ x. IsTrue (ends_after high x)) ls → All (λ x. x < 2 ^ 64) ls → EachKeys test (24 ^ suc level) ls high
    each_below front [] last whole under up from ends fits = tt
    each_below front (l ∷ ls) last whole under up from ends fits =
        let parts = and_parts (follows (Some last) l) (ascend_from (Some l) ls) up in
        let less : last < l = ltb-true last l parts.0 in
        let ends_rest = All-tail (λ (x : ℕ). IsTrue (ends_after high x)) l ls ends in
        let front_under : All (λ x. x ≤ l) front = λ k d h. (let le : get_or front k d ≤ last = under k d h in omega (arith, le, less)) in (
          one_below front l ls whole front_under parts.1 (All-head (λ (x : ℕ). low ≤ x) l ls from) (All-head (λ (x : ℕ). IsTrue (ends_after high x)) l ls ends) (All-head (λ (x : ℕ). x < 2 ^ 64) l ls fits) ends_rest,
          each_below (front ++ (l ∷ [])) ls l (whole ∙ sym (append_assoc front (l ∷ []) ls)) (All-append (λ (x : ℕ). x ≤ l) front (l ∷ []) front_under (All-cons (λ (x : ℕ). x ≤ l) l [] (omega arith) (All-nil (λ (x : ℕ). x ≤ l))))
              parts.1 (All-tail (λ (x : ℕ). low ≤ x) l ls from) ends_rest (All-tail (λ (x : ℕ). x < 2 ^ 64) l ls fits),
        )

    all_below : (ls : List ℕ) → alive_lows (entries_on m page) v ≡ ls → Keys test low high (length ls * 24 ^ suc level)
    all_below [] whole = absurd (let none : ◌≡◌ {A = Option ℕ} None (Some low) = sym (ap first_of whole) ∙ node.begins in cc)
    all_below (l ∷ ls) whole =
        let is : l ≡ low = some_same l low (sym (ap first_of whole) ∙ node.begins) in
        let up = (and_parts (follows None l) (ascend_from (Some l) ls) (sym (ap ascend whole) ∙ node.differ)).1 in
        let ends = subst (All (λ (x : ℕ). IsTrue (ends_after high x))) whole node.ends in
        let fits = subst (All (λ (x : ℕ). x < 2 ^ 64)) whole (low_typed v (entries_on m page) node.typed.entries) in
        let from = subst (All (λ (x : ℕ). low ≤ x)) whole from_low in
        let ends_rest = All-tail (λ (x : ℕ). IsTrue (ends_after high x)) l ls ends in
        let first = one_below [] l ls whole (All-nil (λ (x : ℕ). x ≤ l)) up (All-head (λ (x : ℕ). low ≤ x) l ls from) (All-head (λ (x : ℕ). IsTrue (ends_after high x)) l ls ends) (All-head (λ (x : ℕ). x < 2 ^ 64) l ls fits) ends_rest in
        let rest = each_below (l ∷ []) ls l whole (All-cons (λ (x : ℕ). x ≤ l) l [] (omega arith) (All-nil (λ (x : ℕ). x ≤ l))) up (All-tail (λ (x : ℕ). low ≤ x) l ls from) ends_rest (All-tail (λ (x : ℕ). x < 2 ^ 64) l ls fits) in
        subst (λ (x : ℕ). Keys test x high (length (l ∷ ls) * 24 ^ suc level)) is (side_by_side test (24 ^ suc level) l ls high up ends_rest (first, rest))

  -- The leaves below a page have as many keys as its own lows by 24 to the levels below it.
  way_keys : (level page low : ℕ) (high : Option ℕ) (least : ℕ) → IsKeyIn low high low → ((q : ℕ) → IsKeyIn low high q → StandsOnWay (suc level) m nodes page v q low high least)
      → Keys test low high (length (alive_lows (entries_on m page) v) * 24 ^ level)
  way_keys zero page low high least here ways =
      let node = ways low here in
      let one : 24 ^ 0 ≡ 1 = refl in
      record {
        keys = alive_lows (entries_on m page) v;
        rising = rising_lows (alive_lows (entries_on m page) v) node.differ;
        from = first_least (alive_lows (entries_on m page) v) low node.differ node.begins;
        before = node.ends;
        pass = lows_test test v (entries_on m page) ((hold page node.listed).lows node.at_level);
        many = omega (arith, mul_comm (length (alive_lows (entries_on m page) v)) (24 ^ 0), suc-mul 0 (length (alive_lows (entries_on m page) v)), zero-mul (length (alive_lows (entries_on m page) v)));
      }
  way_keys (suc level) page low high least here ways =
      all_below level page low high least ways here (λ child lo hi begins below. way_keys level child lo hi 24 begins below) (alive_lows (entries_on m page) v) refl

-- Keys that are each 0 or a point's are at most one more than the points.
abbrev key_point : Point → Point
key_point p = record { keys = []; version = key_of p; weight = 0 }

same_marks : (points : List Point) (l : ℕ) → list_any (λ p. key_of p == l) points ≡ list_any (λ p. p.version == l) (map key_point points)
same_marks [] l = refl
same_marks (p ∷ points) l = ap (λ (b : Bool). key_of p == l || b) (same_marks points l)

few_keys : (points : List Point) (ls : List ℕ) → Rising ls → All (λ l. IsTrue (is_marked points l)) ls → length ls ≤ length points + 1
few_keys points ls rising marked =
    let all : All (λ l. IsTrue (over_versions.is_marked (map key_point points) l)) ls = λ k d h. ap (λ (b : Bool). get_or ls k d == 0 || b) (sym (same_marks points (get_or ls k d))) ∙ marked k d h in
    omega (arith, few_lows (map key_point points) ls rising all, length-map points key_point)

-- A root that leads to two pages has more points below it than 24 to the levels below it.
pub high_root : (m : PageMap) (nodes : List ℕ) (v : ℕ) (points : List Point) (top level : ℕ) → SameLeads → NodesHold v (is_marked points) m nodes
    → ((q : ℕ) → q < 2 ^ 64 → StandsOnWay (suc level) m nodes top v q 0 None 1) → 2 ≤ length (alive_lows (entries_on m top) v) → suc level ≤ digit_count 24 (length points)
high_root m nodes v points top level same hold ways two =
    let found = way_keys m nodes v (is_marked points) same hold level top 0 None 1 (record { from = omega arith; before = refl; fits = omega arith }) (λ q inside. ways q inside.fits) in
    let few = few_keys points found.keys found.rising found.pass in
    let one : 1 ≤ 24 ^ level = one-le-pow level 24 (lit< tt) in
    let twice : 2 * 24 ^ level ≤ length (alive_lows (entries_on m top) v) * 24 ^ level = mul-le-mul_right (24 ^ level) two in
    let enough : 24 ^ level ≤ length points = omega (arith, found.many, few, one, twice) in
    let digits = powers_have_digits 24 level (length points) (lit≤ tt) enough in
    omega (arith, digits)
