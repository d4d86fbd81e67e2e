-- The entries of a node with an addition, stored in one page or in two.
use Rattle.sb_tree.proofs.Common.{◌≡◌, ℕ, suc, ◌+◌, ◌%◌, ◌^◌, ◌<◌, ◌≤◌, ◌==◌, ◌||◌, true, false, nat_le, inl, inr, List, [], ◌∷◌, ◌++◌, length, take, drop, Option, Some, None, IsSome, refl, sym, ap, ◌∙◌, subst, arith, length-drop, rules, All, sum_by, cases_lt, le-leb, lt-leb, take-append-drop, length-take-le, flat_map-append, add-mod-mod, PageMap, names_page, AreInMap, AgreeOn, Replaces, names_page-append, NamesNoneTwice, IsSbNode, SbNode, SbEntry, Second, HaveBegun, raised_first, first_half, second_half, parts_total, IsRaised, node_on, entries_on, total_below, pages_below, lows_below, first_low, NodeStands, page_of, IsStored, once_left, once_right, once_apart, once_join}
use Rattle.sb_tree.proofs.Nodes.{node_on-spelled}
use Rattle.sb_tree.proofs.Paths.{begun_value-begun}
use Rattle.sb_tree.proofs.Order.{Ascends, All-right}
use Rattle.sb_tree.proofs.Frames.{agree_left, agree_right}
use Rattle.sb_tree.proofs.Proper.{Proper, in_order, proper_left, proper_right, proper_raised, ascends_left, ascends_right, ascends_raised, first_low-raised, length-raised, All-raised}
use Rattle.sb_tree.proofs.Fitting.{Fitting, ascends_before, above_all}
use Rattle.sb_tree.proofs.Lists.{EachBelow, list_pages, list_total, own_lows, list_lows, join_stands, EachBelow-frame, EachBelow-split, EachBelow-there, list_total-frame, total_of_entries, stored_below}
use Rattle.sb_tree.proofs.Totals.{total_later, total_begun, raised_total}
use Rattle.sb_tree.proofs.Additions.{ListRaised, raised_list_pages, raised_list_lows, raised_each}
use Rattle.sb_tree.proofs.Storing.{apart_from_missing}

-- the node of a level with these entries
abbrev pub node_of : ℕ → List SbEntry → SbNode
node_of level es = record { level = level; entries = record { items = es } }

pub node_rules : (level : ℕ) (es : List SbEntry) → 1 ≤ level → level ≤ 16 → Proper level es → 1 ≤ length es → length es ≤ 64 → IsSbNode (node_of level es)
node_rules level es l h p some few = search (rules, in_order)

pub entries_stored : (m : PageMap) (page level : ℕ) (es : List SbEntry) → IsSbNode (node_of level es) → Proper level es → m page ≡ Some (page_of level es) → entries_on m page ≡ es
entries_stored m page level es rules p there = ap (λ n. n.entries.items) (node_on-spelled m page (node_of level es) p.typed rules there)

pub node_stands : (m : PageMap) (page level : ℕ) (es : List SbEntry) (low high least : ℕ) → IsSbNode (node_of level es) → Proper level es → m page ≡ Some (page_of level es)
    → first_low es high ≡ low → All (λ e. e.low < high) es → least ≤ length es → NodeStands m level page low high least
node_stands m page level es low high least rules p there first below count =
    let same : node_on m page ≡ node_of level es = search (rules, node_on-spelled) in
    record {
      spelled = search rules;
      rules = rw same rules;
      typed = rw same p.typed;
      at_level = ap (λ n. n.level) same;
      begins = grind arith;
      ends = grind arith;
      filled = grind arith;
    }

-- What a page of these entries tells of them.
pub stored_node : {level low high least : ℕ} {es : List SbEntry} (m : PageMap) (page : ℕ) → 1 ≤ level → level ≤ 16 → Proper level es → 1 ≤ length es → length es ≤ 64
    → m page ≡ Some (page_of level es) → first_low es high ≡ low → All (λ e. e.low < high) es → least ≤ length es → (entries_on m page ≡ es) × NodeStands m level page low high least
stored_node {level} {low} {high} {least} {es} m page l h p some few there first below count =
    let rules = node_rules level es l h p some few in
    (entries_stored m page level es rules p there, node_stands m page level es low high least rules p there first below count)

-- A change below, and then of the node's own page and maybe of a new one.
replaced_node : (P0 P1 Q : List ℕ) (m0 m1 m2 : PageMap) (page : ℕ) → Replaces P0 P1 m0 m1
    → ((p : ℕ) → names_page Q p ≡ (page == p || names_page P1 p)) → ((p : ℕ) → (page == p) ≡ false → m2 p ≡ m1 p) → Replaces (page ∷ P0) Q m0 m2
replaced_node P0 P1 Q m0 m1 m2 page r names others = grind arith

replaced_two : (P0 P1 Q : List ℕ) (m0 m1 m2 : PageMap) (page second : ℕ) → Replaces P0 P1 m0 m1 → m1 second ≡ None → names_page P1 second ≡ false
    → ((p : ℕ) → names_page Q p ≡ (page == p || (second == p || names_page P1 p))) → ((p : ℕ) → (page == p) ≡ false → (second == p) ≡ false → m2 p ≡ m1 p)
    → Replaces (page ∷ P0) Q m0 m2
replaced_two P0 P1 Q m0 m1 m2 page second r missing apart names others = grind arith

pub page_apart : (page : ℕ) (xs : List ℕ) → names_page xs page ≡ false → (p : ℕ) → names_page xs p ≡ true → (page == p) ≡ false
page_apart page xs none p named = grind arith

-- What a change below the node's page leaves of it.
pub page_kept : (P0 P1 : List ℕ) (m0 m1 : PageMap) (page : ℕ) → Replaces P0 P1 m0 m1 → IsSome (m0 page) → names_page P0 page ≡ false
    → (names_page P1 page ≡ false) × (m1 page ≡ m0 page)
page_kept P0 P1 m0 m1 page r there apart = grind arith

pub in_list_some : (m : PageMap) (ps : List ℕ) (second : ℕ) → AreInMap m ps → m second ≡ None → names_page ps second ≡ false
in_list_some m ps second there missing = grind arith

-- One page for all entries.
landed_whole : (level : ℕ) (m0 m1 m2 : PageMap) (page low high least v x : ℕ) (new : List SbEntry)
    → suc level ≤ 16 → NodeStands m0 (suc level) page low high least → NamesNoneTwice (page ∷ list_pages level m0 (entries_on m0 page))
    → Fitting (suc level) new low high → ListRaised level m0 m1 (entries_on m0 page) new low high v x
    → IsStored (suc level) new m1 m2 page None → IsRaised (suc level) m0 m2 page low high least v x None
landed_whole level m0 m1 m2 page low high least v x new bound s once f l stored =
    let es : List SbEntry = entries_on m0 page in
    let P1 : List ℕ = list_pages level m1 new in
    let there : IsSome (m0 page) = search rules in
    let kept = page_kept (list_pages level m0 es) P1 m0 m1 page l.change there once.0 in
    let agree : AgreeOn P1 m1 m2 = search rules in
    let some : 1 ≤ length new = omega (arith, l.longer, s.rules.some) in
    let node = stored_node {least = least} m2 page (omega arith) bound f.proper some stored.0 stored.1 l.begins f.below (omega (arith, l.longer, s.filled)) in
    let now = stored_below level m1 m2 page new node.0 agree in
    let old = stored_below level m0 m0 page es refl (λ p named. refl) in
    record {
      stands = join_stands level m2 page low high least node.1 (rw node.0 (EachBelow-frame level m1 m2 new high agree l.each));
      once = rw now.0 (kept.0, l.once);
      change = rw (old.0, now.0) (replaced_node (list_pages level m0 es) P1 (page ∷ P1) m0 m1 m2 page l.change (λ p. refl) stored.2);
      lows = rw (old.1, now.1) l.lows;
      values = λ w from below.
          let same = total_of_entries level m2 page w new node.0 ∙ list_total-frame level m1 m2 new high w l.each f.proper.ascends some (omega (arith, l.begins, from)) agree in
          ap (λ n. n % 2 ^ 128) same ∙ l.total w from below;
    }

first_low_any : (es : List SbEntry) (a b : ℕ) → 1 ≤ length es → first_low es a ≡ first_low es b
first_low_any [] a b some = absurd (omega (arith, some))
first_low_any (e ∷ es) a b some = refl

below_second : (xs ys : List SbEntry) → Ascends (xs ++ ys) → 1 ≤ length ys → All (λ e. e.low < first_low ys 0) xs
below_second xs [] a some = absurd (omega (arith, some))
below_second xs (y ∷ ys) a some = ascends_before xs y ys a

two_names : (page second : ℕ) (xs ys : List ℕ) (p : ℕ) → names_page ((page ∷ xs) ++ (second ∷ ys)) p ≡ (page == p || (second == p || names_page (xs ++ ys) p))
two_names page second xs ys p = grind (arith, names_page-append)

two_once : (page second : ℕ) (xs ys : List ℕ) → NamesNoneTwice (xs ++ ys) → names_page (xs ++ ys) page ≡ false → names_page (xs ++ ys) second ≡ false → (page == second) ≡ false
    → NamesNoneTwice ((page ∷ xs) ++ (second ∷ ys))
two_once page second xs ys once no_page no_second differ = grind (arith, once_apart, names_page-append, once_join, once_left, once_right, page_apart)

begun_before : (xs : List SbEntry) (n w : ℕ) → All (λ e. e.low < n) xs → n ≤ w → HaveBegun w xs
begun_before xs n w all le = λ k d h. omega (arith, all k d h, le)

split_total : (level : ℕ) (m1 m2 : PageMap) (page w : ℕ) (new : List SbEntry) (second : Second) (low high : ℕ)
    → length (take 32 new) ≡ 32 → length (drop 32 new) ≡ 33 → Ascends (take 32 new ++ drop 32 new)
    → first_low (take 32 new) second.low ≡ low → first_low (drop 32 new) high ≡ second.low
    → entries_on m2 page ≡ first_half new → entries_on m2 second.page ≡ second_half new
    → EachBelow level m1 (drop 32 new) high → EachBelow level m1 (take 32 new) second.low → All (λ e. e.low < second.low) (take 32 new)
    → AgreeOn (list_pages level m1 (first_half new)) m1 m2 → AgreeOn (list_pages level m1 (second_half new)) m1 m2 → low ≤ w
    → parts_total (suc level) m2 page (Some second) w % 2 ^ 128 ≡ list_total level m1 new w % 2 ^ 128
split_total level m1 m2 page w new second low high fcount bcount asc low_f low_b on_f on_r each_b each_f ends_f agree_f agree_r from =
    let F : List SbEntry = take 32 new in
    let B : List SbEntry = drop 32 new in
    let S : ℕ = sum_by (λ e. e.value) F in
    let whole : F ++ B ≡ new = take-append-drop 32 new in
    let back : list_total level m1 (F ++ B) w ≡ list_total level m1 new w = search rules in
    elim (cases_lt w second.low) [
      | inl early ↦
          let b : nat_le second.low w ≡ false = lt-leb second.low w early in
          let later = above_all B w high (ascends_right F B asc) (omega (arith, early, low_b)) in
          let same : list_total level m2 F w ≡ list_total level m1 F w = list_total-frame level m1 m2 F second.low w each_f (ascends_left F B asc) (omega (arith, fcount)) (omega (arith, low_f, from)) agree_f in
          let all : total_below (suc level) m2 page w ≡ list_total level m1 new w = total_of_entries level m2 page w F on_f ∙ same ∙ sym (total_later level m1 F B w later) ∙ back in
          rw b (ap (λ n. n % 2 ^ 128) all)
      | inr now ↦
          let b : nat_le second.low w ≡ true = le-leb second.low w now in
          let R : List SbEntry = raised_first B (S % 2 ^ 128) in
          let first : first_low B high ≤ w = omega (arith, now, low_b) in
          let some : 1 ≤ length B = omega (arith, bcount) in
          let each_r = raised_each level m1 B (S % 2 ^ 128) high each_b in
          let same : list_total level m2 R w ≡ list_total level m1 R w =
          list_total-frame level m1 m2 R high w each_r (ascends_raised B (S % 2 ^ 128) (ascends_right F B asc)) (omega (arith, some, length-raised B (S % 2 ^ 128))) (omega (arith, first, first_low-raised B (S % 2 ^ 128) high)) agree_r in
          let raised = raised_total level m1 B (S % 2 ^ 128) w high some first in
          let begun = begun_value-begun F w (begun_before F second.low w ends_f now) in
          let parts : list_total level m1 B w + S ≡ list_total level m1 (F ++ B) w = omega (arith, total_begun level m1 F B w high some first, begun) in
          rw b (ap (λ n. n % 2 ^ 128) (total_of_entries level m2 second.page w R on_r ∙ same) ∙ raised ∙ add-mod-mod (list_total level m1 B w) S (2 ^ 128) ∙ ap (λ n. n % 2 ^ 128) (parts ∙ back))
    ]

-- Two pages, one for each half.
landed_split : (level : ℕ) (m0 m1 m2 : PageMap) (page low high least v x : ℕ) (new : List SbEntry) (second : Second)
    → suc level ≤ 16 → NodeStands m0 (suc level) page low high least → NamesNoneTwice (page ∷ list_pages level m0 (entries_on m0 page))
    → Fitting (suc level) new low high → ListRaised level m0 m1 (entries_on m0 page) new low high v x
    → IsStored (suc level) new m1 m2 page (Some second) → IsRaised (suc level) m0 m2 page low high least v x (Some second)
landed_split level m0 m1 m2 page low high least v x new second bound s once f l stored =
    let es : List SbEntry = entries_on m0 page in
    let sp : ℕ = second.page in
    let F : List SbEntry = take 32 new in
    let B : List SbEntry = drop 32 new in
    let X : ℕ = sum_by (λ e. e.value) F % 2 ^ 128 in
    let R : List SbEntry = raised_first B X in
    let whole : F ++ B ≡ new = take-append-drop 32 new in
    let fcount : length F ≡ 32 = length-take-le 32 new (omega (arith, stored.0)) in
    let bcount : length B ≡ 33 = omega (arith, stored.0, length-drop 32 new) in
    let rcount : length R ≡ 33 = length-raised B X ∙ bcount in
    let P1 : List ℕ = list_pages level m1 new in
    let LF : List ℕ = list_pages level m1 F in
    let LB : List ℕ = list_pages level m1 B in
    let parts : P1 ≡ LF ++ LB = search (rules, flat_map-append) in
    let there : IsSome (m0 page) = search rules in
    let kept = page_kept (list_pages level m0 es) P1 m0 m1 page l.change there once.0 in
    let there1 : IsSome (m1 page) = search rules in
    let differ = apart_from_missing m1 page sp there1 stored.2 in
    let unused = in_list_some m1 P1 sp (EachBelow-there level m1 new high l.each) stored.2 in
    let agree : AgreeOn P1 m1 m2 = search rules in
    let agree2 = rw parts at agree in
    let agree_f = agree_left LF LB m1 m2 agree2 in
    let agree_b = agree_right LF LB m1 m2 agree2 in
    let proper2 = subst (Proper (suc level)) (sym whole) f.proper in
    let proper_f = proper_left (suc level) F B proper2 in
    let proper_b = proper_right (suc level) F B proper2 in
    let proper_r = proper_raised (suc level) B X proper_b in
    let below2 = subst (λ (xs : List SbEntry). All (λ e. e.low < high) xs) (sym whole) f.below in
    let low_b : first_low B high ≡ second.low = search (rules, first_low_any) in
    let low_f : first_low F second.low ≡ low = search rules in
    let ends_f = subst (λ (n : ℕ). All (λ (e : SbEntry). e.low < n) F) (sym stored.1) (below_second F B proper2.ascends (omega (arith, bcount))) in
    let ends_r = All-raised (λ (e : SbEntry). e.low < high) B X (λ e h. h) (All-right (λ (e : SbEntry). e.low < high) F B below2) in
    let node_f = stored_node {least = 32} m2 page (omega arith) bound proper_f (omega (arith, fcount)) (omega (arith, fcount)) stored.3 low_f ends_f (omega (arith, fcount)) in
    let node_r = stored_node {least = 32} m2 sp (omega arith) bound proper_r (omega (arith, rcount)) (omega (arith, rcount)) stored.4 (first_low-raised B X high ∙ low_b) ends_r (omega (arith, rcount)) in
    let each2 = EachBelow-split level m1 F B high (rw whole l.each) in
    let each_f1 = rw low_b at each2.0 in
    let same_r : list_pages level m1 R ≡ LB = raised_list_pages level m1 B X in
    let agree_r = subst (λ (ps : List ℕ). AgreeOn ps m1 m2) (sym same_r) agree_b in
    let of_f = stored_below level m1 m2 page F node_f.0 agree_f in
    let of_r = stored_below level m1 m2 sp R node_r.0 agree_r in
    let old = stored_below level m0 m0 page es refl (λ p named. refl) in
    let pages : pages_below (suc level) m2 page ++ pages_below (suc level) m2 sp ≡ (page ∷ LF) ++ (sp ∷ LB) = rw (of_f.0, of_r.0, same_r) in
    let lows : lows_below (suc level) m2 page ++ lows_below (suc level) m2 sp ≡ list_lows level m1 new =
    rw (of_f.1, of_r.1, raised_list_lows level m1 B X) (sym (flat_map-append (own_lows level m1) F B) ∙ ap (list_lows level m1) whole) in
    record {
      stands = (
        join_stands level m2 page low second.low 32 node_f.1 (rw node_f.0 (EachBelow-frame level m1 m2 F second.low agree_f each_f1)),
        join_stands level m2 sp second.low high 32 node_r.1 (rw node_r.0 (raised_each level m2 B X high (EachBelow-frame level m1 m2 B high agree_b each2.1))),
      );
      once = rw pages (two_once page sp LF LB (rw parts at l.once) (rw parts at kept.0) (rw parts at unused) differ);
      change = rw (old.0, pages)
          (replaced_two (list_pages level m0 es) (LF ++ LB) ((page ∷ LF) ++ (sp ∷ LB)) m0 m1 m2 page sp (rw parts at l.change) stored.2 (rw parts at unused) (two_names page sp LF LB) stored.5);
      lows = rw (old.1, lows) l.lows;
      values = λ w from below.
          split_total level m1 m2 page w new second low high fcount bcount proper2.ascends low_f low_b node_f.0 node_r.0 each2.1 each_f1 ends_f agree_f agree_r from ∙ l.total w from below;
    }

-- However it is stored, it is raised.
pub landed : {level : ℕ} {m0 m1 m2 : PageMap} {page low high least v x : ℕ} {new : List SbEntry} (second : Option Second)
    → suc level ≤ 16 → NodeStands m0 (suc level) page low high least → NamesNoneTwice (page ∷ list_pages level m0 (entries_on m0 page))
    → Fitting (suc level) new low high → ListRaised level m0 m1 (entries_on m0 page) new low high v x
    → IsStored (suc level) new m1 m2 page second → IsRaised (suc level) m0 m2 page low high least v x second
landed None bound s once f l stored = search (rules, landed_whole)
landed (Some second) bound s once f l stored = search (rules, landed_split)
