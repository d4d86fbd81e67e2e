-- What an addition makes of a list of entries, and of what stands below them.
use Rattle.sb_tree.proofs.Common.{◌≡◌, ℕ, zero, suc, ◌+◌, ◌%◌, ◌^◌, ◌<◌, ◌≤◌, ◌==◌, ◌||◌, true, false, nat_le, inl, inr, List, [], ◌∷◌, ◌++◌, length, get_or, Option, Some, None, refl, sym, ap, ◌∙◌, subst, arith, length-append, rules, All, list_any, cases_lt, le-leb, lt-leb, or_left, or_right, eq-eqb, append-nil, All-append, All-cons, All-nil, list_any-append, flat_map-append, PageMap, AreApart, AgreeOn, Replaces, names_page-append, Replaces-beside, Replaces-same, Replaces-agree, Replaces-apart, NamesNoneTwice, SbEntry, Second, BeginLater, raised_first, leaf_entry, TakesIn, second_entry, PartsStand, parts_pages, parts_lows, parts_total, added_at, IsLowOf, IsRaised, SecondFits, begun_value, total_below, pages_below, lows_below, first_low, StandsBelow, once_left, once_right, once_apart, once_join, apart_sym, named_by_neither}
use Rattle.sb_tree.proofs.Modular.{mod_under}
use Rattle.sb_tree.proofs.Paths.{All-head, All-tail}
use Rattle.sb_tree.proofs.Order.{Ascends, first_low-append, EachStands-split, All-left, All-right}
use Rattle.sb_tree.proofs.Freeing.{own_pages, no_pages}
use Rattle.sb_tree.proofs.Proper.{ascends_left, ascends_right, first_low-raised, length-raised, All-raised}
use Rattle.sb_tree.proofs.Fitting.{above_all, length-takes_in}
use Rattle.sb_tree.proofs.Lists.{EachBelow, list_pages, list_total, own_lows, list_lows, list_pages-frame, list_lows-frame, EachBelow-frame, EachBelow-join, EachBelow-there, list_total-frame}
use Rattle.sb_tree.proofs.Totals.{total_later, total_begun, leaf_total, raised_total, parts_list_total}

-- From the version v on the new entries have so much more than those before, and nothing else changed.
pub record ListRaised (level : ℕ) (m0 m1 : PageMap) (es new : List SbEntry) (low high v x : ℕ) : Type 0 where
  pub begins : first_low new high ≡ low
  pub longer : length es ≤ length new
  pub each : EachBelow level m1 new high
  pub once : NamesNoneTwice (list_pages level m1 new)
  pub change : Replaces (list_pages level m0 es) (list_pages level m1 new) m0 m1
  pub lows : All (λ l. IsLowOf (list_lows level m0 es) v l) (list_lows level m1 new)
  pub total : (w : ℕ) → low ≤ w → w < high → list_total level m1 new w % 2 ^ 128 ≡ (list_total level m0 es w + added_at v x w) % 2 ^ 128

more_lows : (k : ℕ) (ls : List ℕ) (v l : ℕ) → IsLowOf ls v l → IsLowOf (k ∷ ls) v l
more_lows k ls v l h = grind arith

-- Membership of lows.
pub lows_in : (ls : List ℕ) (v : ℕ) → All (λ l. IsLowOf ls v l) ls
lows_in [] v = All-nil _
lows_in (k ∷ ls) v =
    All-cons (λ l. IsLowOf (k ∷ ls) v l) k ls
    (or_right (k == v) ((k == k) || list_any (λ j. j == k) ls) (or_left (k == k) (list_any (λ j. j == k) ls) (eq-eqb k k refl)))
    (λ i d h. more_lows k ls v (get_or ls i d) (lows_in ls v i d h))

pub low_left : (xs ys : List ℕ) (v l : ℕ) → IsLowOf xs v l → IsLowOf (xs ++ ys) v l
low_left xs ys v l h = grind (arith, list_any-append)

pub low_right : (xs ys : List ℕ) (v l : ℕ) → IsLowOf ys v l → IsLowOf (xs ++ ys) v l
low_right xs ys v l h = grind (arith, list_any-append)

low_itself : (ls : List ℕ) (v : ℕ) → IsLowOf ls v v
low_itself ls v = or_left (v == v) (list_any (λ j. j == v) ls) (eq-eqb v v refl)

-- the lows of a leaf
leaf_lows_kept : (m : PageMap) (es new : List SbEntry) (v x : ℕ) → TakesIn es new v x → All (λ l. IsLowOf (list_lows 0 m es) v l) (list_lows 0 m new)
leaf_lows_kept m es new v x (inl t) = grind (arith, flat_map-append, lows_in)
leaf_lows_kept m es new v x (inr t) =
    let a : List ℕ = list_lows 0 m t.0 in
    let b : List ℕ = list_lows 0 m t.1 in
    let left : list_lows 0 m new ≡ a ++ (v ∷ b) = search (rules, flat_map-append) in
    let right : list_lows 0 m es ≡ a ++ b = search (rules, flat_map-append) in
    let all : All (λ l. IsLowOf (a ++ b) v l) (a ++ (v ∷ b)) =
    All-append (λ (l : ℕ). IsLowOf (a ++ b) v l) a (v ∷ b) (All-left (λ (l : ℕ). IsLowOf (a ++ b) v l) a b (lows_in (a ++ b) v))
    (All-cons (λ (l : ℕ). IsLowOf (a ++ b) v l) v b (low_itself (a ++ b) v) (All-right (λ (l : ℕ). IsLowOf (a ++ b) v l) a b (lows_in (a ++ b) v))) in
    let all2 = subst (λ (ls : List ℕ). All (λ l. IsLowOf ls v l) (a ++ (v ∷ b))) (sym right) all in
    rw left all2

begins_raised : (xs ys : List SbEntry) (x high : ℕ) → first_low (xs ++ raised_first ys x) high ≡ first_low (xs ++ ys) high
begins_raised xs ys x high = grind (arith, first_low-append)

leaf_begins_new : (before after : List SbEntry) (low high v x : ℕ) → BeginLater v after → first_low (before ++ after) high ≡ low → low ≤ v → v < high
    → first_low (before ++ (leaf_entry v x ∷ after)) high ≡ low
leaf_begins_new [] [] low high v x later first from below = absurd (omega (arith, first, from, below))
leaf_begins_new [] (a ∷ after) low high v x later first from below = grind (arith, All-head)
leaf_begins_new (b ∷ before) after low high v x later first from below = first

leaf_begins : (es new : List SbEntry) (low high v x : ℕ) → TakesIn es new v x → first_low es high ≡ low → low ≤ v → v < high → first_low new high ≡ low
leaf_begins es new low high v x (inl t) first from below = ap (λ xs. first_low xs high) t.5 ∙ begins_raised t.0 (t.1 ∷ t.2) x high ∙ ap (λ xs. first_low xs high) (sym t.3) ∙ first
leaf_begins es new low high v x (inr t) first from below = grind (arith, leaf_begins_new)

none_replaced : (m : PageMap) (es new : List SbEntry) → Replaces (list_pages 0 m es) (list_pages 0 m new) m m
none_replaced m es new = grind (arith, no_pages)

pub leaf_raised : {m : PageMap} {es new : List SbEntry} {low high v x : ℕ} → TakesIn es new v x → first_low es high ≡ low → low ≤ v → v < high
    → ListRaised 0 m m es new low high v x
leaf_raised t first from below = search (rules, leaf_begins, length-takes_in, no_pages, none_replaced, leaf_lows_kept, leaf_total)

-- the parts of a child as entries
pub parts_list_pages : (level : ℕ) (m : PageMap) (at : SbEntry) (s : Option Second) → list_pages (suc level) m (at ∷ second_entry s) ≡ parts_pages (suc level) m at.child s
parts_list_pages level m at None = append-nil (pages_below (suc level) m at.child)
parts_list_pages level m at (Some s) = grind (arith, append-nil)

pub parts_list_lows : (level : ℕ) (m : PageMap) (at : SbEntry) (s : Option Second) → list_lows (suc level) m (at ∷ second_entry s) ≡ parts_lows (suc level) m at.child s
parts_list_lows level m at None = append-nil (lows_below (suc level) m at.child)
parts_list_lows level m at (Some s) = grind (arith, append-nil)

pub parts_each : (level : ℕ) (m : PageMap) (at : SbEntry) (s : Option Second) (to : ℕ) → PartsStand (suc level) m at.child s at.low to 32
    → EachBelow (suc level) m (at ∷ second_entry s) to
parts_each level m at None to stands = (stands, tt)
parts_each level m at (Some s) to stands = (stands.0, (stands.1, tt))

pub raised_list_pages : (level : ℕ) (m : PageMap) (es : List SbEntry) (x : ℕ) → list_pages level m (raised_first es x) ≡ list_pages level m es
raised_list_pages level m [] x = refl
raised_list_pages level m (e ∷ es) x = refl

pub raised_list_lows : (level : ℕ) (m : PageMap) (es : List SbEntry) (x : ℕ) → list_lows level m (raised_first es x) ≡ list_lows level m es
raised_list_lows zero m [] x = refl
raised_list_lows zero m (e ∷ es) x = refl
raised_list_lows (suc level) m [] x = refl
raised_list_lows (suc level) m (e ∷ es) x = refl

pub raised_each : (level : ℕ) (m : PageMap) (es : List SbEntry) (x high : ℕ) → EachBelow level m es high → EachBelow level m (raised_first es x) high
raised_each zero m es x high each = tt
raised_each (suc level) m [] x high each = each
raised_each (suc level) m (e ∷ es) x high each = each

apart_both : (xs ys zs : List ℕ) → AreApart xs ys → AreApart xs zs → AreApart xs (ys ++ zs)
apart_both xs ys zs a b = grind (arith, names_page-append)

apart_from_first : (xs ys zs : List ℕ) → AreApart xs (ys ++ zs) → AreApart xs ys × AreApart xs zs
apart_from_first xs ys zs a = grind (arith, named_by_neither)

added_not_yet : (v x w : ℕ) → w < v → added_at v x w ≡ 0
added_not_yet v x w h = let b : nat_le v w ≡ false = lt-leb v w h in rw b refl

added_now : (v x w : ℕ) → v ≤ w → added_at v x w ≡ x
added_now v x w h = let b : nat_le v w ≡ true = le-leb v w h in rw b refl

begun_second : (at : SbEntry) (s : Option Second) (w : ℕ) → begun_value (at ∷ second_entry s) w ≡ begun_value (at ∷ []) w
begun_second at None w = refl
begun_second at (Some s) w = grind arith

nonempty_from : (es : List SbEntry) (high w : ℕ) → first_low es high ≤ w → w < high → 1 ≤ length es
nonempty_from [] high w first below = absurd (omega (arith, first, below))
nonempty_from (e ∷ es) high w first below = omega arith

later_parts : (at : SbEntry) (s : Option Second) (to w : ℕ) → SecondFits at.low to s → w < at.low → BeginLater w (at ∷ second_entry s)
later_parts at None to w fits h = grind arith
later_parts at (Some s) to w fits h = grind arith

-- the total from the path's entry on
from_path_total : (level : ℕ) (m0 m1 : PageMap) (at : SbEntry) (after : List SbEntry) (high v x w : ℕ) (s : Option Second)
    → Ascends after → v < first_low after high → EachBelow (suc level) m0 after high → AgreeOn (list_pages (suc level) m0 after) m0 m1
    → ((w : ℕ) → at.low ≤ w → w < first_low after high → parts_total (suc level) m1 at.child s w % 2 ^ 128 ≡ (total_below (suc level) m0 at.child w + added_at v x w) % 2 ^ 128)
    → at.low ≤ w → w < high
    → list_total (suc level) m1 ((at ∷ second_entry s) ++ raised_first after x) w % 2 ^ 128 ≡ (list_total (suc level) m0 (at ∷ after) w + added_at v x w) % 2 ^ 128
from_path_total level m0 m1 at after high v x w s asc above each agree values here below = elim (cases_lt w (first_low after high)) [
  | inl within ↦
      let later = above_all after w high asc within in
      let later1 = All-raised (λ e. w < e.low) after x (λ e h. h) later in
      let left : list_total (suc level) m1 ((at ∷ second_entry s) ++ raised_first after x) w ≡ at.value + parts_total (suc level) m1 at.child s w =
      total_later (suc level) m1 (at ∷ second_entry s) (raised_first after x) w later1 ∙ parts_list_total (suc level) m1 at s w here in
      let right : list_total (suc level) m0 (at ∷ after) w ≡ at.value + total_below (suc level) m0 at.child w =
      total_later (suc level) m0 (at ∷ []) after w later ∙ parts_list_total (suc level) m0 at None w here in
      let whole : at.value + (total_below (suc level) m0 at.child w + added_at v x w) ≡ list_total (suc level) m0 (at ∷ after) w + added_at v x w = omega (arith, right) in
      ap (λ n. n % 2 ^ 128) left ∙ mod_under at.value _ _ (2 ^ 128) (values w here within) ∙ ap (λ n. n % 2 ^ 128) whole
  | inr past ↦
      let some = nonempty_from after high w past below in
      let some1 : 1 ≤ length (raised_first after x) = omega (arith, some, length-raised after x) in
      let past1 : first_low (raised_first after x) high ≤ w = omega (arith, past, first_low-raised after x high) in
      let b : ℕ = begun_value (at ∷ []) w in
      let left : list_total (suc level) m1 ((at ∷ second_entry s) ++ raised_first after x) w ≡ b + list_total (suc level) m1 (raised_first after x) w =
      total_begun (suc level) m1 (at ∷ second_entry s) (raised_first after x) w high some1 past1 ∙ ap (λ n. n + list_total (suc level) m1 (raised_first after x) w) (begun_second at s w) in
      let right : list_total (suc level) m0 (at ∷ after) w ≡ b + list_total (suc level) m0 after w = total_begun (suc level) m0 (at ∷ []) after w high some past in
      let same : list_total (suc level) m1 after w ≡ list_total (suc level) m0 after w = list_total-frame (suc level) m0 m1 after high w each asc some past agree in
      let raised = raised_total (suc level) m1 after x w high some past ∙ ap (λ n. (n + x) % 2 ^ 128) same in
      let added = added_now v x w (omega (arith, above, past)) in
      let whole : b + (list_total (suc level) m0 after w + x) ≡ list_total (suc level) m0 (at ∷ after) w + added_at v x w = omega (arith, right, added) in
      ap (λ n. n % 2 ^ 128) left ∙ mod_under b _ _ (2 ^ 128) raised ∙ ap (λ n. n % 2 ^ 128) whole
]

-- the total of an index node's entries
index_total : (level : ℕ) (m0 m1 : PageMap) (before : List SbEntry) (at : SbEntry) (after : List SbEntry) (low high v x w : ℕ) (s : Option Second)
    → Ascends (before ++ (at ∷ after)) → at.low ≤ v → v < first_low after high → SecondFits at.low (first_low after high) s → first_low (before ++ (at ∷ after)) high ≡ low
    → EachBelow (suc level) m0 (before ++ (at ∷ after)) high → AgreeOn (list_pages (suc level) m0 before) m0 m1 → AgreeOn (list_pages (suc level) m0 after) m0 m1
    → ((w : ℕ) → at.low ≤ w → w < first_low after high → parts_total (suc level) m1 at.child s w % 2 ^ 128 ≡ (total_below (suc level) m0 at.child w + added_at v x w) % 2 ^ 128)
    → low ≤ w → w < high
    → list_total (suc level) m1 (before ++ ((at ∷ second_entry s) ++ raised_first after x)) w % 2 ^ 128 ≡ (list_total (suc level) m0 (before ++ (at ∷ after)) w + added_at v x w) % 2 ^ 128
index_total level m0 m1 before at after low high v x w s asc here above fits begins each agree_b agree_a values from below =
    let split = EachStands-split (λ child from to. StandsBelow (suc level) m0 child from to 32) before (at ∷ after) high each in
    let right_asc = ascends_right before (at ∷ after) asc in
    elim (cases_lt w at.low) [
      | inl early ↦
          let later0 = All-cons (λ e. w < e.low) at after early (λ k d h. omega (arith, early, right_asc.0 k d h)) in
          let later1 = All-append (λ e. w < e.low) (at ∷ second_entry s) (raised_first after x) (later_parts at s (first_low after high) w fits early)
          (All-raised (λ (e : SbEntry). w < e.low) after x (λ e h. h) (All-tail (λ (e : SbEntry). w < e.low) at after later0)) in
          let first : first_low before at.low ≤ w = omega (arith, from, begins, first_low-append before (at ∷ after) high) in
          let some = nonempty_from before at.low w first early in
          let same : list_total (suc level) m1 before w ≡ list_total (suc level) m0 before w =
          list_total-frame (suc level) m0 m1 before at.low w split.0 (ascends_left before (at ∷ after) asc) some first agree_b in
          let left = total_later (suc level) m1 before ((at ∷ second_entry s) ++ raised_first after x) w later1 in
          let right = total_later (suc level) m0 before (at ∷ after) w later0 in
          let none = added_not_yet v x w (omega (arith, early, here)) in
          ap (λ n. n % 2 ^ 128) (let e : list_total (suc level) m1 (before ++ ((at ∷ second_entry s) ++ raised_first after x)) w ≡ list_total (suc level) m0 (before ++ (at ∷ after)) w + added_at v x w = omega (arith, left, same, right, none) in e)
      | inr now ↦
          let inner = from_path_total level m0 m1 at after high v x w s right_asc.1 above split.1.1 agree_a values now below in
          let b : ℕ = begun_value before w in
          let left = total_begun (suc level) m1 before ((at ∷ second_entry s) ++ raised_first after x) w high (omega arith) now in
          let right = total_begun (suc level) m0 before (at ∷ after) w high (omega arith) now in
          let whole : b + (list_total (suc level) m0 (at ∷ after) w + added_at v x w) ≡ list_total (suc level) m0 (before ++ (at ∷ after)) w + added_at v x w = omega (arith, right) in
          ap (λ n. n % 2 ^ 128) left ∙ mod_under b _ _ (2 ^ 128) inner ∙ ap (λ n. n % 2 ^ 128) whole
    ]

index_begins : (before : List SbEntry) (at : SbEntry) (s : Option Second) (after : List SbEntry) (x low high : ℕ) → first_low (before ++ (at ∷ after)) high ≡ low
    → first_low (before ++ ((at ∷ second_entry s) ++ raised_first after x)) high ≡ low
index_begins [] at s after x low high first = first
index_begins (b ∷ before) at s after x low high first = first

index_longer : (before : List SbEntry) (at : SbEntry) (s : Option Second) (after : List SbEntry) (x : ℕ)
    → length (before ++ (at ∷ after)) ≤ length (before ++ ((at ∷ second_entry s) ++ raised_first after x))
index_longer before at s after x = grind (arith, length-append)

lows_of_three : (bs olds news ends : List ℕ) (v : ℕ) → All (λ l. IsLowOf olds v l) news → All (λ l. IsLowOf (bs ++ (olds ++ ends)) v l) (bs ++ (news ++ ends))
lows_of_three bs olds news ends v kept = search (rules, All-append, low_left, lows_in, low_right)

pub index_raised : (level : ℕ) (m0 m1 : PageMap) (before : List SbEntry) (at : SbEntry) (after : List SbEntry) (low high v x : ℕ) (s : Option Second)
    → Ascends (before ++ (at ∷ after)) → at.low ≤ v → v < first_low after high → SecondFits at.low (first_low after high) s → first_low (before ++ (at ∷ after)) high ≡ low
    → EachBelow (suc level) m0 (before ++ (at ∷ after)) high → NamesNoneTwice (list_pages (suc level) m0 (before ++ (at ∷ after)))
    → IsRaised (suc level) m0 m1 at.child at.low (first_low after high) 32 v x s
    → ListRaised (suc level) m0 m1 (before ++ (at ∷ after)) (before ++ ((at ∷ second_entry s) ++ raised_first after x)) low high v x
index_raised level m0 m1 before at after low high v x s asc here above fits begins each once r =
    let c : ℕ = suc level in
    let E : List SbEntry = before ++ (at ∷ after) in
    let N : List SbEntry = before ++ ((at ∷ second_entry s) ++ raised_first after x) in
    let pages_b : List ℕ = list_pages c m0 before in
    let pages_a : List ℕ = pages_below c m0 at.child in
    let pages_c : List ℕ = list_pages c m0 after in
    let A1 : List ℕ = parts_pages c m1 at.child s in
    let old : list_pages c m0 E ≡ pages_b ++ (pages_a ++ pages_c) = flat_map-append (own_pages c m0) before (at ∷ after) in
    let once0 = rw old at once in
    let split = EachStands-split (λ child from to. StandsBelow (suc level) m0 child from to 32) before (at ∷ after) high each in
    let b_apart = apart_from_first pages_b pages_a pages_c (once_apart pages_b (pages_a ++ pages_c) once0) in
    let ac_once = once_right pages_b (pages_a ++ pages_c) once0 in
    let c_apart = apart_sym pages_a pages_c (once_apart pages_a pages_c ac_once) in
    let b_there = EachBelow-there c m0 before at.low split.0 in
    let c_there = EachBelow-there c m0 after high split.1.1 in
    let agree_b = Replaces-agree pages_b pages_a A1 m0 m1 r.change b_there b_apart.0 in
    let agree_c = Replaces-agree pages_c pages_a A1 m0 m1 r.change c_there c_apart in
    let b_new = Replaces-apart pages_b pages_a A1 m0 m1 r.change b_there b_apart.0 in
    let c_new = Replaces-apart pages_c pages_a A1 m0 m1 r.change c_there c_apart in
    let c_same : list_pages c m1 (raised_first after x) ≡ pages_c = search (rules, raised_list_pages, list_pages-frame) in
    let new : list_pages c m1 N ≡ pages_b ++ (A1 ++ pages_c) =
    rw (flat_map-append (own_pages c m1) before ((at ∷ second_entry s) ++ raised_first after x), list_pages-frame c m0 m1 before agree_b, flat_map-append (own_pages c m1) (at ∷ second_entry s) (raised_first after x), parts_list_pages level m1 at s, c_same) refl in
    let once1 = once_join pages_b (A1 ++ pages_c) (once_left pages_b (pages_a ++ pages_c) once0) (once_join A1 pages_c r.once (once_right pages_a pages_c ac_once) (apart_sym pages_c A1 c_new)) (apart_both pages_b A1 pages_c b_new b_apart.1) in
    let change = Replaces-beside pages_b pages_b (pages_a ++ pages_c) (A1 ++ pages_c) m0 m0 m1 (Replaces-same pages_b m0) (Replaces-beside pages_a A1 pages_c pages_c m0 m1 m1 r.change (Replaces-same pages_c m1)) in
    let old_lows : list_lows c m0 E ≡ list_lows c m0 before ++ (lows_below c m0 at.child ++ list_lows c m0 after) = flat_map-append (own_lows c m0) before (at ∷ after) in
    let new_lows : list_lows c m1 N ≡ list_lows c m0 before ++ (parts_lows c m1 at.child s ++ list_lows c m0 after) =
    rw (flat_map-append (own_lows c m1) before ((at ∷ second_entry s) ++ raised_first after x), list_lows-frame c m0 m1 before agree_b, flat_map-append (own_lows c m1) (at ∷ second_entry s) (raised_first after x), parts_list_lows level m1 at s, raised_list_lows c m1 after x, list_lows-frame c m0 m1 after agree_c) refl in
    record {
      begins = index_begins before at s after x low high begins;
      longer = index_longer before at s after x;
      each = search (rules, EachBelow-join, EachBelow-frame, first_low-raised, parts_each, raised_each);
      once = rw new once1;
      change = search rules;
      lows = search (rules, lows_of_three);
      total = search (rules, index_total);
    }
