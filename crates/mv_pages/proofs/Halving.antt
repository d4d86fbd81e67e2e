-- What a closed node is copied to.
use Rattle.std.proofs.Common.{◌≡◌, ℕ, ◌+◌, ◌/◌, ◌%◌, ◌^◌, ◌<◌, ◌≤◌, ◌==◌, cond, List, [], ◌∷◌, ◌++◌, length, get_or, take, drop, Option, None, refl, sym, ap, ◌∙◌, subst, arith, length-drop}
use Rattle.std.proofs.lemmas.List.{take-append-drop, length-take-le}
use Rattle.page_layout.specs.declared.mv_node.MvNode.{MvNode}
use Rattle.page_layout.specs.declared.mv_node.MvEntry.{MvEntry}
use Rattle.mv_pages.specs.Alive.{value_of, path_child, AreEntriesOf, IsChangeable}
use Rattle.mv_pages.specs.Copies.{copies, total, with_more, first_raised, first_half, second_half, with_entries, AreFresh, Follows, IsOneCopy, AreTwoCopies}
use Rattle.mv_pages.specs.Lows.{alive_lows}
use Rattle.mv_pages.proofs.LivingLows.{copies_lows, lows-append, lows-raised}
use Rattle.mv_pages.proofs.Order.{ordered}
use Rattle.mv_pages.proofs.Copying.{copies_value, copies_path, copies_fresh, copies_length, fresh_left, fresh_right, lows_below, below_value, below_path, above_value, above_path}

follows_by : (node : MvNode) (items : List MvEntry) (v q : ℕ) → ((w : ℕ) → v ≤ w → value_of items q w % 2 ^ 128 ≡ value_of node.entries.items q w % 2 ^ 128)
    → ((w : ℕ) → v ≤ w → path_child items q w ≡ path_child node.entries.items q w) → Follows node (with_entries node items) v q
follows_by node items v q value path = record {
  value = value;
  child = λ w late. ap (λ (o : Option ℕ). cond (node.level == 1) None o) (path w late);
}

pub one_copy : (node one : MvNode) (shown items : List MvEntry) (v : ℕ) → AreEntriesOf node.level node.entries.items → IsChangeable v node.entries.items
    → shown ≡ node.entries.items → items ≡ copies shown v → length items ≤ 48 → one ≡ with_entries node items → IsOneCopy node v one
one_copy node one shown items v entries can same made few is =
    let es : List MvEntry = node.entries.items in
    let all : items ≡ copies es v = made ∙ ap (λ (l : List MvEntry). copies l v) same in
    let long = copies_length v es in
    let made_one : one ≡ with_entries node (copies es v) = is ∙ ap (with_entries node) all in
    let core : IsOneCopy node v (with_entries node (copies es v)) = record {
      few = omega (arith, long, ap (λ (l : List MvEntry). length l) all, few);
      made = refl;
      count = long;
      fresh = copies_fresh node.level v es entries can;
      follows = λ q. follows_by node (copies es v) v q (λ w late. ap (λ (n : ℕ). n % 2 ^ 128) (copies_value q v w es can.last late can.past)) (λ w late. copies_path q v w es can.last late can.past);
      lows = λ w late. copies_lows v w es can.last late can.past;
    } in
    subst (IsOneCopy node v) (sym made_one) core

raised_length : (more : ℕ) (es : List MvEntry) → length (first_raised more es) ≡ length es
raised_length more [] = refl
raised_length more (e ∷ es) = refl

two_core : (node : MvNode) (v : ℕ) (d : MvEntry) (ds : List MvEntry) → AreEntriesOf node.level node.entries.items → IsChangeable v node.entries.items
    → 48 < length (copies node.entries.items v) → length (copies node.entries.items v) ≤ 100 → drop (length (copies node.entries.items v) / 2) (copies node.entries.items v) ≡ d ∷ ds
    → AreTwoCopies node v (with_entries node (first_half (copies node.entries.items v))) d.low (with_entries node (second_half (copies node.entries.items v)))
two_core node v d ds entries can many most rest =
    let es : List MvEntry = node.entries.items in
    let l : List MvEntry = copies es v in
    let half : ℕ = length l / 2 in
    let xs : List MvEntry = take half l in
    let more : ℕ = total xs % 2 ^ 128 in
    let long = copies_length v es in
    let whole : l ≡ xs ++ (d ∷ ds) = sym (take-append-drop half l) ∙ ap (λ (t : List MvEntry). xs ++ t) rest in
    let second : second_half l ≡ first_raised more (d ∷ ds) = ap (first_raised more) rest in
    let fresh : AreFresh node.level v l = copies_fresh node.level v es entries can in
    let mine : AreFresh node.level v (xs ++ (d ∷ ds)) = subst (AreFresh node.level v) whole fresh in
    let order = ordered (xs ++ (d ∷ ds)) mine.rules.order in
    let first_long : length xs ≡ half = length-take-le half l (omega arith) in
    let second_long : length (second_half l) + half ≡ length l = omega (arith, raised_length more (drop half l), length-drop half l) in
    let value_all : (q w : ℕ) → v ≤ w → value_of (xs ++ (d ∷ ds)) q w ≡ value_of es q w =
    λ q w late. ap (λ (t : List MvEntry). value_of t q w) (sym whole) ∙ copies_value q v w es can.last late can.past in
    let path_all : (q w : ℕ) → v ≤ w → path_child (xs ++ (d ∷ ds)) q w ≡ path_child es q w =
    λ q w late. ap (λ (t : List MvEntry). path_child t q w) (sym whole) ∙ copies_path q v w es can.last late can.past in
    record {
      many = omega (arith, many, long);
      first_made = refl;
      second_made = refl;
      first_count = first_long ∙ ap (λ (n : ℕ). n / 2) long;
      counts = omega (arith, first_long, second_long, long);
      sizes = (omega (arith, first_long, many), omega (arith, first_long, most), omega (arith, second_long, many), omega (arith, second_long, most));
      first_lows = lows_below v xs d ds order mine.starts;
      cut_is = (with_more more d, ds, second, refl);
      first_fresh = fresh_left node.level v xs (d ∷ ds) mine;
      second_fresh = subst (AreFresh node.level v) (sym second) (fresh_right node.level v more xs (d ∷ ds) mine);
      below = λ q under. follows_by node xs v q
          (λ w late. ap (λ (n : ℕ). n % 2 ^ 128) (below_value q w v xs d ds order under ∙ value_all q w late))
          (λ w late. below_path q w v xs d ds order under ∙ path_all q w late);
      above = λ q over. follows_by node (second_half l) v q
          (λ w late. ap (λ (t : List MvEntry). value_of t q w % 2 ^ 128) second ∙ above_value q w v xs d ds order mine.starts late over ∙ ap (λ (n : ℕ). n % 2 ^ 128) (value_all q w late))
          (λ w late. ap (λ (t : List MvEntry). path_child t q w) second ∙ above_path q w v more xs d ds mine.starts late over ∙ path_all q w late);
      lows = λ w late.
          ap (λ (ls : List ℕ). alive_lows xs w ++ ls) (ap (λ (t : List MvEntry). alive_lows t w) second ∙ lows-raised w more (d ∷ ds))
          ∙ sym (lows-append w xs (d ∷ ds)) ∙ ap (λ (t : List MvEntry). alive_lows t w) (sym whole) ∙ copies_lows v w es can.last late can.past;
    }

some_first : (xs : List MvEntry) → 0 < length xs → (d : MvEntry) × (ds : List MvEntry) × (xs ≡ d ∷ ds)
some_first [] h = absurd (omega (arith, h))
some_first (x ∷ xs) h = (x, xs, refl)

pub two_copies : (node first second : MvNode) (shown items rest seen : List MvEntry) (v : ℕ) (none : MvEntry) → AreEntriesOf node.level node.entries.items → IsChangeable v node.entries.items
    → shown ≡ node.entries.items → items ≡ copies shown v → 48 < length items → length items ≤ 100 → first ≡ with_entries node (first_half items) → second ≡ with_entries node rest
    → rest ≡ second_half items → seen ≡ rest → AreTwoCopies node v first (get_or seen 0 none).low second
two_copies node first second shown items rest seen v none entries can same made many most is_first is_second made_rest saw =
    let es : List MvEntry = node.entries.items in
    let l : List MvEntry = copies es v in
    let all : items ≡ l = made ∙ ap (λ (l : List MvEntry). copies l v) same in
    let many_l : 48 < length l = subst (λ (t : List MvEntry). 48 < length t) all many in
    let most_l : length l ≤ 100 = subst (λ (t : List MvEntry). length t ≤ 100) all most in
    let r = some_first (drop (length l / 2) l) (omega (arith, length-drop (length l / 2) l, many_l)) in
    let core = two_core node v r.0 r.1 entries can many_l most_l r.2 in
    let f : first ≡ with_entries node (first_half l) = is_first ∙ ap (λ (t : List MvEntry). with_entries node (first_half t)) all in
    let s : second ≡ with_entries node (second_half l) = is_second ∙ ap (with_entries node) (made_rest ∙ ap second_half all) in
    let at : seen ≡ first_raised (total (first_half l) % 2 ^ 128) (r.0 ∷ r.1) = saw ∙ made_rest ∙ ap second_half all ∙ ap (first_raised (total (first_half l) % 2 ^ 128)) r.2 in
    let cut : (get_or seen 0 none).low ≡ r.0.low = ap (λ (t : List MvEntry). (get_or t 0 none).low) at in
    subst (λ (n : ℕ). AreTwoCopies node v first n second) (sym cut)
    (subst (λ (n : MvNode). AreTwoCopies node v n r.0.low second) (sym f)
    (subst (λ (n : MvNode). AreTwoCopies node v (with_entries node (first_half l)) r.0.low n) (sym s) core))
