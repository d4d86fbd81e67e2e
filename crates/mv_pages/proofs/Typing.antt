-- The numbers of entries stay those of their types.
use Rattle.std.proofs.Common.{◌≡◌, ℕ, ◌+◌, ◌/◌, ◌%◌, ◌^◌, ◌<◌, inl, inr, List, ◌++◌, length, take, drop, sym, ap, ◌∙◌, subst, arith, lit<}
use Rattle.std.specs.List.{All}
use Rattle.std.proofs.lemmas.List.{take-append-drop}
use Rattle.page_layout.specs.MvNode.{IsMvEntryTyped}
use Rattle.page_layout.specs.declared.mv_node.MvNode.{MvNode}
use Rattle.page_layout.specs.declared.mv_node.MvEntry.{MvEntry}
use Rattle.mv_pages.specs.Edits.{closed, new_entry, raised, put_in, TakesIn, TakesAbove, LeadsAnew}
use Rattle.mv_pages.specs.Copies.{copies, total, first_half, second_half, with_entries}
use Rattle.mv_pages.proofs.Order.{All-at, All-left, All-right}
use Rattle.mv_pages.proofs.Putting.{put_all}
use Rattle.mv_pages.proofs.Changes.{changed_all}
use Rattle.mv_pages.proofs.Copying.{copies_all, all_raised}

below : (n : ℕ) → n % 2 ^ 128 < 2 ^ 128
below n = omega arith

typed_new : (low v value child : ℕ) → low < 2 ^ 64 → v < 2 ^ 32 → value < 2 ^ 128 → child < 2 ^ 64 → IsMvEntryTyped (new_entry low v value child)
typed_new low v value child a b c d = (a, b, lit< tt, c, d)

typed_raised : (e : MvEntry) (v more : ℕ) → v < 2 ^ 32 → IsMvEntryTyped e → IsMvEntryTyped (raised e v more)
typed_raised e v more fits t = typed_new e.low v ((e.value + more) % 2 ^ 128) e.child t.0 fits (below (e.value + more)) t.4

typed_closed : (e : MvEntry) (v : ℕ) → v < 2 ^ 32 → IsMvEntryTyped e → IsMvEntryTyped (closed e v)
typed_closed e v fits t = (t.0, t.1, fits, t.3, t.4)

pub taken_typed : (es new : List MvEntry) (low v more : ℕ) → TakesIn es new low v more → low < 2 ^ 64 → v < 2 ^ 32 → more < 2 ^ 128 → All IsMvEntryTyped es → All IsMvEntryTyped new
taken_typed es new low v more (inl t) a b c all =
    let mine = subst (All IsMvEntryTyped) t.3 all in
    let own : IsMvEntryTyped t.1 = All-at IsMvEntryTyped t.0 t.1 t.2 mine in
    changed_all IsMvEntryTyped t.0 t.1 t.2 v (raised t.1 v more) new t.5 mine (typed_raised t.1 v more b own) (λ _. typed_closed t.1 v b own)
taken_typed es new low v more (inr t) a b c all =
    subst (All IsMvEntryTyped) (sym t.1) (put_all IsMvEntryTyped (new_entry low v more 0) es all (typed_new low v more 0 a b c (lit< tt)))

pub above_typed : (es new : List MvEntry) (key v more : ℕ) → TakesAbove es new key v more → v < 2 ^ 32 → All IsMvEntryTyped es → All IsMvEntryTyped new
above_typed es new key v more (inl t) b all =
    let mine = subst (All IsMvEntryTyped) t.3 all in
    let own : IsMvEntryTyped t.1 = All-at IsMvEntryTyped t.0 t.1 t.2 mine in
    changed_all IsMvEntryTyped t.0 t.1 t.2 v (raised t.1 v more) new t.6 mine (typed_raised t.1 v more b own) (λ _. typed_closed t.1 v b own)
above_typed es new key v more (inr t) b all = subst (All IsMvEntryTyped) (sym t.1) all

pub cut_typed : (es new : List MvEntry) (v cut page : ℕ) → new ≡ put_in (new_entry cut v 0 page) es → v < 2 ^ 32 → cut < 2 ^ 64 → page < 2 ^ 64 → All IsMvEntryTyped es → All IsMvEntryTyped new
cut_typed es new v cut page is b c d all = subst (All IsMvEntryTyped) (sym is) (put_all IsMvEntryTyped (new_entry cut v 0 page) es all (typed_new cut v 0 page c b (lit< tt) d))

pub led_typed : (es mid : List MvEntry) (key v child : ℕ) → LeadsAnew es mid key v child → v < 2 ^ 32 → child < 2 ^ 64 → All IsMvEntryTyped es → All IsMvEntryTyped mid
led_typed es mid key v child t b d all =
    let mine = subst (All IsMvEntryTyped) t.3 all in
    let own : IsMvEntryTyped t.1 = All-at IsMvEntryTyped t.0 t.1 t.2 mine in
    changed_all IsMvEntryTyped t.0 t.1 t.2 v (new_entry t.1.low v t.1.value child) mid t.6 mine (typed_new t.1.low v t.1.value child own.0 b own.3 d) (λ _. typed_closed t.1 v b own)

copies_typed : (v : ℕ) (es : List MvEntry) → v < 2 ^ 32 → All IsMvEntryTyped es → All IsMvEntryTyped (copies es v)
copies_typed v es b all = copies_all IsMvEntryTyped IsMvEntryTyped v es (λ e t. typed_new e.low v e.value e.child t.0 b t.3 t.4) all

pub one_typed : (node one : MvNode) (shown items : List MvEntry) (v : ℕ) → v < 2 ^ 32 → shown ≡ node.entries.items → items ≡ copies shown v → one ≡ with_entries node items
    → All IsMvEntryTyped node.entries.items → All IsMvEntryTyped one.entries.items
one_typed node one shown items v b same made is all =
    let whole : one.entries.items ≡ copies node.entries.items v = ap (λ (n : MvNode). n.entries.items) is ∙ made ∙ ap (λ (l : List MvEntry). copies l v) same in
    subst (All IsMvEntryTyped) (sym whole) (copies_typed v node.entries.items b all)

pub two_typed : (node first second : MvNode) (shown items rest : List MvEntry) (v : ℕ) → v < 2 ^ 32 → shown ≡ node.entries.items → items ≡ copies shown v → first ≡ with_entries node (first_half items)
    → second ≡ with_entries node rest → rest ≡ second_half items → All IsMvEntryTyped node.entries.items → All IsMvEntryTyped first.entries.items × All IsMvEntryTyped second.entries.items
two_typed node first second shown items rest v b same made is_first is_second made_rest all =
    let half : ℕ = length items / 2 in
    let typed : All IsMvEntryTyped items = subst (All IsMvEntryTyped) (sym (made ∙ ap (λ (l : List MvEntry). copies l v) same)) (copies_typed v node.entries.items b all) in
    let cut : All IsMvEntryTyped (take half items ++ drop half items) = subst (All IsMvEntryTyped) (sym (take-append-drop half items)) typed in
    let low = All-left IsMvEntryTyped (take half items) (drop half items) cut in
    let high = all_raised IsMvEntryTyped (total (first_half items) % 2 ^ 128) (drop half items) (λ e t. (t.0, t.1, t.2, below (e.value + total (first_half items) % 2 ^ 128), t.4)) (All-right IsMvEntryTyped (take half items) (drop half items) cut) in
    (subst (All IsMvEntryTyped) (sym (ap (λ (n : MvNode). n.entries.items) is_first)) low, subst (All IsMvEntryTyped) (sym (ap (λ (n : MvNode). n.entries.items) is_second ∙ made_rest)) high)
