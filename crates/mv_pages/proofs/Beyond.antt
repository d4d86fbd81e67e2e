-- The first entry above a key, where entries are read one by one.
use Rattle.std.proofs.Common.{◌≡◌, ℕ, suc, ◌+◌, ◌<◌, ◌≤◌, nat_lt, true, false, List, [], ◌∷◌, ◌++◌, length, get_or, take, drop, Some, None, sym, ap, ◌∙◌, subst, drop-cons}
use Rattle.std.specs.List.{All}
use Rattle.std.proofs.lemmas.Bool.{and_from, lt-ltb}
use Rattle.std.proofs.lemmas.List.{take-append-drop, take_all}
use Rattle.std.proofs.lemmas.List.Elements.{All-append, All-cons, All-nil}
use Rattle.page_layout.specs.declared.mv_node.MvEntry.{MvEntry}
use Rattle.mv_pages.specs.Alive.{is_alive, is_beyond, next_entry}
use Rattle.mv_pages.specs.Lows.{low_of}
use Rattle.mv_pages.proofs.Adding.{next-found, next-none}
use Rattle.mv_pages.proofs.Found.{take_more}

pub beyond_here : (key v : ℕ) (es : List MvEntry) (i : ℕ) (e : MvEntry) → i < length es → ((d : MvEntry) → e ≡ get_or es i d) → All (λ f. is_beyond key v f ≡ false) (take i es)
    → key < e.low → is_alive v e ≡ true → Some e.low ≡ low_of (next_entry es key v)
beyond_here key v es i e h is_e before above lives =
    let whole : es ≡ take i es ++ (get_or es i e ∷ drop (suc i) es) = sym (take-append-drop i es) ∙ ap (λ (l : List MvEntry). take i es ++ l) (drop-cons es i e h) in
    let here : is_beyond key v e ≡ true = and_from (nat_lt key e.low) (is_alive v e) (lt-ltb key e.low above) lives in
    let there : is_beyond key v (get_or es i e) ≡ true = subst (λ (f : MvEntry). is_beyond key v f ≡ true) (is_e e) here in
    let next : next_entry es key v ≡ Some (get_or es i e) = ap (λ (l : List MvEntry). next_entry l key v) whole ∙ next-found key v (take i es) (get_or es i e) (drop (suc i) es) before there in
    ap (λ (f : MvEntry). Some f.low) (is_e e) ∙ sym (ap low_of next)

pub beyond_passed : (key v : ℕ) (es : List MvEntry) (i : ℕ) (e : MvEntry) → i < length es → ((d : MvEntry) → e ≡ get_or es i d) → All (λ f. is_beyond key v f ≡ false) (take i es)
    → is_beyond key v e ≡ false → All (λ f. is_beyond key v f ≡ false) (take (i + 1) es)
beyond_passed key v es i e h is_e before passed =
    let P : MvEntry → Type 0 = λ f. is_beyond key v f ≡ false in
    let here : P (get_or es i e) = subst P (is_e e) passed in
    subst (λ (l : List MvEntry). All P l) (sym (take_more es i e h)) (All-append P (take i es) (get_or es i e ∷ []) before (All-cons P (get_or es i e) [] here (All-nil P)))

pub beyond_none : (key v : ℕ) (es : List MvEntry) (i : ℕ) → length es ≤ i → All (λ f. is_beyond key v f ≡ false) (take i es) → None ≡ low_of (next_entry es key v)
beyond_none key v es i h before =
    sym (ap low_of (next-none key v es (subst (λ (l : List MvEntry). All (λ f. is_beyond key v f ≡ false) l) (take_all i es h) before)))
