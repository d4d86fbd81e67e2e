-- The nodes of a part between a front and others.
use Rattle.std.proofs.Common.{◌≡◌, ℕ, zero, suc, ◌+◌, ◌<◌, List, [], ◌∷◌, ◌++◌, length, get_or, set, drop, take, refl, sym, ap, ◌∙◌, arith, append_assoc, length-append}
use Rattle.std.specs.List.{insert}
use Rattle.page_layout.specs.declared.cut_page.CutNode.{CutNode}

at_front : {X : Type 0} (front tail : List X) (place : ℕ) (d : X) → place ≡ length front → get_or (front ++ tail) place d ≡ get_or tail 0 d
at_front [] tail place d e = ap (λ (n : ℕ). get_or tail n d) e
at_front (x ∷ front) tail zero d e = absurd (omega (arith, e))
at_front (x ∷ front) tail (suc place) d e = at_front front tail place d (omega (arith, e))

first_of : {X : Type 0} (tail : List X) (d x : X) → 0 < length tail → x ≡ get_or tail 0 d → (others : List X) × (tail ≡ x ∷ others)
first_of [] d x some e = absurd (omega (arith, some))
first_of {X} (y ∷ others) d x some e = (others, ap (λ (z : X). z ∷ others) (sym e))

-- the node at a place is the first one behind the front
pub node_at : (nodes front tail : List CutNode) (place : ℕ) (node : CutNode) → nodes ≡ front ++ tail → place ≡ length front → place < length nodes
    → ((d : CutNode) → node ≡ get_or nodes place d) → (others : List CutNode) × (tail ≡ node ∷ others)
node_at nodes front tail place node is at lt read =
    let long : length nodes ≡ length front + length tail = ap (λ (ns : List CutNode). length ns) is ∙ length-append front tail in
    first_of tail node node (omega (arith, long, at, lt)) (read node ∙ ap (λ (ns : List CutNode). get_or ns place node) is ∙ at_front front tail place node at)

pub set_at : (front others : List CutNode) (place : ℕ) (x y : CutNode) → place ≡ length front → set (front ++ (x ∷ others)) place y ≡ front ++ (y ∷ others)
set_at [] others zero x y e = refl
set_at [] others (suc place) x y e = absurd (omega (arith, e))
set_at (z ∷ front) others zero x y e = absurd (omega (arith, e))
set_at (z ∷ front) others (suc place) x y e = ap (λ (ns : List CutNode). z ∷ ns) (set_at front others place x y (omega (arith, e)))

pub insert_at : (front others : List CutNode) (place : ℕ) (x : CutNode) → place ≡ length front → insert (front ++ others) place x ≡ front ++ (x ∷ others)
insert_at [] others zero x e = refl
insert_at [] others (suc place) x e = absurd (omega (arith, e))
insert_at (z ∷ front) others zero x e = absurd (omega (arith, e))
insert_at (z ∷ front) others (suc place) x e = ap (λ (ns : List CutNode). z ∷ ns) (insert_at front others place x (omega (arith, e)))

pub drop_front : (front others : List CutNode) (x : CutNode) (place : ℕ) → place ≡ length front → drop (place + 1) (front ++ (x ∷ others)) ≡ others
drop_front [] others x zero e = refl
drop_front [] others x (suc place) e = absurd (omega (arith, e))
drop_front (z ∷ front) others x zero e = absurd (omega (arith, e))
drop_front (z ∷ front) others x (suc place) e =
    let next : suc place + 1 ≡ suc (place + 1) = omega arith in
    ap (λ (n : ℕ). drop n (z ∷ (front ++ (x ∷ others)))) next ∙ drop_front front others x place (omega (arith, e))

-- the first node goes to the front
pub one_more : (front others : List CutNode) (x : CutNode) → front ++ (x ∷ others) ≡ (front ++ (x ∷ [])) ++ others
one_more front others x = sym (append_assoc front (x ∷ []) others)

pub take_front : (ws ys : List CutNode) (n : ℕ) → n ≡ length ws → take n (ws ++ ys) ≡ ws
take_front [] ys zero e = refl
take_front [] ys (suc n) e = absurd (omega (arith, e))
take_front (w ∷ ws) ys zero e = absurd (omega (arith, e))
take_front (w ∷ ws) ys (suc n) e = ap (λ (ns : List CutNode). w ∷ ns) (take_front ws ys n (omega (arith, e)))

pub drop_all_front : (ws ys : List CutNode) (n : ℕ) → n ≡ length ws → drop n (ws ++ ys) ≡ ys
drop_all_front [] ys zero e = refl
drop_all_front [] ys (suc n) e = absurd (omega (arith, e))
drop_all_front (w ∷ ws) ys zero e = absurd (omega (arith, e))
drop_all_front (w ∷ ws) ys (suc n) e = drop_all_front ws ys n (omega (arith, e))
