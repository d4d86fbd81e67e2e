-- Where a path goes.
use Rattle.std.proofs.Common.{◌≡◌, ℕ, zero, suc, ◌+◌, ◌<◌, true, false, List, [], ◌∷◌, ◌++◌, length, get_or, take, Option, Some, None, refl, sym, ap, ◌∙◌, arith}
use Rattle.page_layout.specs.declared.mv_node.MvEntry.{MvEntry}
use Rattle.mv_pages.specs.Alive.{or_later, reaches, child_reached, path_child}

pub or_later-assoc : {X : Type 0} (a b c : Option X) → or_later (or_later a b) c ≡ or_later a (or_later b c)
or_later-assoc a b None = refl
or_later-assoc a b (Some x) = refl

pub or_later-none : {X : Type 0} (a : Option X) → or_later None a ≡ a
or_later-none None = refl
or_later-none (Some x) = refl

pub path-append : (xs ys : List MvEntry) (key v : ℕ) → path_child (xs ++ ys) key v ≡ or_later (path_child xs key v) (path_child ys key v)
path-append [] ys key v = sym (or_later-none (path_child ys key v))
path-append (x ∷ xs) ys key v =
    ap (or_later (child_reached key v x)) (path-append xs ys key v) ∙ sym (or_later-assoc (child_reached key v x) (path_child xs key v) (path_child ys key v))

pub path-more : (es : List MvEntry) (i : ℕ) (d : MvEntry) (key v : ℕ) → i < length es
    → path_child (take (i + 1) es) key v ≡ or_later (path_child (take i es) key v) (child_reached key v (get_or es i d))
path-more [] i d key v h = absurd (omega (arith, h))
path-more (e ∷ es) zero d key v h = sym (or_later-none (child_reached key v e))
path-more (e ∷ es) (suc i) d key v h =
    let place : suc i + 1 ≡ suc (i + 1) = omega arith in
    let rest = path-more es i d key v (omega (arith, h)) in
    ap (λ (j : ℕ). path_child (take j (e ∷ es)) key v) place ∙ ap (or_later (child_reached key v e)) rest
    ∙ sym (or_later-assoc (child_reached key v e) (path_child (take i es) key v) (child_reached key v (get_or es i d)))

pub path-reached : (es : List MvEntry) (i : ℕ) (d : MvEntry) (key v : ℕ) (child new : Option ℕ) → i < length es → child ≡ path_child (take i es) key v
    → reaches key v (get_or es i d) ≡ true → new ≡ Some (get_or es i d).child → new ≡ path_child (take (i + 1) es) key v
path-reached es i d key v child new h before reached now =
    let more = path-more es i d key v h in
    let here : child_reached key v (get_or es i d) ≡ Some (get_or es i d).child = rw reached refl in
    now ∙ sym (more ∙ ap (or_later (path_child (take i es) key v)) here)

pub path-passed : (es : List MvEntry) (i : ℕ) (d : MvEntry) (key v : ℕ) (child new : Option ℕ) → i < length es → child ≡ path_child (take i es) key v
    → reaches key v (get_or es i d) ≡ false → new ≡ child → new ≡ path_child (take (i + 1) es) key v
path-passed es i d key v child new h before passed now =
    let more = path-more es i d key v h in
    let here : child_reached key v (get_or es i d) ≡ None = rw passed refl in
    now ∙ before ∙ sym (more ∙ ap (or_later (path_child (take i es) key v)) here)
