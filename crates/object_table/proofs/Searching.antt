-- Searches through lists of objects.
use Rattle.std.proofs.Common.{◌≡◌, ℕ, suc, ◌==◌, true, false, List, [], ◌∷◌, ◌++◌, Option, Some, None, refl, sym, ap, ◌∙◌, arith, reverse}
use Rattle.std.specs.List.{All, find}
use Rattle.std.specs.Option.{option_or}
use Rattle.std.proofs.lemmas.List.{reverse-append}
use Rattle.std.proofs.lemmas.List.Folds.{find-append}
use Rattle.bw_types.specs.declared.dated.Dated.{Dated}
use Rattle.object_table.specs.Lives.{last_life}

pub All-head : {X : Type 0} (P : X → Type 0) (x : X) (xs : List X) → All P (x ∷ xs) → P x
All-head P x xs all = all 0 x (omega arith)

pub All-tail : {X : Type 0} (P : X → Type 0) (x : X) (xs : List X) → All P (x ∷ xs) → All P xs
All-tail P x xs all = λ k d h. all (suc k) d (omega arith)

pub or_none : (o : Option Dated) → option_or o None ≡ o
or_none None = refl
or_none (Some d) = refl

pub or_some : (r : Option Dated) (d : Dated) (x : Option Dated) → option_or (option_or r (Some d)) x ≡ option_or r (Some d)
or_some None d x = refl
or_some (Some e) d x = refl

pub last_life-append : (id : ℕ) (xs ys : List Dated) → last_life id (xs ++ ys) ≡ option_or (last_life id ys) (last_life id xs)
last_life-append id xs ys =
    ap (λ (ds : List Dated). find (λ (d : Dated). d.object.id == id) ds) (reverse-append xs ys)
    ∙ find-append (λ (d : Dated). d.object.id == id) (reverse ys) (reverse xs)

pub last_life-one : (id : ℕ) (d : Dated) → (d.object.id == id) ≡ true → last_life id (d ∷ []) ≡ Some d
last_life-one id d here = rw here refl

pub last_life-other : (id : ℕ) (d : Dated) → (d.object.id == id) ≡ false → last_life id (d ∷ []) ≡ None
last_life-other id d other = rw other refl

pub last_life-begins : (id : ℕ) (d : Dated) (ds : List Dated) (x : Option Dated) → (d.object.id == id) ≡ true → option_or (last_life id (d ∷ ds)) x ≡ last_life id (d ∷ ds)
last_life-begins id d ds x here =
    let whole : last_life id (d ∷ ds) ≡ option_or (last_life id ds) (Some d) = last_life-append id (d ∷ []) ds ∙ ap (λ (o : Option Dated). option_or (last_life id ds) o) (last_life-one id d here) in
    ap (λ (o : Option Dated). option_or o x) whole ∙ or_some (last_life id ds) d x ∙ sym whole

pub last_life-none : (id : ℕ) (ds : List Dated) → All (λ d. (d.object.id == id) ≡ false) ds → last_life id ds ≡ None
last_life-none id [] all = refl
last_life-none id (d ∷ ds) all =
    last_life-append id (d ∷ []) ds
    ∙ ap (λ (o : Option Dated). option_or o (last_life id (d ∷ []))) (last_life-none id ds (All-tail (λ (d : Dated). (d.object.id == id) ≡ false) d ds all))
    ∙ last_life-other id d (All-head (λ (d : Dated). (d.object.id == id) ≡ false) d ds all)
