-- The superblock that a page of one spells.
use Rattle.std.proofs.Common.{◌≡◌, ◌⊎◌, inl, inr, ℕ, zero, suc, ◌<◌, ◌≤◌, ◌^◌, List, ◌∷◌, ◌++◌, drop, slice_index, Option, Some, None, refl, ap, ◌∙◌, append_assoc, arith}
use Rattle.std.specs.Prelude.{IfSome}
use Rattle.bw_types.specs.declared.params.Params.{Params}
use Rattle.bw_types.specs.Fits.{IsInRange}
use Rattle.page_layout.specs.declared.super_page.Super.{Super}
use Rattle.page_layout.specs.Numbers.{spelled, number_in, number_in-spelled, past-spelled, past_more}
use Rattle.page_layout.specs.Super.{IsSuper, IsTyped, magic, format_of, degree_byte, degree_in, super_page, super_in}

degree-is : (degree : Option ℕ) → IfSome degree (λ g. g ≤ 2) → degree_in (degree_byte degree) ≡ degree
degree-is None h = refl
degree-is (Some zero) h = refl
degree-is (Some (suc zero)) h = refl
degree-is (Some (suc (suc zero))) h = refl
degree-is (Some (suc (suc (suc g)))) h = absurd (omega arith)

origin-fits : (origin : ℕ) → (origin ≡ 0) ⊎ (origin ≡ 2147483647) → origin < 256 ^ 4
origin-fits origin h = elim h [ inl a ↦ omega arith | inr b ↦ omega arith ]

-- a page as the bytes that are one each and the rest, nested to the right
pub regroup : (format dims degree events pages origin : ℕ) (pad : List ℕ)
    → (magic ++ (format ∷ dims ∷ degree ∷ 0 ∷ (spelled 4 events ++ (spelled 8 pages ++ spelled 4 origin)))) ++ pad
    ≡ magic ++ (format ∷ dims ∷ degree ∷ 0 ∷ (spelled 4 events ++ (spelled 8 pages ++ (spelled 4 origin ++ pad))))
regroup format dims degree events pages origin pad = simp append_assoc

fields : (params : Params) → IsInRange params → (pad : List ℕ)
    → super_in ((magic ++ (format_of params.origin ∷ params.dims ∷ degree_byte params.degree ∷ 0 ∷ (spelled 4 params.events ++ (spelled 8 params.pages ++ spelled 4 params.origin)))) ++ pad)
    ≡ record { params = params }
fields params fits pad =
    let whole : List ℕ = (magic ++ (format_of params.origin ∷ params.dims ∷ degree_byte params.degree ∷ 0 ∷ (spelled 4 params.events ++ (spelled 8 params.pages ++ spelled 4 params.origin)))) ++ pad in
    let r2 : List ℕ = spelled 4 params.origin ++ pad in
    let r1 : List ℕ = spelled 8 params.pages ++ r2 in
    let right : whole ≡ magic ++ (format_of params.origin ∷ params.dims ∷ degree_byte params.degree ∷ 0 ∷ (spelled 4 params.events ++ r1)) =
    regroup (format_of params.origin) params.dims (degree_byte params.degree) params.events params.pages params.origin pad in
    let events_fit : params.events < 256 ^ 4 = let most = fits.events in omega arith in
    let pages_fit : params.pages < 256 ^ 8 = let most = fits.pages in omega arith in
    let degree : degree_in (slice_index whole 10) ≡ params.degree = ap (λ (b : List ℕ). degree_in (slice_index b 10)) right ∙ degree-is params.degree fits.degree in
    let events : number_in 4 (drop 12 whole) ≡ params.events = ap (λ (b : List ℕ). number_in 4 (drop 12 b)) right ∙ number_in-spelled 4 params.events r1 events_fit in
    let pages : number_in 8 (drop 16 whole) ≡ params.pages = ap (λ (b : List ℕ). number_in 8 (drop 16 b)) right ∙ ap (λ (b : List ℕ). number_in 8 b) (past-spelled 4 params.events r1) ∙ number_in-spelled 8 params.pages r2 pages_fit in
    let origin : number_in 4 (drop 24 whole) ≡ params.origin =
    ap (λ (b : List ℕ). number_in 4 (drop 24 b)) right ∙ ap (λ (b : List ℕ). number_in 4 b) (past_more 4 8 params.events r1 ∙ past-spelled 8 params.pages r2) ∙ number_in-spelled 4 params.origin pad (origin-fits params.origin fits.origin) in
    λ i. record { params = record { dims = params.dims; degree = degree i; events = events i; pages = pages i; origin = origin i } }

pub super_in-page : (value : Super) → IsTyped value → IsSuper value → super_in (super_page value) ≡ value
super_in-page value typed is_super = fields value.params is_super _
