-- The ranges of params, as a fact that holds in one way.
use Rattle.std.specs.Prelude.{◌≡◌, ◌⊎◌, ℕ, ◌≤◌, IfSome}
use Rattle.std.proofs.Common.{inl, inr, arith}
use Rattle.std.proofs.Props.{props}
use Rattle.bw_types.specs.declared.params.Params.{Params}
use Rattle.bw_types.specs.Fits.{IsInRange}

origin-prop : (n : ℕ) → IsProp ((n ≡ 0) ⊎ (n ≡ 2147483647))
origin-prop n (inl a) (inl b) = let p : IsProp (n ≡ 0) = hlevel props in λ i. inl (p a b i)
origin-prop n (inl a) (inr b) = absurd (omega arith)
origin-prop n (inr a) (inl b) = absurd (omega arith)
origin-prop n (inr a) (inr b) = let p : IsProp (n ≡ 2147483647) = hlevel props in λ i. inr (p a b i)

pub IsInRange-prop : (params : Params) → IsProp (IsInRange params)
IsInRange-prop params x y =
    let some_dims : IsProp (1 ≤ params.dims) = hlevel props in
    let dims : IsProp (params.dims ≤ 3) = hlevel props in
    let degree : IsProp (IfSome params.degree (λ g. g ≤ 2)) = hlevel props in
    let some_events : IsProp (1 ≤ params.events) = hlevel props in
    let events : IsProp (params.events ≤ 268435456) = hlevel props in
    let some_pages : IsProp (3 ≤ params.pages) = hlevel props in
    let pages : IsProp (params.pages ≤ 4294967295) = hlevel props in
    λ i. record {
      some_dims = some_dims x.some_dims y.some_dims i;
      dims = dims x.dims y.dims i;
      degree = degree x.degree y.degree i;
      some_events = some_events x.some_events y.some_events i;
      events = events x.events y.events i;
      some_pages = some_pages x.some_pages y.some_pages i;
      pages = pages x.pages y.pages i;
      origin = origin-prop params.origin x.origin y.origin i;
    }
