-- The laws of `Replaces`: changes compose, stand beside one another, and leave apart pages alone.
use Rattle.std.specs.Prelude.{◌≡◌, ℕ, ◌==◌, true, false, ◌||◌, List, [], ◌∷◌, ◌++◌, Some, None, Option, IsSome, refl}
use Rattle.std.proofs.Common.{sym, ◌∙◌, inl, inr, ◌⊎◌}
use Rattle.std.proofs.lemmas.Bool.{cases_Bool, or_cases, or_parts}
use Rattle.ports.specs.Pages.{PageMap, put_page, remove_page}
use Rattle.ports.specs.Frame.{names_page, AreApart, AreInMap, AgreeOn, Replaces, KeepsPages}

-- One change after another is a change, whatever the pages in between are.
pub Replaces-then : (a b c : List ℕ) (first second third : PageMap)
    → Replaces a b first second → Replaces b c second third → Replaces a c first third
Replaces-then a b c first second third f g = record {
  others = λ page na nc. elim (cases_Bool (names_page b page)) [
    | inl yes_b ↦ g.gone page yes_b nc ∙ sym (f.fresh page na yes_b)
    | inr no_b ↦ g.others page no_b nc ∙ f.others page na no_b
  ];
  fresh = λ page na yc. elim (cases_Bool (names_page b page)) [
    | inl yes_b ↦ f.fresh page na yes_b
    | inr no_b ↦ sym (f.others page na no_b) ∙ g.fresh page no_b yc
  ];
  gone = λ page ya nc. elim (cases_Bool (names_page b page)) [
    | inl yes_b ↦ g.gone page yes_b nc
    | inr no_b ↦ g.others page no_b nc ∙ f.gone page ya no_b
  ];
}

pub names_page-append : (xs ys : List ℕ) (page : ℕ) → names_page (xs ++ ys) page ≡ (names_page xs page || names_page ys page)
names_page-append [] ys page = refl
names_page-append (x ∷ xs) ys page = elim (cases_Bool (x == page)) [
  | inl named ↦ rw named refl
  | inr other ↦ rw other (names_page-append xs ys page)
]

named_by_one : (xs ys : List ℕ) (page : ℕ) → names_page (xs ++ ys) page ≡ true → (names_page xs page ≡ true) ⊎ (names_page ys page ≡ true)
named_by_one xs ys page h = or_cases _ _ (sym (names_page-append xs ys page) ∙ h)

named_by_none : (xs ys : List ℕ) (page : ℕ) → names_page (xs ++ ys) page ≡ false → (names_page xs page ≡ false) × (names_page ys page ≡ false)
named_by_none xs ys page h = or_parts _ _ (sym (names_page-append xs ys page) ∙ h)

-- Two changes of different pages, one after the other, are one change of all of them.
pub Replaces-beside : (a b c d : List ℕ) (first second third : PageMap)
    → Replaces a b first second → Replaces c d second third → Replaces (a ++ c) (b ++ d) first third
Replaces-beside a b c d first second third f g = record {
  others = λ page no_old no_new.
      let o = named_by_none a c page no_old in
      let n = named_by_none b d page no_new in
      g.others page o.1 n.1 ∙ f.others page o.0 n.0;
  fresh = λ page no_old new.
      let o = named_by_none a c page no_old in
      elim (cases_Bool (names_page b page)) [
        | inl yes_b ↦ f.fresh page o.0 yes_b
        | inr no_b ↦ elim (named_by_one b d page new) [
          | inl yes_b ↦ f.fresh page o.0 yes_b
          | inr yes_d ↦ sym (f.others page o.0 no_b) ∙ g.fresh page o.1 yes_d
        ]
      ];
  gone = λ page old no_new.
      let n = named_by_none b d page no_new in
      elim (cases_Bool (names_page c page)) [
        | inl yes_c ↦ g.gone page yes_c n.1
        | inr no_c ↦ elim (named_by_one a c page old) [
          | inl yes_a ↦ g.others page no_c n.1 ∙ f.gone page yes_a n.0
          | inr yes_c ↦ g.gone page yes_c n.1
        ]
      ];
}

pub Replaces-same : (pages : List ℕ) (map : PageMap) → Replaces pages pages map map
Replaces-same pages map = record {
  others = λ page a b. refl;
  fresh = λ page a b. cc;
  gone = λ page a b. cc;
}

-- The lists count by the pages that they name, and not by their order.
pub Replaces-by_names : (a b c d : List ℕ) (before after : PageMap)
    → ((page : ℕ) → names_page c page ≡ names_page a page) → ((page : ℕ) → names_page d page ≡ names_page b page)
    → Replaces a b before after → Replaces c d before after
Replaces-by_names a b c d before after old new f = record {
  others = λ page no_c no_d. f.others page (sym (old page) ∙ no_c) (sym (new page) ∙ no_d);
  fresh = λ page no_c yes_d. f.fresh page (sym (old page) ∙ no_c) (sym (new page) ∙ yes_d);
  gone = λ page yes_c no_d. f.gone page (sym (old page) ∙ yes_c) (sym (new page) ∙ no_d);
}

missing_is_none : (o : Option (List ℕ)) → o ≡ None → IsSome o → ⊥
missing_is_none None e h = cc
missing_is_none (Some x) e h = cc

-- Pages that are in the map, and apart from what a change replaces, are not used by it and stay as they are.
pub Replaces-apart : (pages old new : List ℕ) (before after : PageMap) → Replaces old new before after
    → AreInMap before pages → AreApart pages old → AreApart pages new
Replaces-apart pages old new before after f in_map apart = λ page named. elim (cases_Bool (names_page new page)) [
  | inl yes_new ↦ absurd (missing_is_none _ (f.fresh page (apart page named) yes_new) (in_map page named))
  | inr no_new ↦ no_new
]

pub Replaces-agree : (pages old new : List ℕ) (before after : PageMap) → Replaces old new before after
    → AreInMap before pages → AreApart pages old → AgreeOn pages before after
Replaces-agree pages old new before after f in_map apart = λ page named.
    f.others page (apart page named) (Replaces-apart pages old new before after f in_map apart page named)

one_named : (page p : ℕ) → names_page (page ∷ []) p ≡ true → (page == p) ≡ true
one_named page p h = elim (or_cases (page == p) false h) [ inl named ↦ named | inr other ↦ cc ]

none_named : (page p : ℕ) → names_page (page ∷ []) p ≡ false → (page == p) ≡ false
none_named page p h = (or_parts (page == p) false h).0

pub Replaces-put : (map : PageMap) (page : ℕ) (bytes : List ℕ) → Replaces (page ∷ []) (page ∷ []) map (put_page map page bytes)
Replaces-put map page bytes = record {
  others = λ p a b. let other = none_named page p b in rw other refl;
  fresh = λ p a b. cc;
  gone = λ p a b. cc;
}

pub Replaces-free : (map : PageMap) (page : ℕ) → Replaces (page ∷ []) [] map (remove_page map page)
Replaces-free map page = record {
  others = λ p a b. let other = none_named page p a in rw other refl;
  fresh = λ p a b. cc;
  gone = λ p a b. let named = one_named page p a in rw named refl;
}

pub KeepsPages-then : (first second third : PageMap) → KeepsPages first second → KeepsPages second third → KeepsPages first third
KeepsPages-then first second third f g = λ page h. g page (f page h)
