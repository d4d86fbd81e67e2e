-- Parts of a table that pass one after the other.
use Rattle.std.proofs.Common.{◌≡◌, ℕ, ◌+◌, ◌-◌, Bool, true, false, ◌||◌, ◌==◌, List, [], ◌∷◌, ◌++◌, refl, sym, ap, ◌∙◌, inl, inr, subst, arith, append_assoc}
use Rattle.std.proofs.lemmas.Bool.{cases_Bool, or_left, or_right, or_cases, eq-eqb, eqb-true}
use Rattle.std.proofs.lemmas.List.{append-nil}
use Rattle.bw_types.specs.declared.dated.Dated.{Dated}
use Rattle.ports.specs.Calls.{WasRead}
use Rattle.ports.specs.Frame.{names_page, AreApart}
use Rattle.ports.specs.FrameLaws.{names_page-append}
use Rattle.ports.specs.declared.pages.Pages.{Ghosts}
use Rattle.page_layout.specs.Footprint.{NamesNoneTwice}
use Rattle.page_layout.specs.FootprintLaws.{once_right, once_apart, once_join, apart_append, apart_parts, apart_sym}
use Rattle.image_check.specs.Passing.{CanPass, Passed, ReadsSeen, SeesOwn}

-- nothing passes by itself
pub passes_none : (lives : List Dated) (seen : List ℕ) → Passed (Unit {0}) [] [] lives lives seen seen
passes_none lives seen = record {
  can = record { stands = tt; once = tt; apart = λ p named. refl };
  kept = sym (append-nil lives);
  names = λ p. ap (λ (ps : List ℕ). names_page ps p) (sym (append-nil seen));
}

-- one page passes where it was not seen
pub page_passes : (lives : List Dated) (seen after : List ℕ) (page : ℕ) → names_page seen page ≡ false → ((p : ℕ) → names_page after p ≡ names_page (seen ++ page ∷ []) p)
    → Passed (Unit {0}) (page ∷ []) [] lives lives seen after
page_passes lives seen after page new names = record {
  can = record {
    stands = tt;
    once = (refl, tt);
    apart = λ p named. elim (cases_Bool (page == p)) [
      | inl same ↦
          let at : names_page seen page ≡ true = subst (λ (q : ℕ). names_page seen q ≡ true) (sym (eqb-true page p same)) named in
          absurd (let no : true ≡ false = sym at ∙ new in cc)
      | inr other ↦ rw other refl
    ];
  };
  kept = sym (append-nil lives);
  names = names;
}

-- a page that was seen does not pass
pub seen_page : (stands : Type 0) (seen own : List ℕ) (page : ℕ) → names_page seen page ≡ true → CanPass stands (page ∷ own) seen → ⊥
seen_page stands seen own page there can =
    let named : names_page (page ∷ own) page ≡ true = or_left (page == page) (names_page own page) (eq-eqb page page refl) in
    let not_named = can.apart page there in
    let no : true ≡ false = sym named ∙ not_named in
    absurd cc

-- those that are apart from two lists by their names
apart_by_names : (seen own after other : List ℕ) → AreApart seen other → AreApart own other → ((p : ℕ) → names_page after p ≡ names_page (seen ++ own) p) → AreApart after other
apart_by_names seen own after other first second names = λ p named. apart_append seen own other first second p (sym (names p) ∙ named)

module _ (A B : Type 0) (own others : List ℕ) (told more lives mid kept : List Dated) (seen between after : List ℕ) where
  -- what stands on from here, where the whole can pass
  pub can_rest : Passed A own told lives mid seen between → NamesNoneTwice (own ++ others) → AreApart seen (own ++ others) → B → CanPass B others between
  can_rest first once apart stands = record {
    stands = stands;
    once = once_right own others once;
    apart = apart_by_names seen own between others (λ p named. (apart_right p named)) (once_apart own others once) first.names;
  } where
    apart_right : AreApart seen others
    apart_right = apart_sym others seen (apart_parts own others seen (apart_sym seen (own ++ others) apart)).1

  -- one part after another
  pub passed_more : (C : Type 0) → C → Passed A own told lives mid seen between → Passed B others more mid kept between after → Passed C (own ++ others) (told ++ more) lives kept seen after
  passed_more C stands first second = record {
    can = record {
      stands = stands;
      once = once_join own others first.can.once second.can.once own_apart;
      apart = apart_sym (own ++ others) seen (apart_append own others seen (apart_sym seen own first.can.apart) (apart_sym seen others seen_apart));
    };
    kept = second.kept ∙ (ap (λ (ds : List Dated). ds ++ more) first.kept ∙ append_assoc lives told more);
    names = λ p.
        second.names p
        ∙ (names_page-append between others p
        ∙ (ap (λ (b : Bool). b || names_page others p) (first.names p)
        ∙ (sym (names_page-append (seen ++ own) others p)
        ∙ ap (λ (ps : List ℕ). names_page ps p) (append_assoc seen own others))));
  } where
    parts : AreApart seen others × AreApart own others
    parts = apart_parts seen own others (λ p named. second.can.apart p (first.names p ∙ named))

    seen_apart : AreApart seen others
    seen_apart = parts.0

    own_apart : AreApart own others
    own_apart = parts.1

-- what was seen so far is of the whole
pub sees_first : (own others seen after : List ℕ) → SeesOwn own seen after → SeesOwn (own ++ others) seen after
sees_first own others seen after sees = λ p named.
    ap (λ (ps : List ℕ). names_page ps p) (sym (append_assoc seen own others))
    ∙ (names_page-append (seen ++ own) others p ∙ or_left (names_page (seen ++ own) p) (names_page others p) (sees p named))

pub sees_more : (own others seen between after : List ℕ) → SeesOwn own seen between → SeesOwn others between after → SeesOwn (own ++ others) seen after
sees_more own others seen between after first second = λ p named.
    let split = sym (names_page-append between others p) ∙ second p named in
    ap (λ (ps : List ℕ). names_page ps p) (sym (append_assoc seen own others))
    ∙ (names_page-append (seen ++ own) others p
    ∙ elim (or_cases (names_page between p) (names_page others p) split) [
      | inl here ↦ or_left (names_page (seen ++ own) p) (names_page others p) (first p here)
      | inr there ↦ or_right (names_page (seen ++ own) p) (names_page others p) there
    ])

pub sees_passed : (A : Type 0) (own : List ℕ) (told lives kept : List Dated) (seen after : List ℕ) → Passed A own told lives kept seen after → SeesOwn own seen after
sees_passed A own told lives kept seen after passed = λ p named. sym (passed.names p) ∙ named

pub sees_nothing : (own seen : List ℕ) → SeesOwn own seen seen
sees_nothing own seen = λ p named. names_page-append seen own p ∙ or_left (names_page seen p) (names_page own p) named

module _ {P : Type 0} (g : Ghosts P) where
  pub reads_nothing : (n : ℕ) (pages : P) → ReadsSeen g n n pages pages
  reads_nothing n pages = record {
    more = omega arith;
    read = record {
      tells = refl;
      map = refl;
      base = refl;
      limit = refl;
      allotted = refl;
      chain = refl;
      free_in_order = λ f. f;
      gets = omega arith;
      at_most = omega arith;
      faults = omega arith;
    };
  }

  pub reads_more : (a b c : ℕ) (x y z : P) → ReadsSeen g a b x y → ReadsSeen g b c y z → ReadsSeen g a c x z
  reads_more a b c x y z first second = record {
    more = omega (arith, first.more, second.more);
    read = record {
      tells = second.read.tells ∙ first.read.tells;
      map = second.read.map ∙ first.read.map;
      base = second.read.base ∙ first.read.base;
      limit = second.read.limit ∙ first.read.limit;
      allotted = second.read.allotted ∙ first.read.allotted;
      chain = second.read.chain ∙ first.read.chain;
      free_in_order = λ f. second.read.free_in_order (first.read.free_in_order f);
      gets = omega (arith, first.read.gets, second.read.gets);
      at_most = omega (arith, first.read.at_most, second.read.at_most, first.more, second.more);
      faults = omega (arith, first.read.faults, second.read.faults);
    };
  }

  -- one page more was seen, and one get at most
  pub reads_one : (a b : ℕ) (x y : P) → b ≡ a + 1 → WasRead g 1 x y → ReadsSeen g a b x y
  reads_one a b x y more read = record {
    more = omega (arith, more);
    read = subst (λ (n : ℕ). WasRead g n x y) (let one : 1 ≡ b - a = omega (arith, more) in one) read;
  }
