-- What setting the place of a page does, and that no page is forgotten by a change of a stage in memory.
use Rattle.std.proofs.Common.{◌≡◌, ℕ, ◌+◌, ◌-◌, ◌<◌, ◌≤◌, ◌==◌, ◌∙◌, if◌then◌else◌, false, true, List, [], ◌∷◌, ◌++◌, Option, Some, None, length, slice_set, ap, sym, inl, inr}
use Rattle.std.proofs.Math.Path.{fun_ext}
use Rattle.std.proofs.lemmas.Bool.{cases_Bool, or_parts}
use Rattle.std.proofs.lemmas.List.{length-set, length_push}
use Rattle.ports.specs.Pages.{PageMap, put_page, remove_page, blank_bytes}
use Rattle.ports.specs.Frame.{names_page}
use Rattle.ports.specs.Kept.{kept_of, map_of, used_bytes}
use Rattle.ports.specs.KeptLaws.{kept_of-length, kept_of-push, kept_of-set, map_of-end, map_of-push, used_bytes-blank}
use Rattle.ports.specs.Spare.{are_spare}
use Rattle.ports.specs.SpareLaws.{map_of-set}

-- The place of a page was set, to bytes that are `o` in the map.
pub record IsSet (pages filled : List (List ℕ)) (page : ℕ) (o : Option (List ℕ)) : Type 0 where
  pub len : length filled ≡ length pages
  pub kept : kept_of filled ≡ slice_set (kept_of pages) (page - 3) o
  pub map : map_of (kept_of filled) ≡ (λ p. if page == p then o else map_of (kept_of pages) p)

pub set_place : (pages filled : List (List ℕ)) (page : ℕ) (bytes : List ℕ) (o : Option (List ℕ)) → (3 ≤ page) × (page - 3 < length (kept_of pages))
    → filled ≡ slice_set pages (page - 3) bytes → used_bytes bytes ≡ o → IsSet pages filled page o
set_place pages filled page bytes o place set used =
    let kept = kept_of-set pages filled (page - 3) bytes o set used in
    record {
      len = ap length set ∙ length-set pages (page - 3) bytes;
      kept = kept;
      map = ap map_of kept ∙ fun_ext (map_of-set (kept_of pages) page o place.0 place.1);
    }

-- A page of zeros was pushed, and so the page past the last is in the map.
pub record IsLonger (pages longer : List (List ℕ)) : Type 0 where
  pub len : length longer ≡ length pages + 1
  pub kept : kept_of longer ≡ kept_of pages ++ Some blank_bytes ∷ []
  pub absent : map_of (kept_of pages) (3 + length pages) ≡ None
  pub map : map_of (kept_of longer) ≡ put_page (map_of (kept_of pages)) (3 + length pages) blank_bytes

pub push_blank : (pages longer : List (List ℕ)) → longer ≡ pages ++ blank_bytes ∷ [] → IsLonger pages longer
push_blank pages longer pushed =
    let kept : kept_of longer ≡ kept_of pages ++ Some blank_bytes ∷ [] = ap kept_of pushed ∙ kept_of-push pages blank_bytes used_bytes-blank in
    record {
      len = ap length pushed ∙ length_push pages blank_bytes;
      kept = kept;
      absent = rw (kept_of-length pages) at (map_of-end (kept_of pages));
      map = ap map_of kept ∙ rw (kept_of-length pages) at (map_of-push (kept_of pages) blank_bytes);
    }

pub same_spare : {kept other : List (Option (List ℕ))} {chain turned : List ℕ} → other ≡ kept → turned ≡ chain
    → are_spare kept chain ≡ true → are_spare other turned ≡ true
same_spare kept chain spare = rw (kept, chain) spare

-- A page that is not in the map after one was put there is another one.
pub none_put : (map filled : PageMap) (page p : ℕ) (bytes : List ℕ) → filled ≡ put_page map page bytes → filled p ≡ None
    → ((page == p) ≡ false) × (map p ≡ None)
none_put map filled page p bytes put none =
    let gone : put_page map page bytes p ≡ None = ap (λ (m : PageMap). m p) (sym put) ∙ none in
    elim (cases_Bool (page == p)) [
      | inl named ↦ let some : Some bytes ≡ None = rw named at gone in cc
      | inr other ↦ (other, rw other at gone)
    ]

-- A page that no chain names after one was put into it is another one.
pub none_removed : (map emptied : PageMap) (chain longer : List ℕ) (page p : ℕ) → emptied ≡ remove_page map page → longer ≡ page ∷ chain
    → emptied p ≡ None → names_page longer p ≡ false → (map p ≡ None) × (names_page chain p ≡ false)
none_removed map emptied chain longer page p removed more none unnamed =
    let parts = or_parts _ _ (ap (λ (pages : List ℕ). names_page pages p) (sym more) ∙ unnamed) in
    let other : (page == p) ≡ false = parts.0 in (rw other at (ap (λ (m : PageMap). m p) (sym removed) ∙ none), parts.1)

-- A page that is neither in the map nor in the chain after one was given out of the chain was in neither before.
pub none_allotted : (map filled : PageMap) (chain longer : List ℕ) (page p : ℕ) (bytes : List ℕ) → filled ≡ put_page map page bytes → longer ≡ page ∷ chain
    → filled p ≡ None → names_page chain p ≡ false → (map p ≡ None) × (names_page longer p ≡ false)
none_allotted map filled chain longer page p bytes put more none unnamed =
    let before = none_put map filled page p bytes put none in
    (before.1, rw (more, before.0) unnamed)
