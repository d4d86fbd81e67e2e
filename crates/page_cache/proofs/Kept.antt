-- What the steps of a cache are to a look-up of a page.
use Rattle.std.proofs.Common.{◌≡◌, ℕ, zero, suc, ◌-◌, nat_eq, true, false, cond, List, [], ◌∷◌, map, length, take, Option, Some, option_map, Result, Ok, Err, OnOk, OnErr, IsSome, is_some, ◌≤◌, refl, ap, arith}
use Rattle.std.proofs.lemmas.Bool.Decides.{nat_tests}
use Rattle.std.proofs.lemmas.List.{length-map}
use Rattle.std.proofs.lemmas.Map.{lookup-set_value}
use Rattle.std.specs.Cmp.{nat_eq_equiv}
use Rattle.std.specs.Map.{lookup, lookup_entry, remove_entry, set_value}
use Rattle.std.specs.Box.{box_value}
use Rattle.std.specs.Global.{Box}
use Rattle.lru.specs.LruCache.{LruCache, lru_cache, promoted, put_entries}
use Rattle.lru.proofs.CallerLemmas.{Contains-lookup_entry}
use Rattle.ports.specs.Frame.{names_page}
use Rattle.ports.specs.Pages.{PageMap}
use Rattle.page_cache.specs.Cache.{KeepsAtMost, KeepsNoOther, renewed}

-- the room of a page
abbrev pub Room : Type 0
Room = Box (List ℕ)

-- what a cache lists, by page numbers
abbrev Entries : Type 0
Entries = List (ℕ × Room)

abbrev at : ℕ → Entries → Option Room
at page es = lookup (nat_eq page) es

at-removed : (k p : ℕ) (es : Entries) → nat_eq k p ≡ false → at p (remove_entry (nat_eq k) es) ≡ at p es
at-removed k p [] differs = refl
at-removed k p (e ∷ es) differs = grind (arith, nat_tests, at-removed k p es differs)

-- an entry that goes to the front, with the bytes v
at-moved : (k p : ℕ) (es : Entries) (f : ℕ × Room) (v : Room) → lookup_entry (nat_eq k) es ≡ Some f
    → at p ((f.0, v) ∷ remove_entry (nat_eq k) es) ≡ cond (nat_eq k p) (Some v) (at p es)
at-moved k p es f v found = grind (arith, nat_tests, at-removed, Contains-lookup_entry)

-- the look-up of an entry finds what the look-up of its page finds
at-entry : (k : ℕ) (es : Entries) → at k es ≡ option_map (λ (e : ℕ × Room). e.1) (lookup_entry (nat_eq k) es)
at-entry k [] = refl
at-entry k (e ∷ es) = grind (arith, at-entry k es)

at-take : (n p : ℕ) (es : Entries) (b : Room) → at p (take n es) ≡ Some b → at p es ≡ Some b
at-take zero p es b h = cc
at-take (suc n) p [] b h = h
at-take (suc n) p (e ∷ es) b h = grind (arith, at-take n p es b)

abbrev pub kept : Entries → PageMap
kept es = λ p. option_map (λ room. box_value room) (at p es)

-- the order of use says nothing on what is kept
pub kept-promoted : (k p : ℕ) (es : Entries) → kept (promoted (nat_eq k) es) p ≡ kept es p
kept-promoted k p es = grind (arith, nat_tests, at-moved, at-entry)

-- after a put, which may have found no memory
pub kept-put : {T E : Type 0} (r : Result T E) (before old new : LruCache ℕ Room) (k : ℕ) (v : Room) (bytes : List ℕ) → old ≡ before → box_value v ≡ bytes
    → OnOk r (new ≡ lru_cache (put_entries nat_eq old k v) old.cap) → OnErr r (new ≡ old)
    → KeepsNoOther (kept before.entries) (kept new.entries) k bytes
kept-put (Ok t) before old new k v bytes was same put err p b h = grind (arith, nat_tests, at-moved, at-take (old.cap - 1) p old.entries)
kept-put (Err e) before old new k v bytes was same ok stays p b h = grind arith

-- a page that is written over where it is kept
pub kept-set : (k p : ℕ) (es : Entries) (x w : Room) → at k es ≡ Some x → kept (set_value (nat_eq k) es w) p ≡ renewed (kept es) k (box_value w) p
kept-set k p es x w here = grind (arith, nat_tests, lookup-set_value nat_eq_equiv (nat_eq k) (nat_eq_equiv.congr k) p w es (ap is_some here))

named : (p : ℕ) (es : Entries) → IsSome (kept es p) → names_page (map (λ (e : ℕ × Room). e.0) es) p ≡ true
named p [] h = cc
named p (e ∷ es) h = grind (arith, nat_tests, named p es)

-- what a cache lists is no more than it may
pub keeps_few : (es : Entries) (most : ℕ) → length es ≤ most → KeepsAtMost (kept es) most
keeps_few es most few = record {
  pages = map (λ (e : ℕ × Room). e.0) es;
  few = rw length-map few;
  all = λ p h. named p es h;
}
