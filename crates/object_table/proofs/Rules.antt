-- The rules of nodes in memory, as lists in order.
use Rattle.std.proofs.Common.{ℕ, ◌+◌, ◌^◌, ◌<◌, ◌≤◌, ◌==◌, ◌&&◌, nat_lt, IsTrue, inl, inr, List, length, get_or, refl, arith}
use Rattle.std.specs.List.{All}
use Rattle.std.proofs.lemmas.Bool.{cases_lt, cases_eq, or_left, or_right, and_from, lt-ltb, eq-eqb}
use Rattle.bw_types.specs.declared.dated.Dated.{Dated}
use Rattle.page_layout.specs.Dated.{life_precedes, by_life_fits, IsDatedTyped}
use Rattle.page_layout.specs.LifeNode.{IsLifeLeaf, IsLifeIndex, IsLifeEntryTyped, life_node_page}
use Rattle.page_layout.specs.declared.life_node.LifeEntry.{LifeEntry}
use Rattle.object_table.specs.declared.form.Form.TheVariants.{ByLives}
use Rattle.object_table.specs.Keys.{key_of, key, low_key}
use Rattle.object_table.specs.Nodes.{FitsLevel}
use Rattle.object_table.specs.Stored.{leaf_of, index_of}
use Rattle.object_table.proofs.Nodes.{keys_ascend}
use Rattle.object_table.proofs.Ordered.{Proper, asc_from, asc_at}

precedes_from : (a b c d : ℕ) → b < 2 ^ 32 → d < 2 ^ 32 → key_of a b < key_of c d → IsTrue (life_precedes a b c d)
precedes_from a b c d fb fd less = elim (cases_lt a c) [
  | inl first ↦ or_left (nat_lt a c) (a == c && nat_lt b d) (lt-ltb a c first)
  | inr later ↦ elim (cases_eq a c) [
    | inl same ↦
        let below : b < d = omega (arith, less, same) in
        or_right (nat_lt a c) (a == c && nat_lt b d) (and_from (a == c) (nat_lt b d) (eq-eqb a c same) (lt-ltb b d below))
    | inr differ ↦ absurd (omega (arith, less, later, differ, fb, fd))
  ]
]

abbrev pub ProperObjects : List Dated → Type 0
ProperObjects objects = Proper key (λ d. IsTrue (by_life_fits d)) IsDatedTyped objects

abbrev pub ProperEntries : List LifeEntry → Type 0
ProperEntries entries = Proper low_key (λ e. 3 ≤ e.child) IsLifeEntryTyped entries

pub leaf_proper : (most : ℕ) (objects : List Dated) → IsLifeLeaf most objects → All IsDatedTyped objects → ProperObjects objects
leaf_proper most objects r typed = record {
  asc = asc_from key objects (λ k d h.
      keys_ascend (get_or objects k d).object.id (get_or objects k d).life (get_or objects (k + 1) d).object.id (get_or objects (k + 1) d).life
      (typed k d (omega (arith, h))).life (r.in_order.order k d h));
  each = r.in_order.each;
  types = typed;
}

pub leaf_rules : (most : ℕ) (objects : List Dated) → ProperObjects objects → 1 ≤ length objects → length objects ≤ most → IsLifeLeaf most objects
leaf_rules most objects p some few = record {
  some = some;
  few = few;
  in_order = record {
    each = p.each;
    order = λ k d h.
        precedes_from (get_or objects k d).object.id (get_or objects k d).life (get_or objects (k + 1) d).object.id (get_or objects (k + 1) d).life
        (p.types k d (omega (arith, h))).life (p.types (k + 1) d h).life (asc_at key objects k (k + 1) d p.asc (omega arith) h);
  };
}

pub index_proper : (most level : ℕ) (entries : List LifeEntry) → IsLifeIndex most level entries → All IsLifeEntryTyped entries → ProperEntries entries
index_proper most level entries r typed = record {
  asc = asc_from low_key entries (λ k d h.
      keys_ascend (get_or entries k d).low_id (get_or entries k d).low_life (get_or entries (k + 1) d).low_id (get_or entries (k + 1) d).low_life
      (typed k d (omega (arith, h))).1 (r.in_order.order k d h));
  each = r.in_order.each;
  types = typed;
}

pub index_rules : (most level : ℕ) (entries : List LifeEntry) → 2 ≤ level → level ≤ 16 → ProperEntries entries → 1 ≤ length entries → length entries ≤ most → IsLifeIndex most level entries
index_rules most level entries low high p some few = record {
  low_level = low;
  high_level = high;
  some = some;
  few = few;
  in_order = record {
    each = p.each;
    order = λ k d h.
        precedes_from (get_or entries k d).low_id (get_or entries k d).low_life (get_or entries (k + 1) d).low_id (get_or entries (k + 1) d).low_life
        (p.types k d (omega (arith, h))).1 (p.types (k + 1) d h).1 (asc_at low_key entries k (k + 1) d p.asc (omega arith) h);
  };
}

-- A node that is stored spells its page.
pub fits_leaf : (objects : List Dated) → ProperObjects objects → 1 ≤ length objects → length objects ≤ 14 → FitsLevel ByLives 1 (leaf_of objects) (life_node_page (leaf_of objects))
fits_leaf objects p some few = record { spelled = refl; rules = leaf_rules 14 objects p some few; typed = p.types; at_level = refl }

pub fits_index : (level : ℕ) (entries : List LifeEntry) → 2 ≤ level → level ≤ 16 → ProperEntries entries → 1 ≤ length entries → length entries ≤ 200
    → FitsLevel ByLives level (index_of level entries) (life_node_page (index_of level entries))
fits_index level entries low high p some few = record { spelled = refl; rules = index_rules 200 level entries low high p some few; typed = p.types; at_level = refl }
