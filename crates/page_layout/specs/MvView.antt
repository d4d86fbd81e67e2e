-- Nodes of the multiversion trees, read in place.
use Rattle.std.specs.Prelude.{◌≡◌, ℕ, ◌≤◌, min, List, ◌++◌, length, drop, slice_index, IsTrue}
use Rattle.std.proofs.Common.{sym, ap, ◌∙◌, subst, append_assoc, arith}
use Rattle.page_layout.specs.Numbers.{spelled, number_in}
use Rattle.page_layout.specs.Bytes.{AreBytes, bytes-drop}
use Rattle.page_layout.specs.Entries.{AreInOrder, entries_at}
use Rattle.page_layout.specs.Counted.{word_of, double_of}
use Rattle.page_layout.specs.Respelled.{Respells, respelled, respelled_at, number_in-lt, length-entries_at, each_of}
use Rattle.page_layout.specs.declared.mv_node.MvEntry.{MvEntry}
use Rattle.page_layout.specs.MvNode.{mv_entry_bytes, mv_entry_at, mv_keeps, mv_precedes, before_fits, IsMvEntryTyped, IsMvNode, IsTyped, mv_node_in}

-- An entry names each of its bytes, so any 40 bytes are the spelling of the entry that is read of them.
pub mv-respells : Respells mv_entry_bytes mv_entry_at 40
mv-respells b h room =
    let low : List ℕ = spelled 8 (number_in 8 b) in
    let start : List ℕ = spelled 4 (number_in 4 (drop 8 b)) in
    let end : List ℕ = spelled 4 (number_in 4 (drop 12 b)) in
    let value : List ℕ = spelled 16 (number_in 16 (drop 16 b)) in
    let child : List ℕ = spelled 8 (number_in 8 (drop 32 b)) in
    append_assoc low (start ++ (end ++ (value ++ child))) (drop 40 b)
    ∙ ap (λ (r : List ℕ). low ++ r) (append_assoc start (end ++ (value ++ child)) (drop 40 b))
    ∙ ap (λ (r : List ℕ). low ++ (start ++ r)) (append_assoc end (value ++ child) (drop 40 b))
    ∙ ap (λ (r : List ℕ). low ++ (start ++ (end ++ r))) (append_assoc value child (drop 40 b))
    ∙ ap (λ (r : List ℕ). low ++ (start ++ (end ++ (value ++ r)))) (respelled_at 32 8 b h room)
    ∙ ap (λ (r : List ℕ). low ++ (start ++ (end ++ r))) (respelled_at 16 16 b h (omega arith))
    ∙ ap (λ (r : List ℕ). low ++ (start ++ r)) (respelled_at 12 4 b h (omega arith))
    ∙ ap (λ (r : List ℕ). low ++ r) (respelled_at 8 4 b h (omega arith))
    ∙ respelled 8 b h (omega arith)

mv-typed : (b : List ℕ) → AreBytes b → IsMvEntryTyped (mv_entry_at b)
mv-typed b h = (number_in-lt 8 b h, number_in-lt 4 (drop 8 b) (bytes-drop 8 b h), number_in-lt 4 (drop 12 b) (bytes-drop 12 b h), number_in-lt 16 (drop 16 b) (bytes-drop 16 b h), number_in-lt 8 (drop 32 b) (bytes-drop 32 b h))

pub mv_node_in-typed : (page : List ℕ) → AreBytes page → IsTyped (mv_node_in page)
mv_node_in-typed page h = record {
  place = number_in-lt 4 (drop 4 page) (bytes-drop 4 page h);
  before = number_in-lt 8 (drop 8 page) (bytes-drop 8 page h);
  entries = each_of IsMvEntryTyped mv_entry_at 40 mv-typed (min (number_in 2 (drop 2 page)) 96) (drop 16 page) (bytes-drop 16 page h);
}

pub length-mv_entries : (page : List ℕ) → length (mv_node_in page).entries.items ≡ min (number_in 2 (drop 2 page)) 96
length-mv_entries page = length-entries_at mv_entry_bytes mv_entry_at 40 mv-respells (min (number_in 2 (drop 2 page)) 96) (drop 16 page)

-- The entries of a page, in order.
abbrev pub InOrder : List ℕ → List MvEntry → Type 0
InOrder page entries = AreInOrder (λ e. IsTrue (mv_keeps (slice_index page 1) e)) (λ e next. IsTrue (mv_precedes e next)) entries

module _ (page body : List ℕ) (count : ℕ) (is_count : count ≡ min (number_in 2 (drop 2 page)) 96) (is_body : body ≡ drop 16 page) where
  same_entries : entries_at mv_entry_at 40 count body ≡ (mv_node_in page).entries.items
  same_entries = ap (λ (n : ℕ). entries_at mv_entry_at 40 n body) is_count ∙ ap (λ (b : List ℕ). entries_at mv_entry_at 40 (min (number_in 2 (drop 2 page)) 96) b) is_body

  pub is_mv_node : 1 ≤ slice_index page 1 → slice_index page 1 ≤ 16 → 1 ≤ word_of page → IsTrue (before_fits (word_of page) (double_of page)) → 1 ≤ count
      → InOrder page (entries_at mv_entry_at 40 count body) → IsMvNode (mv_node_in page)
  is_mv_node low_level high_level place before some order = record {
    low_level = low_level;
    high_level = high_level;
    place = place;
    before = before;
    some = omega (arith, length-mv_entries page);
    few = omega (arith, length-mv_entries page);
    entries = subst (λ (es : List MvEntry). InOrder page es) same_entries order;
  }

  pub in_order : IsMvNode (mv_node_in page) → InOrder page (entries_at mv_entry_at 40 count body)
  in_order h = subst (λ (es : List MvEntry). InOrder page es) (sym same_entries) h.entries
