-- Nodes of the trees over versions, read in place.
use Rattle.std.specs.Prelude.{◌≡◌, ℕ, min, List, ◌++◌, length, drop}
use Rattle.std.proofs.Common.{ap, ◌∙◌, append_assoc, arith}
use Rattle.page_layout.specs.Numbers.{spelled, number_in}
use Rattle.page_layout.specs.Bytes.{AreBytes, bytes-drop}
use Rattle.page_layout.specs.Respelled.{Respells, respelled, respelled_at, number_in-lt, length-entries_at, each_of}
use Rattle.page_layout.specs.SbNode.{sb_entry_bytes, sb_entry_at, IsSbEntryTyped, IsTyped, sb_node_in}

-- An entry names each of its bytes, so any 28 bytes are the spelling of the entry that is read of them.
pub sb-respells : Respells sb_entry_bytes sb_entry_at 28
sb-respells b h room =
    let low : List ℕ = spelled 4 (number_in 4 b) in
    let value : List ℕ = spelled 16 (number_in 16 (drop 4 b)) in
    let child : List ℕ = spelled 8 (number_in 8 (drop 20 b)) in
    append_assoc low (value ++ child) (drop 28 b)
    ∙ ap (λ (r : List ℕ). low ++ r) (append_assoc value child (drop 28 b))
    ∙ ap (λ (r : List ℕ). low ++ (value ++ r)) (respelled_at 20 8 b h room)
    ∙ ap (λ (r : List ℕ). low ++ r) (respelled_at 4 16 b h (omega arith))
    ∙ respelled 4 b h (omega arith)

sb-typed : (b : List ℕ) → AreBytes b → IsSbEntryTyped (sb_entry_at b)
sb-typed b h = (number_in-lt 4 b h, number_in-lt 16 (drop 4 b) (bytes-drop 4 b h), number_in-lt 8 (drop 20 b) (bytes-drop 20 b h))

pub sb_node_in-typed : (page : List ℕ) → AreBytes page → IsTyped (sb_node_in page)
sb_node_in-typed page h = each_of IsSbEntryTyped sb_entry_at 28 sb-typed (min (number_in 2 (drop 2 page)) 64) (drop 16 page) (bytes-drop 16 page h)

pub length-sb_entries : (page : List ℕ) → length (sb_node_in page).entries.items ≡ min (number_in 2 (drop 2 page)) 64
length-sb_entries page = length-entries_at sb_entry_bytes sb_entry_at 28 sb-respells (min (number_in 2 (drop 2 page)) 64) (drop 16 page)
