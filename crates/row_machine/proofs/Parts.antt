-- Texts of which a part is written.
use Rattle.std.proofs.Common.{◌≡◌, ℕ, ◌≤◌, List, [], ◌∷◌, ◌++◌, length, take, drop, sym, ◌∙◌, ap, append_assoc}
use Rattle.std.proofs.lemmas.List.{take-append-drop, append-nil}
use Rattle.ports.specs.Written.{WritesPart, WritesMore}

-- the first n bytes of a text
pub writes_front : (written written' text : List ℕ) → ((n : ℕ) × (n ≤ length text) × (written' ≡ written ++ take n text)) → WritesPart written written' text
writes_front written written' text h = record { out = take h.0 text; rest = drop h.0 text; wrote = h.2; part = sym (take-append-drop h.0 text) }

-- nothing was written
pub nothing_more : (written written' : List ℕ) → written' ≡ written → WritesMore written written'
nothing_more written written' e = record { more = []; wrote = e ∙ sym (append-nil written) }

pub more_twice : (a b c : List ℕ) → WritesMore a b → WritesMore b c → WritesMore a c
more_twice a b c f g = record {
  more = f.more ++ g.more;
  wrote = g.wrote ∙ (ap (λ (t : List ℕ). t ++ g.more) f.wrote ∙ append_assoc a f.more g.more);
}

append_same : (a b c : List ℕ) → a ++ b ≡ a ++ c → b ≡ c
append_same [] b c e = e
append_same (x ∷ a) b c e = append_same a b c cc

-- What was gathered is the end of the replies, and a part of it was written.
pub part_of_all : (first now written gathered all : List ℕ) → WritesMore first now → now ++ gathered ≡ first ++ all → WritesPart now written gathered
    → WritesPart first written all
part_of_all first now written gathered all more virtual part = record {
  out = more.more ++ part.out;
  rest = part.rest;
  wrote = part.wrote ∙ (ap (λ (t : List ℕ). t ++ part.out) more.wrote ∙ append_assoc first more.more part.out);
  part = sym (append_same first (more.more ++ gathered) all
      (sym (append_assoc first more.more gathered) ∙ (ap (λ (t : List ℕ). t ++ gathered) (sym more.wrote) ∙ virtual)))
      ∙ (ap (λ (t : List ℕ). more.more ++ t) part.part ∙ sym (append_assoc more.more part.out part.rest));
}
