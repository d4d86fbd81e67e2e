-- How calls that print, one after the other, are one that prints all.
use Rattle.std.proofs.Common.{◌≡◌, ℕ, Bool, ◌≤◌, IsTrue, List, [], ◌++◌, length, take, drop, refl, sym, ap, subst, ◌∙◌, append_assoc}
use Rattle.std.proofs.lemmas.List.{append-nil, take-append-drop}
use Rattle.std.specs.Prelude.{Result, Ok, Err, IsErr, OnErr}
use Rattle.ports.specs.Written.{WritesPart}
use Rattle.ports.specs.Count.{Rose}
use Rattle.history_text.specs.Given.{Gave, Gives, Standing, Stopped, standing}

-- where nothing was printed
pub gave_nothing : (a : Standing) → Gave a a []
gave_nothing a = record { put = []; tells = λ t. t; written = λ _. sym (append-nil a.written); left = sym (append-nil a.gathered); faults = refl }

-- what is left of the bytes that two calls printed
both_left : (p q a b c xs ys : List ℕ) → p ++ b ≡ a ++ xs → q ++ c ≡ b ++ ys → (p ++ q) ++ c ≡ a ++ (xs ++ ys)
both_left p q a b c xs ys e f =
    append_assoc p q c ∙ ap (λ (z : List ℕ). p ++ z) f ∙ sym (append_assoc p b ys) ∙ ap (λ (z : List ℕ). z ++ ys) e ∙ append_assoc a xs ys

-- where two calls printed
pub gave_then : {a b c : Standing} {xs ys : List ℕ} → Gave a b xs → Gave b c ys → Gave a c (xs ++ ys)
gave_then {a} {b} {c} {xs} {ys} f s = record {
  put = f.put ++ s.put;
  tells = λ t. s.tells (f.tells t);
  written = λ t. s.written (f.tells t) ∙ ap (λ (z : List ℕ). z ++ s.put) (f.written t) ∙ append_assoc a.written f.put s.put;
  left = both_left f.put s.put a.gathered b.gathered c.gathered xs ys f.left s.left;
  faults = s.faults ∙ f.faults;
}

-- a front that the second call put, as one of all bytes
front_then : (p w v u g b xs ys : List ℕ) → v ≡ w ++ p → p ++ b ≡ g ++ xs → WritesPart v u (b ++ ys) → WritesPart w u (g ++ (xs ++ ys))
front_then p w v u g b xs ys e l f =
    let all : g ++ (xs ++ ys) ≡ p ++ (b ++ ys) = sym (append_assoc g xs ys) ∙ ap (λ (z : List ℕ). z ++ ys) (sym l) ∙ append_assoc p b ys in
    subst (λ (z : List ℕ). WritesPart w u z) (sym all) (record {
      out = p ++ f.out;
      rest = f.rest;
      wrote = f.wrote ∙ ap (λ (z : List ℕ). z ++ f.out) e ∙ append_assoc w p f.out;
      part = ap (λ (z : List ℕ). p ++ z) f.part ∙ sym (append_assoc p f.out f.rest);
    })

-- where the second call failed
pub stopped_then : {a b c : Standing} {xs ys : List ℕ} → Gave a b xs → Stopped b c ys → Stopped a c (xs ++ ys)
stopped_then {a} {b} {c} {xs} {ys} f s = record {
  part = λ t u. front_then f.put a.written b.written c.written a.gathered b.gathered xs ys (f.written t) f.left (s.part (f.tells t) u);
  faults = subst (λ (n : ℕ). Rose n c.faults) f.faults s.faults;
}

front_more : (w u xs ys : List ℕ) → WritesPart w u xs → WritesPart w u (xs ++ ys)
front_more w u xs ys f = record {
  out = f.out;
  rest = f.rest ++ ys;
  wrote = f.wrote;
  part = ap (λ (z : List ℕ). z ++ ys) f.part ∙ append_assoc f.out f.rest ys;
}

-- where more was to come after the call that failed
pub stopped_more : {a b : Standing} {xs : List ℕ} → Stopped a b xs → (ys : List ℕ) → Stopped a b (xs ++ ys)
stopped_more {a} {b} {xs} s ys = record {
  part = λ t u. subst (λ (z : List ℕ). WritesPart a.written b.written z) (append_assoc a.gathered xs ys) (front_more a.written b.written (a.gathered ++ xs) ys (s.part t u));
  faults = s.faults;
}

-- where the second call is the last one
pub gives_then : {T E : Type 0} (result : Result T E) {a b : Standing} (c : Standing) {xs : List ℕ} (ys : List ℕ) → Gave a b xs → Gives result b c ys → Gives result a c (xs ++ ys)
gives_then (Ok x) c ys f s = gave_then f s
gives_then (Err e) c ys f s = stopped_then f s

-- where a piece is put by itself, behind all that was gathered
alone : {t u : Bool} {w v : List ℕ} {f g : ℕ} {room piece : List ℕ} → room ≡ [] → (IsTrue t → IsTrue u) → (IsTrue t → v ≡ w ++ piece) → g ≡ f
    → Gave (standing t w f room) (standing u v g room) piece
alone {room = room} {piece = piece} empty tells put calm = record {
  put = piece;
  tells = tells;
  written = put;
  left = ap (λ (z : List ℕ). piece ++ z) empty ∙ append-nil piece ∙ sym (ap (λ (z : List ℕ). z ++ piece) empty);
  faults = calm;
}

-- where the sink failed at a piece that is all that is left
pub stopped_put : {t u : Bool} {w v : List ℕ} {f g : ℕ} {first last : List ℕ} (piece xs : List ℕ) → piece ≡ first ++ xs
    → (IsTrue t → IsTrue u → (n : ℕ) × (n ≤ length piece) × (v ≡ w ++ take n piece)) → Rose f g → Stopped (standing t w f first) (standing u v g last) xs
stopped_put piece xs e part rose = record {
  part = λ t u. record {
    out = take (part t u).0 piece;
    rest = drop (part t u).0 piece;
    wrote = (part t u).2;
    part = sym e ∙ sym (take-append-drop (part t u).0 piece);
  };
  faults = rose;
}

-- what was gathered is put, and then the piece by itself
pub alone_gave : {t0 t1 t2 : Bool} {w0 w1 w2 : List ℕ} {f0 f1 f2 : ℕ} {old first emptied last piece : List ℕ}
    → first ≡ old → emptied ≡ [] → last ≡ emptied → Gave (standing t0 w0 f0 first) (standing t1 w1 f1 emptied) []
    → (IsTrue t1 → IsTrue t2) → (IsTrue t1 → w2 ≡ w1 ++ piece) → f2 ≡ f1 → Gave (standing t0 w0 f0 old) (standing t2 w2 f2 last) piece
alone_gave {t0} {t1} {t2} {w0} {w1} {w2} {f0} {f1} {f2} {old} {first} {emptied} {last} {piece} e empty l f tells put calm =
    let at : Gave (standing t0 w0 f0 old) (standing t1 w1 f1 emptied) [] = subst (λ (z : List ℕ). Gave (standing t0 w0 f0 z) (standing t1 w1 f1 emptied) []) e f in
    subst (λ (z : List ℕ). Gave (standing t0 w0 f0 old) (standing t2 w2 f2 z) piece) (sym l)
    (gave_then at (alone empty tells put calm))

pub alone_stopped : {t0 t1 t2 : Bool} {w0 w1 w2 : List ℕ} {f0 f1 f2 : ℕ} {old first emptied last piece : List ℕ}
    → first ≡ old → emptied ≡ [] → Gave (standing t0 w0 f0 first) (standing t1 w1 f1 emptied) []
    → (IsTrue t1 → IsTrue t2 → (n : ℕ) × (n ≤ length piece) × (w2 ≡ w1 ++ take n piece)) → Rose f1 f2
    → Stopped (standing t0 w0 f0 old) (standing t2 w2 f2 last) piece
alone_stopped {t0} {t1} {t2} {w0} {w1} {w2} {f0} {f1} {f2} {old} {first} {emptied} {last} {piece} e empty f part rose =
    let at : Gave (standing t0 w0 f0 old) (standing t1 w1 f1 emptied) [] = subst (λ (z : List ℕ). Gave (standing t0 w0 f0 z) (standing t1 w1 f1 emptied) []) e f in
    stopped_then at (stopped_put piece piece (sym (ap (λ (z : List ℕ). z ++ piece) empty)) part rose)

-- the same bytes in other words
pub gives_same : {T E : Type 0} (result : Result T E) (a b : Standing) {xs ys : List ℕ} → xs ≡ ys → Gives result a b xs → Gives result a b ys
gives_same result a b e s = subst (λ (z : List ℕ). Gives result a b z) e s

pub gave_same : {a b : Standing} {xs ys : List ℕ} → xs ≡ ys → Gave a b xs → Gave a b ys
gave_same {a} {b} e s = subst (λ (z : List ℕ). Gave a b z) e s

pub stopped_same : {a b : Standing} {xs ys : List ℕ} → xs ≡ ys → Stopped a b xs → Stopped a b ys
stopped_same {a} {b} e s = subst (λ (z : List ℕ). Stopped a b z) e s

-- an answer that is the failure
pub failed_gives : {T E : Type 0} (result : Result T E) {a b : Standing} {xs : List ℕ} → IsErr result → Stopped a b xs → Gives result a b xs
failed_gives (Ok x) none s = absurd (cc)
failed_gives (Err e) some s = s

-- In the midst of printing all: the front is printed, and these bytes are left.
pub record Amid (a b : Standing) (all left : List ℕ) : Type 0 where
  pub front : List ℕ
  pub gave : Gave a b front
  pub splits : all ≡ front ++ left

pub amid_start : {a : Standing} {all left : List ℕ} → all ≡ left → Amid a a all left
amid_start {a} e = record { front = []; gave = gave_nothing a; splits = e }

pub amid_step : {a b c : Standing} {all left xs : List ℕ} (rest : List ℕ) → Amid a b all left → Gave b c xs → left ≡ xs ++ rest → Amid a c all rest
amid_step {a} {b} {c} {all} {left} {xs} rest m s e = record {
  front = m.front ++ xs;
  gave = gave_then m.gave s;
  splits = m.splits ∙ ap (λ (z : List ℕ). m.front ++ z) e ∙ sym (append_assoc m.front xs rest);
}

pub amid_stopped : {a b c : Standing} {all left xs : List ℕ} (rest : List ℕ) → Amid a b all left → Stopped b c xs → left ≡ xs ++ rest → Stopped a c all
amid_stopped {a} {b} {c} {all} {left} {xs} rest m s e =
    subst (λ (z : List ℕ). Stopped a c z) (sym (m.splits ∙ ap (λ (z : List ℕ). m.front ++ z) e ∙ sym (append_assoc m.front xs rest)))
    (stopped_more (stopped_then m.gave s) rest)

pub amid_end : {a b : Standing} {all left : List ℕ} → Amid a b all left → left ≡ [] → Gave a b all
amid_end {a} {b} {all} {left} m e =
    subst (λ (z : List ℕ). Gave a b z) (sym (m.splits ∙ ap (λ (z : List ℕ). m.front ++ z) e ∙ append-nil m.front)) m.gave

-- where the next call is the last one
pub amid_gives : {T E : Type 0} (result : Result T E) {a b : Standing} (c : Standing) {all left : List ℕ} (ys : List ℕ)
    → Amid a b all left → left ≡ ys → Gives result b c ys → Gives result a c all
amid_gives result {a} {b} c {all} {left} ys m e s =
    gives_same result a c (sym (m.splits ∙ ap (λ (z : List ℕ). m.front ++ z) e)) (gives_then result c ys m.gave s)

-- the same bytes are left, in other words
pub amid_same : {a b : Standing} {all left rest : List ℕ} → left ≡ rest → Amid a b all left → Amid a b all rest
amid_same e m = record { front = m.front; gave = m.gave; splits = m.splits ∙ ap (λ (z : List ℕ). m.front ++ z) e }

-- where all was printed, and what was gathered is put
pub wrote_all : {t u v : Bool} {w0 w1 w2 : List ℕ} {f0 f1 f2 : ℕ} {first mid last xs rows : List ℕ} → first ≡ [] → last ≡ [] → xs ≡ rows
    → Gave (standing t w0 f0 first) (standing u w1 f1 mid) xs → Gave (standing u w1 f1 mid) (standing v w2 f2 last) [] → IsTrue t → IsTrue v × (w2 ≡ w0 ++ rows)
wrote_all {w0 = w0} {xs = xs} {rows = rows} none empty is f s told =
    let both = gave_then f s in
    let put : both.put ≡ rows = sym (append-nil both.put) ∙ ap (λ (z : List ℕ). both.put ++ z) (sym empty) ∙ both.left
    ∙ ap (λ (z : List ℕ). z ++ (xs ++ [])) none ∙ append-nil xs ∙ is in
    (both.tells told, both.written told ∙ ap (λ (z : List ℕ). w0 ++ z) put)

-- where the sink failed
pub part_of_all : {t v : Bool} {w0 w2 : List ℕ} {f0 f2 : ℕ} {first last xs rows : List ℕ} → first ≡ [] → xs ≡ rows
    → Stopped (standing t w0 f0 first) (standing v w2 f2 last) xs → IsTrue t → IsTrue v → WritesPart w0 w2 rows
part_of_all {w0 = w0} {w2 = w2} {xs = xs} none is s told tells =
    subst (λ (z : List ℕ). WritesPart w0 w2 z) (ap (λ (z : List ℕ). z ++ xs) none ∙ is) (s.part told tells)

pub on_err : {T E : Type 0} (result : Result T E) {P : Type 0} → P → OnErr result P
on_err (Ok x) p = tt
on_err (Err e) p = p
