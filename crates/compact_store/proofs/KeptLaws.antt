-- The laws of histories that are kept from a version on.
use Rattle.std.proofs.Common.{◌≡◌, ℕ, ◌+◌, ◌-◌, ◌*◌, ◌≤◌, List, [], ◌∷◌, ◌++◌, pos, length, map, take, drop, sym, ◌∙◌, ap, subst, arith, append_assoc}
use Rattle.std.proofs.Math.Seq.{take-append-add}
use Rattle.std.proofs.lemmas.List.{append-nil, length-append, length-drop, length-map, length-take, length-take-le, take-append-drop}
use Rattle.std.proofs.lemmas.List.Concat.{flat_map-append}
use Rattle.std.proofs.lemmas.List.Elements.{All-append, All-contains, All-contains_itself, All-weaker, Contains-append_left, Contains-append_right}
use Rattle.std.specs.List.{All, Contains, filter}
use Rattle.bw_types.specs.Answers.{answer_of}
use Rattle.bw_types.specs.History.{History, changes, last_version, live, live_of}
use Rattle.bw_types.specs.Integral.{integral_over}
use Rattle.bw_types.specs.Lawful.{AreLawfulAfter, IsLawful}
use Rattle.bw_types.specs.Meets.{meets}
use Rattle.bw_types.specs.Tally.{int_sum_by}
use Rattle.bw_types.specs.declared.change.Change.{Change}
use Rattle.bw_types.specs.declared.change.Change.TheVariants as change
use Rattle.bw_types.specs.declared.object.Object.{Object}
use Rattle.bw_types.specs.declared.params.Params.{Params}
use Rattle.bw_types.specs.declared.query.Kind.{Kind}
use Rattle.bw_types.specs.declared.query.Kind.TheVariants as kind
use Rattle.bw_types.specs.declared.query.Query.{Query}
use Rattle.history_laws.proofs.Room.{lawful_room}
use Rattle.history_laws.proofs.Staging.{begins}
use Rattle.compact_store.specs.Kept.{KeptAnswersAlike, KeptHasNoMore, KeptIsLawful, kept, most_adds}
use Rattle.compact_store.proofs.Apart.{adds_go, lawful_apart}
use Rattle.compact_store.proofs.Bounded.{changes_fit, live_all, live_bounded, ChangeFits}
use Rattle.compact_store.proofs.LaterBatches.{batches_stay}
use Rattle.compact_store.proofs.LiveAgain.{Like, adds_like, live_again}
use Rattle.compact_store.proofs.Pieces.{kept_is, pieces, pieces_all, pieces_lawful, pieces_length, pieces_whole}

-- lawful batches, and then lawful batches
lawful_join : (params : Params) (before h later : History) → AreLawfulAfter params before h → AreLawfulAfter params (before ++ h) later → AreLawfulAfter params before (h ++ later)
lawful_join params before [] later first second = subst (λ (k : History). AreLawfulAfter params k later) (append-nil before) second
lawful_join params before (batch ∷ h) later first second =
    (first.0, lawful_join params (before ++ batch ∷ []) h later first.1 (subst (λ (k : History). AreLawfulAfter params k later) (sym (append_assoc before (batch ∷ []) h)) second))

-- of lawful batches the later ones are lawful after the first
lawful_rest : (params : Params) (before h later : History) → AreLawfulAfter params before (h ++ later) → AreLawfulAfter params (before ++ h) later
lawful_rest params before [] later lawful = subst (λ (k : History). AreLawfulAfter params k later) (sym (append-nil before)) lawful
lawful_rest params before (batch ∷ h) later lawful =
    subst (λ (k : History). AreLawfulAfter params k later) (append_assoc before (batch ∷ []) h) (lawful_rest params (before ++ batch ∷ []) h later lawful.1)

-- a front of two lists that reaches into the second
take_past : {X : Type 0} (xs ys : List X) (n : ℕ) → length xs ≤ n → take n (xs ++ ys) ≡ xs ++ take (n - length xs) ys
take_past xs ys n le = ap (λ (k : ℕ). take k (xs ++ ys)) (let e : n ≡ length xs + (n - length xs) = omega (arith, le) in e) ∙ take-append-add xs ys (n - length xs)

-- the history up to a version is lawful
pub front_lawful : (params : Params) (h : History) (version : ℕ) → IsLawful params h → IsLawful params (take version h)
front_lawful params h version lawful = begins params (take version h) (drop version h) (subst (λ (k : History). IsLawful params k) (sym (take-append-drop version h)) lawful)

-- what is live at the version has room in the batches up to it
pub live_room : (params : Params) (h : History) (version : ℕ) → IsLawful params h → length (live h version) ≤ most_adds * version
live_room params h version lawful = omega (arith, live_bounded params [] (take version h) (front_lawful params h version lawful), length-take version h)

-- the batches of adds leave what is live at the version
adds_of : (params : Params) (h : History) (version : ℕ) → IsLawful params h → changes (pieces (live h version) version) ≡ map change.Add (live h version)
adds_of params h version lawful = pieces_whole (live h version) version (live_room params h version lawful)

-- the batches of adds are lawful
first_batches_lawful : (params : Params) (h : History) (version : ℕ) → IsLawful params h → version ≤ last_version h → IsLawful params (pieces (live h version) version)
first_batches_lawful params h version lawful le =
    let first = front_lawful params h version lawful in
    let cs : List Change = changes (take version h) in
    let room = lawful_room params (take version h) first in
    let like = adds_like params cs in
    let size : length (take version h) ≡ version = length-take-le version h le in
    let fit = live_all (ChangeFits params) cs (changes_fit params [] (take version h) first) in
    pieces_lawful params [] (live h version) version fit (omega (arith, room.events, like.count, length-map (live h version) change.Add, size))
    (adds_go params (live h version) (lawful_apart params (take version h) first) (omega (arith, room.mass, like.mass)))

-- the history that is kept is lawful, and has as many versions
pub kept_lawful : KeptIsLawful
kept_lawful params h version lawful le =
    let adds : History = pieces (live h version) version in
    let later : History = drop version h in
    let size : length (take version h) ≡ version = length-take-le version h le in
    let rest : AreLawfulAfter params (take version h) later =
    lawful_rest params [] (take version h) later (subst (λ (k : History). IsLawful params k) (sym (take-append-drop version h)) lawful) in
    let like : Like params (changes (take version h)) (changes adds) =
    subst (λ (cs : List Change). Like params (changes (take version h)) cs) (sym (adds_of params h version lawful)) (adds_like params (changes (take version h))) in
    let stay = batches_stay params (take version h) adds later like (omega (arith, size, pieces_length (live h version) version)) rest in (
      subst (λ (k : History). IsLawful params k) (sym (kept_is h version)) (lawful_join params [] adds later (first_batches_lawful params h version lawful le) stay),
      ap length (kept_is h version) ∙ (let e : length (adds ++ later) ≡ length h = omega (arith, length-append adds later, pieces_length (live h version) version, length-drop version h, le) in e),
    )

-- what is live decides each answer
answered_by : (params : Params) (h k : History) (m n : ℕ) (q : Query) (a : Kind) → live h m ≡ live k n → answer_of a params h m q ≡ answer_of a params k n q
answered_by params h k m n q kind.Sum same = ap (λ (os : List Object). int_sum_by (λ o. o.weight) (filter (meets params.dims q) os)) same
answered_by params h k m n q kind.Count same = ap (λ (os : List Object). pos (length (filter (meets params.dims q) os))) same
answered_by params h k m n q kind.Integral same = ap (λ (os : List Object). int_sum_by (integral_over params q) os) same

-- from the version on the same objects are live
live_alike : (params : Params) (h : History) (version later : ℕ) → IsLawful params h → version ≤ later → later ≤ last_version h → live (kept h version) later ≡ live h later
live_alike params h version later lawful le most =
    let adds : History = pieces (live h version) version in
    let rest : History = drop version h in
    let small : version ≤ last_version h = omega (arith, le, most) in
    let size : length (take version h) ≡ version = length-take-le version h small in
    let count : length adds ≡ version = pieces_length (live h version) version in
    let new : take later (kept h version) ≡ adds ++ take (later - version) rest =
    ap (take later) (kept_is h version) ∙ (take_past adds rest later (omega (arith, count, le)) ∙ ap (λ (n : ℕ). adds ++ take (later - n) rest) count) in
    let old : take later h ≡ take version h ++ take (later - version) rest =
    ap (take later) (sym (take-append-drop version h)) ∙ (take_past (take version h) rest later (omega (arith, size, le)) ∙ ap (λ (n : ℕ). take version h ++ take (later - n) rest) size) in
    let new_changes : changes (take later (kept h version)) ≡ map change.Add (live h version) ++ changes (take (later - version) rest) =
    ap changes new ∙ (flat_map-append (λ (b : List Change). b) adds (take (later - version) rest) ∙ ap (λ (cs : List Change). cs ++ changes (take (later - version) rest)) (adds_of params h version lawful)) in
    let old_changes : changes (take later h) ≡ changes (take version h) ++ changes (take (later - version) rest) =
    ap changes old ∙ flat_map-append (λ (b : List Change). b) (take version h) (take (later - version) rest) in
    ap live_of new_changes ∙ (live_again (changes (take version h)) (changes (take (later - version) rest)) ∙ ap live_of (sym old_changes))

-- and so each query is answered the same
pub kept_alike : KeptAnswersAlike
kept_alike params h version later q lawful le most =
    let same = live_alike params h version later lawful le most in
    (same, answered_by params (kept h version) h later later q q.kind same)

-- each of the changes is one of the history
kept_all : (h : History) (version : ℕ) → All (Contains (changes h)) (changes (kept h version))
kept_all h version =
    let adds : History = pieces (live h version) version in
    let first : List Change = changes (take version h) in
    let rest : List Change = changes (drop version h) in
    let whole : changes h ≡ first ++ rest = ap changes (sym (take-append-drop version h)) ∙ flat_map-append (λ (b : List Change). b) (take version h) (drop version h) in
    let split : changes (kept h version) ≡ changes adds ++ rest = ap changes (kept_is h version) ∙ flat_map-append (λ (b : List Change). b) adds (drop version h) in
    let Is : Change → Type 0 = λ c. Contains (first ++ rest) c in
    let early : All Is first = All-weaker (Contains first) Is (λ c is. Contains-append_left first rest c is) first (All-contains_itself first) in
    let late : All Is rest = All-weaker (Contains rest) Is (λ c is. Contains-append_right first rest c is) rest (All-contains_itself rest) in
    let both : All Is (changes adds ++ rest) = All-append Is (changes adds) rest (pieces_all Is (live h version) version (live_all Is first early)) late in
    subst (λ (cs : List Change). All (Contains cs) (changes (kept h version))) (sym whole) (subst (λ (cs : List Change). All Is cs) (sym split) both)

-- a change that is kept is one of the history
pub kept_no_more : KeptHasNoMore
kept_no_more h version c is = All-contains (Contains (changes h)) (changes (kept h version)) c (kept_all h version) is
