-- What is so of all lives of a lawful history: when they were added, that their objects fit, and how great their numbers are.
use Rattle.std.proofs.Common.{◌≡◌, ℕ, ◌+◌, ◌^◌, ◌<◌, true, false, List, [], ◌∷◌, ◌++◌, length, get_or, refl, sym, ◌∙◌, ap, subst, arith}
use Rattle.std.proofs.lemmas.Bool.{and_parts, both_ways, eq-eqb, or_parts}
use Rattle.std.proofs.lemmas.List.Elements.{All-nil, All-cons, All-append, All-head, All-tail, All-weaker}
use Rattle.std.proofs.lemmas.List.Sums.{count_by-le-length}
use Rattle.std.specs.List.{All, list_all, list_any}
use Rattle.bw_types.specs.Fits.{IsInRange, object_fits}
use Rattle.bw_types.specs.History.{History, adds, changes, last_version}
use Rattle.bw_types.specs.Lawful.{AreLawfulAfter, IsLawful}
use Rattle.bw_types.specs.Lives.{Numbered, numbered, numbered_batch, numbered_from, begun_life, lives, lives_after, life_of}
use Rattle.bw_types.specs.Refusals.{was_added}
use Rattle.bw_types.specs.declared.change.Change.{Change}
use Rattle.bw_types.specs.declared.change.Change.TheVariants as change
use Rattle.bw_types.specs.declared.dated.Dated.{Dated}
use Rattle.bw_types.specs.declared.params.Params.{Params}
use Rattle.history_laws.specs.Bounds.{LawfulHasRoom}
use Rattle.history_laws.specs.Growing.{NumbersGrow}
use Rattle.page_warehouse.specs.Begun.{next_version, with_changes}
use Rattle.page_warehouse.proofs.Fronts.{change_fits, changes_are_few, changes_fit}
use Rattle.page_warehouse.proofs.Lasts.{lives_below}
use Rattle.page_warehouse.proofs.Numbers.{IsWithin, adds_with, changes_with, numbers_within}

-- lives of an id were added before a version where its adds were
AddsBefore : ℕ → ℕ → Numbered → Type 0
AddsBefore id version n = adds id n.change ≡ true → n.version < version

IsBefore : ℕ → ℕ → Dated → Type 0
IsBefore id version d = d.object.id ≡ id → d.added < version

before_step : (id version : ℕ) (earlier : List Numbered) (n : Numbered) (ns : List Numbered) (c : Change) → n.change ≡ c → AddsBefore id version n
    → All (IsBefore id version) (lives_after (earlier ++ n ∷ []) ns) → All (IsBefore id version) (begun_life earlier n c ns ++ lives_after (earlier ++ n ∷ []) ns)
unfolding AddsBefore IsBefore
before_step id version earlier n ns (change.Withdraw other) is own rest = rest
before_step id version earlier n ns (change.Add o) is own rest =
    All-cons (IsBefore id version) (life_of earlier n o ns) (lives_after (earlier ++ n ∷ []) ns) (λ same. own (ap (adds id) is ∙ eq-eqb o.id id same)) rest

lives_before : (id version : ℕ) (earlier ns : List Numbered) → All (AddsBefore id version) ns → All (IsBefore id version) (lives_after earlier ns)
lives_before id version earlier [] all = All-nil (IsBefore id version)
lives_before id version earlier (n ∷ ns) all =
    before_step id version earlier n ns n.change refl (All-head (AddsBefore id version) n ns all) (lives_before id version (earlier ++ n ∷ []) ns (All-tail (AddsBefore id version) n ns all))

none_added : (id version w e : ℕ) (cs : List Change) → list_any (adds id) cs ≡ false → All (AddsBefore id version) (numbered_batch w e cs)
unfolding AddsBefore
none_added id version w e [] none = All-nil (AddsBefore id version)
none_added id version w e (c ∷ cs) none =
    let parts = or_parts (adds id c) (list_any (adds id) cs) none in
    All-cons (AddsBefore id version) (record { version = w; event = e; change = c }) (numbered_batch w (e + 1) cs) (λ holds. absurd (both_ways (adds id c) parts.0 holds)) (none_added id version w (e + 1) cs parts.1)

within_before : (id version events : ℕ) (n : Numbered) → IsWithin version events n → AddsBefore id (version + 1) n
unfolding AddsBefore
within_before id version events n within holds = omega (arith, within.last)

pub added_before : NumbersGrow → (h : History) (done : List Change) (id : ℕ) → was_added id done ≡ false → All (λ d. d.object.id ≡ id → d.added < next_version h) (lives (with_changes h done))
unfolding IsBefore
added_before numbers h done id none =
    let old : All (AddsBefore id (next_version h)) (numbered h) =
    All-weaker (IsWithin (last_version h) (length (changes h))) (AddsBefore id (next_version h)) (within_before id (last_version h) (length (changes h))) (numbered h) (numbers_within h) in
    let all : All (AddsBefore id (next_version h)) (numbered h ++ numbered_batch (next_version h) (length (changes h)) done) =
    All-append (AddsBefore id (next_version h)) (numbered h) (numbered_batch (next_version h) (length (changes h)) done) old (none_added id (next_version h) (next_version h) (length (changes h)) done none) in
    lives_before id (next_version h) [] (numbered (with_changes h done)) (subst (λ (ns : List Numbered). All (AddsBefore id (next_version h)) ns) (sym (numbers h done)) all)

-- the objects of the lives of a lawful history fit
Fits : Params → Numbered → Type 0
Fits params n = change_fits params n.change ≡ true

batch_fits : (params : Params) (w e : ℕ) (cs : List Change) → list_all (change_fits params) cs ≡ true → All (Fits params) (numbered_batch w e cs)
unfolding Fits
batch_fits params w e [] all = All-nil (Fits params)
batch_fits params w e (c ∷ cs) all =
    let parts = and_parts (change_fits params c) (list_all (change_fits params) cs) all in
    All-cons (Fits params) (record { version = w; event = e; change = c }) (numbered_batch w (e + 1) cs) parts.0 (batch_fits params w (e + 1) cs parts.1)

history_fits : (params : Params) (before : History) (w e : ℕ) (h : History) → AreLawfulAfter params before h → All (Fits params) (numbered_from w e h)
history_fits params before w e [] lawful = All-nil (Fits params)
history_fits params before w e (b ∷ bs) lawful =
    All-append (Fits params) (numbered_batch w e b) (numbered_from (w + 1) (e + length b) bs) (batch_fits params w e b (changes_fit params b lawful.0.fits))
    (history_fits params (before ++ b ∷ []) (w + 1) (e + length b) bs lawful.1)

ObjectFits : Params → Dated → Type 0
ObjectFits params d = object_fits params d.object ≡ true

fits_step : (params : Params) (earlier : List Numbered) (n : Numbered) (ns : List Numbered) (c : Change) → change_fits params c ≡ true
    → All (ObjectFits params) (lives_after (earlier ++ n ∷ []) ns) → All (ObjectFits params) (begun_life earlier n c ns ++ lives_after (earlier ++ n ∷ []) ns)
unfolding ObjectFits
fits_step params earlier n ns (change.Withdraw other) own rest = rest
fits_step params earlier n ns (change.Add o) own rest = All-cons (ObjectFits params) (life_of earlier n o ns) (lives_after (earlier ++ n ∷ []) ns) own rest

lives_fit_after : (params : Params) (earlier ns : List Numbered) → All (Fits params) ns → All (ObjectFits params) (lives_after earlier ns)
unfolding Fits
lives_fit_after params earlier [] all = All-nil (ObjectFits params)
lives_fit_after params earlier (n ∷ ns) all =
    fits_step params earlier n ns n.change (All-head (Fits params) n ns all) (lives_fit_after params (earlier ++ n ∷ []) ns (All-tail (Fits params) n ns all))

pub lives_fit : (params : Params) (h : History) → IsLawful params h → All (λ d. object_fits params d.object ≡ true) (lives h)
unfolding ObjectFits
lives_fit params h lawful = lives_fit_after params [] (numbered h) (history_fits params [] 1 0 h lawful)

-- the numbers of the lives have room in keys
pub lives_low : LawfulHasRoom → (params : Params) (h : History) (done : List Change) → IsInRange params → IsLawful params (with_changes h done) → All (λ d. d.life < 2 ^ 32) (lives (with_changes h done))
lives_low room params h done range lawful k d lt =
    let now : History = with_changes h done in
    let one : Dated = get_or (lives now) k d in
    let below = lives_below one.object.id [] (numbered now) k d lt refl in
    let few = count_by-le-length (adds one.object.id) (changes h ++ done) in
    omega (arith, below, adds_with h done one.object.id, few, changes_are_few room params now range lawful, ap length (changes_with h done))
