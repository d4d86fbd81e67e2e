-- What a machine holds and answers stays within what its params allow.
use Rattle.std.proofs.Common.{◌≡◌, ℕ, zero, suc, ◌+◌, ◌*◌, ◌-◌, ◌^◌, ◌≤◌, Bool, true, false, nat_lt, nat_le, List, [], ◌∷◌, ◌++◌, length, replicate, slice_index_or, slice_set, Option, Some, None, IfSome, unwrap_or, nat_abs, refl, sym, ◌∙◌, ap, subst, arith, if◌then◌else◌, append-nil, length-append}
use Rattle.std.specs.List.{All}
use Rattle.std.proofs.lemmas.Bool.Decides.{nat_tests}
use Rattle.std.proofs.lemmas.List.{length_push}
use Rattle.std.proofs.lemmas.List.Concat.{flat_map-append}
use Rattle.std.proofs.lemmas.List.Elements.{All-append, All-cons, All-head, All-nil, All-tail}
use Rattle.bw_types.specs.Answers.{answer, answer_of}
use Rattle.bw_types.specs.History.{History, changes, event_count, flat, flat_row, last_version}
use Rattle.bw_types.specs.Refusals.{first_refusal, first_refused_row, refused_at}
use Rattle.bw_types.specs.declared.change.Change.{Change}
use Rattle.bw_types.specs.declared.params.Params.{Params}
use Rattle.bw_types.specs.declared.query.Kind.{Kind}
use Rattle.bw_types.specs.declared.query.Kind.TheVariants as kind
use Rattle.bw_types.specs.declared.query.Query.{Query}
use Rattle.bw_types.specs.declared.refusal.Reason.TheVariants.{Events}
use Rattle.bw_types.specs.declared.refusal.Refusal.{Refusal}
use Rattle.bw_types.specs.declared.row.Row.{Row}
use Rattle.csv_rows.specs.Machine.{State, Step, ask_step, begun, commit_step, line_step, most_staged, rows_of, stage_step, with_rows}
use Rattle.csv_rows.specs.declared.input.Input.{Input}
use Rattle.csv_rows.specs.declared.input.Input.TheVariants.{Stage, Commit, Drop, Ask}
use Rattle.csv_rows.specs.declared.reply.Reply.{Reply}
use Rattle.csv_rows.specs.declared.reply.Reply.TheVariants.{Version, Refused, Dropped, Answer, Bad, Full, NoVersion}
use Rattle.history_laws.specs.Bounds.{HasSmallWeight}
use Rattle.history_laws.proofs.AnswerBounds.{sum_at_bound}
use Rattle.sample_rows.proofs.Weights.{AddsSmallWeights, HasSmallWeights}

-- no more events than allowed, and weights of 64 bits alone
pub record IsSmall (params : Params) (s : State) : Type 0 where
  pub events : event_count s.history ≤ params.events
  pub weights : All HasSmallWeight (changes s.history)
  pub staged : All (All AddsSmallWeights) s.staged

-- the most that a sum of such a history is
abbrev pub greatest_sum : Params → ℕ
greatest_sum params = params.events * 2 ^ 63

-- where the reply answers a sum, that is at most so great
abbrev pub AnswersWithin : ℕ → Reply → Type 0
AnswersWithin most (Version version) = Unit {0}
AnswersWithin most (Refused refusal) = Unit {0}
AnswersWithin most (Dropped session) = Unit {0}
AnswersWithin most (Answer kind.Sum version value) = nat_abs value ≤ most
AnswersWithin most (Answer kind.Count version value) = Unit {0}
AnswersWithin most (Answer kind.Integral version value) = Unit {0}
AnswersWithin most (Bad line) = Unit {0}
AnswersWithin most (Full line) = Unit {0}
AnswersWithin most (NoVersion line) = Unit {0}

All-set : {A : Type 0} (P : A → Type 0) (xs : List A) (k : ℕ) (x : A) → All P xs → P x → All P (slice_set xs k x)
All-set P [] k x h e = h
All-set P (y ∷ ys) zero x h e = All-cons P x ys e (All-tail P y ys h)
All-set P (y ∷ ys) (suc k) x h e = All-cons P y (slice_set ys k x) (All-head P y ys h) (All-set P ys k x (All-tail P y ys h) e)

All-get : {A : Type 0} (P : A → Type 0) (xs : List A) (k : ℕ) (d : A) → All P xs → P d → P (slice_index_or xs k d)
All-get P [] k d h e = e
All-get P (y ∷ ys) zero d h e = All-head P y ys h
All-get P (y ∷ ys) (suc k) d h e = All-get P ys k d (All-tail P y ys h) e

flat_small : (rows : List Row) → All AddsSmallWeights rows → All HasSmallWeight (flat rows)
flat_small [] h = All-nil HasSmallWeight
flat_small (r ∷ rows) h = All-append HasSmallWeight (flat_row r) (flat rows) (All-head AddsSmallWeights r rows h) (flat_small rows (All-tail AddsSmallWeights r rows h))

changes_more : (h : History) (batch : List Change) → changes (h ++ batch ∷ []) ≡ changes h ++ batch
changes_more h batch = flat_map-append (λ (b : List Change). b) h (batch ∷ []) ∙ ap (λ (l : List Change). changes h ++ l) (append-nil batch)

none_staged : (n : ℕ) → All (All AddsSmallWeights) (replicate n [])
none_staged zero = All-nil (All AddsSmallWeights)
none_staged (suc n) = All-cons (All AddsSmallWeights) [] (replicate n []) (All-nil AddsSmallWeights) (none_staged n)

-- at the beginning
pub small_begun : (params : Params) → IsSmall params (begun [])
small_begun params = record { events = omega arith; weights = All-nil HasSmallWeight; staged = none_staged 16 }

-- other rows in a session
small_with : (params : Params) (s : State) (session : ℕ) (rows : List Row) → IsSmall params s → All AddsSmallWeights rows → IsSmall params (with_rows s session rows)
small_with params s session rows small are = record { events = small.events; weights = small.weights; staged = All-set (All AddsSmallWeights) s.staged (session - 1) rows small.staged are }

small_rows : (params : Params) (s : State) (session : ℕ) → IsSmall params s → All AddsSmallWeights (rows_of s session)
small_rows params s session small = All-get (All AddsSmallWeights) s.staged (session - 1) [] small.staged (All-nil AddsSmallWeights)

small_stage : (params : Params) (n : ℕ) (s : State) (session : ℕ) (r : Row) → IsSmall params s → AddsSmallWeights r → IsSmall params (stage_step n s session r).state
small_stage params n s session r small are =
    elim (nat_lt (length (rows_of s session)) most_staged) as
    (λ test. IsSmall params (let t : Step = if test then record { state = with_rows s session (rows_of s session ++ r ∷ []); reply = None } else record { state = s; reply = Some (Full n) } in t).state) [
      | true ↦ small_with params s session (rows_of s session ++ r ∷ []) small
          (All-append AddsSmallWeights (rows_of s session) (r ∷ []) (small_rows params s session small) (All-cons AddsSmallWeights r [] are (All-nil AddsSmallWeights)))
      | false ↦ small
    ]

-- a batch without a refusal leaves room for its events
has_room : (params : Params) (h : History) (rows : List Row) → first_refusal params h rows ≡ None → event_count h + length (flat rows) + 1 ≤ params.events
has_room params h rows e = by (nat_lt params.events (event_count h + length (flat rows) + 1)) refl e
  where
    by : (test : Bool) → nat_lt params.events (event_count h + length (flat rows) + 1) ≡ test
        → (if test then Some (refused_at 0 Events) else first_refused_row params (changes h) [] 1 rows) ≡ None → event_count h + length (flat rows) + 1 ≤ params.events
    by true is none = absurd cc
    by false is none = grind (arith, nat_tests)

small_commit : (params : Params) (s : State) (session : ℕ) (refusal : Option Refusal) → IsSmall params s → first_refusal params s.history (rows_of s session) ≡ refusal → IsSmall params (commit_step s session refusal).state
small_commit params s session (Some refusal) small e = small_with params s session [] small (All-nil AddsSmallWeights)
small_commit params s session None small e =
    let h = s.history in
    let batch = flat (rows_of s session) in
    let room : event_count h + length batch + 1 ≤ params.events = has_room params h (rows_of s session) e in
    let many : length (changes (h ++ batch ∷ [])) ≡ length (changes h) + length batch = ap length (changes_more h batch) ∙ length-append (changes h) batch in
    let longer : length (h ++ batch ∷ []) ≡ length h + 1 = length_push h batch in
    record {
      events = omega (arith, room, many, longer);
      weights = subst (λ (l : List Change). All HasSmallWeight l) (sym (changes_more h batch))
          (All-append HasSmallWeight (changes h) batch small.weights (flat_small (rows_of s session) (small_rows params s session small)));
      staged = All-set (All AddsSmallWeights) s.staged (session - 1) [] small.staged (All-nil AddsSmallWeights);
    }

small_ask : (params : Params) (n : ℕ) (s : State) (version : ℕ) (q : Query) → IsSmall params s → IsSmall params (ask_step params n s version q).state
small_ask params n s version q small =
    elim (nat_le version (last_version s.history)) as
    (λ test. IsSmall params (let t : Step = if test then record { state = s; reply = Some (Answer q.kind version (answer params s.history version q)) } else record { state = s; reply = Some (NoVersion n) } in t).state) [
      | true ↦ small
      | false ↦ small
    ]

-- after a line
pub small_after : (params : Params) (n : ℕ) (s : State) (o : Option Input) → IsSmall params s → IfSome o HasSmallWeights → IsSmall params (line_step params n s o).state
small_after params n s None small are = small
small_after params n s (Some (Stage session r)) small are = small_stage params n s session r small are
small_after params n s (Some (Commit session)) small are = small_commit params s session (first_refusal params s.history (rows_of s session)) small refl
small_after params n s (Some (Drop session)) small are = small_with params s session [] small (All-nil AddsSmallWeights)
small_after params n s (Some (Ask version q)) small are = small_ask params n s (unwrap_or version (last_version s.history)) q small

answer_within : (params : Params) (s : State) (version : ℕ) (q : Query) (k : Kind) → IsSmall params s → AnswersWithin (greatest_sum params) (Answer k version (answer_of k params s.history version q))
answer_within params s version q kind.Sum small =
    let most = sum_at_bound params s.history version q small.weights in
    let events = small.events in
    omega arith
answer_within params s version q kind.Count small = tt
answer_within params s version q kind.Integral small = tt

ask_within : (params : Params) (n : ℕ) (s : State) (version : ℕ) (q : Query) → IsSmall params s → IfSome (ask_step params n s version q).reply (AnswersWithin (greatest_sum params))
ask_within params n s version q small =
    elim (nat_le version (last_version s.history)) as
    (λ test. IfSome (let t : Step = if test then record { state = s; reply = Some (Answer q.kind version (answer params s.history version q)) } else record { state = s; reply = Some (NoVersion n) } in t).reply (AnswersWithin (greatest_sum params))) [
      | true ↦ answer_within params s version q q.kind small
      | false ↦ tt
    ]

stage_within : (most n : ℕ) (s : State) (session : ℕ) (r : Row) → IfSome (stage_step n s session r).reply (AnswersWithin most)
stage_within most n s session r =
    elim (nat_lt (length (rows_of s session)) most_staged) as
    (λ test. IfSome (let t : Step = if test then record { state = with_rows s session (rows_of s session ++ r ∷ []); reply = None } else record { state = s; reply = Some (Full n) } in t).reply (AnswersWithin most)) [
      | true ↦ tt
      | false ↦ tt
    ]

commit_within : (most : ℕ) (s : State) (session : ℕ) (refusal : Option Refusal) → IfSome (commit_step s session refusal).reply (AnswersWithin most)
commit_within most s session (Some refusal) = tt
commit_within most s session None = tt

-- the reply to a line
pub reply_within : (params : Params) (n : ℕ) (s : State) (o : Option Input) → IsSmall params s → IfSome (line_step params n s o).reply (AnswersWithin (greatest_sum params))
reply_within params n s None small = tt
reply_within params n s (Some (Stage session r)) small = stage_within (greatest_sum params) n s session r
reply_within params n s (Some (Commit session)) small = commit_within (greatest_sum params) s session (first_refusal params s.history (rows_of s session))
reply_within params n s (Some (Drop session)) small = tt
reply_within params n s (Some (Ask version q)) small = ask_within params n s (unwrap_or version (last_version s.history)) q small
