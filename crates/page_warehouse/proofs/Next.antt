-- The next change of a batch, over a table and trees that keep the history so far.
use Rattle.std.proofs.Common.{◌≡◌, ℕ, ◌+◌, ◌<◌, ◌^◌, List, [], ◌∷◌, ◌++◌, length, IsPermutation, Option, sym, ◌∙◌, ap, subst, arith, length-append}
use Rattle.std.specs.Option.{option_map_or}
use Rattle.std.proofs.lemmas.Grind.{flat_map-append}
use Rattle.std.proofs.lemmas.List.{append-nil}
use Rattle.std.proofs.lemmas.List.Sorted.{IsPermutation-sym, length_permutation}
use Rattle.bw_types.specs.History.{History, changes}
use Rattle.bw_types.specs.Lawful.{IsLawful, IsLawfulBatch}
use Rattle.bw_types.specs.Lives.{lives}
use Rattle.bw_types.specs.declared.change.Change.{Change}
use Rattle.bw_types.specs.declared.dated.Dated.{Dated}
use Rattle.bw_types.specs.declared.object.Object.{Object}
use Rattle.bw_types.specs.declared.params.Params.{Params}
use Rattle.bw_types.specs.declared.tree.Tree.{Tree}
use Rattle.object_table.specs.Edits.{IsNewLife}
use Rattle.object_table.specs.Laws.{LastInAnyOrder}
use Rattle.object_table.specs.Lives.{last_life}
use Rattle.object_table.specs.Stands.{TableStands}
use Rattle.object_table.specs.declared.form.Form.TheVariants.{ByLives}
use Rattle.ports.specs.Pages.{PageMap}
use Rattle.corner_forest.specs.Enters.{entry_of}
use Rattle.corner_forest.specs.Entries.{IsNextEntry}
use Rattle.corner_weights.specs.PlaneSums.{Entered}
use Rattle.page_warehouse.specs.Begun.{begun_life, next_event, next_version, with_changes}
use Rattle.page_warehouse.specs.Next.{FrontsAreLawful}
use Rattle.history_laws.specs.Entries.{history_entries}
use Rattle.history_laws.specs.Entering.{EntriesAreChanges}
use Rattle.page_warehouse.specs.Ids.{LivesEndWithTheGreatest}

-- how many changes there are with the batch so far
pub changes_so_far : (h : History) (done : List Change) → length (changes (with_changes h done)) ≡ length (changes h) + length done
changes_so_far h done =
    ap length (flat_map-append (λ (b : List Change). b) h (done ∷ []))
    ∙ length-append (changes h) (done ++ []) ∙ ap (λ (l : List Change). length (changes h) + length l) (append-nil done)

-- how many entries there are with the batch
pub entries_then : EntriesAreChanges → FrontsAreLawful → (params : Params) (h : History) (batch : List Change) → IsLawful params h → IsLawfulBatch params h batch
    → length (history_entries (with_changes h batch)) ≡ length (changes h) + length batch
entries_then entries fronts params h batch lawful is =
    entries params (with_changes h batch) (fronts params h batch [] lawful (subst (λ (l : List Change). IsLawfulBatch params h l) (sym (append-nil batch)) is)).1 ∙ changes_so_far h batch

-- the table tells the last life of an id in the history
pub last_told : LastInAnyOrder → LivesEndWithTheGreatest → (pages : PageMap) (table : Tree) (kept : List Dated) (h : History) (id : ℕ) → TableStands ByLives pages table kept → IsPermutation kept (lives h)
    → last_life id (lives h) ≡ last_life id kept
last_told any greatest pages table kept h id stands all = any ByLives pages table kept (lives h) id stands (IsPermutation-sym kept (lives h) all) (greatest h)

pub few_kept : (kept others : List Dated) → IsPermutation kept others → length others < 2 ^ 28 → length kept < 2 ^ 28
few_kept kept others same few = let as_long : length others ≡ length kept = length_permutation kept others same in omega (arith, as_long, few)

-- the life that the call makes is the one that the history begins
pub life_is : (h : History) (done : List Change) (o : Object) (life event version : ℕ) → life ≡ (begun_life h done o).life → event ≡ next_event h done → version ≡ next_version h
    → record { object = o; life = life; added = version; add_event = event; withdrawn = 0; withdraw_event = 0 } ≡ begun_life h done o
life_is h done o life event version a b c = λ i. record { object = o; life = a i; added = c i; add_event = b i; withdrawn = 0; withdraw_event = 0 }

pub entry_is : (params : Params) (es : List Entered) (o : Object) (minus : _) (event event' version version' : ℕ) → event ≡ event' → version ≡ version' → IsNextEntry params es (entry_of o minus event' version') → IsNextEntry params es (entry_of o minus event version)
entry_is params es o minus event event' version version' a b next = subst (λ (e : Entered). IsNextEntry params es e) (λ i. entry_of o minus (sym a i) (sym b i)) next

-- a life numbered after the last one of its id is new
pub is_new : (kept : List Dated) (d : Dated) → d.life ≡ 1 + option_map_or (λ (e : Dated). e.life) (last_life d.object.id kept) 0 → IsNewLife kept d
is_new kept d number = λ last found. let at : d.life ≡ 1 + last.life = number ∙ ap (λ (l : Option Dated). 1 + option_map_or (λ (e : Dated). e.life) l 0) found in omega (arith, at)
