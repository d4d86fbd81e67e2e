-- The command that the words ask for.
use Rattle.std.proofs.Common.{◌≡◌, ℕ, true, false, IsTrue, List, Some, None, ◌∙◌, refl, sym, ap, subst}
use Rattle.bw_types.specs.declared.params.Params.{Params}
use Rattle.csv_rows.specs.Input.{given, provided}
use Rattle.command_words.specs.Command.{command_of}
use Rattle.command_words.specs.declared.command.Command.{Command}
use Rattle.command_words.specs.declared.command.Command.TheVariants.{Create, Scratch, Sample}
use Rattle.ports.specs.declared.Source.{Ghosts as SourceGhosts}
use Rattle.ports.specs.declared.Sink.{Ghosts as SinkGhosts}
use Rattle.page_disk.specs.declared.disk.Disk.{Ghosts as DiskGhosts}
use Rattle.dom_index.specs.declared.index.DomIndex.{Ghosts as IndexGhosts}
use Rattle.boxsum.specs.OneDisk.{asks_one_disk, command_on_one, is_for_one_disk}
use Rattle.boxsum.specs.Ran.{AnswersFromNothing, MakesEmpty, Samples}
use Rattle.boxsum.specs.declared.status.Ran.{Ran}
use Rattle.boxsum.specs.declared.status.Status.{Status}

-- what is asked of one disk is asked
pub one_is_asked : (words : List (List ℕ)) (command : Command) → command_on_one words ≡ Some command → command_of words ≡ Some command
one_is_asked words command = elim (command_of words) as (λ o. given o (λ c. provided (is_for_one_disk c) c) ≡ Some command → o ≡ Some command) [
  | None ↦ λ e. cc
  | Some c ↦ elim (is_for_one_disk c) as (λ b. provided b c ≡ Some command → Some c ≡ Some command) [ true ↦ λ e. e | false ↦ λ e. cc ]
]

-- and what needs no second one is asked of one
pub one_is_enough : (words : List (List ℕ)) → IsTrue (asks_one_disk (command_of words)) → command_on_one words ≡ command_of words
one_is_enough words = elim (command_of words) as (λ o. IsTrue (asks_one_disk o) → given o (λ c. provided (is_for_one_disk c) c) ≡ o) [
  | None ↦ λ one. refl
  | Some c ↦ elim (is_for_one_disk c) as (λ b. IsTrue b → provided b c ≡ Some c) [ true ↦ λ one. refl | false ↦ λ one. cc ]
]

-- there is one command that the words ask for
pub same_create : (words : List (List ℕ)) (read : Command) (at params : Params) → command_of words ≡ Some read → read ≡ Create at → command_of words ≡ Some (Create params) → at ≡ params
same_create words read at params e is asked = let same : Some (Create at) ≡ Some (Create params) = sym (e ∙ ap Some is) ∙ asked in cc

pub same_scratch : (words : List (List ℕ)) (read : Command) (at params : Params) → command_of words ≡ Some read → read ≡ Scratch at → command_of words ≡ Some (Scratch params) → at ≡ params
same_scratch words read at params e is asked = let same : Some (Scratch at) ≡ Some (Scratch params) = sym (e ∙ ap Some is) ∙ asked in cc

pub same_sample : (words : List (List ℕ)) (read : Command) (from many start count : ℕ) → command_of words ≡ Some read → read ≡ Sample from many → command_of words ≡ Some (Sample start count)
    → (from ≡ start) × (many ≡ count)
same_sample words read from many start count e is asked = let same : Some (Sample from many) ≡ Some (Sample start count) = sym (e ∙ ap Some is) ∙ asked in (cc, cc)

-- What was done for what was read was done for what is asked.
pub created_by : {D X : Type 0} (d : DiskGhosts D) (i : IndexGhosts X) (disk : D) (ran : Ran D) (at params : Params) → at ≡ params → MakesEmpty d disk ran i at → MakesEmpty d disk ran i params
created_by d i disk ran at params same m = subst (λ (p : Params). MakesEmpty d disk ran i p) same m

pub scratched_by : {S K : Type 0} (s : SourceGhosts S) (k : SinkGhosts K) (source source' : S) (sink sink' : K) (ended : Status) (at params : Params) → at ≡ params
    → AnswersFromNothing s k source source' sink sink' ended at → AnswersFromNothing s k source source' sink sink' ended params
scratched_by s k source source' sink sink' ended at params same a = subst (λ (p : Params). AnswersFromNothing s k source source' sink sink' ended p) same a

pub sampled_by : {D K X : Type 0} (d : DiskGhosts D) (k : SinkGhosts K) (i : IndexGhosts X) (disk : D) (sink sink' : K) (ran : Ran D) (from many start count : ℕ) → (from ≡ start) × (many ≡ count)
    → Samples d k i disk sink sink' ran from many → Samples d k i disk sink sink' ran start count
sampled_by d k i disk sink sink' ran from many start count same a =
    subst (λ (n : ℕ). Samples d k i disk sink sink' ran n count) same.0 (subst (λ (n : ℕ). Samples d k i disk sink sink' ran from n) same.1 a)
