-- What equal verdicts tell.
use Rattle.std.proofs.Common.{◌≡◌, ℕ, Result, Ok, Err, ap}
use Rattle.page_checks.specs.declared.fault.CheckFault.{CheckFault}
use Rattle.image_check.specs.declared.verdict.Verdict.{Verdict}
use Rattle.image_check.specs.declared.verdict.Verdict.TheVariants.{Broken, Empty, Good}

abbrev Found : Type 0
Found = Result Verdict CheckFault

abbrev part_back : Found → ℕ
part_back (Ok Empty) = 0
part_back (Ok (Good version rows)) = 0
part_back (Ok (Broken part)) = part
part_back (Err fault) = 0

abbrev version_back : Found → ℕ
version_back (Ok Empty) = 0
version_back (Ok (Good version rows)) = version
version_back (Ok (Broken part)) = 0
version_back (Err fault) = 0

abbrev rows_back : Found → ℕ
rows_back (Ok Empty) = 0
rows_back (Ok (Good version rows)) = rows
rows_back (Ok (Broken part)) = 0
rows_back (Err fault) = 0

pub same_part : (a b : ℕ) → ◌≡◌ {A = Found} (Ok (Broken a)) (Ok (Broken b)) → a ≡ b
same_part a b e = ap part_back e

pub same_good : (v w r s : ℕ) → ◌≡◌ {A = Found} (Ok (Good v r)) (Ok (Good w s)) → (v ≡ w) × (r ≡ s)
same_good v w r s e = (ap version_back e, ap rows_back e)
