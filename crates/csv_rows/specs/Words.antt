-- The words of queries and refusals in rows and replies.
use Rattle.std.specs.Prelude.{ℕ, List, codes}
use Rattle.bw_types.specs.declared.query.Kind.{Kind}
use Rattle.bw_types.specs.declared.query.Kind.TheVariants.{Sum, Count, Integral}
use Rattle.bw_types.specs.declared.refusal.Reason.{Reason}
use Rattle.bw_types.specs.declared.refusal.Reason.TheVariants.{Used, Unknown, Fresh, Gone, Mass, Events}

-- the word of a query in rows and replies
abbrev pub kind_word : Kind → List ℕ
kind_word Sum = codes "sum"
kind_word Count = codes "count"
kind_word Integral = codes "integral"

-- the word of a refusal in replies
abbrev pub reason_word : Reason → List ℕ
reason_word Used = codes "used"
reason_word Unknown = codes "unknown"
reason_word Fresh = codes "fresh"
reason_word Gone = codes "gone"
reason_word Mass = codes "mass"
reason_word Events = codes "events"
