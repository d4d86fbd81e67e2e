-- How what is known of a source at one call and at the next joins.
use Rattle.std.proofs.Common.{ℕ, Bool, ◌∙◌}
use Rattle.line_reader.specs.Reader.{IsCalm}

pub IsCalm-trans : (t u v : Bool) (a b c : ℕ) → IsCalm t u a b → IsCalm u v b c → IsCalm t v a c
IsCalm-trans t u v a b c first second = record {
  still_tells = λ told. second.still_tells (first.still_tells told);
  no_fault = second.no_fault ∙ first.no_fault;
}
