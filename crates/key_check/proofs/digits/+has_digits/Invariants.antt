use Rattle.key_check.proofs.digits.+has_digits.Given as goal

abbrev pub decreases-has_digits : goal.decreases-has_digits
decreases-has_digits l = l.digits
