-- How the steps of a reader and of a writer join.
use Rattle.std.proofs.Common.{ℕ, ◌+◌, List, ◌++◌, Option, None, Some, take, drop, sym, ◌∙◌, ap, append_assoc}
use Rattle.std.proofs.Math.Seq.{take-add}
use Rattle.std.specs.Io.KnownBytes.{Appends}

-- one write and the next
pub Appends-more : (a b c : Option (List ℕ)) (n m : ℕ) (piece : List ℕ) → Appends a b (take n piece) → Appends b c (take m (drop n piece)) → Appends a c (take (n + m) piece)
Appends-more None b c n m piece f s = tt
Appends-more (Some xs) None c n m piece f s = absurd f
Appends-more (Some xs) (Some ys) None n m piece f s = absurd s
Appends-more (Some xs) (Some ys) (Some zs) n m piece f s =
    s ∙ ap (λ (l : List ℕ). l ++ take m (drop n piece)) f ∙ append_assoc xs (take n piece) (take m (drop n piece)) ∙ ap (λ (l : List ℕ). xs ++ l) (sym (take-add n m piece))
