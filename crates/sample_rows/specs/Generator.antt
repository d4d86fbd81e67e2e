-- The rows of a sample: objects that are drawn from a start, withdrawals, and a hundred queries.
use Rattle.std.specs.Prelude.{ℕ, zero, suc, ◌+◌, ◌*◌, ◌/◌, ◌%◌, ◌^◌, Bool, ◌||◌, ◌==◌, nat_le, if◌then◌else◌, List, [], ◌∷◌, ◌++◌, ℤ, pos, ◌-ℤ◌, codes}
use Rattle.std.specs.Fmt.{decimal, signed_decimal}

-- one step of the generator, on numbers of 64 bits
abbrev pub next : ℕ → ℕ
next x = (x * 6364136223846793005 + 1442695040888963407) % 2 ^ 64

-- the number after so many steps
abbrev pub after_steps : ℕ → ℕ → ℕ
after_steps x zero = x
after_steps x (suc n) = next (after_steps x n)

-- what the step after n others draws: the upper 32 bits
abbrev pub draw : ℕ → ℕ → ℕ
draw x n = after_steps x (n + 1) / 2 ^ 32

-- the low end that is drawn after n others
abbrev pub low_drawn : ℕ → ℕ → ℕ
low_drawn x n = draw x n % 1000000

-- the high end of an interval of less than this width, whose low end is drawn after n others
abbrev pub high_drawn : ℕ → ℕ → ℕ → ℕ
high_drawn width x n = low_drawn x n + draw x (n + 1) % width

-- the weight that is drawn after n others, from -1000 to 1000
abbrev pub weight_drawn : ℕ → ℕ → ℤ
weight_drawn x n = pos (draw x n % 2001) -ℤ pos 1000

-- numbers, each with a comma after it
abbrev pub fields : List ℕ → List ℕ
fields [] = []
fields (number ∷ numbers) = (decimal number ++ codes ",") ++ fields numbers

-- the row that adds an object of two dimensions
abbrev pub object_of : ℕ → ℕ → ℕ → ℕ → ℕ → ℤ → List ℕ
object_of id low1 high1 low2 high2 weight =
    codes "add,1," ++ (fields (id ∷ low1 ∷ high1 ∷ low2 ∷ high2 ∷ []) ++ (signed_decimal weight ++ codes "\n"))

-- the row that adds the object of this id, drawn from x
abbrev pub object_row : ℕ → ℕ → List ℕ
object_row x id = object_of id (low_drawn x 0) (high_drawn 1000 x 0) (low_drawn x 2) (high_drawn 1000 x 2) (weight_drawn x 4)

abbrev pub commit_row : List ℕ
commit_row = codes "commit,1\n"

-- a commit, where the test holds
abbrev pub commit_where : Bool → List ℕ
commit_where test = if test then commit_row else []

-- a batch ends with each thousandth object, and with the last
abbrev pub ends_batch : ℕ → ℕ → Bool
ends_batch count id = (id % 1000 == 0) || (id == count)

-- the rows that add the first n of count objects, with their commits
unfoldable pub adds : ℕ → ℕ → ℕ → List ℕ
adds start count zero = []
adds start count (suc n) = adds start count n ++ (object_row (after_steps start (5 * n)) (suc n) ++ commit_where (ends_batch count (suc n)))

-- the rows that withdraw the first n of the objects whose id is a multiple of ten
unfoldable pub withdrawals : ℕ → List ℕ
withdrawals zero = []
withdrawals (suc n) = withdrawals n ++ (codes "withdraw,1," ++ decimal (10 * suc n) ++ codes "\n")

-- something is withdrawn
abbrev pub has_withdrawals : ℕ → Bool
has_withdrawals count = nat_le 10 count

-- how many commits there are: one a batch of objects, and one of the withdrawals
abbrev pub commits : ℕ → ℕ
commits count = (count + 999) / 1000 + (if has_withdrawals count then 1 else 0)

-- the row that asks for the weight that touches a box at a version
abbrev pub query_of : ℕ → ℕ → ℕ → ℕ → ℕ → List ℕ
query_of version low1 high1 low2 high2 =
    codes "sum," ++ (fields (version ∷ low1 ∷ high1 ∷ low2 ∷ []) ++ (decimal high2 ++ codes "\n"))

-- the row that asks at a version from 0 to the last one, drawn from x
abbrev pub query_row : ℕ → ℕ → List ℕ
query_row last x = query_of (draw x 0 % (last + 1)) (low_drawn x 1) (high_drawn 100000 x 1) (low_drawn x 3) (high_drawn 100000 x 3)

-- the first n queries, drawn from x on
unfoldable pub queries : ℕ → ℕ → ℕ → List ℕ
queries last x zero = []
queries last x (suc n) = queries last x n ++ query_row last (after_steps x (5 * n))

-- the rows of a sample of count objects: they are added in batches, each tenth is withdrawn, and a hundred queries are asked
abbrev pub rows : ℕ → ℕ → List ℕ
rows start count = adds start count count ++ (withdrawals (count / 10) ++ (commit_where (has_withdrawals count) ++ queries (commits count) (after_steps start (5 * count)) 100))
