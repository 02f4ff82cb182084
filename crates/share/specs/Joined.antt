-- Sister lines (paper 02, Q-13): two neighbouring lines listed as one, and a line left out. proofs/Joined.antt proves what they receive.
use Rattle.std.specs.Prelude.{ℕ, suc, List, ◌∷◌, ◌++◌, take, drop, ℤ, pos, ◌+ℤ◌, slice_index_or}

-- the entries before k, the sum of entries k and k + 1, the entries after them; k is counted from 0
unfoldable pub joined : ℕ → List ℤ → List ℤ
joined k xs = take k xs ++ (slice_index_or xs k (pos 0) +ℤ slice_index_or xs (suc k) (pos 0)) ∷ drop (suc (suc k)) xs

-- the entries before k, and those after it
unfoldable pub left_out : ℕ → List ℤ → List ℤ
left_out k xs = take k xs ++ drop (suc k) xs
