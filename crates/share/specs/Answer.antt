-- The share as holdings call it (paper 01, "The month file", last paragraph): its limits, its refusals, and what C sees.
use Rattle.std.specs.Prelude.{ℕ, Bool, cond, ◌||◌, Result, Ok, Err, ℤ, pos, negsuc, ◌-ℤ◌, int_lt}
use Rattle.ints.specs.Range.{outside}
use Rattle.share.specs.Running.{part}
use Rattle.share.specs.declared.BadShare.{BadShare}
use Rattle.share.specs.declared.BadShare.TheVariants.{Amount, Total, Sums}

-- P is −10^17 to 10^17
abbrev pub bad_amount : ℤ → Bool
bad_amount P = outside (negsuc 99999999999999999) (pos 100000000000000000) P

-- W is 1 to 10^17
abbrev pub bad_total : ℤ → Bool
bad_total W = outside (pos 1) (pos 100000000000000000) W

-- 0 ≤ before ≤ through ≤ W
abbrev pub bad_sums : ℤ → ℤ → ℤ → Bool
bad_sums before through W = int_lt before (pos 0) || (int_lt through before || int_lt W through)

-- what the share gives: it answers the part, or it refuses with a number and a place
pub data ShareAnswer : Type 0 where
  answers : ℤ → ShareAnswer
  refuses : ℕ → ℕ → ShareAnswer

-- the part; otherwise 5, the place 1 for P, 2 for W, 3 for the sums, the first that holds
unfoldable pub sharing : ℤ → ℤ → ℤ → ℤ → ShareAnswer
sharing P before through W =
    cond (bad_amount P) (refuses 5 1)
    (cond (bad_total W) (refuses 5 2)
    (cond (bad_sums before through W) (refuses 5 3) (answers (part P before through W))))

-- the place of a refusal
abbrev pub place_of : BadShare → ℕ
place_of Amount = 1
place_of Total = 2
place_of Sums = 3

-- what each case of the code's answer stands for: the part, or number and place;
-- no two stand for the same (`one_answer` in proofs/Limits)
abbrev pub answer_of : Result ℤ BadShare → ShareAnswer
answer_of (Ok x) = answers x
answer_of (Err e) = refuses 5 (place_of e)

-- what C sees: the part, or −10^18 less the place
abbrev pub seen_by_c : ShareAnswer → ℤ
seen_by_c (answers x) = x
seen_by_c (refuses n k) = negsuc 999999999999999999 -ℤ pos k
