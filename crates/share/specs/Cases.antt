-- Paper 01's cases b and c ("Checked by hand"), sister lines, and one call for each refusal of the exported share, worked out from the
-- definitions.
use Rattle.std.specs.Prelude.{◌≡◌, ◌+◌, ◌^◌, List, [], ◌∷◌, ◌++◌, map, ℤ, pos, neg_ℤ, refl}
use Rattle.ints.specs.Floor.{floor}
use Rattle.ints.specs.Range.{outside}
use Rattle.ints.specs.Sums.{sum_ℤ}
use Rattle.share.specs.Running.{part, parts_from, running_share}
use Rattle.share.specs.Joined.{joined, left_out}
use Rattle.share.specs.Answer.{ShareAnswer, answers, refuses, sharing, seen_by_c}

-- b) −1106 over 1000, 2000 and c) 30 over 300, 1700
pub by_hand : running_share (neg_ℤ (pos 1106)) (pos 1000 ∷ pos 2000 ∷ []) ∷ running_share (pos 30) (pos 300 ∷ pos 1700 ∷ [])
    ∷ [] ≡ (neg_ℤ (pos 369) ∷ neg_ℤ (pos 737) ∷ []) ∷ (pos 4 ∷ pos 26 ∷ []) ∷ []
unfolding floor part parts_from running_share sum_ℤ
by_hand = refl

-- sister lines (paper 02, Q-13): −1106 over 1000, 700, 0, 1300; with the first two as one; without the third
abbrev four : List ℤ
four = pos 1000 ∷ pos 700 ∷ pos 0 ∷ pos 1300 ∷ []

pub sisters : map (running_share (neg_ℤ (pos 1106))) (four ∷ joined 0 four ∷ left_out 2 four ∷ [])
    ≡ (neg_ℤ (pos 369) ∷ neg_ℤ (pos 258) ∷ pos 0 ∷ neg_ℤ (pos 479) ∷ [])
    ∷ (neg_ℤ (pos 627) ∷ pos 0 ∷ neg_ℤ (pos 479) ∷ [])
    ∷ (neg_ℤ (pos 369) ∷ neg_ℤ (pos 258) ∷ neg_ℤ (pos 479) ∷ [])
    ∷ []
unfolding floor part parts_from running_share sum_ℤ joined left_out
sisters = refl

-- what a call of the exported share gives, and what C sees
abbrev pub Told : Type 0
Told = ShareAnswer × ℤ

abbrev pub told : ℤ → ℤ → ℤ → ℤ → Told
told P before through W = (sharing P before through W, seen_by_c (sharing P before through W))

-- the limits of P and W themselves are taken
unfoldable pub taken : List (Told × Told)
taken =
    (told (pos (10 ^ 17)) (pos 0) (pos (10 ^ 17)) (pos (10 ^ 17)), (answers (pos (10 ^ 17)), pos (10 ^ 17)))
    ∷ (told (neg_ℤ (pos (10 ^ 17))) (pos 0) (pos 1) (pos 1), (answers (neg_ℤ (pos (10 ^ 17))), neg_ℤ (pos (10 ^ 17))))
    ∷ (told (pos 7) (pos 1) (pos 1) (pos 1), (answers (pos 0), pos 0))
    ∷ []

-- P one past its limits; W one past its limits; the three ways that the sums go wrong; and of two that are wrong the first
unfoldable pub refused : List (Told × Told)
refused =
    (told (pos (10 ^ 17 + 1)) (pos 0) (pos 1) (pos 1), (refuses 5 1, neg_ℤ (pos (10 ^ 18 + 1))))
    ∷ (told (neg_ℤ (pos (10 ^ 17 + 1))) (pos 0) (pos 1) (pos 1), (refuses 5 1, neg_ℤ (pos (10 ^ 18 + 1))))
    ∷ (told (pos 1) (pos 0) (pos 0) (pos 0), (refuses 5 2, neg_ℤ (pos (10 ^ 18 + 2))))
    ∷ (told (pos 1) (pos 0) (pos 1) (pos (10 ^ 17 + 1)), (refuses 5 2, neg_ℤ (pos (10 ^ 18 + 2))))
    ∷ (told (pos 1) (neg_ℤ (pos 1)) (pos 1) (pos 2), (refuses 5 3, neg_ℤ (pos (10 ^ 18 + 3))))
    ∷ (told (pos 1) (pos 2) (pos 1) (pos 2), (refuses 5 3, neg_ℤ (pos (10 ^ 18 + 3))))
    ∷ (told (pos 1) (pos 1) (pos 3) (pos 2), (refuses 5 3, neg_ℤ (pos (10 ^ 18 + 3))))
    ∷ (told (pos (10 ^ 17 + 1)) (pos 0) (pos 0) (pos 0), (refuses 5 1, neg_ℤ (pos (10 ^ 18 + 1))))
    ∷ (told (pos 1) (neg_ℤ (pos 1)) (pos 1) (pos 0), (refuses 5 2, neg_ℤ (pos (10 ^ 18 + 2))))
    ∷ []

pub calls : map (λ r. r.0) (taken ++ refused) ≡ map (λ r. r.1) (taken ++ refused)
unfolding floor part outside sharing taken refused
calls = refl
