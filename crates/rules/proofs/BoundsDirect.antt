-- The bounds of the direct charges of a month whose lines are in their ranges, and of their sum.
use Prim.Native.Nat.{ℕ, ◌<◌}
use native.Mathlib.Omega.{arith}
use mathlib.Core.List.{[]}
use lib.IntN.{pos}
use lib.ListN.{length, get_or}
use Rattle.ints.specs.Bridge.{za}
use Rattle.ints.specs.Adding.{Summable}
use Rattle.ints.specs.Bounds.{Word, word_wide, Words, words_small, word_sum}
use Rattle.ints.specs.Range.{Within}
use Rattle.ints.specs.Sums.{sum_ℤ, Small}
use Rattle.rules.specs.Lists.{get_d_map}
use Rattle.rules.specs.Most.{most_amount, most_direct}
use Rattle.rules.specs.declared.User.{User}
use Rattle.rules.specs.Lines.{Lines, user_of}
use Rattle.rules.specs.State.{State}
use Rattle.rules.specs.Direct.{ongs}
use Rattle.rules.proofs.Passed.{Passed}
use Rattle.rules.proofs.Direct.{length_ongs}
use Rattle.rules.proofs.BoundsAgent.{amount}

pub record DirectBounds (l : Lines) : Type 0 where
  pub small : Small most_amount (ongs l.users)
  pub summable : Summable (ongs l.users)
  pub total : Within (pos 0) (pos most_direct) (sum_ℤ (ongs l.users))

module _ {s : State} {l : Lines} (p : Passed s l) where
  ong : Words 0 most_amount (ongs l.users)
  ong = record { at = at }
    where
      at : (j : ℕ) → j < length (ongs l.users) → Word 0 most_amount (get_or (ongs l.users) j (pos 0))
      at j h =
          let k : j < length l.users = omega (arith, length_ongs l) in
          rw (get_d_map (λ (u : User). u.ong) l.users j (user_of []) (pos 0) k) (amount (p.user j k).ong)

  pub bounds_direct : DirectBounds l
  bounds_direct =
      let small : Small most_amount (ongs l.users) = words_small (record { at = λ j h. word_wide most_amount most_amount (ong.at j h) tt tt }) in
      let sum = word_sum most_amount 512 (ongs l.users) ong (omega (arith, length_ongs l, p.users, p.few_users)) tt in
      record {
        small = small;
        summable = record { largest = most_amount; small = small; room = omega (arith, length_ongs l, p.users, p.few_users) };
        total = record { above = omega za; below = omega za };
      }
