-- One test of each line, turn by turn: what a loop over the lines cites.
use Prim.Native.Nat.{ℕ, suc, ◌+◌, ◌≤◌, ◌<◌}
use mathlib.Core.Path.{◌≡◌, refl, ap, ◌∙◌}
use mathlib.Core.List.{List, [], ◌∷◌, map}
use native.Mathlib.Numerals.{add-one}
use lib.ListN.{length, get_or, drop, drop_of_length-le}
use lib.Seq.{drop-cons}
use Rattle.rules.specs.Verdict.{Verdict, accepted, refused, ◌then◌, each_line}

-- lines that f makes of others are tested where those stand
pub each_map :
    {A B : Type 0} (test : ℕ → B → Verdict) (f : A → B) (k : ℕ) (xs : List A)
    → each_line test k (map f xs) ≡ each_line (λ (i : ℕ) (x : A). test i (f x)) k xs
unfolding each_line
each_map test f k [] = refl
each_map test f k (x ∷ xs) = ap (λ (v : Verdict). test k (f x) then v) (each_map test f (suc k) xs)

module _ {A : Type 0} (test : ℕ → A → Verdict) (xs : List A) where
  -- the first i lines passed: the verdict is that of the rest
  pub record Past (i : ℕ) : Type 0 where
    pub rest : each_line test 1 xs ≡ each_line test (i + 1) (drop i xs)

  pub none_past : Past 0
  none_past = record { rest = refl }

  turn :
      (i : ℕ) (d : A)
      → i < length xs
      → each_line test (i + 1) (drop i xs) ≡ (test (i + 1) (get_or xs i d) then each_line test (i + 1 + 1) (drop (i + 1) xs))
  unfolding each_line
  turn i d h = rw (add-one (i + 1), add-one i, drop-cons xs i d)

  -- line i is refused: that is the verdict
  pub line_refused : {i n p : ℕ} (d : A) → i < length xs → Past i → test (i + 1) (get_or xs i d) ≡ refused n p → each_line test 1 xs ≡ refused n p
  line_refused {i} d h q t = q.rest ∙ turn i d h ∙ ap (λ (v : Verdict). v then each_line test (i + 1 + 1) (drop (i + 1) xs)) t

  -- line i is accepted: one more line passed
  pub line_past : {i : ℕ} (d : A) → i < length xs → Past i → test (i + 1) (get_or xs i d) ≡ accepted → Past (i + 1)
  line_past {i} d h q t =
      record { rest = q.rest ∙ turn i d h ∙ ap (λ (v : Verdict). v then each_line test (i + 1 + 1) (drop (i + 1) xs)) t }

  -- past the last line nothing was refused
  pub all_past : {i : ℕ} → length xs ≤ i → Past i → each_line test 1 xs ≡ accepted
  unfolding each_line
  all_past {i} h q = q.rest ∙ ap (each_line test (i + 1)) (drop_of_length-le xs h)
