-- REFUSAL 11 AND THE FILE CHECK, in paper 01's words and with no machine in the statements. Assumes nothing.
use Prim.Native.Nat.{ℕ, suc, ◌+◌, ◌≤◌, ◌<◌}
use mathlib.Core.Path.{◌≡◌, refl, ap, ◌∙◌, subst}
use mathlib.Core.Logic.{◌↔◌}
use mathlib.Core.Bool.{Bool, true, false, cond}
use mathlib.Core.List.{List, [], ◌∷◌, append-nil}
use native.Mathlib.Omega.{arith}
use lib.ListN.{length}
use lib.IntN.{pos, negsuc}
use borrow.Author.Tests.{lt-ltb, le-ltb}
use Rattle.format.specs.Blocks.{free}
use Rattle.format.specs.Grammar.{Files}
use Rattle.format.specs.Machine.{State, stuck, is_stuck, step, final, ends_before, start, onward, run, Accepted, TextVerdict, passes, fails}
use Rattle.format.specs.Machine.{judge, number, check_of}
use Rattle.format.specs.Language.{Begins, Place, Judged, Checked}
use Rattle.format.proofs.Live.{not_both, Sound, Good, holds_cond, good_step, complete, live, is_stuck_lem}
use Rattle.format.proofs.Table.{sound_format}
use Rattle.format.proofs.Places.{Later, here_end, here_byte, later, one_place, no_place, same_place}
use Rattle.format.proofs.Accepts.{On, joined, nothing, accepts}

-- what finishes a file finishes files on end
alive : (s : State) → Good s → is_stuck s ≡ false → Begins (On s) []
alive s g n =
    record {
      rest = complete s;
      whole = subst (On s) (append-nil (complete s)) (joined (complete s) [] s (live s g n) nothing);
    }

good_onward : (b : ℕ) (s : State) → Good s → Good (onward s b)
unfolding onward
good_onward b s g = holds_cond Sound (ends_before s b) _ (step s b) (good_step b (start free) (sound_format free)) (good_step b s g)

no_end : (t : List ℕ) → On stuck t → ⊥
unfolding run onward step
no_end [] e = not_both false refl e
no_end (b ∷ t) e = no_end t e

-- what a verdict says, counted from k
abbrev Claim : (List ℕ → Type 0) → List ℕ → ℕ → TextVerdict → Type 0
Claim L t k passes = L t
Claim L t k (fails p) = Later L t k p

ended_here : (s : State) (k : ℕ) → Good s → is_stuck s ≡ false → (f : Bool) → final s ≡ f → Claim (On s) [] k (cond f passes (fails k))
unfolding run
ended_here s k g n true e = e
ended_here s k g n false e =
    record { past = 0; here = omega arith; place = here_end (On s) (alive s g n) (λ a. not_both (final s) e a) }

module _ (s : State) (b : ℕ) (t : List ℕ) (k : ℕ) where
  stuck_here : Good s → is_stuck s ≡ false → is_stuck (onward s b) ≡ true → Later (On s) (b ∷ t) k k
  unfolding run
  stuck_here g n e =
      record {
        past = 0;
        here = omega arith;
        place =
            here_byte (On s) b t (alive s g n)
            (λ w. no_end w.rest (subst (λ (x : State). On x w.rest) (is_stuck_lem (onward s b) e) w.whole));
      }

  lift : (v : TextVerdict) → Claim (On (onward s b)) t (k + 1) v → Claim (On s) (b ∷ t) k v
  unfolding run
  lift passes a = a
  lift (fails p) l = record { past = suc l.past; here = l.here ∙ omega arith; place = later (On s) b t l.past l.place }

  turn : (v : TextVerdict) → Good s → is_stuck s ≡ false
      → (is_stuck (onward s b) ≡ false → Claim (On (onward s b)) t (k + 1) v)
      → (q : Bool) → is_stuck (onward s b) ≡ q → Claim (On s) (b ∷ t) k (cond q (fails k) v)
  turn v g n r true e = stuck_here g n e
  turn v g n r false e = lift v (r e)

claim : (s : State) → Good s → is_stuck s ≡ false → (k : ℕ) (t : List ℕ) → Claim (On s) t k (judge s k t)
unfolding judge
claim s g n k [] = ended_here s k g n (final s) refl
claim s g n k (b ∷ t) =
    turn s b t k (judge (onward s b) (k + 1) t) g n (λ e. claim (onward s b) (good_onward b s g) e (k + 1) t) (is_stuck (onward s b)) refl

from_nought : (t : List ℕ) (v : TextVerdict) → Claim Accepted t 0 v → Judged Files t v
from_nought t passes a = (accepts t).0 a
from_nought t (fails p) l =
    let e : l.past ≡ p = omega (arith, l.here) in
    subst (λ (x : ℕ). Place Files t x) e (same_place Accepted Files accepts t l.past l.place)

-- REFUSAL 11: the verdict on a text is paper 01's
pub judged : (t : List ℕ) → Judged Files t (judge (start free) 0 t)
judged t = from_nought t (judge (start free) 0 t) (claim (start free) (sound_format free) refl 0 t)

-- what a verdict tells as a number
module _ (t : List ℕ) where
  fine_number : (v : TextVerdict) → Judged Files t v → (number v ≡ negsuc 0) ↔ Files t
  fine_number passes j = (λ e. j, λ f. refl)
  fine_number (fails p) j = (λ e. let z : ◌≡◌ {A = ℕ} 0 1 = cc in absurd (omega arith), λ f. absurd (no_place Files t p j f))

  place_number : (v : TextVerdict) → Judged Files t v → (p : ℕ) → (number v ≡ pos p) ↔ Place Files t p
  place_number passes j p = (λ e. let z : ◌≡◌ {A = ℕ} 0 1 = cc in absurd (omega arith), λ a. absurd (no_place Files t p a j))
  place_number (fails q) j p =
      (λ e. let h : q ≡ p = cc in subst (λ (x : ℕ). Place Files t x) h j, λ a. ap pos (one_place Files t q p j a))

  pub check_over : 1_000_000_000_000_000 < length t → check_of t ≡ negsuc 1
  unfolding check_of
  check_over h = rw (lt-ltb 1_000_000_000_000_000 (length t) h)

  pub check_within : length t ≤ 1_000_000_000_000_000 → check_of t ≡ number (judge (start free) 0 t)
  unfolding check_of
  check_within h = rw (le-ltb 1_000_000_000_000_000 (length t) h)

-- THE FILE CHECK answers as paper 01 says
pub file_check : (t : List ℕ) → Checked t (check_of t)
file_check t =
    let v = judge (start free) 0 t in
    record {
      over = check_over t;
      fine = λ h. rw (check_within t h) (fine_number t v (judged t));
      place = λ h p. rw (check_within t h) (place_number t v (judged t) p);
    }
