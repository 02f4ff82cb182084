-- THE LAW OF THE SAVED FILE (paper 02, Q-3): with CRs added before LFs, all of them or some, reading answers the same values or the same
-- number, and the file check the same; every position and place has moved with the text. Assumes nothing.
use Prim.Native.Nat.{ℕ, zero, suc, ◌≤◌}
use mathlib.Core.Path.{◌≡◌, refl, ap, sym, ◌∙◌, subst}
use mathlib.Core.Bool.{Bool, true, false, cond, ◌&&◌, not}
use mathlib.Core.List.{List, [], ◌∷◌}
use native.Mathlib.Omega.{arith}
use lib.Dec.{eqb}
use lib.ListN.{length, drop}
use lib.IntN.{ℤ, pos, negsuc}
use borrow.Author.Tests.{eqb-true, eqb-false}
use Rattle.format.specs.Bytes.{lf, cr}
use Rattle.format.specs.Blocks.{Slices, free, blocks}
use Rattle.format.specs.Grammar.{File}
use Rattle.format.specs.Machine.{start, TextVerdict, passes, fails, judge, number, check_of}
use Rattle.format.specs.Language.{Stands}
use Rattle.format.specs.Values.{read_blocks, file_of}
use Rattle.format.specs.Reading.{scan_at, accepted, answer, reading, ReadsOn, then, ComesBack, here, further}
use Rattle.format.specs.Reading as R
use Rattle.format.specs.Saved.{Added, over, kept, added, Saved, moved, moved_answer, moved_number}
use Rattle.std.specs.Prelude.{Result, Ok, Err}
use Rattle.format.specs.declared.Fault.{Fault}
use Rattle.format.specs.declared.Fault.TheVariants.{Faulty, Full}
use Rattle.format.proofs.FileCheck.{check_within}
use Rattle.format.proofs.Answers.{reading_is}
use Rattle.format.proofs.FileByFile.{checked_by_reading}
use Rattle.format.proofs.CheckPlace.{checked_by_refusal}
use Rattle.format.proofs.SavedScans.{to_start, to_end, to_within, placed, remains, same_verdict}
use Rattle.format.proofs.SavedValues.{same_file}

-- the file found at a position, and where the verdict is whole it stands there
abbrev found : Slices → List ℕ → ℕ → File
found r t from = file_of (read_blocks (blocks r) (drop from t)).got

unfoldable is_there : (r : Slices) (t : List ℕ) (from n : ℕ) → scan_at r t from ≡ Ok n → Stands r (drop from t)
unfolding reading
is_there r t from n e =
    let x = (reading_is r t from (accepted (found r t from) n)).0 (ap (answer (found r t from)) e) in
    record { file = found r t from; ends = x.ends; rest = x.rest; fits = x.fits; follows = x.follows; is = x.is }

-- READING, from any position
pub same_reading : (r : Slices) (t u : List ℕ) (c : Saved t u) (from : ℕ) → reading r u (moved c from) ≡ moved_answer c (reading r t from)
unfolding reading is_there
same_reading r t u c from = ap (answer (found r u (moved c from))) (same_verdict r t u c from) ∙ same_answer (scan_at r t from) refl
  where
    same_found : (n : ℕ) → scan_at r t from ≡ Ok n → found r u (moved c from) ≡ found r t from
    same_found n e =
        let x = remains c from in
        let l : Added x.before (drop from t) (drop (moved c from) u) =
        subst (λ (p : ℕ). Added x.before (drop from t) (drop p u)) (sym x.to_is) x.left in
        same_file r l (is_there r t from n e)
        (is_there r u (moved c from) (moved c n) (same_verdict r t u c from ∙ ap (placed (moved c)) e))

    same_answer :
        (v : Result ℕ Fault)
        → scan_at r t from ≡ v
        → answer (found r u (moved c from)) (placed (moved c) v) ≡ moved_answer c (answer (found r t from) v)
    same_answer (Ok n) e = ap (λ (f : File). accepted f (moved c n)) (same_found n e)
    same_answer (Err (Faulty n)) e = refl
    same_answer (Err (Full n)) e = refl

-- FILE AFTER FILE
module _ (r : Slices) (t u : List ℕ) (c : Saved t u) where
  reads_on : (from : ℕ) → ReadsOn r t from → ReadsOn r u (moved c from)
  reads_on from (R.last _ f e) = R.last (moved c from) f (same_reading r t u c from ∙ ap (moved_answer c) e ∙ ap (accepted f) (to_end c))
  reads_on from (then _ f next e rs) =
      then (moved c from) f (moved c next) (same_reading r t u c from ∙ ap (moved_answer c) e) (reads_on next rs)

  comes_back : (from n p : ℕ) → ComesBack r t from n p → ComesBack r u (moved c from) n (moved c p)
  comes_back from n p (here _ _ _ e) = here (moved c from) n (moved c p) (same_reading r t u c from ∙ ap (moved_answer c) e)
  comes_back from n p (further _ f next _ _ e h b) =
      further (moved c from) f (moved c next) n (moved c p)
      (same_reading r t u c from ∙ ap (moved_answer c) e)
      (to_within c next h)
      (comes_back next n p b)

-- THE FILE CHECK, of a text that saved is not over 10^15 bytes
pub same_check : (t u : List ℕ) (c : Saved t u) → length u ≤ 1_000_000_000_000_000 → check_of u ≡ moved_number c (check_of t)
same_check t u c h = by (check_of t) refl
  where
    short : length t ≤ 1_000_000_000_000_000
    short = omega (arith, to_end c)

    neither : (v : TextVerdict) (n : ℕ) → number v ≡ negsuc (suc n) → ⊥
    neither passes n e = let z : ◌≡◌ {A = ℕ} 0 1 = cc in omega arith
    neither (fails k) n e = let z : ◌≡◌ {A = ℕ} 0 1 = cc in omega arith

    by : (z : ℤ) → check_of t ≡ z → check_of u ≡ moved_number c z
    by (pos q) e =
        (checked_by_refusal free u tt h (moved c q)).1
        (subst (λ (k : ℕ). ComesBack free u k 11 (moved c q)) (to_start c) (comes_back free t u c 0 11 q ((checked_by_refusal free t tt short q).0 e)))
    by (negsuc zero) e =
        (checked_by_reading free u h tt).1
        (subst (ReadsOn free u) (to_start c) (reads_on free t u c 0 ((checked_by_reading free t short tt).0 e)))
    by (negsuc (suc n)) e = absurd (neither (judge (start free) 0 t) n (sym (check_within t short) ∙ e))

-- NOT IN VAIN: any text can be saved so, with a CR before every LF that has none
unfoldable pub in_full : ℕ → List ℕ → List ℕ
in_full last [] = []
in_full last (b ∷ t) = cond (eqb b lf && not (eqb last cr)) (cr ∷ b ∷ in_full b t) (b ∷ in_full b t)

pub saved_in_full : (last : ℕ) (t : List ℕ) → Added last t (in_full last t)
unfolding in_full
saved_in_full last [] = over last
saved_in_full last (b ∷ t) = by (eqb b lf) (eqb last cr) refl refl (in_full b t) (saved_in_full b t)
  where
    by :
        (p q : Bool)
        → eqb b lf ≡ p
        → eqb last cr ≡ q
        → (u : List ℕ)
        → Added b t u
        → Added last (b ∷ t) (cond (p && not q) (cr ∷ b ∷ u) (b ∷ u))
    by true true d e u c = kept last b t u c
    by true false d e u c =
        let h : b ≡ lf = eqb-true b lf d in
        subst (λ (x : ℕ). Added last (x ∷ t) (cr ∷ x ∷ u)) (sym h)
        (added last t u (eqb-false last cr e) (subst (λ (x : ℕ). Added x t u) h c))
    by false q d e u c = kept last b t u c
