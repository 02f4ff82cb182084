-- THE FILE CHECK AND READING AGREE: a text is one or more files on end exactly where reading, with slices as long as the text, accepts
-- file after file to its end. Assumes nothing.
use Prim.Native.Nat.{ℕ, suc, ◌+◌, ◌-◌, ◌≤◌, ◌<◌, min}
use mathlib.Core.Path.{◌≡◌, refl, ap, sym, ◌∙◌, subst}
use mathlib.Core.Logic.{◌↔◌}
use mathlib.Core.List.{List, [], ◌∷◌, ◌++◌, append-nil}
use native.Mathlib.Omega.{arith}
use lib.ListN.{length, drop, length-append, length-drop}
use lib.Seq.{drop-drop, drop-append_seam}
use lib.IntN.{ℤ, negsuc}
use Rattle.format.specs.Bytes.{m}
use Rattle.format.specs.Blocks.{Block, Slices, free, blocks}
use Rattle.format.specs.Decimal.{All}
use Rattle.format.specs.Grammar.{Ends, first_end, names_text, lines_text, blocks_text, BlocksFit, File, kinds_of, rows, file_text, Fits, fits_slices, Files}
use Rattle.format.specs.Grammar as G
use Rattle.format.specs.Machine.{check_of}
use Rattle.format.specs.Language.{Follows}
use Rattle.format.specs.Reading.{accepted, reading, Read, AtLeast, ReadsOn, last, then}
use Rattle.format.proofs.Slices.{few_all}
use Rattle.format.proofs.Accepts.{begins_m}
use Rattle.format.proofs.FileCheck.{file_check}
use Rattle.format.proofs.Values.{few_lines}
use Rattle.format.proofs.Answers.{reading_is}

-- no block has more lines than the text has bytes
few :
    (n : ℕ) (es : Ends) (bs : List Block) (w : List (List (List ℤ)))
    → BlocksFit bs w
    → length (blocks_text es bs w) ≤ n
    → All (λ (ls : List (List ℤ)). length ls ≤ n) w
unfolding blocks_text
few n es [] [] x h = tt
few n es [] (ls ∷ w) x h = absurd x
few n es (b ∷ bs) [] x h = absurd x
few n es (b ∷ bs) (ls ∷ w) x h =
    let own : List ℕ = lines_text (drop 1 es) ls in
    let after : Ends = drop (length ls) (drop 1 es) in
    let c = length-append (names_text (first_end es) b) (own ++ blocks_text after bs w) in
    let d = length-append own (blocks_text after bs w) in
    let e = few_lines (drop 1 es) ls in
    (omega arith, few n after bs w x.2 (omega arith))

-- slices as long as a file's text take it
takes_all : (n : ℕ) (r : Slices) (es : Ends) (f : File) → Fits free f → length (file_text es f) ≤ n → AtLeast n r → Fits r f
takes_all n r es f x h e = (fits_slices r f).1 (x, few_all n r (kinds_of f) e (few n es (blocks free) (rows f) x h).1)

-- what slices take fits any count
takes_free : (r : Slices) (f : File) → Fits r f → Fits free f
takes_free r f x = ((fits_slices r f).0 x).0

some_bytes : (es : Ends) (f : File) → 1 ≤ length (file_text es f)
some_bytes es f =
    let b = begins_m es f [] in
    let e : length (file_text es f) ≡ suc (length b.0) = ap length (sym (append-nil (file_text es f)) ∙ b.1) in
    omega arith

-- files begin with `m`
follows_m : (t u : List ℕ) → t ≡ m ∷ u → Follows t
follows_m [] u e = tt
follows_m (b ∷ t) u e = let h : b ≡ m = cc in h

files_follow : (t : List ℕ) → Files t → Follows t
files_follow t (G.last es f x) = let b = begins_m es f [] in follows_m (file_text es f) b.0 (sym (append-nil (file_text es f)) ∙ b.1)
files_follow t (G.then es f x u fs) = let b = begins_m es f u in follows_m (file_text es f ++ u) b.0 b.1

module _ (r : Slices) (t : List ℕ) where
  -- a file that stands at a position, and what is left after it
  module _ (from : ℕ) (es : Ends) (f : File) (rest : List ℕ) (e : drop from t ≡ file_text es f ++ rest) where
    in_text : length t ≡ from + length (file_text es f) + length rest
    in_text =
        let n : length t - from ≡ length (file_text es f) + length rest =
        sym (length-drop from t) ∙ ap length e ∙ length-append (file_text es f) rest in
        omega (arith, some_bytes es f)

    here : min from (length t) ≡ from
    here = omega (arith, in_text)

    left : drop (from + length (file_text es f)) t ≡ rest
    left =
        sym (drop-drop (length (file_text es f)) from t)
        ∙ ap (drop (length (file_text es f))) e
        ∙ drop-append_seam (file_text es f) rest

    is_read :
        AtLeast (length t) r
        → Fits free f
        → Follows rest
        → reading r t from ≡ accepted f (from + length (file_text es f))
    is_read wide x h =
        (reading_is r t from (accepted f (from + length (file_text es f)))).1
        (record {
          fits = takes_all (length t) r es f x (omega (arith, in_text)) wide;
          ends = es;
          rest = rest;
          follows = h;
          is = e;
          next_is = ap (λ (k : ℕ). k + length (file_text es f)) (sym here);
        })

  forth : AtLeast (length t) r → (s : List ℕ) → Files s → (from : ℕ) → drop from t ≡ s → ReadsOn r t from
  forth wide s (G.last es f x) from e =
      let e' : drop from t ≡ file_text es f ++ [] = e ∙ sym (append-nil (file_text es f)) in
      let n : from + length (file_text es f) ≡ length t = omega (arith, in_text from es f [] e') in
      last from f (is_read from es f [] e' wide x tt ∙ ap (accepted f) n)
  forth wide s (G.then es f x v fs) from e =
      then from f (from + length (file_text es f)) (is_read from es f v e wide x (files_follow v fs))
      (forth wide v fs (from + length (file_text es f)) (left from es f v e))

  -- what reading accepted
  was_read : (from next : ℕ) (f : File) → reading r t from ≡ accepted f next → Read r t from f next
  was_read from next f e = (reading_is r t from (accepted f next)).0 e

  back : (from : ℕ) → ReadsOn r t from → Files (drop from t)
  back from (last _ f e) =
      let x = was_read from (length t) f e in
      let v : List ℕ = file_text x.ends f in
      let i = in_text from x.ends f x.rest x.is in
      let h = here from x.ends f x.rest x.is in
      let n : length x.rest ≡ 0 = omega (arith, x.next_is) in
      let q : drop from t ≡ v = x.is ∙ ap (λ (x : List ℕ). v ++ x) (empty x.rest n) ∙ append-nil v in
      subst Files (sym q) (G.last x.ends f (takes_free r f x.fits))
    where
      empty : (xs : List ℕ) → length xs ≡ 0 → xs ≡ []
      empty [] h = refl
      empty (x ∷ xs) h = absurd (omega arith)
  back from (then _ f next e rs) =
      let x = was_read from next f e in
      let l : ℕ = length (file_text x.ends f) in
      let n : next ≡ from + l = x.next_is ∙ ap (λ (k : ℕ). k + l) (here from x.ends f x.rest x.is) in
      let d : drop next t ≡ x.rest = ap (λ (k : ℕ). drop k t) n ∙ left from x.ends f x.rest x.is in
      subst Files (sym x.is) (G.then x.ends f (takes_free r f x.fits) x.rest (subst Files d (back next rs)))

  -- the next position lies after this one, and within the text
  pub next_within : (from next : ℕ) (f : File) → reading r t from ≡ accepted f next → (from < next) × (next ≤ length t)
  next_within from next f e =
      let x = was_read from next f e in
      let n = x.next_is in
      let i = in_text from x.ends f x.rest x.is in
      let h = here from x.ends f x.rest x.is in
      let b = some_bytes x.ends f in
      (omega arith, omega arith)

  -- FILE AFTER FILE
  pub file_by_file : AtLeast (length t) r → Files t ↔ ReadsOn r t 0
  file_by_file wide = (λ fs. forth wide t fs 0 refl, λ rs. back 0 rs)

  -- the file check's -1 and reading
  pub checked_by_reading :
      length t ≤ 1_000_000_000_000_000 → AtLeast (length t) r → (check_of t ≡ negsuc 0) ↔ ReadsOn r t 0
  checked_by_reading h wide =
      let c = (file_check t).fine h in
      let d = file_by_file wide in
      (λ e. d.0 (c.0 e), λ rs. c.1 (d.1 rs))
