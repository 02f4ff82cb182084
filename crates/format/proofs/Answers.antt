-- READING, in paper 01's words: its answer is what paper 01 says, and paper 01's words leave no other. Assumes nothing.
use Prim.Native.Nat.{ℕ, suc, ◌+◌, ◌<◌, min}
use mathlib.Core.Path.{◌≡◌, refl, ap, sym, ◌∙◌, subst}
use mathlib.Core.Logic.{◌↔◌}
use mathlib.Core.Bool.{true}
use mathlib.Core.List.{List, ◌++◌}
use native.Mathlib.Omega.{arith}
use lib.ListN.{length, take, drop, get_or, length-append}
use lib.Seq.{drop-append_seam}
use Rattle.format.specs.Bytes.{starts_line}
use Rattle.format.specs.Blocks.{Slices, free, blocks}
use Rattle.format.specs.Grammar.{Ends, File, file_text, Fits}
use Rattle.format.specs.Machine.{State, start}
use Rattle.format.specs.Language.{Begins, Place, Follows, Stands}
use Rattle.format.specs.Values.{read_blocks, file_of}
use Rattle.format.specs.Reading.{scan, scan_at, ReadingAnswer, accepted, refused, answer, reading, Exceeds, Read, Why, faulty, too_long}
use Rattle.format.specs.Reading.{Back, Says}
use Rattle.std.specs.Prelude.{Result, Ok, Err}
use Rattle.format.specs.declared.Fault.{Fault}
use Rattle.format.specs.declared.Fault.TheVariants.{Faulty, Full}
use Rattle.format.proofs.Table.{sound_format}
use Rattle.format.proofs.Slices.{too_many_lem}
use Rattle.format.proofs.Places.{Later, one_place, no_place, same_place}
use Rattle.format.proofs.Sound.{sound}
use Rattle.format.proofs.Values.{values_back, one_reading}
use Rattle.format.proofs.Scans.{Rests, rests_stands, Claim, claim}
use Rattle.format.proofs.Wide.{wide, wide_start, Longer, Wider, wider}

module _ (r : Slices) (t : List ℕ) (from : ℕ) where
  abbrev s : List ℕ
  s = drop from t

  abbrev k : ℕ
  k = min from (length t)

  -- a file was read
  read_whole : (n : ℕ) → Claim (start r) s k (Ok n) → Read r t from (file_of (read_blocks (blocks r) s).got) n
  read_whole n c =
      let o = sound r c.rests.first c.rests.whole in
      let e : s ≡ file_text o.ends o.file ++ c.rests.rest = c.rests.is ∙ ap (λ (x : List ℕ). x ++ c.rests.rest) o.is in
      let v : file_of (read_blocks (blocks r) s).got ≡ o.file =
      ap (λ (x : List ℕ). file_of (read_blocks (blocks r) x).got) e
      ∙ values_back r o.ends o.file c.rests.rest o.fits c.rests.follows in
      subst (λ (f : File). Read r t from f n) (sym v)
      (record {
        fits = o.fits;
        ends = o.ends;
        rest = c.rests.rest;
        follows = c.rests.follows;
        is = e;
        next_is = c.here ∙ ap (λ (x : List ℕ). k + length x) o.is;
      })

  place_of : (r' : Slices) (q : ℕ) → Place (Rests (start r')) s q → Place (Stands r') s q
  place_of r' q a = same_place (Rests (start r')) (Stands r') (rests_stands r') s q a

  -- 11 with any room
  free_place : (n q : ℕ) → n ≡ k + q → scan (wide (start r)) k s ≡ Err (Faulty n) → Place (Stands free) s q
  free_place n q e w =
      let w' : scan (start free) k s ≡ Err (Faulty n) = ap (λ (x : State). scan x k s) (sym (wide_start r)) ∙ w in
      let l : Later (Rests (start free)) s k n = subst (Claim (start free) s k) w' (claim (start free) (sound_format free) refl k s) in
      let h : l.past ≡ q = omega (arith, l.here) in
      subst (Place (Stands free) s) h (place_of free l.past l.place)

  back_faulty : (n : ℕ) → Claim (start r) s k (Err (Faulty n)) → Wider (start r) s k (Err (Faulty n)) → Back r t from 11 n
  back_faulty n c w =
      record {
        past = c.past;
        place_is = c.here;
        first = place_of r c.past c.place;
        why = faulty refl (free_place n c.past c.here w);
      }

  -- 12: what goes on with more room has more lines of a kind than its slice takes
  exceeds :
      (q : ℕ)
      → q < length s
      → Place (Stands r) s q
      → Begins (Rests (wide (start r))) (take (suc q) s)
      → Begins (Exceeds r) (take (suc q) s)
  exceeds q h c w =
      let x : Stands free (take (suc q) s ++ w.rest) =
      (rests_stands free (take (suc q) s ++ w.rest)).0
      (subst (λ (y : State). Rests y (take (suc q) s ++ w.rest)) (wide_start r) w.whole) in
      record {
        rest = w.rest;
        whole = record {
          stands = x;
          over =
              too_many_lem r x.file x.fits
              (λ fit. c.through h
              (record {
                rest = w.rest;
                whole = record { file = x.file; ends = x.ends; rest = x.rest; fits = fit; follows = x.follows; is = x.is };
              }));
        };
      }

  back_full : (n : ℕ) → Claim (start r) s k (Err (Full n)) → Longer (start r) s k n → Back r t from 12 n
  back_full n c l =
      let e : l.past ≡ c.past = omega (arith, c.here, l.here) in
      let f = place_of r c.past c.place in
      let h : c.past < length s = subst (λ (q : ℕ). q < length s) e l.some in
      record {
        past = c.past;
        place_is = c.here;
        first = f;
        why =
            too_long refl h
            (subst (λ (q : ℕ). starts_line (get_or s q 0) ≡ true) e l.starts)
            (exceeds c.past h f (subst (λ (q : ℕ). Begins (Rests (wide (start r))) (take (suc q) s)) e l.begins));
      }

  -- READING'S ANSWER IS WHAT PAPER 01 SAYS
  pub reads : Says r t from (reading r t from)
  unfolding reading scan_at
  reads = by (scan (start r) k s) (claim (start r) (sound_format r) refl k s) (wider (start r) (sound_format r) k s)
    where
      by :
          (v : Result ℕ Fault)
          → Claim (start r) s k v
          → Wider (start r) s k v
          → Says r t from (answer (file_of (read_blocks (blocks r) s).got) v)
      by (Ok n) c w = read_whole n c
      by (Err (Faulty n)) c w = back_faulty n c w
      by (Err (Full n)) c w = back_full n c w

  -- what is read stands there
  stands : (f : File) (n : ℕ) → Read r t from f n → Stands r s
  stands f n x = record { file = f; ends = x.ends; rest = x.rest; fits = x.fits; follows = x.follows; is = x.is }

  -- two readings at one position have the same file and the same next position
  same_read : (f g : File) (n o : ℕ) → Read r t from f n → Read r t from g o → (f ≡ g) × (n ≡ o)
  same_read f g n o x y =
      let e = one_reading r x.ends y.ends f g x.rest y.rest x.fits y.fits x.follows y.follows (sym x.is ∙ y.is) in
      let a : length s ≡ length (file_text x.ends f) + length x.rest = ap length x.is ∙ length-append (file_text x.ends f) x.rest in
      let b : length s ≡ length (file_text y.ends g) + length y.rest = ap length y.is ∙ length-append (file_text y.ends g) y.rest in
      let l : length x.rest ≡ length y.rest = ap length e.1 in
      (e.0, omega (arith, x.next_is, y.next_is))

  -- no byte is 11 and 12 at once
  not_both : (q : ℕ) → Place (Stands free) s q → q < length s → Begins (Exceeds r) (take (suc q) s) → ⊥
  not_both q a h b = a.through h (record { rest = b.rest; whole = b.whole.stands })

  same_number : (q c d : ℕ) → Why r s q c → Why r s q d → c ≡ d
  same_number q c d (faulty e x) (faulty f y) = e ∙ sym f
  same_number q c d (faulty e x) (too_long f h b y) = absurd (not_both q x h y)
  same_number q c d (too_long e h b x) (faulty f y) = absurd (not_both q y h x)
  same_number q c d (too_long e h b x) (too_long f i g y) = e ∙ sym f

  -- PAPER 01'S WORDS LEAVE ONE ANSWER
  pub one_answer : (x y : ReadingAnswer) → Says r t from x → Says r t from y → x ≡ y
  one_answer (accepted f n) (accepted g o) c d =
      let e = same_read f g n o c d in
      ap (λ (z : File). accepted z n) e.0 ∙ ap (accepted g) e.1
  one_answer (accepted f n) (refused c q) x y = absurd (no_place (Stands r) s y.past y.first (stands f n x))
  one_answer (refused c q) (accepted f n) x y = absurd (no_place (Stands r) s x.past x.first (stands f n y))
  one_answer (refused c q) (refused d o) x y =
      let e : x.past ≡ y.past = one_place (Stands r) s x.past y.past x.first y.first in
      let h : q ≡ o = x.place_is ∙ ap (λ (z : ℕ). k + z) e ∙ sym y.place_is in
      let i : c ≡ d = same_number y.past c d (subst (λ (z : ℕ). Why r s z c) e x.why) y.why in
      ap (λ (z : ℕ). refused z q) i ∙ ap (refused d) h

  -- so reading's answer is x exactly where paper 01 says x
  pub reading_is : (x : ReadingAnswer) → (reading r t from ≡ x) ↔ Says r t from x
  reading_is x = (λ e. subst (Says r t from) e reads, λ c. one_answer (reading r t from) x reads c)

-- THE ROUND TRIP: wherever a text of a file stands that the slices take, its lines ended in LF or CR LF in any way, and the text ends after
-- it or goes on with an `m`, that file is read, and the next position is the first byte after it
pub round_trip :
    (r : Slices) (es : Ends) (f : File) (before after : List ℕ)
    → Fits r f
    → Follows after
    → reading r (before ++ (file_text es f ++ after)) (length before) ≡ accepted f (length before + length (file_text es f))
round_trip r es f before after x e =
    let v : List ℕ = file_text es f in
    let t : List ℕ = before ++ (v ++ after) in
    let n : length t ≡ length before + length (v ++ after) = length-append before (v ++ after) in
    let h : length before ≡ min (length before) (length t) = omega arith in
    (reading_is r t (length before) (accepted f (length before + length v))).1
    (record {
      fits = x;
      ends = es;
      rest = after;
      follows = e;
      is = drop-append_seam before (v ++ after);
      next_is = ap (λ (k : ℕ). k + length v) h;
    })
