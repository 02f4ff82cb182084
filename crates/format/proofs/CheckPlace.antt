-- THE FILE CHECK'S PLACE IS READING'S: where reading, with slices as long as the text, reads file after file and one comes back, it comes
-- back with 11, and the file check answers that place; and where no file comes back all are read. Assumes nothing.
use Prim.Native.String.{String}
use Prim.Native.Nat.{ℕ, zero, suc, ◌+◌, ◌-◌, ◌≤◌, ◌<◌, min}
use mathlib.Core.Path.{◌≡◌, refl, ap, sym, ◌∙◌, subst}
use mathlib.Core.Logic.{◌↔◌, ◌⊎◌, inl, inr, ⊎_elim}
use mathlib.Core.Bool.{Bool, true, false, cond}
use mathlib.Core.List.{List, [], ◌∷◌, ◌++◌, map}
use native.Mathlib.Omega.{arith}
use native.Mathlib.Decide.{dec_le}
use lib.ListN.{length, drop, length-drop, drop_of_length-le}
use lib.Seq.{drop-drop}
use lib.IntN.{pos, negsuc}
use borrow.Author.Tests.{ne_eqb}
use Rattle.format.specs.Bytes.{bytes}
use Rattle.format.specs.Blocks.{one, any, up_to, month, kinds, Slices, free, blocks_of, blocks}
use Rattle.format.specs.Grammar.{entries, line, File}
use Rattle.format.specs.Machine.{Item, byte, end, lines, laid_out, State, stuck, at, value, is_stuck, step, final, ends_before, format, start}
use Rattle.format.specs.Machine.{onward, TextVerdict, passes, fails, judge, number, check_of}
use Rattle.format.specs.Reading.{no_room, too_many, scan, scan_at, ReadingAnswer, accepted, refused, answer, reading, AtLeast, ReadsOn, last, then}
use Rattle.format.specs.Reading.{ComesBack, here, further}
use Rattle.format.specs.Values.{read_blocks, file_of}
use Rattle.std.specs.Prelude.{Result, Ok, Err}
use Rattle.format.specs.declared.Fault.{Fault}
use Rattle.format.specs.declared.Fault.TheVariants.{Faulty, Full}
use Rattle.format.proofs.Live.{Holds, Kept, keep_step}
use Rattle.format.proofs.Table.{sound_format}
use Rattle.format.proofs.Accepts.{within, beyond}
use Rattle.format.proofs.FileCheck.{check_within}
use Rattle.format.proofs.Wide.{wide, wide_start, Wider, wider}
use Rattle.format.proofs.FileByFile.{next_within, checked_by_reading}

-- two verdicts are not one
no_fault : (k p : ℕ) → Ok k ≡ Err (Faulty p) → ⊥
no_fault k p e = let z : ◌≡◌ {A = ℕ} 0 1 = cc in omega arith

-- SLICES AS LONG AS THE TEXT ARE NEVER TOO SHORT: each line begun is a byte read
-- every block has room for so many lines
abbrev Roomy : ℕ → List Item → Type 0
Roomy n [] = Unit {0}
Roomy n (byte c ∷ f) = Roomy n f
Roomy n (end ∷ f) = Roomy n f
Roomy n (lines one k ∷ f) = Roomy n f
Roomy n (lines any k ∷ f) = Roomy n f
Roomy n (lines (up_to r) k ∷ f) = (n ≤ r) × Roomy n f

module _ (n : ℕ) where
  roomy_tail : (i : Item) (f : List Item) → Roomy n (i ∷ f) → Roomy n f
  roomy_tail (byte c) f a = a
  roomy_tail end f a = a
  roomy_tail (lines one k) f a = a
  roomy_tail (lines any k) f a = a
  roomy_tail (lines (up_to r) k) f a = a.1

  roomy_less : (f : List Item) → Roomy (suc n) f → Roomy n f
  roomy_less [] a = tt
  roomy_less (byte c ∷ f) a = roomy_less f a
  roomy_less (end ∷ f) a = roomy_less f a
  roomy_less (lines one k ∷ f) a = roomy_less f a
  roomy_less (lines any k ∷ f) a = roomy_less f a
  roomy_less (lines (up_to r) k ∷ f) a = (omega (arith, a.0), roomy_less f a.1)

-- with every byte one line less
roomy_kept : (n b : ℕ) → Kept (Roomy (suc n)) (Roomy n) b
roomy_kept n b =
    record {
      tail = roomy_tail (suc n);
      so = roomy_less n;
      less = λ r k f a. (omega (arith, a.0), roomy_less n f a.1);
      fed = λ e f a. a;
    }

-- where there is room for a line, none is too many
roomy_enough : (n b : ℕ) (s : State) → Holds (Roomy (suc n)) s → too_many s b ≡ false
roomy_enough n b stuck a = refl
roomy_enough n b (at f) a = rw (room f a)
  where
    room : (f : List Item) → Roomy (suc n) f → no_room f ≡ false
    room [] a = refl
    room (byte c ∷ f) a = refl
    room (end ∷ f) a = refl
    room (lines one k ∷ f) a = refl
    room (lines any k ∷ f) a = refl
    room (lines (up_to r) k ∷ f) a = ne_eqb r 0 (λ e. omega (arith, a.0))
roomy_enough n b (value p k f) a = refl

never_full : (s : State) (k : ℕ) (t : List ℕ) → Holds (Roomy (length t)) s → (q : ℕ) → scan s k t ≡ Err (Full q) → ⊥
unfolding scan
never_full s k [] a q e = by (final s) e
  where
    by : (f : Bool) → cond f (Ok k) (Err (Faulty k)) ≡ Err (Full q) → ⊥
    by true e = let z : ◌≡◌ {A = ℕ} 0 1 = cc in omega arith
    by false e = let z : ◌≡◌ {A = ℕ} 0 1 = cc in omega arith
never_full s k (b ∷ t) a q e =
    by (ends_before s b) (is_stuck (step s b)) (rw (roomy_enough (length t) b s a) at e)
    (never_full (step s b) (k + 1) t (keep_step (Roomy (suc (length t))) (Roomy (length t)) b (roomy_kept (length t) b) s a) q)
  where
    by : (o d : Bool) → cond o (Ok k) (cond d (Err (Faulty k)) (scan (step s b) (k + 1) t)) ≡ Err (Full q) → (scan (step s b) (k + 1) t ≡ Err (Full q) → ⊥) → ⊥
    by true d e r = let z : ◌≡◌ {A = ℕ} 0 1 = cc in omega arith
    by false true e r = let z : ◌≡◌ {A = ℕ} 0 1 = cc in omega arith
    by false false e r = r e

-- THE FILE CHECK GOES FILE BY FILE
-- from the end of a file on
abbrev goes_on : ℕ → List ℕ → TextVerdict
goes_on n [] = passes
goes_on n (b ∷ t) = judge (start free) n (b ∷ t)

first_byte : (b : ℕ) → onward (start free) b ≡ step (start free) b
unfolding onward format line
first_byte b = refl

judge_end : (s : State) (k : ℕ) (f : Bool) → final s ≡ f → judge s k [] ≡ cond f passes (fails k)
unfolding judge
judge_end s k f q = ap (λ (x : Bool). cond x passes (fails k)) q

module _ (s : State) (b : ℕ) (t : List ℕ) (k : ℕ) where
  judge_on : ends_before s b ≡ false → judge s k (b ∷ t) ≡ cond (is_stuck (step s b)) (fails k) (judge (step s b) (k + 1) t)
  unfolding judge
  judge_on o = ap (λ (x : State). cond (is_stuck x) (fails k) (judge x (k + 1) t)) (within s b o)

  judge_over : ends_before s b ≡ true → judge s k (b ∷ t) ≡ judge (start free) k (b ∷ t)
  unfolding judge
  judge_over o = ap (λ (x : State). cond (is_stuck x) (fails k) (judge x (k + 1) t)) (beyond s b o ∙ sym (first_byte b))

-- a fault is the check's
same_fault : (s : State) (k : ℕ) (t : List ℕ) (p : ℕ) → scan s k t ≡ Err (Faulty p) → judge s k t ≡ fails p
unfolding scan judge
same_fault s k [] p e = by (final s) e
  where
    by : (f : Bool) → cond f (Ok k) (Err (Faulty k)) ≡ Err (Faulty p) → cond f passes (fails k) ≡ fails p
    by true e = absurd (no_fault k p e)
    by false e = let h : k ≡ p = cc in ap fails h
same_fault s k (b ∷ t) p e = by (ends_before s b) (too_many s b) (is_stuck (step s b)) refl refl e (same_fault (step s b) (k + 1) t p)
  where
    by : (o f d : Bool) → ends_before s b ≡ o → is_stuck (step s b) ≡ d
        → cond o (Ok k) (cond f (Err (Full k)) (cond d (Err (Faulty k)) (scan (step s b) (k + 1) t))) ≡ Err (Faulty p)
        → (scan (step s b) (k + 1) t ≡ Err (Faulty p) → judge (step s b) (k + 1) t ≡ fails p)
        → judge s k (b ∷ t) ≡ fails p
    by true f d x y e r = absurd (no_fault k p e)
    by false true d x y e r = let z : ◌≡◌ {A = ℕ} 0 1 = cc in absurd (omega arith)
    by false false true x y e r = let h : k ≡ p = cc in judge_on s b t k x ∙ rw y (ap fails h)
    by false false false x y e r = judge_on s b t k x ∙ rw y (r e)

-- after a whole file the check begins anew
record Goes (s : State) (k : ℕ) (t : List ℕ) (n : ℕ) : Type 0 where
  past : ℕ
  here : n ≡ k + past
  goes : judge s k t ≡ goes_on n (drop past t)

same_end : (s : State) (k : ℕ) (t : List ℕ) (n : ℕ) → scan s k t ≡ Ok n → Goes s k t n
unfolding scan
same_end s k [] n e = by (final s) refl e
  where
    by : (f : Bool) → final s ≡ f → cond f (Ok k) (Err (Faulty k)) ≡ Ok n → Goes s k [] n
    by true q e = let h : k ≡ n = cc in record { past = 0; here = omega arith; goes = judge_end s k true q }
    by false q e = absurd (no_fault n k (sym e))
same_end s k (b ∷ t) n e = by (ends_before s b) (too_many s b) (is_stuck (step s b)) refl refl e (same_end (step s b) (k + 1) t n)
  where
    by : (o f d : Bool) → ends_before s b ≡ o → is_stuck (step s b) ≡ d
        → cond o (Ok k) (cond f (Err (Full k)) (cond d (Err (Faulty k)) (scan (step s b) (k + 1) t))) ≡ Ok n
        → (scan (step s b) (k + 1) t ≡ Ok n → Goes (step s b) (k + 1) t n)
        → Goes s k (b ∷ t) n
    by true f d x y e r =
        let h : k ≡ n = cc in
        record { past = 0; here = omega arith; goes = judge_over s b t k x ∙ ap (λ (j : ℕ). judge (start free) j (b ∷ t)) h }
    by false true d x y e r = let z : ◌≡◌ {A = ℕ} 0 1 = cc in absurd (omega arith)
    by false false true x y e r = absurd (no_fault n k (sym e))
    by false false false x y e r =
        let g = r e in
        record { past = suc g.past; here = g.here ∙ omega arith; goes = judge_on s b t k x ∙ rw y g.goes }

-- WITH SLICES AS LONG AS THE TEXT
-- what is laid out for slices of such lengths has as much room
roomy_names : (n : ℕ) (ns : List ℕ) (f : List Item) → Roomy n f → Roomy n (map byte ns ++ f)
roomy_names n [] f a = a
roomy_names n (c ∷ ns) f a = roomy_names n ns f a

roomy_kinds : (n : ℕ) (ks : List (List String)) (r : Slices) → AtLeast n r → Roomy n (laid_out (blocks_of ks r))
roomy_kinds n [] r h = tt
roomy_kinds n (k ∷ ks) [] h = roomy_names n (entries (map bytes k)) _ (roomy_kinds n ks [] h)
roomy_kinds n (k ∷ ks) (m ∷ r) h = roomy_names n (entries (map bytes k)) _ (h.0, roomy_kinds n ks r h.1)

roomy_start : (n : ℕ) (r : Slices) → AtLeast n r → Roomy n (format r)
unfolding format
roomy_start n r h = roomy_names n (entries (map bytes month)) _ (roomy_kinds n kinds r h)

module _ (r : Slices) (t : List ℕ) (wide_enough : AtLeast (length t) r) where
  at_least : (n : ℕ) (r : Slices) → n ≤ length t → AtLeast (length t) r → AtLeast n r
  at_least n [] h a = tt
  at_least n (k ∷ r) h a = (omega (arith, a.0), at_least n r h a.1)

  roomy : (from : ℕ) → Roomy (length (drop from t)) (format r)
  roomy from = roomy_start (length (drop from t)) r (at_least (length (drop from t)) r (omega (arith, length-drop from t)) wide_enough)

  -- reading's verdict is that with any room
  wide_verdict : (k from : ℕ) (v : Result ℕ Fault) → scan (start r) k (drop from t) ≡ v → scan (start free) k (drop from t) ≡ v
  wide_verdict k from v e =
      ap (λ (s : State). scan s k (drop from t)) (sym (wide_start r))
      ∙ by v e (subst (Wider (start r) (drop from t) k) e (wider (start r) (sound_format r) k (drop from t)))
    where
      by : (v : Result ℕ Fault) → scan (start r) k (drop from t) ≡ v → Wider (start r) (drop from t) k v
          → scan (wide (start r)) k (drop from t) ≡ v
      by (Ok n) e w = w
      by (Err (Faulty n)) e w = w
      by (Err (Full n)) e w = absurd (never_full (start r) k (drop from t) (roomy from) n e)

  -- what an answer tells of the verdict
  was_whole : (from next : ℕ) (f : File) → reading r t from ≡ accepted f next → scan_at r t from ≡ Ok next
  unfolding reading
  was_whole from next f e = by (scan_at r t from) _ e
    where
      by : (v : Result ℕ Fault) (g : File) → answer g v ≡ accepted f next → v ≡ Ok next
      by (Ok n) g e = let h : n ≡ next = cc in ap (λ (x : ℕ). Ok x) h
      by (Err (Faulty n)) g e = let z : ◌≡◌ {A = ℕ} 0 1 = cc in absurd (omega arith)
      by (Err (Full n)) g e = let z : ◌≡◌ {A = ℕ} 0 1 = cc in absurd (omega arith)

  was_fault : (from c q : ℕ) → reading r t from ≡ refused c q → (c ≡ 11) × (scan_at r t from ≡ Err (Faulty q))
  unfolding reading scan_at
  was_fault from c q e = by (scan (start r) (min from (length t)) (drop from t)) _ refl e
    where
      by :
          (v : Result ℕ Fault) (g : File)
          → scan (start r) (min from (length t)) (drop from t) ≡ v
          → answer g v ≡ refused c q
          → (c ≡ 11) × (v ≡ Err (Faulty q))
      by (Ok n) g x e = let z : ◌≡◌ {A = ℕ} 0 1 = cc in absurd (omega arith)
      by (Err (Faulty n)) g x e = let h : 11 ≡ c = cc in let i : n ≡ q = cc in (sym h, ap (λ (y : ℕ). Err (Faulty y)) i)
      by (Err (Full n)) g x e = absurd (never_full (start r) (min from (length t)) (drop from t) (roomy from) n x)

  -- the check from a file's end on is the check of what is left
  goes_on_lem :
      (n from j : ℕ)
      → n ≡ from + j
      → n < length t
      → goes_on n (drop j (drop from t)) ≡ judge (start free) (min n (length t)) (drop n t)
  goes_on_lem n from j e h =
      let m : n ≡ min n (length t) = omega arith in
      let d : drop j (drop from t) ≡ drop n t = drop-drop j from t ∙ ap (λ (x : ℕ). drop x t) (sym e) in
      let l : length (drop n t) ≡ length t - n = length-drop n t in
      ap (goes_on n) d ∙ some (drop n t) (omega arith) ∙ ap (λ (x : ℕ). judge (start free) x (drop n t)) m
    where
      some : (r : List ℕ) → 1 ≤ length r → goes_on n r ≡ judge (start free) n r
      some [] i = absurd (omega arith)
      some (b ∷ r) i = refl

  comes_back : (from c q : ℕ) → ComesBack r t from c q → (c ≡ 11) × (judge (start free) (min from (length t)) (drop from t) ≡ fails q)
  unfolding scan_at
  comes_back from c q (here _ _ _ e) =
      let w = was_fault from c q e in
      (w.0, same_fault (start free) (min from (length t)) (drop from t) q (wide_verdict (min from (length t)) from (Err (Faulty q)) w.1))
  comes_back from c q (further _ f next _ _ e h b) =
      let w = was_whole from next f e in
      let g = same_end (start free) (min from (length t)) (drop from t) next (wide_verdict (min from (length t)) from (Ok next) w) in
      let i = comes_back next c q b in
      let w = next_within r t from next f e in
      let n : next ≡ from + g.past = omega (arith, g.here) in
      (i.0, g.goes ∙ goes_on_lem next from g.past n h ∙ i.1)

  -- BY READING'S VERDICTS: how the check goes on from a position, as a program finds it
  pub never_too_many : (from q : ℕ) → scan_at r t from ≡ Err (Full q) → ⊥
  unfolding scan_at
  never_too_many from q e = never_full (start r) (min from (length t)) (drop from t) (roomy from) q e

  pub check_fault : (from q : ℕ) → scan_at r t from ≡ Err (Faulty q) → judge (start free) (min from (length t)) (drop from t) ≡ fails q
  unfolding scan_at
  check_fault from q e = same_fault (start free) (min from (length t)) (drop from t) q (wide_verdict (min from (length t)) from (Err (Faulty q)) e)

  module _ (from next : ℕ) (e : scan_at r t from ≡ Ok next) where
    pub check_forward : (from < next) × (next ≤ length t)
    unfolding reading
    check_forward = next_within r t from next _ (ap (answer (file_of (read_blocks (blocks r) (drop from t)).got)) e)

    whole_end : Goes (start free) (min from (length t)) (drop from t) next
    unfolding scan_at
    whole_end = same_end (start free) (min from (length t)) (drop from t) next (wide_verdict (min from (length t)) from (Ok next) e)

    next_is : next ≡ from + whole_end.past
    next_is = let b = check_forward in omega (arith, whole_end.here)

    pub check_on : next < length t → judge (start free) (min from (length t)) (drop from t) ≡ judge (start free) (min next (length t)) (drop next t)
    check_on h = whole_end.goes ∙ goes_on_lem next from whole_end.past next_is h

    pub check_last : length t ≤ next → judge (start free) (min from (length t)) (drop from t) ≡ passes
    check_last h =
        let n = next_is in
        let l : length t ≤ from + whole_end.past = omega arith in
        let d : drop whole_end.past (drop from t) ≡ [] = drop-drop whole_end.past from t ∙ drop_of_length-le t l in
        whole_end.goes ∙ ap (goes_on next) d

  -- each file is read, or one comes back
  either : (fuel from : ℕ) → length t - from < fuel → ReadsOn r t from ⊎ ((c : ℕ) × ((q : ℕ) × ComesBack r t from c q))
  either zero from h = absurd (omega arith)
  either (suc fuel) from h = by (reading r t from) refl (λ next i. either fuel next i)
    where
      by : (x : ReadingAnswer) → reading r t from ≡ x
          → ((next : ℕ) → length t - next < fuel → ReadsOn r t next ⊎ ((c : ℕ) × ((q : ℕ) × ComesBack r t next c q)))
          → ReadsOn r t from ⊎ ((c : ℕ) × ((q : ℕ) × ComesBack r t from c q))
      by (refused c q) e o = inr (c, (q, here from c q e))
      by (accepted f next) e o = on (dec_le (length t) next)
        where
          on : Dec (length t ≤ next) → ReadsOn r t from ⊎ ((c : ℕ) × ((q : ℕ) × ComesBack r t from c q))
          on (yes l) = let n : next ≡ length t = omega (arith, (next_within r t from next f e).1) in inl (last from f (e ∙ ap (accepted f) n))
          on (no l) =
              ⊎_elim (λ rs. inl (then from f next e rs))
              (λ c. inr (c.0, (c.1.0, further from f next c.0 c.1.0 e (omega (arith, l)) c.1.1)))
              (o next (omega (arith, l, (next_within r t from next f e).0)))

  -- THE PLACE OF ITS 11: the file check answers a place exactly where a file comes back there
  module _ (h : length t ≤ 1_000_000_000_000_000) where
    place_of : (c q : ℕ) → ComesBack r t 0 c q → check_of t ≡ pos q
    place_of c q b =
        let z : 0 ≡ min 0 (length t) = omega arith in
        check_within t h ∙ ap (λ (k : ℕ). number (judge (start free) k t)) z ∙ ap number (comes_back 0 c q b).1

    pub checked_by_refusal : (q : ℕ) → (check_of t ≡ pos q) ↔ ComesBack r t 0 11 q
    checked_by_refusal q = (λ e. ⊎_elim (read e) (refusal e) (either (suc (length t)) 0 (omega arith)), λ b. place_of 11 q b)
      where
        read : check_of t ≡ pos q → ReadsOn r t 0 → ComesBack r t 0 11 q
        read e rs =
            let f : check_of t ≡ negsuc 0 = (checked_by_reading r t h wide_enough).1 rs in
            let z : ◌≡◌ {A = ℕ} 0 1 = cc in
            absurd (omega arith)

        refusal : check_of t ≡ pos q → ((c : ℕ) × ((o : ℕ) × ComesBack r t 0 c o)) → ComesBack r t 0 11 q
        refusal e x =
            let f : check_of t ≡ pos x.1.0 = place_of x.0 x.1.0 x.1.1 in
            let i : x.1.0 ≡ q = cc in
            subst (λ (o : ℕ). ComesBack r t 0 11 o) i
            (subst (λ (c : ℕ). ComesBack r t 0 c x.1.0) (comes_back 0 x.0 x.1.0 x.1.1).0 x.1.1)
