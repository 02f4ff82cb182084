-- THE VERDICT ON A SAVED TEXT: with CRs added before LFs the machine goes the same way, so that the verdict is the same and its place has
-- moved with the text. Assumes nothing.
use Prim.Native.Nat.{ℕ, zero, suc, ◌+◌, ◌<◌, min}
use mathlib.Core.Path.{◌≡◌, refl, ap, sym, ◌∙◌, subst}
use mathlib.Core.Bool.{Bool, true, false, cond, ◌&&◌, and-false}
use mathlib.Core.List.{List, [], ◌∷◌, ◌++◌, map}
use native.Mathlib.Omega.{arith}
use lib.Dec.{eqb}
use lib.ListN.{length, drop}
use borrow.Author.Tests.{eqb-true}
use Rattle.format.specs.Bytes.{lf, cr, starts_line}
use Rattle.format.specs.Blocks.{one, any, up_to, Block, Slices, blocks}
use Rattle.format.specs.Decimal.{All}
use Rattle.format.specs.Grammar.{names_of}
use Rattle.format.specs.Machine.{Item, byte, end, lines, laid_out, format, Part, fresh, signed, nought, digits, State, stuck, at, value}
use Rattle.format.specs.Machine.{is_stuck, in_value, enter, step, final, ends_before, start}
use Rattle.format.specs.Reading.{no_room, too_many, scan, scan_at}
use Rattle.format.specs.Saved.{Added, over, kept, added, Saved, crs_before, moved}
use Rattle.std.specs.Prelude.{Result, Ok, Err}
use Rattle.format.specs.declared.Fault.{Fault}
use Rattle.format.specs.declared.Fault.TheVariants.{Faulty, Full}
use Rattle.format.proofs.Live.{not_both, Holds, holds_cond, Kept, keep_step, hit}
use Rattle.format.proofs.Plain.{Plain, PlainNames, plain_names}

-- no byte still to come is an LF or a CR but at the end of a line
abbrev Clean : List Item → Type 0
Clean [] = Unit {0}
Clean (byte c ∷ f) = Plain c × Clean f
Clean (end ∷ f) = Clean f
Clean (lines n k ∷ f) = Clean f

-- a file is so
clean_names : (ns : List ℕ) (f : List Item) → All Plain ns → Clean f → Clean (map byte ns ++ f)
clean_names [] f p c = c
clean_names (n ∷ ns) f p c = (p.0, clean_names ns f p.1 c)

clean_blocks : (bs : List Block) → All PlainNames bs → Clean (laid_out bs)
clean_blocks [] p = tt
clean_blocks (b ∷ bs) p = clean_names (names_of b) _ p.0 (clean_blocks bs p.1)

clean_start : (r : Slices) → Holds Clean (start r)
unfolding format
clean_start r = clean_blocks (blocks r) (plain_names r)

-- and stays so with every byte but a CR
clean_step : (b : ℕ) → eqb b cr ≡ false → (s : State) → Holds Clean s → Holds Clean (step s b)
clean_step b n s c = keep_step Clean Clean b kept_clean s c
  where
    tail : (i : Item) (f : List Item) → Clean (i ∷ f) → Clean f
    tail (byte d) f c = c.1
    tail end f c = c
    tail (lines j k) f c = c

    kept_clean : Kept Clean Clean b
    kept_clean = record { tail = tail; so = λ f c. c; less = λ j k f c. c; fed = λ e f c. not_both (eqb b cr) n e }

-- WHERE A LINE MAY END: there LF ends it and so does CR with LF after it, and elsewhere neither stands
data MayEnd (s : State) : Type 0 where
  never : step s lf ≡ stuck → step s cr ≡ stuck → MayEnd s
  ending : (f : List Item) → step s lf ≡ at f → step s cr ≡ at (byte lf ∷ f) → MayEnd s

ends_value : (p : Part) (k : ℕ) (f : List Item) → MayEnd (value p k f)
unfolding step in_value
ends_value fresh k f = never refl refl
ends_value signed k f = never refl refl
ends_value nought zero f = ending f refl refl
ends_value nought (suc k) f = never refl refl
ends_value (digits n) zero f = ending f refl refl
ends_value (digits n) (suc k) f = never refl refl

past_lines :
    (i : Item) (f : List Item)
    → step (at (i ∷ f)) lf ≡ step (at f) lf
    → step (at (i ∷ f)) cr ≡ step (at f) cr
    → MayEnd (at f)
    → MayEnd (at (i ∷ f))
past_lines i f x y (never l r) = never (x ∙ l) (y ∙ r)
past_lines i f x y (ending g l r) = ending g (x ∙ l) (y ∙ r)

ends_at : (f : List Item) → Clean f → MayEnd (at f)
unfolding step enter in_value
ends_at [] c = never refl refl
ends_at (byte d ∷ f) c = never (rw c.0.0) (rw c.0.1)
ends_at (end ∷ f) c = ending f refl refl
ends_at (lines one k ∷ f) c = never refl refl
ends_at (lines any k ∷ f) c = past_lines (lines any k) f refl refl (ends_at f c)
ends_at (lines (up_to zero) k ∷ f) c = past_lines (lines (up_to zero) k) f refl refl (ends_at f c)
ends_at (lines (up_to (suc n)) k ∷ f) c = past_lines (lines (up_to (suc n)) k) f refl refl (ends_at f c)

may_end : (s : State) → Holds Clean s → MayEnd s
unfolding step
may_end stuck c = never refl refl
may_end (at f) c = ends_at f c
may_end (value p k f) c = ends_value p k f

-- the state after the byte `last`: an LF or CR is still to come only at the end of a line, or the LF of a CR just read
data Tidy (last : ℕ) (s : State) : Type 0 where
  clean : Holds Clean s → Tidy last s
  after_CR : last ≡ cr → (f : List Item) → s ≡ at (byte lf ∷ f) → Clean f → Tidy last s

tidy_step : (last b : ℕ) (s : State) → Tidy last s → Tidy b (step s b)
unfolding step enter
tidy_step last b s (clean c) = by (eqb b cr) refl
  where
    by_end : b ≡ cr → MayEnd s → Tidy b (step s b)
    by_end e (never l r) = subst (Tidy b) (sym (ap (step s) e ∙ r)) (clean tt)
    by_end e (ending f l r) = after_CR e f (ap (step s) e ∙ r) (subst (Holds Clean) l (clean_step lf refl s c))

    by : (q : Bool) → eqb b cr ≡ q → Tidy b (step s b)
    by true e = by_end (eqb-true b cr e) (may_end s c)
    by false e = clean (clean_step b e s c)
tidy_step last b s (after_CR e f i c) =
    subst (λ (x : State). Tidy b (step x b)) (sym i) (clean (holds_cond Clean (eqb b lf) (at f) stuck c tt))

-- a verdict with its place moved
abbrev pub placed : (ℕ → ℕ) → Result ℕ Fault → Result ℕ Fault
placed g (Ok k) = Ok (g k)
placed g (Err (Faulty k)) = Err (Faulty (g k))
placed g (Err (Full k)) = Err (Full (g k))

-- LF and CR neither begin a further file nor a line of values
no_line : (s : State) (b : ℕ) → starts_line b ≡ false → too_many s b ≡ false
no_line stuck b e = refl
no_line (at f) b e = ap (λ (q : Bool). no_room f && q) e ∙ and-false (no_room f)
no_line (value p k f) b e = refl

-- one byte of a scan
turn : ℕ → Bool → Bool → Bool → Result ℕ Fault → Result ℕ Fault
turn k o f d v = cond o (Ok k) (cond f (Err (Full k)) (cond d (Err (Faulty k)) v))

scan_turn :
    (s : State) (k b : ℕ) (t : List ℕ)
    → scan s k (b ∷ t) ≡ turn k (ends_before s b) (too_many s b) (is_stuck (step s b)) (scan (step s b) (k + 1) t)
unfolding scan turn
scan_turn s k b t = refl

turn_placed :
    (g : ℕ → ℕ) (k k' : ℕ)
    → g k ≡ k'
    → (o f d : Bool) (v w : Result ℕ Fault)
    → w ≡ placed g v
    → turn k' o f d w ≡ placed g (turn k o f d v)
unfolding turn
turn_placed g k k' e true f d v w h = ap Ok (sym e)
turn_placed g k k' e false true d v w h = ap (λ (x : ℕ). Err (Full x)) (sym e)
turn_placed g k k' e false false true v w h = ap (λ (x : ℕ). Err (Faulty x)) (sym e)
turn_placed g k k' e false false false v w h = h

module _ (s : State) (k b : ℕ) (t : List ℕ) (o : ends_before s b ≡ false) (f : too_many s b ≡ false) where
  stops : step s b ≡ stuck → scan s k (b ∷ t) ≡ Err (Faulty k)
  unfolding turn
  stops e = scan_turn s k b t ∙ rw (o, f, e)

  goes : (i : List Item) → step s b ≡ at i → scan s k (b ∷ t) ≡ scan (at i) (k + 1) t
  unfolding turn
  goes i e = scan_turn s k b t ∙ rw (o, f, e)

-- WHERE PLACES GO: the start to the start, the end to the end, a byte's place to a byte's place
no_crs : {last : ℕ} {t u : List ℕ} (c : Added last t u) → crs_before c 0 ≡ 0
unfolding crs_before
no_crs (over last) = refl
no_crs (kept last b t u c) = refl
no_crs (added last t u n c) = refl

pub to_start : {last : ℕ} {t u : List ℕ} (c : Added last t u) → moved c 0 ≡ 0
to_start c = omega (arith, no_crs c)

pub to_end : {last : ℕ} {t u : List ℕ} (c : Added last t u) → moved c (length t) ≡ length u
unfolding crs_before
to_end (over last) = refl
to_end (kept last b t u c) = omega (arith, to_end c)
to_end (added last t u n c) = omega (arith, to_end c)

pub to_within : {last : ℕ} {t u : List ℕ} (c : Added last t u) (p : ℕ) → p < length t → moved c p < length u
unfolding crs_before
to_within (over last) p h = absurd (omega arith)
to_within (kept last b t u c) zero h = omega arith
to_within (kept last b t u c) (suc p) h = omega (arith, to_within c p (omega arith))
to_within (added last t u n c) zero h = omega arith
to_within (added last t u n c) (suc p) h = omega (arith, to_within c p (omega arith))

-- places of t from k on go where those of u from k' on are
abbrev Meet : (ℕ → ℕ) → ℕ → ℕ → {last : ℕ} {t u : List ℕ} → Added last t u → Type 0
Meet g k k' c = (q : ℕ) → g (k + q) ≡ k' + moved c q

module _ (g : ℕ → ℕ) (k k' last : ℕ) where
  meet_here : {t u : List ℕ} (c : Added last t u) → Meet g k k' c → g k ≡ k'
  meet_here c h = let e : k ≡ k + 0 = omega arith in ap g e ∙ h 0 ∙ omega (arith, to_start c)

  meet_kept : (b : ℕ) (t u : List ℕ) (c : Added b t u) → Meet g k k' (kept last b t u c) → Meet g (k + 1) (k' + 1) c
  unfolding crs_before
  meet_kept b t u c h q = let e : k + 1 + q ≡ k + suc q = omega arith in ap g e ∙ h (suc q) ∙ omega arith

  meet_added :
      (t u : List ℕ) (n : last ≡ cr → ⊥) (c : Added lf t u) → Meet g k k' (added last t u n c) → Meet g (k + 1) (k' + 1 + 1) c
  unfolding crs_before
  meet_added t u n c h q = let e : k + 1 + q ≡ k + suc q = omega arith in ap g e ∙ h (suc q) ∙ omega arith

-- THE SAME WAY: from corresponding places on the verdict is the same, its place moved
end_placed : (g : ℕ → ℕ) (k k' : ℕ) → g k ≡ k' → (f : Bool) → cond f (Ok k') (Err (Faulty k')) ≡ placed g (cond f (Ok k) (Err (Faulty k)))
end_placed g k k' e true = ap Ok (sym e)
end_placed g k k' e false = ap (λ (x : ℕ). Err (Faulty x)) (sym e)

was_clean : (last : ℕ) (s : State) → (last ≡ cr → ⊥) → Tidy last s → Holds Clean s
was_clean last s n (clean c) = c
was_clean last s n (after_CR e f i c) = absurd (n e)

same_way :
    (g : ℕ → ℕ) {last : ℕ} {t u : List ℕ} (c : Added last t u) (s : State) (k k' : ℕ)
    → Tidy last s
    → Meet g k k' c
    → scan s k' u ≡ placed g (scan s k t)
unfolding scan
same_way g (over last) s k k' y h = end_placed g k k' (meet_here g k k' last (over last) h) (final s)
same_way g (kept last b t u c) s k k' y h =
    scan_turn s k' b u
    ∙ turn_placed g k k' (meet_here g k k' last (kept last b t u c) h) (ends_before s b) (too_many s b) (is_stuck (step s b)) _ _
    (same_way g c (step s b) (k + 1) (k' + 1) (tidy_step last b s y) (meet_kept g k k' last b t u c h))
    ∙ ap (placed g) (sym (scan_turn s k b t))
same_way g (added last t u n c) s k k' y h =
    by (may_end s (was_clean last s n y))
    (λ f d. same_way g c (at f) (k + 1) (k' + 1 + 1) (clean d) (meet_added g k k' last t u n c h))
  where
    lf_goes_on : ends_before s lf ≡ false
    lf_goes_on = and-false (final s)

    cr_goes_on : ends_before s cr ≡ false
    cr_goes_on = and-false (final s)

    by :
        MayEnd s
        → ((f : List Item) → Clean f → scan (at f) (k' + 1 + 1) u ≡ placed g (scan (at f) (k + 1) t))
        → scan s k' (cr ∷ lf ∷ u) ≡ placed g (scan s k (lf ∷ t))
    by (never l r) go =
        stops s k' cr (lf ∷ u) cr_goes_on (no_line s cr refl) r
        ∙ ap (λ (x : ℕ). Err (Faulty x)) (sym (meet_here g k k' last (added last t u n c) h))
        ∙ ap (placed g) (sym (stops s k lf t lf_goes_on (no_line s lf refl) l))
    by (ending f l r) go =
        goes s k' cr (lf ∷ u) cr_goes_on (no_line s cr refl) (byte lf ∷ f) r
        ∙ goes (at (byte lf ∷ f)) (k' + 1) lf u refl refl f (hit lf f)
        ∙ go f (subst (Holds Clean) l (clean_step lf refl s (was_clean last s n y)))
        ∙ ap (placed g) (sym (goes s k lf t lf_goes_on (no_line s lf refl) f l))

-- FROM A POSITION ON: what is left of u is what is left of t with CRs added, and the places correspond
pub record Remains {last : ℕ} {t u : List ℕ} (c : Added last t u) (from : ℕ) : Type 0 where
  pub to : ℕ
  pub to_is : moved c from ≡ to
  pub before : ℕ
  pub left : Added before (drop from t) (drop to u)
  pub meet : Meet (moved c) (min from (length t)) (min to (length u)) left

pub remains : {last : ℕ} {t u : List ℕ} (c : Added last t u) (from : ℕ) → Remains c from
unfolding crs_before
remains {last = last} c zero =
    record { to = 0; to_is = to_start c; before = last; left = c; meet = λ q. from_start c q }
  where
    from_start : {last : ℕ} {t u : List ℕ} (c : Added last t u) (q : ℕ) → moved c (min 0 (length t) + q) ≡ min 0 (length u) + moved c q
    from_start {t = t} c q = let e : min 0 (length t) + q ≡ q = omega arith in ap (moved c) e ∙ omega arith
remains (over last) (suc p) = record { to = suc p; to_is = omega arith; before = last; left = over last; meet = λ q. omega arith }
remains (kept last b t u c) (suc p) =
    let x = remains c p in
    record {
      to = suc x.to;
      to_is = omega (arith, x.to_is);
      before = x.before;
      left = x.left;
      meet = λ q.
          let e : min (suc p) (suc (length t)) + q ≡ suc (min p (length t) + q) = omega arith in
          ap (moved (kept last b t u c)) e ∙ omega (arith, x.meet q);
    }
remains (added last t u n c) (suc p) =
    let x = remains c p in
    record {
      to = suc (suc x.to);
      to_is = omega (arith, x.to_is);
      before = x.before;
      left = x.left;
      meet = λ q.
          let e : min (suc p) (suc (length t)) + q ≡ suc (min p (length t) + q) = omega arith in
          ap (moved (added last t u n c)) e ∙ omega (arith, x.meet q);
    }

-- THE VERDICT, from a position
pub same_verdict :
    (r : Slices) (t u : List ℕ) (c : Saved t u) (from : ℕ) → scan_at r u (moved c from) ≡ placed (moved c) (scan_at r t from)
unfolding scan_at
same_verdict r t u c from =
    let x = remains c from in
    ap (scan_at r u) x.to_is
    ∙ same_way (moved c) x.left (start r) (min from (length t)) (min x.to (length u)) (clean (clean_start r)) x.meet
