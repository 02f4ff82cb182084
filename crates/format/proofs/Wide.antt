-- The machine with room for any count goes along with the machine that counts lines, up to the first line too many: so 11 is the same
-- with any room, and at 12 a file with more room could go on. Assumes nothing.
use Prim.Native.String.{String}
use Prim.Native.Nat.{ℕ, zero, suc, ◌+◌, ◌-◌, ◌≤◌, ◌<◌, zero-le, suc-le-suc}
use mathlib.Core.Path.{◌≡◌, refl, ap, sym, ◌∙◌, subst}
use mathlib.Core.Bool.{Bool, true, false, cond, ◌&&◌}
use mathlib.Core.List.{List, [], ◌∷◌, ◌++◌, map}
use native.Mathlib.Omega.{arith}
use native.Mathlib.Decide.{ℕ_discrete}
use lib.Dec.{leb, ltb, eqb}
use lib.ListN.{length, take, get_or}
use borrow.Author.Tests.{leb-true, le-leb, eq-eqb, ne_eqb}
use Rattle.format.specs.Bytes.{lf, minus, is_digit, starts_line}
use Rattle.format.specs.Blocks.{Count, one, any, up_to, Block, columns, month, kinds, Slices, free, blocks_of}
use Rattle.format.specs.Grammar.{names_of}
use Rattle.format.specs.Machine.{Item, byte, end, lines, laid, laid_out, format, fresh, signed, nought, State, stuck, at, value, is_stuck, lead}
use Rattle.format.specs.Machine.{in_value, enter, step, ended, final, ends_before, start, run}
use Rattle.format.specs.Language.{Begins}
use Rattle.format.specs.Reading.{no_room, too_many, scan}
use Rattle.std.specs.Prelude.{Result, Ok, Err}
use Rattle.format.specs.declared.Fault.{Fault}
use Rattle.format.specs.declared.Fault.TheVariants.{Faulty, Full}
use Rattle.format.proofs.Live.{not_both, both, Quiet, Sound, Good, good_step}
use Rattle.format.proofs.Changed.{with, with_final, with_stuck, with_cond, with_ends, with_value}
use Rattle.format.proofs.Scans.{Rests, finished, past_step}

-- the same with room for any count
abbrev pub more_room : Count → Count
more_room one = one
more_room any = any
more_room (up_to n) = any

abbrev pub widen : List Item → List Item
widen [] = []
widen (end ∷ f) = end ∷ widen f
widen (byte c ∷ f) = byte c ∷ widen f
widen (lines n k ∷ f) = lines (more_room n) k ∷ widen f

abbrev pub wide : State → State
wide s = with widen s

widen_names : (ns : List ℕ) (f : List Item) → widen (map byte ns ++ f) ≡ map byte ns ++ widen f
widen_names [] f = refl
widen_names (c ∷ ns) f = ap (λ (g : List Item). byte c ∷ g) (widen_names ns f)

widen_block : (b : Block) (bs : List Block) (f : List Item) → widen (laid_out bs) ≡ f
    → widen (laid_out (b ∷ bs)) ≡ laid (names_of b) (more_room b.count) (columns b - 1) f
widen_block b bs f e =
    widen_names (names_of b) (end ∷ lines b.count (columns b - 1) ∷ laid_out bs)
    ∙ ap (laid (names_of b) (more_room b.count) (columns b - 1)) e

wide_kinds : (ks : List (List String)) (r : Slices) → widen (laid_out (blocks_of ks r)) ≡ laid_out (blocks_of ks free)
wide_kinds [] r = refl
wide_kinds (k ∷ ks) [] = widen_block (record { names = k; count = any }) (blocks_of ks free) (laid_out (blocks_of ks free)) (wide_kinds ks free)
wide_kinds (k ∷ ks) (n ∷ r) = widen_block (record { names = k; count = up_to n }) (blocks_of ks r) (laid_out (blocks_of ks free)) (wide_kinds ks r)

pub wide_start : (r : Slices) → wide (start r) ≡ start free
unfolding format
wide_start r =
    ap at (widen_block (record { names = month; count = one }) (blocks_of kinds r) (laid_out (blocks_of kinds free)) (wide_kinds kinds r))

-- what the tests see of a state is the same
wide_ended : (f : List Item) → ended (widen f) ≡ ended f
wide_ended [] = refl
wide_ended (end ∷ f) = refl
wide_ended (byte c ∷ f) = refl
wide_ended (lines one k ∷ f) = refl
wide_ended (lines any k ∷ f) = wide_ended f
wide_ended (lines (up_to n) k ∷ f) = wide_ended f

wide_final : (s : State) → final (wide s) ≡ final s
wide_final s = with_final widen wide_ended s

wide_room : (f : List Item) → no_room (widen f) ≡ false
wide_room [] = refl
wide_room (end ∷ f) = refl
wide_room (byte c ∷ f) = refl
wide_room (lines one k ∷ f) = refl
wide_room (lines any k ∷ f) = refl
wide_room (lines (up_to n) k ∷ f) = refl

wide_few : (s : State) (b : ℕ) → too_many (wide s) b ≡ false
wide_few stuck b = refl
wide_few (at f) b = ap (λ (q : Bool). q && starts_line b) (wide_room f)
wide_few (value p k f) b = refl

wide_quiet : (f : List Item) → Quiet f → Quiet (widen f)
wide_quiet [] q = tt
wide_quiet (byte c ∷ f) q = q
wide_quiet (end ∷ f) q = absurd q
wide_quiet (lines n k ∷ f) q = absurd q

wide_sound : (f : List Item) → Sound f → Sound (widen f)
wide_sound [] s = tt
wide_sound (byte c ∷ f) s = wide_sound f s
wide_sound (end ∷ f) s = wide_sound f s
wide_sound (lines n k ∷ f) s = (wide_quiet f s.0, wide_sound f s.1)

wide_good : (s : State) → Good s → Good (wide s)
wide_good stuck g = tt
wide_good (at f) g = wide_sound f g
wide_good (value p k f) g = wide_sound f g

same_fed : (f : List Item) → widen (byte lf ∷ f) ≡ byte lf ∷ widen f
same_fed f = refl

-- and so is a step, but at a line too many
module _ (b : ℕ) where
  -- at a byte that begins no line
  wide_names : starts_line b ≡ false → (f : List Item) → enter (widen f) b ≡ wide (enter f b)
  unfolding enter
  wide_names s [] = refl
  wide_names s (byte c ∷ f) = with_cond widen (eqb b c) (at f) stuck _ _ refl refl
  wide_names s (end ∷ f) = with_ends widen same_fed b zero f
  wide_names s (lines one k ∷ f) = with_value widen same_fed b fresh k f
  wide_names s (lines any k ∷ f) = rw s (wide_names s f)
  wide_names s (lines (up_to zero) k ∷ f) = rw s (wide_names s f)
  wide_names s (lines (up_to (suc n)) k ∷ f) = rw s (wide_names s f)

  -- at a byte that begins one, where there is room
  wide_line : starts_line b ≡ true → (f : List Item) → no_room f ≡ false → enter (widen f) b ≡ wide (enter f b)
  unfolding enter
  wide_line s [] e = refl
  wide_line s (byte c ∷ f) e = with_cond widen (eqb b c) (at f) stuck _ _ refl refl
  wide_line s (end ∷ f) e = with_ends widen same_fed b zero f
  wide_line s (lines one k ∷ f) e = with_value widen same_fed b fresh k f
  wide_line s (lines any k ∷ f) e = rw s (with_value widen same_fed b fresh k (lines any k ∷ f))
  wide_line s (lines (up_to zero) k ∷ f) e = not_both true e refl
  wide_line s (lines (up_to (suc n)) k ∷ f) e = rw s (with_value widen same_fed b fresh k (lines (up_to n) k ∷ f))

  wide_enter : (f : List Item) → (no_room f && starts_line b) ≡ false → enter (widen f) b ≡ wide (enter f b)
  wide_enter f e = by (no_room f) (starts_line b) refl refl e
    where
      by : (q s : Bool) → no_room f ≡ q → starts_line b ≡ s → (q && s) ≡ false → enter (widen f) b ≡ wide (enter f b)
      by true true x y e = not_both true e refl
      by true false x y e = wide_names y f
      by false true x y e = wide_line y f x
      by false false x y e = wide_names y f

  wide_step : (s : State) → too_many s b ≡ false → step (wide s) b ≡ wide (step s b)
  unfolding step
  wide_step stuck e = refl
  wide_step (at f) e = wide_enter f e
  wide_step (value p k f) e = with_value widen same_fed b p k f

  -- a line may begin with any digit and with a minus sign
  begins_value : starts_line b ≡ true → (k : ℕ) (f : List Item) → is_stuck (in_value fresh k f b) ≡ false
  unfolding in_value
  begins_value s k f = by (ℕ_discrete b minus) (ℕ_discrete b 48)
    where
      digit : (b ≡ minus → ⊥) → is_digit b ≡ true
      digit n = rw (ne_eqb b minus n) at s

      by : Dec (b ≡ minus) → Dec (b ≡ 48)
          → is_stuck (cond (eqb b minus) (value signed k f) (cond (eqb b 48) (value nought k f) (lead k f b))) ≡ false
      by (yes p) d = rw (eq-eqb b minus p)
      by (no n) (yes p) = rw (ne_eqb b minus n, eq-eqb b 48 p)
      by (no n) (no o) =
          let c = both (leb 48 b) (ltb b 58) (digit n) in
          let l = leb-true 48 b c.0 in
          let h : 49 ≤ b = omega (arith, o) in
          rw (ne_eqb b minus n, ne_eqb b 48 o, le-leb 49 b h, c.1)

  wide_begins : starts_line b ≡ true → (f : List Item) → no_room f ≡ true → is_stuck (enter (widen f) b) ≡ false
  unfolding enter
  wide_begins s [] e = not_both false refl e
  wide_begins s (byte c ∷ f) e = not_both false refl e
  wide_begins s (end ∷ f) e = not_both false refl e
  wide_begins s (lines one k ∷ f) e = not_both false refl e
  wide_begins s (lines any k ∷ f) e = not_both false refl e
  wide_begins s (lines (up_to n) k ∷ f) e = rw s (begins_value s k (lines any k ∷ widen f))

  too_many_begins : (s : State) → too_many s b ≡ true → (starts_line b ≡ true) × (is_stuck (step (wide s) b) ≡ false)
  unfolding step
  too_many_begins stuck e = not_both false refl e
  too_many_begins (at f) e = let c = both (no_room f) (starts_line b) e in (c.1, wide_begins c.1 f c.0)
  too_many_begins (value p k f) e = not_both false refl e

-- THE VERDICT WITH ANY ROOM: the same, but for 12, where a line begins with which a file could go on
pub record Longer (s : State) (t : List ℕ) (k p : ℕ) : Type 0 where
  pub past : ℕ
  pub here : p ≡ k + past
  pub some : past < length t
  pub starts : starts_line (get_or t past 0) ≡ true
  pub begins : Begins (Rests (wide s)) (take (suc past) t)

abbrev pub Wider : State → List ℕ → ℕ → Result ℕ Fault → Type 0
Wider s t k (Ok n) = scan (wide s) k t ≡ Ok n
Wider s t k (Err (Faulty p)) = scan (wide s) k t ≡ Err (Faulty p)
Wider s t k (Err (Full p)) = Longer s t k p

-- at the text's end
wide_end : (s : State) (k : ℕ) (f : Bool) → final s ≡ f → Wider s [] k (cond f (Ok k) (Err (Faulty k)))
unfolding scan
wide_end s k true e = rw (wide_final s, e)
wide_end s k false e = rw (wide_final s, e)

module _ (s : State) (b : ℕ) (t : List ℕ) (k : ℕ) where
  wide_over : ends_before s b ≡ true → scan (wide s) k (b ∷ t) ≡ Ok k
  unfolding scan
  wide_over e = rw (wide_final s, e)

  wide_goes :
      ends_before s b ≡ false
      → too_many s b ≡ false
      → scan (wide s) k (b ∷ t) ≡ cond (is_stuck (step s b)) (Err (Faulty k)) (scan (wide (step s b)) (k + 1) t)
  unfolding scan
  wide_goes o f = rw (wide_final s, o, wide_few s b, wide_step b s f, with_stuck widen (step s b))

  -- a line too many begins here
  wide_here : Good s → ends_before s b ≡ false → too_many s b ≡ true → Longer s (b ∷ t) k k
  unfolding run
  wide_here g o e =
      let c = too_many_begins b s e in
      let o' : ends_before (wide s) b ≡ false = rw (wide_final s) o in
      let w = finished (step (wide s) b) (good_step b (wide s) (wide_good s g)) c.1 in
      record {
        past = 0;
        here = omega arith;
        some = suc-le-suc zero-le;
        starts = c.0;
        begins = record { rest = w.rest; whole = (past_step (wide s) b o' w.rest).0 w.whole };
      }

  wide_later : ends_before s b ≡ false → too_many s b ≡ false → (p : ℕ) → Longer (step s b) t (k + 1) p → Longer s (b ∷ t) k p
  wide_later o f p l =
      let o' : ends_before (wide s) b ≡ false = rw (wide_final s) o in
      record {
        past = suc l.past;
        here = l.here ∙ omega arith;
        some = suc-le-suc l.some;
        starts = l.starts;
        begins = record {
          rest = l.begins.rest;
          whole =
              (past_step (wide s) b o' (take (suc l.past) t ++ l.begins.rest)).0
              (subst (λ (x : State). Rests x (take (suc l.past) t ++ l.begins.rest)) (sym (wide_step b s f)) l.begins.whole);
        };
      }

  wide_lift :
      ends_before s b ≡ false
      → too_many s b ≡ false
      → is_stuck (step s b) ≡ false
      → (v : Result ℕ Fault)
      → Wider (step s b) t (k + 1) v
      → Wider s (b ∷ t) k v
  wide_lift o f e (Ok n) w = wide_goes o f ∙ rw e w
  wide_lift o f e (Err (Faulty n)) w = wide_goes o f ∙ rw e w
  wide_lift o f e (Err (Full p)) w = wide_later o f p w

  wide_turn : Good s → (v : Result ℕ Fault) → Wider (step s b) t (k + 1) v
      → (o f e : Bool) → ends_before s b ≡ o → too_many s b ≡ f → is_stuck (step s b) ≡ e
      → Wider s (b ∷ t) k (cond o (Ok k) (cond f (Err (Full k)) (cond e (Err (Faulty k)) v)))
  wide_turn g v r true f e x y z = wide_over x
  wide_turn g v r false true e x y z = wide_here g x y
  wide_turn g v r false false true x y z = wide_goes x y ∙ rw z
  wide_turn g v r false false false x y z = wide_lift x y z v r

pub wider : (s : State) → Good s → (k : ℕ) (t : List ℕ) → Wider s t k (scan s k t)
unfolding scan
wider s g k [] = wide_end s k (final s) refl
wider s g k (b ∷ t) =
    wide_turn s b t k g (scan (step s b) (k + 1) t) (wider (step s b) (good_step b s g) (k + 1) t)
    (ends_before s b) (too_many s b) (is_stuck (step s b)) refl refl refl
