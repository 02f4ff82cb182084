-- One file from any state of the machine: where `scan` ends stands the rest of a file, and where it refuses is the first byte that no
-- file could have there. Assumes nothing.
use Prim.Native.Nat.{ℕ, zero, suc, ◌+◌}
use mathlib.Core.Path.{◌≡◌, refl, ap, sym, ◌∙◌, subst}
use mathlib.Core.Logic.{◌↔◌}
use mathlib.Core.Bool.{Bool, true, false, cond}
use mathlib.Core.List.{List, [], ◌∷◌, ◌++◌, append-nil}
use native.Mathlib.Omega.{arith}
use lib.ListN.{length}
use borrow.Author.Tests.{eq-eqb, eqb-true}
use Rattle.format.specs.Bytes.{m, starts_line}
use Rattle.format.specs.Blocks.{one, any, up_to, Slices}
use Rattle.format.specs.Grammar.{file_text}
use Rattle.format.specs.Machine.{Item, byte, end, lines, State, stuck, at, value, is_stuck, enter, step, final, ends_before, start, run, From}
use Rattle.format.specs.Language.{Begins, Follows, Stands}
use Rattle.format.specs.Reading.{no_room, too_many, scan}
use Rattle.std.specs.Prelude.{Result, Ok, Err}
use Rattle.format.specs.declared.Fault.{Fault}
use Rattle.format.specs.declared.Fault.TheVariants.{Faulty, Full}
use Rattle.format.proofs.Live.{not_both, both, Good, good_step, complete, live, dead, is_stuck_lem}
use Rattle.format.proofs.Places.{Past, Later, here_end, here_byte, later, same_place}
use Rattle.format.proofs.Accepts.{ends_final, ends_m}
use Rattle.format.proofs.Sound.{sound}
use Rattle.format.proofs.Takes.{takes}

-- from state s the text begins with the rest of a file
pub record Rests (s : State) (t : List ℕ) : Type 0 where
  pub first : List ℕ
  pub rest : List ℕ
  pub is : t ≡ first ++ rest
  pub whole : From s first
  pub follows : Follows rest

-- from the start that is a file
pub rests_stands : (r : Slices) (t : List ℕ) → Rests (start r) t ↔ Stands r t
rests_stands r t = (forth, back)
  where
    forth : Rests (start r) t → Stands r t
    forth c =
        let o = sound r c.first c.whole in
        record {
          file = o.file;
          ends = o.ends;
          rest = c.rest;
          fits = o.fits;
          follows = c.follows;
          is = c.is ∙ ap (λ (x : List ℕ). x ++ c.rest) o.is;
        }

    back : Stands r t → Rests (start r) t
    back c =
        record {
          first = file_text c.ends c.file;
          rest = c.rest;
          is = c.is;
          whole = takes r c.ends c.file c.fits;
          follows = c.follows;
        }

-- a state that is not stuck has such a rest
pub finished : (s : State) → Good s → is_stuck s ≡ false → Begins (Rests s) []
finished s g n =
    record {
      rest = complete s;
      whole = record { first = complete s; rest = []; is = sym (append-nil (complete s)); whole = live s g n; follows = tt };
    }

-- where a line too many begins, the machine is stuck
no_room_stuck : (f : List Item) (b : ℕ) → no_room f ≡ true → starts_line b ≡ true → is_stuck (enter f b) ≡ true
unfolding enter
no_room_stuck [] b e s = not_both false refl e
no_room_stuck (byte c ∷ f) b e s = not_both false refl e
no_room_stuck (end ∷ f) b e s = not_both false refl e
no_room_stuck (lines one k ∷ f) b e s = not_both false refl e
no_room_stuck (lines any k ∷ f) b e s = not_both false refl e
no_room_stuck (lines (up_to zero) k ∷ f) b e s = rw s
no_room_stuck (lines (up_to (suc n)) k ∷ f) b e s = let z : suc n ≡ 0 = eqb-true (suc n) 0 e in absurd (omega arith)

too_many_stuck : (s : State) (b : ℕ) → too_many s b ≡ true → is_stuck (step s b) ≡ true
unfolding step
too_many_stuck stuck b e = refl
too_many_stuck (at f) b e = let c = both (no_room f) (starts_line b) e in no_room_stuck f b c.0 c.1
too_many_stuck (value p k f) b e = not_both false refl e

-- the first byte of a rest is the file's, or follows it
module _ (s : State) (b : ℕ) (n : ends_before s b ≡ false) where
  not_over : (u : List ℕ) → final s ≡ true → b ≡ m → ⊥
  not_over u f e = not_both (ends_before s b) n (rw (f, eq-eqb b m e))

  one_less : (t v u : List ℕ) → b ∷ t ≡ v ++ u → From s v → Follows u → Rests (step s b) t
  unfolding run
  one_less t [] [] e w f = let z : ◌≡◌ {A = ℕ} 0 1 = cc in absurd (omega arith)
  one_less t [] (c ∷ u) e w f = let h : b ≡ c = cc in absurd (not_over u w (h ∙ f))
  one_less t (c ∷ v) u e w f =
      let h : c ≡ b = cc in
      let k : t ≡ v ++ u = cc in
      record { first = v; rest = u; is = k; whole = subst (λ (x : ℕ). From (step s x) v) h w; follows = f }

  pub past_step : (t : List ℕ) → Rests (step s b) t ↔ Past (Rests s) b t
  unfolding run
  past_step t = (
    λ c. record {
      first = b ∷ c.first;
      rest = c.rest;
      is = ap (λ (x : List ℕ). b ∷ x) c.is;
      whole = c.whole;
      follows = c.follows;
    },
    λ c. one_less t c.first c.rest c.is c.whole c.follows,
  )

  none_on : is_stuck (step s b) ≡ true → (t : List ℕ) → Past (Rests s) b t → ⊥
  none_on e t c =
      let d = (past_step t).1 c in
      dead d.first (subst (λ (x : State). From x d.first) (is_stuck_lem (step s b) e) d.whole)

-- what a verdict says, counted from k
pub record Ended (s : State) (t : List ℕ) (k n : ℕ) : Type 0 where
  pub rests : Rests s t
  pub here : n ≡ k + length rests.first

abbrev pub Claim : State → List ℕ → ℕ → Result ℕ Fault → Type 0
Claim s t k (Ok n) = Ended s t k n
Claim s t k (Err (Faulty p)) = Later (Rests s) t k p
Claim s t k (Err (Full p)) = Later (Rests s) t k p

-- the text ends here
at_end_lem : (s : State) (k : ℕ) → Good s → is_stuck s ≡ false → (f : Bool) → final s ≡ f → Claim s [] k (cond f (Ok k) (Err (Faulty k)))
unfolding run
at_end_lem s k g n true e =
    record { rests = record { first = []; rest = []; is = refl; whole = e; follows = tt }; here = omega arith }
at_end_lem s k g n false e =
    record { past = 0; here = omega arith; place = here_end (Rests s) (finished s g n) (λ c. none c.first c.rest c.is c.whole) }
  where
    none : (v u : List ℕ) → [] ≡ v ++ u → From s v → ⊥
    none [] u q w = not_both (final s) e w
    none (b ∷ v) u q w = let z : ◌≡◌ {A = ℕ} 0 1 = cc in omega arith

module _ (s : State) (b : ℕ) (t : List ℕ) (k : ℕ) where
  -- the file ends before this byte
  file_over : ends_before s b ≡ true → Ended s (b ∷ t) k k
  unfolding run
  file_over e =
      record {
        rests = record { first = []; rest = b ∷ t; is = refl; whole = ends_final s b e; follows = ends_m s b e };
        here = omega arith;
      }

  -- no file has this byte here
  refused_here : Good s → is_stuck s ≡ false → ends_before s b ≡ false → is_stuck (step s b) ≡ true → Later (Rests s) (b ∷ t) k k
  refused_here g n o e =
      record {
        past = 0;
        here = omega arith;
        place = here_byte (Rests s) b t (finished s g n) (λ w. none_on s b o e w.rest w.whole);
      }

  one_more : ends_before s b ≡ false → (p : ℕ) → Later (Rests (step s b)) t (k + 1) p → Later (Rests s) (b ∷ t) k p
  one_more o p l =
      record {
        past = suc l.past;
        here = l.here ∙ omega arith;
        place = later (Rests s) b t l.past (same_place (Rests (step s b)) (Past (Rests s) b) (past_step s b o) t l.past l.place);
      }

  lift : ends_before s b ≡ false → (v : Result ℕ Fault) → Claim (step s b) t (k + 1) v → Claim s (b ∷ t) k v
  unfolding past_step
  lift o (Ok n) c =
      record { rests = (past_step s b o t).0 c.rests; here = c.here ∙ omega arith }
  lift o (Err (Faulty p)) c = one_more o p c
  lift o (Err (Full p)) c = one_more o p c

  -- the three tests of a byte
  turn : Good s → is_stuck s ≡ false → (v : Result ℕ Fault) → (is_stuck (step s b) ≡ false → Claim (step s b) t (k + 1) v)
      → (o f e : Bool) → ends_before s b ≡ o → too_many s b ≡ f → is_stuck (step s b) ≡ e
      → Claim s (b ∷ t) k (cond o (Ok k) (cond f (Err (Full k)) (cond e (Err (Faulty k)) v)))
  turn g n v r true f e x y z = file_over x
  turn g n v r false true e x y z = refused_here g n x (too_many_stuck s b y)
  turn g n v r false false true x y z = refused_here g n x z
  turn g n v r false false false x y z = lift x v (r z)

-- THE VERDICT FROM A STATE
pub claim : (s : State) → Good s → is_stuck s ≡ false → (k : ℕ) (t : List ℕ) → Claim s t k (scan s k t)
unfolding scan
claim s g n k [] = at_end_lem s k g n (final s) refl
claim s g n k (b ∷ t) =
    turn s b t k g n (scan (step s b) (k + 1) t) (λ e. claim (step s b) (good_step b s g) e (k + 1) t)
    (ends_before s b) (too_many s b) (is_stuck (step s b)) refl refl refl
