-- A CYCLE CLOSED WHOLE (paper 02, Q-8). Whatever the list of closings on a newly opened ledger: where the cycle starts with the ledger's
-- first closing in July, or after a closing in an earlier cycle, and its June is closed, an agent with the same yearly adjustment in each of
-- its closed months receives exactly that, whichever months were skipped or refused.
use Prim.Native.Nat.{ℕ}
use mathlib.Core.Path.{◌≡◌, refl, sym, ap, ap₂, ◌∙◌, subst}
use mathlib.Core.Logic.{◌≢◌, ◌⊎◌, inl, inr}
use mathlib.Core.Bool.{Bool, true, false, cond}
use mathlib.Core.List.{List, [], ◌∷◌}
use lib.IntN.{ℤ, pos, ◌+ℤ◌, ◌-ℤ◌, ◌*ℤ◌, +ℤ_idl, +ℤ_idr}
use lib.ListN.{get_or}
use lib.Signed.{◌≤ℤ◌, ◌<ℤ◌}
use Rattle.ints.specs.Bridge.{za, add#, mul#, one#}
use Rattle.ints.specs.Range.{eq_z, eq_z_true, eq_z_false, eq_z_refl, eq_z_not}
use Rattle.share.specs.Running.{part}
use Rattle.share.specs.OnePart.{part_add, part_whole}
use Rattle.rules.specs.Verdict.{Verdict, accepted, refused}
use Rattle.rules.specs.Calendar.{cycle_month, cycle_of, settled_to}
use Rattle.rules.specs.Limits.{Month}
use Rattle.rules.specs.Lines.{Lines, agent_of}
use Rattle.rules.specs.State.{State}
use Rattle.rules.specs.Credits.{VMPA}
use Rattle.rules.specs.Refusals.{short_slices}
use Rattle.rules.specs.Tally.{Fed, opened, judged, next, moved, counted, added}
use Rattle.rules.specs.WholeCycle.{closed_or, first_closed, Closed, WholeCycle, SameEachMonth, VMPAofCycle}
use Rattle.rules.proofs.Fits.{Possible, not_impossible}
use Rattle.rules.proofs.Months.{month_possible}
use Rattle.rules.proofs.Passed.{passed}
use Rattle.rules.proofs.Cycle.{Half, halves, InCycle, in_cycle_lem, cycle_only, settled_none, settled_same, settled_earlier}

abbrev month_of : Fed → ℤ
month_of f = f.lines.line.month

-- what an accepted closing tells of its month and of the last closed one
record Taken (last m : ℤ) : Type 0 where
  there : Month m
  last_there : last ≢ pos 0 → Month last
  later : last <ℤ m

exists : {m : ℤ} → Possible m → Month m
exists {m} p = (month_possible m).1 (not_impossible p)

taken : (s : State) (f : Fed) → judged s f ≡ accepted → Taken s.month (month_of f)
taken s f e =
    let p = passed s (short_slices s f.lengths) f.lines e in
    record { there = exists p.month; last_there = λ z. exists (p.last_month z); later = p.later }

month_some : {m : ℤ} → Month m → m ≢ pos 0
month_some {m} t e =
    let i = t.is in
    let y = t.year in
    let w = t.month in
    omega (za, mul# t.yyyy (pos 100), add# (t.yyyy *ℤ pos 100) t.mm)

no : {n p : ℕ} → refused n p ≡ accepted → ⊥
no e = absurd (subst Is e tt)
  where
    Is : Verdict → Type 0
    Is accepted = ⊥
    Is (refused n p) = Unit {0}

-- a month that is closed is later than the last closed before
closed_step :
    (n : ℤ) (s : State) (f : Fed) (fs : List Fed) (v : Verdict)
    → judged s f ≡ v
    → ((v ≡ accepted) × (month_of f ≡ n)) ⊎ Closed n (moved v s f) fs
    → (Closed n (moved v s f) fs → (moved v s f).month <ℤ n)
    → s.month <ℤ n
closed_step n s f fs accepted e (inl (_, q)) rest = let l = (taken s f e).later in omega za
closed_step n s f fs accepted e (inr c) rest = let l = (taken s f e).later in let r = rest c in omega za
closed_step n s f fs (refused a b) e (inl (q, _)) rest = absurd (no q)
closed_step n s f fs (refused a b) e (inr c) rest = rest c

closed_later : (n : ℤ) (s : State) (fs : List Fed) → Closed n s fs → s.month <ℤ n
unfolding Closed
closed_later n s [] c = absurd c
closed_later n s (f ∷ fs) c = closed_step n s f fs (judged s f) refl c (closed_later n (next s f) fs)

module _ (y : ℤ) (i : ℕ) (pa : ℤ) where
  abbrev july : ℤ
  july = y *ℤ pos 100 +ℤ pos 7

  abbrev june : ℤ
  june = (y +ℤ pos 1) *ℤ pos 100 +ℤ pos 6

  june_is : june ≡ y *ℤ pos 100 +ℤ pos 106
  june_is =
      omega (
        za,
        add# y (pos 1),
        mul# y (pos 100),
        mul# (y +ℤ pos 1) (pos 100),
        add# ((y +ℤ pos 1) *ℤ pos 100) (pos 6),
        add# (y *ℤ pos 100) (pos 106),
      )

  -- ---- its months
  -- so many past the turn of the year before it
  past_turn :
      {gap low high : ℕ} {m : ℤ} → Half gap low high m → cycle_of m ≡ y → (n : ℕ) → m ≡ y *ℤ pos 100 +ℤ pos n → pos gap +ℤ cycle_month m ≡ pos n
  past_turn {gap} {m = m} h e n q =
      let o = h.is ∙ ap (λ (c : ℤ). c *ℤ pos 100 +ℤ (pos gap +ℤ cycle_month m)) e in
      omega (za, add# (y *ℤ pos 100) (pos gap +ℤ cycle_month m), add# (y *ℤ pos 100) (pos n))

  of_june : {m : ℤ} → Month m → m ≡ june → (cycle_of m ≡ y) × (cycle_month m ≡ pos 12)
  of_june {m} t e = (c, go (halves t))
    where
      c : cycle_of m ≡ y
      c =
          let j = june_is in
          let u = add# (y *ℤ pos 100) (pos 7) in
          let v = add# (y *ℤ pos 100) (pos 106) in
          cycle_only t (record { july = omega za; june = omega za })

      go : Half 6 1 6 m ⊎ Half 94 7 12 m → cycle_month m ≡ pos 12
      go (inl h) = let r = h.range in let s = past_turn h c 106 (e ∙ june_is) in omega (za, one# (cycle_month m), add# (pos 6) (cycle_month m))
      go (inr h) = let r = h.range in let s = past_turn h c 106 (e ∙ june_is) in omega (za, one# (cycle_month m), add# (pos 94) (cycle_month m))

  of_july : {m : ℤ} → Month m → cycle_of m ≡ y → m ≤ℤ july → cycle_month m ≡ pos 1
  of_july {m} t c h = go (halves t)
    where
      is : m ≡ july
      is = let f : InCycle y m = rw c at (in_cycle_lem t) in omega za

      go : Half 6 1 6 m ⊎ Half 94 7 12 m → cycle_month m ≡ pos 1
      go (inl k) = let r = k.range in let s = past_turn k c 7 is in omega (za, one# (cycle_month m), add# (pos 6) (cycle_month m))
      go (inr k) = let r = k.range in let s = past_turn k c 7 is in omega (za, one# (cycle_month m), add# (pos 94) (cycle_month m))

  -- a month before its June that is not of it, and any before that, lies in an earlier cycle
  before_it : {a m : ℤ} → Month a → Month m → cycle_of m ≢ y → a ≤ℤ m → m <ℤ june → cycle_of a ≢ y
  before_it {a} {m} s t n l h e =
      let f : InCycle y a = rw e at (in_cycle_lem s) in
      let j = june_is in
      n (cycle_only t (record { july = omega za; june = omega za }))

  after_it : {m : ℤ} → Month m → june <ℤ m → cycle_of m ≢ y
  after_it {m} t h e =
      let f : InCycle y m = rw e at (in_cycle_lem t) in
      let j = june_is in
      omega za

  -- ---- what falls due
  abbrev got : State → List Fed → ℤ
  got s fs = added (VMPAofCycle y i) s fs

  -- after cycle month b, up to c
  abbrev due : ℤ → ℤ → ℤ
  due b c = part pa b c (pos 12)

  -- the cycle month of this cycle that the last closed month settled
  abbrev paid : ℤ → ℤ
  paid last = cond (eq_z (cycle_of last) y) (cycle_month last) (pos 0)

  paid_in : (m : ℤ) → cycle_of m ≡ y → paid m ≡ cycle_month m
  paid_in m e = rw (e, eq_z_refl y)

  paid_out : (m : ℤ) → cycle_of m ≢ y → paid m ≡ pos 0
  paid_out m n = rw (eq_z_not (cycle_of m) y n)

  settled_paid : (last m : ℤ) → last ≢ pos 0 → cycle_of m ≡ y → settled_to last m ≡ paid last
  settled_paid last m some e = go (eq_z (cycle_of last) y) refl
    where
      go : (same : Bool) → eq_z (cycle_of last) y ≡ same → settled_to last m ≡ paid last
      go true f = let c = eq_z_true (cycle_of last) y f in settled_same m some (c ∙ sym e) ∙ sym (paid_in last c)
      go false f = let c = eq_z_false (cycle_of last) y f in settled_earlier m some (λ q. c (q ∙ e)) ∙ sym (paid_out last c)

  module _ (s : State) (l : Lines) where
    amount_in :
        cycle_of l.line.month ≡ y
        → (get_or l.agents i (agent_of [])).pa ≡ pa
        → VMPAofCycle y i s l ≡ due (settled_to s.month l.line.month) (cycle_month l.line.month)
    unfolding VMPA part
    amount_in e p = rw (e, eq_z_refl y, p)

    amount_out : cycle_of l.line.month ≢ y → VMPAofCycle y i s l ≡ pos 0
    amount_out n = rw (eq_z_not (cycle_of l.line.month) y n)

  -- ---- past its June nothing
  past_step :
      (s : State) (f : Fed) (fs : List Fed) (v : Verdict)
      → judged s f ≡ v
      → june ≤ℤ s.month
      → (june ≤ℤ (moved v s f).month → got (moved v s f) fs ≡ pos 0)
      → counted v (VMPAofCycle y i s f.lines) +ℤ got (moved v s f) fs ≡ pos 0
  past_step s f fs accepted e h rest =
      let t = taken s f e in
      let l = t.later in
      ap₂ ◌+ℤ◌ (amount_out s f.lines (after_it t.there (omega za))) (rest (omega za))
  past_step s f fs (refused a b) e h rest = ap (λ (x : ℤ). pos 0 +ℤ x) (rest h)

  past : (s : State) (fs : List Fed) → june ≤ℤ s.month → got s fs ≡ pos 0
  unfolding added
  past s [] h = refl
  past s (f ∷ fs) h = past_step s f fs (judged s f) refl h (past (next s f) fs)

  -- ---- once a month is closed, all that is left of the cycle
  abbrev Left : State → List Fed → Type 0
  Left s fs = s.month ≢ pos 0 → Closed june s fs → SameEachMonth y i pa s fs → got s fs ≡ due (paid s.month) (pos 12)

  left_step :
      (s : State) (f : Fed) (fs : List Fed) (v : Verdict)
      → judged s f ≡ v
      → s.month ≢ pos 0
      → ((v ≡ accepted) × (month_of f ≡ june)) ⊎ Closed june (moved v s f) fs
      → (v ≡ accepted → cycle_of (month_of f) ≡ y → (get_or f.lines.agents i (agent_of [])).pa ≡ pa)
      → SameEachMonth y i pa (moved v s f) fs
      → Left (moved v s f) fs
      → counted v (VMPAofCycle y i s f.lines) +ℤ got (moved v s f) fs ≡ due (paid s.month) (pos 12)
  left_step s f fs accepted e some (inl (_, q)) p ps rest =
      let (c, k) = of_june (taken s f e).there q in
      ap₂ ◌+ℤ◌
      (amount_in s f.lines c (p refl c) ∙ ap₂ due (settled_paid s.month (month_of f) some c) k)
      (past (moved accepted s f) fs (omega za))
      ∙ +ℤ_idr (due (paid s.month) (pos 12))
  left_step s f fs accepted e some (inr c) p ps rest = go (eq_z (cycle_of (month_of f)) y) refl
    where
      t : Taken s.month (month_of f)
      t = taken s f e

      then : got (moved accepted s f) fs ≡ due (paid (month_of f)) (pos 12)
      then = rest (month_some t.there) c ps

      go : (same : Bool) → eq_z (cycle_of (month_of f)) y ≡ same
          → VMPAofCycle y i s f.lines +ℤ got (moved accepted s f) fs ≡ due (paid s.month) (pos 12)
      go true q =
          let k = eq_z_true (cycle_of (month_of f)) y q in
          ap₂ ◌+ℤ◌
          (amount_in s f.lines k (p refl k) ∙ ap (λ (b : ℤ). due b (cycle_month (month_of f))) (settled_paid s.month (month_of f) some k))
          (then ∙ ap (λ (b : ℤ). due b (pos 12)) (paid_in (month_of f) k))
          ∙ part_add pa (paid s.month) (cycle_month (month_of f)) (pos 12) (pos 12)
      go false q =
          let n = eq_z_false (cycle_of (month_of f)) y q in
          let l = t.later in
          let r = before_it (t.last_there some) t.there n (omega za) (closed_later june (moved accepted s f) fs c) in
          ap₂ ◌+ℤ◌
          (amount_out s f.lines n)
          (then ∙ ap (λ (b : ℤ). due b (pos 12)) (paid_out (month_of f) n ∙ sym (paid_out s.month r)))
          ∙ +ℤ_idl (due (paid s.month) (pos 12))
  left_step s f fs (refused a b) e some (inl (q, _)) p ps rest = absurd (no q)
  left_step s f fs (refused a b) e some (inr c) p ps rest = ap (λ (x : ℤ). pos 0 +ℤ x) (rest some c ps) ∙ +ℤ_idl (due (paid s.month) (pos 12))

  left : (s : State) (fs : List Fed) → Left s fs
  unfolding added Closed SameEachMonth
  left s [] some c p = absurd c
  left s (f ∷ fs) some c p = left_step s f fs (judged s f) refl some c p.0 p.1 (left (next s f) fs)

  -- ---- from a ledger on which none is closed
  abbrev All : State → List Fed → Type 0
  All s fs = s.month ≡ pos 0 → first_closed s fs ≤ℤ july → Closed june s fs → SameEachMonth y i pa s fs → got s fs ≡ pa

  all_step :
      (s : State) (f : Fed) (fs : List Fed) (v : Verdict)
      → judged s f ≡ v
      → s.month ≡ pos 0
      → closed_or v (month_of f) (first_closed (moved v s f) fs) ≤ℤ july
      → ((v ≡ accepted) × (month_of f ≡ june)) ⊎ Closed june (moved v s f) fs
      → (v ≡ accepted → cycle_of (month_of f) ≡ y → (get_or f.lines.agents i (agent_of [])).pa ≡ pa)
      → SameEachMonth y i pa (moved v s f) fs
      → All (moved v s f) fs
      → counted v (VMPAofCycle y i s f.lines) +ℤ got (moved v s f) fs ≡ pa
  all_step s f fs accepted e none h (inl (_, q)) p ps rest =
      absurd (let j = june_is in omega (za, mul# y (pos 100), add# (y *ℤ pos 100) (pos 7), add# (y *ℤ pos 100) (pos 106)))
  all_step s f fs accepted e none h (inr c) p ps rest = go (eq_z (cycle_of (month_of f)) y) refl
    where
      there : Month (month_of f)
      there = (taken s f e).there

      then : got (moved accepted s f) fs ≡ due (paid (month_of f)) (pos 12)
      then = left (moved accepted s f) fs (month_some there) c ps

      go : (same : Bool) → eq_z (cycle_of (month_of f)) y ≡ same → VMPAofCycle y i s f.lines +ℤ got (moved accepted s f) fs ≡ pa
      go true q =
          let k = eq_z_true (cycle_of (month_of f)) y q in
          let one = of_july there k h in
          let b : settled_to s.month (month_of f) ≡ pos 0 =
          settled_none (month_of f) none ∙ ap (λ (x : ℤ). x -ℤ pos 1) one in
          ap₂ ◌+ℤ◌
          (amount_in s f.lines k (p refl k) ∙ ap₂ due b one)
          (then ∙ ap (λ (x : ℤ). due x (pos 12)) (paid_in (month_of f) k ∙ one))
          ∙ part_add pa (pos 0) (pos 1) (pos 12) (pos 12)
          ∙ part_whole pa (pos 12) (omega za)
      go false q =
          let n = eq_z_false (cycle_of (month_of f)) y q in
          ap₂ ◌+ℤ◌ (amount_out s f.lines n) (then ∙ ap (λ (b : ℤ). due b (pos 12)) (paid_out (month_of f) n) ∙ part_whole pa (pos 12) (omega za))
          ∙ +ℤ_idl pa
  all_step s f fs (refused a b) e none h (inl (q, _)) p ps rest = absurd (no q)
  all_step s f fs (refused a b) e none h (inr c) p ps rest = ap (λ (x : ℤ). pos 0 +ℤ x) (rest none h c ps) ∙ +ℤ_idl pa

  all : (s : State) (fs : List Fed) → All s fs
  unfolding added Closed SameEachMonth first_closed
  all s [] none h c p = absurd c
  all s (f ∷ fs) none h c p = all_step s f fs (judged s f) refl none h c p.0 p.1 (all (next s f) fs)

pub whole_cycle :
    (users agents : ℕ) (fs : List Fed) (y : ℤ)
    → WholeCycle y (opened users agents) fs
    → (i : ℕ) (pa : ℤ)
    → SameEachMonth y i pa (opened users agents) fs
    → added (VMPAofCycle y i) (opened users agents) fs ≡ pa
whole_cycle users agents fs y w i pa p = all y i pa (opened users agents) fs refl w.from w.to p
