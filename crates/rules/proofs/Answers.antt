-- An answer is settled by its verdict, since no two refusals have the same number and place; and every verdict of opening, closing and
-- their like is that of an answer.
use Prim.Native.Nat.{ℕ, suc}
use mathlib.Core.Path.{◌≡◌, refl, sym, ap, ap₂, ◌∙◌}
use mathlib.Core.Bool.{Bool, true, false}
use mathlib.Core.List.{List, [], ◌∷◌}
use Rattle.std.specs.Prelude.{Result, Ok, Err, cond, eqb}
use Rattle.rules.specs.declared.outcomes.Lent.{Lent}
use Rattle.rules.specs.declared.outcomes.Lent.TheVariants.{Held, Cells, Work, PointRows, UserRows, PayeeRows}
use Rattle.rules.specs.declared.outcomes.Refusal.{Refusal}
use Rattle.rules.specs.declared.outcomes.Refusal.TheVariants.{BadCounts, ShortSlice, BadMonth, BadCredit, BadValue, NoSuchUser, UnfitPoint, NoPayments, NoUse}
use Rattle.rules.specs.declared.outcomes.Refusal.TheVariants.{NoDebit, NotAFile, TooManyLines}
use Rattle.rules.specs.Verdict.{Verdict, accepted, refused, when, ◌then◌, each_line}
use Rattle.rules.specs.Answers.{lent_place, number_of, place_of, refused_by, verdict_of}
use Rattle.rules.proofs.Tests.{refused_not_accepted}

-- ---- the refusal with a number and a place
lent_at : ℕ → Lent
lent_at p = cond (eqb p 1) Held (cond (eqb p 2) Cells (cond (eqb p 3) Work (cond (eqb p 7) PointRows (cond (eqb p 8) UserRows PayeeRows))))

pub refusal_at : ℕ → ℕ → Refusal
refusal_at n p =
    cond (eqb n 1) BadCounts
    (cond (eqb n 2) (ShortSlice (lent_at p))
    (cond (eqb n 3) BadMonth
    (cond (eqb n 4) (BadCredit p)
    (cond (eqb n 5) (BadValue p)
    (cond (eqb n 6) (NoSuchUser p)
    (cond (eqb n 7) (UnfitPoint p)
    (cond (eqb n 8) NoPayments (cond (eqb n 9) NoUse (cond (eqb n 10) NoDebit (cond (eqb n 11) (NotAFile p) (TooManyLines p)))))))))))

lent_back : (s : Lent) → lent_at (lent_place s) ≡ s
unfolding lent_at
lent_back Held = refl
lent_back Cells = refl
lent_back Work = refl
lent_back PointRows = refl
lent_back UserRows = refl
lent_back PayeeRows = refl

pub refusal_back : (e : Refusal) → refusal_at (number_of e) (place_of e) ≡ e
unfolding refusal_at
refusal_back BadCounts = refl
refusal_back (ShortSlice s) = ap ShortSlice (lent_back s)
refusal_back BadMonth = refl
refusal_back (BadCredit k) = refl
refusal_back (BadValue k) = refl
refusal_back (NoSuchUser k) = refl
refusal_back (UnfitPoint k) = refl
refusal_back NoPayments = refl
refusal_back NoUse = refl
refusal_back NoDebit = refl
refusal_back (NotAFile k) = refl
refusal_back (TooManyLines k) = refl

-- ---- an answer by its verdict
pub verdict_done : {T : Type 0} (r : Result T Refusal) → verdict_of r ≡ accepted → (x : T) × (r ≡ Ok x)
verdict_done (Ok x) e = (x, refl)
verdict_done (Err r) e = absurd (refused_not_accepted e)

pub verdict_accepted : (r : Result (Unit {0}) Refusal) → verdict_of r ≡ accepted → r ≡ Ok tt
verdict_accepted (Ok x) e = refl
verdict_accepted (Err r) e = absurd (refused_not_accepted e)

pub verdict_refused : {T : Type 0} (r : Result T Refusal) {n p : ℕ} → verdict_of r ≡ refused n p → r ≡ Err (refusal_at n p)
verdict_refused (Ok x) e = absurd (refused_not_accepted (sym e))
verdict_refused (Err r) {n = n} {p = p} e =
    let a : number_of r ≡ n = cc in
    let b : place_of r ≡ p = cc in
    ap Err (sym (refusal_back r) ∙ ap₂ refusal_at a b)

pub verdict_same : (r s : Result (Unit {0}) Refusal) → verdict_of r ≡ verdict_of s → r ≡ s
verdict_same (Ok x) s e = sym (verdict_accepted s (sym e))
verdict_same (Err r) s e = sym (verdict_refused s (sym e) ∙ ap Err (refusal_back r))

-- ---- verdicts that an answer can tell
pub record Told (v : Verdict) : Type 0 where
  pub answer : Result (Unit {0}) Refusal
  pub tells : verdict_of answer ≡ v

pub told_by : {v : Verdict} {n p : ℕ} → Told v → v ≡ refused n p → (e : Refusal) × (v ≡ refused_by e)
told_by {v = v} {n = n} {p = p} t e = go t.answer t.tells
  where
    go : (r : Result (Unit {0}) Refusal) → verdict_of r ≡ v → (d : Refusal) × (v ≡ refused_by d)
    go (Ok x) h = absurd (refused_not_accepted (sym e ∙ sym h))
    go (Err r) h = (r, sym h)

pub told_when : (t : Bool) (e : Refusal) → Told (when t (number_of e) (place_of e))
told_when true e = record { answer = Err e; tells = refl }
told_when false e = record { answer = Ok tt; tells = refl }

pub told_then : {v w : Verdict} → Told v → Told w → Told (v then w)
told_then {v = accepted} a b = b
told_then {v = refused n p} a b = record { answer = a.answer; tells = a.tells }

pub told_each : {A : Type 0} (test : ℕ → A → Verdict) → ((k : ℕ) (x : A) → Told (test k x)) → (k : ℕ) (xs : List A) → Told (each_line test k xs)
unfolding each_line
told_each test t k [] = record { answer = Ok tt; tells = refl }
told_each test t k (x ∷ xs) = told_then (t k x) (told_each test t (suc k) xs)
