-- A refusal told by its number and place is 11 or 12, and so one refusal. Assumes nothing.
use Rattle.std.proofs.Common.{ℕ, ◌≤◌, ◌≡◌, ap, sym, ◌∙◌, ◌⊎◌, inl, inr, List, arith, Result, Ok, Err}
use Rattle.format.specs.Blocks.{Slices}
use Rattle.format.specs.Reading.{reading, ReadingAnswer, accepted, refused, Why, faulty, too_long, Says}
use Rattle.format.proofs.Answers.{reads}
use Rattle.rules.specs.Answers.{refused_by, verdict_of}
use Rattle.rules.specs.Verdict as Verdict
use Rattle.rules.specs.declared.outcomes.Refusal.{Refusal}
use Rattle.rules.specs.declared.outcomes.Refusal.TheVariants.{BadCounts, ShortSlice, BadMonth, BadCredit, BadValue, NoSuchUser, UnfitPoint, NoPayments, NoUse}
use Rattle.rules.specs.declared.outcomes.Refusal.TheVariants.{NoDebit, NotAFile, TooManyLines}
use Rattle.monthfile.specs.Reads.{Answers}
use Rattle.monthfile.specs.declared.reading.Header.{Header}

-- reading's numbers
abbrev pub Numbered : ℕ → Type 0
Numbered n = (n ≡ 11) ⊎ (n ≡ 12)

pub number_is : (r : Slices) (s : List ℕ) (q n : ℕ) → Why r s q n → Numbered n
number_is r s q n (faulty e x) = inl e
number_is r s q n (too_long e h b x) = inr e

-- the refusals with such a number
abbrev pub refusal : {n : ℕ} → Numbered n → ℕ → Refusal
refusal (inl e) p = NotAFile p
refusal (inr e) p = TooManyLines p

number : (m p n q : ℕ) → Verdict.refused m p ≡ Verdict.refused n q → m ≡ n
number m p n q h = cc

place : (m p n q : ℕ) → Verdict.refused m p ≡ Verdict.refused n q → p ≡ q
place m p n q h = cc

-- another number is none of them
other : (m k n p : ℕ) (A : Type 0) → m ≤ 10 → Verdict.refused m k ≡ Verdict.refused n p → Numbered n → A
other m k n p A l h (inl e) = let x = number m k n p h in absurd (omega arith)
other m k n p A l h (inr e) = let x = number m k n p h in absurd (omega arith)

pub is_refusal : (e : Refusal) (n p : ℕ) (w : Numbered n) → refused_by e ≡ Verdict.refused n p → e ≡ refusal w p
is_refusal (NotAFile k) n p (inl w) h = ap NotAFile (place 11 k n p h)
is_refusal (NotAFile k) n p (inr w) h = let x = number 11 k n p h in absurd (omega arith)
is_refusal (TooManyLines k) n p (inl w) h = let x = number 12 k n p h in absurd (omega arith)
is_refusal (TooManyLines k) n p (inr w) h = ap TooManyLines (place 12 k n p h)
is_refusal BadCounts n p w h = other 1 0 n p _ (omega arith) h w
is_refusal (ShortSlice s) n p w h = other 2 _ n p _ (omega arith) h w
is_refusal BadMonth n p w h = other 3 0 n p _ (omega arith) h w
is_refusal (BadCredit k) n p w h = other 4 k n p _ (omega arith) h w
is_refusal (BadValue k) n p w h = other 5 k n p _ (omega arith) h w
is_refusal (NoSuchUser k) n p w h = other 6 k n p _ (omega arith) h w
is_refusal (UnfitPoint k) n p w h = other 7 k n p _ (omega arith) h w
is_refusal NoPayments n p w h = other 8 0 n p _ (omega arith) h w
is_refusal NoUse n p w h = other 9 0 n p _ (omega arith) h w
is_refusal NoDebit n p w h = other 10 0 n p _ (omega arith) h w

pub came_back : (r : Result Header Refusal) (n p : ℕ) (w : Numbered n) → verdict_of r ≡ Verdict.refused n p → r ≡ Err (refusal w p)
came_back (Ok h) n p w e = absurd (cc)
came_back (Err x) n p w e = ap (λ (y : Refusal). Err y) (is_refusal x n p w e)

-- what reading answers has such a number, where it is refused
abbrev pub Told : ReadingAnswer → Type 0
Told (accepted f next) = Unit {0}
Told (refused n p) = Numbered n

pub told : (r : Slices) (t : List ℕ) (from : ℕ) → Told (reading r t from)
told r t from = by (reading r t from) (reads r t from)
  where
    by : (x : ReadingAnswer) → Says r t from x → Told x
    by (accepted f next) s = tt
    by (refused n p) s = number_is _ _ _ n s.why

-- so it is one answer
pub one_answer : (x : ReadingAnswer) (r s : Result Header Refusal) → Told x → Answers x r → Answers x s → r ≡ s
one_answer (accepted f next) r s w a b = a ∙ sym b
one_answer (refused n p) r s w a b = came_back r n p w a ∙ sym (came_back s n p w b)
