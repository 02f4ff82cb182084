-- What calls answer (paper 01, "Why a month comes back"): the paper's number and place of each refusal, and the verdict of an answer.
use Rattle.std.specs.Prelude.{ℕ, Result, Ok, Err}
use Rattle.rules.specs.declared.outcomes.Lent.{Lent}
use Rattle.rules.specs.declared.outcomes.Lent.TheVariants.{Held, Cells, Work, PointRows, UserRows, PayeeRows}
use Rattle.rules.specs.declared.outcomes.Refusal.{Refusal}
use Rattle.rules.specs.declared.outcomes.Refusal.TheVariants.{BadCounts, ShortSlice, BadMonth, BadCredit, BadValue, NoSuchUser, UnfitPoint, NoPayments, NoUse}
use Rattle.rules.specs.declared.outcomes.Refusal.TheVariants.{NoDebit, NotAFile, TooManyLines}
use Rattle.rules.specs.Verdict.{Verdict, accepted, refused}

-- 2: a slice too short; of closing 1 held, 2 cells, 3 work, of a statement 1 held, 7 the points' rows, 8 the users', 9 the payees'
abbrev pub lent_place : Lent → ℕ
lent_place Held = 1
lent_place Cells = 2
lent_place Work = 3
lent_place PointRows = 7
lent_place UserRows = 8
lent_place PayeeRows = 9

abbrev pub number_of : Refusal → ℕ
number_of BadCounts = 1
number_of (ShortSlice s) = 2
number_of BadMonth = 3
number_of (BadCredit k) = 4
number_of (BadValue k) = 5
number_of (NoSuchUser k) = 6
number_of (UnfitPoint k) = 7
number_of NoPayments = 8
number_of NoUse = 9
number_of NoDebit = 10
number_of (NotAFile k) = 11
number_of (TooManyLines k) = 12

-- 0 unless said
abbrev pub place_of : Refusal → ℕ
place_of BadCounts = 0
place_of (ShortSlice s) = lent_place s
place_of BadMonth = 0
place_of (BadCredit k) = k
place_of (BadValue k) = k
place_of (NoSuchUser k) = k
place_of (UnfitPoint k) = k
place_of NoPayments = 0
place_of NoUse = 0
place_of NoDebit = 0
place_of (NotAFile k) = k
place_of (TooManyLines k) = k

abbrev pub refused_by : Refusal → Verdict
refused_by e = refused (number_of e) (place_of e)

-- done, with whatever the call answers, or refused
abbrev pub verdict_of : {T : Type 0} → Result T Refusal → Verdict
verdict_of (Ok x) = accepted
verdict_of (Err e) = refused_by e
