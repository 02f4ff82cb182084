-- What a caller learns from the checked contracts of `read_at` and `read`, which take slices of records: the kit's own reading of the
-- generated clauses (records' `LearntBy`). `read_at_tells` and `read_tells`: it is neither more nor less than the contract. Of `file_check`
-- it is taken as generated (`Reads.Learnt`). Assumes nothing.
use mathlib.Core.Path.{refl}
use base.Logic.{id⊢}
use contract.Lifetimes.{Lfts}
use denote.Triple.Entry.{Args}
use borrow.Fn.World.{World, Pr}
use borrow.Fn.Read.{r_last, all_models}
use Rattle.records.proofs.Learnt.{Ensures, Reading, LearntBy, Plain, Tells}
use Rattle.monthfile.specs.contracts.points.read_at as read_at
use Rattle.monthfile.specs.contracts.reader.Reader.read as read

-- ---- read_at
abbrev pub read_at_required : (κs : Lfts (read_at.signature).lifetimes) → Args read_at.signature κs → (w : World) → Pr w
read_at_required κs a w = (read_at.clauses w.𝓛 w.𝓜.mem w.𝓡.returns κs a).requires tt

abbrev pub read_at_ensured : Ensures read_at.ended
read_at_ensured κs a r e w = (read_at.clauses w.𝓛 w.𝓜.mem w.𝓡.returns κs a).ensures tt r e

abbrev pub read_at_reading : Reading read_at.ended read_at_ensured
read_at_reading κs a r e = all_models (read_at_ensured κs a r e) (λ w. r_last _) (λ w. refl) (λ w. refl) (λ w. refl)

abbrev pub ReadAtLearnt : Plain read_at.ended
ReadAtLearnt = LearntBy read_at.ended read_at_ensured read_at_reading

pub read_at_tells : Tells read_at.ended read_at_ensured ReadAtLearnt
read_at_tells = record { follows = λ κs a r e w. id⊢ w.𝓤 (read_at_ensured κs a r e w); suffices = λ κs a r e w. id⊢ w.𝓤 (read_at_ensured κs a r e w) }

-- ---- read
abbrev pub read_required : (κs : Lfts (read.signature).lifetimes) → Args read.signature κs → (w : World) → Pr w
read_required κs a w = (read.clauses w.𝓛 w.𝓜.mem w.𝓡.returns κs a).requires tt

abbrev pub read_ensured : Ensures read.ended
read_ensured κs a r e w = (read.clauses w.𝓛 w.𝓜.mem w.𝓡.returns κs a).ensures tt r e

abbrev pub read_reading : Reading read.ended read_ensured
read_reading κs a r e = all_models (read_ensured κs a r e) (λ w. r_last _) (λ w. refl) (λ w. refl) (λ w. refl)

abbrev pub ReadLearnt : Plain read.ended
ReadLearnt = LearntBy read.ended read_ensured read_reading

pub read_tells : Tells read.ended read_ensured ReadLearnt
read_tells = record { follows = λ κs a r e w. id⊢ w.𝓤 (read_ensured κs a r e w); suffices = λ κs a r e w. id⊢ w.𝓤 (read_ensured κs a r e w) }
