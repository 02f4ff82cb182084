-- What a caller learns from the checked contract of `close`, which takes a slice of records: the kit's own reading of the generated
-- clauses (records' `LearntBy`). `tells`: it is neither more nor less than the contract. Assumes nothing.
use mathlib.Core.Path.{refl}
use base.Logic.{id⊢}
use contract.Lifetimes.{Lfts}
use denote.Triple.Entry.{Args}
use borrow.Fn.World.{World, Pr}
use borrow.Fn.Read.{r_last, all_models}
use Rattle.records.proofs.Learnt.{Ensures, Reading, LearntBy, Plain, Tells}
use Rattle.ledger.specs.contracts.close as close

abbrev pub required : (κs : Lfts (close.signature).lifetimes) → Args close.signature κs → (w : World) → Pr w
required κs a w = (close.clauses w.𝓛 w.𝓜.mem w.𝓡.returns κs a).requires tt

abbrev pub ensured : Ensures close.ended
ensured κs a r e w = (close.clauses w.𝓛 w.𝓜.mem w.𝓡.returns κs a).ensures tt r e

abbrev pub reading : Reading close.ended ensured
reading κs a r e = all_models (ensured κs a r e) (λ w. r_last _) (λ w. refl) (λ w. refl) (λ w. refl)

abbrev pub Learnt : Plain close.ended
Learnt = LearntBy close.ended ensured reading

-- neither more nor less than the contract
pub tells : Tells close.ended ensured Learnt
tells = record { follows = λ κs a r e w. id⊢ w.𝓤 (ensured κs a r e w); suffices = λ κs a r e w. id⊢ w.𝓤 (ensured κs a r e w) }
