-- What a caller learns from a checked contract, as a plain statement, and that it is neither more nor less than the contract. Such a
-- statement is generated too (`Reads.Learnt`); here it is made in the same way: the kit's own reading of the generated `clauses`, with no
-- copy of the contract in between. Assumes nothing.
use mathlib.Core.Logic.{∥∥₁_map}
use base.Logic.{ent, emp, via}
use contract.Monad.{fact}
use contract.Lifetimes.{Lfts}
use denote.Triple.Entry.{Args, Res}
use denote.Triple.Clauses.{Ended, AtExit, Lasts, at_exit}
use borrow.Fn.Claims.{AllOf}
use borrow.Fn.World.{World, Pr, w₀}
use borrow.Fn.Read.{Read, no_know}

-- an `ensures`, at every model
abbrev pub Ensures : Ended → Type 2
Ensures T = (κs : Lfts T.signature.lifetimes) → Args T.signature κs → Res T.signature κs → AtExit T κs → (w : World) → Pr w

module _ (T : Ended) (ensures : Ensures T) where
  -- the kit's reading of it, for whoever owns nothing and knows nothing besides
  abbrev pub Reading : Type 2
  Reading = (κs : Lfts T.signature.lifetimes) (a : Args T.signature κs) (r : Res T.signature κs) (e : AtExit T κs)
      → Read (λ w. emp w.𝓤) no_know (ensures κs a r e)

  abbrev pub LearntBy : Reading → (κs : Lfts T.signature.lifetimes) → Args T.signature κs → Res T.signature κs → AtExit T κs → Type 0
  LearntBy reading κs a r e = AllOf (reading κs a r e).tells

-- a plain statement of a call
abbrev pub Plain : Ended → Type 1
Plain T = (κs : Lfts T.signature.lifetimes) → Args T.signature κs → Res T.signature κs → AtExit T κs → Type 0

-- it is neither more nor less than the contract: at every model the `ensures` entails it, and is entailed by it
pub record Tells (T : Ended) (ensures : Ensures T) (φ : Plain T) : Type 2 where
  pub follows : (κs : Lfts T.signature.lifetimes) (a : Args T.signature κs) (r : Res T.signature κs) (e : AtExit T κs) (w : World)
      → ent w.𝓤 (ensures κs a r e w) (fact w.𝓤 (φ κs a r e))
  pub suffices : (κs : Lfts T.signature.lifetimes) (a : Args T.signature κs) (r : Res T.signature κs) (e : AtExit T κs) (w : World)
      → ent w.𝓤 (fact w.𝓤 (φ κs a r e)) (ensures κs a r e w)

-- so whatever plain statement the `ensures` entails at every model it gives, merely (`∥ P ∥₁`), as an assertion of the logic holds one
pub nothing_more :
    {T : Ended} {ensures : Ensures T} {φ : Plain T}
    → Tells T ensures φ
    → (κs : Lfts T.signature.lifetimes) (a : Args T.signature κs) (r : Res T.signature κs) (e : AtExit T κs) (P : Type 0)
    → ((w : World) → ent w.𝓤 (ensures κs a r e w) (fact w.𝓤 P))
    → φ κs a r e
    → ∥ P ∥₁
nothing_more t κs a r e P h x = ∥∥₁_map ((via w₀.𝓤 _ (t.suffices κs a r e w₀) (h w₀)).apply w₀.𝓤.one ∣ (x, tt) ∣₁) (λ y. y.0)

-- ---- a call: lifetimes, arguments, result, the last value of each `&mut`, and what is told of them
pub record CallOf (T : Ended) (φ : Plain T) : Type 0 where
  pub κs : Lfts T.signature.lifetimes
  pub args : Args T.signature κs
  pub result : Res T.signature κs
  pub last : Lasts T κs args
  pub learnt : φ κs args result (at_exit T κs args last)
