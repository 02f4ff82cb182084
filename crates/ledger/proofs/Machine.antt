-- DEMAND 3 of the machine's own runs. A caller, from a memory that owns what the types of `close` ask, runs the routine of `close`, and
-- goes on from what the run returned and left, in any way, to its next call, lending the held credits in a slice of any length. Whatever
-- the caller, each of its runs ends, and the list of them meets `Demand3`. proofs/Ready shows that there are such memories. That the
-- routines are those of `open` and `close` is the kit's `Wired`: the environment has the functions' own code at their names. Assumes
-- nothing: it is shown at every model.
use Prim.Native.Nat.{ℕ, zero, suc}
use mathlib.Core.Path.{◌≡◌}
use mathlib.Core.Logic.{∥∥₁_prop, ∥∥₁_elim, ∥∥₁_map}
use mathlib.Core.List.{List, [], ◌∷◌, map}
use seplogic.Ra.Ura.{Ura}
use mir.Syntax.{Callee}
use mir.Val.{Val}
use base.Logic.{SProp, ent, sep, ex, via, comm∗, assoc∗, assoc', mono_l, fst∗, snd∗, emp}
use prog.Memory.{Memory}
use prog.Machine.{done}
use prog.Model.{Model}
use prog.Routine.{Routine, step}
use prog.Wired.{Wired}
use types.Logic.{Logic, sem}
use contract.Monad.{fact}
use contract.Lifetimes.{Lfts}
use contract.Running.{Running, strict, tables}
use contract.Adequate.{Satisfies, sat_weaken, sat_⇛, sat_ex∗, sat_fact}
use denote.Signature.{Signature}
use denote.Triple.Entry.{Args, Res}
use denote.Triple.End.{Kepts, Fins, Outs, outs, lasts_of}
use denote.Triple.Bound.{Bound, passed}
use denote.Triple.Spec.{Spec, Meets, Back, triple_of, exits}
use denote.Triple.Adequate.{adequate}
use lib.IntN.{ℤ}
use Rattle.rules.specs.declared.Ledger.{Ledger}
use Rattle.rules.specs.Verdict.{accepted}
use Rattle.rules.specs.Answers.{verdict_of}
use Rattle.rules.specs.Demand.{Lent, left_in, Demand3, Chain as RulesChain}
use Rattle.ledger.specs.contracts.open as open'
use Rattle.ledger.proofs.open.Reads as open_reads
use Rattle.ledger.proofs.open.Symbol as open_code
use Rattle.ledger.proofs.open.Met as open_met
use Rattle.ledger.specs.contracts.close as close
use Rattle.ledger.proofs.close.Symbol as close_code
use Rattle.ledger.proofs.close.Met as close_met
use Rattle.ledger.proofs.Learnt.{Learnt}
use Rattle.ledger.proofs.Demand.{Called, Opened, held_at, held_left, credits_left, plain, Chain, Demand_3}

module _ {M : Type 1} {𝓤 : Ura M} (𝓛 : Logic 𝓤) (𝓜 : Model 𝓤 𝓛.H) (𝓡 : Running 𝓤 𝓛.H 𝓜) where
  open 𝓛 use {H}

  -- runs of one thread that no status stops
  abbrev pub alone : Running 𝓤 H 𝓜
  alone = strict 𝓤 H 𝓜 𝓡

  front : (B E F : SProp 𝓤) → ent 𝓤 (sep 𝓤 (sep 𝓤 B E) F) (sep 𝓤 E (sep 𝓤 B F))
  front B E F = via 𝓤 (sep 𝓤 (sep 𝓤 E B) F) (mono_l 𝓤 F (comm∗ 𝓤 B E)) (assoc∗ 𝓤 E B F)

  back : (L P B F : SProp 𝓤) → ent 𝓤 (sep 𝓤 (sep 𝓤 L P) (sep 𝓤 B F)) (sep 𝓤 (sep 𝓤 B L) F)
  back L P B F =
      via 𝓤 (sep 𝓤 L (sep 𝓤 B F)) (mono_l 𝓤 (sep 𝓤 B F) (fst∗ 𝓤 L P))
      (via 𝓤 (sep 𝓤 (sep 𝓤 L B) F) (assoc' 𝓤 L B F) (mono_l 𝓤 F (comm∗ 𝓤 L B)))

  -- ---- a run of a routine whose contract asks nothing and ensures the plain fact φ
  module _ (S : Signature) (ks : Kepts S.params) (φ : (κs : Lfts S.lifetimes) (a : Args S κs) → Res S κs → Outs κs S.params ks → Type 0) where
    abbrev pub promise : Spec 𝓤 S
    promise κs a =
        record {
          ghost = Unit {0};
          requires = λ g. emp 𝓤;
          ensures = λ g r. exits 𝓛 S ks κs a (λ e. fact 𝓤 (φ κs a r e));
        }

    -- a memory from which a call at x can be made, beside F
    abbrev pub Ready : Bound 𝓛 S → Memory → SProp 𝓤 → Type 1
    Ready x σ F = Satisfies 𝓤 H 𝓜 σ (sep 𝓤 ((triple_of 𝓛 S promise).pre (x, tt)) F)

    -- what is owned where the call has returned the machine value v, which stands for r, and the last values are ws
    abbrev pub Owned : (x : Bound 𝓛 S) → Val → Res S x.0 → Fins x.0 S.params ks x.3 → SProp 𝓤
    Owned x v r ws = sep 𝓤 (Back 𝓛 S x v r) (sem 𝓛 (lasts_of x.0 S.params ks x.3 ws))

    -- the run of ρ at x from σ: it ends, and the fact holds of what it returns and leaves
    pub record Ran (ρ : Routine) (x : Bound 𝓛 S) (σ : Memory) (F : SProp 𝓤) : Type 1 where
      pub fuel : ℕ
      pub value : Val
      pub memory : Memory
      pub ends : step ρ fuel (passed 𝓛 S x) σ ≡ done (value, memory)
      pub result : Res S x.0
      pub last : Fins x.0 S.params ks x.3
      pub holds : φ x.0 x.3 result (outs x.0 S.params ks x.3 last)
      pub owned : Satisfies 𝓤 H 𝓜 memory (sep 𝓤 (Owned x value result last) F)

    abbrev Said : (x : Bound 𝓛 S) → Res S x.0 → Fins x.0 S.params ks x.3 → SProp 𝓤
    Said x r ws =
        sep 𝓤 (sem 𝓛 (lasts_of x.0 S.params ks x.3 ws)) (fact 𝓤 (φ x.0 x.3 r (outs x.0 S.params ks x.3 ws)))

    abbrev At : (x : Bound 𝓛 S) → Val → Res S x.0 → SProp 𝓤
    At x v r = sep 𝓤 (Back 𝓛 S x v r) (ex 𝓤 (Said x r))

    pub runs : (k : Callee) → Meets 𝓛 S (alone.run (𝓡.env k)) promise → (x : Bound 𝓛 S) (σ : Memory) (F : SProp 𝓤) → Ready x σ F → ∥ Ran (𝓡.env k) x σ F ∥₁
    runs k met x σ F s =
        ∥∥₁_elim (adequate 𝓤 H 𝓜 (tables 𝓤 H 𝓜 alone 𝓡.env) ((λ s a. a), tt) k (triple_of 𝓛 S promise) met (x, tt) σ F s) ∥∥₁_prop (λ t.
        ∥∥₁_elim (sat_ex∗ 𝓤 H 𝓜 t.2 (At x t.1) F (sat_⇛ 𝓤 H 𝓜 t.2 (ex 𝓤 (At x t.1)) F t.4)) ∥∥₁_prop (λ u.
        let B : SProp 𝓤 = Back 𝓛 S x t.1 u.0 in
        ∥∥₁_elim (sat_ex∗ 𝓤 H 𝓜 t.2 (Said x u.0) (sep 𝓤 B F) (sat_weaken 𝓤 H 𝓜 t.2 (front B (ex 𝓤 (Said x u.0)) F) u.1)) ∥∥₁_prop (λ w.
        let L : SProp 𝓤 = sem 𝓛 (lasts_of x.0 S.params ks x.3 w.0) in
        let Φ : Type 0 = φ x.0 x.3 u.0 (outs x.0 S.params ks x.3 w.0) in
        let Now : SProp 𝓤 = sep 𝓤 (sep 𝓤 L (fact 𝓤 Φ)) (sep 𝓤 B F) in
        ∥∥₁_map
        (sat_fact 𝓤 H 𝓜 t.2 Now Φ
        (via 𝓤 Now (snd∗ 𝓤 (𝓜.mem t.2) Now) (via 𝓤 (sep 𝓤 L (fact 𝓤 Φ)) (fst∗ 𝓤 (sep 𝓤 L (fact 𝓤 Φ)) (sep 𝓤 B F)) (snd∗ 𝓤 L (fact 𝓤 Φ))))
        w.1)
        (λ h.
        record {
          fuel = t.0;
          value = t.1;
          memory = t.2;
          ends = t.3;
          result = u.0;
          last = w.0;
          holds = h;
          owned = sat_weaken 𝓤 H 𝓜 t.2 (back L (fact 𝓤 Φ) B F) w.1;
        }))))

  -- ---- open and close on the machine
  abbrev pub OpenReady : Bound 𝓛 open'.signature → Memory → SProp 𝓤 → Type 1
  OpenReady = Ready open'.signature (open'.ended).kept open_reads.Learnt

  abbrev pub OpenRan : Bound 𝓛 open'.signature → Memory → SProp 𝓤 → Type 1
  OpenRan = Ran open'.signature (open'.ended).kept open_reads.Learnt (𝓡.env open_code.name)

  pub open_runs : Wired 𝓡.env open_code.code → (x : Bound 𝓛 open'.signature) (σ : Memory) (F : SProp 𝓤) → OpenReady x σ F → ∥ OpenRan x σ F ∥₁
  open_runs w = runs open'.signature (open'.ended).kept open_reads.Learnt open_code.name (open_met.met 𝓤 𝓛 𝓜 alone w)

  abbrev pub CloseReady : Bound 𝓛 close.signature → Memory → SProp 𝓤 → Type 1
  CloseReady = Ready close.signature (close.ended).kept Learnt

  abbrev pub CloseRan : Bound 𝓛 close.signature → Memory → SProp 𝓤 → Type 1
  CloseRan = Ran close.signature (close.ended).kept Learnt (𝓡.env close_code.name)

  pub close_runs : Wired 𝓡.env close_code.code → (x : Bound 𝓛 close.signature) (σ : Memory) (F : SProp 𝓤) → CloseReady x σ F → ∥ CloseRan x σ F ∥₁
  close_runs w = runs close.signature (close.ended).kept Learnt close_code.name (close_met.met 𝓤 𝓛 𝓜 alone w)

  -- ---- a list of calls
  -- a run as the call that its caller sees
  abbrev pub called : (x : Bound 𝓛 close.signature) (σ : Memory) (F : SProp 𝓤) → CloseRan x σ F → Called
  called x σ F y = record { κs = x.0; args = x.3; result = y.result; last = y.last; learnt = y.holds }

  -- a caller that is to make n calls and has the ledger g and the held credits: the arguments and the memory of its next call, which is
  -- lent the credits, and, from whatever that run returns and leaves, the rest
  abbrev pub Caller : ℕ → Ledger → List ℤ → Type 2
  Caller zero g credits = Unit {2}
  Caller (suc n) g credits =
      (x : Bound 𝓛 close.signature)
      × (x.3.0 ≡ g)
      × Lent credits x.3.1.0.now
      × (σ : Memory)
      × (F : SProp 𝓤)
      × CloseReady x σ F
      × ((y : CloseRan x σ F) → Caller n y.result.ledger (left_in credits y.last.1.0))

  -- the runs that a caller makes, one after the other
  abbrev pub Play : (n : ℕ) (g : Ledger) (credits : List ℤ) → Caller n g credits → Type 1
  Play zero g credits c = Unit {1}
  Play (suc n) g credits c = (y : CloseRan c.0 c.3 c.4) × Play n y.result.ledger (left_in credits y.last.1.0) (c.6 y)

  abbrev pub calls : (n : ℕ) (g : Ledger) (credits : List ℤ) (c : Caller n g credits) → Play n g credits c → List Called
  calls zero g credits c p = []
  calls (suc n) g credits c p =
      called c.0 c.3 c.4 p.0 ∷ calls n p.0.result.ledger (left_in credits p.0.last.1.0) (c.6 p.0) p.1

  chained : (n : ℕ) (g : Ledger) (credits : List ℤ) (c : Caller n g credits) (p : Play n g credits c) → Chain g credits (calls n g credits c p)
  unfolding RulesChain
  chained zero g credits c p = tt
  chained (suc n) g credits c p = (c.1, c.2, chained n p.0.result.ledger (left_in credits p.0.last.1.0) (c.6 p.0) p.1)

  -- whatever the caller, each of its runs ends
  pub plays : Wired 𝓡.env close_code.code → (n : ℕ) (g : Ledger) (credits : List ℤ) (c : Caller n g credits) → ∥ Play n g credits c ∥₁
  plays w zero g credits c = ∣ tt ∣₁
  plays w (suc n) g credits c =
      ∥∥₁_elim (close_runs w c.0 c.3 c.4 c.5) ∥∥₁_prop
      (λ y. ∥∥₁_map (plays w n y.result.ledger (left_in credits y.last.1.0) (c.6 y)) (λ p. (y, p)))

  -- an opening that was run and accepted
  abbrev pub opened : (x : Bound 𝓛 open'.signature) (σ : Memory) (F : SProp 𝓤) (y : OpenRan x σ F) → verdict_of y.result.answer ≡ accepted → Opened
  opened x σ F y e = record { κs = x.0; args = x.3; result = y.result; last = y.last; learnt = y.holds; accepted = e }

  -- DEMAND 3 OF RUNS: from any accepted run of open, whatever the caller, its runs of close end, and meet demand 3
  pub demand_3_of_runs :
      Wired 𝓡.env close_code.code
      → (x : Bound 𝓛 open'.signature) (σ : Memory) (F : SProp 𝓤) (y : OpenRan x σ F) (e : verdict_of y.result.answer ≡ accepted)
      → let o = opened x σ F y e in
      (n : ℕ) (c : Caller n o.result.ledger (credits_left o))
      → ∥ ((p : Play n o.result.ledger (credits_left o) c)
      × Demand3 o.args.0 o.args.1.0 (held_at o) o.result.ledger (held_left o) (map plain (calls n o.result.ledger (credits_left o) c p))) ∥₁
  demand_3_of_runs w x σ F y e n c =
      let o = opened x σ F y e in
      ∥∥₁_map (plays w n o.result.ledger (credits_left o) c)
      (λ p. (p, Demand_3 o (calls n o.result.ledger (credits_left o) c p) (chained n o.result.ledger (credits_left o) c p)))
