-- The machine's runs of `Machine` can be made: whatever arguments fit their types, there are a memory, lifetimes and references from which
-- `open`, or `close`, can be called with them. Assumes nothing: it is shown at every model.
use Prim.Native.Nat.{ℕ, zero, suc}
use mathlib.Core.Path.{◌≡◌, refl}
use mathlib.Core.Logic.{∥∥₁_prop, ∥∥₁_elim, ∥∥₁_map}
use mathlib.Core.List.{List, [], ◌∷◌}
use seplogic.Ra.Ura.{Ura}
use base.Fraction.{full_share}
use lib.IntN.{ℤ}
use mir.Syntax.{w64, Lifetime, named}
use mir.Val.{Val, vint, vstruct, of_list, Fits}
use base.Logic.{SProp, ent, sep, guard, emp, id⊢, via, comm∗, assoc∗, assoc', mono_l, mono_r, emp∗, ex_i, guard_i}
use base.Fml.{Lft, Fml}
use prog.Memory.{Memory}
use prog.Model.{Model}
use prog.AdequacyRun.{start_mem}
use types.Logic.{Logic, sem}
use contract.Lifetimes.{Lfts, Shares, Within, lft_at, toks}
use contract.Running.{Running}
use contract.Adequate.{Satisfies, sat_weaken}
use denote.RattleType.{RattleType}
use denote.Laws.{Is, Makes, Lawful}
use denote.ArrayMemory.{Single}
use denote.Builtin.{u64, i64}
use denote.Plain.{uint_Lawful, uint_Makes}
use denote.Signed.{sint_Lawful, sint_Makes}
use denote.Copied.{Copied}
use denote.Ref.{Bor, MutBor}
use denote.Slice.{MutSlice, ShrSlice, shr_slice_vals, mut_slice_vals}
use denote.RattleType.{Denots, Valss, flat, owns}
use denote.Ref.{NamedLft}
use denote.Struct.Struct.{Shape, Struct, within}
use denote.Struct.Declared.{shape}
use denote.Struct.Laws as LL
use denote.Triple.Bound.{Bound}
use Rattle.rules.specs.contracts.Ledger as G
use Rattle.rules.proofs.Ledger.TheLaws as G'
use Rattle.rules.specs.contracts.MonthLine as L
use Rattle.rules.proofs.MonthLine.TheLaws as L'
use Rattle.rules.specs.contracts.Agent as A
use Rattle.rules.proofs.Agent.TheLaws as A'
use Rattle.rules.specs.contracts.User as U
use Rattle.rules.proofs.User.TheLaws as U'
use Rattle.rules.specs.contracts.Point as P
use Rattle.rules.proofs.Point.TheLaws as P'
use Rattle.rules.specs.contracts.MonthLines as ML
use Rattle.rules.specs.declared.MonthLines.{MonthLines}
use Rattle.ledger.specs.contracts.open as open'
use Rattle.ledger.specs.contracts.close as close
use Rattle.ledger.proofs.Machine.{OpenReady, CloseReady}
use Rattle.ledger.proofs.Fitting.{Word, Slice, Closing, handed, ClosingFits, words, counts, agents, users, points, ledger_is, month_line_is}
use Rattle.ledger.proofs.Placing.{Lies, started, begun, known, lent_mut, lent_shr}

module _ {M : Type 1} {𝓤 : Ura M} (𝓛 : Logic 𝓤) (𝓜 : Model 𝓤 𝓛.H) (𝓡 : Running 𝓤 𝓛.H 𝓜) where
  open 𝓛 use {H}

  abbrev Pr : Type 2
  Pr = SProp 𝓤

  abbrev ◌∗◌ : Pr → Pr → Pr
  P ∗ Q = sep 𝓤 P Q

  abbrev ⟦◌⟧ : Fml → Pr
  ⟦ P ⟧ = sem 𝓛 P

  abbrev ◌⊨◌ : Memory → Pr → Type 1
  σ ⊨ P = Satisfies 𝓤 H 𝓜 σ P

  infix 26 ◌⊨◌
  infixr 35 ◌∗◌
  -- ---- the lifetimes' tokens, whole
  abbrev wholes : (n : ℕ) → Shares n
  wholes zero = tt
  wholes (suc n) = (full_share, wholes n)

  abbrev Toks : (n : ℕ) → Lfts n → Pr
  Toks n κs = toks 𝓛 n κs (wholes n)

  begins : (n : ℕ) → ∥ ((κs : Lfts n) × start_mem [] [] ⊨ Toks n κs) ∥₁
  begins zero = ∣ (tt, started 𝓛 𝓜) ∣₁
  begins (suc n) =
      ∥∥₁_elim (begins n) ∥∥₁_prop
      (λ k. ∥∥₁_map (begun 𝓛 𝓜 (start_mem [] []) (Toks n k.0) k.1) (λ x. ((x.0 ∷ [], k.0), x.1)))

  -- ---- a further parameter, in front of those that are owned, beside the tokens
  none : (K : Pr) (σ : Memory) → σ ⊨ K → σ ⊨ emp 𝓤 ∗ K
  none K σ s = sat_weaken 𝓤 H 𝓜 σ (emp∗ 𝓤 K) s

  value : (R : RattleType) → Makes 𝓛 R (Is R) → (x : R.Denot) (vs : List Val) → Is R x vs → (Q K : Pr) (σ : Memory)
      → σ ⊨ Q ∗ K
      → σ ⊨ (⟦ R.own_val x vs ⟧ ∗ Q) ∗ K
  value R make x vs is Q K σ s = sat_weaken 𝓤 H 𝓜 σ (assoc' 𝓤 ⟦ R.own_val x vs ⟧ Q K) (known 𝓛 𝓜 ⟦ R.own_val x vs ⟧ (make x vs is) σ (Q ∗ K) s)

  module _ (R : RattleType) (one : Single R.mir) (laws : Lawful 𝓛 R × Makes 𝓛 R (Is R)) {ys : List R.Denot} (l : Lies R ys)
      (ℓ : Lifetime) (κ : Lft) (Q K : Pr) (σ : Memory) (s : σ ⊨ Q ∗ K) where
    writable : ∥ ((σ' : Memory) × (r : MutBor (List R.Denot)) × (r.now ≡ ys) × σ' ⊨ (⟦ (MutSlice ℓ κ R).own_val r (mut_slice_vals r) ⟧ ∗ Q) ∗ K) ∥₁
    writable =
        ∥∥₁_map (lent_mut 𝓛 𝓜 R one laws.0 laws.1 ys l ℓ κ σ (Q ∗ K) s)
        (λ x. (x.0, x.1, x.2, sat_weaken 𝓤 H 𝓜 x.0 (assoc' 𝓤 ⟦ (MutSlice ℓ κ R).own_val x.1 (mut_slice_vals x.1) ⟧ Q K) x.3))

  -- ---- the token of one lifetime, taken out of all and put back
  swap : (P Q K : Pr) → ent 𝓤 (P ∗ (Q ∗ K)) (Q ∗ (P ∗ K))
  swap P Q K = via 𝓤 ((P ∗ Q) ∗ K) (assoc' 𝓤 P Q K) (via 𝓤 ((Q ∗ P) ∗ K) (mono_l 𝓤 K (comm∗ 𝓤 P Q)) (assoc∗ 𝓤 Q P K))

  abbrev token : Lft → Pr
  token κ = 𝓛.A.lft κ full_share

  abbrev others : (n j : ℕ) → Within n j → Lfts n → Pr
  others zero j ok κs = absurd ok
  others (suc n) zero ok κs = Toks n κs.1
  others (suc n) (suc j) ok κs = token κs.0 ∗ others n j ok κs.1

  taken_out : (n j : ℕ) (ok : Within n j) (κs : Lfts n) → ent 𝓤 (Toks n κs) (token (lft_at n j ok κs) ∗ others n j ok κs)
  taken_out zero j ok κs = absurd ok
  taken_out (suc n) zero ok κs = id⊢ 𝓤 (Toks (suc n) κs)
  taken_out (suc n) (suc j) ok κs =
      via 𝓤 (token κs.0 ∗ (token (lft_at n j ok κs.1) ∗ others n j ok κs.1)) (mono_r 𝓤 (token κs.0) (taken_out n j ok κs.1))
      (swap (token κs.0) (token (lft_at n j ok κs.1)) (others n j ok κs.1))

  put_back : (n j : ℕ) (ok : Within n j) (κs : Lfts n) → ent 𝓤 (token (lft_at n j ok κs) ∗ others n j ok κs) (Toks n κs)
  put_back zero j ok κs = absurd ok
  put_back (suc n) zero ok κs = id⊢ 𝓤 (Toks (suc n) κs)
  put_back (suc n) (suc j) ok κs =
      via 𝓤 (token κs.0 ∗ (token (lft_at n j ok κs.1) ∗ others n j ok κs.1))
      (swap (token (lft_at n j ok κs.1)) (token κs.0) (others n j ok κs.1))
      (mono_r 𝓤 (token κs.0) (put_back n j ok κs.1))

  -- a slice that is read, at one of the call's lifetimes, whose token it takes to be lent
  module _ (R : RattleType) (one : Single R.mir) (laws : Lawful 𝓛 R × Makes 𝓛 R (Is R)) (copied : Copied 𝓛 R) {ys : List R.Denot} (l : Lies R ys)
      (ℓ : Lifetime) (n j : ℕ) (ok : Within n j) (κs : Lfts n) (Q : Pr) (σ : Memory) (s : σ ⊨ Q ∗ Toks n κs) where
    readable :
        ∥ ((σ' : Memory)
        × (r : Bor (List R.Denot))
        × (r.now ≡ ys)
        × σ' ⊨ (⟦ (ShrSlice ℓ (lft_at n j ok κs) R).own_val r (shr_slice_vals r) ⟧ ∗ Q) ∗ Toks n κs) ∥₁
    readable =
        let κ = lft_at n j ok κs in
        let T : Pr = token κ in
        let O : Pr = others n j ok κs in
        let before : σ ⊨ T ∗ (Q ∗ O) =
        sat_weaken 𝓤 H 𝓜 σ (via 𝓤 (Q ∗ (T ∗ O)) (mono_r 𝓤 Q (taken_out n j ok κs)) (swap Q T O)) s in
        ∥∥₁_map (lent_shr 𝓛 𝓜 R one laws.0 laws.1 ys l copied ℓ κ σ (Q ∗ O) before)
        (λ x.
        let own : Pr = ⟦ (ShrSlice ℓ κ R).own_val x.1 (shr_slice_vals x.1) ⟧ in (
          x.0,
          x.1,
          x.2,
          sat_weaken 𝓤 H 𝓜 x.0
              (via 𝓤 (own ∗ (Q ∗ Toks n κs))
              (mono_r 𝓤 own (via 𝓤 (Q ∗ (T ∗ O)) (swap T Q O) (mono_r 𝓤 Q (put_back n j ok κs))))
              (assoc' 𝓤 own Q (Toks n κs)))
              x.3,
        ))

  -- all of them: what a call asks that asks nothing else, beside nothing
  entry : (Q K : Pr) (σ : Memory) → σ ⊨ Q ∗ K → σ ⊨ ((K ∗ Q) ∗ emp 𝓤) ∗ emp 𝓤
  entry Q K σ s =
      sat_weaken 𝓤 H 𝓜 σ
      (via 𝓤 (K ∗ Q) (comm∗ 𝓤 Q K)
      (via 𝓤 ((K ∗ Q) ∗ emp 𝓤) (via 𝓤 (emp 𝓤 ∗ (K ∗ Q)) (emp∗ 𝓤 (K ∗ Q)) (comm∗ 𝓤 (emp 𝓤) (K ∗ Q)))
      (via 𝓤 (emp 𝓤 ∗ ((K ∗ Q) ∗ emp 𝓤)) (emp∗ 𝓤 ((K ∗ Q) ∗ emp 𝓤)) (comm∗ 𝓤 (emp 𝓤) ((K ∗ Q) ∗ emp 𝓤)))))
      s

  -- the types' laws
  abbrev uint : Lawful 𝓛 u64 × Makes 𝓛 u64 (Is u64)
  uint = (uint_Lawful 𝓛 w64, uint_Makes 𝓛 w64)

  abbrev sint : Lawful 𝓛 i64 × Makes 𝓛 i64 (Is i64)
  sint = (sint_Lawful 𝓛 w64, sint_Makes 𝓛 w64)

  abbrev agent : Lawful 𝓛 A.the_row × Makes 𝓛 A.the_row (Is A.the_row)
  agent = (LL.lawful A.the_type A'.the_laws 𝓛, LL.makes A.the_type A'.the_plain 𝓛)

  abbrev user : Lawful 𝓛 U.the_row × Makes 𝓛 U.the_row (Is U.the_row)
  user = (LL.lawful U.the_type U'.the_laws 𝓛, LL.makes U.the_type U'.the_plain 𝓛)

  abbrev point : Lawful 𝓛 P.the_row × Makes 𝓛 P.the_row (Is P.the_row)
  point = (LL.lawful P.the_type P'.the_laws 𝓛, LL.makes P.the_type P'.the_plain 𝓛)

  -- ---- open
  -- a memory from which it can be called so, and the call's lifetimes, references and machine values
  pub record OpenFrom (users agents : ℕ) (held : List ℤ) : Type 1 where
    pub bound : Bound 𝓛 open'.signature
    pub memory : Memory
    pub users_same : bound.3.0 ≡ users
    pub agents_same : bound.3.1.0 ≡ agents
    pub held_same : bound.3.1.1.0.now ≡ held
    pub ready : OpenReady 𝓛 𝓜 𝓡 bound memory (emp 𝓤)

  pub open_ready : (users agents : ℕ) (held : List ℤ) → Fits w64 users → Fits w64 agents → Slice i64 Word held → ∥ OpenFrom users agents held ∥₁
  open_ready users agents held hu ha l =
      ∥∥₁_elim (begins 1) ∥∥₁_prop (λ k.
      let κs = k.0 in
      let K : Pr = Toks 1 κs in
      ∥∥₁_map (writable i64 tt sint (words held l) (named 0) κs.0 (emp 𝓤) K (start_mem [] []) (none K (start_mem [] []) k.1))
      (λ x.
      let Q₃ : Pr = ⟦ (MutSlice (named 0) κs.0 i64).own_val x.1 (mut_slice_vals x.1) ⟧ ∗ emp 𝓤 in
      let Q₂ : Pr = ⟦ u64.own_val agents (vint w64 agents ∷ []) ⟧ ∗ Q₃ in
      let Q₁ : Pr = ⟦ u64.own_val users (vint w64 users ∷ []) ⟧ ∗ Q₂ in
      let s₂ : x.0 ⊨ Q₂ ∗ K = value u64 uint.1 agents (vint w64 agents ∷ []) (refl, ha.fits) Q₃ K x.0 x.3 in
      let s₁ : x.0 ⊨ Q₁ ∗ K = value u64 uint.1 users (vint w64 users ∷ []) (refl, hu.fits) Q₂ K x.0 s₂ in
      record {
        bound = (κs, wholes 1, tt, (users, (agents, (x.1, tt))), (vint w64 users ∷ [], (vint w64 agents ∷ [], (mut_slice_vals x.1, tt))));
        memory = x.0;
        users_same = refl;
        agents_same = refl;
        held_same = x.2;
        ready = entry Q₁ K x.0 s₁;
      }))

  -- ---- a struct is owned where its fields are
  struct_owned :
      (S : Shape) (d : Denots S.fields) (vss : Valss S.fields)
      → ent 𝓤 ⟦ owns S.fields d vss ⟧ ⟦ (Struct S).own_val d (vstruct (of_list (flat S.fields vss)) ∷ []) ⟧
  struct_owned S d vss =
      let P : Pr = ⟦ owns S.fields d vss ⟧ in
      let vs : List Val = vstruct (of_list (flat S.fields vss)) ∷ [] in
      via 𝓤 (emp 𝓤 ∗ P) (emp∗ 𝓤 P)
      (via 𝓤 (guard 𝓤 (vs ≡ vs) (emp 𝓤) ∗ P) (mono_l 𝓤 P (guard_i 𝓤 (vs ≡ vs) (emp 𝓤) refl))
      (ex_i 𝓤 (λ (w : Valss S.fields). ⟦ within S d vs w ⟧) vss))

  -- owned one after the other, in front of what else is: the last field, and one before others
  field_last : (P Q : Pr) → ent 𝓤 (P ∗ Q) ((P ∗ emp 𝓤) ∗ Q)
  field_last P Q = mono_l 𝓤 Q (via 𝓤 (emp 𝓤 ∗ P) (emp∗ 𝓤 P) (comm∗ 𝓤 (emp 𝓤) P))

  field_first : (P E R Q : Pr) → ent 𝓤 E (R ∗ Q) → ent 𝓤 (P ∗ E) ((P ∗ R) ∗ Q)
  field_first P E R Q h = via 𝓤 (P ∗ (R ∗ Q)) (mono_r 𝓤 P h) (assoc' 𝓤 P R Q)

  -- a month's lines: the month line, and the references to those of agents, users and points
  module _ (a : NamedLft) (m : MonthLines) where
    abbrev month_parts : Valss (shape (ML.the_type a)).fields
    month_parts =
        (LL.vals L.the_type L'.the_laws m.line, (shr_slice_vals m.agents, (shr_slice_vals m.users, (shr_slice_vals m.points, tt))))

    abbrev month_vals : List Val
    month_vals = vstruct (of_list (flat (shape (ML.the_type a)).fields month_parts)) ∷ []

    month_owned :
        (Q : Pr)
        → ent 𝓤
        (⟦ (L.the_row).own_val m.line (LL.vals L.the_type L'.the_laws m.line) ⟧
        ∗ (⟦ (ShrSlice a.mir a.lft A.the_row).own_val m.agents (shr_slice_vals m.agents) ⟧
        ∗ (⟦ (ShrSlice a.mir a.lft U.the_row).own_val m.users (shr_slice_vals m.users) ⟧
        ∗ (⟦ (ShrSlice a.mir a.lft P.the_row).own_val m.points (shr_slice_vals m.points) ⟧ ∗ Q))))
        (⟦ (ML.the_row a).own_val m month_vals ⟧ ∗ Q)
    month_owned Q =
        let l : Pr = ⟦ (L.the_row).own_val m.line (LL.vals L.the_type L'.the_laws m.line) ⟧ in
        let ag : Pr = ⟦ (ShrSlice a.mir a.lft A.the_row).own_val m.agents (shr_slice_vals m.agents) ⟧ in
        let us : Pr = ⟦ (ShrSlice a.mir a.lft U.the_row).own_val m.users (shr_slice_vals m.users) ⟧ in
        let ps : Pr = ⟦ (ShrSlice a.mir a.lft P.the_row).own_val m.points (shr_slice_vals m.points) ⟧ in
        via 𝓤 ((l ∗ (ag ∗ (us ∗ (ps ∗ emp 𝓤)))) ∗ Q)
        (field_first l (ag ∗ (us ∗ (ps ∗ Q))) (ag ∗ (us ∗ (ps ∗ emp 𝓤))) Q
        (field_first ag (us ∗ (ps ∗ Q)) (us ∗ (ps ∗ emp 𝓤)) Q (field_first us (ps ∗ Q) (ps ∗ emp 𝓤) Q (field_last ps Q))))
        (mono_l 𝓤 Q (struct_owned (shape (ML.the_type a)) ((ML.the_type a).to m) month_parts))

  -- ---- close
  pub record CloseFrom (c : Closing) : Type 1 where
    pub bound : Bound 𝓛 close.signature
    pub memory : Memory
    pub same : handed bound.0 bound.3 ≡ c
    pub ready : CloseReady 𝓛 𝓜 𝓡 bound memory (emp 𝓤)

  pub close_ready : (c : Closing) → ClosingFits c → ∥ CloseFrom c ∥₁
  close_ready c f =
      ∥∥₁_elim (begins 4) ∥∥₁_prop (λ k.
      let κs = k.0 in
      let κ : (j : ℕ) → Within 4 j → Lft = λ j ok. lft_at 4 j ok κs in
      let K : Pr = Toks 4 κs in
      let s₉ : start_mem [] [] ⊨ emp 𝓤 ∗ K = none K (start_mem [] []) k.1 in
      ∥∥₁_elim (writable u64 tt uint (counts c.work f.work) (named 3) (κ 3 tt) (emp 𝓤) K (start_mem [] []) s₉) ∥∥₁_prop (λ x₈.
      let Q₈ : Pr = ⟦ (MutSlice (named 3) (κ 3 tt) u64).own_val x₈.1 (mut_slice_vals x₈.1) ⟧ ∗ emp 𝓤 in
      ∥∥₁_elim (writable i64 tt sint (words c.cells f.cells) (named 2) (κ 2 tt) Q₈ K x₈.0 x₈.3) ∥∥₁_prop (λ x₇.
      let Q₇ : Pr = ⟦ (MutSlice (named 2) (κ 2 tt) i64).own_val x₇.1 (mut_slice_vals x₇.1) ⟧ ∗ Q₈ in
      ∥∥₁_elim (readable P.the_row tt point (LL.copied P.the_type P'.the_copy 𝓛) (points c.points f.points) (named 1) 4 1 tt κs Q₇ x₇.0 x₇.3) ∥∥₁_prop (λ x₆.
      let Q₆ : Pr = ⟦ (ShrSlice (named 1) (κ 1 tt) P.the_row).own_val x₆.1 (shr_slice_vals x₆.1) ⟧ ∗ Q₇ in
      ∥∥₁_elim (readable U.the_row tt user (LL.copied U.the_type U'.the_copy 𝓛) (users c.users f.users) (named 1) 4 1 tt κs Q₆ x₆.0 x₆.3) ∥∥₁_prop (λ x₅.
      let Q₅ : Pr = ⟦ (ShrSlice (named 1) (κ 1 tt) U.the_row).own_val x₅.1 (shr_slice_vals x₅.1) ⟧ ∗ Q₆ in
      ∥∥₁_elim (readable A.the_row tt agent (LL.copied A.the_type A'.the_copy 𝓛) (agents c.agents f.agents) (named 1) 4 1 tt κs Q₅ x₅.0 x₅.3) ∥∥₁_prop (λ x₄.
      let Q₄ : Pr = ⟦ (ShrSlice (named 1) (κ 1 tt) A.the_row).own_val x₄.1 (shr_slice_vals x₄.1) ⟧ ∗ Q₅ in
      let line = LL.vals L.the_type L'.the_laws c.line in
      let s₃ : x₄.0 ⊨ (⟦ (L.the_row).own_val c.line line ⟧ ∗ Q₄) ∗ K =
      value L.the_row (LL.makes L.the_type L'.the_plain 𝓛) c.line line (month_line_is c.line f.line) Q₄ K x₄.0 x₄.3 in
      let a : NamedLft = record { mir = named 1; lft = κ 1 tt } in
      let m : MonthLines = record { line = c.line; agents = x₄.1; users = x₅.1; points = x₆.1 } in
      let Q₃ : Pr = ⟦ (ML.the_row a).own_val m (month_vals a m) ⟧ ∗ Q₇ in
      let s₂ : x₄.0 ⊨ Q₃ ∗ K = sat_weaken 𝓤 H 𝓜 x₄.0 (mono_l 𝓤 K (month_owned a m Q₇)) s₃ in
      ∥∥₁_map (writable i64 tt sint (words c.held f.held) (named 0) (κ 0 tt) Q₃ K x₄.0 s₂) (λ x₂.
      let Q₂ : Pr = ⟦ (MutSlice (named 0) (κ 0 tt) i64).own_val x₂.1 (mut_slice_vals x₂.1) ⟧ ∗ Q₃ in
      let ledger = LL.vals G.the_type G'.the_laws c.ledger in
      let Q₁ : Pr = ⟦ (G.the_row).own_val c.ledger ledger ⟧ ∗ Q₂ in
      let s₁ : x₂.0 ⊨ Q₁ ∗ K =
      value G.the_row (LL.makes G.the_type G'.the_plain 𝓛) c.ledger ledger (ledger_is c.ledger f.ledger) Q₂ K x₂.0 x₂.3 in
      record {
        bound = (
          κs,
          wholes 4,
          tt,
          (c.ledger, (x₂.1, (m, (x₇.1, (x₈.1, tt))))),
          (ledger, (mut_slice_vals x₂.1, (month_vals a m, (mut_slice_vals x₇.1, (mut_slice_vals x₈.1, tt))))),
        );
        memory = x₂.0;
        same = λ i.
            record {
              ledger = c.ledger;
              held = x₂.2 i;
              line = c.line;
              agents = x₄.2 i;
              users = x₅.2 i;
              points = x₆.2 i;
              cells = x₇.2 i;
              work = x₈.2 i;
            };
        ready = entry Q₁ K x₂.0 s₁;
      })))))))
