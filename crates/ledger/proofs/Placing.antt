-- A memory from which a call can be made: what the parameters' types own can be had, at every model. From the start of a run, a block is
-- allocated and filled for each slice, a lifetime is begun for each, and each slice is lent. `Ready` puts them together for `open` and
-- `close`. Assumes nothing.
use Prim.Native.Nat.{ℕ, ◌+◌}
use mathlib.Core.Path.{◌≡◌, refl}
use mathlib.Core.Logic.{∥∥₁_prop, ∥∥₁_elim, ∥∥₁_map}
use mathlib.Core.List.{List, [], ◌∷◌}
use mathlib.Core.Option.{some}
use lib.Dec.{T}
use lib.ListN.{length}
use seplogic.Ra.Ura.{Ura}
use base.Fraction.{full_share}
use seplogic.Bi.Sat
use seplogic.Bi.Sat.{Sat}
use mir.Syntax.{Ty, ty_array, Lifetime}
use mir.Val.{Val, WT, has_ty}
use mir.Raw.{raw}
use base.Logic.{Sat_exists, SProp, ent, sep, ex, guard, emp, upd, id⊢, via, comm∗, assoc∗, assoc', mono_l, mono_r, emp∗, fst∗, snd∗, ex_i, ex∗}
use base.Logic.{upd_mono, upd_frame}
use base.Fml.{Lft, GName, Fml, Incl-refl, feq}
use denote.Copied.{Copied}
use prog.Memory.{Memory, alloc_m, store_m}
use prog.Model.{Model}
use prog.AdequacyRun.{start_mem}
use types.Logic.{Logic, sem}
use contract.Adequate.{Satisfies, sat_weaken, sat_upd, sat_⇛, sat_ex∗, start_Satisfies}
use types.SemTy.{cells}
use types.Share.{parts, arr_parts}
use denote.RattleType.{RattleType}
use denote.Shadow.{shadow}
use denote.Laws.{Is, Makes, Lawful}
use denote.Memory.{lone, cell_raw, part_of, part_at, mem, shares}
use denote.Array.{each, array_val, Array, Array-Lawful, Array-Makes}
use denote.ArrayMemory.{Single, Array-apart}
use denote.Ref.{Bor, MutBor}
use denote.Slice.{Room, MutSlice, ShrSlice, shr_slice_vals, mut_slice_vals}
use denote.Lend.{Held, lends_slice, lends_shr_slice}

-- the elements of a slice have machine values, and there is room for so many
pub record Lies (R : RattleType) (ys : List R.Denot) : Type 0 where
  pub values : List Val
  pub are : shadow (each R.Denot R.own_val ys values)
  pub room : Room R (length ys)

module _ {M : Type 1} {𝓤 : Ura M} (𝓛 : Logic 𝓤) (𝓜 : Model 𝓤 𝓛.H) where
  open 𝓛 use {H}

  abbrev Pr : Type 2
  Pr = SProp 𝓤

  abbrev ◌∗◌ : Pr → Pr → Pr
  P ∗ Q = sep 𝓤 P Q

  abbrev ◌⊢◌ : Pr → Pr → Type 1
  P ⊢ Q = ent 𝓤 P Q

  abbrev ⟦◌⟧ : Fml → Pr
  ⟦ P ⟧ = sem 𝓛 P

  abbrev ◌⊨◌ : Memory → Pr → Type 1
  σ ⊨ P = Satisfies 𝓤 H 𝓜 σ P

  infix 26 ◌⊢◌
  infix 26 ◌⊨◌
  infixr 35 ◌∗◌
  -- the memory at the start of a run, with no input and no output region
  pub started : start_mem [] [] ⊨ emp 𝓤
  started = sat_weaken 𝓤 H 𝓜 (start_mem [] []) (fst∗ 𝓤 (emp 𝓤) (emp 𝓤)) (start_Satisfies 𝓤 H 𝓜 [] [] tt tt)

  -- ---- a value is put into a new block
  allocated : (τ : Ty) (σ : Memory) (F : Pr) → σ ⊨ F → alloc_m σ τ ⊨ H.room τ (length σ) 0 ∗ F
  allocated τ σ F s =
      let m : Pr = 𝓜.mem (alloc_m σ τ) in
      let r : Pr = H.room τ (length σ) 0 in
      let d : Pr = H.dies τ (length σ) in
      sat_upd 𝓤 H 𝓜 σ (alloc_m σ τ) F (r ∗ F)
      (via 𝓤 (upd 𝓤 (m ∗ (r ∗ d)) ∗ F) (mono_l 𝓤 F (𝓜.alloc σ τ))
      (via 𝓤 (upd 𝓤 ((m ∗ (r ∗ d)) ∗ F)) (upd_frame 𝓤 (m ∗ (r ∗ d)) F)
      (upd_mono 𝓤 (via 𝓤 ((m ∗ r) ∗ F) (mono_l 𝓤 F (mono_r 𝓤 m (fst∗ 𝓤 r d))) (assoc∗ 𝓤 m r F)))))
      s

  stored : (τ : Ty) (v : Val) → T (has_ty τ v) → WT v → (σ : Memory) (b : ℕ) (F : Pr)
      → σ ⊨ H.room τ b 0 ∗ F
      → ∥ ((σ' : Memory) × σ' ⊨ H.at full_share τ b 0 v ∗ F) ∥₁
  unfolding Satisfies
  stored τ v t w σ b F s =
      let cell : Pr = H.at full_share τ b 0 v in
      let after : Memory → Pr = λ σ'. 𝓜.mem σ' ∗ cell in
      let Φ : Memory → Pr = λ σ'. guard 𝓤 (store_m σ τ b 0 v ≡ some σ') (upd 𝓤 (after σ')) in
      let Ψ : Memory → Pr = λ σ'. upd 𝓤 (𝓜.mem σ' ∗ (cell ∗ F)) in
      let step : 𝓜.mem σ ∗ (H.room τ b 0 ∗ F) ⊢ ex 𝓤 Ψ =
      via 𝓤 ((𝓜.mem σ ∗ H.room τ b 0) ∗ F) (assoc' 𝓤 (𝓜.mem σ) (H.room τ b 0) F)
      (via 𝓤 (ex 𝓤 Φ ∗ F) (mono_l 𝓤 F (𝓜.room_store σ τ b 0 v t w))
      (ex∗ 𝓤 Φ F (λ σ'. ex∗ 𝓤 (λ (_ : store_m σ τ b 0 v ≡ some σ'). upd 𝓤 (after σ')) F (λ _.
      via 𝓤 (upd 𝓤 (after σ' ∗ F)) (upd_frame 𝓤 (after σ') F)
      (via 𝓤 (Ψ σ') (upd_mono 𝓤 (assoc∗ 𝓤 (𝓜.mem σ') cell F)) (ex_i 𝓤 Ψ σ')))))) in
      ∥∥₁_map (Sat_exists 𝓤 Ψ (Sat.mono 𝓤.op step s)) (λ x. (x.0, Sat.bupd 𝓤 (𝓜.mem x.0 ∗ (cell ∗ F)) x.1))

  placed : (τ : Ty) (v : Val) → T (has_ty τ v) → WT v → (σ : Memory) (F : Pr) → σ ⊨ F → ∥ ((σ' : Memory) × (b : ℕ) × σ' ⊨ H.at full_share τ b 0 v ∗ F) ∥₁
  placed τ v t w σ F s = ∥∥₁_map (stored τ v t w (alloc_m σ τ) (length σ) F (allocated τ σ F s)) (λ x. (x.0, length σ, x.1))

  -- what it is lent as, once the lender's part is let go
  handed :
      (P : Pr) (Q L : GName → Pr)
      → P ⊢ H.⇛ (ex 𝓤 (λ (γ : GName). Q γ ∗ L γ))
      → (σ : Memory) (F : Pr)
      → σ ⊨ P ∗ F
      → ∥ ((γ : GName) × σ ⊨ Q γ ∗ F) ∥₁
  handed P Q L h σ F s =
      let E : GName → Pr = λ γ. Q γ ∗ L γ in
      ∥∥₁_map (sat_ex∗ 𝓤 H 𝓜 σ E F (sat_⇛ 𝓤 H 𝓜 σ (ex 𝓤 E) F (sat_weaken 𝓤 H 𝓜 σ (mono_l 𝓤 F h) s)))
      (λ y. (y.0, sat_weaken 𝓤 H 𝓜 σ (mono_l 𝓤 F (fst∗ 𝓤 (Q y.0) (L y.0))) y.1))

  -- ---- the elements of a slice, side by side in a new block
  module _ (R : RattleType) (one : Single R.mir) (law : Lawful 𝓛 R) (make : Makes 𝓛 R (Is R)) (ys : List R.Denot) (l : Lies R ys) where
    abbrev n : ℕ
    n = length ys

    abbrev v : Val
    v = array_val l.values

    is : Is (Array R n) ys (v ∷ [])
    is = (l.values, ((refl, refl), l.are))

    -- the array's value in memory is the array, and the array its elements
    abbrev τ : Ty
    τ = ty_array (lone R.mir) n

    whole : (b : ℕ) → H.at full_share τ b 0 v ⊢ ⟦ part_at (Array R n) full_share ys b 0 ⟧
    unfolding part_of
    whole b =
        let own : Pr = ⟦ (Array R n).own_val ys (v ∷ []) ⟧ in
        let cell : Pr = H.at full_share (raw τ) b 0 v in
        via 𝓤 cell (𝓜.at_raw full_share τ b 0 v)
        (via 𝓤 (emp 𝓤 ∗ cell) (emp∗ 𝓤 cell)
        (via 𝓤 (own ∗ cell) (mono_l 𝓤 cell (Array-Makes 𝓛 R make n ys (v ∷ []) is))
        (via 𝓤 (cell ∗ own) (comm∗ 𝓤 own cell)
        (ex_i 𝓤 (λ (vs : List Val). ⟦ cell_raw full_share (raw τ ∷ []) vs b 0 ⟧ ∗ ⟦ (Array R n).own_val ys vs ⟧) (v ∷ [])))))

    apart : (b : ℕ) → H.at full_share τ b 0 v ⊢ ⟦ (arr_parts (shares R) n).part full_share ys b 0 ⟧
    apart b = via 𝓤 ⟦ part_at (Array R n) full_share ys b 0 ⟧ (whole b) (Array-apart 𝓛 R full_share one n ys b 0)

    in_cells : (xs : List R.Denot) (b o : ℕ) → ⟦ parts (mem R) (shares R) full_share xs b o ⟧ ⊢ ⟦ cells (mem R) xs b o ⟧
    in_cells [] b o = id⊢ 𝓤 (emp 𝓤)
    in_cells (x ∷ xs) b o = mono_r 𝓤 ⟦ part_at R full_share x b o ⟧ (in_cells xs b (o + (mem R).size))

    typed : T (has_ty τ v) × WT v
    typed = ((Array-Lawful 𝓛 R law n).typed ys (v ∷ []) is).0

    -- lent for κ, to be written or to be read, in front of what else is owned
    pub lent_mut :
        (ℓ : Lifetime) (κ : Lft) (σ : Memory) (F : Pr)
        → σ ⊨ F
        → ∥ ((σ' : Memory) × (r : MutBor (List R.Denot)) × (r.now ≡ ys) × σ' ⊨ ⟦ (MutSlice ℓ κ R).own_val r (mut_slice_vals r) ⟧ ∗ F) ∥₁
    lent_mut ℓ κ σ F s =
        ∥∥₁_elim (placed τ v typed.0 typed.1 σ F s) ∥∥₁_prop (λ x.
        let b = x.1 in
        let r : GName → MutBor (List R.Denot) = λ γ. record { ref_ptr = (b, 0); ghost_name = γ; now = ys } in
        ∥∥₁_map
        (handed (H.at full_share τ b 0 v) (λ γ. ⟦ (MutSlice ℓ κ R).own_val (r γ) (mut_slice_vals (r γ)) ⟧) (λ γ. 𝓛.A.lent κ (Held R n b 0 γ))
        (via 𝓤 ⟦ (arr_parts (shares R) n).part full_share ys b 0 ⟧ (apart b)
        (via 𝓤 ⟦ parts (mem R) (shares R) full_share ys b 0 ⟧ (snd∗ 𝓤 ⟦ feq ℕ n n ⟧ ⟦ parts (mem R) (shares R) full_share ys b 0 ⟧)
        (via 𝓤 ⟦ cells (mem R) ys b 0 ⟧ (in_cells ys b 0) (lends_slice 𝓛 R ℓ κ ys b 0 l.room))))
        x.0
        F
        x.2)
        (λ y. (x.0, r y.0, refl, y.1)))

    -- to be read, for a lifetime whose token is owned: the token comes back
    pub lent_shr :
        Copied 𝓛 R
        → (ℓ : Lifetime) (κ : Lft) (σ : Memory) (F : Pr)
        → σ ⊨ 𝓛.A.lft κ full_share ∗ F
        → ∥ ((σ' : Memory)
        × (r : Bor (List R.Denot))
        × (r.now ≡ ys)
        × σ' ⊨ ⟦ (ShrSlice ℓ κ R).own_val r (shr_slice_vals r) ⟧ ∗ (𝓛.A.lft κ full_share ∗ F)) ∥₁
    lent_shr copied ℓ κ σ F s =
        let T : Pr = 𝓛.A.lft κ full_share in
        ∥∥₁_map (placed τ v typed.0 typed.1 σ (T ∗ F) s)
        (λ x.
        let b = x.1 in
        let r : Bor (List R.Denot) = record { ref_ptr = (b, 0); now = ys } in
        let cell : Pr = H.at full_share τ b 0 v in
        let all : Fml = (arr_parts (shares R) n).part full_share ys b 0 in
        let own : Pr = ⟦ (ShrSlice ℓ κ R).own_val r (shr_slice_vals r) ⟧ in
        let L : Pr = 𝓛.A.lent κ all in
        let lend : ⟦ all ⟧ ∗ T ⊢ H.⇛ ((own ∗ L) ∗ T) =
        lends_shr_slice 𝓛 R ℓ κ full_share ys b 0 l.room κ (copied.shares full_share κ) ((κ, full_share) ∷ []) (Incl-refl κ) (Incl-refl κ) in (
          x.0,
          r,
          refl,
          sat_weaken 𝓤 H 𝓜 x.0
              (via 𝓤 ((own ∗ T) ∗ F) (mono_l 𝓤 F (mono_l 𝓤 T (fst∗ 𝓤 own L))) (assoc∗ 𝓤 own T F))
              (sat_⇛ 𝓤 H 𝓜 x.0 ((own ∗ L) ∗ T) F
              (sat_weaken 𝓤 H 𝓜 x.0
              (via 𝓤 ((cell ∗ T) ∗ F) (assoc' 𝓤 cell T F) (mono_l 𝓤 F (via 𝓤 (⟦ all ⟧ ∗ T) (mono_l 𝓤 T (apart b)) lend)))
              x.2)),
        ))

  -- ---- a lifetime, and what is known without owning anything
  pub begun : (σ : Memory) (F : Pr) → σ ⊨ F → ∥ ((α : ℕ) × σ ⊨ 𝓛.A.lft (α ∷ []) full_share ∗ F) ∥₁
  begun σ F s =
      let L : ℕ → Pr = λ α. 𝓛.A.lft (α ∷ []) full_share in
      sat_ex∗ 𝓤 H 𝓜 σ L F
      (sat_⇛ 𝓤 H 𝓜 σ (ex 𝓤 L) F (sat_weaken 𝓤 H 𝓜 σ (via 𝓤 (emp 𝓤 ∗ F) (emp∗ 𝓤 F) (mono_l 𝓤 F 𝓛.lfts.lft_new)) s))

  pub known : (P : Pr) → emp 𝓤 ⊢ P → (σ : Memory) (F : Pr) → σ ⊨ F → σ ⊨ P ∗ F
  known P h σ F s = sat_weaken 𝓤 H 𝓜 σ (via 𝓤 (emp 𝓤 ∗ F) (emp∗ 𝓤 F) (mono_l 𝓤 F h)) s
