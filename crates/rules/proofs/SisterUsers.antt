-- SISTER USERS (paper 02, Q-13): what compensates two neighbouring users once they are listed as one, and a user without EUST.
use Prim.Native.Nat.{ℕ, zero, suc, ◌+◌, ◌<◌}
use native.Mathlib.Omega.{arith}
use mathlib.Core.Path.{◌≡◌, refl, ap, ap₂, ◌∙◌, subst}
use mathlib.Core.Bool.{Bool, true, false, cond}
use mathlib.Core.List.{List, [], ◌∷◌, map}
use lib.IntN.{ℤ, pos, ◌+ℤ◌, ◌-ℤ◌, +ℤ_idl, +ℤ_idr}
use lib.ListN.{length, get_or, replicate, get_or-replicate}
use lib.Signed.{lt_z}
use Rattle.ints.specs.Bridge.{za, sub#}
use Rattle.ints.specs.Range.{eq_z, eq_z_same, eq_z_not}
use Rattle.ints.specs.Ring.{add_swap}
use Rattle.share.specs.Running.{running_share}
use Rattle.share.specs.Joined.{joined, left_out}
use Rattle.share.proofs.Joined.{share_joined, share_left_out}
use Rattle.rules.specs.declared.Point.{Point}
use Rattle.rules.specs.Lists.{each_from}
use Rattle.rules.specs.declared.User.{User}
use Rattle.rules.specs.Lines.{Lines}
use Rattle.rules.specs.Charges.{use_charge, of_user, EUST, EUSTs, pv_total, CPVsFrom, CPVs}
use Rattle.rules.specs.Sisters.{moved_up, under_one, UsersAsOne, UsersGet}
use Rattle.rules.proofs.Sizes.{length_EUSTs}

-- ---- CPV: a user without EUST gets none; with it left out, or with two neighbours on one line, EUST added, every other user gets the
-- same, and the one line what the two got, the sum of all pv being the same
none_joined : (k : ℕ) (es : List ℤ) → suc k < length es → replicate (length (joined k es)) (pos 0) ≡ joined k (replicate (length es) (pos 0))
unfolding joined
none_joined k [] h = absurd (omega arith)
none_joined zero (e ∷ []) h = absurd (omega arith)
none_joined zero (d ∷ e ∷ es) h = refl
none_joined (suc k) (e ∷ es) h = ap (λ (l : List ℤ). pos 0 ∷ l) (none_joined k es (omega arith))

none_left_out : (k : ℕ) (es : List ℤ) → k < length es → replicate (length (left_out k es)) (pos 0) ≡ left_out k (replicate (length es) (pos 0))
unfolding left_out
none_left_out k [] h = absurd (omega arith)
none_left_out zero (e ∷ es) h = refl
none_left_out (suc k) (e ∷ es) h = ap (λ (l : List ℤ). pos 0 ∷ l) (none_left_out k es (omega arith))

compensation_joined : (pv : ℤ) (k : ℕ) (es : List ℤ) → suc k < length es → CPVsFrom pv (joined k es) ≡ joined k (CPVsFrom pv es)
compensation_joined pv k es h = go (lt_z (pos 0) pv)
  where
    go : (t : Bool) → cond t (running_share pv (joined k es)) (replicate (length (joined k es)) (pos 0))
        ≡ joined k (cond t (running_share pv es) (replicate (length es) (pos 0)))
    go true = share_joined pv k es h
    go false = none_joined k es h

compensation_left_out :
    (pv : ℤ) (k : ℕ) (es : List ℤ)
    → k < length es
    → get_or es k (pos 0) ≡ pos 0
    → (get_or (CPVsFrom pv es) k (pos 0) ≡ pos 0) × (CPVsFrom pv (left_out k es) ≡ left_out k (CPVsFrom pv es))
compensation_left_out pv k es h z = go (lt_z (pos 0) pv)
  where
    go : (t : Bool)
        → (get_or (cond t (running_share pv es) (replicate (length es) (pos 0))) k (pos 0) ≡ pos 0)
        × (cond t (running_share pv (left_out k es)) (replicate (length (left_out k es)) (pos 0))
        ≡ left_out k (cond t (running_share pv es) (replicate (length es) (pos 0))))
    go true = share_left_out pv k es h z
    go false = (get_or-replicate (length es) k (pos 0) (pos 0) h, none_left_out k es h)

module _ (l : Lines) (k : ℕ) where
  pub CPV_nothing : k < length l.users → get_or (EUSTs l) k (pos 0) ≡ pos 0 → get_or (CPVs l) k (pos 0) ≡ pos 0
  unfolding CPVs
  CPV_nothing h z = (compensation_left_out (pv_total l) k (EUSTs l) (omega (arith, length_EUSTs l)) z).0

  module _ (m : Lines) (p : pv_total m ≡ pv_total l) where
    pub CPV_left_out : k < length l.users → get_or (EUSTs l) k (pos 0) ≡ pos 0 → EUSTs m ≡ left_out k (EUSTs l) → CPVs m ≡ left_out k (CPVs l)
    unfolding CPVs
    CPV_left_out h z e = rw (p, e) (compensation_left_out (pv_total l) k (EUSTs l) (omega (arith, length_EUSTs l)) z).1

    pub CPV_joined : suc k < length l.users → EUSTs m ≡ joined k (EUSTs l) → CPVs m ≡ joined k (CPVs l)
    unfolding CPVs
    CPV_joined h e = rw (p, e) (compensation_joined (pv_total l) k (EUSTs l) (omega (arith, length_EUSTs l)))

-- ---- whose point it is, by its number before and after
one_less : (n : ℤ) (j : ℕ) → eq_z (n -ℤ pos 1) (pos j) ≡ eq_z n (pos (suc j))
one_less n j = eq_z_same (n -ℤ pos 1) (pos j) n (pos (suc j)) (λ a. omega (za, sub# n (pos 1)), λ a. omega (za, sub# n (pos 1)))

module _ (k : ℕ) (n : ℤ) where
  at_first : (j : ℕ) → j < suc k → eq_z (moved_up k n) (pos j) ≡ eq_z n (pos j)
  at_first j h = go (lt_z (pos (suc k)) n) refl
    where
      go : (t : Bool) → lt_z (pos (suc k)) n ≡ t → eq_z (cond t (n -ℤ pos 1) n) (pos j) ≡ eq_z n (pos j)
      go true e = one_less n j ∙ eq_z_same n (pos (suc j)) n (pos j) (λ a. omega za, λ a. omega za)
      go false e = refl

  at_last : (j : ℕ) → suc k < j → eq_z (moved_up k n) (pos j) ≡ eq_z n (pos (suc j))
  at_last j h = go (lt_z (pos (suc k)) n) refl
    where
      go : (t : Bool) → lt_z (pos (suc k)) n ≡ t → eq_z (cond t (n -ℤ pos 1) n) (pos j) ≡ eq_z n (pos (suc j))
      go true e = one_less n j
      go false e = eq_z_same n (pos j) n (pos (suc j)) (λ a. omega za, λ a. omega za)

  at_pair : (x : ℤ)
      → cond (eq_z (moved_up k n) (pos (suc k))) x (pos 0) ≡ cond (eq_z n (pos (suc k))) x (pos 0) +ℤ cond (eq_z n (pos (suc (suc k)))) x (pos 0)
  at_pair x = go (lt_z (pos (suc k)) n) refl
    where
      go : (t : Bool)
          → lt_z (pos (suc k)) n ≡ t
          → cond (eq_z (cond t (n -ℤ pos 1) n) (pos (suc k))) x (pos 0)
          ≡ cond (eq_z n (pos (suc k))) x (pos 0) +ℤ cond (eq_z n (pos (suc (suc k)))) x (pos 0)
      go true e = rw (eq_z_not n (pos (suc k)) (λ a. omega za), one_less n (suc k), +ℤ_idl)
      go false e = rw (eq_z_not n (pos (suc (suc k))) (λ a. omega za), +ℤ_idr)

-- ---- EUST, user by user
use_under : (k : ℕ) (p : Point) → use_charge (under_one k p) ≡ use_charge p
unfolding use_charge
use_under k p = refl

module _ (k : ℕ) where
  EUST_first : (ps : List Point) (j : ℕ) → j < suc k → EUST (map (under_one k) ps) j ≡ EUST ps j
  unfolding of_user
  EUST_first [] j h = refl
  EUST_first (p ∷ ps) j h = rw (use_under k p, at_first k p.user j h, EUST_first ps j h)

  EUST_last : (ps : List Point) (j : ℕ) → suc k < j → EUST (map (under_one k) ps) j ≡ EUST ps (suc j)
  unfolding of_user
  EUST_last [] j h = refl
  EUST_last (p ∷ ps) j h = rw (use_under k p, at_last k p.user j h, EUST_last ps j h)

  EUST_pair : (ps : List Point) → EUST (map (under_one k) ps) (suc k) ≡ EUST ps (suc k) +ℤ EUST ps (suc (suc k))
  unfolding of_user
  EUST_pair [] = refl
  EUST_pair (p ∷ ps) =
      rw (use_under k p, at_pair k p.user (use_charge p), EUST_pair ps)
      (add_swap (cond (eq_z p.user (pos (suc k))) (use_charge p) (pos 0)) (cond (eq_z p.user (pos (suc (suc k)))) (use_charge p) (pos 0))
      (EUST ps (suc k)) (EUST ps (suc (suc k))))

-- ---- and in the users' order, from number a on: F is one user's amount once users e and e + 1 are one, G before
module _ (F G : ℕ → ℤ) where
  moved_up_lem : (a : ℕ) (us vs : List User) → length us ≡ length vs → ((j : ℕ) → a < suc j → F j ≡ G (suc j))
      → each_from a (λ j u. F j) vs ≡ each_from (suc a) (λ j u. G j) us
  unfolding each_from
  moved_up_lem a [] [] n f = refl
  moved_up_lem a [] (v ∷ vs) n f = absurd (omega arith)
  moved_up_lem a (u ∷ us) [] n f = absurd (omega arith)
  moved_up_lem a (u ∷ us) (v ∷ vs) n f = ap₂ ◌∷◌ (f a (omega arith)) (moved_up_lem (suc a) us vs (omega arith) (λ j h. f j (omega arith)))

  module _ (e : ℕ) (first : (j : ℕ) → j < e → F j ≡ G j) (pair : F e ≡ G e +ℤ G (suc e)) (last : (j : ℕ) → e < j → F j ≡ G (suc j)) where
    in_order_lem : (a k : ℕ) (us vs : List User) → e ≡ a + k → length us ≡ suc (length vs) → suc k < length us
        → each_from a (λ j u. F j) vs ≡ joined k (each_from a (λ j u. G j) us)
    unfolding each_from joined
    in_order_lem a k [] vs q n h = absurd (omega arith)
    in_order_lem a k (u ∷ us) [] q n h = absurd (omega arith)
    in_order_lem a zero (u ∷ []) (v ∷ vs) q n h = absurd (omega arith)
    in_order_lem a zero (u ∷ w ∷ us) (v ∷ vs) q n h =
        let f : e ≡ a = omega arith in
        ap₂ ◌∷◌ (subst (λ (j : ℕ). F j ≡ G j +ℤ G (suc j)) f pair) (moved_up_lem (suc a) us vs (omega arith) (λ j o. last j (omega arith)))
    in_order_lem a (suc k) (u ∷ us) (v ∷ vs) q n h =
        ap₂ ◌∷◌ (first a (omega arith)) (in_order_lem (suc a) k us vs (omega arith) (omega arith) (omega arith))

-- ---- THE MONTH with users k and k + 1 listed as one
module _ (k : ℕ) (l m : Lines) (h : UsersAsOne k l m) where
  EUST_as_one : EUSTs m ≡ joined k (EUSTs l)
  unfolding EUSTs
  EUST_as_one =
      rw h.points
      (in_order_lem (EUST (map (under_one k) l.points)) (EUST l.points) (suc k) (EUST_first k l.points) (EUST_pair k l.points) (EUST_last k l.points)
      1 k l.users m.users (omega arith) h.users h.pair)

  pub users_as_one : UsersGet k l m
  users_as_one = record { charges = EUST_as_one; compensation = CPV_joined l k m h.pv h.pair EUST_as_one }
