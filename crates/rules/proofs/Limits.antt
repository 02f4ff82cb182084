-- Limits and tests that agree: what keeps a limit is accepted, what breaks it is refused with its number and place, and the other way
-- round. One limit, one before another, and line by line.
use Prim.Native.Nat.{ℕ, zero, suc, ◌+◌, ◌<◌}
use mathlib.Core.Path.{◌≡◌, refl, sym, ap, subst}
use mathlib.Core.Logic.{◌⊎◌, inl, inr, ◌↔◌}
use mathlib.Core.Bool.{Bool, true, false, true≢false}
use mathlib.Core.List.{List, [], ◌∷◌, ◌++◌}
use native.Mathlib.Omega.{arith}
use native.Mathlib.Nat.{not-suc-le-zero, le_of_suc-le-suc}
use lib.ListN.{length, get_or}
use Rattle.rules.specs.Verdict.{Verdict, accepted, refused, when, ◌then◌, each_line}
use Rattle.rules.specs.Limits.{Limit, limit, ◌before◌, Each, First, lines_from, line_by_line}
use Rattle.rules.proofs.Tests.{refused_not_accepted}

pub record Agrees (t : Limit) (v : Verdict) : Type 0 where
  pub accepted : t.keeps ↔ (v ≡ accepted)
  pub refused : (n p : ℕ) → t.breaks n p ↔ (v ≡ refused n p)

-- ---- one limit and its test
refused_number : {n p m q : ℕ} → refused n p ≡ refused m q → m ≡ n
refused_number e = cc

refused_place : {n p m q : ℕ} → refused n p ≡ refused m q → q ≡ p
refused_place e = cc

same_refusal : {n p m q : ℕ} → m ≡ n → q ≡ p → refused n p ≡ refused m q
same_refusal e f = cc

pub agrees_when : {P : Type 0} (t : Bool) (n p : ℕ) → P ↔ (t ≡ false) → Agrees (limit P n p) (when t n p)
agrees_when true n p h = record {
  accepted = (λ k. absurd (true≢false (h.0 k)), λ e. absurd (refused_not_accepted e));
  refused = λ m q. (λ b. same_refusal b.1 b.2, λ e. (λ k. true≢false (h.0 k), refused_number e, refused_place e));
}
agrees_when false n p h = record {
  accepted = (λ k. refl, λ e. h.1 refl);
  refused = λ m q. (λ b. absurd (b.0 (h.1 refl)), λ e. absurd (refused_not_accepted (sym e)));
}

-- ---- one before another: the second is asked only where the first is kept
pub agrees_before : {a b : Limit} (v w : Verdict) → Agrees a v → (a.keeps → Agrees b w) → Agrees (a before b) (v then w)
agrees_before {a} {b} accepted w f g =
    let k = f.accepted.1 refl in
    let s = g k in
    record {
      accepted = (λ h. s.accepted.0 h.1, λ e. (k, s.accepted.1 e));
      refused = λ n p. (second s n p, λ e. inr (k, (s.refused n p).1 e));
    }
  where
    second : Agrees b w → (n p : ℕ) → (a.breaks n p ⊎ (a.keeps × b.breaks n p)) → w ≡ refused n p
    second s n p (inl x) = absurd (refused_not_accepted (sym ((f.refused n p).0 x)))
    second s n p (inr x) = (s.refused n p).0 x.1
agrees_before {a} {b} (refused m q) w f g =
    record {
      accepted = (λ h. absurd (refused_not_accepted (f.accepted.0 h.0)), λ e. absurd (refused_not_accepted e));
      refused = λ n p. (first n p, λ e. inl ((f.refused n p).1 e));
    }
  where
    first : (n p : ℕ) → (a.breaks n p ⊎ (a.keeps × b.breaks n p)) → refused m q ≡ refused n p
    first n p (inl x) = (f.refused n p).0 x
    first n p (inr x) = absurd (refused_not_accepted (f.accepted.0 x.0))

-- ---- line by line, positions from k
module _ {A : Type 0} (limits : ℕ → A → Limit) where
  -- no line is broken among none; the first of several is the next one, or it is kept and the first of the others is
  none : (k : ℕ) {n p : ℕ} → First limits k [] n p → ⊥
  none k f = empty f.earlier f.line f.later f.is
    where
      empty : (xs : List A) (x : A) (ys : List A) → [] ≡ xs ++ x ∷ ys → ⊥
      empty [] x ys e = let z : 0 ≡ suc (length ys) = ap length e in omega arith
      empty (y ∷ xs) x ys e = let z : 0 ≡ suc (length (xs ++ x ∷ ys)) = ap length e in omega arith

  this : (k : ℕ) (x : A) (xs : List A) {n p : ℕ} → (limits k x).breaks n p → First limits k (x ∷ xs) n p
  unfolding Each
  this k x xs {n} {p} b = record {
    earlier = [];
    line = x;
    later = xs;
    is = refl;
    kept = tt;
    broken = subst (λ (m : ℕ). (limits m x).breaks n p) (omega arith) b;
  }

  another : (k : ℕ) (x : A) (xs : List A) {n p : ℕ} → (limits k x).keeps → First limits (suc k) xs n p → First limits k (x ∷ xs) n p
  unfolding Each
  another k x xs {n} {p} h f = record {
    earlier = x ∷ f.earlier;
    line = f.line;
    later = f.later;
    is = ap (λ (ys : List A). x ∷ ys) f.is;
    kept = (h, f.kept);
    broken = subst (λ (m : ℕ). (limits m f.line).breaks n p) (omega arith) f.broken;
  }

  either :
      (k : ℕ) (x : A) (xs : List A) {n p : ℕ}
      → First limits k (x ∷ xs) n p
      → (limits k x).breaks n p ⊎ ((limits k x).keeps × First limits (suc k) xs n p)
  unfolding Each
  either k x xs {n} {p} f = go f.earlier f.is f.kept f.broken
    where
      go : (ys : List A) → x ∷ xs ≡ ys ++ f.line ∷ f.later → Each (λ k x. (limits k x).keeps) k ys → (limits (k + length ys) f.line).breaks n p
          → (limits k x).breaks n p ⊎ ((limits k x).keeps × First limits (suc k) xs n p)
      go [] e h b =
          let z : f.line ≡ x = cc in
          inl (subst (λ (m : ℕ). (limits m x).breaks n p) (omega arith) (subst (λ (y : A). (limits (k + 0) y).breaks n p) z b))
      go (y ∷ ys) e h b =
          let z : y ≡ x = cc in
          let t : xs ≡ ys ++ f.line ∷ f.later = cc in
          inr (
            subst (λ (y : A). (limits k y).keeps) z h.0,
            record {
              earlier = ys;
              line = f.line;
              later = f.later;
              is = t;
              kept = h.1;
              broken = subst (λ (m : ℕ). (limits m f.line).breaks n p) (omega arith) b;
            },
          )

module _ {A : Type 0} (limits : ℕ → A → Limit) (test : ℕ → A → Verdict) (same : (k : ℕ) (x : A) → Agrees (limits k x) (test k x)) where
  agrees_from : (k : ℕ) (xs : List A) → Agrees (lines_from limits k xs) (each_line test k xs)
  unfolding Each each_line
  agrees_from k [] = record {
    accepted = (λ h. refl, λ e. tt);
    refused = λ n p. (λ f. absurd (none limits k f), λ e. absurd (refused_not_accepted (sym e)));
  }
  agrees_from k (x ∷ xs) =
      let both = agrees_before (test k x) (each_line test (suc k) xs) (same k x) (λ h. agrees_from (suc k) xs) in
      record {
        accepted = both.accepted;
        refused = λ n p. (λ f. (both.refused n p).0 (either limits k x xs f), λ e. join n p ((both.refused n p).1 e));
      }
    where
      join : (n p : ℕ) → (limits k x).breaks n p ⊎ ((limits k x).keeps × First limits (suc k) xs n p) → First limits k (x ∷ xs) n p
      join n p (inl b) = this limits k x xs b
      join n p (inr b) = another limits k x xs b.0 b.1

  pub agrees_lines : (xs : List A) → Agrees (line_by_line limits xs) (each_line test 1 xs)
  agrees_lines xs = agrees_from 1 xs

-- every line keeps its limit: so does the line at each place
pub each_at : {A : Type 0} (P : ℕ → A → Type 0) (k : ℕ) (xs : List A) (d : A) → Each P k xs → (i : ℕ) → i < length xs → P (k + i) (get_or xs i d)
unfolding Each
each_at P k [] d e i h = absurd (not-suc-le-zero h)
each_at P k (x ∷ xs) d e zero h = subst (λ (m : ℕ). P m x) (omega arith) e.0
each_at P k (x ∷ xs) d e (suc i) h =
    subst (λ (m : ℕ). P m (get_or xs i d)) (omega arith) (each_at P (suc k) xs d e.1 i (le_of_suc-le-suc h))
