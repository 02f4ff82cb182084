-- Values and lines read one after the other (format's `read_line`, `read_lines`). Assumes nothing.
use Rattle.std.proofs.Common.{ℕ, zero, suc, ◌+◌, ◌-◌, ◌≤◌, ◌<◌, ◌≡◌, refl, ap, sym, ◌∙◌, true, false, List, [], ◌∷◌, ◌++◌, map, length, get_or, take, drop}
use Rattle.std.proofs.Common.{set, ℤ, arith, append_assoc, append-nil, length-append}
use Rattle.std.proofs.lemmas.List.{take_all}
use lib.ListN.{length-set, length-map}
use lib.Seq.{drop-cons, set-append_seam, take-suc-set}
use mathlib.Core.List.{map-append}
use native.Mathlib.Numerals.{add-one}
use Rattle.format.specs.Values.{Got, past_end, past, read_value, read_line, line_here, read_lines}
use Rattle.monthfile.specs.declared.cursor.Cursor.{Cursor}
use Rattle.monthfile.specs.Cursor.{rest}
use Rattle.monthfile.specs.At.{GotAt, Filled}

-- some, and then what is read further
abbrev prefixed : {A : Type 0} → List A → Got (List A) → Got (List A)
prefixed xs g = record { got = xs ++ g.got; left = g.left }

more_after : {A : Type 0} (xs : List A) (x : A) (ys : List A) (u : List ℕ)
    → prefixed xs (record { got = x ∷ ys; left = u }) ≡ prefixed (xs ++ (x ∷ [])) (record { got = ys; left = u })
more_after xs x ys u = ap (λ (zs : List _). record { got = zs; left = u }) (sym (append_assoc xs (x ∷ []) ys))

-- past what follows a value on a line of n
pub past_comma : (n i : ℕ) (u : List ℕ) → i + 1 < n → drop 1 u ≡ past (n - (i + 1)) u
past_comma n i u h = let e : n - (i + 1) ≡ suc (n - (i + 2)) = omega arith in sym (ap (λ (k : ℕ). past k u) e)

pub past_last : (n i : ℕ) (u : List ℕ) → n ≤ i + 1 → past_end u ≡ past (n - (i + 1)) u
past_last n i u h = let e : n - (i + 1) ≡ 0 = omega arith in sym (ap (λ (k : ℕ). past k u) e)

one_value : (n : ℕ) (u : List ℕ) → read_line (suc n) u
    ≡ record { got = (read_value u).got ∷ (read_line n (past n (read_value u).left)).got; left = (read_line n (past n (read_value u).left)).left }
unfolding read_line
one_value n u = refl

no_value : (n : ℕ) (u : List ℕ) → n ≡ 0 → read_line n u ≡ record { got = []; left = u }
unfolding read_line
no_value zero u e = refl
no_value (suc n) u e = absurd (omega arith)

-- VALUES OF A LINE of n, read at c: i of them are in the row, and the cursor is now d
pub record Row (c d : Cursor) (n i : ℕ) (row : List ℤ) : Type 0 where
  pub is : read_line n (rest c) ≡ prefixed (take i row) (read_line (n - i) (rest d))
  pub size : length row ≡ n

module _ {c d : Cursor} {n i : ℕ} {row : List ℤ} (v : Row c d n i row) where
  pub row_more : {e : Cursor} {x : ℤ} (f : Cursor)
      → i < n
      → GotAt (read_value (rest d)) x e
      → rest f ≡ past (n - (i + 1)) (rest e)
      → Row c f n (i + 1) (set row i x)
  row_more {x = x} f h g p =
      let m : ℕ = n - (i + 1) in
      let r = read_line m (rest f) in
      let q : n - i ≡ suc m = omega arith in
      let l : past m (read_value (rest d)).left ≡ rest f = ap (past m) (sym g.left) ∙ sym p in
      let k : i < length row = omega (arith, v.size) in
      let s : read_line (n - i) (rest d) ≡ record { got = x ∷ r.got; left = r.left } =
      ap (λ (z : ℕ). read_line z (rest d)) q ∙ one_value m (rest d) ∙ rw (l, sym g.got) in
      let t : take (i + 1) (set row i x) ≡ take i row ++ (x ∷ []) = rw add-one (take-suc-set row i x k) in
      record {
        is = v.is ∙ ap (prefixed (take i row)) s ∙ more_after (take i row) x r.got r.left ∙ sym (ap (λ (xs : List ℤ). prefixed xs r) t);
        size = length-set row i x ∙ v.size;
      }

  pub row_all : n ≤ i → GotAt (read_line n (rest c)) row d
  row_all h =
      let l : length row ≤ i = omega (arith, v.size) in
      let e = v.is ∙ ap (prefixed (take i row)) (no_value (n - i) (rest d) (omega arith)) in
      record {
        got = sym (ap (λ (g : Got (List ℤ)). g.got) e ∙ append-nil (take i row) ∙ take_all i row l);
        left = sym (ap (λ (g : Got (List ℤ)). g.left) e);
      }

one_line : (k n : ℕ) (u : List ℕ) → line_here u ≡ true → read_lines (suc k) n u
    ≡ record { got = (read_line n u).got ∷ (read_lines k n (read_line n u).left).got; left = (read_lines k n (read_line n u).left).left }
unfolding read_lines
one_line k n u e = rw e

no_room : (k n : ℕ) (u : List ℕ) → k ≡ 0 → read_lines k n u ≡ record { got = []; left = u }
unfolding read_lines
no_room zero n u e = refl
no_room (suc k) n u e = absurd (omega arith)

none_here : (k n : ℕ) (u : List ℕ) → line_here u ≡ false → read_lines k n u ≡ record { got = []; left = u }
unfolding read_lines
none_here zero n u e = refl
none_here (suc k) n u e = rw e

-- LINES OF A BLOCK, each of n values, read at c into a slice ys: k of them are in it, each as its entry, and the cursor is now d
pub record Block {A : Type 0} (entry : List ℤ → A) (n : ℕ) (ys : List A) (c d : Cursor) (k : ℕ) (xs : List A) : Type 0 where
  pub lines : List (List ℤ)
  pub count : k ≡ length lines
  pub is : read_lines (length ys) n (rest c) ≡ prefixed lines (read_lines (length ys - k) n (rest d))
  pub stored : xs ≡ map entry lines ++ drop k ys

module _ {A : Type 0} {entry : List ℤ → A} {n : ℕ} {ys : List A} {c d : Cursor} {k : ℕ} {xs : List A} (b : Block entry n ys c d k xs) where
  -- the next entry is stored to
  stores : (l : List ℤ) → k < length ys → set xs k (entry l) ≡ map entry (b.lines ++ (l ∷ [])) ++ drop (k + 1) ys
  stores l h =
      let e : k ≡ length (map entry b.lines) = b.count ∙ sym (length-map b.lines entry) in
      let s : drop k ys ≡ get_or ys k (entry l) ∷ drop (k + 1) ys = rw add-one (drop-cons ys k (entry l) h) in
      ap (λ (zs : List A). set zs k (entry l)) (b.stored ∙ ap (λ (zs : List A). map entry b.lines ++ zs) s)
      ∙ ap (λ (i : ℕ). set (map entry b.lines ++ (get_or ys k (entry l) ∷ drop (k + 1) ys)) i (entry l)) e
      ∙ set-append_seam (map entry b.lines) (get_or ys k (entry l)) (drop (k + 1) ys) (entry l)
      ∙ sym
      (ap (λ (zs : List A). zs ++ drop (k + 1) ys) (map-append entry b.lines (l ∷ []))
      ∙ append_assoc (map entry b.lines) (entry l ∷ []) (drop (k + 1) ys))

  pub one_more : {e : Cursor} {l : List ℤ} {x : A}
      → k < length ys → line_here (rest d) ≡ true → GotAt (read_line n (rest d)) l e → x ≡ entry l → Block entry n ys c e (k + 1) (set xs k x)
  one_more {e} {l} h t g w =
      let m : ℕ = length ys - (k + 1) in
      let r = read_lines m n (rest e) in
      let q : length ys - k ≡ suc m = omega arith in
      let s : read_lines (length ys - k) n (rest d) ≡ record { got = l ∷ r.got; left = r.left } =
      ap (λ (z : ℕ). read_lines z n (rest d)) q ∙ one_line m n (rest d) t ∙ rw (sym g.got, sym g.left) in
      let a = length-append b.lines (l ∷ []) in
      record {
        lines = b.lines ++ (l ∷ []);
        count = omega (arith, b.count);
        is = b.is ∙ ap (prefixed b.lines) s ∙ more_after b.lines l r.got r.left;
        stored = ap (set xs k) w ∙ stores l h;
      }

  done : read_lines (length ys - k) n (rest d) ≡ record { got = []; left = rest d } → Filled entry (read_lines (length ys) n (rest c)) ys xs k d
  done e =
      let a = b.is ∙ ap (prefixed b.lines) e in
      let g : b.lines ≡ (read_lines (length ys) n (rest c)).got = sym (ap (λ (y : Got (List (List ℤ))). y.got) a ∙ append-nil b.lines) in
      record {
        count = b.count ∙ ap length g;
        stored = b.stored ∙ ap (λ (ls : List (List ℤ)). map entry ls ++ drop k ys) g;
        left = sym (ap (λ (y : Got (List (List ℤ))). y.left) a);
      }

  -- no line begins, or there is room for none
  pub over : line_here (rest d) ≡ false → Filled entry (read_lines (length ys) n (rest c)) ys xs k d
  over e = done (none_here (length ys - k) n (rest d) e)

  pub full : length ys ≤ k → Filled entry (read_lines (length ys) n (rest c)) ys xs k d
  full h = done (no_room (length ys - k) n (rest d) (omega arith))
