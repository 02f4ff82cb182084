-- One value for each line, and where it stands.
use Rattle.std.specs.Prelude.{ℕ, zero, suc, ◌+◌, ◌<◌, ◌≡◌, refl, List, [], ◌∷◌, map, length, get_or}
use Rattle.std.proofs.Common.{ap, ◌∙◌, arith, not-suc-le-zero, le_of_suc-le-suc}

-- f of each entry, which is given the entry's position, counted from k
unfoldable pub each_from : {A B : Type 0} → ℕ → (ℕ → A → B) → List A → List B
each_from k f [] = []
each_from k f (x ∷ xs) = f k x ∷ each_from (suc k) f xs

-- f of the entries of two lists, side by side
unfoldable pub side_by_side : {A B C : Type 0} → (A → B → C) → List A → List B → List C
side_by_side f [] ys = []
side_by_side f (x ∷ xs) [] = []
side_by_side f (x ∷ xs) (y ∷ ys) = f x y ∷ side_by_side f xs ys

pub length_each_from : {A B : Type 0} (k : ℕ) (f : ℕ → A → B) (xs : List A) → length (each_from k f xs) ≡ length xs
unfolding each_from
length_each_from k f [] = refl
length_each_from k f (x ∷ xs) = ap suc (length_each_from (suc k) f xs)

pub get_or_each_from : {A B : Type 0} (k : ℕ) (f : ℕ → A → B) (xs : List A) (i : ℕ) (a : A) (b : B) → i < length xs
    → get_or (each_from k f xs) i b ≡ f (k + i) (get_or xs i a)
unfolding each_from
get_or_each_from k f [] i a b h = absurd (not-suc-le-zero h)
get_or_each_from k f (x ∷ xs) zero a b h = ap (λ (n : ℕ). f n x) (omega arith)
get_or_each_from k f (x ∷ xs) (suc i) a b h =
    get_or_each_from (suc k) f xs i a b (le_of_suc-le-suc h) ∙ ap (λ (n : ℕ). f n (get_or xs i a)) (omega arith)

pub length_side_by_side : {A B C : Type 0} (f : A → B → C) (xs : List A) (ys : List B) → length xs ≡ length ys → length (side_by_side f xs ys) ≡ length xs
unfolding side_by_side
length_side_by_side f [] ys e = refl
length_side_by_side f (x ∷ xs) [] e = absurd (omega arith)
length_side_by_side f (x ∷ xs) (y ∷ ys) e = ap suc (length_side_by_side f xs ys (omega arith))

pub get_or_side_by_side : {A B C : Type 0} (f : A → B → C) (xs : List A) (ys : List B) (i : ℕ) (a : A) (b : B) (c : C) → length xs ≡ length ys → i < length xs
    → get_or (side_by_side f xs ys) i c ≡ f (get_or xs i a) (get_or ys i b)
unfolding side_by_side
get_or_side_by_side f [] ys i a b c e h = absurd (not-suc-le-zero h)
get_or_side_by_side f (x ∷ xs) [] i a b c e h = absurd (omega arith)
get_or_side_by_side f (x ∷ xs) (y ∷ ys) zero a b c e h = refl
get_or_side_by_side f (x ∷ xs) (y ∷ ys) (suc i) a b c e h = get_or_side_by_side f xs ys i a b c (omega arith) (le_of_suc-le-suc h)

pub get_d_map : {A B : Type 0} (f : A → B) (xs : List A) (i : ℕ) (a : A) (b : B) → i < length xs → get_or (map f xs) i b ≡ f (get_or xs i a)
get_d_map f [] i a b h = absurd (not-suc-le-zero h)
get_d_map f (x ∷ xs) zero a b h = refl
get_d_map f (x ∷ xs) (suc i) a b h = get_d_map f xs i a b (le_of_suc-le-suc h)
