-- What is read at a cursor is what format's definitions read from the text there, and the cursor comes to stand before what is left of it.
-- Assumes nothing.
use Rattle.std.specs.Prelude.{ℕ, ◌≡◌, List, ◌++◌, map, length, drop, ℤ}
use Rattle.format.specs.Values.{Got}
use Rattle.monthfile.specs.declared.cursor.Cursor.{Cursor}
use Rattle.monthfile.specs.Cursor.{rest}

-- x was read, and d stands before what is left
pub record GotAt {A : Type 0} (g : Got A) (x : A) (d : Cursor) : Type 0 where
  pub got : x ≡ g.got
  pub left : rest d ≡ g.left

-- the lines that were read stand in the slice, each as its entry, which is untouched beyond them; n counts them
pub record Filled {A : Type 0} (entry : List ℤ → A) (g : Got (List (List ℤ))) (xs₀ xs : List A) (n : ℕ) (d : Cursor) : Type 0 where
  pub count : n ≡ length g.got
  pub stored : xs ≡ map entry g.got ++ drop n xs₀
  pub left : rest d ≡ g.left
