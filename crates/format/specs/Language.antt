-- Refusal 11's place in paper 01's words: "the first byte (from 0 at the text's start) that no accepted file could have there, or the
-- text's length". No machine stands here. Assumes nothing.
use Rattle.std.specs.Prelude.{ℕ, suc, ◌≤◌, ◌<◌, ◌≡◌, ◌↔◌, List, [], ◌∷◌, ◌++◌, length, take, ℤ, pos, negsuc}
use Rattle.format.specs.Bytes.{m}
use Rattle.format.specs.Blocks.{Slices}
use Rattle.format.specs.Grammar.{Ends, File, file_text, Fits, Files}
use Rattle.format.specs.Machine.{TextVerdict, passes, fails}

-- a text of the language L begins so
pub record Begins (L : List ℕ → Type 0) (t : List ℕ) : Type 0 where
  pub rest : List ℕ
  pub whole : L (t ++ rest)

-- the place p of a text t outside L: the bytes before p begin a text of L; those through p do not; where p is the text's length, the
-- text is none of L
pub record Place (L : List ℕ → Type 0) (t : List ℕ) (p : ℕ) : Type 0 where
  pub within : p ≤ length t
  pub before : Begins L (take p t)
  pub through : p < length t → Begins L (take (suc p) t) → ⊥
  pub unfinished : p ≡ length t → L t → ⊥

-- what a verdict says of a text
abbrev pub Judged : (List ℕ → Type 0) → List ℕ → TextVerdict → Type 0
Judged L t passes = L t
Judged L t (fails p) = Place L t p

-- after a file: the text's end, or a byte `m`, with which a further file begins
abbrev pub Follows : List ℕ → Type 0
Follows [] = Unit {0}
Follows (b ∷ t) = b ≡ m

-- at the start of the text stands one file that the slices take, its lines ended so
pub record Stands (r : Slices) (t : List ℕ) : Type 0 where
  pub file : File
  pub ends : Ends
  pub rest : List ℕ
  pub fits : Fits r file
  pub follows : Follows rest
  pub is : t ≡ file_text ends file ++ rest

-- how many bytes it has there
abbrev pub size : {r : Slices} {t : List ℕ} → Stands r t → ℕ
size s = length (file_text s.ends s.file)

-- what the file check's number says of a text: -2 over 10^15 bytes; else -1 for one or more files on end, or the place of its 11
pub record Checked (t : List ℕ) (number : ℤ) : Type 0 where
  pub over : 1_000_000_000_000_000 < length t → number ≡ negsuc 1
  pub fine : length t ≤ 1_000_000_000_000_000 → (number ≡ negsuc 0) ↔ Files t
  pub place : length t ≤ 1_000_000_000_000_000 → (p : ℕ) → (number ≡ pos p) ↔ Place Files t p
