-- A file's blocks read one after the other into their slices, or a file refused, is format's reading. Assumes nothing.
use Rattle.std.proofs.Common.{ℕ, ◌≡◌, refl, ap, sym, ◌∙◌, subst, List, [], ◌∷◌, ◌++◌, map, length, get_or, drop, ℤ, arith, Result, Ok, Err}
use Rattle.std.specs.Result.{MatchResult}
use Prim.Native.String.{String}
use lib.ListN.{length-map}
use Rattle.format.specs.Bytes.{bytes}
use Rattle.format.specs.Blocks as Table
use Rattle.format.specs.Blocks.{Slices, slices, blocks}
use Rattle.format.specs.Grammar.{entries, File}
use Rattle.format.specs.Values.{Got, past_end, read_lines, read_blocks, file_of}
use Rattle.format.specs.Reading.{scan_at, reading, answer}
use Rattle.format.specs.declared.Fault.{Fault}
use Rattle.format.specs.declared.Fault.TheVariants.{Faulty, Full}
use Rattle.records.specs.Columns.{month_line_of}
use Rattle.rules.specs.Lines.{agent_of, user_of, point_of}
use Rattle.rules.specs.declared.Agent.{Agent}
use Rattle.rules.specs.declared.MonthLine.{MonthLine}
use Rattle.rules.specs.declared.Point.{Point}
use Rattle.rules.specs.declared.User.{User}
use Rattle.rules.specs.declared.outcomes.Refusal.{Refusal}
use Rattle.monthfile.specs.declared.cursor.Cursor.{Cursor}
use Rattle.monthfile.specs.Cursor.{rest}
use Rattle.monthfile.specs.At.{Filled}
use Rattle.monthfile.specs.Reads.{Answers, over, Gives, Reads}

-- what a verdict was whose fault was made a refusal
pub was_whole : (s : Result ℕ Fault) (n : ℕ) (P : Fault → Type 0) → MatchResult s (λ x. ◌≡◌ {A = Result ℕ Refusal} (Ok n) (Ok x)) P
    → ((e : Fault) → P e → ⊥) → s ≡ Ok n
was_whole (Ok x) n P h z = let e : x ≡ n = cc in ap (λ (k : ℕ). Ok k) e
was_whole (Err e) n P h z = absurd (z e h)

pub was_fault : (s : Result ℕ Fault) (r : Refusal) (P : Fault → Type 0) → MatchResult s (λ x. ◌≡◌ {A = Result ℕ Refusal} (Err r) (Ok x)) P
    → (e : Fault) × (s ≡ Err e) × P e
was_fault (Ok x) r P h = let z : ◌≡◌ {A = ℕ} 0 1 = cc in absurd (omega arith)
was_fault (Err e) r P h = (e, refl, h)

-- a block read from a text: its names passed over, then at most so many lines
abbrev names : List String → ℕ
names k = length (entries (map bytes k))

abbrev block : List String → ℕ → List ℕ → Got (List (List ℤ))
block k room s = read_lines room (length k) (past_end (drop (names k) s))

-- what is left of one block is what the next is read from
from_text : {A : Type 0} {entry : List ℤ → A} {xs xs' : List A} {n : ℕ} {d : Cursor} (k : List String) (room : ℕ) (c : Cursor) (s : List ℕ)
    → rest c ≡ s → Filled entry (block k room (rest c)) xs xs' n d → Filled entry (block k room s) xs xs' n d
from_text {entry = entry} {xs} {xs'} {n} {d} k room c s e f = subst (λ (u : List ℕ). Filled entry (block k room u) xs xs' n d) e f

laid_over : {A : Type 0} {entry : List ℤ → A} {g : Got (List (List ℤ))} {xs xs' : List A} {n : ℕ} {d : Cursor}
    → Filled entry g xs xs' n d → xs' ≡ over (map entry g.got) xs
laid_over {entry = entry} {g} {xs} f =
    f.stored ∙ ap (λ (k : ℕ). map entry g.got ++ drop k xs) (f.count ∙ sym (length-map g.got entry))

-- the month line, where one is read into a slice of one
abbrev none : MonthLine
none = month_line_of []

first_line : {g : Got (List (List ℤ))} {ms : List MonthLine} {n : ℕ} {d : Cursor}
    → Filled month_line_of g (none ∷ []) ms n d → get_or ms 0 none ≡ month_line_of (get_or g.got 0 [])
first_line {g} f = ap (λ (xs : List MonthLine). get_or xs 0 none) (laid_over f) ∙ by g.got
  where
    by : (ls : List (List ℤ)) → get_or (over (map month_line_of ls) (none ∷ [])) 0 none ≡ month_line_of (get_or ls 0 [])
    by [] = refl
    by (l ∷ ls) = refl

module _ (t : List ℕ) (from : ℕ) (agents : List Agent) (users : List User) (points : List Point) where
  abbrev room : Slices
  room = slices (length agents) (length users) (length points)

  -- judged, and read
  pub whole :
      {ms : List MonthLine} {agents' : List Agent} {users' : List User} {points' : List Point} {nm na nu np : ℕ} {m a u p : Cursor}
      (next : ℕ) (c : Cursor)
      → rest c ≡ drop from t
      → Filled month_line_of (block Table.month 1 (rest c)) (none ∷ []) ms nm m
      → Filled agent_of (block Table.agents (length agents) (rest m)) agents agents' na a
      → Filled user_of (block Table.users (length users) (rest a)) users users' nu u
      → Filled point_of (block Table.points (length points) (rest u)) points points' np p
      → scan_at room t from ≡ Ok next
      → Reads t from agents users points agents' users' points'
      (Ok (record { line = get_or ms 0 none; agents = na; users = nu; points = np; next = next }))
  unfolding reading read_blocks
  whole {m = m} {a} {u} next c e month₀ agents₀ users₀ points₀ v =
      let g = from_text Table.month 1 c (drop from t) e month₀ in
      let h = from_text Table.agents (length agents) m _ g.left agents₀ in
      let i = from_text Table.users (length users) a _ h.left users₀ in
      let j = from_text Table.points (length points) u _ i.left points₀ in
      rw v
      (record {
        answer = rw (first_line g, h.count, i.count, j.count);
        agents_are = laid_over h;
        users_are = laid_over i;
        points_are = laid_over j;
      })

  -- refused: nothing is written
  pub refused : (x : Fault) (r : Refusal) → scan_at room t from ≡ Err x → ((f : File) → Answers (answer f (Err x)) (Err r))
      → Reads t from agents users points agents users points (Err r)
  unfolding reading
  refused x r v h = rw v (by x h (file_of (read_blocks (blocks room) (drop from t)).got))
    where
      by : (x : Fault) → ((f : File) → Answers (answer f (Err x)) (Err r))
          → (f : File) → Gives (answer f (Err x)) agents users points agents users points (Err r)
      by (Faulty n) h f = record { answer = h f; agents_are = refl; users_are = refl; points_are = refl }
      by (Full n) h f = record { answer = h f; agents_are = refl; users_are = refl; points_are = refl }
