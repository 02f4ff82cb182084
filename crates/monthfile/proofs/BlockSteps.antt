-- Reading's verdict (format's `scan`) over names, blocks one after the other, and after the last. Assumes nothing.
use Rattle.std.proofs.Common.{ℕ, ◌+◌, ◌≤◌, ◌<◌, ◌≡◌, refl, ap, sym, ◌∙◌, subst, true, false, List, [], ◌∷◌, ◌++◌, map, min, length, drop, get_or, Result, Ok}
use Rattle.std.proofs.Common.{Err}
use lib.ListN.{drop_of_length-le}
use mathlib.Core.Bool.{false≢true}
use lib.Seq.{drop-cons}
use native.Mathlib.Numerals.{add-one}
use Rattle.format.specs.Bytes.{bytes, m}
use Rattle.format.specs.Blocks.{one, month, users, points, kinds, slices, blocks_of}
use Rattle.format.specs.Grammar.{entries}
use Rattle.format.specs.Machine.{Item, byte, end, lines, laid_out, format, at, value, fresh, start, enter, step}
use Rattle.format.specs.Reading.{scan, scan_at}
use Rattle.format.specs.declared.Fault.{Fault}
use Rattle.format.specs.declared.Fault.TheVariants.{Faulty}
use Rattle.monthfile.specs.declared.cursor.Cursor.{Cursor}
use Rattle.monthfile.specs.Cursor.{rest, file_ends}
use Rattle.monthfile.specs.Passing.{verdict, Before, Leads, Refuses, Passes, Taken, Missing, at_end, at_names}
use Rattle.monthfile.proofs.Joining.{further, later, taken, missing, alike, before, before_refused}
use Rattle.monthfile.proofs.LineSteps.{byte_on, no_byte}

-- NAMES of a block; n of their bytes are passed
module _ {c d : Cursor} (names : List ℕ) (n : ℕ) (l : Leads c (at_names names) d (at_names (drop n names))) where
  -- what is to come after the next byte
  abbrev next : List Item → List Item
  next f = map byte (drop (n + 1) names) ++ (end ∷ f)

  awaits : n < length names → Leads c (at_names names) d (λ f. at (byte (get_or names n 0) ∷ next f))
  awaits h =
      let e : drop n names ≡ get_or names n 0 ∷ drop (n + 1) names = rw add-one (drop-cons names n 0 h) in
      subst (λ (ns : List ℕ). Leads c (at_names names) d (at_names ns)) e l

  pub name_taken : {e : Cursor} → n < length names → Taken (get_or names n 0) d e → Leads c (at_names names) e (at_names (drop (n + 1) names))
  name_taken h t = further (awaits h) (taken _ _ _ (at_names (drop (n + 1) names)) (λ f. byte_on d.at (next f) (get_or names n 0) (rest d)) t)

  pub name_missing : {e : Fault} → n < length names → Missing (get_or names n 0) d e → Refuses c (at_names names) e
  name_missing h t = later (awaits h) (missing _ _ _ (at_names (drop (n + 1) names)) (λ f. no_byte d.at (next f) (get_or names n 0) (rest d)) t)

  -- after them the line's end
  pub names_over : length names ≤ n → Leads c (at_names names) d at_end
  names_over h = subst (λ (ns : List ℕ). Leads c (at_names names) d (at_names ns)) (drop_of_length-le names h) l

-- the one line of the month's block begins at once
only_scan : (k : ℕ) (f : List Item) (i : ℕ) (u : List ℕ) → scan (at (lines one k ∷ f)) i u ≡ scan (value fresh k f) i u
unfolding scan step enter
only_scan k f i [] = refl
only_scan k f i (b ∷ u) = refl

-- THE BLOCKS OF A FILE, and what comes after each, for so many lines
module _ (a u p : ℕ) where
  abbrev pub after_month : List Item
  after_month = laid_out (blocks_of kinds (slices a u p))

  abbrev pub after_agents : List Item
  after_agents = laid_out (blocks_of (users ∷ points ∷ []) (u ∷ p ∷ []))

  abbrev pub after_users : List Item
  after_users = laid_out (blocks_of (points ∷ []) (p ∷ []))

  abbrev pub begun : Before
  begun f = start (slices a u p)

  pub month_names : {c d : Cursor} → Leads c (at_names (entries (map bytes month))) d at → Leads c begun d (λ f. value fresh 1 after_month)
  unfolding format
  month_names {c} {d} l =
      let g : List Item → List Item = λ f. lines one 1 ∷ after_month in
      further (before g l) (alike d (λ f. only_scan 1 after_month d.at (rest d)))

  pub month_refused : {c : Cursor} {e : Fault} → Refuses c (at_names (entries (map bytes month))) e → Refuses c begun e
  unfolding format
  month_refused q = before_refused (λ f. lines one 1 ∷ after_month) q

  -- a part that these items follow
  module _ (f : List Item) {c d : Cursor} (s : Before) (l : Leads c begun d (λ g. s f)) where
    pub goes_on : {e : Cursor} {s' : Before} → Leads d s e s' → Leads c begun e (λ g. s' f)
    goes_on m = further l (before (λ g. f) m)

    pub goes_back : {x : Fault} → Refuses d s x → Refuses c begun x
    goes_back q = later l (before_refused (λ g. f) q)

    pub ends : (e : Cursor) (s' : Before) (r : Result Unit Fault) → Passes d s e s' r → Passes c begun e (λ g. s' f) r
    ends e s' (Ok x) q = goes_on q
    ends e s' (Err x) q = goes_back q

-- the end of a file
over : (i : ℕ) (u : List ℕ) → file_ends u ≡ true → scan (at []) i u ≡ Ok i
unfolding scan step enter
over i [] e = refl
over i (b ∷ u) e = rw e

not_over : (i : ℕ) (u : List ℕ) → file_ends u ≡ false → scan (at []) i u ≡ Err (Faulty i)
unfolding scan step enter
not_over i [] e = absurd (false≢true (sym e))
not_over i (b ∷ u) e = rw e

-- THE FILE AT A POSITION: a cursor c there, and d after its blocks
module _ (a u p : ℕ) (t : List ℕ) (from : ℕ) (c : Cursor) (e : c.at ≡ min from (length t)) (h : rest c ≡ drop from t) where
  at_position : verdict c (start (slices a u p)) ≡ scan_at (slices a u p) t from
  unfolding scan_at
  at_position = ap (λ (n : ℕ). scan (start (slices a u p)) n (rest c)) e ∙ ap (scan (start (slices a u p)) (min from (length t))) h

  pub whole : {d : Cursor} → Leads c (begun a u p) d (λ f. at []) → file_ends (rest d) ≡ true → Ok d.at ≡ scan_at (slices a u p) t from
  whole {d} l x = sym (sym at_position ∙ l.goes [] ∙ over d.at (rest d) x)

  pub unfinished : {d : Cursor} → Leads c (begun a u p) d (λ f. at []) → file_ends (rest d) ≡ false → Err (Faulty d.at) ≡ scan_at (slices a u p) t from
  unfinished {d} l x = sym (sym at_position ∙ l.goes [] ∙ not_over d.at (rest d) x)

  pub refused : {x : Fault} → Refuses c (begun a u p) x → Err x ≡ scan_at (slices a u p) t from
  refused q = sym (sym at_position ∙ q.found [])
