-- The table of blocks and the machine's items say the same, and so do a file's values and its lines block by block. Assumes nothing.
use Prim.Native.Nat.{ℕ, suc, ◌-◌}
use mathlib.Core.Path.{◌≡◌, refl, ap, sym, ◌∙◌, subst}
use mathlib.Core.List.{List, [], ◌∷◌, ◌++◌, map, append_assoc}
use native.Mathlib.Omega.{arith}
use lib.ListN.{length, drop}
use lib.IntN.{ℤ}
use Rattle.format.specs.Bytes.{LineEnd, line_end}
use Rattle.format.specs.Blocks.{Block, columns, Slices, blocks}
use Rattle.format.specs.Decimal.{All}
use Rattle.format.specs.Grammar.{more, line, Ends, first_end, names_of, names_text, lines_text, blocks_text, LineFits, Counted, BlocksFit, File, rows}
use Rattle.format.specs.Grammar.{file_text, Fits}
use Rattle.format.specs.Machine.{Item, byte, end, lines, laid_out, format}
use Rattle.format.proofs.Table.{Headed, all_headed}

-- a line and what follows it, entry by entry
pub line_then :
    (e : LineEnd) (v : List ℕ) (vs : List (List ℕ)) (x : List ℕ)
    → line e (v ∷ vs) ++ x ≡ v ++ (more vs ++ (line_end e ++ x))
unfolding line
line_then e v vs x = append_assoc (v ++ more vs) (line_end e) x ∙ append_assoc v (more vs) (line_end e ++ x)

-- lines of values as the items still to come have them, with these ends
abbrev pub spell : List Item → Ends → List (List (List ℤ)) → List ℕ
spell [] es w = []
spell (byte c ∷ f) es w = c ∷ spell f es w
spell (end ∷ f) es w = line_end (first_end es) ++ spell f (drop 1 es) w
spell (lines n k ∷ f) es [] = []
spell (lines n k ∷ f) es (ls ∷ w) = lines_text es ls ++ spell f (drop (length ls) es) w

abbrev pub Spells : List Item → List (List (List ℤ)) → Type 0
Spells [] [] = Unit {0}
Spells [] (ls ∷ w) = ⊥
Spells (byte c ∷ f) w = Spells f w
Spells (end ∷ f) w = Spells f w
Spells (lines n k ∷ f) [] = ⊥
Spells (lines n k ∷ f) (ls ∷ w) = All (LineFits (suc k)) ls × Counted n (length ls) × Spells f w

module _ (f : List Item) (w : List (List (List ℤ))) where
  spell_names : (es : Ends) (ns : List ℕ) → spell (map byte ns ++ f) es w ≡ ns ++ spell f es w
  spell_names es [] = refl
  spell_names es (c ∷ ns) = ap (λ (l : List ℕ). c ∷ l) (spell_names es ns)

  into_names : (ns : List ℕ) → Spells f w → Spells (map byte ns ++ f) w
  into_names [] a = a
  into_names (c ∷ ns) a = into_names ns a

  out_of_names : (ns : List ℕ) → Spells (map byte ns ++ f) w → Spells f w
  out_of_names [] a = a
  out_of_names (c ∷ ns) a = out_of_names ns a

abbrev to_come : Block → List Block → List Item
to_come b bs = end ∷ lines b.count (columns b - 1) ∷ laid_out bs

same_text : (es : Ends) (bs : List Block) (w : List (List (List ℤ))) → BlocksFit bs w → spell (laid_out bs) es w ≡ blocks_text es bs w
unfolding blocks_text line
same_text es [] w a = refl
same_text es (b ∷ bs) [] a = absurd a
same_text es (b ∷ bs) (ls ∷ w) a =
    let after : Ends = drop (length ls) (drop 1 es) in
    spell_names (to_come b bs) (ls ∷ w) es (names_of b)
    ∙ sym (append_assoc (names_of b) (line_end (first_end es)) (lines_text (drop 1 es) ls ++ spell (laid_out bs) after w))
    ∙ ap (λ (l : List ℕ). names_text (first_end es) b ++ (lines_text (drop 1 es) ls ++ l)) (same_text after bs w a.2)

spells_fit : (bs : List Block) (w : List (List (List ℤ))) → All Headed bs → BlocksFit bs w → Spells (laid_out bs) w
spells_fit [] [] h a = tt
spells_fit [] (ls ∷ w) h a = a
spells_fit (b ∷ bs) [] h a = absurd a
spells_fit (b ∷ bs) (ls ∷ w) h a =
    into_names (to_come b bs) (ls ∷ w) (names_of b)
    (subst (λ (c : ℕ). All (LineFits c) ls) (sym h.0.column) a.0, a.1, spells_fit bs w h.1 a.2)

fit_spells : (bs : List Block) (w : List (List (List ℤ))) → All Headed bs → Spells (laid_out bs) w → BlocksFit bs w
fit_spells [] [] h a = tt
fit_spells [] (ls ∷ w) h a = a
fit_spells (b ∷ bs) [] h a = out_of_names (to_come b bs) [] (names_of b) a
fit_spells (b ∷ bs) (ls ∷ w) h a =
    let c = out_of_names (to_come b bs) (ls ∷ w) (names_of b) a in
    (subst (λ (n : ℕ). All (LineFits n) ls) h.0.column c.0, c.1, fit_spells bs w h.1 c.2)

-- a file's text, by the items
pub file_text_lem : (r : Slices) (es : Ends) (f : File) → Fits r f → spell (format r) es (rows f) ≡ file_text es f
unfolding format blocks_text
file_text_lem r es f a = same_text es (blocks r) (rows f) a

pub file_spells : (r : Slices) (f : File) → Fits r f → Spells (format r) (rows f)
unfolding format
file_spells r f a = spells_fit (blocks r) (rows f) (all_headed r) a

-- lines that fit the blocks are a file's
pub record Filed (r : Slices) (w : List (List (List ℤ))) : Type 0 where
  pub file : File
  pub fits : Fits r file
  pub is : rows file ≡ w

two_values :
    (l : List ℤ) (ag us ps : List (List ℤ)) (r : Slices)
    → BlocksFit (blocks r) ((l ∷ []) ∷ ag ∷ us ∷ ps ∷ [])
    → Filed r ((l ∷ []) ∷ ag ∷ us ∷ ps ∷ [])
two_values [] ag us ps r a = absurd (omega (arith, a.0.0.count))
two_values (y ∷ []) ag us ps r a = absurd (omega (arith, a.0.0.count))
two_values (y ∷ (o ∷ [])) ag us ps r a =
    record { file = record { month = y; ons = o; agents = ag; users = us; points = ps }; fits = a; is = refl }
two_values (y ∷ (o ∷ (z ∷ zs))) ag us ps r a = absurd (omega (arith, a.0.0.count))

one_line : (ls ag us ps : List (List ℤ)) (r : Slices) → BlocksFit (blocks r) (ls ∷ ag ∷ us ∷ ps ∷ []) → Filed r (ls ∷ ag ∷ us ∷ ps ∷ [])
one_line [] ag us ps r a = absurd (omega (arith, a.1))
one_line (l ∷ []) ag us ps r a = two_values l ag us ps r a
one_line (l ∷ (k ∷ ls)) ag us ps r a = absurd (omega (arith, a.1))

filed : (r : Slices) (w : List (List (List ℤ))) → BlocksFit (blocks r) w → Filed r w
filed r [] a = absurd a
filed r (ls ∷ []) a = absurd a.2
filed r (ls ∷ (ag ∷ [])) a = absurd a.2.2
filed r (ls ∷ (ag ∷ (us ∷ []))) a = absurd a.2.2.2
filed r (ls ∷ (ag ∷ (us ∷ (ps ∷ [])))) a = one_line ls ag us ps r a
filed r (ls ∷ (ag ∷ (us ∷ (ps ∷ (x ∷ w))))) a = absurd a.2.2.2.2

-- what the items of a whole file spell is a file
pub spelt : (r : Slices) (w : List (List (List ℤ))) → Spells (format r) w → Filed r w
unfolding format
spelt r w a = filed r w (fit_spells (blocks r) w (all_headed r) a)
