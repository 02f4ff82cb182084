-- THE VALUES OF A SAVED TEXT: without its CRs a file's text is the one with LF alone, and a text and the same text saved are equal without
-- their CRs; so both are read to the same file. Assumes nothing.
use Prim.Native.Nat.{ℕ}
use mathlib.Core.Path.{◌≡◌, refl, ap, sym, ◌∙◌, subst}
use mathlib.Core.Logic.{ite}
use mathlib.Core.Bool.{Bool, false, Bool-discrete}
use mathlib.Core.List.{List, [], ◌∷◌, ◌++◌, map, filter, filter-append}
use lib.Dec.{eqb}
use lib.ListN.{length, drop}
use lib.Seq.{drop-nil}
use lib.IntN.{ℤ}
use Rattle.format.specs.Bytes.{lf, cr, LineEnd, LF, CRLF, line_end, comma}
use Rattle.format.specs.Blocks.{Block, columns, Slices, free, blocks}
use Rattle.format.specs.Decimal.{text, Small, All}
use Rattle.format.specs.Grammar.{more, entries, line, Ends, all_LF, first_end, names_of, names_text, line_text, lines_text, blocks_text, LineFits}
use Rattle.format.specs.Grammar.{BlocksFit, File, rows, file_text, Fits, fits_slices}
use Rattle.format.specs.Language.{Follows, Stands}
use Rattle.format.specs.Saved.{Added, over, kept, added}
use Rattle.format.proofs.Plain.{Plain, PlainNames, plain_names, plain_text}
use Rattle.format.proofs.Values.{one_reading}

-- whether a byte is no CR
abbrev no_cr : (b : ℕ) → Dec (eqb cr b ≡ false)
no_cr b = Bool-discrete (eqb cr b) false

-- a text without its CRs
unfoldable bare : List ℕ → List ℕ
bare t = filter no_cr t

bare_append : (t u : List ℕ) → bare (t ++ u) ≡ bare t ++ bare u
unfolding bare
bare_append t u = filter-append no_cr t u

bare_plain : (t : List ℕ) → All Plain t → bare t ≡ t
unfolding bare
bare_plain [] p = refl
bare_plain (b ∷ t) p =
    ap (λ (q : Bool). ite (Bool-discrete q false) (b ∷ filter no_cr t) (filter no_cr t)) p.0.1
    ∙ ap (λ (x : List ℕ). b ∷ x) (bare_plain t p.1)

-- the CRs added are not there
bare_added : {last : ℕ} {t u : List ℕ} → Added last t u → bare u ≡ bare t
unfolding bare
bare_added (over last) = refl
bare_added (kept last b t u c) = ap (λ (x : List ℕ). ite (no_cr b) (b ∷ x) x) (bare_added c)
bare_added (added last t u n c) = ap (λ (x : List ℕ). lf ∷ x) (bare_added c)

-- a line without its CRs ends in LF
bare_end : (e : LineEnd) → bare (line_end e) ≡ line_end LF
unfolding bare
bare_end LF = refl
bare_end CRLF = refl

bare_line : (e : LineEnd) (vs : List (List ℕ)) → bare (entries vs) ≡ entries vs → bare (line e vs) ≡ line LF vs
unfolding line
bare_line e vs h =
    bare_append (entries vs) (line_end e)
    ∙ ap (λ (x : List ℕ). x ++ bare (line_end e)) h
    ∙ ap (λ (x : List ℕ). entries vs ++ x) (bare_end e)

bare_value : (z : ℤ) (x : List ℕ) → Small z → bare x ≡ x → bare (text z ++ x) ≡ text z ++ x
bare_value z x s e =
    bare_append (text z) x
    ∙ ap (λ (y : List ℕ). y ++ bare x) (bare_plain (text z) (plain_text z s))
    ∙ ap (λ (y : List ℕ). text z ++ y) e

bare_more : (zs : List ℤ) → All Small zs → bare (more (map text zs)) ≡ more (map text zs)
unfolding bare more
bare_more [] s = refl
bare_more (z ∷ zs) s = ap (λ (x : List ℕ). comma ∷ x) (bare_value z (more (map text zs)) s.0 (bare_more zs s.1))

bare_values : (zs : List ℤ) → All Small zs → bare (entries (map text zs)) ≡ entries (map text zs)
unfolding bare
bare_values [] s = refl
bare_values (z ∷ zs) s = bare_value z (more (map text zs)) s.0 (bare_more zs s.1)

bare_lines : (c : ℕ) (es : Ends) (ls : List (List ℤ)) → All (LineFits c) ls → bare (lines_text es ls) ≡ lines_text all_LF ls
unfolding bare lines_text
bare_lines c es [] a = refl
bare_lines c es (l ∷ ls) a =
    bare_append (line_text (first_end es) l) (lines_text (drop 1 es) ls)
    ∙ ap (λ (x : List ℕ). x ++ bare (lines_text (drop 1 es) ls)) (bare_line (first_end es) (map text l) (bare_values l a.0.small))
    ∙ ap (λ (x : List ℕ). line_text LF l ++ x) (bare_lines c (drop 1 es) ls a.1)

-- A FILE'S TEXT WITHOUT ITS CRS is the one whose lines end in LF
bare_blocks :
    (bs : List Block) (w : List (List (List ℤ))) (es : Ends)
    → All PlainNames bs
    → BlocksFit bs w
    → bare (blocks_text es bs w) ≡ blocks_text all_LF bs w
unfolding bare blocks_text
bare_blocks [] w es p a = refl
bare_blocks (b ∷ bs) [] es p a = refl
bare_blocks (b ∷ bs) (ls ∷ w) es p a =
    let rest : List ℕ = blocks_text (drop (length ls) (drop 1 es)) bs w in
    bare_append (names_text (first_end es) b) (lines_text (drop 1 es) ls ++ rest)
    ∙ ap (λ (x : List ℕ). x ++ bare (lines_text (drop 1 es) ls ++ rest)) (bare_line (first_end es) _ (bare_plain (names_of b) p.0))
    ∙ ap (λ (x : List ℕ). names_text LF b ++ x)
    (bare_append (lines_text (drop 1 es) ls) rest
    ∙ ap (λ (x : List ℕ). x ++ bare rest) (bare_lines (columns b) (drop 1 es) ls a.0)
    ∙ ap (λ (x : List ℕ). lines_text all_LF ls ++ x)
    (bare_blocks bs w (drop (length ls) (drop 1 es)) p.1 a.2
    ∙ ap (λ (x : Ends). blocks_text x bs w) (sym (drop-nil (length ls)))))

bare_file : (es : Ends) (f : File) → Fits free f → bare (file_text es f) ≡ file_text all_LF f
bare_file es f a = bare_blocks (blocks free) (rows f) es (plain_names free) a

bare_follows : (t : List ℕ) → Follows t → Follows (bare t)
unfolding bare
bare_follows [] h = tt
bare_follows (b ∷ t) h = subst (λ (x : ℕ). Follows (bare (x ∷ t))) (sym h) refl

bare_stands : (r : Slices) (t : List ℕ) (a : Stands r t) → bare t ≡ file_text all_LF a.file ++ bare a.rest
bare_stands r t a =
    ap bare a.is
    ∙ bare_append (file_text a.ends a.file) a.rest
    ∙ ap (λ (x : List ℕ). x ++ bare a.rest) (bare_file a.ends a.file ((fits_slices r a.file).0 a.fits).0)

-- THE SAME FILE stands in both texts
pub same_file : (r : Slices) {last : ℕ} {t u : List ℕ} → Added last t u → (a : Stands r t) (b : Stands r u) → b.file ≡ a.file
same_file r {t = t} {u = u} c a b =
    (one_reading r all_LF all_LF b.file a.file (bare b.rest) (bare a.rest) b.fits a.fits (bare_follows b.rest b.follows)
    (bare_follows a.rest a.follows)
    (sym (bare_stands r u b) ∙ bare_added c ∙ bare_stands r t a)).0
