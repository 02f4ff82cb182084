-- What `Reads` promises, by format's `reading`, is demand 1 in paper 01's words (`demand_1`). Assumes nothing.
use Rattle.std.proofs.Common.{ℕ, ◌+◌, ◌≤◌, min, ◌≡◌, refl, ap, sym, ◌∙◌, subst, List, length, take, drop, arith, Result, Ok, Err}
use lib.ListN.{length-map}
use lib.Seq.{length_front, length-take-le, take_at, drop_at}
use Rattle.format.specs.Grammar.{fits_slices}
use Rattle.format.specs.Language.{Stands, size}
use Rattle.format.specs.Reading.{reading, ReadingAnswer, accepted, refused, Says}
use Rattle.format.proofs.Answers.{reads, reading_is}
use Rattle.rules.specs.Answers.{verdict_of}
use Rattle.rules.specs.Lines.{agent_of, user_of, point_of}
use Rattle.rules.specs.Verdict as Verdict
use Rattle.rules.specs.declared.outcomes.Refusal.{Refusal}
use Rattle.monthfile.specs.Reads.{over, next_of, Answers, Gives, Reads}
use Rattle.monthfile.specs.Demand1.{ReadCall, ComesBack, room, here, Front, Written, Demand1Reading}
use Rattle.monthfile.specs.declared.reading.Header.{Header}
use Rattle.monthfile.proofs.Told.{number_is}

-- an answer that comes back is that refusal
refusal_is : (v : ReadingAnswer) (r : Result Header Refusal) (n p : ℕ) → Answers v r → verdict_of r ≡ Verdict.refused n p → v ≡ refused n p
refusal_is (accepted f next) r n p a e = let z : Verdict.accepted ≡ Verdict.refused n p = sym (ap verdict_of a) ∙ e in absurd (cc)
refusal_is (refused m q) r n p a e =
    let z : Verdict.refused m q ≡ Verdict.refused n p = sym a ∙ e in
    let h : m ≡ n = cc in
    let k : q ≡ p = cc in
    ap (λ (z : ℕ). refused z q) h ∙ ap (refused n) k

-- lines laid over a slice that takes them
fronts : {A : Type 0} (xs ys zs : List A) → length xs ≤ length ys → zs ≡ over xs ys → Front xs ys zs
fronts xs ys zs h e =
    record {
      front = ap (take (length xs)) e ∙ take_at xs (drop (length xs) ys) (length xs) refl;
      beyond = ap (drop (length xs)) e ∙ drop_at xs (drop (length xs) ys) (length xs) refl;
      same_length = ap length e ∙ length_front ys xs (length xs) (sym (length-take-le (length xs) ys h));
    }

module _ (c : ReadCall)
    (promised : Reads c.text c.from c.agents c.users c.points c.agents_left c.users_left c.points_left c.answer) where
  abbrev answer_is : ReadingAnswer → Type 0
  answer_is v = reading (room c) c.text c.from ≡ v

  -- what reading answers, it gives
  given : (v : ReadingAnswer) → answer_is v
      → Gives v c.agents c.users c.points c.agents_left c.users_left c.points_left c.answer
  given v e =
      subst (λ (y : ReadingAnswer). Gives y c.agents c.users c.points c.agents_left c.users_left c.points_left c.answer) e
      promised

  accepts : ((h : Header) × (c.answer ≡ Ok h)) → Stands (room c) (here c)
  accepts a = by (reading (room c) c.text c.from) (reads (room c) c.text c.from) promised.answer
    where
      by : (v : ReadingAnswer) → Says (room c) c.text c.from v → Answers v c.answer → Stands (room c) (here c)
      by (accepted f n) s e = record { file = f; ends = s.ends; rest = s.rest; fits = s.fits; follows = s.follows; is = s.is }
      by (refused n p) s e = let z : Verdict.accepted ≡ Verdict.refused n p = sym (ap verdict_of a.1) ∙ e in absurd (cc)

  refused_so : (n p : ℕ) → ComesBack c n p → answer_is (refused n p)
  refused_so n p e = refusal_is (reading (room c) c.text c.from) c.answer n p promised.answer e

  writes : (s : Stands (room c) (here c)) → Written c s
  writes s =
      let f = s.file in
      let n : ℕ = min c.from (length c.text) + size s in
      let g = given (accepted f n) ((reading_is (room c) c.text c.from (accepted f n)).1
      (record { fits = s.fits; ends = s.ends; rest = s.rest; follows = s.follows; is = s.is; next_is = refl })) in
      let few = ((fits_slices (room c) f).0 s.fits).1 in
      record {
        answer = g.answer;
        agents = fronts _ _ _ (omega (arith, few.0, length-map f.agents agent_of)) g.agents_are;
        users = fronts _ _ _ (omega (arith, few.1.0, length-map f.users user_of)) g.users_are;
        points = fronts _ _ _ (omega (arith, few.1.1.0, length-map f.points point_of)) g.points_are;
      }

  pub demand_1 : Demand1Reading c
  demand_1 =
      record {
        accepted = (accepts, λ s. (_, (writes s).answer));
        refused = λ n p.
            let paper = reading_is (room c) c.text c.from (refused n p) in
            (λ e. paper.0 (refused_so n p e), λ b. (given (refused n p) (paper.1 b)).answer);
        eleven_or_twelve = λ n p e.
            number_is _ _ _ n ((reading_is (room c) c.text c.from (refused n p)).0 (refused_so n p e)).why;
        unchanged = λ n p e.
            let g = given (refused n p) (refused_so n p e) in
            record { agents = g.agents_are; users = g.users_are; points = g.points_are };
        written = writes;
      }

-- where it comes back the position stays
pub stays : (r : Result Header Refusal) (from n p : ℕ) → verdict_of r ≡ Verdict.refused n p → next_of r from ≡ from
stays (Ok h) from n p e = absurd (cc)
stays (Err x) from n p e = refl
