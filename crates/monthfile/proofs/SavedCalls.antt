-- THE LAW OF THE SAVED FILE (paper 02, Q-3), over what a caller learns of the file check and of each reading: with CRs added before LFs a
-- text gives the same values and the same verdict, every place moved. Assumes nothing.
use Rattle.std.proofs.Common.{ℕ, ◌≤◌, ◌≡◌, refl, ap, sym, ◌∙◌, subst, inl, inr, List, length, Result, Ok, Err}
use Rattle.format.specs.Grammar.{File}
use Rattle.format.specs.Reading.{ReadingAnswer, accepted, refused, reading}
use Rattle.format.specs.Saved.{Saved, moved, moved_answer, moved_number}
use Rattle.format.proofs.SavedReads.{same_reading, same_check}
use Rattle.rules.specs.declared.outcomes.Refusal.{Refusal}
use Rattle.monthfile.specs.Checked.{seen}
use Rattle.monthfile.specs.Reads.{Answers, after, as_agents, as_users, as_points, next_of, Gives}
use Rattle.monthfile.specs.Demand1.{ReadCall, room}
use Rattle.monthfile.specs.Saved.{moved_refusal, moved_reading, SavedCall, SameOfSaved}
use Rattle.monthfile.specs.declared.reading.Header.{Header}
use Rattle.monthfile.proofs.Told.{Numbered, refusal, came_back, Told, told}
use Rattle.monthfile.proofs.Lent.{Promised, lent_alike}
use Rattle.monthfile.proofs.Demand1.{FileChecked, ReadAt, ReaderRead, at_call, reader_call, position, goes}

-- THE FILE CHECK: the same −1, or the place moved; the saved text's length is within its limit
pub saved_check :
    (c d : FileChecked) (s : Saved c.args.0.now d.args.0.now)
    → length d.args.0.now ≤ 1_000_000_000_000_000
    → seen d.result ≡ moved_number s (seen c.result)
saved_check c d s h = d.learnt ∙ same_check c.args.0.now d.args.0.now s h ∙ ap (moved_number s) (sym c.learnt)

-- READING
module _ (c d : ReadCall) (l : SavedCall c d) where
  -- what is told and written of an answer that has moved
  same_refusal : (n p : ℕ) (w : Numbered n) → refusal w (moved l.saved p) ≡ moved_refusal l.saved (refusal w p)
  same_refusal n p (inl e) = refl
  same_refusal n p (inr e) = refl

  same_answered : (v : ReadingAnswer) (r s : Result Header Refusal) → Told v → Answers v r → Answers (moved_answer l.saved v) s → s ≡ moved_reading l.saved r
  same_answered (accepted f n) r s w a b = b ∙ sym (ap (moved_reading l.saved) a)
  same_answered (refused n p) r s w a b =
      came_back s n (moved l.saved p) w b
      ∙ ap (λ (x : Refusal). Err x) (same_refusal n p w)
      ∙ sym (ap (moved_reading l.saved) (came_back r n p w a))

  same_after : {B : Type 0} (lines : File → List B) (v : ReadingAnswer) (xs : List B) → after lines (moved_answer l.saved v) xs ≡ after lines v xs
  same_after lines (accepted f n) xs = refl
  same_after lines (refused number place) xs = refl

  -- the saved text's answer is the text's, moved
  given_saved :
      Promised d
      → Gives (moved_answer l.saved (reading (room c) c.text c.from))
      c.agents c.users c.points d.agents_left d.users_left d.points_left d.answer
  given_saved y =
      subst (λ (x : ReadingAnswer). Gives x c.agents c.users c.points d.agents_left d.users_left d.points_left d.answer)
      (same_reading (room c) c.text d.text l.saved c.from)
      (lent_alike d (moved l.saved c.from) c.agents c.users c.points l.from l.agents l.users l.points y)

  same_of_saved : Promised c → Promised d → SameOfSaved c d l.saved
  same_of_saved x y =
      let v = reading (room c) c.text c.from in
      let z = given_saved y in
      record {
        answer = same_answered v c.answer d.answer (told (room c) c.text c.from) x.answer z.answer;
        agents = z.agents_are ∙ same_after as_agents v c.agents ∙ sym x.agents_are;
        users = z.users_are ∙ same_after as_users v c.users ∙ sym x.users_are;
        points = z.points_are ∙ same_after as_points v c.points ∙ sym x.points_are;
      }

pub saved_read_at : (c d : ReadAt) (l : SavedCall (at_call c) (at_call d)) → SameOfSaved (at_call c) (at_call d) l.saved
saved_read_at c d l = same_of_saved (at_call c) (at_call d) l c.learnt d.learnt

-- where the position goes by an answer that has moved
next_moved : {t u : List ℕ} (s : Saved t u) (r : Result Header Refusal) (from : ℕ) → next_of (moved_reading s r) (moved s from) ≡ moved s (next_of r from)
next_moved s (Ok h) from = refl
next_moved s (Err e) from = refl

-- the reader's position moves along
pub saved_read :
    (c d : ReaderRead) (l : SavedCall (reader_call c) (reader_call d))
    → SameOfSaved (reader_call c) (reader_call d) l.saved × (position d ≡ moved l.saved (position c))
saved_read c d l =
    let same = same_of_saved (reader_call c) (reader_call d) l c.learnt.reads d.learnt.reads in (
      same,
      goes d _ same.answer
          ∙ ap (next_of (moved_reading l.saved c.result)) l.from
          ∙ next_moved l.saved c.result (reader_call c).from
          ∙ ap (moved l.saved) (sym (goes c c.result refl)),
    )
