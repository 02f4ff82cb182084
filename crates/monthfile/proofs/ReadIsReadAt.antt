-- THE JOIN of the reader to `read_at`, over what a caller learns of both: a call of `read` answers and leaves what a call of `read_at` with
-- the reader's text and position does, and the reader's position goes by that answer. A `read` that hands on another position is refused
-- here. Assumes nothing.
use Rattle.std.proofs.Common.{ℕ, ap, sym, ◌∙◌, subst, List}
use Rattle.monthfile.specs.Demand1.{ReadCall, room, SameLent, SameLeft, Joined}
use Rattle.monthfile.proofs.Told.{told, one_answer}
use Rattle.monthfile.proofs.Lent.{Lent, Promised, lent_alike}
use Rattle.monthfile.proofs.Promised.{stays}
use Rattle.monthfile.proofs.Demand1.{ReadAt, ReaderRead, at_call, reader_call, text_left, position, goes}

lent_same : (c d : ReadCall) → SameLent c d → Promised c → Promised d → SameLeft c d
lent_same c d s x y =
    let x₁ = lent_alike c d.from d.agents d.users d.points s.from s.agents s.users s.points x in
    let x₂ = subst (λ (t : List ℕ). Lent c t d.from d.agents d.users d.points) s.text x₁ in
    record {
      answer = one_answer _ c.answer d.answer (told (room d) d.text d.from) x₂.answer y.answer;
      agents = x₂.agents_are ∙ sym y.agents_are;
      users = x₂.users_are ∙ sym y.users_are;
      points = x₂.points_are ∙ sym y.points_are;
    }

pub read_is_read_at : (c : ReaderRead) (d : ReadAt) → SameLent (reader_call c) (at_call d) → Joined (reader_call c) (at_call d) (text_left c) (position c)
read_is_read_at c d s =
    let same = lent_same (reader_call c) (at_call d) s c.learnt.reads d.learnt in
    record {
      same = same;
      text = ap (λ x. x.now) c.learnt.text;
      moves = λ h e. goes c _ (same.answer ∙ e);
      stays = λ number place e. goes c _ same.answer ∙ stays d.result (reader_call c).from number place e;
    }
