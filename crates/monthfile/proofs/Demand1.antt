-- DEMAND 1 OF READING AND OF THE FILE CHECK, over what a caller learns from the checked contracts (`Reads.Learnt`, generated, of
-- `file_check`; proofs/Learnt of `read_at` and `read`). No relation written in between: a contract that promises less is refused here.
-- Nothing is assumed of the text, of the slices or of who calls.
use mathlib.Core.Path.{◌≡◌, ap, ◌∙◌}
use Prim.Native.Nat.{ℕ}
use mathlib.Core.List.{List}
use base.Logic.{ent, emp, id⊢}
use contract.Lifetimes.{Lfts}
use denote.Triple.Entry.{Args}
use borrow.Fn.World.{World}
use Rattle.std.specs.Prelude.{Result}
use Rattle.format.specs.Language.{Checked}
use Rattle.format.proofs.FileCheck.{file_check}
use Rattle.records.proofs.Learnt.{CallOf}
use Rattle.rules.specs.declared.outcomes.Refusal.{Refusal}
use Rattle.monthfile.specs.Checked.{seen}
use Rattle.monthfile.specs.Reads.{next_of}
use Rattle.monthfile.specs.Demand1.{ReadCall, Demand1Reading, Demand1Reader}
use Rattle.monthfile.specs.declared.reading.Header.{Header}
use Rattle.monthfile.proofs.Promised.{demand_1, stays}
use Rattle.monthfile.proofs.Learnt.{read_at_required, ReadAtLearnt, read_required, ReadLearnt}
use Rattle.monthfile.specs.contracts.check.file_check as check
use Rattle.monthfile.proofs.check.file_check.Reads as check_reads
use Rattle.monthfile.specs.contracts.points.read_at as read_at
use Rattle.monthfile.specs.contracts.reader.Reader.read as read

-- a call: lifetimes, arguments, result, the last value of each `&mut`, and what the contract tells of them
abbrev pub FileChecked : Type 0
FileChecked = CallOf check.ended check_reads.Learnt

abbrev pub ReadAt : Type 0
ReadAt = CallOf read_at.ended ReadAtLearnt

abbrev pub ReaderRead : Type 0
ReaderRead = CallOf read.ended ReadLearnt

-- none has a `requires` that its caller would have to show first
pub asks_nothing :
    ((κs : Lfts 1) (a : Args check.signature κs) → check_reads.Asked κs a)
    × ((κs : Lfts 4) (a : Args read_at.signature κs) (w : World) → ent w.𝓤 (emp w.𝓤) (read_at_required κs a w))
    × ((κs : Lfts 5) (a : Args read.signature κs) (w : World) → ent w.𝓤 (emp w.𝓤) (read_required κs a w))
asks_nothing = (λ κs a. tt, λ κs a w. id⊢ w.𝓤 (emp w.𝓤), λ κs a w. id⊢ w.𝓤 (emp w.𝓤))

-- read_at(text, from, agents, users, points), its parts by name
abbrev pub at_call : ReadAt → ReadCall
at_call c =
    let a = c.args.1.1 in
    let l = c.last.1.1 in
    record {
      text = c.args.0.now;
      from = c.args.1.0;
      agents = a.0.now;
      users = a.1.0.now;
      points = a.1.1.0.now;
      answer = c.result;
      agents_left = l.0;
      users_left = l.1.0;
      points_left = l.1.1.0;
    }

-- reader.read(agents, users, points), with the reader's text and position; and both as it left them
abbrev pub reader_call : ReaderRead → ReadCall
reader_call c =
    let a = c.args.1 in
    let l = c.last.1 in
    record {
      text = c.args.0.now.text.now;
      from = c.args.0.now.at;
      agents = a.0.now;
      users = a.1.0.now;
      points = a.1.1.0.now;
      answer = c.result;
      agents_left = l.0;
      users_left = l.1.0;
      points_left = l.1.1.0;
    }

abbrev pub text_left : ReaderRead → List ℕ
text_left c = c.last.0.text.now

abbrev pub position : ReaderRead → ℕ
position c = c.last.0.at

pub Demand_1_file_check : (c : FileChecked) → Checked c.args.0.now (seen c.result)
Demand_1_file_check c = rw c.learnt (file_check c.args.0.now)

pub Demand_1_read_at : (c : ReadAt) → Demand1Reading (at_call c)
Demand_1_read_at c = demand_1 (at_call c) c.learnt

-- the position goes by the answer
pub goes : (c : ReaderRead) (r : Result Header Refusal) → c.result ≡ r → position c ≡ next_of r (reader_call c).from
goes c r e = c.learnt.position ∙ ap (λ (o : Result Header Refusal). next_of o (reader_call c).from) e

pub Demand_1_read : (c : ReaderRead) → Demand1Reader (reader_call c) (text_left c) (position c)
Demand_1_read c =
    let d = demand_1 (reader_call c) c.learnt.reads in
    record {
      reading = d;
      text = ap (λ x. x.now) c.learnt.text;
      moves = λ s. goes c _ (d.written s).answer;
      stays = λ number place e. c.learnt.position ∙ stays c.result (reader_call c).from number place e;
    }
