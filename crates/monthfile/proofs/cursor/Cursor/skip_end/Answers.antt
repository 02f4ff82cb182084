-- Assumes nothing.
use Rattle.monthfile.proofs.DigitSteps.{end_passed}
use Rattle.monthfile.proofs.cursor.Cursor.skip_end.Goals as goal

pub returns : goal.returns
returns c = end_passed c.args.self.now c.eat.new.self c.skip.new.self _ c.eat.ensures.here c.eat.ensures.passed c.skip.ensures
