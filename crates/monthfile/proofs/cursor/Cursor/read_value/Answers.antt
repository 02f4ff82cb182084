-- Assumes nothing.
use Rattle.monthfile.proofs.DigitSteps.{plain_value, minus_value}
use Rattle.monthfile.proofs.cursor.Cursor.read_value.Goals as goal

pub returns-then-eat : goal.returns-then-eat
returns-then-eat c =
    minus_value _ c.eat.new.self _ _ _ c.eat.ensures.here c.eat.ensures.passed c.read_digits.ensures.read c.read_digits.ensures.small c.if-eat.true

pub returns-else-eat : goal.returns-else-eat
returns-else-eat c =
    plain_value _ c.eat.new.self _ _ _ c.eat.ensures.here c.eat.ensures.passed
    c.read_digits-else-eat.ensures.read c.read_digits-else-eat.ensures.small c.if-eat.false
