-- What the scanner's bytes do to reading's verdict:
--   Joining     parts of the text one after the other
--   ValueSteps  in a value
--   LineSteps   between values, and where lines begin
--   BlockSteps  names, blocks one after the other, and the file's end
--   Checking    the file check's answer from such verdicts
-- What is read at a cursor:
--   DigitSteps  a value
--   ReadSteps   values into a row, lines into a slice
--   FileSteps   a file's blocks are format's reading (`whole`, `refused`)
-- What a caller has of the calls:
--   Told          a refusal told by number and place is one refusal
--   Pins          their contracts, written out
--   Learnt        what the contracts of the two that read tell
--   Promised      what `Reads` promises is demand 1
--   Demand1       DEMAND 1 of reading and of the file check, over what a caller learns
--   Lent          a promise, were the call lent something else that is the same
--   ReadIsReadAt  `read` is `read_at` at the reader's position
--   SavedCalls    the law of the saved file, over what a caller learns
pub mod Joining
pub mod ValueSteps
pub mod LineSteps
pub mod BlockSteps
pub mod Checking
pub mod DigitSteps
pub mod ReadSteps
pub mod FileSteps
pub mod Told
pub mod Pins
pub mod Learnt
pub mod Promised
pub mod Demand1
pub mod Lent
pub mod ReadIsReadAt
pub mod SavedCalls
