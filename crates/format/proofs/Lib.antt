-- What is proved of the month file, and where:
--   Decimals    a value's text, in paper 01's words (`values`)
--   Live        every state of the machine can be finished (`live`)
--   Table       the table's rule: every block has a column and names that begin no line of values (`all_headed`)
--   Plain       no name and no value's text has an LF or a CR (`plain_names`, `plain_text`)
--   Slices      a file that slices do not take has more lines of a kind than its slice takes (`too_many_lem`, `not_over`)
--   Accepts     machine and language are the same (`accepts`), from Laid, Sound and Takes
--   FileCheck   refusal 11's place is paper 01's (`judged`), and so is the file check's answer (`file_check`)
--   Answers     reading's answer is what paper 01 says (`reads`), and no other is (`one-answer`, `reading_is`); `round-trip`
--   FileByFile  a text is files on end exactly where reading reads file after file to its end (`file_by_file`, `checked_by_reading`)
--   CheckPlace  the file check's place is that of the file that comes back (`checked_by_refusal`), and how a
--               program finds it file by file (`check_fault`, `check_on`, `check_last`)
--   SavedReads  a text with CRs added before LFs is read to the same values and refused with the same numbers, and the file check
--               answers the same, every place moved (`same_reading`, `same-check`), from SavedScans and SavedValues
--   Examples    paper 01's file and its refusals, by computation
pub mod Decimals
pub mod Live
pub mod Table
pub mod Plain
pub mod Slices
pub mod Laid
pub mod Sound
pub mod Takes
pub mod Places
pub mod Accepts
pub mod FileCheck
pub mod Values
pub mod Changed
pub mod Scans
pub mod Wide
pub mod Answers
pub mod FileByFile
pub mod CheckPlace
pub mod SavedScans
pub mod SavedValues
pub mod SavedReads
pub mod Examples
