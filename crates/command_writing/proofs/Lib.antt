-- The laws of written command lines: WrittenLine and WrittenCondensed of the line that is written, Records of what it is given by, the files of CsiWrite of the
-- answers, ReadThenWritten of reading and writing together. OctalDigits and AskedRecords are how they are proved; the files behind them are of the code: of what is
-- laid (Laid), of what stands at a place of the records (Standing), and WritingAnswered of the whole. By PartsSought and StandingSought it is decided what stands there, and
-- so CsiWriteAnswers has an answer to every input.
pub mod OctalDigits
pub mod WrittenLine
pub mod Records
pub mod CsiWriteOnly
pub mod CsiWriteCauses
pub mod AskedRecords
pub mod WrittenCondensed
pub mod ReadThenWritten
pub mod CsiWriteEdges
pub mod WrittenExamples
pub mod LaidPieces
pub mod LaidNames
pub mod WordsIn
pub mod StandingMany
pub mod LaidMany
pub mod NameTests
pub mod SayableLines
pub mod PartsLaid
pub mod RecordRows
pub mod StandingSwitches
pub mod PresentBits
pub mod StandingFronts
pub mod StandingSpecifications
pub mod StandingSides
pub mod WritingAnswered
pub mod PartsSought
pub mod StandingSought
pub mod CsiWriteAnswers
