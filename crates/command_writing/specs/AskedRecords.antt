-- The records that a host has who asks CSI2 for the specifications of a side at k = 0, 1, .. up to the first 51, and keeps each answer as it comes.
use Rattle.std.specs.Prelude.{ℕ, zero, suc, ◌+◌, ◌*◌, ◌≡◌, List, [], ◌++◌, take, drop}
use Rattle.words.specs.Word.{word_at, word_bytes}
use Rattle.command.specs.Csi2.{Csi2Answered}
use Rattle.command.specs.declared.csi2.SpecificationAnswer.{SpecificationAnswer}
use Rattle.command_writing.specs.Records.{record_words}

-- "per switch a word with the number of values, two name words, two words per value, each word as two bytes": the bytes of the first switch of a buffer
abbrev pub first_bytes : List ℕ → ℕ
first_bytes bytes = 2 * (3 + 2 * word_at bytes 0)

-- how many bytes so many switches take
unfoldable pub switch_bytes : ℕ → List ℕ → ℕ
switch_bytes zero bytes = 0
switch_bytes (suc count) bytes = first_bytes bytes + switch_bytes count (drop (first_bytes bytes) bytes)

-- of an answer its nine numbers as words, and behind them so many bytes of the buffer as its switches take
abbrev pub kept_record : SpecificationAnswer → List ℕ → List ℕ
kept_record answer after = word_bytes (record_words answer.numbers) ++ take (switch_bytes answer.numbers.switches after) after

-- how many specifications a host counts, and the records that it keeps, who asks at k, k + 1, .. with the buffers that it lends, and stops at the first 51
pub data RecordsAsked (line : List ℕ) (side : ℕ) (lent : ℕ → List ℕ) : ℕ → ℕ → List ℕ → Type 0 where
  stops : {k : ℕ} {answer : SpecificationAnswer} {after : List ℕ} → Csi2Answered line side k (lent k) answer after → answer.code ≡ 0o51
      → RecordsAsked line side lent k 0 []
  goes : {k count : ℕ} {answer : SpecificationAnswer} {after rest : List ℕ} → Csi2Answered line side k (lent k) answer after → answer.code ≡ 0
      → RecordsAsked line side lent (suc k) count rest
      → RecordsAsked line side lent k (suc count) (kept_record answer after ++ rest)
