-- Many requests in one call (document 02 §9): when the whole call is refused, and which request the words of a record name, as docs/MANY.md draws them.
use Rattle.std.specs.Prelude.{ℕ, ◌+◌, ◌*◌, ◌/◌, ◌%◌, ◌<◌, ◌≡◌, ◌⊎◌, List, [], ◌∷◌, length, get_or}
use Rattle.std.proofs.Math.Option.{Option, none, some}
use Rattle.words.specs.Word.{word_at}
use Rattle.pack.specs.declared.Key.{Key}
use Rattle.asking.specs.Keys.{key_of}
use Rattle.asking.specs.Outcome.{Outcome}
use Rattle.opening.specs.declared.Opening.TheVariants.{Input, Update, Extension}
use Rattle.requests.specs.Request.{Request, Names, ALLOC, OPENO, OPEN, CLOSE, DELET, RENAM, APPND, KEEP}
use Rattle.promises.specs.GivenWhen.{Case, ◌when◌}

-- "41 for the whole call, all buffers kept, if there are over 64 records or a part of one, or the answers have less room than the records"
abbrev pub ManyCases : List ℕ → List ℕ → List Case
ManyCases records answers =
    0o41 when (64 < length records / 32) ∷ (0o41 when (length records % 32 ≡ 0 → ⊥) ∷ (0o41 when (length answers < length records) ∷ []))

-- word k of record i, and of answer i: "16 words a record .., answers likewise"
abbrev pub word_of : List ℕ → ℕ → ℕ → ℕ
word_of bytes i k = word_at bytes (16 * i + k)

-- a file's two name words, extension and UIC are words 2 to 5, and those of APPND's second file words 6 to 9; "UIC 0 in a request means the caller's.", who is word 1
module _ (word : ℕ → ℕ) where
  abbrev pub file_named : Key
  file_named = key_of (word 1) (word 2) (word 3) (word 4) (word 5)

  abbrev pub second_named : Key
  second_named = key_of (word 1) (word 6) (word 7) (word 8) (word 9)

  -- a row for each request: its number, and which words are its arguments. No other word is looked at; any other number names no request
  pub data NamedBy : Option Request → Type 0 where
    alloc : word 0 ≡ 1 → NamedBy (some (ALLOC file_named (word 1) (word 6) (word 7)))
    delet : word 0 ≡ 2 → NamedBy (some (DELET file_named (word 1)))
    renam : word 0 ≡ 3 → NamedBy (some (RENAM file_named (word 6) (word 7) (word 8) (word 9) (word 1)))
    appnd : word 0 ≡ 4 → NamedBy (some (APPND file_named second_named (word 1)))
    keep : word 0 ≡ 5 → NamedBy (some (KEEP file_named (word 1)))
    openo : word 0 ≡ 6 → NamedBy (some (OPENO file_named (word 1) (word 6)))
    openi : word 0 ≡ 7 → NamedBy (some (OPEN Input file_named (word 1)))
    openu : word 0 ≡ 8 → NamedBy (some (OPEN Update file_named (word 1)))
    opene : word 0 ≡ 9 → NamedBy (some (OPEN Extension file_named (word 1)))
    close : word 0 ≡ 10 → NamedBy (some (CLOSE file_named (word 6)))
    nothing : (word 0 ≡ 0) ⊎ (10 < word 0) → NamedBy none

-- no record, of the first so many, names this file
abbrev pub NotNamed : List ℕ → Key → ℕ → Type 0
NotNamed records who count = (i : ℕ) → i < count → (r : Request) → NamedBy (word_of records i) (some r) → Names r who → ⊥

-- answer i says what is due: word 0 the code, word 1 the number of ALLOC, every other 0
pub record Answers (answers : List ℕ) (i : ℕ) (due : Outcome) : Type 0 where
  pub code : word_of answers i 0 ≡ due.code
  pub number : word_of answers i 1 ≡ get_or due.numbers 0 0
  pub others : (k : ℕ) → 1 < k → k < 16 → word_of answers i k ≡ 0
