-- Files that are named, by example: a pack, files that are made on it, and each request that takes one away or makes one, alone behind them.
use Rattle.std.specs.Prelude.{ℕ, ◌+◌, ◌*◌, List, [], ◌∷◌, ◌++◌, replicate}
use Rattle.words.specs.Word.{bytes_of}
use Rattle.pack.specs.declared.Key.{Key}
use Rattle.pack.specs.Consistent.{Consistent}
use Rattle.requests.specs.Request.{FORMAT, OPENO, CLOSE, DELET, RENAM, APPND, FINISH}
use Rattle.requests.specs.FileAt.{FileAt, NoFile}
use Rattle.promises.specs.Sequence.{Step, REQUEST, MANY, image_after_all}

-- [23,10], and its files A and B: 1600 and 3200 are their names in Radix-50, with blanks behind them
abbrev pub owner : ℕ
owner = 0o23 * 256 + 0o10

abbrev pub named : ℕ → Key
named name = record { name1 = name; name2 = 0; extension = 0; uic = owner }

abbrev pub A : Key
A = named 1600

abbrev pub B : Key
B = named 3200

-- a pack of form 3, 16 blocks of 128 bytes, made of zeros
abbrev pub formatting : Step
formatting = REQUEST (FORMAT 3 16 1 (0o10 ∷ (0o23 ∷ [])))

abbrev pub pack : List ℕ
pack = image_after_all (replicate 2048 0) (formatting ∷ [])

-- a file is made, and closed
abbrev pub making : Key → List Step
making key = REQUEST (OPENO key owner 0) ∷ (REQUEST (CLOSE key 2) ∷ [])

abbrev pub pack_a : List ℕ
pack_a = image_after_all pack (making A)

abbrev pub pack_ab : List ℕ
pack_ab = image_after_all pack_a (making B)

-- a record of 16 words that names DELET of A (docs/MANY.md), for the same caller: request 2, the caller, the file, "UIC 0 means the caller's"
abbrev pub deleting : List ℕ
deleting = bytes_of 2 ++ (bytes_of owner ++ (bytes_of 1600 ++ replicate 26 0))

pub record NamedExamples : Type 0 where
  -- the pack is consistent, and so are the images behind it (`sequence_consistent`)
  pub right : Consistent pack
  -- a file that is there, and named, is gone
  pub there : FileAt pack_a A 0
  pub finished : NoFile (image_after_all pack_a (REQUEST (FINISH owner) ∷ [])) A
  pub deleted : NoFile (image_after_all pack_a (REQUEST (DELET A owner) ∷ [])) A
  pub renamed : NoFile (image_after_all pack_a (REQUEST (RENAM A 3200 0 0 0 owner) ∷ [])) A
  pub formatted : NoFile (image_after_all pack_a (formatting ∷ [])) A
  pub recorded : NoFile (image_after_all pack_a (MANY deleting (replicate 32 0) ∷ [])) A
  -- APPND, as its second file
  pub second : FileAt pack_ab A 0
  pub joined : NoFile (image_after_all pack_ab (REQUEST (APPND B A owner) ∷ [])) A
  -- a file that is not there, and named, is there then: OPENO, and RENAM onto its name
  pub absent : NoFile pack A
  pub opened : FileAt (image_after_all pack (REQUEST (OPENO A owner 0) ∷ [])) A 0
  pub other : NoFile pack_a B
  pub onto : FileAt (image_after_all pack_a (REQUEST (RENAM A 3200 0 0 0 owner) ∷ [])) B 0
