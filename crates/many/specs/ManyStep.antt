-- Means: what the making of the records of a list shows of image, map and answers.
use Rattle.std.specs.Prelude.{ℕ, ◌≡◌, List}
use Rattle.std.proofs.lemmas.List.Edits.{sets}
use Rattle.consistency.specs.ConsistentTest.{Opened}
use Rattle.listed.specs.declared.Record.{Record}
use Rattle.listed.specs.Record.{requests_in}
use Rattle.listed.specs.Listed.{image_after, answers_after}
use Rattle.listed.specs.RecordStep.{Fits}

-- the image is the one that the requests leave, their answers stand from the start on, and what fitted fits
pub record Folded (img answers : List ℕ) (opened : Opened) (records : List Record) (img' map' answers' : List ℕ) : Type 0 where
  pub image : img' ≡ image_after img (requests_in records)
  pub beside : answers' ≡ sets answers 0 (answers_after img (requests_in records))
  pub fits : Fits img' map' opened
