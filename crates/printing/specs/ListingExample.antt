-- Document 01's example of the listing: the images that it describes, and the two lines that it prints.
use Rattle.std.specs.Prelude.{ℕ, ◌+◌, ◌*◌, ◌≤◌, ◌<◌, ◌≡◌, List, ◌++◌}
use Rattle.words.specs.Text.{bytes}
use Rattle.words.specs.Word.{word_at}
use Rattle.pack.specs.declared.Entry.{Entry}
use Rattle.pack.specs.Geometry.{geometry_of}
use Rattle.pack.specs.Entry.{entry_of, Empty}
use Rattle.pack.specs.Consistent.{Consistent}
use Rattle.printing.specs.Listing.{newline}

-- FREQ.DAT of [23,10] as ALLOC leaves it: N = 9 makes three blocks, the highest of 16
abbrev pub freq : Entry
freq =
    record {
      name1 = 10325;
      name2 = 27200;
      extension = 6460;
      uic = 256 * 0o23 + 0o10;
      protect = 3;
      kind = 1;
      first = record { 0 = 13 };
      length = 3;
      last = record { 0 = 15 };
      writer = 0;
      readers = 0;
    }

abbrev pub first_line : List ℕ
first_line = bytes "BLOCKS 00016 FREE 00011" ++ newline

abbrev pub second_line : List ℕ
second_line = bytes "FREQ  .DAT C 00003 [023,010] 003" ++ newline

-- "Format with n = 16, c = 1, ..; ALLOC FREQ.DAT, N = 9, protect 3."
pub record ExamplePack (img : List ℕ) : Type 0 where
  pub right : Consistent img
  pub form : word_at img 0 ≡ 1
  pub blocks : word_at img 1 ≡ 16
  pub contents : word_at img 2 ≡ 1
  pub entry : entry_of img (geometry_of img) 0 ≡ freq
  pub others : (e : ℕ) → 1 ≤ e → e < 16 → Empty img (geometry_of img) e
