-- RADUP: a word makes three characters.
use Rattle.std.specs.Prelude.{ℕ, List}
use Rattle.answers.specs.Conversion.{Converted, to_characters}
use Rattle.radix.specs.Packing.{characters_of}

-- "Character buffers are of exactly 3 .. bytes": a word makes three characters
unfoldable pub radup : ℕ → List ℕ → Converted
radup word buffer = to_characters 3 characters_of word buffer
