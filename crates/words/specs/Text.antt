-- Characters written as a text, so that an example can be read.
use Rattle.std.specs.Prelude.{ℕ, List, [], ◌∷◌}
use Prim.Native.Char.{code}
use Prim.Native.String.{String, [] as end, ◌∷◌ as ◌then◌}

-- the numbers of the characters of a text; those of ASCII are its bytes
abbrev pub bytes : String → List ℕ
bytes end = []
bytes (c then text) = code c ∷ bytes text
