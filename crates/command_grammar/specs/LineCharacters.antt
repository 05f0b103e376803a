-- The characters of a command line, by their ASCII numbers. Letters and digits are those of a legal name.
use Rattle.std.specs.Prelude.{ℕ, Bool, ◌&&◌, leb}

abbrev pub is_octal : ℕ → Bool
is_octal x = leb 48 x && leb x 55

abbrev pub comma : ℕ
comma = 44

abbrev pub period : ℕ
period = 46

abbrev pub slash : ℕ
slash = 47

abbrev pub colon : ℕ
colon = 58

abbrev pub less : ℕ
less = 60

abbrev pub opening : ℕ
opening = 91

abbrev pub closing : ℕ
closing = 93
