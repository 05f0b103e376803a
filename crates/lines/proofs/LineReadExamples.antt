-- Lines read, worked out: what each mode makes of bytes with bit 7 set, of a line as long as the buffer, of a longer one, and of the end of the file.
use mathlib.Core.Path.{◌≡◌, refl}
use mathlib.Core.List.{[], ◌∷◌, ◌++◌}
use Rattle.words.specs.Text.{bytes}
use Rattle.lines.specs.declared.LineMode.TheVariants.{Normal, Special}
use Rattle.lines.specs.TextBytes.{kept_of, through, any_of}
use Rattle.lines.specs.LineRead.{passed_for, line_found}

-- bit 7 is cleared first: 200 is a NUL, 377 a RUBOUT, 212 a LINE FEED
pub cleared_first : line_found Normal 8 (0o200 ∷ (0o301 ∷ (0o377 ∷ (0o212 ∷ bytes "B")))) ≡ record { laid = bytes "A" ++ (10 ∷ []); count = 2; status = 0; passed = 4 }
unfolding line_found kept_of through any_of
cleared_first = refl

-- as many characters as the buffer has, and the file ends
pub full_normal : line_found Normal 2 (bytes "AB") ≡ record { laid = bytes "AB"; count = 2; status = 65; passed = 2 }
unfolding line_found kept_of through any_of
full_normal = refl

pub full_special : line_found Special 2 (bytes "AB" ++ (0 ∷ [])) ≡ record { laid = bytes "AB"; count = 2; status = 1; passed = 2 }
unfolding line_found kept_of through any_of passed_for
full_special = refl

-- a line longer than the buffer
pub over_normal : line_found Normal 2 (bytes "ABC" ++ (10 ∷ bytes "D")) ≡ record { laid = bytes "A" ++ (10 ∷ []); count = 4; status = 1; passed = 4 }
unfolding line_found kept_of through any_of
over_normal = refl

pub over_special : line_found Special 2 (bytes "A" ++ (127 ∷ (bytes "BC" ++ (10 ∷ [])))) ≡ record { laid = bytes "AB"; count = 2; status = 1; passed = 3 }
unfolding line_found kept_of through any_of passed_for
over_special = refl
