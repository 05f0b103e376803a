-- RADPK and RADUP undo each other.
use Prim.Native.Nat.{ℕ}
use mathlib.Core.Path.{◌≡◌}
use mathlib.Core.List.{List}
use lib.ListN.{length}
use Rattle.answers.proofs.Conversion.{number_again}
use Rattle.radix.specs.Radpk.{radpk}
use Rattle.radix.specs.Radup.{radup}
use Rattle.radix.proofs.Packing.{word_pair}

-- RADPK after RADUP gives the word again
pub word_again : (w : ℕ) (buffer : List ℕ) → (radup w buffer).code ≡ 0 → radpk (radup w buffer).buffer ≡ record { code = 0; number = w }
unfolding radpk radup
word_again w buffer success = number_again word_pair w buffer success

-- RADUP after RADPK gives the characters again
pub characters_again : (s buffer : List ℕ) → length buffer ≡ 3 → (radpk s).code ≡ 0 → radup (radpk s).number buffer ≡ record { code = 0; buffer = s }
unfolding radpk radup
characters_again s buffer same success = Rattle.answers.proofs.Conversion.characters_again word_pair s buffer same success
