-- Means: a piece of text put into a buffer.
use Rattle.std.specs.Prelude.{ℕ, ◌+◌, ◌≡◌, List, length}
use Rattle.std.proofs.lemmas.List.Edits.{sets}

-- the piece stands in the buffer from `at` on, `next` is the place behind it, and the rest of the buffer is as it was
pub record Put (before after : List ℕ) (at next : ℕ) (piece : List ℕ) : Type 0 where
  pub text : after ≡ sets before at piece
  pub behind : next ≡ at + length piece
