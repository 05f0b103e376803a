-- The sizes of buffers, by the form that any image states, of whatever length it is.
use Prim.Native.Nat.{ℕ, ◌+◌, ◌*◌, ◌≤◌, ◌<◌}
use mathlib.Core.Path.{◌≡◌, ap, ◌∙◌}
use mathlib.Core.Bool.{false}
use mathlib.Core.List.{List}
use native.Mathlib.Omega.{arith}
use borrow.Author.Tests.{eqb-true, not-false}
use lib.ListN.{length, get_or, get_or-eq_default}
use Rattle.words.specs.Word.{word_at}
use Rattle.pack.specs.declared.Geometry.{Geometry}
use Rattle.pack.specs.GeometrySized.{most_segments}
use Rattle.pack.specs.Form.{segments_of}
use Rattle.pack.specs.Geometry.{segment_bytes, geometry_of, block_bytes, payload_bytes}
use Rattle.pack.proofs.FormBounds.{segments_few}
use Rattle.bodies.specs.BufferSizes.{wrong_block, wrong_payload}

-- the buffer of a request whose argument is right
module _ (img buffer : List ℕ) (g : Geometry) where
  pub block_fits : wrong_block img buffer ≡ false → geometry_of img ≡ g → length buffer ≡ block_bytes g
  block_fits argument measures = eqb-true _ _ (not-false _ argument) ∙ ap block_bytes measures

  pub payload_fits : wrong_payload img buffer ≡ false → geometry_of img ≡ g → length buffer ≡ payload_bytes g
  payload_fits argument measures = eqb-true _ _ (not-false _ argument) ∙ ap payload_bytes measures

-- word 0 of an image that has no two bytes
pub form_of_none : (img : List ℕ) → length img < 1 → 0 ≡ word_at img 0
unfolding word_at
form_of_none img short =
    let low : length img ≤ 2 * 0 = omega arith in
    let high : length img ≤ 2 * 0 + 1 = omega arith in
    omega (arith, get_or-eq_default img 0 low, get_or-eq_default img 0 high)

pub form_of_one : (img : List ℕ) → length img < 2 → get_or img 0 0 ≡ word_at img 0
unfolding word_at
form_of_one img short =
    let high : length img ≤ 2 * 0 + 1 = omega arith in
    omega (arith, get_or-eq_default img 0 high)

pub bytes_few : (form segments : ℕ) → segments ≡ segments_of form → segments ≤ most_segments
bytes_few form segments is = omega (arith, segments_few form)

pub bytes_stated : (img : List ℕ) (form segments : ℕ) → form ≡ word_at img 0 → segments ≡ segments_of form → segment_bytes segments ≡ block_bytes (geometry_of img)
unfolding geometry_of
bytes_stated img form segments word is = ap segment_bytes (is ∙ ap segments_of word)
