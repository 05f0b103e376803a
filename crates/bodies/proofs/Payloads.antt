-- The payloads of a list of blocks, one behind the other: how long they are, which byte stands where, of joined lists, and where the bytes are the same.
use Prim.Native.Nat.{ℕ, ◌+◌, ◌*◌, ◌-◌, ◌≤◌, ◌<◌}
use mathlib.Core.Path.{◌≡◌, refl, sym, ap, ◌∙◌}
use mathlib.Core.List.{List, [], ◌∷◌, ◌++◌, append_assoc, append-nil}
use native.Mathlib.Omega.{arith}
use lib.ListN.{length, get_or, length-append, get_or-append}
use lib.Seq.{get_or-append-add}
use Rattle.pack.specs.declared.Geometry.{Geometry}
use Rattle.pack.specs.GeometrySized.{Sized}
use Rattle.pack.specs.Geometry.{block_bytes, payload_bytes}
use Rattle.pack.specs.File.{count}
use Rattle.pack.proofs.FileCount.{count_same, count_more}
use Rattle.bodies.specs.BlockBytes.{payload_start, payload_of}
use Rattle.bodies.specs.Payloads.{payloads_of}
use Rattle.bodies.proofs.BlockBytes.{payload_same, payload_length, payload_byte}

module _ (img : List ℕ) (g : Geometry) where
  pub payloads_one : (b : ℕ) → payloads_of img g (b ∷ []) ≡ payload_of img g b
  unfolding payloads_of
  payloads_one b = append-nil (payload_of img g b)

  pub payloads_append : (bs cs : List ℕ) → payloads_of img g (bs ++ cs) ≡ payloads_of img g bs ++ payloads_of img g cs
  unfolding payloads_of
  payloads_append [] cs = refl
  payloads_append (b ∷ bs) cs =
      ap (λ (s : List ℕ). payload_of img g b ++ s) (payloads_append bs cs) ∙ sym (append_assoc (payload_of img g b) (payloads_of img g bs) (payloads_of img g cs))

  module _ (sized : Sized img g) where
    -- each block of the list is one of the pack: a payload for each
    pub payloads_length : (bs : List ℕ) → ((b : ℕ) → 0 < count b bs → b < g.blocks) → length (payloads_of img g bs) ≡ length bs * payload_bytes g
    unfolding payloads_of
    payloads_length [] below = omega arith
    payloads_length (b ∷ bs) below =
        let first : b < g.blocks = below b (omega (arith, count_same b b bs refl)) in
        omega (
          arith,
          length-append (payload_of img g b) (payloads_of img g bs),
          payload_length img g b sized first,
          payloads_length bs (λ z reached. below z (omega (arith, reached, count_more z b bs))),
        )

    module _ (b : ℕ) (bs : List ℕ) (first : b < g.blocks) (position : ℕ) where
      -- a position in the first payload: a byte of the first block
      pub payloads_here : position < payload_bytes g → get_or (payloads_of img g (b ∷ bs)) position 0 ≡ get_or img (payload_start g b + position) 0
      unfolding payloads_of
      payloads_here inside =
          get_or-append (payload_of img g b) (payloads_of img g bs) 0 position (omega (arith, payload_length img g b sized first))
          ∙ payload_byte img g b sized first position inside

      -- a position behind it: so much nearer in the payloads of the blocks behind the first
      pub payloads_behind : payload_bytes g ≤ position → get_or (payloads_of img g (b ∷ bs)) position 0 ≡ get_or (payloads_of img g bs) (position - payload_bytes g) 0
      unfolding payloads_of
      payloads_behind past =
          let size = payload_length img g b sized first in
          let place : position ≡ length (payload_of img g b) + (position - payload_bytes g) = omega (arith, size) in
          ap (λ (p : ℕ). get_or (payload_of img g b ++ payloads_of img g bs) p 0) place
          ∙ get_or-append-add (payload_of img g b) (payloads_of img g bs) (position - payload_bytes g) 0

-- the payloads of an image whose bytes behind the links of these blocks are the same
pub payloads_same : (img img' : List ℕ) (g : Geometry) → length img' ≡ length img → (bs : List ℕ)
    → ((b : ℕ) → 0 < count b bs → (i : ℕ) → 2 ≤ i → i < block_bytes g → get_or img' (b * block_bytes g + i) 0 ≡ get_or img (b * block_bytes g + i) 0)
    → payloads_of img' g bs ≡ payloads_of img g bs
unfolding payloads_of
payloads_same img img' g long [] same = refl
payloads_same img img' g long (b ∷ bs) same =
    ap (λ (s : List ℕ). s ++ payloads_of img' g bs) (payload_same img img' g b long (same b (omega (arith, count_same b b bs refl))))
    ∙ ap (λ (s : List ℕ). payload_of img g b ++ s) (payloads_same img img' g long bs (λ z reached. same z (omega (arith, reached, count_more z b bs))))
