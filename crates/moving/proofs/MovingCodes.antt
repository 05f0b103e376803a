-- The call: each code in exactly its case, one answer, and what follows from an answer.
use Prim.Native.Nat.{ℕ, ◌*◌}
use mathlib.Core.Path.{◌≡◌, refl, sym, ap, ◌∙◌}
use mathlib.Core.List.{List}
use native.Mathlib.Omega.{arith}
use lib.ListN.{length}
use Rattle.pack.specs.Geometry.{geometry_of, block_bytes}
use Rattle.pack.specs.Consistent.{Consistent}
use Rattle.moving.specs.declared.Way.{Way}
use Rattle.moving.specs.Ways.{back, moved}
use Rattle.moving.specs.Moved.{Moves, Bytes}
use Rattle.moving.specs.Moving.{RightSource, RightTarget, Moving}
use Rattle.moving.specs.Moving.Moving.{other_source, other_target, moves}
use Rattle.moving.proofs.MovedMeasures.{source_blocks}
use Rattle.moving.proofs.MovedConsistent.{moves_consistent, movable_back}
use Rattle.moving.proofs.MovedBack.{moves_back}
use Rattle.moving.proofs.MovedSingle.{moves_single, moves_again}

module _ {way : Way} {src target : List ℕ} where
  pub code_0 : {after : List ℕ} {code : ℕ} → Moving way src target code after → code ≡ 0 → RightTarget way src (length target) × Moves way src after
  code_0 (other_source wrong) is = absurd (omega (arith, is))
  code_0 (other_target right wrong) is = absurd (omega (arith, is))
  code_0 (moves right m) is = (right, m)

  -- and which code is given when
  pub gives_40 : {after : List ℕ} {code : ℕ} → Moving way src target code after → (RightSource way src → ⊥) → code ≡ 0o40
  gives_40 (other_source wrong) not = refl
  gives_40 (other_target right wrong) not = absurd (not right)
  gives_40 (moves right m) not = absurd (not right.movable.source)

  pub gives_41 : {after : List ℕ} {code : ℕ} → Moving way src target code after → RightSource way src → (RightTarget way src (length target) → ⊥) → code ≡ 0o41
  gives_41 (other_source wrong) right not = absurd (wrong right)
  gives_41 (other_target right wrong) right₂ not = refl
  gives_41 (moves right m) right₂ not = absurd (not right)

  pub gives_0 : {after : List ℕ} {code : ℕ} → Moving way src target code after → RightTarget way src (length target) → code ≡ 0
  gives_0 (other_source wrong) right = absurd (wrong right.movable.source)
  gives_0 (other_target right wrong) right₂ = absurd (wrong right₂)
  gives_0 (moves right m) right₂ = refl

  -- "nothing in the image or a lent buffer changes"
  pub refused_same : {after : List ℕ} {code : ℕ} → Moving way src target code after → (code ≡ 0 → ⊥) → after ≡ target
  refused_same (other_source wrong) some = refl
  refused_same (other_target right wrong) some = refl
  refused_same (moves right m) some = absurd (some refl)

  pub moving_length : {after : List ℕ} {code : ℕ} → Moving way src target code after → length after ≡ length target
  moving_length (other_source wrong) = refl
  moving_length (other_target right wrong) = refl
  moving_length (moves right m) =
      m.long ∙ (ap (λ (n : ℕ). moved way n * block_bytes (geometry_of src)) (source_blocks refl right.movable) ∙ sym right.size)

  pub moving_consistent : {after : List ℕ} {code : ℕ} → Moving way src target code after → code ≡ 0 → Consistent after
  moving_consistent {after} moving is = let done = code_0 moving is in moves_consistent way src after done.0.movable done.1

-- one code, and one target, whatever stood there before
pub moving_code : {way : Way} {src target after after' : List ℕ} {code code' : ℕ} → Moving way src target code after → Moving way src target code' after' → code ≡ code'
moving_code (other_source wrong) second = sym (gives_40 second wrong)
moving_code (other_target right wrong) second = sym (gives_41 second right wrong)
moving_code (moves right m) second = sym (gives_0 second right)

pub moving_single : {way : Way} {src target after after' : List ℕ} {code code' : ℕ} → Moving way src target code after → Moving way src target code' after'
    → Bytes after → Bytes after' → after ≡ after'
moving_single {way} {src} {target} {after} {after'} (other_source wrong) second small small' =
    sym (refused_same second (λ is. omega (arith, is, gives_40 second wrong)))
moving_single {way} {src} {target} {after} {after'} (other_target right wrong) second small small' =
    sym (refused_same second (λ is. omega (arith, is, gives_41 second right wrong)))
moving_single {way} {src} {target} {after} {after'} (moves right m) second small small' =
    moves_single way src after after' right.movable m (code_0 second (gives_0 second right)).1 small small'

-- "Each way followed by the other gives every byte of the starting image again": the way back is not refused, and gives the source
module _ {way : Way} {src target mid target' after : List ℕ} {code : ℕ} (there : Moving way src target 0 mid)
    (again : Moving (back way) mid target' code after) (size : length target' ≡ length src) where
  back_right : RightTarget (back way) mid (length target')
  back_right =
      let done = code_0 there refl in
      let movable = movable_back refl done.0.movable done.1 in
      let home = moves_back way src mid done.0.movable done.1 in
      record { size = size ∙ (home.long ∙ ap (λ (n : ℕ). moved (back way) n * block_bytes (geometry_of mid)) (source_blocks refl movable)); movable = movable }

  pub back_accepted : code ≡ 0
  back_accepted = gives_0 again back_right

  pub back_same : Bytes src → Bytes after → after ≡ src
  back_same small small' =
      let done = code_0 there refl in
      moves_again way src mid after done.0.movable done.1 (code_0 again back_accepted).1 small small'
