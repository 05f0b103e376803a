-- A move gives each code exactly in its case, in the paper's own numbers; and every call has an answer.
use Prim.Native.Nat.{ℕ, ◌+◌, ◌-◌, ◌*◌}
use mathlib.Core.Path.{◌≡◌, ap, ◌∙◌}
use mathlib.Core.Logic.{◌↔◌}
use mathlib.Core.List.{List}
use native.Mathlib.Omega.{arith}
use lib.ListN.{length}
use Rattle.words.specs.Word.{word_at}
use Rattle.pack.specs.Form.{most_blocks_of, most_contents_of}
use Rattle.moving.specs.declared.Way.{Way}
use Rattle.moving.specs.declared.Way.TheVariants.{Up, Down}
use Rattle.moving.specs.Ways.{moved}
use Rattle.moving.specs.Moving.{RightSource, RightTarget, Moving}
use Rattle.moving.specs.Moving.Moving.{other_source, other_target, moves}
use Rattle.moving.proofs.MovedMeasures.{right_bytes, movable_up}
use Rattle.promises.specs.GivenWhen.{GivesCode, success, here, behind}
use Rattle.promises.specs.MovesCodes.{OtherSource, OtherTarget, MoveCases}
use Rattle.promises.proofs.GivenWhen.{exactly}

-- the source, and the target, in the paper's numbers
not_other : (way : Way) (src : List ℕ) → RightSource way src → OtherSource way src → ⊥
not_other Up src right other = other (right.consistent, right.form)
not_other Down src right other = other (right.consistent, right.form)

is_other : (way : Way) (src : List ℕ) → (RightSource way src → ⊥) → OtherSource way src
is_other Up src wrong = λ is. wrong (record { consistent = is.0; form = is.1 })
is_other Down src wrong = λ is. wrong (record { consistent = is.0; form = is.1 })

not_wrong : (way : Way) (src : List ℕ) (long : ℕ) → RightTarget way src long → OtherTarget way src long → ⊥
unfolding moved most_blocks_of most_contents_of
not_wrong Up src long right other =
    let source = right.movable.source in
    other (omega (arith, right.size, ap (λ (n : ℕ). (word_at src 1 + 1) * n) (right_bytes source)))
not_wrong Down src long right other =
    let source = right.movable.source in
    other (
      omega (arith, right.size, ap (λ (n : ℕ). (word_at src 1 - 1) * n) (right_bytes source)),
      right.movable.blocks_least,
      right.movable.blocks_most,
      right.movable.contents_most,
    )

is_wrong : (way : Way) (src : List ℕ) (long : ℕ) → RightSource way src → (RightTarget way src long → ⊥) → OtherTarget way src long
unfolding moved most_blocks_of most_contents_of
is_wrong Up src long source wrong =
    λ is. wrong (
    record {
      size = is ∙ omega (arith, ap (λ (n : ℕ). (word_at src 1 + 1) * n) (right_bytes source));
      movable = movable_up src source.consistent source.form;
    })
is_wrong Down src long source wrong =
    λ is. wrong (
    record {
      size = is.0 ∙ omega (arith, ap (λ (n : ℕ). (word_at src 1 - 1) * n) (right_bytes source));
      movable = record { source = source; blocks_least = is.1; blocks_most = is.2; contents_most = is.3 };
    })

module _ (way : Way) (src target : List ℕ) where
  move_code : (code : ℕ) (after : List ℕ) → Moving way src target code after → GivesCode (MoveCases way src (length target)) code
  move_code code after (other_source wrong) = here (is_other way src wrong)
  move_code code after (other_target right wrong) = behind (not_other way src right) (here (is_wrong way src (length target) right wrong))
  move_code code after (moves right m) =
      behind (not_other way src right.movable.source) (behind (not_wrong way src (length target) right) success)

  -- 1.2 for moves
  pub moves_code_iff : (given : ℕ) (after : List ℕ) → Moving way src target given after
      → (code : ℕ) → given ≡ code ↔ GivesCode (MoveCases way src (length target)) code
  moves_code_iff given after is = exactly (MoveCases way src (length target)) (move_code given after is)
