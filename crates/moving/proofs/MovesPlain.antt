-- What was asked, of the measures that the two images state and of calls that gave 0: the files, their blocks and bytes, whose each block is; and that every
-- call has one answer.
use Prim.Native.Nat.{ℕ, ◌+◌, ◌*◌, ◌≤◌, ◌<◌}
use mathlib.Core.Path.{◌≡◌, refl, sym, ap, ◌∙◌}
use mathlib.Core.Bool.{Bool, true, false}
use mathlib.Core.List.{List, map}
use native.Mathlib.Decide.{ℕ_discrete, dec_le}
use lib.ListN.{length, get_or}
use Rattle.answers.proofs.RefusalsTests.{true_not_false}
use Rattle.words.specs.Word.{word_at}
use Rattle.pack.specs.declared.Geometry.{Geometry}
use Rattle.pack.specs.Form.{least_blocks, most_blocks_of, most_contents_of}
use Rattle.pack.specs.Geometry.{geometry_of, block_bytes, slots}
use Rattle.pack.specs.File.{count}
use Rattle.pack.specs.Entry.{entry_of, blocks_at}
use Rattle.pack.specs.Owner.{owner_of}
use Rattle.pack.specs.Consistent.{held_in, held, Consistent}
use Rattle.frame.proofs.FramedStays.{held_at}
use Rattle.consistency.specs.ConsistentTest.{consistent}
use Rattle.consistency.proofs.ConsistentTestIff.{consistent_iff}
use Rattle.moving.specs.declared.Way.{Way}
use Rattle.moving.specs.Ways.{from_form, to_form, moved, renumbered}
use Rattle.moving.specs.Moved.{moved_entry, Moves, Bytes}
use Rattle.moving.specs.Moving.{RightSource, Movable, RightTarget, Moving}
use Rattle.moving.specs.Moving.Moving.{other_source, other_target, moves}
use Rattle.moving.proofs.MovedMeasures.{geometry_moved}
use Rattle.moving.proofs.MovedFiles.{entry_moved, blocks_moved}
use Rattle.moving.proofs.MovedBack.{held_there}
use Rattle.moving.proofs.MovedBodies.{free_untouched, contiguous_untouched, payload_untouched}
use Rattle.moving.proofs.MovedOwners.{owner_moved}
use Rattle.moving.proofs.MovedExists.{moves_exist}
use Rattle.moving.proofs.MovingCodes.{code_0}

module _ {way : Way} {src target after : List ℕ} (done : Moving way src target 0 after) where
  movable : Movable way src
  movable = (code_0 done refl).0.movable

  m : Moves way src after
  m = (code_0 done refl).1

  -- there are as many entries, and each is the same but for its numbers of blocks
  pub moves_slots : slots (geometry_of after) ≡ slots (geometry_of src)
  moves_slots = ap slots (sym (geometry_moved refl movable m))

  pub moves_entry : (e : ℕ) → e < slots (geometry_of src) → entry_of after (geometry_of after) e ≡ moved_entry way (entry_of src (geometry_of src) e)
  moves_entry e within = ap (λ (h : Geometry). entry_of after h e) (sym (geometry_moved refl movable m)) ∙ entry_moved refl movable m e within

  -- the blocks of each file, renumbered
  pub moves_blocks : (e : ℕ) → e < slots (geometry_of src) → blocks_at after (geometry_of after) e ≡ map (renumbered way) (blocks_at src (geometry_of src) e)
  moves_blocks e within = ap (λ (h : Geometry). blocks_at after h e) (sym (geometry_moved refl movable m)) ∙ blocks_moved refl movable m e within

  -- a block is held there as often as where it came from
  pub moves_held : (b : ℕ) → held after (moved way b) ≡ held src b
  unfolding held
  moves_held b = ap (λ (h : Geometry). held_in after h (moved way b)) (sym (geometry_moved refl movable m)) ∙ held_there refl movable m b

  -- and by the same entry at the same place, or free
  pub moves_owner : (b : ℕ) → (geometry_of src).bodies.0 ≤ b → owner_of after (moved way b) ≡ owner_of src b
  moves_owner b low = owner_moved refl movable m b low

  -- the bytes of bodies: of free ones and of contiguous files all, of any block all but the link
  abbrev Same : ℕ → ℕ → Type 0
  Same b i = get_or after (moved way b * block_bytes (geometry_of src) + i) 0 ≡ get_or src (b * block_bytes (geometry_of src) + i) 0

  pub moves_free : (b : ℕ) → (geometry_of src).bodies.0 ≤ b → b < (geometry_of src).blocks → held src b ≡ 0 → (i : ℕ) → i < block_bytes (geometry_of src) → Same b i
  moves_free b low high free = free_untouched refl movable m b low high (sym (held_at src (geometry_of src) b refl) ∙ free)

  pub moves_contiguous : (e : ℕ) → e < slots (geometry_of src) → (entry_of src (geometry_of src) e).kind ≡ 1 → (b : ℕ) → 0 < count b (blocks_at src (geometry_of src) e)
      → (i : ℕ) → i < block_bytes (geometry_of src) → Same b i
  moves_contiguous e within kind b has = contiguous_untouched refl movable m e within kind b has

  pub moves_payload : (b : ℕ) → (geometry_of src).bodies.0 ≤ b → b < (geometry_of src).blocks → (i : ℕ) → 2 ≤ i → i < block_bytes (geometry_of src) → Same b i
  moves_payload b low high i behind small = payload_untouched refl movable m b low high i behind small

-- every call has an answer: the check decides whether a source is consistent
pub record Answered (way : Way) (src target : List ℕ) : Type 0 where
  pub code : ℕ
  pub after : List ℕ
  pub is : Moving way src target code after
  pub bytes : Bytes target → Bytes after

module _ (way : Way) (src target : List ℕ) (small : Bytes src) where
  whole : RightTarget way src (length target) → Answered way src target
  whole right = let there = moves_exist way src right.movable small in record { code = 0; after = there.image; is = moves right there.moves; bytes = λ held. there.bytes }

  refused : RightSource way src → (RightTarget way src (length target) → ⊥) → Answered way src target
  refused right not = record { code = 0o41; after = target; is = other_target right not; bytes = λ held. held }

  bounds : RightSource way src → Dec (length target ≡ moved way (word_at src 1) * block_bytes (geometry_of src)) → Dec (least_blocks ≤ moved way (word_at src 1))
      → Dec (moved way (word_at src 1) ≤ most_blocks_of (to_form way)) → Dec (word_at src 2 ≤ most_contents_of (to_form way)) → Answered way src target
  bounds right (no other) d d₂ d₃ = refused right (λ t. other t.size)
  bounds right (yes size) (no other) d d₂ = refused right (λ t. other t.movable.blocks_least)
  bounds right (yes size) (yes least) (no other) d = refused right (λ t. other t.movable.blocks_most)
  bounds right (yes size) (yes least) (yes most) (no other) = refused right (λ t. other t.movable.contents_most)
  bounds right (yes size) (yes least) (yes most) (yes contents) =
      whole (record { size = size; movable = record { source = right; blocks_least = least; blocks_most = most; contents_most = contents } })

  form : Consistent src → Dec (word_at src 0 ≡ from_form way) → Answered way src target
  form right (no other) = record { code = 0o40; after = target; is = other_source (λ is. other is.form); bytes = λ held. held }
  form right (yes is) = bounds (record { consistent = right; form = is }) (ℕ_discrete _ _) (dec_le _ _) (dec_le _ _) (dec_le _ _)

  judged : (test : Bool) → consistent src ≡ test → Answered way src target
  judged true is = form ((consistent_iff src).0 is) (ℕ_discrete (word_at src 0) (from_form way))
  judged false is =
      record {
        code = 0o40;
        after = target;
        is = other_source (λ right. true_not_false (sym ((consistent_iff src).1 right.consistent) ∙ is));
        bytes = λ held. held;
      }

  pub moving_answered : Answered way src target
  moving_answered = judged (consistent src) refl
