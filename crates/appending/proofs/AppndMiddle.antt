-- The first file's words and the link between two files, as they stand before the second entry is cleared.
use Prim.Native.Nat.{ℕ, ◌+◌, ◌*◌, ◌≤◌, ◌<◌}
use mathlib.Core.Path.{◌≡◌, refl, sym, subst, ◌∙◌}
use mathlib.Core.List.{List}
use native.Mathlib.Omega.{arith}
use native.Mathlib.Decide.{ℕ_discrete}
use lib.ListN.{get_or}
use Rattle.words.specs.Word.{set_word}
use Rattle.words.proofs.Word.{length_set_word, byte_set_other}
use Rattle.pack.specs.declared.Geometry.{Geometry}
use Rattle.pack.specs.Geometry.{geometry_of, slots, block_at, block_bytes}
use Rattle.pack.specs.GeometrySized.{Sized}
use Rattle.pack.specs.File.{link_of}
use Rattle.pack.specs.Entry.{entry_of, blocks_at}
use Rattle.pack.specs.Consistent.{Consistent}
use Rattle.pack.proofs.GeometryRoom.{sized_same}
use Rattle.frame.specs.Framed.{Only, Never, Kept}
use Rattle.frame.specs.Growth.{EndedChain, Resized}
use Rattle.frame.proofs.FramedCompose.{link_kept, block_kept}
use Rattle.frame.proofs.FramedStays.{entries_at}
use Rattle.pack.proofs.ConsistentHeld.{right_bodies}
use Rattle.frame.proofs.FramedWritten.{kept_link, link_set_same, link_set_entry}
use Rattle.frame.proofs.GrowthChain.{ended_first, ended_last}
use Rattle.frame.proofs.GrowthResized.{linked_ended}
use Rattle.frame.proofs.ChangesWritten.{changes_nothing, changes_then}
use Rattle.bodies.specs.EntryChain.{resized}
use Rattle.bodies.proofs.BlockBytes.{behind_link}
use Rattle.bodies.proofs.EntryChain.{resized_kept, resized_words, resized_first, resized_size, resized_last}
use Rattle.bodies.proofs.EntryChainLinked.{Joint}
use Rattle.appending.specs.Appnd.{chain_joined}
use Rattle.appending.proofs.AppndWrites.{joined_nothing, joined_whole, joined_linked}

-- what `Joined` says of the first file, and that no byte but those of links is another
pub record Middle (img mid : List ℕ) (g : Geometry) (x y : ℕ) : Type 0 where
  pub kept : Kept (Only x) (Joint img g x) img mid g
  pub resized : Resized img mid g x
  pub size : (entry_of mid g x).length ≡ (entry_of img g x).length + (entry_of img g y).length
  pub first : 0 < (entry_of img g x).length → (entry_of mid g x).first.0 ≡ (entry_of img g x).first.0
  pub begun : (entry_of img g x).length ≡ 0 → (entry_of mid g x).first.0 ≡ (entry_of img g y).first.0
  pub final : 0 < (entry_of img g y).length → (entry_of mid g x).last.0 ≡ (entry_of img g y).last.0
  pub ended : (entry_of img g y).length ≡ 0 → (entry_of mid g x).last.0 ≡ (entry_of img g x).last.0
  pub joint : 0 < (entry_of img g x).length → 0 < (entry_of img g y).length → link_of mid g (entry_of img g x).last.0 ≡ (entry_of img g y).first.0
  pub alone : 0 < (entry_of img g x).length → (entry_of img g y).length ≡ 0
      → link_of mid g (entry_of img g x).last.0 ≡ link_of img g (entry_of img g x).last.0
  pub payload : (b i : ℕ) → g.bodies.0 ≤ b → b < g.blocks → 2 ≤ i → i < block_bytes g
      → get_or mid (b * block_bytes g + i) 0 ≡ get_or img (b * block_bytes g + i) 0

module _ (img : List ℕ) (g : Geometry) (x y : ℕ) (stated : g ≡ geometry_of img) (consistent : Consistent img) (sized : Sized img g)
    (within : x < slots g) (within₂ : y < slots g) (linked : (entry_of img g x).kind ≡ 2) (linked₂ : (entry_of img g y).kind ≡ 2) where
  first_chain : EndedChain (link_of img g) (entry_of img g x).first.0 (entry_of img g x).length (entry_of img g x).last.0 (blocks_at img g x)
  first_chain = linked_ended img g x (entries_at img g stated consistent x within) linked

  second_chain : EndedChain (link_of img g) (entry_of img g y).first.0 (entry_of img g y).length (entry_of img g y).last.0 (blocks_at img g y)
  second_chain = linked_ended img g y (entries_at img g stated consistent y within₂) linked₂

  -- nothing to join
  middle_nothing : (entry_of img g y).length ≡ 0 → Middle img img g x y
  middle_nothing none =
      record {
        kept = changes_nothing;
        resized = record { words = λ i small six seven eight. refl };
        size = omega (arith, none);
        first = λ some. refl;
        begun = λ empty. ended_first first_chain empty ∙ sym (ended_first second_chain none);
        final = λ some. absurd (omega (arith, some, none));
        ended = λ empty. refl;
        joint = λ some more. absurd (omega (arith, more, none));
        alone = λ some empty. refl;
        payload = λ b i low high behind small. refl;
      }

  -- the first file takes the second's blocks as they are
  middle_whole : 0 < (entry_of img g y).length → (entry_of img g x).length ≡ 0
      → Middle img (resized img g x (entry_of img g y).first.0 (entry_of img g y).length (entry_of img g y).last.0) g x y
  middle_whole more none =
      record {
        kept = resized_kept img g x _ _ _ sized within;
        resized = resized_words img g x _ _ _ sized within;
        size = resized_size img g x _ _ _ sized within ∙ omega (arith, none);
        first = λ some. absurd (omega (arith, some, none));
        begun = λ empty. resized_first img g x _ _ _ sized within;
        final = λ some. resized_last img g x _ _ _ sized within;
        ended = λ empty. absurd (omega (arith, empty, more));
        joint = λ some also. absurd (omega (arith, some, none));
        alone = λ some empty. absurd (omega (arith, empty, more));
        payload = λ b i low high behind small. block_kept (resized_kept img g x _ _ _ sized within {Written = Never}) b (omega (arith, low, sized.contents)) (λ never. never) i small;
      }

  -- the link of the first file's last block leads on to the second's first block
  module _ (some : 0 < (entry_of img g x).length) (more : 0 < (entry_of img g y).length) where
    last : ℕ
    last = (entry_of img g x).last.0

    tied : List ℕ
    tied = set_word img (block_at g last) (entry_of img g y).first.0

    range : (g.bodies.0 ≤ last) × (last < g.blocks)
    unfolding last
    range = right_bodies img g x (entry_of img g x).last.0 (entries_at img g stated consistent x within) (ended_last first_chain some)

    above : g.contents < last
    above = omega (arith, range.0, sized.contents)

    tied_sized : Sized tied g
    unfolding tied
    tied_sized = sized_same sized (length_set_word img (block_at g last) (entry_of img g y).first.0)

    middle_linked : Middle img (resized tied g x (entry_of img g x).first.0 ((entry_of img g x).length + (entry_of img g y).length) (entry_of img g y).last.0) g x y
    unfolding last tied
    middle_linked =
        record {
          kept = changes_then (kept_link img last _ (some, refl) above sized.some) (resized_kept tied g x _ _ _ tied_sized within);
          resized = record {
            words = λ i small six seven eight.
                (resized_words tied g x _ _ _ tied_sized within).words i small six seven eight ∙ link_set_entry img g last _ x i above within small;
          };
          size = resized_size tied g x _ _ _ tied_sized within;
          first = λ h. resized_first tied g x _ _ _ tied_sized within;
          begun = λ none. absurd (omega (arith, some, none));
          final = λ h. resized_last tied g x _ _ _ tied_sized within;
          ended = λ none. absurd (omega (arith, more, none));
          joint = λ h k.
              link_kept (resized_kept tied g x _ _ _ tied_sized within {Written = Never}) sized.some last above (λ never. never)
              ∙ link_set_same img g last _ sized.some sized.long range.1;
          alone = λ h none. absurd (omega (arith, more, none));
          payload = λ b i low high behind small.
              block_kept (resized_kept tied g x _ _ _ tied_sized within {Written = Never}) b (omega (arith, low, sized.contents)) (λ never. never) i small
              ∙ byte_set_other img (block_at g last) _ (b * block_bytes g + i)
              (λ is. behind_link g b last i 0 behind small (omega arith) (omega (arith, is))) (behind_link g b last i 1 behind small (omega arith));
        }

  -- in each of the three cases
  pub middle : Middle img (chain_joined img g x (entry_of img g x) (entry_of img g y)) g x y
  unfolding last tied
  middle = by (ℕ_discrete (entry_of img g y).length 0) (ℕ_discrete (entry_of img g x).length 0)
    where
      by : Dec ((entry_of img g y).length ≡ 0) → Dec ((entry_of img g x).length ≡ 0) → Middle img (chain_joined img g x (entry_of img g x) (entry_of img g y)) g x y
      by (yes none) d = subst (λ (mid : List ℕ). Middle img mid g x y) (joined_nothing img g x (entry_of img g x) (entry_of img g y) none) (middle_nothing none)
      by (no more) (yes none) =
          subst (λ (mid : List ℕ). Middle img mid g x y) (joined_whole img g x (entry_of img g x) (entry_of img g y) more none)
          (middle_whole (omega (arith, more)) none)
      by (no more) (no some) =
          subst (λ (mid : List ℕ). Middle img mid g x y) (joined_linked img g x (entry_of img g x) (entry_of img g y) more some)
          (middle_linked (omega (arith, some)) (omega (arith, more)))
