-- The words of a map written one after another.
use Prim.Native.Nat.{ℕ, ◌+◌, ◌*◌, ◌/◌, ◌≤◌, ◌<◌}
use mathlib.Core.Path.{◌≡◌, sym, ap, subst, ◌∙◌}
use mathlib.Core.List.{List}
use native.Mathlib.Omega.{arith}
use native.Mathlib.Decide.{ℕ_discrete}
use lib.ListN.{length}
use Rattle.words.specs.Word.{word_at, set_word}
use Rattle.words.proofs.Word.{length_set_word, word_set_same, word_set_other, byte_set_other}
use Rattle.pack.specs.declared.Geometry.{Geometry}
use Rattle.pack.specs.Geometry.{block_words}
use Rattle.pack.specs.GeometrySized.{Sized}
use Rattle.pack.specs.Map.{HasMap, map_at, map_bits, map_bit}
use Rattle.pack.proofs.MapSet.{map_room}
use Rattle.consistency.specs.MapTest.{bits_from}
use Rattle.moving.specs.MovedParts.{MapWritten}
use Rattle.moving.proofs.MapWords.{map_bit_law}

module _ {before : List ℕ} {h : Geometry} {bit : ℕ → ℕ} where
  module _ {now : List ℕ} {w words : ℕ} (written : MapWritten before now h bit w) (many : words ≡ block_words h) where
    pub write_more : {word : ℕ} {next : List ℕ} → Sized before h → HasMap h → w < words → word ≡ bits_from bit (16 * w) 16
        → next ≡ set_word now ((h.contents + 1) * words + w) word → MapWritten before next h bit (w + 1)
    write_more {word} {next} sized there inside right writes = subst (λ (l : List ℕ). MapWritten before l h bit (w + 1)) (sym (writes ∙ place)) new
      where
        place : set_word now ((h.contents + 1) * words + w) word ≡ set_word now (map_at h + w) word
        place = ap (λ (n : ℕ). set_word now ((h.contents + 1) * n + w) word) many

        room : 2 * (map_at h + w) + 1 < length now
        room = omega (arith, map_room sized there w (omega (arith, inside, many)), written.long)

        by : (v : ℕ) → v < w + 1 → Dec (v ≡ w) → word_at (set_word now (map_at h + w) word) (map_at h + v) ≡ bits_from bit (16 * v) 16
        by v early (yes is) =
            subst (λ (z : ℕ). word_at (set_word now (map_at h + w) word) (map_at h + z) ≡ bits_from bit (16 * z) 16) (sym is)
            (word_set_same now (map_at h + w) word room ∙ right)
        by v early (no other) =
            word_set_other now (map_at h + w) (map_at h + v) word (λ is. other (omega (arith, is))) ∙ written.word v (omega (arith, other))

        new : MapWritten before (set_word now (map_at h + w) word) h bit (w + 1)
        new =
            record {
              long = length_set_word now (map_at h + w) word ∙ written.long;
              word = λ v early. by v early (ℕ_discrete v w);
              below = λ k less. byte_set_other now (map_at h + w) word k (λ is. omega (arith, is, less)) (λ is. omega (arith, is, less)) ∙ written.below k less;
              above = λ k past. byte_set_other now (map_at h + w) word k (λ is. omega (arith, is, past)) (λ is. omega (arith, is, past)) ∙ written.above k (omega arith);
            }

    -- each of its words stands in the target
    pub write_room : Sized before h → HasMap h → w < words → 2 * ((h.contents + 1) * words + w) + 1 < length now
    write_room sized there inside = rw many (omega (arith, map_room sized there w (omega (arith, inside, many)), written.long))

  -- the bits of a map that is written
  pub written_bit : {after : List ℕ} → ((i : ℕ) → bit i ≤ 1) → MapWritten before after h bit (block_words h) → (b : ℕ) → b < map_bits h → map_bit after h b ≡ bit b
  written_bit {after} few written b within = map_bit_law after h bit few b (written.word (b / 16) (omega (arith, within)))
