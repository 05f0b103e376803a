-- Cleared blocks as crate `frame` knows them: nothing is written but the words of these blocks.
use Prim.Native.Nat.{ℕ, ◌+◌, ◌*◌, ◌/◌, ◌≤◌, ◌<◌}
use mathlib.Core.List.{List}
use native.Mathlib.Omega.{arith}
use native.Mathlib.Nat.{div-add-mod', mod-lt, mul-le-mul_right}
use native.Mathlib.Decide.{dec_lt, dec_le}
use Rattle.pack.specs.declared.Geometry.{Geometry}
use Rattle.pack.specs.Geometry.{block_words, block_bytes, block_at}
use Rattle.pack.proofs.GeometryRoom.{block_room}
use Rattle.frame.specs.Framed.{InBlock, Kept}
use Rattle.frame.specs.Framed.Within.{block}
use Rattle.frame.proofs.ChangesWritten.{changes_run}
use Rattle.bodies.specs.BlockBytes.{block_start}
use Rattle.room.specs.Room.{InRun}
use Rattle.room.specs.Cleared.{ClearedBlocks}

-- the block of a word among blocks in a row
pub word_block : (g : Geometry) (s count w : ℕ) → 0 < g.segments.0 → block_at g s ≤ w → w < block_at g (s + count) → (b : ℕ) × (InRun s count b × InBlock g b w)
word_block g s count w some low high =
    let words : 0 < block_words g = omega (arith, some) in
    let split = div-add-mod' w (block_words g) in
    let rest = mod-lt w words in
    (w / block_words g, ((from (dec_le s (w / block_words g)), below (dec_lt (w / block_words g) (s + count))), (omega (arith, split), omega (arith, split, rest))))
  where
    from : Dec (s ≤ w / block_words g) → s ≤ w / block_words g
    from (yes is) = is
    from (no not) =
        let words : 0 < block_words g = omega (arith, some) in
        let less : w / block_words g < s = omega (arith, not) in
        absurd (omega (arith, low, div-add-mod' w (block_words g), mod-lt w words, block_room (block_words g) less))

    below : Dec (w / block_words g < s + count) → w / block_words g < s + count
    below (yes is) = is
    below (no not) =
        let over : s + count ≤ w / block_words g = omega (arith, not) in
        absurd (omega (arith, high, div-add-mod' w (block_words g), mul-le-mul_right (block_words g) over))

pub cleared_kept : {Named : ℕ → Type 0} {img img' : List ℕ} {g : Geometry} {b count : ℕ} → ClearedBlocks img img' g b count → g.contents < b → 0 < g.segments.0
    → Kept Named (InRun b count) img img' g
cleared_kept {g = g} {b} {count} clear above some =
    changes_run (block_start g b) (count * block_bytes g) clear.long clear.others
    (λ w low high.
    let at = word_block g b count w some (omega arith) (omega arith) in
    block at.0 at.1.0 (omega (arith, above, at.1.0.0)) at.1.1)
