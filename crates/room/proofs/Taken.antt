-- Blocks that are taken: cleared, with their bits on the map, and nothing else written.
use Prim.Native.Nat.{ℕ, ◌+◌, ◌*◌, ◌≤◌, ◌<◌}
use mathlib.Core.Path.{◌≡◌, refl, ap, ◌∙◌}
use mathlib.Core.List.{List}
use mathlib.Core.Logic.{◌⊎◌, inl, inr}
use native.Mathlib.Omega.{arith}
use lib.ListN.{get_or}
use Rattle.pack.specs.declared.Geometry.{Geometry}
use Rattle.pack.specs.GeometrySized.{Sized}
use Rattle.pack.specs.Geometry.{block_bytes}
use Rattle.pack.specs.File.{count}
use Rattle.pack.specs.Map.{HasMap, bits_set}
use Rattle.pack.specs.MapSays.{MapSays}
use Rattle.pack.proofs.GeometryRoom.{block_room, sized_same}
use Rattle.pack.proofs.MapSays.{says_set}
use Rattle.frame.specs.Framed.{ChangesOnly, InBlock, Never, OnMap, MapWord, Kept}
use Rattle.frame.proofs.ChangesWritten.{changes_then, changes_run}
use Rattle.frame.proofs.FramedCompose.{kept_widen}
use Rattle.frame.proofs.FramedStays.{says_kept}
use Rattle.frame.proofs.FramedMap.{changes_bits, kept_bits}
use Rattle.bodies.specs.BlockBytes.{block_start}
use Rattle.room.specs.Room.{InRun, run_from}
use Rattle.room.specs.Cleared.{cleared, taken, ClearedBlocks}
use Rattle.room.proofs.Cleared.{blocks_room, cleared_blocks}
use Rattle.room.proofs.ClearedKept.{word_block, cleared_kept}
use Rattle.room.proofs.MapMarking.{run_has, run_inside}

-- one after the other
pub taken_by : (img : List ℕ) (g : Geometry) (b size : ℕ) {mid img' : List ℕ} → mid ≡ cleared img g b size → img' ≡ bits_set mid g (run_from b size) 1 → img' ≡ taken img g b size
unfolding taken
taken_by img g b size clear marked = marked ∙ ap (λ (i : List ℕ). bits_set i g (run_from b size) 1) clear

-- the blocks that are written
abbrev pub TakenOrMap : Geometry → ℕ → ℕ → ℕ → Type 0
TakenOrMap g b size z = InRun b size z ⊎ OnMap g z

module _ {img : List ℕ} {g : Geometry} (s : Sized img g) (b size : ℕ) (body : g.bodies.0 ≤ b) (below : b + size ≤ g.blocks) where
  clear : ClearedBlocks img (cleared img g b size) g b size
  clear = cleared_blocks (blocks_room s b size below)

  cleared_sized : Sized (cleared img g b size) g
  cleared_sized = sized_same s clear.long

  run_below_law : (z : ℕ) → 0 < count z (run_from b size) → z < g.blocks
  run_below_law z some = omega (arith, (run_inside b size z some).1, below)

  clear_kept : {Named : ℕ → Type 0} → Kept Named (InRun b size) img (cleared img g b size) g
  clear_kept = cleared_kept clear (omega (arith, body, s.contents)) s.some

  pub taken_kept : {Named : ℕ → Type 0} → Kept Named (TakenOrMap g b size) img (taken img g b size) g
  unfolding taken
  taken_kept = changes_then (kept_widen (λ e named. named) (λ z inside. inl inside) clear_kept) (kept_bits cleared_sized (λ z on. inr on) (run_from b size) 1 run_below_law)

  pub taken_sized : Sized (taken img g b size) g
  taken_sized = sized_same s (taken_kept {Named = Never}).long

  -- word by word
  pub taken_changes : {May : ℕ → Type 0} → ((z w : ℕ) → InRun b size z → InBlock g z w → May w) → ((z w : ℕ) → InRun b size z → MapWord g z w → May w)
      → ChangesOnly May img (taken img g b size)
  unfolding taken
  taken_changes blocks words =
      changes_then
      (changes_run (block_start g b) (size * block_bytes g) clear.long clear.others
      (λ w low high. let at = word_block g b size w s.some (omega arith) (omega arith) in blocks at.0 w at.1.0 at.1.1))
      (changes_bits (run_from b size) (cleared img g b size) g 1 (λ z some there. words z _ (run_inside b size z some) (there, refl)))

  -- "cleared before use": the map is behind the contents, and they are bodies
  pub taken_zero : (k : ℕ) → k < size * block_bytes g → get_or (taken img g b size) (block_start g b + k) 0 ≡ 0
  unfolding taken
  taken_zero k small =
      (changes_bits {May = λ w. HasMap g × InBlock g (g.contents + 1) w} (run_from b size) (cleared img g b size) g 1
      (λ z some there. (there, (omega arith, omega (arith, run_below_law z some, s.map))))
      ).bytes (block_start g b + k) (λ on. omega (arith, on.1.1, block_room g.segments.0 {b = g.contents + 1} {n = b} (omega (arith, on.0, body))))
      ∙ clear.zero k small

  -- the map has their bits, and of every other block that which it had
  pub taken_says : {bit bit' : ℕ → ℕ} → MapSays img g bit → ((z : ℕ) → InRun b size z → bit' z ≡ 1) → ((z : ℕ) → (InRun b size z → ⊥) → bit' z ≡ bit z)
      → MapSays (taken img g b size) g bit'
  unfolding taken
  taken_says says among others =
      says_set 1 (omega arith) cleared_sized (says_kept (clear_kept {Named = Never}) (λ z inside. omega (arith, inside.0, body)) says) (run_from b size) run_below_law
      (λ z some. among z (run_inside b size z some)) (λ z none. others z (λ inside. omega (arith, none, run_has b size z inside)))
