-- There is one target only, and there and back is where one was.
use Prim.Native.Nat.{ℕ, suc, zero, ◌+◌, ◌-◌, ◌*◌, ◌/◌, ◌%◌, ◌≤◌, ◌<◌}
use mathlib.Core.Path.{◌≡◌, refl, sym, ap, subst, ◌∙◌}
use mathlib.Core.List.{List}
use mathlib.Core.Logic.{◌⊎◌, inl, inr}
use native.Mathlib.Omega.{arith}
use native.Mathlib.Decide.{ℕ_discrete, dec_lt}
use lib.ListN.{get_or}
use lib.Seq.{ext_get_or}
use Rattle.words.specs.Word.{word_at}
use Rattle.pack.specs.declared.Geometry.{Geometry}
use Rattle.pack.specs.Geometry.{geometry_of, slots, block_bytes, block_at, entry_at}
use Rattle.pack.specs.File.{link_of, count}
use Rattle.pack.specs.Entry.{entry_word, entry_of, blocks_at}
use Rattle.pack.specs.Map.{map_at}
use Rattle.words.proofs.Word.{word_bound}
use Rattle.moving.specs.declared.Way.{Way}
use Rattle.moving.specs.Ways.{back, moved}
use Rattle.moving.specs.Moving.{Movable}
use Rattle.moving.specs.Moved.{moved_measures, OfLinked, Moved, Moves, Bytes}
use Rattle.moving.proofs.WayNumbers.{back_most, back_less, moved_to}
use Rattle.moving.proofs.MovedMeasures.{source_four, source_sized, bodies_high, target_bodies}
use Rattle.moving.proofs.MovedConsistent.{movable_back}
use Rattle.moving.proofs.MovedBack.{moves_back}
use Rattle.moving.proofs.MapWords.{map_word, bits_alike}

-- whether a block is in a linked file is decided entry by entry
pub linked_decided : (img : List ℕ) (g : Geometry) (b : ℕ) → Dec (OfLinked img g b)
linked_decided img g b = whole (among (slots g) (omega arith))
  where
    Among : ℕ → Type 0
    Among k = (e : ℕ) → e < k → (entry_of img g e).kind ≡ 2 → 0 < count b (blocks_at img g e) → ⊥

    here : (k : ℕ) → k < slots g → Dec ((entry_of img g k).kind ≡ 2) → Dec (0 < count b (blocks_at img g k)) → OfLinked img g b ⊎
        ((entry_of img g k).kind ≡ 2 → 0 < count b (blocks_at img g k) → ⊥)
    here k within (yes kind) (yes has) = inl (record { entry = k; within = within; kind = kind; has = has })
    here k within (no other) d = inr (λ kind has. other kind)
    here k within (yes kind) (no none) = inr (λ is has. none has)

    more : (k : ℕ) → Among k → OfLinked img g b ⊎ ((entry_of img g k).kind ≡ 2 → 0 < count b (blocks_at img g k) → ⊥) → OfLinked img g b ⊎ Among (suc k)
    more k before (inl found) = inl found
    more k before (inr not) = inr (λ e below. by e below (ℕ_discrete e k))
      where
        by : (e : ℕ) → e < suc k → Dec (e ≡ k) → (entry_of img g e).kind ≡ 2 → 0 < count b (blocks_at img g e) → ⊥
        by e below (yes is) = subst (λ (z : ℕ). (entry_of img g z).kind ≡ 2 → 0 < count b (blocks_at img g z) → ⊥) (sym is) not
        by e below (no other) = before e (omega (arith, other))

    among : (k : ℕ) → k ≤ slots g → OfLinked img g b ⊎ Among k
    among zero fits = inr (λ e below. absurd (omega arith))
    among (suc k) fits = step (among k (omega arith))
      where
        step : OfLinked img g b ⊎ Among k → OfLinked img g b ⊎ Among (suc k)
        step (inl found) = inl found
        step (inr before) = more k before (here k (omega arith) (ℕ_discrete (entry_of img g k).kind 2) (dec_lt 0 (count b (blocks_at img g k))))

    whole : OfLinked img g b ⊎ Among (slots g) → Dec (OfLinked img g b)
    whole (inl found) = yes found
    whole (inr none) = no (λ linked. none linked.entry linked.within linked.kind linked.has)

-- a word has one pair of bytes
word_bytes : (a b : List ℕ) (w k : ℕ) → Bytes a → Bytes b → w ≡ k / 2 → word_at a w ≡ word_at b w → get_or a k 0 ≡ get_or b k 0
unfolding word_at
word_bytes a b w k small small' at same = by (ℕ_discrete (k % 2) 0)
  where
    low : get_or a (2 * w) 0 ≡ get_or b (2 * w) 0
    low = omega (arith, small (2 * w), small' (2 * w), small (2 * w + 1), small' (2 * w + 1))

    high : get_or a (2 * w + 1) 0 ≡ get_or b (2 * w + 1) 0
    high = omega (arith, small (2 * w), small' (2 * w), small (2 * w + 1), small' (2 * w + 1))

    by : Dec (k % 2 ≡ 0) → get_or a k 0 ≡ get_or b k 0
    by (yes even) = let is : 2 * w ≡ k = omega (arith, even) in subst (λ (i : ℕ). get_or a i 0 ≡ get_or b i 0) is low
    by (no odd) = let is : 2 * w + 1 ≡ k = omega (arith, odd) in subst (λ (i : ℕ). get_or a i 0 ≡ get_or b i 0) is high

module _
    {way : Way}
    {src dst dst' : List ℕ}
    {g : Geometry}
    (stated : g ≡ geometry_of src)
    (movable : Movable way src)
    (m : Moved way src dst g)
    (m' : Moved way src dst' g)
    (small : Bytes dst)
    (small' : Bytes dst') where
  four : g.segments.0 ≡ 4
  four = source_four stated movable

  -- block 0
  header_word : (w : ℕ) → w < 256 → word_at dst w ≡ word_at dst' w
  header_word w below = by (ℕ_discrete w 0) (ℕ_discrete w 1)
    where
      by : Dec (w ≡ 0) → Dec (w ≡ 1) → word_at dst w ≡ word_at dst' w
      by (yes is) d = subst (λ (i : ℕ). word_at dst i ≡ word_at dst' i) (sym is) (m.form ∙ sym m'.form)
      by (no not) (yes is) = subst (λ (i : ℕ). word_at dst i ≡ word_at dst' i) (sym is) (m.blocks ∙ sym m'.blocks)
      by (no not) (no not₂) =
          let low : 2 ≤ w = omega (arith, not, not₂) in
          let inside : w < 64 * g.segments.0 = omega (arith, four) in
          m.header w low inside ∙ sym (m'.header w low inside)

  -- the entries
  entry_word_law : (e : ℕ) → e < slots g → (i : ℕ) → i < 16 → entry_word dst g e i ≡ entry_word dst' g e i
  entry_word_law e within i below = by (ℕ_discrete i 6) (ℕ_discrete i 8)
    where
      by : Dec (i ≡ 6) → Dec (i ≡ 8) → entry_word dst g e i ≡ entry_word dst' g e i
      by (yes is) d = subst (λ (j : ℕ). entry_word dst g e j ≡ entry_word dst' g e j) (sym is) (m.first e within ∙ sym (m'.first e within))
      by (no six) (yes is) = subst (λ (j : ℕ). entry_word dst g e j ≡ entry_word dst' g e j) (sym is) (m.last e within ∙ sym (m'.last e within))
      by (no six) (no eight) = m.entries e within i below six eight ∙ sym (m'.entries e within i below six eight)

  contents_byte : (k : ℕ) → 512 ≤ k → k < 512 * (g.contents + 1) → get_or dst k 0 ≡ get_or dst' k 0
  unfolding entry_word
  contents_byte k low below =
      let e : ℕ = (k / 2 - 256) / 16 in
      let i : ℕ = (k / 2 - 256) % 16 in
      let within : e < slots g = omega (arith, ap (λ (s : ℕ). g.contents * (4 * s)) four) in
      word_bytes dst dst' (entry_at g e + i) k small small' (omega (arith, four)) (entry_word_law e within i (omega arith))

  map_byte : (k : ℕ) → g.contents + 1 < moved way g.bodies.0 → 512 * (g.contents + 1) ≤ k → k < 512 * (g.contents + 2) → get_or dst k 0 ≡ get_or dst' k 0
  map_byte k there low below =
      let w : ℕ = k / 2 - 256 * (g.contents + 1) in
      let inside : w < 256 = omega arith in
      word_bytes dst dst' (map_at (moved_measures way g) + w) k small small' (omega (arith, ap (λ (s : ℕ). (g.contents + 1) * (64 * s)) four))
      (map_word dst dst' (moved_measures way g) w (word_bound dst _ small) (word_bound dst' _ small')
      (λ i less.
      let within : 16 * w + i < 16 * (64 * g.segments.0) = omega (arith, four) in
      bits_alike dst dst' (moved_measures way g) (16 * w + i) (m.map there (16 * w + i) within) (m'.map there (16 * w + i) within)))

  -- the bodies
  body_byte : (b : ℕ) → g.bodies.0 ≤ b → b < g.blocks → (i : ℕ) → i < 512 → get_or dst (moved way b * block_bytes g + i) 0 ≡ get_or dst' (moved way b * block_bytes g + i) 0
  unfolding link_of
  body_byte b low below i within = by (dec_lt i 2) (linked_decided src g b)
    where
      inside : i < block_bytes g
      inside = omega (arith, four)

      same : (i < 2 → OfLinked src g b → ⊥) → get_or dst (moved way b * block_bytes g + i) 0 ≡ get_or dst' (moved way b * block_bytes g + i) 0
      same other = m.bodies b low below i inside other ∙ sym (m'.bodies b low below i inside other)

      by : Dec (i < 2) → Dec (OfLinked src g b) → get_or dst (moved way b * block_bytes g + i) 0 ≡ get_or dst' (moved way b * block_bytes g + i) 0
      by (no behind) d = same (λ less linked. behind less)
      by (yes less) (no not) = same (λ less linked. not linked)
      by (yes less) (yes linked) =
          word_bytes dst dst' (block_at g (moved way b)) (moved way b * block_bytes g + i) small small' (omega arith) (m.links b linked ∙ sym (m'.links b linked))

  byte : (k : ℕ) → k < 512 * moved way g.blocks → get_or dst k 0 ≡ get_or dst' k 0
  byte k below =
      by (dec_lt k 512) (dec_lt k (512 * (g.contents + 1))) (dec_lt k (512 * moved way g.bodies.0))
    where
      near : (moved way g.bodies.0 ≤ g.contents + 2) × (g.contents < moved way g.bodies.0)
      near = target_bodies stated movable

      body : 512 * moved way g.bodies.0 ≤ k → get_or dst k 0 ≡ get_or dst' k 0
      body from =
          let y : ℕ = k / 512 in
          let high = bodies_high stated movable in
          let low = back_most way g.bodies.0 y high (omega arith) in
          let less = back_less way g.blocks y (omega (arith, high, (source_sized stated movable).bodies)) (omega (arith, near)) (omega arith) in
          let is : y ≡ moved way (moved (back way) y) = moved_to way (moved (back way) y) y (omega (arith, low, high)) refl in
          let place : moved way (moved (back way) y) * block_bytes g + k % 512 ≡ k =
          omega (arith, is, ap (λ (s : ℕ). moved way (moved (back way) y) * (128 * s)) four) in
          subst (λ (i : ℕ). get_or dst i 0 ≡ get_or dst' i 0) place (body_byte (moved (back way) y) low less (k % 512) (omega arith))

      by : Dec (k < 512) → Dec (k < 512 * (g.contents + 1)) → Dec (k < 512 * moved way g.bodies.0) → get_or dst k 0 ≡ get_or dst' k 0
      by (yes first) d d₂ = word_bytes dst dst' (k / 2) k small small' refl (header_word (k / 2) (omega arith))
      by (no behind) (yes contents) d = contents_byte k (omega (arith, behind)) contents
      by (no behind) (no past) (yes map) =
          map_byte k (omega (arith, past, map, near)) (omega (arith, past)) (omega (arith, map, near))
      by (no behind) (no past) (no bodies) = body (omega (arith, bodies))

  pub moved_single : dst ≡ dst'
  moved_single = ext_get_or 0 dst dst' (m.long ∙ sym m'.long) (λ k inside. byte k (omega (arith, inside, m.long, ap (λ (s : ℕ). moved way g.blocks * (128 * s)) four)))

-- as it is asked: one target, whatever it was before
pub moves_single : (way : Way) (src dst dst' : List ℕ) → Movable way src → Moves way src dst → Moves way src dst' → Bytes dst → Bytes dst' → dst ≡ dst'
moves_single way src dst dst' movable m m' small small' = moved_single refl movable m m' small small'

-- "Each way followed by the other gives every byte of the starting image again."
pub moves_again : (way : Way) (src dst src' : List ℕ) → Movable way src → Moves way src dst → Moves (back way) dst src' → Bytes src → Bytes src' → src' ≡ src
moves_again way src dst src' movable m again small small' =
    moves_single (back way) dst src' src (movable_back refl movable m) again (moves_back way src dst movable m) small' small
