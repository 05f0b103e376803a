-- There is such a target: the relation is not empty. The image is laid word by word.
use Prim.Native.Nat.{ℕ, suc, zero, ◌+◌, ◌-◌, ◌*◌, ◌/◌, ◌%◌, ◌≤◌, ◌<◌}
use mathlib.Core.Path.{◌≡◌, refl, sym, ap, subst, ◌∙◌}
use mathlib.Core.List.{List, [], ◌∷◌}
use mathlib.Core.Logic.{◌⊎◌, inl, inr, ◌↔◌}
use native.Mathlib.Omega.{arith}
use native.Mathlib.Decide.{ℕ_discrete, dec_lt}
use lib.ListN.{length, get_or, get_or-eq_default}
use Rattle.words.specs.Word.{word_at}
use Rattle.pack.specs.declared.Geometry.{Geometry}
use Rattle.pack.specs.Geometry.{geometry_of, slots, block_bytes, block_at, entry_at}
use Rattle.pack.specs.File.{link_of}
use Rattle.pack.specs.Consistent.{held_in}
use Rattle.pack.specs.Entry.{entry_word, entry_of}
use Rattle.consistency.specs.MapTest.{bits_from}
use Rattle.words.proofs.Word.{word_bound}
use Rattle.pack.specs.Map.{HasMap, map_at, map_bits, map_bit}
use Rattle.moving.specs.declared.Way.{Way}
use Rattle.moving.specs.Ways.{back, to_form, moved, renumbered}
use Rattle.moving.specs.declared.Way.TheVariants.{Up, Down}
use Rattle.moving.specs.Moved.{moved_measures, OfLinked, Moved, Moves, Bytes}
use Rattle.moving.specs.MovedParts.{marks}
use Rattle.moving.specs.Moving.{Movable}
use Rattle.moving.proofs.WayNumbers.{moved_less, moved_most, moved_again}
use Rattle.moving.proofs.MovedMeasures.{source_four, source_sized, bodies_high, target_bodies}
use Rattle.moving.proofs.SourceNumbers.{number_small, blocks_small, first_number, last_number, link_number, linked_body}
use Rattle.moving.proofs.MovedSingle.{linked_decided}
use Rattle.moving.proofs.MapWords.{map_bit_law, word_fits}
use Rattle.moving.proofs.MovedMap.{marks_few, marks_iff}

-- a list of so many bytes
laid : (ℕ → ℕ) → ℕ → ℕ → List ℕ
laid f from zero = []
laid f from (suc k) = f from ∷ laid f (from + 1) k

laid_length : (f : ℕ → ℕ) (from k : ℕ) → length (laid f from k) ≡ k
unfolding laid
laid_length f from zero = refl
laid_length f from (suc k) = ap suc (laid_length f (from + 1) k)

laid_at : (f : ℕ → ℕ) (from k i : ℕ) → i < k → get_or (laid f from k) i 0 ≡ f (from + i)
unfolding laid
laid_at f from zero i inside = absurd (omega arith)
laid_at f from (suc k) zero inside = let is : from ≡ from + 0 = omega arith in ap f is
laid_at f from (suc k) (suc i) inside = let is : from + 1 + i ≡ from + suc i = omega arith in laid_at f (from + 1) k i (omega arith) ∙ ap f is

-- the bytes of words
byte_by : (ℕ → ℕ) → (k : ℕ) → Dec (k % 2 ≡ 0) → ℕ
byte_by word k (yes even) = word (k / 2) % 256
byte_by word k (no odd) = word (k / 2) / 256

byte_of : (ℕ → ℕ) → ℕ → ℕ
byte_of word k = byte_by word k (ℕ_discrete (k % 2) 0)

byte_even : (word : ℕ → ℕ) (k : ℕ) (d : Dec (k % 2 ≡ 0)) → k % 2 ≡ 0 → byte_by word k d ≡ word (k / 2) % 256
unfolding byte_by
byte_even word k (yes even) is = refl
byte_even word k (no odd) is = absurd (odd is)

byte_odd : (word : ℕ → ℕ) (k : ℕ) (d : Dec (k % 2 ≡ 0)) → k % 2 ≡ 1 → byte_by word k d ≡ word (k / 2) / 256
unfolding byte_by
byte_odd word k (yes even) is = absurd (omega (arith, even, is))
byte_odd word k (no odd) is = refl

module _ (word : ℕ → ℕ) (n : ℕ) where
  laid_even : (k : ℕ) → k < n → k % 2 ≡ 0 → get_or (laid (byte_of word) 0 n) k 0 ≡ word (k / 2) % 256
  unfolding byte_of
  laid_even k inside even =
      let is : 0 + k ≡ k = omega arith in
      laid_at (byte_of word) 0 n k inside ∙ (ap (byte_of word) is ∙ byte_even word k (ℕ_discrete (k % 2) 0) even)

  laid_odd : (k : ℕ) → k < n → k % 2 ≡ 1 → get_or (laid (byte_of word) 0 n) k 0 ≡ word (k / 2) / 256
  unfolding byte_of
  laid_odd k inside odd =
      let is : 0 + k ≡ k = omega arith in
      laid_at (byte_of word) 0 n k inside ∙ (ap (byte_of word) is ∙ byte_odd word k (ℕ_discrete (k % 2) 0) odd)

  -- a word is read as it was laid, and a byte that was copied is the byte
  laid_word : (w : ℕ) → 2 * w + 1 < n → word_at (laid (byte_of word) 0 n) w ≡ word w
  unfolding word_at
  laid_word w inside =
      let low : 2 * w / 2 ≡ w = omega arith in
      let high : (2 * w + 1) / 2 ≡ w = omega arith in
      omega (arith, laid_even (2 * w) (omega arith) (omega arith), laid_odd (2 * w + 1) inside (omega arith), ap word low, ap word high)

  laid_copied : (src : List ℕ) (k j : ℕ) → Bytes src → k < n → k % 2 ≡ j % 2 → word (k / 2) ≡ word_at src (j / 2) → get_or (laid (byte_of word) 0 n) k 0 ≡ get_or src j 0
  unfolding word_at
  laid_copied src k j small inside parity same = by (ℕ_discrete (k % 2) 0)
    where
      by : Dec (k % 2 ≡ 0) → get_or (laid (byte_of word) 0 n) k 0 ≡ get_or src j 0
      by (yes even) =
          let is : 2 * (j / 2) ≡ j = omega (arith, even) in
          omega (arith, laid_even k inside even, small (2 * (j / 2)), ap (λ (i : ℕ). get_or src i 0) is)
      by (no odd) =
          let is : 2 * (j / 2) + 1 ≡ j = omega (arith, odd) in
          omega (arith, laid_odd k inside (omega (arith, odd)), small (2 * (j / 2)), ap (λ (i : ℕ). get_or src i 0) is)

-- each word of the target, by where it stands
module _ (way : Way) (src : List ℕ) (g : Geometry) where
  header_by : (w : ℕ) → Dec (w ≡ 0) → Dec (w ≡ 1) → ℕ
  header_by w (yes form) d = to_form way
  header_by w (no other) (yes blocks) = moved way g.blocks
  header_by w (no other) (no other₂) = word_at src w

  entry_by : (w : ℕ) → Dec (w % 16 ≡ 6) → Dec (w % 16 ≡ 8) → ℕ
  entry_by w (yes first) d = renumbered way (word_at src w)
  entry_by w (no other) (yes last) = renumbered way (word_at src w)
  entry_by w (no other) (no other₂) = word_at src w

  body_by : (b w : ℕ) → Dec (w % 256 ≡ 0) → Dec (OfLinked src g b) → ℕ
  body_by b w (yes link) (yes linked) = renumbered way (word_at src (256 * b + w % 256))
  body_by b w (yes link) (no other) = word_at src (256 * b + w % 256)
  body_by b w (no other) d = word_at src (256 * b + w % 256)

  word_by : (w : ℕ) → Dec (w < 256) → Dec (w < 256 * (g.contents + 1)) → Dec (w < 256 * moved way g.bodies.0) → ℕ
  word_by w (yes header) d d₂ = header_by w (ℕ_discrete w 0) (ℕ_discrete w 1)
  word_by w (no behind) (yes contents) d = entry_by w (ℕ_discrete (w % 16) 6) (ℕ_discrete (w % 16) 8)
  word_by w (no behind) (no past) (yes map) = bits_from (marks way src g) (16 * (w - 256 * (g.contents + 1))) 16
  word_by w (no behind) (no past) (no bodies) =
      body_by (moved (back way) (w / 256)) w (ℕ_discrete (w % 256) 0) (linked_decided src g (moved (back way) (w / 256)))

  moved_word : ℕ → ℕ
  moved_word w = word_by w (dec_lt w 256) (dec_lt w (256 * (g.contents + 1))) (dec_lt w (256 * moved way g.bodies.0))

  pub moved_image : List ℕ
  moved_image = laid (byte_of moved_word) 0 (512 * moved way g.blocks)

  form_by : (w : ℕ) (d : Dec (w ≡ 0)) (d₂ : Dec (w ≡ 1)) → w ≡ 0 → header_by w d d₂ ≡ to_form way
  unfolding header_by
  form_by w (yes form) d is = refl
  form_by w (no other) d is = absurd (other is)

  blocks_by : (w : ℕ) (d : Dec (w ≡ 0)) (d₂ : Dec (w ≡ 1)) → w ≡ 1 → header_by w d d₂ ≡ moved way g.blocks
  unfolding header_by
  blocks_by w (yes form) d is = absurd (omega (arith, form, is))
  blocks_by w (no other) (yes blocks) is = refl
  blocks_by w (no other) (no other₂) is = absurd (other₂ is)

  header_by_law : (w : ℕ) (d : Dec (w ≡ 0)) (d₂ : Dec (w ≡ 1)) → 2 ≤ w → header_by w d d₂ ≡ word_at src w
  unfolding header_by
  header_by_law w (yes form) d low = absurd (omega (arith, form, low))
  header_by_law w (no other) (yes blocks) low = absurd (omega (arith, blocks, low))
  header_by_law w (no other) (no other₂) low = refl

  number_by : (w : ℕ) (d : Dec (w % 16 ≡ 6)) (d₂ : Dec (w % 16 ≡ 8)) → (w % 16 ≡ 6) ⊎ (w % 16 ≡ 8) → entry_by w d d₂ ≡ renumbered way (word_at src w)
  unfolding entry_by
  number_by w (yes first) d is = refl
  number_by w (no other) (yes last) is = refl
  number_by w (no other) (no other₂) (inl is) = absurd (other is)
  number_by w (no other) (no other₂) (inr is) = absurd (other₂ is)

  same_by : (w : ℕ) (d : Dec (w % 16 ≡ 6)) (d₂ : Dec (w % 16 ≡ 8)) → (w % 16 ≡ 6 → ⊥) → (w % 16 ≡ 8 → ⊥) → entry_by w d d₂ ≡ word_at src w
  unfolding entry_by
  same_by w (yes first) d six eight = absurd (six first)
  same_by w (no other) (yes last) six eight = absurd (eight last)
  same_by w (no other) (no other₂) six eight = refl

  link_by : (b w : ℕ) (d : Dec (w % 256 ≡ 0)) (d₂ : Dec (OfLinked src g b)) → w % 256 ≡ 0 → OfLinked src g b
      → body_by b w d d₂ ≡ renumbered way (word_at src (256 * b + w % 256))
  unfolding body_by
  link_by b w (yes link) (yes linked) is of = refl
  link_by b w (yes link) (no other) is of = absurd (other of)
  link_by b w (no other) d is of = absurd (other is)

  plain_by : (b w : ℕ) (d : Dec (w % 256 ≡ 0)) (d₂ : Dec (OfLinked src g b)) → (w % 256 ≡ 0 → OfLinked src g b → ⊥)
      → body_by b w d d₂ ≡ word_at src (256 * b + w % 256)
  unfolding body_by
  plain_by b w (yes link) (yes linked) not = absurd (not link linked)
  plain_by b w (yes link) (no other) not = refl
  plain_by b w (no other) d not = refl

  in_header : (w : ℕ) → w < 256 → moved_word w ≡ header_by w (ℕ_discrete w 0) (ℕ_discrete w 1)
  unfolding moved_word word_by
  in_header w low = by (dec_lt w 256) (dec_lt w (256 * (g.contents + 1))) (dec_lt w (256 * moved way g.bodies.0))
    where
      by : (d : Dec (w < 256)) (d₂ : Dec (w < 256 * (g.contents + 1))) (d₃ : Dec (w < 256 * moved way g.bodies.0)) → word_by w d d₂ d₃ ≡ header_by w
          (ℕ_discrete w 0) (ℕ_discrete w 1)
      by (yes header) d d₂ = refl
      by (no behind) d d₂ = absurd (behind low)

  in_contents : (w : ℕ) → 256 ≤ w → w < 256 * (g.contents + 1) → moved_word w ≡ entry_by w (ℕ_discrete (w % 16) 6) (ℕ_discrete (w % 16) 8)
  unfolding moved_word word_by
  in_contents w low high = by (dec_lt w 256) (dec_lt w (256 * (g.contents + 1))) (dec_lt w (256 * moved way g.bodies.0))
    where
      by : (d : Dec (w < 256)) (d₂ : Dec (w < 256 * (g.contents + 1))) (d₃ : Dec (w < 256 * moved way g.bodies.0))
          → word_by w d d₂ d₃ ≡ entry_by w (ℕ_discrete (w % 16) 6) (ℕ_discrete (w % 16) 8)
      by (yes header) d d₂ = absurd (omega (arith, header, low))
      by (no behind) (yes contents) d = refl
      by (no behind) (no past) d = absurd (past high)

  in_map : (w : ℕ) → 256 * (g.contents + 1) ≤ w → w < 256 * moved way g.bodies.0 → moved_word w ≡ bits_from (marks way src g) (16 * (w - 256 * (g.contents + 1))) 16
  unfolding moved_word word_by
  in_map w low high = by (dec_lt w 256) (dec_lt w (256 * (g.contents + 1))) (dec_lt w (256 * moved way g.bodies.0))
    where
      by : (d : Dec (w < 256)) (d₂ : Dec (w < 256 * (g.contents + 1))) (d₃ : Dec (w < 256 * moved way g.bodies.0))
          → word_by w d d₂ d₃ ≡ bits_from (marks way src g) (16 * (w - 256 * (g.contents + 1))) 16
      by (yes header) d d₂ = absurd (omega (arith, header, low))
      by (no behind) (yes contents) d = absurd (omega (arith, contents, low))
      by (no behind) (no past) (yes map) = refl
      by (no behind) (no past) (no bodies) = absurd (bodies high)

  in_bodies : (b w : ℕ) → 256 * (g.contents + 1) ≤ w → 256 * moved way g.bodies.0 ≤ w → moved (back way) (w / 256) ≡ b
      → moved_word w ≡ body_by b w (ℕ_discrete (w % 256) 0) (linked_decided src g b)
  unfolding moved_word word_by
  in_bodies b w low high is =
      by (dec_lt w 256) (dec_lt w (256 * (g.contents + 1))) (dec_lt w (256 * moved way g.bodies.0))
      ∙ ap (λ (z : ℕ). body_by z w (ℕ_discrete (w % 256) 0) (linked_decided src g z)) is
    where
      by : (d : Dec (w < 256)) (d₂ : Dec (w < 256 * (g.contents + 1))) (d₃ : Dec (w < 256 * moved way g.bodies.0))
          → word_by w d d₂ d₃ ≡ body_by (moved (back way) (w / 256)) w (ℕ_discrete (w % 256) 0) (linked_decided src g (moved (back way) (w / 256)))
      by (yes header) d d₂ = absurd (omega (arith, header, low))
      by (no behind) (yes contents) d = absurd (omega (arith, contents, low))
      by (no behind) (no past) (yes map) = absurd (omega (arith, map, high))
      by (no behind) (no past) (no bodies) = refl

module _ {way : Way} {src : List ℕ} {g : Geometry} (stated : g ≡ geometry_of src) (movable : Movable way src) (small : Bytes src) where
  four : g.segments.0 ≡ 4
  four = source_four stated movable

  near : (moved way g.bodies.0 ≤ g.contents + 2) × (g.contents < moved way g.bodies.0)
  near = target_bodies stated movable

  room : moved way g.bodies.0 < moved way g.blocks
  room = moved_less way g.bodies.0 g.blocks (omega (arith, bodies_high stated movable)) (source_sized stated movable).bodies

  word_is : (w : ℕ) → 2 * w + 1 < 512 * moved way g.blocks → word_at (moved_image way src g) w ≡ moved_word way src g w
  unfolding moved_image
  word_is w inside = laid_word (moved_word way src g) (512 * moved way g.blocks) w inside

  -- words of entries
  module _ (e : ℕ) (within : e < slots g) (i : ℕ) (below : i < 16) where
    place : entry_at g e + i ≡ 256 + 16 * e + i
    place = omega (arith, four)

    early : 256 + 16 * e + i < 256 * (g.contents + 1)
    early = omega (arith, within, ap (λ (s : ℕ). g.contents * (4 * s)) four)

    entry_is : entry_word (moved_image way src g) g e i ≡ entry_by way src g (256 + 16 * e + i) (ℕ_discrete ((256 + 16 * e + i) % 16) 6) (ℕ_discrete ((256 + 16 * e + i) % 16) 8)
    unfolding entry_word
    entry_is =
        ap (word_at (moved_image way src g)) place
        ∙ (word_is (256 + 16 * e + i) (omega (arith, early, near, room)) ∙ in_contents way src g (256 + 16 * e + i) (omega arith) early)

    entry_from : word_at src (256 + 16 * e + i) ≡ entry_word src g e i
    unfolding entry_word
    entry_from = ap (word_at src) (sym place)

    entry_number : (i ≡ 6) ⊎ (i ≡ 8) → entry_word (moved_image way src g) g e i ≡ renumbered way (entry_word src g e i)
    entry_number (inl is) = entry_is ∙ (number_by way src g _ _ _ (inl (omega (arith, is))) ∙ ap (renumbered way) entry_from)
    entry_number (inr is) = entry_is ∙ (number_by way src g _ _ _ (inr (omega (arith, is))) ∙ ap (renumbered way) entry_from)

    entry_same : (i ≡ 6 → ⊥) → (i ≡ 8 → ⊥) → entry_word (moved_image way src g) g e i ≡ entry_word src g e i
    entry_same six eight = entry_is ∙ (same_by way src g _ _ _ (λ is. six (omega (arith, is))) (λ is. eight (omega (arith, is))) ∙ entry_from)

  map_is : HasMap (moved_measures way g) → (w : ℕ) → w < 256 → word_at (moved_image way src g) (map_at (moved_measures way g) + w) ≡ bits_from (marks way src g) (16 * w) 16
  map_is there w short =
      let at : map_at (moved_measures way g) + w ≡ 256 * (g.contents + 1) + w = omega (arith, ap (λ (s : ℕ). (g.contents + 1) * (64 * s)) four) in
      let word : 256 * (g.contents + 1) + w - 256 * (g.contents + 1) ≡ w = omega arith in
      ap (word_at (moved_image way src g)) at
      ∙ (word_is (256 * (g.contents + 1) + w) (omega (arith, there, near, room, short))
      ∙ (in_map way src g (256 * (g.contents + 1) + w) (omega arith) (omega (arith, there, short))
      ∙ ap (λ (z : ℕ). bits_from (marks way src g) (16 * z) 16) word))

  bit_is : HasMap (moved_measures way g) → (b : ℕ) → b < map_bits (moved_measures way g)
      → (map_bit (moved_image way src g) (moved_measures way g) b ≡ 1) ↔ ((b < moved way g.bodies.0) ⊎ (0 < held_in src g (moved (back way) b)))
  bit_is there b within =
      marks_iff stated movable b
      (map_bit_law (moved_image way src g) (moved_measures way g) (marks way src g) (marks_few stated movable) b (map_is there (b / 16) (omega (arith, within, four))))

  -- bodies
  module _ (b : ℕ) (low : g.bodies.0 ≤ b) (high : b < g.blocks) where
    above : moved way g.bodies.0 ≤ moved way b
    above = moved_most way g.bodies.0 b (omega (arith, bodies_high stated movable)) low

    beneath : moved way b < moved way g.blocks
    beneath = moved_less way b g.blocks (omega (arith, bodies_high stated movable, low)) high

    came : moved (back way) (moved way b) ≡ b
    came = moved_again way b (omega (arith, bodies_high stated movable, low))

    body_is : (j : ℕ) → j < 256 → moved_word way src g (256 * moved way b + j)
        ≡ body_by way src g b (256 * moved way b + j) (ℕ_discrete ((256 * moved way b + j) % 256) 0) (linked_decided src g b)
    body_is j below =
        let y : (256 * moved way b + j) / 256 ≡ moved way b = omega arith in
        in_bodies way src g b (256 * moved way b + j) (omega (arith, above, near)) (omega (arith, above)) (ap (moved (back way)) y ∙ came)

    link_is : OfLinked src g b → link_of (moved_image way src g) g (moved way b) ≡ renumbered way (link_of src g b)
    unfolding link_of
    link_is linked =
        let at : block_at g (moved way b) ≡ 256 * moved way b + 0 = omega (arith, ap (λ (s : ℕ). moved way b * (64 * s)) four) in
        let from : 256 * b + (256 * moved way b + 0) % 256 ≡ block_at g b = omega (arith, ap (λ (s : ℕ). b * (64 * s)) four) in
        ap (word_at (moved_image way src g)) at
        ∙ (word_is (256 * moved way b + 0) (omega (arith, beneath))
        ∙ (body_is 0 (omega arith) ∙ (link_by way src g _ _ _ _ (omega arith) linked ∙ ap (λ (z : ℕ). renumbered way (word_at src z)) from)))

    byte_is : (i : ℕ) → i < block_bytes g → (i < 2 → OfLinked src g b → ⊥) → get_or (moved_image way src g) (moved way b * block_bytes g + i) 0 ≡ get_or src (b * block_bytes g + i) 0
    unfolding moved_image
    byte_is i within other =
        let short : i < 512 = omega (arith, within, four) in
        let at : moved way b * block_bytes g + i ≡ 512 * moved way b + i = omega (arith, ap (λ (s : ℕ). moved way b * (128 * s)) four) in
        let from : b * block_bytes g + i ≡ 512 * b + i = omega (arith, ap (λ (s : ℕ). b * (128 * s)) four) in
        let word : (512 * moved way b + i) / 2 ≡ 256 * moved way b + i / 2 = omega arith in
        let back-word : 256 * b + (256 * moved way b + i / 2) % 256 ≡ (512 * b + i) / 2 = omega arith in
        ap (λ (k : ℕ). get_or (moved_image way src g) k 0) at
        ∙ (laid_copied (moved_word way src g) (512 * moved way g.blocks) src (512 * moved way b + i) (512 * b + i) small (omega (arith, beneath)) (omega arith)
        (ap (moved_word way src g) word
        ∙ (body_is (i / 2) (omega arith)
        ∙ (plain_by way src g _ _ _ _ (λ link linked. other (omega (arith, link)) linked) ∙ ap (word_at src) back-word)))
        ∙ ap (λ (k : ℕ). get_or src k 0) (sym from))

  pub image_moved : Moved way src (moved_image way src g) g
  unfolding moved_image
  image_moved =
      record {
        long = laid_length (byte_of (moved_word way src g)) 0 (512 * moved way g.blocks) ∙ omega (arith, ap (λ (s : ℕ). moved way g.blocks * (128 * s)) four);
        form = word_is 0 (omega (arith, near, room)) ∙ (in_header way src g 0 (omega arith) ∙ form_by way src g 0 _ _ refl);
        blocks = word_is 1 (omega (arith, near, room)) ∙ (in_header way src g 1 (omega arith) ∙ blocks_by way src g 1 _ _ refl);
        header = λ w low below.
            let short : w < 256 = omega (arith, below, four) in
            word_is w (omega (arith, near, room)) ∙ (in_header way src g w short ∙ header_by_law way src g w _ _ low);
        entries = λ e within i below six eight. entry_same e within i below six eight;
        first = λ e within. entry_number e within 6 (omega arith) (inl refl);
        last = λ e within. entry_number e within 8 (omega arith) (inr refl);
        map = bit_is;
        bodies = λ b low high. byte_is b low high;
        links = λ b linked. let range = linked_body stated movable b linked in link_is b range.0 range.1 linked;
      }

  -- its words are words, so that its bytes are bytes
  word_of : (w : ℕ) → word_at src w < 65536
  word_of w = word_bound src w small

  first_small : (e : ℕ) → e < slots g → renumbered way (entry_word src g e 6) < 65536
  unfolding entry_of
  first_small e within = number_small stated movable (entry_word src g e 6) (first_number stated movable e within)

  last_small : (e : ℕ) → e < slots g → renumbered way (entry_word src g e 8) < 65536
  unfolding entry_of
  last_small e within = number_small stated movable (entry_word src g e 8) (last_number stated movable e within)

  header_small : (w : ℕ) (d : Dec (w ≡ 0)) (d₂ : Dec (w ≡ 1)) → header_by way src g w d d₂ < 65536
  unfolding header_by
  header_small w (yes form) d = form_word way
    where
      form_word : (way : Way) → to_form way < 65536
      form_word Up = omega arith
      form_word Down = omega arith
  header_small w (no other) (yes blocks) = omega (arith, blocks_small stated movable)
  header_small w (no other) (no other₂) = word_of w

  entry_small : (w : ℕ) → 256 ≤ w → w < 256 * (g.contents + 1) → (d : Dec (w % 16 ≡ 6)) (d₂ : Dec (w % 16 ≡ 8)) → entry_by way src g w d d₂ < 65536
  unfolding entry_by entry_word
  entry_small w low below d d₂ = by d d₂
    where
      within : (w - 256) / 16 < slots g
      within = omega (arith, ap (λ (s : ℕ). g.contents * (4 * s)) four)

      by : (d : Dec (w % 16 ≡ 6)) (d₂ : Dec (w % 16 ≡ 8)) → entry_by way src g w d d₂ < 65536
      by (yes first) d =
          let at : entry_at g ((w - 256) / 16) + 6 ≡ w = omega (arith, four, first) in
          subst (λ (z : ℕ). renumbered way (word_at src z) < 65536) at (first_small ((w - 256) / 16) within)
      by (no other) (yes last) =
          let at : entry_at g ((w - 256) / 16) + 8 ≡ w = omega (arith, four, last) in
          subst (λ (z : ℕ). renumbered way (word_at src z) < 65536) at (last_small ((w - 256) / 16) within)
      by (no other) (no other₂) = word_of w

  body_small : (b w : ℕ) (d : Dec (w % 256 ≡ 0)) (d₂ : Dec (OfLinked src g b)) → body_by way src g b w d d₂ < 65536
  unfolding body_by link_of
  body_small b w (yes link) (yes linked) =
      let at : block_at g b ≡ 256 * b + w % 256 = omega (arith, link, ap (λ (s : ℕ). b * (64 * s)) four) in
      subst (λ (z : ℕ). renumbered way (word_at src z) < 65536) at (number_small stated movable (word_at src (block_at g b)) (link_number stated movable b linked))
  body_small b w (yes link) (no other) = word_of (256 * b + w % 256)
  body_small b w (no other) d = word_of (256 * b + w % 256)

  marks_word : (b : ℕ) → bits_from (marks way src g) b 16 < 65536
  marks_word b = word_fits (marks way src g) (marks_few stated movable) b refl

  word_small : (w : ℕ) → moved_word way src g w < 65536
  unfolding moved_word word_by
  word_small w = by (dec_lt w 256) (dec_lt w (256 * (g.contents + 1))) (dec_lt w (256 * moved way g.bodies.0))
    where
      by : (d : Dec (w < 256)) (d₂ : Dec (w < 256 * (g.contents + 1))) (d₃ : Dec (w < 256 * moved way g.bodies.0)) → word_by way src g w d d₂ d₃ < 65536
      by (yes header) d d₂ = header_small w _ _
      by (no behind) (yes contents) d = entry_small w (omega (arith, behind)) contents _ _
      by (no behind) (no past) (yes map) = marks_word (16 * (w - 256 * (g.contents + 1)))
      by (no behind) (no past) (no bodies) = body_small (moved (back way) (w / 256)) w _ _

  pub image_bytes : Bytes (moved_image way src g)
  unfolding moved_image
  image_bytes k = by (dec_lt k (512 * moved way g.blocks)) (ℕ_discrete (k % 2) 0)
    where
      by : Dec (k < 512 * moved way g.blocks) → Dec (k % 2 ≡ 0) → get_or (laid (byte_of (moved_word way src g)) 0 (512 * moved way g.blocks)) k 0 < 256
      by (yes inside) (yes even) = omega (arith, laid_even (moved_word way src g) (512 * moved way g.blocks) k inside even)
      by (yes inside) (no odd) =
          omega (arith, laid_odd (moved_word way src g) (512 * moved way g.blocks) k inside (omega (arith, odd)), word_small (k / 2))
      by (no past) d =
          omega (
            arith,
            get_or-eq_default (laid (byte_of (moved_word way src g)) 0 (512 * moved way g.blocks)) 0 {n = k}
                (omega (arith, past, laid_length (byte_of (moved_word way src g)) 0 (512 * moved way g.blocks))),
          )

-- as it is asked: every source that can be moved has a target, and it is a list of bytes
pub record Target (way : Way) (src : List ℕ) : Type 0 where
  pub image : List ℕ
  pub bytes : Bytes image
  pub moves : Moves way src image

pub moves_exist : (way : Way) (src : List ℕ) → Movable way src → Bytes src → Target way src
moves_exist way src movable small =
    record { image = moved_image way src (geometry_of src); bytes = image_bytes refl movable small; moves = image_moved refl movable small }
