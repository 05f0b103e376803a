-- A linked file of a consistent image with a block more, as crate `frame` knows it; the block's payload, and the payloads of all other blocks.
use Prim.Native.Nat.{ℕ, ◌+◌, ◌*◌, ◌/◌, ◌≤◌, ◌<◌}
use mathlib.Core.Path.{◌≡◌, refl, sym, ap, subst, ◌∙◌}
use mathlib.Core.List.{List, [], ◌∷◌}
use mathlib.Core.Logic.{◌⊎◌, inl, inr}
use native.Mathlib.Omega.{arith}
use native.Mathlib.Decide.{ℕ_discrete}
use lib.ListN.{length, get_or}
use Rattle.words.specs.Word.{set_word}
use Rattle.words.proofs.Word.{length_set_word, byte_set_other}
use Rattle.pack.specs.declared.Geometry.{Geometry}
use Rattle.pack.specs.declared.Entry.{Entry}
use Rattle.pack.specs.Geometry.{geometry_of, slots, block_at, block_bytes, entry_at, payload_bytes}
use Rattle.pack.specs.GeometrySized.{Sized}
use Rattle.pack.specs.File.{link_of, count}
use Rattle.pack.specs.Entry.{entry_word, entry_of, blocks_at}
use Rattle.pack.specs.Consistent.{Consistent}
use Rattle.pack.specs.Owner.{FreeBlock}
use Rattle.pack.specs.MapSays.{MapSays, marking}
use Rattle.pack.proofs.FileCount.{count_nil, count_same, count_other}
use Rattle.pack.proofs.GeometryRoom.{block_room, sized_same}
use Rattle.pack.proofs.MapSays.{marking_body}
use Rattle.pack.proofs.ConsistentHeld.{right_bodies, consistent_says}
use Rattle.frame.specs.Framed.{ChangesOnly, InBlock, Only, Never, OnMap, Within, Kept}
use Rattle.frame.specs.Framed.Within.{entry, block}
use Rattle.frame.specs.Growth.{Resized, Grown}
use Rattle.frame.proofs.ChangesWritten.{word_kept, changes_wider, changes_then, changes_word, changes_part}
use Rattle.frame.proofs.FramedCompose.{same_block, link_kept, block_kept}
use Rattle.frame.proofs.FramedStays.{entries_at, held_at, says_kept}
use Rattle.frame.proofs.FramedHeld.{held_none}
use Rattle.frame.proofs.GrowthChain.{ended_last}
use Rattle.frame.proofs.GrowthResized.{linked_ended}
use Rattle.frame.proofs.FramedWritten.{kept_link, replaced_link, link_set_same, link_set_other}
use Rattle.bodies.specs.BlockBytes.{payload_start, payload_of}
use Rattle.bodies.proofs.BlockBytes.{room_of, part_again, payload_same, behind_link}
use Rattle.bodies.specs.EntryChain.{resized}
use Rattle.room.specs.Cleared.{taken}
use Rattle.room.proofs.Taken.{taken_sized, taken_changes, taken_says}
use Rattle.adding.specs.LinkedAdd.{AddWords, block_with, added, enlarged_by}
use Rattle.bodies.proofs.EntryChain.{changes_resized, changes_chain, resized_kept, resized_first, resized_size, resized_last}
use Rattle.bodies.proofs.EntryChainLinked.{Joint}
use Rattle.adding.proofs.LinkedAddWrites.{added_begun, added_continued}

-- the blocks that are written: the new one, the last of a file that has blocks, and the map's, where there is one
abbrev pub Touched : List ℕ → Geometry → ℕ → ℕ → ℕ → Type 0
Touched img g x b z = (z ≡ b) ⊎ (Joint img g x z ⊎ OnMap g z)

pub record Enlarged (img img' : List ℕ) (g : Geometry) (x b : ℕ) (payload : List ℕ) : Type 0 where
  pub grown : Grown (Touched img g x b) img img' g x b
  pub own : payload_of img' g b ≡ payload
  pub others : (z i : ℕ) → (z ≡ b → ⊥) → g.bodies.0 ≤ z → 2 ≤ i → i < block_bytes g → get_or img' (z * block_bytes g + i) 0 ≡ get_or img (z * block_bytes g + i) 0

none_of : (i : ℕ) → (i ≡ 6 → ⊥) → (i ≡ 7 → ⊥) → (i ≡ 8 → ⊥) → 6 ≤ i → i ≤ 8 → ⊥
none_of i six seven eight low high = omega (arith, six, seven, eight, low, high)

-- a block taken: what changes is its words, and the word with its bit
block_taken : (img : List ℕ) (g : Geometry) (b : ℕ) → Sized img g → g.bodies.0 ≤ b → b < g.blocks → (e : ℕ) (x : Entry)
    → ChangesOnly (AddWords g e x b) img (taken img g b 1)
block_taken img g b sized body below e x =
    taken_changes sized b 1 body (omega (arith, below)) (λ z w inside at. let is : z ≡ b = omega (arith, inside.0, inside.1) in inr (inl (rw (← is) at)))
    (λ z w inside at. let is : z ≡ b = omega (arith, inside.0, inside.1) in inr (inr (inr (rw (← is) at))))

-- the new block alone
module _ (img : List ℕ) (g : Geometry) (b : ℕ) (payload : List ℕ) (sized : Sized img g) (below : b < g.blocks) (whole : length payload ≡ payload_bytes g) where
  cleared_long : length (set_word img (block_at g b) 0) ≡ length img
  cleared_long = length_set_word img (block_at g b) 0

  inside : b * block_bytes g + 2 + length payload ≤ length (set_word img (block_at g b) 0)
  inside = omega (arith, cleared_long, whole, sized.some, (room_of img g b sized below).inside)

  block_changes : {May : ℕ → Type 0} → ((w : ℕ) → InBlock g b w → May w) → ChangesOnly May img (block_with img g b payload)
  unfolding block_with
  block_changes may =
      changes_then (changes_word img _ _ (may _ (omega arith, omega (arith, sized.some))))
      (changes_part _ payload (payload_start g b) inside (λ w low high. may w (omega arith, omega (arith, whole, sized.some))))

  block_sized : Sized (block_with img g b payload) g
  block_sized = sized_same sized (block_changes {May = InBlock g b} (λ w at. at)).long

  block_link : link_of (block_with img g b payload) g b ≡ 0
  unfolding block_with
  block_link =
      replaced_link g (set_word img (block_at g b) 0) payload b 2 (omega arith) (omega (arith, whole, sized.some)) inside
      ∙ link_set_same img g b 0 sized.some sized.long below

  block_payload : payload_of (block_with img g b payload) g b ≡ payload
  unfolding block_with
  block_payload = part_again (set_word img (block_at g b) 0) payload (payload_start g b) (payload_bytes g) (omega (arith, inside)) whole

-- the whole of what is written: the block is taken, and then joined
pub added_changes : (img : List ℕ) (g : Geometry) (b : ℕ) (payload : List ℕ) → Sized img g → g.bodies.0 ≤ b → b < g.blocks → length payload ≡ payload_bytes g
    → (e : ℕ) (x : Entry) → ChangesOnly (AddWords g e x b) img (enlarged_by img g e x b payload)
unfolding enlarged_by added
added_changes img g b payload sized body below whole e x =
    changes_then (block_taken img g b sized body below e x)
    (changes_then (block_changes (taken img g b 1) g b payload (taken_sized sized b 1 body (omega (arith, below))) below whole (λ w at. inr (inl at)))
    (changes_chain _ g e x _ _ _ _ _ _ _ (λ j low high. inl (omega arith, omega arith)) (λ some. inr (inr (inl (some, refl))))))

module _ (img : List ℕ) (g : Geometry) (x b : ℕ) (payload : List ℕ) (stated : g ≡ geometry_of img) (consistent : Consistent img) (sized : Sized img g)
    (within : x < slots g) (linked : (entry_of img g x).kind ≡ 2) (free : FreeBlock img b) (whole : length payload ≡ payload_bytes g) where
  body : g.contents < b
  body = omega (arith, free.body, sized.contents, ap (λ (h : Geometry). h.bodies.0) stated)

  below : b < g.blocks
  below = omega (arith, free.below, ap (λ (h : Geometry). h.blocks) stated)

  -- the block is none of the file's
  not_held : (z : ℕ) → 0 < count z (blocks_at img g x) → z ≡ b → ⊥
  not_held z reached is =
      omega (arith, reached, ap (λ (k : ℕ). count k (blocks_at img g x)) is, held_none img g b x stated within free.nobody)

  reached_body : (z : ℕ) → 0 < count z (blocks_at img g x) → (g.contents < z) × (z < g.blocks)
  reached_body z reached =
      let range = right_bodies img g x z (entries_at img g stated consistent x within) reached in (omega (arith, range.0, sized.contents), range.1)

  last_held : 0 < (entry_of img g x).length → 0 < count (entry_of img g x).last.0 (blocks_at img g x)
  last_held some = ended_last (linked_ended img g x (entries_at img g stated consistent x within) linked) some

  own : (z : ℕ) → Touched img g x b z → (z ≡ b) ⊎ ((0 < count z (blocks_at img g x)) ⊎ (z < g.bodies.0))
  own z (inl is) = inl is
  own z (inr (inl joint)) = inr (inl (subst (λ (k : ℕ). 0 < count k (blocks_at img g x)) (sym joint.1) (last_held joint.0)))
  own z (inr (inr on)) = inr (inr (omega (arith, on.0, on.1)))

  -- what no other word having changed says of the file and of the blocks
  module _ {img' : List ℕ} (only : ChangesOnly (AddWords g x (entry_of img g x) b) img img') where
    kept : Kept (Only x) (Touched img g x b) img img' g
    kept = changes_wider wider only
      where
        wider : (w : ℕ) → AddWords g x (entry_of img g x) b w → Within (Only x) (Touched img g x b) g w
        wider w (inl words) = entry x refl within (omega (arith, words.0), omega (arith, words.1))
        wider w (inr (inl at)) = block b (inl refl) body at
        wider w (inr (inr (inl (some, is)))) =
            block (entry_of img g x).last.0 (inr (inl (some, refl))) (reached_body _ (last_held some)).0 (omega (arith, is), omega (arith, is, sized.some))
        wider w (inr (inr (inr (there, is)))) =
            block (g.contents + 1) (inr (inr (there, refl))) (omega arith) (omega (arith, is), omega (arith, is, below, sized.map))

    words : Resized img img' g x
    unfolding entry_word
    words = record { words = λ i small six seven eight. word_kept only (entry_at g x + i) (outside i small (none_of i six seven eight)) }
      where
        outside : (i : ℕ) → i < 16 → (6 ≤ i → i ≤ 8 → ⊥) → AddWords g x (entry_of img g x) b (entry_at g x + i) → ⊥
        outside i small other (inl at) = other (omega (arith, at.0)) (omega (arith, at.1))
        outside i small other (inr (inl at)) = omega (arith, at.0, small, within, block_room g.segments.0 body)
        outside i small other (inr (inr (inl (some, is)))) = omega (arith, is, small, within, block_room g.segments.0 (reached_body _ (last_held some)).0)
        outside i small other (inr (inr (inr (there, is)))) = omega (arith, is, small, within, block_room g.segments.0 {b = g.contents} {n = g.contents + 1} (omega arith))

    links : (z : ℕ) → 0 < count z (blocks_at img g x) → (z ≡ (entry_of img g x).last.0 → ⊥) → link_of img' g z ≡ link_of img g z
    links z reached not_last = link_kept kept sized.some z (reached_body z reached).0 untouched
      where
        untouched : Touched img g x b z → ⊥
        untouched (inl is) = not_held z reached is
        untouched (inr (inl joint)) = not_last joint.1
        untouched (inr (inr on)) = omega (arith, on.0, on.1, (right_bodies img g x z (entries_at img g stated consistent x within) reached).0)

    others : (z i : ℕ) → (z ≡ b → ⊥) → g.bodies.0 ≤ z → 2 ≤ i → i < block_bytes g → get_or img' (z * block_bytes g + i) 0 ≡ get_or img (z * block_bytes g + i) 0
    others z i other from behind small = only.bytes (z * block_bytes g + i) outside
      where
        above : g.contents < z
        above = omega (arith, from, sized.contents)

        outside : AddWords g x (entry_of img g x) b ((z * block_bytes g + i) / 2) → ⊥
        outside (inl at) = omega (arith, at.1, within, block_room g.segments.0 above)
        outside (inr (inl at)) =
            other (sym (same_block (block_bytes g) z b (z * block_bytes g + i) (omega arith) (omega (arith, small)) (omega (arith, at.0)) (omega (arith, at.1))))
        outside (inr (inr (inr (there, is)))) =
            omega (arith, is, below, sized.map, block_room g.segments.0 {b = g.contents + 1} {n = z} (omega (arith, there, from)))
        outside (inr (inr (inl (some, is)))) = by (ℕ_discrete ((z * block_bytes g + i) / 2 * 2) (z * block_bytes g + i))
          where
            by : Dec ((z * block_bytes g + i) / 2 * 2 ≡ z * block_bytes g + i) → ⊥
            by (yes even) = behind_link g z (entry_of img g x).last.0 i 0 behind small (omega arith) (omega (arith, is, even))
            by (no odd) = behind_link g z (entry_of img g x).last.0 i 1 behind small (omega arith) (omega (arith, is, odd))

  -- the three words of the entry come last: what stood before them, by what is asked of it
  module _ (mid : List ℕ) (first : ℕ) (only-mid : ChangesOnly (AddWords g x (entry_of img g x) b) img mid) (end : link_of mid g b ≡ 0) (paid : payload_of mid g b ≡ payload)
      (starts : 0 < (entry_of img g x).length → first ≡ (entry_of img g x).first.0) (begins : (entry_of img g x).length ≡ 0 → first ≡ b)
      (joint : 0 < (entry_of img g x).length → link_of mid g (entry_of img g x).last.0 ≡ b) (marks : MapSays mid g (λ z. marking img g z + count z (b ∷ []))) where
    mid_sized : Sized mid g
    mid_sized = sized_same sized only-mid.long

    last_kept : Kept (Only x) Never mid (resized mid g x first ((entry_of img g x).length + 1) b) g
    last_kept = resized_kept mid g x _ _ _ mid_sized within

    only : ChangesOnly (AddWords g x (entry_of img g x) b) img (resized mid g x first ((entry_of img g x).length + 1) b)
    only = changes_then only-mid (changes_resized mid g x _ _ _ (λ j low high. inl (omega arith, omega arith)))

    enlarged_by_law : Enlarged img (resized mid g x first ((entry_of img g x).length + 1) b) g x b payload
    enlarged_by_law =
        record {
          grown = record {
            kept = kept only;
            own = own;
            resized = words only;
            size = resized_size mid g x _ _ _ mid_sized within;
            first = λ some. resized_first mid g x _ _ _ mid_sized within ∙ starts some;
            begun = λ none. resized_first mid g x _ _ _ mid_sized within ∙ begins none;
            final = resized_last mid g x _ _ _ mid_sized within;
            links = links only;
            joint = λ some. link_kept last_kept sized.some _ (reached_body _ (last_held some)).0 (λ never. never) ∙ joint some;
            end = link_kept last_kept sized.some b body (λ never. never) ∙ end;
            map = says_kept last_kept (λ z never. absurd never) marks;
          };
          own = payload_same mid _ g b last_kept.long (λ i behind small. block_kept last_kept b body (λ never. never) i small) ∙ paid;
          others = others only;
        }

  -- the block taken: the map has its bit
  abbrev base : List ℕ
  base = taken img g b 1

  from_body : g.bodies.0 ≤ b
  from_body = omega (arith, free.body, ap (λ (h : Geometry). h.bodies.0) stated)

  base_sized : Sized base g
  base_sized = taken_sized sized b 1 from_body (omega (arith, below))

  base_marks : MapSays base g (λ z. marking img g z + count z (b ∷ []))
  base_marks =
      taken_says sized b 1 from_body (omega (arith, below)) (consistent_says img g stated consistent)
      (λ z inside.
      let is : z ≡ b = omega (arith, inside.0, inside.1) in
      omega (arith, count_same z b [] is, count_nil z, ap (marking img g) is, marking_body img g b from_body, held_at img g b stated, free.nobody))
      (λ z outside. omega (arith, count_other z b [] (λ is. outside (omega (arith, is), omega (arith, is))), count_nil z))

  -- with link and payload
  new : ChangesOnly (AddWords g x (entry_of img g x) b) img (block_with base g b payload)
  new = changes_then (block_taken img g b sized from_body below x (entry_of img g x)) (block_changes base g b payload base_sized below whole (λ w at. inr (inl at)))

  new_marks : MapSays (block_with base g b payload) g (λ z. marking img g z + count z (b ∷ []))
  new_marks =
      says_kept {Named = Never} {Written = Only b} (block_changes base g b payload base_sized below whole (λ w at. block b refl body at))
      (λ z is. omega (arith, is, from_body)) base_marks

  -- a file that had no block, and one that had: the link of its last leads to the new one
  pub enlarged : Enlarged img (enlarged_by img g x (entry_of img g x) b payload) g x b payload
  unfolding enlarged_by
  enlarged = by (ℕ_discrete (entry_of img g x).length 0)
    where
      by : Dec ((entry_of img g x).length ≡ 0) → Enlarged img (added base g x (entry_of img g x) b payload) g x b payload
      by (yes none) =
          subst (λ (img' : List ℕ). Enlarged img img' g x b payload) (added_begun base g x (entry_of img g x) b payload none)
          (enlarged_by_law (block_with base g b payload) b new (block_link base g b payload base_sized below whole) (block_payload base g b payload base_sized below whole)
          (λ some. absurd (omega (arith, some, none))) (λ h. refl) (λ some. absurd (omega (arith, some, none))) new_marks)
      by (no not) =
          let some : 0 < (entry_of img g x).length = omega (arith, not) in
          let last = (entry_of img g x).last.0 in
          subst (λ (img' : List ℕ). Enlarged img img' g x b payload) (added_continued base g x (entry_of img g x) b payload not)
          (enlarged_by_law (set_word (block_with base g b payload) (block_at g (entry_of img g x).last.0) b) (entry_of img g x).first.0
          (changes_then new (changes_word _ _ _ (inr (inr (inl (some, refl))))))
          (link_set_other _ g last b b sized.some (λ is. not_held last (last_held some) (sym is)) ∙ block_link base g b payload base_sized below whole)
          (payload_same (block_with base g b payload) _ g b (length_set_word _ _ _)
          (λ i behind small. byte_set_other _ (block_at g last) b (b * block_bytes g + i)
          (λ is. behind_link g b last i 0 behind small (omega arith) (omega (arith, is))) (behind_link g b last i 1 behind small (omega arith)))
          ∙ block_payload base g b payload base_sized below whole)
          (λ h. refl) (λ none. absurd (not none))
          (λ h. link_set_same _ g last b sized.some (block_sized base g b payload base_sized below whole).long (reached_body last (last_held some)).1)
          (says_kept {Named = Never} {Written = Only last} (kept_link _ last b refl (reached_body last (last_held some)).0 sized.some)
          (λ z is. omega (arith, is, (right_bodies img g x last (entries_at img g stated consistent x within) (last_held some)).0)) new_marks))
