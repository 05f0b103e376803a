-- The steps in which a target is written: entries, links, and what is left when all is done.
use Prim.Native.Nat.{ℕ, ◌+◌, ◌*◌, ◌≤◌, ◌<◌}
use mathlib.Core.Path.{◌≡◌, refl, sym, ap, subst, ◌∙◌}
use mathlib.Core.List.{List}
use mathlib.Core.Logic.{◌⊎◌, inl, inr, ◌↔◌}
use native.Mathlib.Omega.{arith}
use native.Mathlib.Nat.{mul-le-mul_right}
use native.Mathlib.Decide.{ℕ_discrete, dec_lt}
use lib.ListN.{get_or}
use Rattle.words.specs.Word.{word_at, set_word}
use Rattle.words.proofs.Word.{length_set_word, word_set_same, word_set_other, byte_set_other}
use Rattle.pack.specs.declared.Geometry.{Geometry}
use Rattle.pack.specs.Geometry.{geometry_of, block_words, block_bytes, block_at, entry_at, slots}
use Rattle.pack.specs.File.{link_of}
use Rattle.pack.specs.Entry.{entry_word}
use Rattle.pack.specs.Map.{HasMap, map_bits, map_bit}
use Rattle.pack.proofs.GeometryRoom.{block_room}
use Rattle.frame.proofs.EntrySame.{word_same}
use Rattle.frame.proofs.FramedWritten.{link_set_other}
use Rattle.moving.specs.declared.Way.{Way}
use Rattle.moving.specs.Ways.{to_form, moved, renumbered}
use Rattle.moving.specs.Moved.{moved_measures, OfLinked, Moved}
use Rattle.moving.specs.Moving.{Movable}
use Rattle.moving.specs.MovedParts.{Copied, Partly, marks, MapWritten}
use Rattle.moving.proofs.WayNumbers.{moved_less, moved_most, moved_by}
use Rattle.moving.proofs.MovedMeasures.{source_sized, bodies_high, target_bodies}
use Rattle.moving.proofs.SourceNumbers.{linked_body}
use Rattle.moving.proofs.MovedMap.{marks_iff}

-- the same blocks under another name
pub partly_same : {way : Way} {src now : List ℕ} {g : Geometry} {named : ℕ} {Done Done' : ℕ → Type 0} → ((b : ℕ) → Done b ↔ Done' b)
    → Partly way src now g named Done → Partly way src now g named Done'
partly_same same p =
    record {
      long = p.long;
      form = p.form;
      blocks = p.blocks;
      header = p.header;
      entries = p.entries;
      first = p.first;
      last = p.last;
      bodies = λ b low high i small other. p.bodies b low high i small (λ less done. other less ((same b).0 done));
      links = λ b low high done. p.links b low high ((same b).1 done);
    }

module _ {way : Way} {src : List ℕ} {g : Geometry} (stated : g ≡ geometry_of src) (movable : Movable way src) where
  some : 0 < g.segments.0
  some = (source_sized stated movable).some

  -- where words of the target stand
  pub body_high : (b : ℕ) → g.bodies.0 ≤ b → (g.contents + 1) * g.segments.0 ≤ moved way b * g.segments.0
  body_high b low =
      let above : g.contents + 1 ≤ moved way b =
      omega (arith, (target_bodies stated movable).1, moved_most way g.bodies.0 b (omega (arith, bodies_high stated movable)) low) in
      mul-le-mul_right g.segments.0 above

  apart_blocks : (b z : ℕ) → g.bodies.0 ≤ b → g.bodies.0 ≤ z → (b ≡ z → ⊥)
      → (moved way b * g.segments.0 + g.segments.0 ≤ moved way z * g.segments.0) ⊎ (moved way z * g.segments.0 + g.segments.0 ≤ moved way b * g.segments.0)
  apart_blocks b z low low₂ other =
      elim (dec_lt b z) [
        | yes less ↦ inl (block_room g.segments.0 (moved_less way b z (omega (arith, bodies_high stated movable, low)) less))
        | no not ↦ inr (block_room g.segments.0 (moved_less way z b (omega (arith, bodies_high stated movable, low₂)) (omega (arith, not, other))))
      ]

  entry_low : (e : ℕ) → e < slots g → 16 * e + 16 ≤ 64 * (g.contents * g.segments.0)
  entry_low e within = omega arith

  pub total_room : (g.contents + 1) * g.segments.0 + g.segments.0 ≤ moved way g.blocks * g.segments.0
  total_room =
      let above : g.contents + 1 < moved way g.blocks =
      omega (arith, (target_bodies stated movable).1, moved_less way g.bodies.0 g.blocks (omega (arith, bodies_high stated movable)) (source_sized stated movable).bodies) in
      block_room g.segments.0 above

  -- what was copied, with the new form and n
  pub partly_start : {now : List ℕ} → Copied way src now g → Partly way src (set_word (set_word now 0 (to_form way)) 1 (moved way g.blocks)) g 0 (λ b. ⊥)
  unfolding entry_word
  partly_start {now} c =
      record {
        long = length_set_word (set_word now 0 (to_form way)) 1 (moved way g.blocks) ∙ (length_set_word now 0 (to_form way) ∙ c.long);
        form =
            word_set_other (set_word now 0 (to_form way)) 1 0 (moved way g.blocks) (λ is. omega (arith, is))
            ∙ word_set_same now 0 (to_form way) (omega (arith, c.long, some, total_room));
        blocks =
            word_set_same (set_word now 0 (to_form way)) 1 (moved way g.blocks)
            (omega (arith, c.long, some, total_room, length_set_word now 0 (to_form way)));
        header = λ w low below. word w low (omega (arith, below, some));
        entries = λ e inside j below six eight. word (entry_at g e + j) (omega (arith, some)) (omega (arith, entry_low e inside, below));
        first = λ e inside early. absurd (omega (arith, early));
        last = λ e inside early. absurd (omega (arith, early));
        bodies = λ b low high i short other.
            kept (moved way b * block_bytes g + i) (omega (arith, body_high b low, some)) ∙ c.bodies b low high i short;
        links = λ b low high never. absurd never;
      }
    where
      kept : (k : ℕ) → 4 ≤ k → get_or (set_word (set_word now 0 (to_form way)) 1 (moved way g.blocks)) k 0 ≡ get_or now k 0
      kept k low =
          byte_set_other (set_word now 0 (to_form way)) 1 (moved way g.blocks) k (λ is. omega (arith, is, low)) (λ is. omega (arith, is, low))
          ∙ byte_set_other now 0 (to_form way) k (λ is. omega (arith, is, low)) (λ is. omega (arith, is, low))

      word : (w : ℕ) → 2 ≤ w → w < (g.contents + 1) * block_words g → word_at (set_word (set_word now 0 (to_form way)) 1 (moved way g.blocks)) w ≡ word_at src w
      word w low below =
          word_same src (set_word (set_word now 0 (to_form way)) 1 (moved way g.blocks)) w
          (kept (2 * w) (omega arith) ∙ c.contents (2 * w) (omega (arith, below)))
          (kept (2 * w + 1) (omega arith) ∙ c.contents (2 * w + 1) (omega (arith, below)))

  -- one word of an entry
  module _ {now : List ℕ} {named : ℕ} {Done : ℕ → Type 0} (p : Partly way src now g named Done) where
    module _ (i word : ℕ) (within : named < slots g) (number : (i ≡ 6) ⊎ (i ≡ 8)) where
      small : i < 16
      small = by number
        where
          by : (i ≡ 6) ⊎ (i ≡ 8) → i < 16
          by (inl is) = omega (arith, is)
          by (inr is) = omega (arith, is)

      entry_word_other : (e j : ℕ) → j < 16 → ((e ≡ named) × (j ≡ i) → ⊥) → entry_word (set_word now (entry_at g named + i) word) g e j ≡ entry_word now g e j
      unfolding entry_word
      entry_word_other e j below other =
          word_set_other now (entry_at g named + i) (entry_at g e + j) word (λ is. other (omega (arith, is, small), omega (arith, is, small)))

      pub entry_word_same : entry_word (set_word now (entry_at g named + i) word) g named i ≡ word
      unfolding entry_word
      entry_word_same =
          word_set_same now (entry_at g named + i) word (omega (arith, p.long, entry_low named within, small, total_room))

      number_word : (j : ℕ) → (j ≡ 6 → ⊥) → (j ≡ 8 → ⊥) → j ≡ i → ⊥
      number_word j six eight is = by number
        where
          by : (i ≡ 6) ⊎ (i ≡ 8) → ⊥
          by (inl is₂) = six (is ∙ is₂)
          by (inr is₂) = eight (is ∙ is₂)

      pub partly_number : Partly way src (set_word now (entry_at g named + i) word) g named Done
      unfolding link_of
      partly_number =
          record {
            long = length_set_word now (entry_at g named + i) word ∙ p.long;
            form = word_set_other now (entry_at g named + i) 0 word (λ is. omega (arith, is, some)) ∙ p.form;
            blocks = word_set_other now (entry_at g named + i) 1 word (λ is. omega (arith, is, some)) ∙ p.blocks;
            header = λ w low below. word_set_other now (entry_at g named + i) w word (λ is. omega (arith, is, below)) ∙ p.header w low below;
            entries = λ e inside j below six eight.
                entry_word_other e j below (λ same. number_word j six eight same.1) ∙ p.entries e inside j below six eight;
            first = λ e inside before. entry_word_other e 6 (omega arith) (λ same. omega (arith, before, same.0)) ∙ p.first e inside before;
            last = λ e inside before. entry_word_other e 8 (omega arith) (λ same. omega (arith, before, same.0)) ∙ p.last e inside before;
            bodies = λ b low high k below other.
                byte_set_other now (entry_at g named + i) word (moved way b * block_bytes g + k)
                (λ is. omega (arith, is, body_high b low, entry_low named within, small)) (λ is. omega (arith, is, body_high b low, entry_low named within, small))
                ∙ p.bodies b low high k below other;
            links = λ b low high done.
                word_set_other now (entry_at g named + i) (block_at g (moved way b)) word (λ is. omega (arith, is, body_high b low, entry_low named within, small))
                ∙ p.links b low high done;
          }

    -- an entry of which both are right is done
    pub partly_entry : entry_word now g named 6 ≡ renumbered way (entry_word src g named 6) → entry_word now g named 8 ≡ renumbered way (entry_word src g named 8)
        → Partly way src now g (named + 1) Done
    partly_entry first last =
        record {
          long = p.long;
          form = p.form;
          blocks = p.blocks;
          header = p.header;
          entries = p.entries;
          first = λ e inside before. by 6 e (p.first e inside) before first (ℕ_discrete e named);
          last = λ e inside before. by 8 e (p.last e inside) before last (ℕ_discrete e named);
          bodies = p.bodies;
          links = p.links;
        }
      where
        by : (i e : ℕ) → (e < named → entry_word now g e i ≡ renumbered way (entry_word src g e i)) → e < named + 1
            → entry_word now g named i ≡ renumbered way (entry_word src g named i) → Dec (e ≡ named) → entry_word now g e i ≡ renumbered way (entry_word src g e i)
        by i e old before new (yes is) = subst (λ (z : ℕ). entry_word now g z i ≡ renumbered way (entry_word src g z i)) (sym is) new
        by i e old before new (no other) = old (omega (arith, other))

    -- one link
    module _ (z : ℕ) (low : g.bodies.0 ≤ z) (high : z < g.blocks) where
      link_new : (word : ℕ) → link_of (set_word now (block_at g (moved way z)) word) g (moved way z) ≡ word
      unfolding link_of
      link_new word =
          word_set_same now (block_at g (moved way z)) word
          (omega (arith, p.long, some, block_room g.segments.0 (moved_less way z g.blocks (omega (arith, bodies_high stated movable, low)) high)))

      other_block : (b : ℕ) → g.bodies.0 ≤ b → (b ≡ z → ⊥) → moved way b ≡ moved way z → ⊥
      other_block b from not same =
          not
          (omega
          (arith, same, moved_by way b (omega (arith, bodies_high stated movable, from)), moved_by way z (omega (arith, bodies_high stated movable, low))))

      pub partly_link : Partly way src (set_word now (block_at g (moved way z)) (renumbered way (link_of src g z))) g named (λ b. Done b ⊎ (b ≡ z))
      unfolding entry_word
      partly_link =
          let word = renumbered way (link_of src g z) in
          record {
            long = length_set_word now (block_at g (moved way z)) word ∙ p.long;
            form = word_set_other now (block_at g (moved way z)) 0 word (λ is. omega (arith, is, some, body_high z low)) ∙ p.form;
            blocks = word_set_other now (block_at g (moved way z)) 1 word (λ is. omega (arith, is, some, body_high z low)) ∙ p.blocks;
            header = λ w from below. word_set_other now (block_at g (moved way z)) w word (λ is. omega (arith, is, below, body_high z low)) ∙ p.header w from below;
            entries = λ e inside j below six eight. outside e j inside below ∙ p.entries e inside j below six eight;
            first = λ e inside before. outside e 6 inside (omega arith) ∙ p.first e inside before;
            last = λ e inside before. outside e 8 inside (omega arith) ∙ p.last e inside before;
            bodies = λ b from below k short other. byte b from below k short other (ℕ_discrete b z);
            links = λ b from below done. link b from below done (ℕ_discrete b z);
          }
        where
          outside : (e j : ℕ) → e < slots g → j < 16
              → word_at (set_word now (block_at g (moved way z)) (renumbered way (link_of src g z))) (entry_at g e + j) ≡ word_at now (entry_at g e + j)
          outside e j inside below =
              word_set_other now (block_at g (moved way z)) (entry_at g e + j) (renumbered way (link_of src g z))
              (λ is. omega (arith, is, body_high z low, entry_low e inside, below))

          byte : (b : ℕ) → g.bodies.0 ≤ b → b < g.blocks → (k : ℕ) → k < block_bytes g → (k < 2 → Done b ⊎ (b ≡ z) → ⊥) → Dec (b ≡ z)
              → get_or (set_word now (block_at g (moved way z)) (renumbered way (link_of src g z))) (moved way b * block_bytes g + k) 0 ≡ get_or src (b * block_bytes g + k) 0
          byte b from below k short other (yes is) =
              let behind : 2 ≤ k = elim (dec_lt k 2) [ yes less ↦ absurd (other less (inr is)) | no not ↦ omega (arith, not) ] in
              let same = ap (λ (y : ℕ). moved way y * g.segments.0) is in
              byte_set_other now (block_at g (moved way z)) (renumbered way (link_of src g z)) (moved way b * block_bytes g + k)
              (λ place. omega (arith, place, same, behind)) (λ place. omega (arith, place, same, behind))
              ∙ p.bodies b from below k short (λ less done. other less (inl done))
          byte b from below k short other (no not) =
              byte_set_other now (block_at g (moved way z)) (renumbered way (link_of src g z)) (moved way b * block_bytes g + k)
              (λ place. apart_byte place (apart_blocks b z from low not)) (λ place. apart_byte₂ place (apart_blocks b z from low not))
              ∙ p.bodies b from below k short (λ less done. other less (inl done))
            where
              apart_byte : moved way b * block_bytes g + k ≡ 2 * block_at g (moved way z)
                  → (moved way b * g.segments.0 + g.segments.0 ≤ moved way z * g.segments.0) ⊎ (moved way z * g.segments.0 + g.segments.0 ≤ moved way b * g.segments.0) → ⊥
              apart_byte place (inl before) = omega (arith, place, before, short, some)
              apart_byte place (inr behind) = omega (arith, place, behind, short, some)

              apart_byte₂ : moved way b * block_bytes g + k ≡ 2 * block_at g (moved way z) + 1
                  → (moved way b * g.segments.0 + g.segments.0 ≤ moved way z * g.segments.0) ⊎ (moved way z * g.segments.0 + g.segments.0 ≤ moved way b * g.segments.0) → ⊥
              apart_byte₂ place (inl before) = omega (arith, place, before, short, some)
              apart_byte₂ place (inr behind) = omega (arith, place, behind, short, some)

          link : (b : ℕ) → g.bodies.0 ≤ b → b < g.blocks → Done b ⊎ (b ≡ z) → Dec (b ≡ z)
              → link_of (set_word now (block_at g (moved way z)) (renumbered way (link_of src g z))) g (moved way b) ≡ renumbered way (link_of src g b)
          link b from below done (yes is) =
              subst (λ (y : ℕ). link_of (set_word now (block_at g (moved way z)) (renumbered way (link_of src g z))) g (moved way y) ≡ renumbered way (link_of src g y)) (sym is)
              (link_new (renumbered way (link_of src g z)))
          link b from below (inl done) (no not) =
              link_set_other now g (moved way z) (renumbered way (link_of src g z)) (moved way b) some (other_block b from not) ∙ p.links b from below done
          link b from below (inr is) (no not) = absurd (not is)

    -- the map, which lies between the contents and the bodies
    module _ {after : List ℕ} {bit : ℕ → ℕ} (there : HasMap (moved_measures way g)) (made : MapWritten now after (moved_measures way g) bit (block_words g)) where
      map_low : (b : ℕ) → g.bodies.0 ≤ b → (g.contents + 1) * g.segments.0 + g.segments.0 ≤ moved way b * g.segments.0
      map_low b low =
          let above : g.contents + 1 < moved way b =
          omega (arith, there, moved_most way g.bodies.0 b (omega (arith, bodies_high stated movable)) low) in
          block_room g.segments.0 above

      early : (w : ℕ) → w < (g.contents + 1) * block_words g → word_at after w ≡ word_at now w
      early w below = word_same now after w (made.below (2 * w) (omega (arith, below))) (made.below (2 * w + 1) (omega (arith, below)))

      body : (b : ℕ) → g.bodies.0 ≤ b → (k : ℕ) → get_or after (moved way b * block_bytes g + k) 0 ≡ get_or now (moved way b * block_bytes g + k) 0
      body b low k = made.above (moved way b * block_bytes g + k) (omega (arith, map_low b low))

      pub partly_map : Partly way src after g named Done
      unfolding entry_word link_of
      partly_map =
          record {
            long = made.long ∙ p.long;
            form = early 0 (omega (arith, some)) ∙ p.form;
            blocks = early 1 (omega (arith, some)) ∙ p.blocks;
            header = λ v low below. early v (omega (arith, below)) ∙ p.header v low below;
            entries = λ e inside j below six eight. early (entry_at g e + j) (omega (arith, entry_low e inside, below)) ∙ p.entries e inside j below six eight;
            first = λ e inside before. early (entry_at g e + 6) (omega (arith, entry_low e inside)) ∙ p.first e inside before;
            last = λ e inside before. early (entry_at g e + 8) (omega (arith, entry_low e inside)) ∙ p.last e inside before;
            bodies = λ b low high k short other. body b low k ∙ p.bodies b low high k short other;
            links = λ b low high done. link b low ∙ p.links b low high done;
          }
        where
          link : (b : ℕ) → g.bodies.0 ≤ b → word_at after (block_at g (moved way b)) ≡ word_at now (block_at g (moved way b))
          link b low =
              word_same now after (block_at g (moved way b)) (made.above (2 * block_at g (moved way b)) (omega (arith, map_low b low)))
              (made.above (2 * block_at g (moved way b) + 1) (omega (arith, map_low b low)))

    -- all is done
    pub partly_whole : slots g ≤ named → ((b : ℕ) → OfLinked src g b ↔ Done b)
        → (HasMap (moved_measures way g) → (b : ℕ) → b < map_bits (moved_measures way g) → map_bit now (moved_measures way g) b ≡ marks way src g b) → Moved way src now g
    partly_whole all same bits =
        record {
          long = p.long;
          form = p.form;
          blocks = p.blocks;
          header = p.header;
          entries = p.entries;
          first = λ e inside. p.first e inside (omega arith);
          last = λ e inside. p.last e inside (omega arith);
          map = λ there b within. marks_iff stated movable b (bits there b within);
          bodies = λ b low high i short other. p.bodies b low high i short (λ less done. other less ((same b).1 done));
          links = λ b linked. let range = linked_body stated movable b linked in p.links b range.0 range.1 ((same b).0 linked);
        }

  -- both words of an entry, one after the other
  pub partly_words : {now : List ℕ} {named : ℕ} {Done : ℕ → Type 0} → Partly way src now g named Done → named < slots g
      → Partly way src (set_word (set_word now (entry_at g named + 6) (renumbered way (entry_word src g named 6))) (entry_at g named + 8)
      (renumbered way (entry_word src g named 8))) g (named + 1) Done
  partly_words {now} {named} p within =
      let first = partly_number p 6 (renumbered way (entry_word src g named 6)) within (inl refl) in
      let last = partly_number first 8 (renumbered way (entry_word src g named 8)) within (inr refl) in
      partly_entry last
      (entry_word_other first 8 (renumbered way (entry_word src g named 8)) within (inr refl) named 6 (omega arith) (λ same. omega (arith, same.1))
      ∙ entry_word_same p 6 (renumbered way (entry_word src g named 6)) within (inl refl))
      (entry_word_same first 8 (renumbered way (entry_word src g named 8)) within (inr refl))
