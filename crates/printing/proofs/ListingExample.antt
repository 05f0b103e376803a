-- Document 01's example: the text of every image that it describes is its two lines.
use Prim.Native.Nat.{ℕ, suc, zero, ◌+◌, ◌≤◌, ◌<◌}
use mathlib.Core.Path.{◌≡◌, refl, ap, ◌∙◌}
use mathlib.Core.List.{List, [], ◌++◌, append-nil}
use native.Mathlib.Omega.{arith}
use lib.ListN.{length}
use borrow.Author.Tests.{eq-eqb, ne_eqb}
use Rattle.radix.specs.Characters.{table, character_of}
use Rattle.radix.specs.Packing.{characters_of}
use Rattle.pack.specs.declared.Geometry.{Geometry}
use Rattle.pack.specs.declared.Entry.{Entry}
use Rattle.pack.specs.Form.{segments_of, bodies_of}
use Rattle.pack.specs.Geometry.{geometry_of, slots}
use Rattle.pack.specs.Entry.{entry_of}
use Rattle.pack.specs.Consistent.{total}
use Rattle.pack.specs.Owner.{free_count}
use Rattle.pack.proofs.ConsistentTotal.{total_same, total_each}
use Rattle.consistency.proofs.ConsistentTestIff.{consistent_iff}
use Rattle.owners.proofs.OwnerSum.{sum_of_blocks}
use Rattle.printing.specs.Listing.{head_line, entry_line, lines_from, listing, longest}
use Rattle.printing.specs.ListingExample.{freq, first_line, second_line, ExamplePack}
use Rattle.printing.proofs.Listing.{listed_text}

pub first_line_law : head_line 16 11 ≡ first_line
unfolding head_line
first_line_law = refl

pub second_line_law : entry_line freq ≡ second_line
unfolding entry_line characters_of character_of table
second_line_law = refl

-- entries without a name have no lines
lines_none : (img : List ℕ) (g : Geometry) (e k : ℕ) → ((f : ℕ) → e ≤ f → f < e + k → (entry_of img g f).name1 ≡ 0) → lines_from img g e k ≡ []
unfolding lines_from
lines_none img g e zero empty = refl
lines_none img g e (suc k) empty =
    rw (eq-eqb (entry_of img g e).name1 0 (empty e (omega arith) (omega arith))) (lines_none img g (e + 1) k (λ f low high. empty f (omega arith) (omega arith)))

lines_one : (img : List ℕ) (g : Geometry) (e k : ℕ) (x : Entry) → entry_of img g e ≡ x → (x.name1 ≡ 0 → ⊥)
    → ((f : ℕ) → e + 1 ≤ f → f < e + 1 + k → (entry_of img g f).name1 ≡ 0) → lines_from img g e (suc k) ≡ entry_line x
unfolding lines_from
lines_one img g e k x is used empty = rw (is, ne_eqb x.name1 0 used, lines_none img g (e + 1) k empty) (append-nil (entry_line x))

total_first : (f : ℕ → ℕ) (from k : ℕ) → total f from (suc k) ≡ f from + total f (from + 1) k
unfolding total
total_first f from k = refl

both_lines : (blocks free : ℕ) (lines : List ℕ) → blocks ≡ 16 → free ≡ 11 → lines ≡ second_line → head_line blocks free ++ lines ≡ first_line ++ second_line
both_lines blocks free lines p q r = rw (p, q, r, first_line_law)

module _ {img : List ℕ} (described : ExamplePack img) where
  no_name : (e : ℕ) → 1 ≤ e → e < 16 → (entry_of img (geometry_of img) e).name1 ≡ 0
  unfolding entry_of
  no_name e low high = (described.others e low high).zero 0 (omega arith)

  no_length : (e : ℕ) → 1 ≤ e → e < 16 → (entry_of img (geometry_of img) e).length ≡ 0
  unfolding entry_of
  no_length e low high = (described.others e low high).zero 7 (omega arith)

  entries : slots (geometry_of img) ≡ 16
  unfolding geometry_of segments_of
  entries = rw (described.form, described.contents)

  short : length img ≤ longest
  unfolding geometry_of segments_of
  short = let size = described.right.header.measured.size in omega (arith, rw (described.form, described.blocks) at size)

  one_line : lines_from img (geometry_of img) 0 (slots (geometry_of img)) ≡ second_line
  one_line =
      ap (lines_from img (geometry_of img) 0) entries
      ∙ lines_one img (geometry_of img) 0 15 freq described.entry (λ is. omega arith) (λ e low high. no_name e low high)
      ∙ second_line_law

  abbrev stored : ℕ → ℕ
  stored e = (entry_of img (geometry_of img) e).length

  lengths : total stored 0 (slots (geometry_of img)) ≡ 3
  lengths =
      omega (
        arith,
        ap (total stored 0) entries,
        total_first stored 0 15,
        ap (λ (x : Entry). x.length) described.entry,
        total_same stored (λ e. 0) 1 15 (λ e low high. no_length e low high),
        total_each 0 1 15,
      )

  blocks : (geometry_of img).blocks ≡ 16
  unfolding geometry_of
  blocks = described.blocks

  bodies : (geometry_of img).bodies.0 ≡ 2
  unfolding geometry_of bodies_of
  bodies = omega (arith, described.contents, ap (λ (form : ℕ). bodies_of form 0) described.form)

  free : free_count img ≡ 11
  free = omega (arith, sum_of_blocks described.right, lengths, blocks, bodies)

  -- "It prints all of this"
  pub printed : listing img ≡ first_line ++ second_line
  printed = listed_text img short ((consistent_iff img).1 described.right) ∙ both_lines _ _ _ blocks free one_line
