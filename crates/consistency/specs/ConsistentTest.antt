-- Means: the check of a whole image as a test; proofs/ConsistentTestIff.antt has that it is true exactly if the image is consistent.
use Rattle.std.specs.Prelude.{ℕ, suc, zero, ◌+◌, ◌≤◌, ◌<◌, Bool, true, cond, ◌&&◌, List, eqb, replicate, Option, Some, None}
use Rattle.pack.specs.declared.Geometry.{Geometry}
use Rattle.pack.specs.Geometry.{geometry_of, slots}
use Rattle.pack.specs.HeaderTest.{header_test}
use Rattle.pack.specs.Entry.{entry_of, blocks_at, Empty}
use Rattle.pack.specs.MapSays.{marking}
use Rattle.consistency.specs.Walk.{mark, system_set}
use Rattle.consistency.specs.EntryTest.{key_test, placed_test, entry_test}
use Rattle.consistency.specs.DifferTest.{new_test, differ_test}
use Rattle.consistency.specs.MapTest.{map_test}

-- the `k` entries from e on are right, each with its blocks taken on the map that those before it left
unfoldable pub scan_test : List ℕ → Geometry → List ℕ → ℕ → ℕ → Bool
scan_test img g map e zero = true
scan_test img g map e (suc k) = entry_test img g map e && scan_test img g (mark map (blocks_at img g e)) (e + 1) k

-- the map that they leave
unfoldable pub mark_all : List ℕ → Geometry → List ℕ → ℕ → ℕ → List ℕ
mark_all img g map e zero = map
mark_all img g map e (suc k) = mark_all img g (mark map (blocks_at img g e)) (e + 1) k

-- the same in two parts (`parted`): all but the names of the `k` entries from e on, and their names, extensions and UICs, with which their files differ
unfoldable pub bodies_test : List ℕ → Geometry → List ℕ → ℕ → ℕ → Bool
bodies_test img g map e zero = true
bodies_test img g map e (suc k) = placed_test img g map e && bodies_test img g (mark map (blocks_at img g e)) (e + 1) k

unfoldable pub named_test : List ℕ → Geometry → ℕ → Bool
named_test img g e = cond (eqb (entry_of img g e).name1 0) true (key_test img (entry_of img g e)) && new_test img g e

unfoldable pub names_test : List ℕ → Geometry → ℕ → ℕ → Bool
names_test img g e zero = true
names_test img g e (suc k) = named_test img g e && names_test img g (e + 1) k

-- the map with so many places on which no block is taken, and that with the system's
abbrev pub empty_map : ℕ → List ℕ
empty_map long = replicate long 0

abbrev pub system_map : ℕ → Geometry → List ℕ
system_map long g = system_set (empty_map long) g.bodies.0 1

-- from entry `end` on all are empty
pub record UsedEnd (img : List ℕ) (g : Geometry) (end : ℕ) : Type 0 where
  pub most : end ≤ slots g
  pub empty : (e : ℕ) → end ≤ e → e < slots g → Empty img g e

-- the entries of an image are right, and their files differ; judged on a map of so many places (`entries_any`: any number that is enough)
unfoldable pub entries_test : ℕ → List ℕ → Geometry → Bool
entries_test long img g = scan_test img g (system_map long g) 0 (slots g) && differ_test img g 0 (slots g)

-- what is judged behind the header: the entries, and "that the map agrees, checked last"
unfoldable pub files_test : List ℕ → Geometry → Bool
files_test img g = entries_test g.blocks img g && map_test img g (marking img g)

unfoldable pub consistent : List ℕ → Bool
consistent img = header_test img && files_test img (geometry_of img)

-- what a pack is opened as: the measures of a consistent image, or nothing
abbrev pub Opened : Type 0
Opened = Option Geometry

unfoldable pub opened_of : List ℕ → Opened
opened_of img = cond (consistent img) (Some (geometry_of img)) None
