-- Means: the rules of block 0 as tests, in the order in which the code makes them. proofs/HeaderTest*.antt have that each is true exactly if its rule holds.
use Rattle.std.specs.Prelude.{ℕ, suc, zero, ◌+◌, ◌*◌, ◌-◌, Bool, true, false, cond, not, ◌&&◌, List, eqb, leb, ltb, length, Option, Some, None}
use Rattle.words.specs.Word.{word_at}
use Rattle.pack.specs.declared.Geometry.{Geometry}
use Rattle.pack.specs.Form.{segments_of, least_blocks, most_blocks_of, least_contents, most_contents_of, bodies_of, most_uics_of}
use Rattle.pack.specs.Geometry.{geometry_of, segment_bytes, block_words}
use Rattle.pack.specs.Header.{uic_count}

-- `k` words, the first of them word `from`, are 0
unfoldable pub zeros : List ℕ → ℕ → ℕ → Bool
zeros img from zero = true
zeros img from (suc k) = eqb (word_at img from) 0 && zeros img (from + 1) k

-- a number is among `k` words, the first of them word `from`
unfoldable pub among : List ℕ → ℕ → ℕ → ℕ → Bool
among img word from zero = false
among img word from (suc k) = cond (eqb (word_at img from) word) true (among img word (from + 1) k)

-- `k` words, the first of them word `from`, are distinct and not 0
unfoldable pub distinct : List ℕ → ℕ → ℕ → Bool
distinct img from zero = true
distinct img from (suc k) = not (eqb (word_at img from) 0) && (not (among img (word_at img from) (from + 1) k) && distinct img (from + 1) k)

-- a UIC of the list
unfoldable pub listed : List ℕ → ℕ → Bool
listed img uic = among img uic 4 (uic_count img)

-- the form is known, n, c and u are in its bounds, and the image is as long as n says
unfoldable pub measured : ℕ → ℕ → ℕ → ℕ → ℕ → Bool
measured long form blocks contents uics =
    ltb 0 (segments_of form)
    && (leb least_blocks blocks
    && (leb blocks (most_blocks_of form)
    && (leb least_contents contents
    && (leb contents (most_contents_of form)
    && (ltb (bodies_of form contents) blocks && (leb uics (most_uics_of form) && eqb long (blocks * segment_bytes (segments_of form))))))))

unfoldable pub header_test : List ℕ → Bool
header_test img =
    measured (length img) (word_at img 0) (word_at img 1) (word_at img 2) (uic_count img)
    && (distinct img 4 (uic_count img) && zeros img (4 + uic_count img) (block_words (geometry_of img) - (4 + uic_count img)))

-- the measures of an image whose block 0 is right, or nothing
unfoldable pub header_of : List ℕ → Option Geometry
header_of img = cond (header_test img) (Some (geometry_of img)) None
