-- The forms of a pack. Word 0 of an image is its form, and all that a form decides of an image stands here: document 01 has form 1, document 02 §7 form 2,
-- which has a free map, and §11 form 3, which "is form 1 with blocks of 64 words".
use Rattle.std.specs.Prelude.{ℕ, ◌+◌, cond, eqb}

-- "word 0 is 1"; "A block is 256 words", of "64-word segments"; "In form 2, word 0 is 2"; "Form 3 (word 0 is 3)": "blocks of one segment".
-- The segments in a block, 0 where the form is not known
unfoldable pub segments_of : ℕ → ℕ
segments_of form = cond (eqb form 1) 4 (cond (eqb form 2) 4 (cond (eqb form 3) 1 0))

-- "word 1 is n, the blocks in all, 16 to 1024"; "Form 2 allows n to 4096"
abbrev pub least_blocks : ℕ
least_blocks = 16

unfoldable pub most_blocks_of : ℕ → ℕ
most_blocks_of form = cond (eqb form 2) 4096 1024

-- "word 2 is c, 1 to 8"; form 2: "and c to 32"; form 3: "c to 32"
abbrev pub least_contents : ℕ
least_contents = 1

unfoldable pub most_contents_of : ℕ → ℕ
most_contents_of form = cond (eqb form 1) 8 32

-- "word 3 is u, 0 to 64"; form 3: "at most 60 UICs"
unfoldable pub most_uics_of : ℕ → ℕ
most_uics_of form = cond (eqb form 3) 60 64

-- "contents first, then bodies": "Blocks 1 to c: 16 entries each .. Other blocks are bodies"; form 2: "Blocks 0 to c + 1 are system; bodies lie above":
-- the number of the first body in a pack of c blocks of contents
unfoldable pub bodies_of : ℕ → ℕ → ℕ
bodies_of form contents = contents + cond (eqb form 2) 2 1
