-- Means: the rules of one entry as tests, in the order in which the code makes them.
use Rattle.std.specs.Prelude.{ℕ, ◌+◌, ◌-◌, ◌≡◌, Bool, true, cond, not, ◌&&◌, ◌⊎◌, List, eqb, leb, ltb}
use Rattle.radix.specs.NamesTest.{legal_name, legal_extension}
use Rattle.pack.specs.declared.Geometry.{Geometry}
use Rattle.pack.specs.declared.Entry.{Entry}
use Rattle.pack.specs.Geometry.{entry_at}
use Rattle.pack.specs.HeaderTest.{zeros, listed}
use Rattle.pack.specs.File.{next_of, after, last_of, blocks_of, one}
use Rattle.pack.specs.Entry.{entry_word, entry_of}
use Rattle.consistency.specs.Walk.{takes, blocks_from}

-- a legal name, a legal extension, a UIC of the list
unfoldable pub key_test : List ℕ → Entry → Bool
key_test img x = legal_name x.name1 x.name2 && (legal_extension x.extension && listed img x.uic)

-- "a contiguous file's writer is 0 or 1, a linked one's 0, 2 or 3": as a rule and as a test (`writer_iff`)
abbrev pub WriterRight : ℕ → ℕ → Type 0
WriterRight kind writer = ((kind ≡ 1) × ((writer ≡ 0) ⊎ (writer ≡ 1))) ⊎ ((kind ≡ 2) × ((writer ≡ 0) ⊎ ((writer ≡ 2) ⊎ (writer ≡ 3))))

unfoldable pub writer_test : ℕ → ℕ → Bool
writer_test kind writer = cond (eqb kind 1) (leb writer 1) (eqb kind 2 && (not (eqb writer 1) && leb writer 3))

-- the length goes with the kind too
unfoldable pub kind_test : ℕ → ℕ → ℕ → Bool
kind_test kind length writer = not (eqb kind 1 && ltb length 1) && writer_test kind writer

-- readers, plus 1 if there is a writer, are at most 62
unfoldable pub opens_test : ℕ → ℕ → Bool
opens_test writer readers = leb (readers + one (ltb 0 writer)) 62

-- the fields of an entry in use
unfoldable pub fields_test : List ℕ → Entry → Bool
fields_test img x =
    key_test img x && (leb x.protect 255 && (kind_test x.kind x.length x.writer && opens_test x.writer x.readers))

-- the blocks of a file end at its last block, and a chain ends in link 0
unfoldable pub end_test : List ℕ → Geometry → Entry → Bool
end_test img g x =
    eqb (last_of (next_of img g x.kind) 0 x.length x.first.0) x.last.0
    && cond (eqb x.kind 1) true (eqb (after (next_of img g x.kind) x.length x.first.0) 0)

-- they can be taken on the map, and end so
unfoldable pub body_test : List ℕ → Geometry → List ℕ → Entry → Bool
body_test img g map x = takes g.bodies.0 g.blocks map (blocks_of img g x) && end_test img g x

-- the words of entry e from word i on are 0
unfoldable pub rest_test : List ℕ → Geometry → ℕ → ℕ → Bool
rest_test img g e i = zeros img (entry_at g e + i) (16 - i)

-- the same of a contiguous file that has a block, and of a chain, whose last block is `other` where it has none; `stored` is the last block by the entry
unfoldable pub run_test : List ℕ → Geometry → List ℕ → ℕ → ℕ → ℕ → Bool
run_test img g map length first stored =
    ltb 0 length
    && (takes g.bodies.0 g.blocks map (blocks_from img g 1 length first) && eqb (last_of (next_of img g 1) 0 length first) stored)

unfoldable pub chain_test : List ℕ → Geometry → List ℕ → ℕ → ℕ → ℕ → ℕ → Bool
chain_test img g map other length first stored =
    takes g.bodies.0 g.blocks map (blocks_from img g 2 length first)
    && (eqb (last_of (next_of img g 2) other length first) stored && eqb (after (next_of img g 2) length first) 0)

-- the writer goes with the kind, he and the readers are few, and the words behind them are 0
unfoldable pub open_test : List ℕ → Geometry → ℕ → ℕ → Bool
open_test img g e kind =
    writer_test kind (entry_word img g e 9) && (opens_test (entry_word img g e 9) (entry_word img g e 10) && rest_test img g e 11)

-- what is judged of entry e, one in use, beside its name, extension and UIC (`file_parts`)
unfoldable pub held_test : List ℕ → Geometry → List ℕ → ℕ → Bool
held_test img g map e =
    leb (entry_of img g e).protect 255
    && (open_test img g e (entry_of img g e).kind
    && (not (eqb (entry_of img g e).kind 1 && ltb (entry_of img g e).length 1) && body_test img g map (entry_of img g e)))

-- the same of any entry: one whose first word is 0 is all zero
unfoldable pub placed_test : List ℕ → Geometry → List ℕ → ℕ → Bool
placed_test img g map e = cond (eqb (entry_of img g e).name1 0) (rest_test img g e 0) (held_test img g map e)

-- an entry whose first word is 0 is all zero; another is that of a file
unfoldable pub entry_test : List ℕ → Geometry → List ℕ → ℕ → Bool
entry_test img g map e =
    cond (eqb (entry_of img g e).name1 0) (rest_test img g e 0)
    (fields_test img (entry_of img g e) && (rest_test img g e 11 && body_test img g map (entry_of img g e)))
