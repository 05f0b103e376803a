-- The report: the rules in the order in which they are looked at, and the first that fails.
use Rattle.std.specs.Prelude.{ℕ, suc, zero, ◌+◌, ◌-◌, ◌<◌, ◌≡◌, cond, List, [], ◌∷◌, ◌++◌, eqb}
use Rattle.words.specs.Word.{word_at}
use Rattle.pack.specs.declared.Entry.{Entry}
use Rattle.pack.specs.Geometry.{geometry_of, segment_words, slots}
use Rattle.pack.specs.File.{count}
use Rattle.pack.specs.Entry.{entry_of, blocks_at}
use Rattle.pack.specs.Map.{map_bits}
use Rattle.faults.specs.declared.ReportAnswer.{ReportAnswer}
use Rattle.faults.specs.Rules.{Rule, size, header, entry, name, extent, link, loop, end, shared, map, stated_segments, chain_at, Holds}
use Rattle.faults.specs.Second.{second}

-- a rule for each of `k` numbers from `from` on
unfoldable pub each : (ℕ → Rule) → ℕ → ℕ → List Rule
each rule from zero = []
each rule from (suc k) = rule from ∷ each rule (from + 1) k

-- of a chain: at each block but the last its link, and that it leads to no block a second time
unfoldable pub links : ℕ → ℕ → ℕ → List Rule
links e place zero = []
links e place (suc k) = link e place ∷ (loop e place ∷ links e (place + 1) k)

-- "then the file's extent or chain": of a linked file word 6 first, then link by link in the order of the chain, then word 8, then the end
unfoldable pub file_order : ℕ → Entry → List Rule
file_order e x =
    cond (eqb x.kind 1)
    (extent e 6 ∷ (extent e 7 ∷ (extent e 8 ∷ [])))
    (extent e 6 ∷ (links e 0 (x.length - 1) ++ (extent e 8 ∷ (end e ∷ []))))

-- "Within an entry the rules go by word number, then the file's extent or chain."; "Two entries of one name are reported at the later one, with word 3"
unfoldable pub entry_order : List ℕ → ℕ → List Rule
entry_order img e =
    each (λ w. entry e w) 0 4
    ++ (name e ∷ (each (λ w. entry e w) 4 2 ++ (each (λ w. entry e w) 9 7 ++ file_order e (entry_of img (geometry_of img) e))))

unfoldable pub entries_order : List ℕ → ℕ → ℕ → List Rule
entries_order img e zero = []
entries_order img e (suc k) = entry_order img e ++ entries_order img (e + 1) k

-- "in document 01's order: size, header, entry by entry, then shared blocks in block order"; 02 §7: "that the map agrees, checked last", by block number too
unfoldable pub order : List ℕ → List Rule
order img =
    size
    ∷ (each header 0 (segment_words (stated_segments (word_at img 0)))
    ++ (entries_order img 0 (slots (geometry_of img)) ++ (each shared 0 (geometry_of img).blocks ++ each map 0 (map_bits (geometry_of img)))))

-- "a block is shared if two files reach it, and the second is named": it and one before it reach the block, and no other before it does
pub record SecondHolder (img : List ℕ) (b e : ℕ) : Type 0 where
  pub inside : e < slots (geometry_of img)
  pub reaches : 0 < count b (blocks_at img (geometry_of img) e)
  pub first : ℕ
  pub before : first < e
  pub too : 0 < count b (blocks_at img (geometry_of img) first)
  pub only : (f : ℕ) → f < e → 0 < count b (blocks_at img (geometry_of img) f) → f ≡ first

-- what is reported where a rule fails: its number, "with the entry and block concerned" and the word, 0 where it names none. LINK names the block whose link is wrong, LOOP
-- the block to which a link leads a second time, END the last block, MAP the block whose bit is wrong.
abbrev pub reported : List ℕ → Rule → ReportAnswer
reported img size = record { rule = 1; entry = 0; word = 0; block = 0 }
reported img (header w) = record { rule = 2; entry = 0; word = w; block = 0 }
reported img (entry e w) = record { rule = 3; entry = e; word = w; block = 0 }
reported img (name e) = record { rule = 4; entry = e; word = 3; block = 0 }
reported img (extent e w) = record { rule = 5; entry = e; word = w; block = 0 }
reported img (link e place) = record { rule = 6; entry = e; word = 0; block = chain_at img (entry_of img (geometry_of img) e) place }
reported img (loop e place) = record { rule = 7; entry = e; word = 0; block = chain_at img (entry_of img (geometry_of img) e) (place + 1) }
reported img (end e) =
    record { rule = 8; entry = e; word = 0; block = chain_at img (entry_of img (geometry_of img) e) ((entry_of img (geometry_of img) e).length - 1) }
reported img (shared b) = record { rule = 9; entry = second img b; word = 0; block = b }
reported img (map b) = record { rule = 10; entry = 0; word = 0; block = b }

-- "It says consistent exactly if document 01 says so": no rule fails
abbrev pub nothing_wrong : ReportAnswer
nothing_wrong = record { rule = 0; entry = 0; word = 0; block = 0 }

-- "a report that names the first rule of consistency that fails": of these rules, in this order
pub data Reported (img : List ℕ) : List Rule → ReportAnswer → Type 0 where
  consistent : Reported img [] nothing_wrong
  fault : {rule : Rule} {more : List Rule} → (Holds img rule → ⊥) → Reported img (rule ∷ more) (reported img rule)
  right : {rule : Rule} {more : List Rule} {answer : ReportAnswer} → Holds img rule → Reported img more answer → Reported img (rule ∷ more) answer

abbrev pub Report : List ℕ → ReportAnswer → Type 0
Report img answer = Reported img (order img) answer
