-- What a report that names a fault says of the image: the fault at the entry, the word and the block that it names, rule by rule.
use Rattle.std.specs.Prelude.{ℕ, ◌+◌, ◌≤◌, ◌<◌, ◌≡◌, ◌⊎◌, List}
use Rattle.words.specs.Word.{word_at}
use Rattle.pack.specs.Geometry.{geometry_of, segment_words, slots}
use Rattle.pack.specs.File.{link_of, count}
use Rattle.pack.specs.Entry.{entry_of, blocks_at, Empty}
use Rattle.pack.specs.Key.{key_in, SameKey}
use Rattle.pack.specs.Map.{HasMap, map_bits, map_bit}
use Rattle.faults.specs.declared.ReportAnswer.{ReportAnswer}
use Rattle.faults.specs.Rules.{stated_segments, RightSize, RightWord, RightField, RightExtent, RightChain, Body, Taken, chain_at}
use Rattle.faults.specs.Report.{SecondHolder}

-- an entry of the image, in use
pub record InUse (img : List ℕ) (e : ℕ) : Type 0 where
  pub inside : e < slots (geometry_of img)
  pub used : Empty img (geometry_of img) e → ⊥

-- a body at a place of the chain of entry e, which is in use and of a linked file
pub record ChainBlock (img : List ℕ) (e place b : ℕ) : Type 0 where
  pub entry : InUse img e
  pub linked : (entry_of img (geometry_of img) e).kind ≡ 2
  pub within : place < (entry_of img (geometry_of img) e).length
  pub is : chain_at img (entry_of img (geometry_of img) e) place ≡ b
  pub body : Body (geometry_of img) b

-- 02 §7: a bit that is not what it must be, "1 if system or held, 0 otherwise and for b from n up"
pub data WrongBit (img : List ℕ) (b : ℕ) : Type 0 where
  marked : map_bit img (geometry_of img) b ≡ 1 → (Taken img b → ⊥) → WrongBit img b
  unmarked : (map_bit img (geometry_of img) b ≡ 1 → ⊥) → Taken img b → WrongBit img b

-- "every fault named is really there"
pub data Fault (img : List ℕ) : ReportAnswer → Type 0 where
  wrong_size : (RightSize img → ⊥) → Fault img (record { rule = 1; entry = 0; word = 0; block = 0 })
  wrong_word : (w : ℕ) → w < segment_words (stated_segments (word_at img 0)) → (RightWord img w → ⊥)
      → Fault img (record { rule = 2; entry = 0; word = w; block = 0 })
  wrong_field : (e w : ℕ) → InUse img e → (w < 6) ⊎ ((9 ≤ w) × (w < 16)) → (RightField img e w (entry_of img (geometry_of img) e) → ⊥)
      → Fault img (record { rule = 3; entry = e; word = w; block = 0 })
  -- f is the earlier of the two
  same_name : (e f : ℕ) → InUse img e → InUse img f → f < e → SameKey (key_in (entry_of img (geometry_of img) f)) (key_in (entry_of img (geometry_of img) e))
      → Fault img (record { rule = 4; entry = e; word = 3; block = 0 })
  wrong_extent : (e w : ℕ) → InUse img e → (entry_of img (geometry_of img) e).kind ≡ 1 → (6 ≤ w) × (w ≤ 8)
      → (RightExtent (geometry_of img) w (entry_of img (geometry_of img) e) → ⊥) → Fault img (record { rule = 5; entry = e; word = w; block = 0 })
  wrong_chain : (e w : ℕ) → InUse img e → (entry_of img (geometry_of img) e).kind ≡ 2 → (w ≡ 6) ⊎ (w ≡ 8)
      → (RightChain img w (entry_of img (geometry_of img) e) → ⊥) → Fault img (record { rule = 5; entry = e; word = w; block = 0 })
  -- the link of a block before the last place leads to no body
  wrong_link : (e place b : ℕ) → ChainBlock img e place b → place + 1 < (entry_of img (geometry_of img) e).length
      → (Body (geometry_of img) (link_of img (geometry_of img) b) → ⊥) → Fault img (record { rule = 6; entry = e; word = 0; block = b })
  -- "A chain that loops is reported as a fault of its own file": the block stands at two places of its chain
  leads_back : (e first second b : ℕ) → first < second → ChainBlock img e first b → ChainBlock img e second b
      → Fault img (record { rule = 7; entry = e; word = 0; block = b })
  no_end : (e place b : ℕ) → ChainBlock img e place b → place + 1 ≡ (entry_of img (geometry_of img) e).length → (link_of img (geometry_of img) b ≡ 0 → ⊥)
      → Fault img (record { rule = 8; entry = e; word = 0; block = b })
  -- "a block is shared if two files reach it, and the second is named": no file reaches any block c twice, so that a loop is not told as this
  two_files : (e b : ℕ) → SecondHolder img b e → Body (geometry_of img) b
      → ((f c : ℕ) → f < slots (geometry_of img) → count c (blocks_at img (geometry_of img) f) ≤ 1)
      → Fault img (record { rule = 9; entry = e; word = 0; block = b })
  -- the bit of a block on the map, also of one from n up
  wrong_bit : (b : ℕ) → HasMap (geometry_of img) → b < map_bits (geometry_of img) → WrongBit img b → Fault img (record { rule = 10; entry = 0; word = 0; block = b })
