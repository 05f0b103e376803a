-- Entries read word by word and whole, and the blocks of an empty one.
use Prim.Native.Nat.{ℕ, ◌+◌, ◌*◌}
use mathlib.Core.Path.{◌≡◌, ap}
use mathlib.Core.List.{List, []}
use native.Mathlib.Omega.{arith}
use Rattle.words.specs.Word.{word_at}
use Rattle.pack.specs.declared.Geometry.{Geometry}
use Rattle.pack.specs.declared.Entry.{Entry}
use Rattle.pack.specs.declared.Key.{Key}
use Rattle.pack.specs.File.{next_of, chain, blocks_of}
use Rattle.pack.specs.Geometry.{block_words}
use Rattle.pack.specs.Key.{key_in}
use Rattle.pack.specs.Entry.{entry_word, entry_of, Empty, blocks_at}

-- an empty entry has no blocks
pub empty_length : (img : List ℕ) (g : Geometry) (e : ℕ) → Empty img g e → (entry_of img g e).length ≡ 0
unfolding entry_of
empty_length img g e empty = empty.zero 7 (omega arith)

pub empty_blocks : (img : List ℕ) (g : Geometry) (e : ℕ) → Empty img g e → blocks_at img g e ≡ []
unfolding blocks_of chain
empty_blocks img g e empty =
    ap (λ (k : ℕ). chain (next_of img g (entry_of img g e).kind) k (entry_of img g e).first.0) (empty_length img g e empty)

-- a word at its place, by the words of a block as they were read
pub entry_word_is : (img : List ℕ) (g : Geometry) (e i word : ℕ) {words : ℕ} → words ≡ block_words g → word ≡ word_at img (words + 16 * e + i)
    → word ≡ entry_word img g e i
unfolding entry_word
entry_word_is img g e i word size is = rw size at is

pub entry_is : (img : List ℕ) (g : Geometry) (e : ℕ) (x : Entry)
    → x.name1 ≡ entry_word img g e 0 → x.name2 ≡ entry_word img g e 1 → x.extension ≡ entry_word img g e 2 → x.uic ≡ entry_word img g e 3
    → x.protect ≡ entry_word img g e 4 → x.kind ≡ entry_word img g e 5 → x.first.0 ≡ entry_word img g e 6 → x.length ≡ entry_word img g e 7
    → x.last.0 ≡ entry_word img g e 8 → x.writer ≡ entry_word img g e 9 → x.readers ≡ entry_word img g e 10 → x ≡ entry_of img g e
unfolding entry_of
entry_is img g e x a b c d p k f l z w r =
    λ i. record {
      name1 = a i;
      name2 = b i;
      extension = c i;
      uic = d i;
      protect = p i;
      kind = k i;
      first = record { 0 = f i };
      length = l i;
      last = record { 0 = z i };
      writer = w i;
      readers = r i;
    }

pub key_is : (img : List ℕ) (g : Geometry) (e : ℕ) (key : Key) → key.name1 ≡ entry_word img g e 0 → key.name2 ≡ entry_word img g e 1
    → key.extension ≡ entry_word img g e 2 → key.uic ≡ entry_word img g e 3 → key ≡ key_in (entry_of img g e)
unfolding entry_of
key_is img g e key a b c d = λ i. record { name1 = a i; name2 = b i; extension = c i; uic = d i }
