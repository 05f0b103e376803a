-- Means: that files differ in name, extension or UIC, as a test of each pair of entries.
use Rattle.std.specs.Prelude.{ℕ, suc, zero, ◌+◌, ◌*◌, ◌/◌, ◌%◌, ◌≤◌, ◌<◌, Bool, true, false, cond, not, ◌&&◌, List, ◌≡◌, eqb, length, get_or}
use Rattle.pack.specs.declared.Geometry.{Geometry}
use Rattle.pack.specs.KeyTest.{same_key}
use Rattle.pack.specs.Key.{key_in}
use Rattle.pack.specs.Entry.{entry_word, entry_of}

-- two entries have the same name, extension and UIC
abbrev pub same_test : List ℕ → Geometry → ℕ → ℕ → Bool
same_test img g e f = same_key (key_in (entry_of img g e)) (key_in (entry_of img g f))

-- name, extension and UIC of entry e as one number; each of them is a word of 16 bits
unfoldable pub key_number : List ℕ → Geometry → ℕ → ℕ
key_number img g e =
    entry_word img g e 0 + 65536 * entry_word img g e 1 + 4294967296 * entry_word img g e 2 + 281474976710656 * entry_word img g e 3

pub record SmallKey (img : List ℕ) (g : Geometry) (e : ℕ) : Type 0 where
  pub name1 : entry_word img g e 0 < 65536
  pub name2 : entry_word img g e 1 < 65536
  pub extension : entry_word img g e 2 < 65536
  pub uic : entry_word img g e 3 < 65536

-- files stand in lists, by a number made of that one; there are so many lists, or so many
pub data TableSize : ℕ → Type 0 where
  few : TableSize 256
  many : TableSize 1024

unfoldable pub slot_of : ℕ → ℕ → ℕ
slot_of long key = (((key % 4294967296 + key / 4294967296) * 1580693937) / 8388608) % long

-- a list begins with an entry's number plus 1, or is empty where that is 0, and each entry leads to another: which entries are in it
pub data InList (links : List ℕ) : ℕ → ℕ → Type 0 where
  here : {f i : ℕ} → f ≡ suc i → InList links f i
  later : {f i : ℕ} (k : ℕ) → f ≡ suc k → InList links (get_or links k 0) i → InList links f i

-- an entry before `from` that has a number
pub record Met (img : List ℕ) (g : Geometry) (key from : ℕ) : Type 0 where
  pub at : ℕ
  pub before : at < from
  pub small : SmallKey img g at
  pub same : key_number img g at ≡ key

-- whether none in a list has it
pub record Compared (img : List ℕ) (g : Geometry) (links : List ℕ) (key from : ℕ) (none : Bool) : Type 0 where
  pub other : none ≡ true → (i : ℕ) → InList links from i → key_number img g i ≡ key → ⊥
  pub met : none ≡ false → Met img g key from

-- entry e differs from each of the `k` entries from f on
unfoldable pub apart_test : List ℕ → Geometry → ℕ → ℕ → ℕ → Bool
apart_test img g e f zero = true
apart_test img g e f (suc k) = not (same_test img g e f) && apart_test img g e (f + 1) k

-- entry e is empty, or differs from each entry before it
unfoldable pub new_test : List ℕ → Geometry → ℕ → Bool
new_test img g e = cond (eqb (entry_word img g e 0) 0) true (apart_test img g e 0 e)

-- so does each of the `k` entries from e on
unfoldable pub differ_test : List ℕ → Geometry → ℕ → ℕ → Bool
differ_test img g e zero = true
differ_test img g e (suc k) = new_test img g e && differ_test img g (e + 1) k

-- the files before entry e stand in their lists, the latest first
pub record Listing (img : List ℕ) (g : Geometry) (heads links : List ℕ) (e : ℕ) : Type 0 where
  pub size : TableSize (length heads)
  pub first : (s : ℕ) → get_or heads s 0 ≤ e
  pub next : (f : ℕ) → get_or links f 0 ≤ f
  pub all : (i : ℕ) → i < e → (entry_word img g i 0 ≡ 0 → ⊥) → InList links (get_or heads (slot_of (length heads) (key_number img g i)) 0) i
