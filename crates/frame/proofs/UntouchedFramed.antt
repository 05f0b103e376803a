-- Files that nobody touched: which they are where a request changed some words, and that two requests together leave what each left.
use Prim.Native.Nat.{ℕ, ◌+◌, ◌*◌, ◌<◌}
use mathlib.Core.Path.{◌≡◌, refl, sym, ap, subst, ◌∙◌}
use mathlib.Core.List.{List}
use native.Mathlib.Omega.{arith}
use lib.ListN.{length, get_or}
use Rattle.pack.specs.declared.Entry.{Entry}
use Rattle.pack.specs.declared.Geometry.{Geometry}
use Rattle.pack.specs.declared.Key.{Key}
use Rattle.pack.specs.Geometry.{geometry_of, block_bytes, slots}
use Rattle.pack.specs.Header.{RightHeader}
use Rattle.pack.specs.File.{count}
use Rattle.pack.specs.Entry.{entry_word, entry_of, blocks_at, Empty}
use Rattle.pack.specs.Consistent.{Consistent}
use Rattle.pack.specs.Key.{key_in, SameKey}
use Rattle.pack.specs.Untouched.{Untouched}
use Rattle.pack.proofs.KeySame.{key_single}
use Rattle.frame.specs.Framed.{Only, Never, Kept}
use Rattle.frame.specs.Framing.{Framed}
use Rattle.frame.proofs.EntrySame.{link_same, entry_same, empty_same, blocks_same}
use Rattle.frame.proofs.FramedCompose.{entries_kept}
use Rattle.frame.proofs.FramedStays.{header_segments, geometry_framed, bytes_framed}
use Rattle.frame.proofs.FramedHeld.{framed_never}

-- what `Untouched` says of the files, at measures that are those of the image
record Files (key : Key) (img img' : List ℕ) (g : Geometry) : Type 0 where
  words : (e : ℕ) → e < slots g → (Empty img g e → ⊥) → SameKey (key_in (entry_of img g e)) key → (i : ℕ) → i < 16 → entry_word img' g e i ≡ entry_word img g e i
  bytes : (e : ℕ) → e < slots g → (Empty img g e → ⊥) → SameKey (key_in (entry_of img g e)) key → (b : ℕ) → 0 < count b (blocks_at img g e)
      → (i : ℕ) → i < block_bytes g → get_or img' (b * block_bytes g + i) 0 ≡ get_or img (b * block_bytes g + i) 0

files_of : (key : Key) (img img' : List ℕ) (g : Geometry) → g ≡ geometry_of img → Untouched key img img' → Files key img img' g
files_of key img img' g stated untouched = subst (Files key img img') (sym stated) (record { words = untouched.words; bytes = untouched.bytes })

untouched_of : (key : Key) (img img' : List ℕ) (g : Geometry) → g ≡ geometry_of img → length img' ≡ length img → geometry_of img' ≡ geometry_of img → Files key img img' g
    → Untouched key img img'
untouched_of key img img' g stated size measures files =
    let here : Files key img img' (geometry_of img) = subst (Files key img img') stated files in
    record { size = size; measures = measures; words = here.words; bytes = here.bytes }

-- a file that no named entry has
pub untouched_framed : {Named Written : ℕ → Type 0} {img img' : List ℕ} {g : Geometry} → g ≡ geometry_of img → Consistent img → Framed Named Written img img' g → (key : Key)
    → ((e : ℕ) → e < slots g → Named e → (Empty img g e → ⊥) → SameKey (key_in (entry_of img g e)) key → ⊥) → Untouched key img img'
untouched_framed {Named} {Written} {img} {img'} {g} stated consistent framed key other =
    untouched_of key img img' g stated framed.kept.long (geometry_framed stated consistent framed)
    (record {
      words = λ e within used keyed. entries_kept framed.kept e within (λ named. other e within named used keyed);
      bytes = λ e within used keyed. bytes_framed stated consistent framed e within (λ named. other e within named used keyed);
    })

-- where no words but those of one entry change, every file but that of the entry
pub untouched_one : {img img' : List ℕ} {key : Key} {g : Geometry} {e : ℕ} → g ≡ geometry_of img → Consistent img → Kept (Only e) Never img img' g
    → SameKey (key_in (entry_of img g e)) key → (key' : Key) → (key' ≡ key → ⊥) → Untouched key' img img'
untouched_one {img} {img'} {key} {g} {e} stated consistent kept keyed key' other =
    untouched_framed stated consistent (framed_never kept) key'
    (λ f within is used keyed'. other (key_single keyed (subst (λ (i : ℕ). SameKey (key_in (entry_of img g i)) key') is keyed')))

pub untouched_refl : (key : Key) (img : List ℕ) → Untouched key img img
untouched_refl key img =
    record { size = refl; measures = refl; words = λ e within used keyed i small. refl; bytes = λ e within used keyed b some i small. refl }

-- an untouched file: its entry, its blocks
module _ (key : Key) (img img' : List ℕ) (g : Geometry) (stated : g ≡ geometry_of img) (header : RightHeader img) (untouched : Untouched key img img')
    (e : ℕ) (within : e < slots g) (used : Empty img g e → ⊥) (keyed : SameKey (key_in (entry_of img g e)) key) where
  pub untouched_words : (i : ℕ) → i < 16 → entry_word img' g e i ≡ entry_word img g e i
  untouched_words = (files_of key img img' g stated untouched).words e within used keyed

  pub untouched_bytes : (b : ℕ) → 0 < count b (blocks_at img g e) → (i : ℕ) → i < block_bytes g → get_or img' (b * block_bytes g + i) 0 ≡ get_or img (b * block_bytes g + i) 0
  untouched_bytes = (files_of key img img' g stated untouched).bytes e within used keyed

  pub untouched_entry : entry_of img' g e ≡ entry_of img g e
  untouched_entry = entry_same img img' g e untouched_words

  pub untouched_blocks : blocks_at img' g e ≡ blocks_at img g e
  untouched_blocks =
      blocks_same img img' g e untouched_words (λ b some. link_same img img' g b (header_segments img g stated header) (untouched_bytes b some))

  pub untouched_used : Empty img' g e → ⊥
  untouched_used empty = used (empty_same img' img g e (λ i small. sym (untouched_words i small)) empty)

  pub untouched_keyed : SameKey (key_in (entry_of img' g e)) key
  untouched_keyed = subst (λ (x : Entry). SameKey (key_in x) key) (sym untouched_entry) keyed

-- one request after another
pub untouched_compose : {key : Key} {img img' img'' : List ℕ} → Untouched key img img' → Untouched key img' img'' → Consistent img → Untouched key img img''
untouched_compose {key} {img} {img'} {img''} first second consistent =
    let later : Files key img' img'' (geometry_of img) = files_of key img' img'' (geometry_of img) (sym first.measures) second in
    record {
      size = second.size ∙ first.size;
      measures = second.measures ∙ first.measures;
      words = λ e within used keyed i small.
          later.words e within
          (untouched_used key img img' (geometry_of img) refl consistent.header first e within used keyed)
          (untouched_keyed key img img' (geometry_of img) refl consistent.header first e within used keyed) i small
          ∙ first.words e within used keyed i small;
      bytes = λ e within used keyed b some i small.
          later.bytes e within
          (untouched_used key img img' (geometry_of img) refl consistent.header first e within used keyed)
          (untouched_keyed key img img' (geometry_of img) refl consistent.header first e within used keyed) b
          (omega (arith, some, ap (count b) (untouched_blocks key img img' (geometry_of img) refl consistent.header first e within used keyed))) i small
          ∙ first.bytes e within used keyed b some i small;
    }
