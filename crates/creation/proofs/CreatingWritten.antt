-- A file that may be made: where its entry stands, that the entry can be written, and what is then written.
use Prim.Native.Nat.{ℕ, ◌<◌}
use mathlib.Core.Path.{◌≡◌, sym, ap, subst, ◌∙◌}
use mathlib.Core.Bool.{Bool}
use mathlib.Core.List.{List}
use native.Mathlib.Omega.{arith}
use lib.ListN.{get_or}
use Rattle.pack.specs.declared.Geometry.{Geometry}
use Rattle.pack.specs.declared.Key.{Key}
use Rattle.pack.specs.declared.Entry.{Entry}
use Rattle.pack.specs.Geometry.{geometry_of, slots}
use Rattle.pack.specs.GeometrySized.{Sized}
use Rattle.pack.proofs.HeaderTestWords.{listed_word}
use Rattle.asking.proofs.KeysLegal.{legal_words}
use Rattle.creation.specs.declared.creating.Shape.{Shape}
use Rattle.pack.specs.EntryWords.{words_of, set_entry_words}
use Rattle.pack.specs.EntryFields.{WordFields}
use Rattle.creation.specs.Creating.{created, new_file, entry_for}
use Rattle.creation.proofs.CreatingStage.{Creatable}

-- the image with the new entry, at the measures and the entry that the code has
pub created_at : (img : List ℕ) (x : Entry) (g : Geometry) (e : ℕ) → geometry_of img ≡ g → entry_for img ≡ e
    → set_entry_words img g e 0 (words_of x) ≡ created img x
unfolding created
created_at img x g e measures number =
    ap (λ (h : Geometry). set_entry_words img h e 0 (words_of x)) (sym measures)
    ∙ ap (λ (i : ℕ). set_entry_words img (geometry_of img) i 0 (words_of x)) (sym number)

module _ {img : List ℕ} {key : Key} {caller protect : ℕ} {wrong : Bool} (ready : Creatable img key caller protect wrong) where
  -- and there it can be written
  pub writable : ((i : ℕ) → get_or img i 0 < 256) → (shape : Shape) → shape.kind < 65536 → shape.first.0 < 65536 → shape.length < 65536 → shape.last.0 < 65536
      → shape.writer < 65536
      → WordFields (new_file key protect shape)
  writable bytes shape kind first length last writer =
      let words = legal_words key ready.legal in
      record {
        name1 = omega (arith, words.name1);
        name2 = omega (arith, words.name2);
        extension = omega (arith, words.extension);
        uic = listed_word img key.uic bytes ready.known;
        protect = omega (arith, ready.small);
        kind = kind;
        first = first;
        length = length;
        last = last;
        writer = writer;
        readers = omega arith;
      }

  module _ {g : Geometry} {e : ℕ} (measures : geometry_of img ≡ g) (number : entry_for img ≡ e) where
    pub sized_at : Sized img g
    sized_at = subst (Sized img) measures ready.sized

    pub inside_at : e < slots g
    inside_at = subst (λ (h : Geometry). e < slots h) measures (subst (λ (i : ℕ). i < slots (geometry_of img)) number ready.entry.inside)
