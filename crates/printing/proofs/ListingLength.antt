-- A file's name and extension are spelled whole, so that each line has as many bytes: no word of theirs is passed over.
use Prim.Native.Nat.{ℕ}
use mathlib.Core.Path.{◌≡◌, refl}
use mathlib.Core.Bool.{Bool, true, false, cond}
use mathlib.Core.List.{List}
use mathlib.Core.Option.{Option, none, some}
use native.Mathlib.Omega.{arith}
use lib.Dec.{eqb}
use lib.ListN.{length, length-append}
use Rattle.words.specs.Text.{bytes}
use Rattle.radix.specs.Packing.{characters_of}
use Rattle.radix.specs.Names.{LegalName, LegalExtension}
use Rattle.radix.specs.NamesTest.{name_test, extension_test, legal_name, legal_extension}
use Rattle.radix.proofs.Packing.{word_pair}
use Rattle.radix.proofs.Names.{name_iff, extension_iff}
use Rattle.pack.specs.declared.Geometry.{Geometry}
use Rattle.pack.specs.declared.Entry.{Entry}
use Rattle.pack.specs.Entry.{Used}
use Rattle.printing.specs.Listing.{spelled, kind_letter, entry_line}
use Rattle.printing.specs.Pieces.{most_line}

spelled_long : (w : ℕ) {characters : List ℕ} → characters_of w ≡ some characters → length (spelled w) ≡ 3
spelled_long w {characters} is = rw is (word_pair.sized w characters is)

in_name : (a b : Option (List ℕ)) → name_test a b ≡ true → ((s : List ℕ) × (a ≡ some s)) × ((t : List ℕ) × (b ≡ some t))
in_name (some s) (some t) test = ((s, refl), (t, refl))
in_name (some s) none test = let z : ◌≡◌ {A = ℕ} 0 1 = cc in absurd (omega arith)
in_name none b test = let z : ◌≡◌ {A = ℕ} 0 1 = cc in absurd (omega arith)

in_extension : (a : Option (List ℕ)) → extension_test a ≡ true → (s : List ℕ) × (a ≡ some s)
in_extension (some s) test = (s, refl)
in_extension none test = let z : ◌≡◌ {A = ℕ} 0 1 = cc in absurd (omega arith)

name_long : (first second : ℕ) → LegalName first second → (length (spelled first) ≡ 3) × (length (spelled second) ≡ 3)
unfolding legal_name
name_long first second legal =
    let both = in_name (characters_of first) (characters_of second) ((name_iff first second).1 legal) in
    (spelled_long first both.0.1, spelled_long second both.1.1)

extension_long : (word : ℕ) → LegalExtension word → length (spelled word) ≡ 3
unfolding legal_extension
extension_long word legal = spelled_long word (in_extension (characters_of word) ((extension_iff word).1 legal)).1

kind_long : (kind : ℕ) → length (kind_letter kind) ≡ 1
kind_long kind = by (eqb kind 1)
  where
    by : (t : Bool) → length (cond t (bytes "C") (bytes "L")) ≡ 1
    by true = refl
    by false = refl

-- the line of an entry in use
pub line_long : (img : List ℕ) (g : Geometry) (e : ℕ) (x : Entry) → Used img g e x → length (entry_line x) ≡ most_line
unfolding entry_line
line_long img g e x used =
    let name = name_long x.name1 x.name2 used.name in
    simp length-append (omega (arith, name.0, name.1, extension_long x.extension used.extension, kind_long x.kind))
