-- An entry that keeps its file and its UIC, and may have another name, extension and protect code: the image stays consistent, every block its owner, and as often held as it was.
use Prim.Native.Nat.{ℕ, ◌≤◌, ◌<◌}
use mathlib.Core.Path.{◌≡◌, sym, ap, subst}
use mathlib.Core.Bool.{true}
use mathlib.Core.List.{List}
use mathlib.Core.Option.{some}
use native.Mathlib.Omega.{arith}
use native.Mathlib.Decide.{ℕ_discrete}
use Rattle.radix.specs.Names.{LegalName, LegalExtension}
use Rattle.pack.specs.declared.Geometry.{Geometry}
use Rattle.pack.specs.declared.Entry.{Entry}
use Rattle.pack.specs.declared.Key.{Key}
use Rattle.pack.specs.Geometry.{geometry_of, slots}
use Rattle.pack.specs.Entry.{entry_word, entry_of, blocks_at}
use Rattle.pack.specs.File.{count}
use Rattle.pack.specs.Consistent.{held, Consistent}
use Rattle.pack.specs.Owner.{place_from, owner_of}
use Rattle.pack.specs.Key.{key_in, SameKey}
use Rattle.asking.specs.KeysTest.{legal_key, found}
use Rattle.asking.proofs.Keys.{found_iff}
use Rattle.frame.specs.Framed.{Only, Never, Kept}
use Rattle.frame.specs.Framing.{Framed, Distinct}
use Rattle.frame.specs.Described.{Described, Description}
use Rattle.frame.proofs.FramedStays.{stated_framed, listed_framed}
use Rattle.frame.proofs.FramedHeld.{framed_never, held_one}
use Rattle.frame.proofs.Described.{next_unwritten, used_description, described_blocks, consistent_described}
use Rattle.frame.proofs.OwnerFramed.{owner_framed}
use Rattle.asking.proofs.AskedCleared.{Cleared}

-- the entry x under another name, extension and protect code
abbrev pub labelled : Entry → ℕ → ℕ → ℕ → ℕ → Entry
labelled x name1 name2 extension protect =
    record {
      name1 = name1;
      name2 = name2;
      extension = extension;
      uic = x.uic;
      protect = protect;
      kind = x.kind;
      first = x.first;
      length = x.length;
      last = x.last;
      writer = x.writer;
      readers = x.readers;
    }

pub record Relabelled (img img' : List ℕ) (g : Geometry) (e name1 name2 extension protect : ℕ) : Type 0 where
  pub kept : Kept (Only e) Never img img' g
  pub first : entry_word img' g e 0 ≡ name1
  pub second : entry_word img' g e 1 ≡ name2
  pub third : entry_word img' g e 2 ≡ extension
  pub uic : entry_word img' g e 3 ≡ entry_word img g e 3
  pub code : entry_word img' g e 4 ≡ protect
  pub rest : (i : ℕ) → 5 ≤ i → i < 16 → entry_word img' g e i ≡ entry_word img g e i

module _
    {img img' : List ℕ}
    {key : Key}
    {g : Geometry}
    {e name1 name2 extension protect : ℕ}
    (c : Cleared img key g e)
    (r : Relabelled img img' g e name1 name2 extension protect) where
  pub relabelled_framed : Framed (Only e) Never img img' g
  relabelled_framed = framed_never r.kept

  pub relabelled_entry : entry_of img' g e ≡ labelled (entry_of img g e) name1 name2 extension protect
  unfolding entry_of
  relabelled_entry =
      λ i. record {
        name1 = r.first i;
        name2 = r.second i;
        extension = r.third i;
        uic = r.uic i;
        protect = r.code i;
        kind = r.rest 5 (omega arith) (omega arith) i;
        first = record { 0 = r.rest 6 (omega arith) (omega arith) i };
        length = r.rest 7 (omega arith) (omega arith) i;
        last = record { 0 = r.rest 8 (omega arith) (omega arith) i };
        writer = r.rest 9 (omega arith) (omega arith) i;
        readers = r.rest 10 (omega arith) (omega arith) i;
      }

  described : Described img img' g e
  described =
      record {
        file = λ i low high. r.rest i low (omega arith);
        rest = λ i low high. r.rest i (omega arith) high;
        next = λ b some. next_unwritten c.measures c.right relabelled_framed e c.inside b some (entry_of img g e).kind;
      }

  pub relabelled_owner : (b : ℕ) → owner_of img' b ≡ owner_of img b
  relabelled_owner b =
      owner_framed c.measures c.right relabelled_framed (λ i. ℕ_discrete i e) b
      (λ i within is. subst (λ (j : ℕ). place_from b 0 (blocks_at img' g j) ≡ place_from b 0 (blocks_at img g j)) (sym is) (ap (place_from b 0) (described_blocks described)))

  pub relabelled_held : (b : ℕ) → held img' b ≡ held img b
  relabelled_held b = omega (arith, held_one c.measures c.right relabelled_framed c.inside b, ap (count b) (described_blocks described))

  pub relabelled_consistent : LegalName name1 name2 → LegalExtension extension → protect ≤ 255 → Distinct img img' g e → Consistent img'
  relabelled_consistent name short small distinct =
      let says = used_description img g e (entry_of img g e) c.used in
      let now-says : Description img' (labelled (entry_of img g e) name1 name2 extension protect) =
      record {
        name = name;
        extension = short;
        uic = (listed_framed c.measures c.right relabelled_framed (entry_of img g e).uic).0 says.uic;
        protect = small;
        contiguous = says.contiguous;
        linked = says.linked;
        opens = says.opens;
      } in
      consistent_described c.measures c.right relabelled_framed c.inside c.used described
      (subst (Description img') (sym relabelled_entry) now-says) distinct (λ b never. absurd never)

  -- it is found under the key that it then has
  pub relabelled_found : Consistent img' → (key' : Key) → legal_key key' ≡ true → SameKey (key_in (labelled (entry_of img g e) name1 name2 extension protect)) key'
      → found img' key' ≡ some e
  relabelled_found right key' legal keyed =
      let stated : g ≡ geometry_of img' = stated_framed c.measures c.right relabelled_framed in
      (found_iff right key' legal e).1 (
        subst (λ (h : Geometry). e < slots h) stated c.inside,
        subst (λ (h : Geometry). SameKey (key_in (entry_of img' h e)) key') stated (subst (λ (x : Entry). SameKey (key_in x) key') (sym relabelled_entry) keyed),
      )
