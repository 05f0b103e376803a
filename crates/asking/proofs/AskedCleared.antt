-- Where no row refuses: the file that was asked for is there and in use.
use Prim.Native.Nat.{ℕ, ◌<◌}
use mathlib.Core.Path.{◌≡◌, refl, subst₂}
use mathlib.Core.List.{List, ◌++◌}
use mathlib.Core.Bool.{Bool, true}
use mathlib.Core.Option.{some}
use Rattle.answers.specs.Refusals.{Row, first_of}
use Rattle.pack.specs.declared.Geometry.{Geometry}
use Rattle.pack.specs.declared.Entry.{Entry}
use Rattle.pack.specs.declared.Key.{Key}
use Rattle.pack.specs.Geometry.{geometry_of, slots}
use Rattle.pack.specs.GeometrySized.{Sized}
use Rattle.pack.specs.Entry.{entry_of, Used}
use Rattle.pack.specs.Consistent.{Consistent}
use Rattle.pack.specs.Key.{key_in, SameKey}
use Rattle.pack.proofs.HeaderRules.{header_sized}
use Rattle.asking.specs.KeysTest.{legal_key, found}
use Rattle.asking.specs.AskedStage.{file_rows}
use Rattle.asking.specs.Asked.{entry_no, file_of}
use Rattle.asking.proofs.Keys.{found_iff, keyed_used}
use Rattle.asking.proofs.AskedStage.{FileAsked, Given, stage_clear}

-- the file of a request that is not refused, at measures that are those of the image
pub record Cleared (img : List ℕ) (key : Key) (g : Geometry) (e : ℕ) : Type 0 where
  pub right : Consistent img
  pub measures : g ≡ geometry_of img
  pub sized : Sized img g
  pub inside : e < slots g
  pub legal : legal_key key ≡ true
  pub keyed : SameKey (key_in (entry_of img g e)) key
  pub used : Used img g e (entry_of img g e)

abbrev pub FileCleared : List ℕ → Key → Type 0
FileCleared img key = Cleared img key (geometry_of img) (entry_no img key)

pub found_cleared : (img : List ℕ) (key : Key) → Consistent img → legal_key key ≡ true → (e : ℕ) → found img key ≡ some e → FileCleared img key
unfolding entry_no
found_cleared img key right legal e there =
    let at = (found_iff right key legal e).0 there in
    rw there
    (record {
      right = right;
      measures = refl;
      sized = header_sized img right.header;
      inside = at.0;
      legal = legal;
      keyed = at.1;
      used = keyed_used img (geometry_of img) key e legal at.1 (right.entries e at.0);
    })

pub asked_cleared : {img : List ℕ} {key : Key} {wrong : Bool} {g : Geometry} {e : ℕ} {x : Entry} → FileAsked img key wrong g e x → FileCleared img key
asked_cleared {img} {key} {wrong} {g} {e} f = found_cleared img key f.right f.legal e f.there

pub file_cleared : (img : List ℕ) (key : Key) (wrong : Bool) (more : List Row) → first_of (file_rows img key wrong ++ more) ≡ 0
    → FileCleared img key × (first_of more ≡ 0)
file_cleared img key wrong more none =
    let staged = stage_clear img key wrong (λ x. more) none in
    (asked_cleared staged.file, staged.behind)

-- its entry, as a request speaks of it
pub file_used : {img : List ℕ} {key : Key} → FileCleared img key → Used img (geometry_of img) (entry_no img key) (file_of img key)
unfolding file_of
file_used cleared = cleared.used

-- at the measures and the number that a stage gave
pub given_cleared : {rows : List Row} {img : List ℕ} {key : Key} {g : Geometry} {e : ℕ} {x : Entry} → Given rows img key g e x → FileCleared img key
    → Cleared img key g e
given_cleared {rows} {img} {key} given cleared = subst₂ (Cleared img key) given.measures given.number cleared
