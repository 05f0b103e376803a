-- A file that is there and in use: as the requests find it, and CLOSE of its writer and OPENI by who may read, with code 0 and nothing but an open set.
use Prim.Native.Nat.{ℕ, ◌+◌, ◌≤◌, ◌<◌}
use mathlib.Core.Path.{◌≡◌, refl, sym, ap, subst, ◌∙◌}
use mathlib.Core.Logic.{⊎_elim}
use mathlib.Core.Bool.{Bool, false}
use mathlib.Core.List.{List, [], ◌++◌}
use mathlib.Core.Option.{some}
use native.Mathlib.Omega.{arith}
use lib.Dec.{ltb}
use borrow.Author.Tests.{ne_eqb}
use Rattle.pack.specs.declared.Geometry.{Geometry}
use Rattle.pack.specs.declared.Key.{Key}
use Rattle.pack.specs.Geometry.{geometry_of, slots}
use Rattle.pack.specs.File.{one}
use Rattle.pack.specs.Entry.{entry_of}
use Rattle.pack.specs.EntryWords.{set_entry_word}
use Rattle.pack.specs.Key.{key_in, SameKey}
use Rattle.pack.specs.Consistent.{Consistent}
use Rattle.pack.proofs.KeySame.{same_through}
use Rattle.consistency.proofs.ConsistentTestIff.{consistent_iff}
use Rattle.asking.specs.declared.Right.TheVariants.{Read}
use Rattle.asking.specs.KeysTest.{found}
use Rattle.asking.specs.Asked.{entry_no, file_of}
use Rattle.asking.specs.Rights.{May}
use Rattle.asking.specs.Opens.{opens}
use Rattle.asking.proofs.Keys.{legal_iff, found_iff, keyed_used}
use Rattle.asking.proofs.AskedStage.{FileAsked, asked_is_file, asked_file, file_at, number_found, file_found_law}
use Rattle.asking.proofs.AskedCleared.{Cleared}
use Rattle.asking.proofs.Outcome.{code_is, success_image}
use Rattle.frame.proofs.FramedStays.{stated_framed, entries_at}
use Rattle.owners.proofs.OwnerSearch.{measured_sized}
use Rattle.opening.specs.declared.Opening.TheVariants.{Input}
use Rattle.opening.specs.OpenRows.{open_rows}
use Rattle.opening.specs.Open.{opened}
use Rattle.opening.specs.CloseRows.{close_rows}
use Rattle.opening.specs.Close.{close}
use Rattle.opening.proofs.OpenWords.{OpensSet, writer_set, readers_set, opens_framed, opens_key}
use Rattle.requests.specs.Request.{OPEN, CLOSE}
use Rattle.promises.specs.GivenWhen.{Case, GivesCode, success, behind}
use Rattle.promises.specs.Codes.{FileCases, OpenAs, writing}
use Rattle.promises.proofs.GivenWhen.{denied}
use Rattle.promises.proofs.CodesFiles.{file_behind}
use Rattle.promises.proofs.Codes.{code_iff}

module _ {img : List ℕ} {key : Key} {g : Geometry} {e : ℕ} (c : Cleared img key g e) where
  -- the file as the requests find it
  here : (e < slots (geometry_of img)) × SameKey (key_in (entry_of img (geometry_of img) e)) key
  here = subst (λ (h : Geometry). (e < slots h) × SameKey (key_in (entry_of img h e)) key) c.measures (c.inside, c.keyed)

  there : found img key ≡ some e
  there = (found_iff c.right key c.legal e).1 here

  number : entry_no img key ≡ e
  number = number_found img key there

  pub own : file_of img key ≡ entry_of img g e
  own = file_found_law img key g e (sym c.measures) there

  -- the first rows have nothing against it
  first_behind : {Wrong : Type 0} (rest : List Case) {code : ℕ} → (Wrong → ⊥) → GivesCode rest code → GivesCode (FileCases img key Wrong ++ rest) code
  first_behind rest good given =
      let names = (legal_iff key).0 c.legal in
      file_behind rest c.right (record { name = names.0; extension = names.1 }) good (record { entry = e; inside = here.0; keyed = here.1 }) given

  pub asked : (wrong : Bool) → wrong ≡ false → FileAsked img key wrong g e (entry_of img g e)
  asked wrong right =
      asked_is_file img key wrong g e (entry_of img g e)
      (sym (file_at img key wrong g e (entry_of img g e) (sym c.measures) refl
      (asked_file img key wrong ((consistent_iff img).1 c.right) c.legal right e there)))

  -- the writer or the readers set: the file is there and in use
  pub file_set : {img' : List ℕ} {writer readers : ℕ} → OpensSet img img' g e writer readers → Consistent img' → Cleared img' key g e
  file_set {img'} set right =
      let stated = stated_framed c.measures c.right (opens_framed c set) in
      let keyed = same_through (opens_key c set) c.keyed in
      record {
        right = right;
        measures = stated;
        sized = measured_sized right (sym stated);
        inside = c.inside;
        legal = c.legal;
        keyed = keyed;
        used = keyed_used img' g key e c.legal keyed (entries_at img' g stated right e c.inside);
      }

  -- CLOSE of the writer, 2 or 3
  module _ (mode : ℕ) (low : 2 ≤ mode) (high : mode ≤ 3) (writer : (entry_of img g e).writer ≡ mode) where
    pub file_closes : (close img key mode).code ≡ 0
    file_closes =
        let is : OpenAs (file_of img key) mode = rw own (writing {mode = mode} (λ four. omega (arith, four)) writer) in
        (code_iff (CLOSE key mode) img 0).1
        (first_behind _ (⊎_elim (λ zero. omega (arith, zero)) (λ more. omega (arith, more))) (behind (denied is) success))

    close_word_law : (close img key mode).image ≡ set_entry_word img g e 9 0
    unfolding close
    close_word_law =
        success_image (close_rows img key mode) img [] _ (sym (code_is (close_rows img key mode) img [] _) ∙ file_closes)
        ∙ rw (number, ← c.measures, ne_eqb mode 4 (λ four. omega (arith, four))) refl

    pub closed_set : OpensSet img (close img key mode).image g e 0 (entry_of img g e).readers
    closed_set = rw close_word_law (writer_set c 0)

  -- OPENI where there is no writer
  module _ {caller : ℕ} (readable : May caller (entry_of img g e).uic (entry_of img g e).protect Read) (writer : (entry_of img g e).writer ≡ 0)
      (few : (entry_of img g e).readers < 62) where
    pub file_opens : (opened Input img key caller).code ≡ 0
    file_opens =
        let nobody : one (ltb 0 (entry_of img g e).writer) ≡ 0 = ap (λ (n : ℕ). one (ltb 0 n)) writer in
        let other : (file_of img key).writer ≡ 2 → ⊥ = rw own (λ two. omega (arith, two, writer)) in
        let granted : May caller (file_of img key).uic (file_of img key).protect Read = rw own readable in
        let left : 62 ≤ opens (file_of img key) → ⊥ = rw own (λ many. omega (arith, many, few, nobody)) in
        (code_iff (OPEN Input key caller) img 0).1 (first_behind _ (λ never. never) (behind other (behind (denied granted) (behind left success))))

    open_word_law : (opened Input img key caller).image ≡ set_entry_word img g e 10 ((entry_of img g e).readers + 1)
    unfolding opened
    open_word_law =
        success_image (open_rows Input img key caller) img [] _ (sym (code_is (open_rows Input img key caller) img [] _) ∙ file_opens)
        ∙ rw (own, number, ← c.measures) refl

    pub opened_set : OpensSet img (opened Input img key caller).image g e (entry_of img g e).writer ((entry_of img g e).readers + 1)
    opened_set = rw open_word_law (readers_set c ((entry_of img g e).readers + 1))
