-- The whole text: of an image that is too long, of one that is not consistent, and of one that is listed; and what is surveyed of each.
use Prim.Native.Nat.{ℕ, ◌-◌, ◌≤◌, ◌<◌}
use mathlib.Core.Path.{◌≡◌, refl, sym, ap, ◌∙◌, subst}
use mathlib.Core.Bool.{Bool, true, false, cond}
use mathlib.Core.List.{List, ◌++◌}
use native.Mathlib.Omega.{arith}
use lib.Dec.{leb}
use lib.ListN.{length, drop}
use borrow.Author.Tests.{le-leb, lt-leb}
use Rattle.answers.proofs.RefusalsTests.{second_fails, true_not_false}
use Rattle.pack.specs.declared.Geometry.{Geometry}
use Rattle.pack.specs.GeometrySized.{most_entries}
use Rattle.pack.specs.Geometry.{geometry_of, slots}
use Rattle.pack.specs.Owner.{free_count}
use Rattle.pack.proofs.HeaderRules.{entries_few}
use Rattle.std.specs.Prelude.{Option, Some, None, is_some}
use Rattle.consistency.specs.ConsistentTest.{consistent, opened_of}
use Rattle.consistency.specs.Mapped.{MappedIf}
use Rattle.consistency.proofs.ConsistentTestIff.{consistent_iff, opened_good, opened_bad}
use Rattle.room.specs.RoomMap.{free_on}
use Rattle.room.proofs.RoomMapCount.{free_by_map}
use Rattle.printing.specs.Listing.{head_line, lines_from, longest, refused_line, listing}
use Rattle.printing.specs.Survey.{surveyed}
use Rattle.printing.specs.Pieces.{longest_text}
use Rattle.printing.specs.Put.{Put}
use Rattle.printing.proofs.Put.{put_first}

-- the parts of a survey
abbrev measures_in : Option (Geometry × ℕ) → Geometry
measures_in (Some (g, free)) = g
measures_in None = record { segments = record { 0 = 0 }; blocks = 0; contents = 0; bodies = record { 0 = 0 } }

abbrev free_in : Option (Geometry × ℕ) → ℕ
free_in (Some (g, free)) = free
free_in None = 0

some_not_none : {A : Type 0} {found : Geometry × ℕ} → Some found ≡ None → A
some_not_none is = true_not_false (ap is_some is)

module _ (img : List ℕ) where
  pub too_long : longest < length img → refused_line ≡ listing img
  unfolding listing
  too_long long = rw (lt-leb (length img) longest long)

  not_consistent : consistent img ≡ false → refused_line ≡ listing img
  unfolding listing
  not_consistent is = rw (second_fails (leb (length img) longest) is)

  pub listed_text : length img ≤ longest → consistent img ≡ true
      → listing img ≡ head_line (geometry_of img).blocks (free_count img) ++ lines_from img (geometry_of img) 0 (slots (geometry_of img))
  unfolding listing
  listed_text short right = rw (le-leb (length img) longest short, right)

  module _ {g : Geometry} (opened : opened_of img ≡ Some g) where
    pub few_entries : slots g ≤ most_entries
    few_entries = subst (λ (h : Geometry). slots h ≤ most_entries) (opened_good img g opened).1 (entries_few img (opened_good img g opened).0.header)

    -- the map that opening left has a place for each block
    pub map_enough : {map : List ℕ} → MappedIf map img → g.blocks ≤ length map
    map_enough {map} mapped =
        let o = opened_good img g opened in
        subst (λ (h : Geometry). h.blocks ≤ length map) o.1 (mapped ((consistent_iff img).1 o.0)).enough

    -- with the free blocks counted on it
    pub survey_made : (map : List ℕ) → MappedIf map img → {free : ℕ} → free ≡ free_on map g.bodies.0 (g.blocks - g.bodies.0) → Some (g, free) ≡ surveyed img
    unfolding surveyed
    survey_made map mapped {free} is =
        let right = (opened_good img g opened).0 in
        let measures = (opened_good img g opened).1 in
        let tested = (consistent_iff img).1 right in
        let count : free_count img ≡ free =
        sym (free_by_map right map (mapped tested).says) ∙ ap (λ (h : Geometry). free_on map h.bodies.0 (h.blocks - h.bodies.0)) measures ∙ sym is in
        rw (tested, count, measures)

  pub survey_none : opened_of img ≡ None → None ≡ surveyed img
  unfolding surveyed
  survey_none nothing = rw (opened_bad img nothing)

  -- what a survey says
  pub unsurveyed : surveyed img ≡ None → refused_line ≡ listing img
  unfolding surveyed
  unsurveyed nothing = not_consistent (by (consistent img) nothing)
    where
      by : (test : Bool) → cond {A = Option (Geometry × ℕ)} test (Some (geometry_of img, free_count img)) None ≡ None → test ≡ false
      by true is = some_not_none is
      by false is = refl

  module _ {g : Geometry} {free : ℕ} (found : surveyed img ≡ Some (g, free)) where
    by_survey : (test : Bool) → cond {A = Option (Geometry × ℕ)} test (Some (geometry_of img, free_count img)) None ≡ Some (g, free)
        → (test ≡ true) × (geometry_of img ≡ g) × (free_count img ≡ free)
    by_survey true is = (refl, ap measures_in is, ap free_in is)
    by_survey false is = some_not_none (sym is)

    survey_is : (consistent img ≡ true) × (geometry_of img ≡ g) × (free_count img ≡ free)
    unfolding surveyed
    survey_is = by_survey (consistent img) found

    pub survey_opened : opened_of img ≡ Some g
    unfolding opened_of
    survey_opened = rw (survey_is.0, survey_is.1)

    pub listed : length img ≤ longest → head_line g.blocks free ++ lines_from img g 0 (slots g) ≡ listing img
    listed short =
        sym
        (listed_text short survey_is.0
        ∙ ap (λ (n : ℕ). head_line (geometry_of img).blocks n ++ lines_from img (geometry_of img) 0 (slots (geometry_of img))) survey_is.2
        ∙ ap (λ (h : Geometry). head_line h.blocks free ++ lines_from img h 0 (slots h)) survey_is.1)

-- the same text by another name
pub put_text : {s t text piece : List ℕ} {at k : ℕ} → text ≡ piece → Put s t at k text → Put s t at k piece
put_text {s} {t} {at = at} {k} is put = subst (Put s t at k) is put

-- a text put at the start of a buffer is all that it is to hold
pub put_listing : (img : List ℕ) {s t text : List ℕ} {k : ℕ} → text ≡ listing img → Put s t 0 k text → k ≤ longest_text → longest_text ≤ length s
    → (k ≡ length (listing img)) × ((t ≡ listing img ++ drop (length (listing img)) s) × (k ≤ longest_text))
put_listing img is put short room = let first = put_first put (omega arith) in (rw (← is) first.0, (rw (← is) first.1, short))
