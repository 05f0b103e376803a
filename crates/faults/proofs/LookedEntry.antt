-- The look at an entry, return by return: one that is empty, and the words, the name and the file of one in use.
use Prim.Native.Nat.{ℕ, ◌+◌, ◌-◌, ◌*◌, ◌≤◌, ◌<◌}
use mathlib.Core.Path.{◌≡◌, refl, sym, ap, subst, ◌∙◌}
use mathlib.Core.Bool.{Bool, true, false}
use mathlib.Core.List.{List, []}
use mathlib.Core.Logic.{◌⊎◌, inr, ◌↔◌}
use native.Mathlib.Omega.{arith}
use Rattle.std.specs.Prelude.{Option, Some, is_some}
use Rattle.words.specs.Word.{word_at}
use Rattle.radix.proofs.Names.{name_not_zero}
use Rattle.pack.specs.declared.Entry.{Entry}
use Rattle.pack.specs.declared.Geometry.{Geometry}
use Rattle.pack.specs.Geometry.{geometry_of, block_words, entry_at}
use Rattle.pack.specs.GeometrySized.{Sized}
use Rattle.pack.specs.HeaderTest.{zeros}
use Rattle.pack.specs.Entry.{entry_word, entry_of, Empty}
use Rattle.pack.proofs.HeaderRules.{header_sized}
use Rattle.pack.proofs.HeaderTestWords.{zeros_at, zeros_all}
use Rattle.faults.specs.declared.ReportAnswer.{ReportAnswer}
use Rattle.faults.specs.Rules.{entry, name, Holds, RightField}
use Rattle.faults.specs.Report.{file_order, entry_order, reported, nothing_wrong, Reported}
use Rattle.faults.specs.Looking.{FirstWrong, Sought, FieldRight, OtherKey, Measures, Here}
use Rattle.faults.proofs.FirstSought.{found_some, found_none}
use Rattle.faults.proofs.ReportedParts.{all_reported}
use Rattle.faults.proofs.RulesEntry.{entry_here}
use Rattle.faults.proofs.RulesEntryRight.{sure, empty_unnamed}
use Rattle.faults.proofs.ReportOrder.{entry_empty, entry_low, entry_name, entry_middle, entry_high, entry_file}

pub measures_sized : {img : List ℕ} {g : Geometry} → Measures img g → Sized img g
measures_sized {img} m = subst (Sized img) m.is (header_sized img m.header)

-- is it empty?
module _ (img : List ℕ) (g : Geometry) (e : ℕ) {words : ℕ} (size : words ≡ block_words g) {r : Bool} (is : r ≡ zeros img (words + 16 * e) 16) where
  tested : r ≡ zeros img (entry_at g e) 16
  tested = rw size at is

  pub empty_iff : (r ≡ true) ↔ Empty img g e
  unfolding entry_word
  empty_iff = (
    λ test. record { zero = λ i few. zeros_at img (entry_at g e) 16 (entry_at g e + i) (sym tested ∙ test) (omega arith) (omega arith) },
    λ empty. tested ∙ zeros_all img (entry_at g e) 16 (λ w low high.
        let place : entry_at g e + (w - entry_at g e) ≡ w = omega arith in
        sym (ap (word_at img) place) ∙ empty.zero (w - entry_at g e) (omega arith)),
  )

pub told_empty : {img : List ℕ} {g : Geometry} → Measures img g → {e : ℕ} → Empty img g e → Reported img (entry_order img e) nothing_wrong
told_empty {img} m {e} empty = all_reported (entry_empty img e (subst (λ (h : Geometry). Empty img h e) (sym m.is) empty))

-- an entry in use, as it was read
module _ {img : List ℕ} {g : Geometry} {e : ℕ} {x : Entry} (h : Here img g e x) where
  pub here_entry : x ≡ entry_here img e
  here_entry = h.at ∙ ap (λ (k : Geometry). entry_of img k e) (sym h.measures.is)

  pub here_used : Empty img (geometry_of img) e → ⊥
  here_used empty = h.used (subst (λ (k : Geometry). Empty img k e) h.measures.is empty)

  -- what is so of what was read is so of the entry in the image
  pub here_in : (P : Geometry → Entry → Type 0) → P g x → P (geometry_of img) (entry_here img e)
  here_in P p = subst (P (geometry_of img)) here_entry (subst (λ (k : Geometry). P k x) (sym h.measures.is) p)

  holds : {w : ℕ} → RightField img e w x → Holds img (entry e w)
  holds {w} right = inr (subst (RightField img e w) here_entry right)

  fails : {w : ℕ} → (RightField img e w x → ⊥) → Holds img (entry e w) → ⊥
  fails {w} wrong right = wrong (subst (RightField img e w) (sym here_entry) (sure here_used right))

  pub told_low : {w : ℕ} → Sought (FieldRight img e x) 0 4 (Some w) → Reported img (entry_order img e) (reported img (entry e w))
  told_low {w} (first, less) = entry_low img e w less (λ v before. holds (first.before v (omega arith) before)) (fails (first.wrong less))

  module _ (key : FirstWrong (FieldRight img e x) 0 4 4) where
    low : (v : ℕ) → v < 4 → Holds img (entry e v)
    low v less = holds (key.before v (omega arith) less)

    named : (entry_here img e).name1 ≡ 0 → ⊥
    named is = name_not_zero _ _ ((key.before 1 (omega arith) (omega arith)).name refl) (ap (λ (y : Entry). y.name1) here_entry ∙ is)

    -- an earlier entry was sought that has its name
    module _ (found : Option ℕ) (sought : Sought (OtherKey img g e) 0 e found) where
      here_key : {f : ℕ} → FirstWrong (OtherKey img g e) 0 e f → FirstWrong (OtherKey img (geometry_of img) e) 0 e f
      here_key {f} = subst (λ (k : Geometry). FirstWrong (OtherKey img k e) 0 e f) (sym h.measures.is)

      pub told_name : is_some found ≡ true → Reported img (entry_order img e) (reported img (name e))
      told_name some = by (found_some found sought some)
        where
          by : (f : ℕ) × FirstWrong (OtherKey img g e) 0 e f × (f < e) → Reported img (entry_order img e) (reported img (name e))
          by (f, first, less) = entry_name img e low (λ apart. (here_key first).wrong less (λ same.
              sure here_used apart f less (λ empty. named (sym same.name1 ∙ empty_unnamed img (geometry_of img) f empty)) same))

      module _ (alone : is_some found ≡ false) where
        apart : Holds img (name e)
        apart = inr (λ i less used same. (here_key (found_none found sought alone)).before i (omega arith) less same)

        pub told_middle : {w : ℕ} → Sought (FieldRight img e x) 4 6 (Some w) → Reported img (entry_order img e) (reported img (entry e w))
        told_middle {w} (first, less) = entry_middle img e low apart w first.low less (λ v above before. holds (first.before v above before)) (fails (first.wrong less))

        module _ (kind : FirstWrong (FieldRight img e x) 4 6 6) where
          middle : (v : ℕ) → 4 ≤ v → v < 6 → Holds img (entry e v)
          middle v above less = holds (kind.before v above less)

          pub told_high : {w : ℕ} → Sought (FieldRight img e x) 9 16 (Some w) → Reported img (entry_order img e) (reported img (entry e w))
          told_high {w} (first, less) =
              entry_high img e low apart middle w first.low less (λ v above before. holds (first.before v above before)) (fails (first.wrong less))

          pub told_file : FirstWrong (FieldRight img e x) 9 16 16 → {answer : ReportAnswer}
              → Reported img (file_order e (entry_here img e)) answer → Reported img (entry_order img e) answer
          told_file behind report = entry_file img e low apart middle (λ v above less. holds (behind.before v above less)) report

-- the kind of a file that was looked at
pub known_kind : {x : Entry} → ((img : List ℕ) (e : ℕ) → FirstWrong (FieldRight img e x) 4 6 6) → (x.kind ≡ 1) ⊎ (x.kind ≡ 2)
known_kind kind = ((kind [] 0).before 5 (omega arith) (omega arith)).kind refl
