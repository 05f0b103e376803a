-- The DELETs of all scratch files, one after another: each is done, their entries are empty, and all else is as it was.
use Prim.Native.Nat.{ℕ, suc, zero, ◌+◌, ◌≤◌, ◌<◌}
use mathlib.Core.Path.{◌≡◌, refl, sym, ap, subst, ◌∙◌}
use mathlib.Core.Bool.{Bool, true, false}
use mathlib.Core.List.{List}
use native.Mathlib.Omega.{arith}
use native.Mathlib.Decide.{ℕ_discrete}
use Rattle.answers.proofs.RefusalsTests.{true_not_false}
use Rattle.pack.specs.declared.Geometry.{Geometry}
use Rattle.pack.specs.Geometry.{geometry_of, slots}
use Rattle.pack.specs.Entry.{entry_of, blocks_at, Empty}
use Rattle.pack.specs.Consistent.{Consistent}
use Rattle.frame.specs.Framed.{OnMap, Kept}
use Rattle.frame.proofs.EntrySame.{empty_same}
use Rattle.frame.proofs.FramedCompose.{kept_widen, entries_kept}
use Rattle.frame.proofs.ChangesWritten.{changes_nothing, changes_then}
use Rattle.directory.specs.Delet.{deleted}
use Rattle.directory.proofs.Deleted.{deleted_kept, deleted_stated, deleted_empty, deleted_entry, deleted_blocks, deleted_consistent}
use Rattle.finishing.specs.ScratchTest.{is_scratch, keys_from}
use Rattle.finishing.specs.Finish.{deleted_all, EachDeleted}
use Rattle.finishing.specs.Finish.EachDeleted.{none}
use Rattle.finishing.proofs.ScratchTestPasses.{no_file}
use Rattle.finishing.proofs.ScratchTestDelet.{empty_name}
use Rattle.finishing.proofs.FinishKeys.{swept_from, keys_other, here_swept, here_each}

-- entry i is not before e, and passes the test
pub record Behind (img : List ℕ) (g : Geometry) (caller e i : ℕ) : Type 0 where
  pub low : e ≤ i
  pub inside : i < slots g
  pub is : is_scratch caller (entry_of img g i) ≡ true

pub record Swept (img img' : List ℕ) (g : Geometry) (caller e k : ℕ) : Type 0 where
  pub right : Consistent img'
  pub kept : Kept (Behind img g caller e) (OnMap g) img img' g
  pub emptied : (i : ℕ) → e ≤ i → i < e + k → is_scratch caller (entry_of img g i) ≡ true → Empty img' g i

module _ (caller : ℕ) {g : Geometry} where
  -- an entry that does not pass
  swept_other : {img img' : List ℕ} {e k : ℕ} → is_scratch caller (entry_of img g e) ≡ false → Swept img img' g caller (e + 1) k → Swept img img' g caller e (suc k)
  swept_other {img} {img'} {e} {k} not rest =
      record {
        right = rest.right;
        kept = kept_widen (λ i behind. record { low = omega (arith, behind.low); inside = behind.inside; is = behind.is }) (λ b on. on) rest.kept;
        emptied = λ i low high is. by i low high is (ℕ_discrete i e);
      }
    where
      by : (i : ℕ) → e ≤ i → i < e + suc k → is_scratch caller (entry_of img g i) ≡ true → Dec (i ≡ e) → Empty img' g i
      by i low high is (yes same) = true_not_false (sym is ∙ (ap (λ (j : ℕ). is_scratch caller (entry_of img g j)) same ∙ not))
      by i low high is (no other) = rest.emptied i (omega (arith, other)) (omega arith) is

  -- one that does
  module _ {img : List ℕ} (stated : g ≡ geometry_of img) (right : Consistent img) (e : ℕ) (inside : e < slots g) (is : is_scratch caller (entry_of img g e) ≡ true) where
    as_before : (i : ℕ) → i < slots g → (i ≡ e → ⊥) → is_scratch caller (entry_of (deleted img g e) g i) ≡ is_scratch caller (entry_of img g i)
    as_before i within other = ap (is_scratch caller) (deleted_entry stated right e inside i within other)

    -- what passes afterwards passed before, and holds what it held: the entry itself is empty, and does not pass
    passed_before : (i : ℕ) → i < slots g → is_scratch caller (entry_of (deleted img g e) g i) ≡ true
        → (is_scratch caller (entry_of img g i) ≡ true) × (blocks_at (deleted img g e) g i ≡ blocks_at img g i)
    passed_before i within passed = by (ℕ_discrete i e)
      where
        by : Dec (i ≡ e) → (is_scratch caller (entry_of img g i) ≡ true) × (blocks_at (deleted img g e) g i ≡ blocks_at img g i)
        by (yes same) =
            let here : is_scratch caller (entry_of (deleted img g e) g e) ≡ true = subst (λ (j : ℕ). is_scratch caller (entry_of (deleted img g e) g j) ≡ true) same passed in
            true_not_false (sym here ∙ sym (no_file caller _ (empty_name _ g e (deleted_empty stated right e inside))))
        by (no other) = (sym (as_before i within other) ∙ passed, deleted_blocks stated right e inside i within other)

    swept_here : {img' : List ℕ} {k : ℕ} → e + suc k ≤ slots g → Swept (deleted img g e) img' g caller (e + 1) k → Swept img img' g caller e (suc k)
    swept_here {img'} {k} fits rest =
        record {
          right = rest.right;
          kept =
              changes_then
              (kept_widen
              (λ i same. record {
                low = omega (arith, same);
                inside = omega (arith, same, inside);
                is = subst (λ (j : ℕ). is_scratch caller (entry_of img g j) ≡ true) (sym same) is;
              })
              (λ b on. on) (deleted_kept stated right e inside))
              (kept_widen
              (λ i behind. record {
                low = omega (arith, behind.low);
                inside = behind.inside;
                is = sym (as_before i behind.inside (λ same. omega (arith, behind.low, same))) ∙ behind.is;
              })
              (λ b on. on) rest.kept);
          emptied = λ i low high passed. by i low high passed (ℕ_discrete i e);
        }
      where
        by : (i : ℕ) → e ≤ i → i < e + suc k → is_scratch caller (entry_of img g i) ≡ true → Dec (i ≡ e) → Empty img' g i
        by i low high passed (yes same) =
            subst (Empty img' g) (sym same)
            (empty_same (deleted img g e) img' g e (entries_kept rest.kept e inside (λ behind. omega (arith, behind.low)))
            (deleted_empty stated right e inside))
        by i low high passed (no other) =
            rest.emptied i (omega (arith, other)) (omega arith) (as_before i (omega (arith, fits)) other ∙ passed)

  pub swept : (k : ℕ) (img : List ℕ) → g ≡ geometry_of img → Consistent img → (e : ℕ) → e + k ≤ slots g
      → EachDeleted caller img (keys_from img g caller e k) × Swept img (swept_from img g caller e k) g caller e k
  unfolding keys_from deleted_all
  swept zero img stated right e fits =
      (none, record { right = right; kept = changes_nothing; emptied = λ i low high is. absurd (omega arith) })
  swept (suc k) img stated right e fits = by (is_scratch caller (entry_of img g e)) refl (swept k)
    where
      by : (test : Bool) → is_scratch caller (entry_of img g e) ≡ test
          → ((img₁ : List ℕ) → g ≡ geometry_of img₁ → Consistent img₁ → (i : ℕ) → i + k ≤ slots g
          → EachDeleted caller img₁ (keys_from img₁ g caller i k) × Swept img₁ (swept_from img₁ g caller i k) g caller i k)
          → EachDeleted caller img (keys_from img g caller e (suc k)) × Swept img (swept_from img g caller e (suc k)) g caller e (suc k)
      by true is later =
          let inside : e < slots g = omega arith in
          let rest = later (deleted img g e) (deleted_stated stated right e inside) (deleted_consistent stated right e inside) (e + 1) (omega arith) in (
            here_each stated right caller e inside is k fits rest.0,
            subst (λ (img' : List ℕ). Swept img img' g caller e (suc k)) (sym (here_swept stated right caller e inside is k fits))
                (swept_here stated right e inside is fits rest.1),
          )
      by false is later =
          let rest = later img stated right (e + 1) (omega arith) in (
            subst (EachDeleted caller img) (sym (keys_other img g caller e k is)) rest.0,
            subst (λ (img' : List ℕ). Swept img img' g caller e (suc k)) (ap (deleted_all img caller) (sym (keys_other img g caller e k is)))
                (swept_other is rest.1),
          )

  -- what stays where the file of an entry that passes is deleted stays where all are; each is deleted from an image in which it holds what it held at first
  pub swept_each : (P : List ℕ → Type 0) (k : ℕ) (img : List ℕ) → g ≡ geometry_of img → Consistent img → (e : ℕ) → e + k ≤ slots g
      → ((i : ℕ) → i < slots g → is_scratch caller (entry_of img g i) ≡ true
      → (mid : List ℕ) → blocks_at mid g i ≡ blocks_at img g i → P mid → P (deleted mid g i)) → P img
      → P (swept_from img g caller e k)
  unfolding keys_from deleted_all
  swept_each P zero img stated right e fits step before = before
  swept_each P (suc k) img stated right e fits step before = by (is_scratch caller (entry_of img g e)) refl (swept_each P k)
    where
      by : (test : Bool) → is_scratch caller (entry_of img g e) ≡ test
          → ((img₁ : List ℕ) → g ≡ geometry_of img₁ → Consistent img₁ → (j : ℕ) → j + k ≤ slots g
          → ((i : ℕ) → i < slots g → is_scratch caller (entry_of img₁ g i) ≡ true
          → (mid : List ℕ) → blocks_at mid g i ≡ blocks_at img₁ g i → P mid → P (deleted mid g i)) → P img₁
          → P (swept_from img₁ g caller j k))
          → P (swept_from img g caller e (suc k))
      by true is later =
          let inside : e < slots g = omega arith in
          subst P (sym (here_swept stated right caller e inside is k fits))
          (later (deleted img g e) (deleted_stated stated right e inside) (deleted_consistent stated right e inside) (e + 1) (omega arith)
          (λ i within passed mid same.
          let early = passed_before stated right e inside is i within passed in
          step i within early.0 mid (same ∙ early.1))
          (step e inside is img refl before))
      by false not later = subst P (ap (deleted_all img caller) (sym (keys_other img g caller e k not))) (later img stated right (e + 1) (omega arith) step before)
