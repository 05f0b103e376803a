-- The walk over the entries: the image as it is, with the DELETs that are left, comes to what all of them come to.
use Prim.Native.Nat.{ℕ, suc, ◌+◌, ◌-◌, ◌≤◌, ◌<◌}
use mathlib.Core.Path.{◌≡◌, refl, sym, ap, subst, ◌∙◌}
use mathlib.Core.Bool.{Bool, true, false, cond}
use mathlib.Core.List.{List, []}
use native.Mathlib.Omega.{arith}
use lib.ListN.{length}
use Rattle.pack.specs.declared.Entry.{Entry}
use Rattle.pack.specs.declared.Geometry.{Geometry}
use Rattle.pack.specs.Geometry.{geometry_of, slots}
use Rattle.pack.specs.GeometrySized.{Sized}
use Rattle.pack.specs.File.{one, blocks_of, count}
use Rattle.pack.specs.Entry.{entry_of, blocks_at}
use Rattle.pack.specs.EntryWords.{clear_entry}
use Rattle.pack.specs.Consistent.{Consistent}
use Rattle.pack.specs.Map.{bits_set}
use Rattle.pack.proofs.HeaderRules.{header_sized}
use Rattle.directory.specs.Delet.{deleted}
use Rattle.directory.proofs.Deleted.{deleted_by, deleted_bodies, deleted_kept, deleted_stated, deleted_consistent}
use Rattle.finishing.specs.ScratchTest.{is_scratch, keys_from, scratch_keys}
use Rattle.finishing.specs.Finish.{deleted_all}
use Rattle.finishing.proofs.FinishKeys.{swept_from, keys_other, here_swept, here_count}

-- one entry: what the code answers and leaves
module _ (img : List ℕ) (g : Geometry) (e : ℕ) {x : Entry} (read : x ≡ entry_of img g e) where
  -- what giving its blocks up asks
  pub entry_bodies : ((z : ℕ) → 0 < count z (blocks_at img g e) → (g.bodies.0 ≤ z) × (z < g.blocks))
      → (z : ℕ) → 0 < count z (blocks_of img g x) → (g.bodies.0 ≤ z) × (z < g.blocks)
  entry_bodies bodies z some = bodies z (subst (λ (y : Entry). 0 < count z (blocks_of img g y)) read some)

  module _ (caller : ℕ) {answer : Bool} (says : answer ≡ is_scratch caller x) where
    pub entry_gone : answer ≡ true → {mid img' : List ℕ} → mid ≡ bits_set img g (blocks_of img g x) 0 → img' ≡ clear_entry mid g e
        → (1 ≡ one (is_scratch caller (entry_of img g e))) × (img' ≡ cond (is_scratch caller (entry_of img g e)) (deleted img g e) img)
    entry_gone is bits written =
        let gone = deleted_by img g e (bits ∙ ap (λ (y : Entry). bits_set img g (blocks_of img g y) 0) read) written in
        rw (← read, ← says, is) (refl, gone)

-- `number` files are removed from an image, and it is now `img`, with the entries from e on still to be looked at
pub record Remaining (img₀ : List ℕ) (g : Geometry) (caller number : ℕ) (img : List ℕ) (e : ℕ) : Type 0 where
  pub long : length img ≡ length img₀
  pub right : Consistent img
  pub stated : g ≡ geometry_of img
  pub few : number ≤ e
  pub image : swept_from img g caller e (slots g - e) ≡ swept_from img₀ g caller 0 (slots g)
  pub many : number + length (keys_from img g caller e (slots g - e)) ≡ length (keys_from img₀ g caller 0 (slots g))

pub remaining_start : {img : List ℕ} {g : Geometry} (caller : ℕ) → Consistent img → geometry_of img ≡ g → Remaining img g caller 0 img 0
remaining_start {img} {g} caller right measures =
    let whole : slots g - 0 ≡ slots g = omega arith in
    record {
      long = refl;
      right = right;
      stated = sym measures;
      few = omega arith;
      image = ap (swept_from img g caller 0) whole;
      many = omega (arith, ap (λ (k : ℕ). length (keys_from img g caller 0 k)) whole);
    }

module _ {img₀ : List ℕ} {g : Geometry} {caller number : ℕ} {img : List ℕ} {e : ℕ} (r : Remaining img₀ g caller number img e) where
  pub remaining_sized : Sized img g
  remaining_sized = subst (Sized img) (sym r.stated) (header_sized img r.right.header)

  module _ (inside : e < slots g) where
    pub remaining_bodies : (z : ℕ) → 0 < count z (blocks_at img g e) → (g.bodies.0 ≤ z) × (z < g.blocks)
    remaining_bodies = deleted_bodies r.stated r.right e inside

    one_more : slots g - e ≡ suc (slots g - (e + 1))
    one_more = omega (arith, inside)

    image_now : swept_from img g caller e (suc (slots g - (e + 1))) ≡ swept_from img₀ g caller 0 (slots g)
    image_now = ap (swept_from img g caller e) (sym one_more) ∙ r.image

    count_now : number + length (keys_from img g caller e (suc (slots g - (e + 1)))) ≡ length (keys_from img₀ g caller 0 (slots g))
    count_now = ap (λ (k : ℕ). number + length (keys_from img g caller e k)) (sym one_more) ∙ r.many

    fits : e + suc (slots g - (e + 1)) ≤ slots g
    fits = omega (arith, inside)

    by_test : (test : Bool) → is_scratch caller (entry_of img g e) ≡ test → Remaining img₀ g caller (number + one test) (cond test (deleted img g e) img) (e + 1)
    by_test true is =
        record {
          long = (deleted_kept r.stated r.right e inside).long ∙ r.long;
          right = deleted_consistent r.stated r.right e inside;
          stated = deleted_stated r.stated r.right e inside;
          few = omega (arith, r.few);
          image = sym (here_swept r.stated r.right caller e inside is _ fits) ∙ image_now;
          many = omega (arith, here_count r.stated r.right caller e inside is _ fits, count_now);
        }
    by_test false not =
        record {
          long = r.long;
          right = r.right;
          stated = r.stated;
          few = omega (arith, r.few);
          image = ap (deleted_all img caller) (sym (keys_other img g caller e (slots g - (e + 1)) not)) ∙ image_now;
          many = omega (arith, ap length (keys_other img g caller e (slots g - (e + 1)) not), count_now);
        }

    pub remaining_step : {answer : ℕ} {img' : List ℕ} → answer ≡ one (is_scratch caller (entry_of img g e))
        → img' ≡ cond (is_scratch caller (entry_of img g e)) (deleted img g e) img → Remaining img₀ g caller (number + answer) img' (e + 1)
    remaining_step told written = rw (told, written) (by_test (is_scratch caller (entry_of img g e)) refl)

  pub remaining_end : slots g ≤ e → geometry_of img₀ ≡ g
      → (number ≡ length (scratch_keys img₀ caller)) × (img ≡ deleted_all img₀ caller (scratch_keys img₀ caller))
  unfolding scratch_keys keys_from deleted_all
  remaining_end past measures = rw measures (omega (arith, r.many, ap length none), sym (ap (deleted_all img caller) none) ∙ r.image)
    where
      nothing : slots g - e ≡ 0
      nothing = omega (arith, past)

      none : keys_from img g caller e (slots g - e) ≡ []
      none = ap (keys_from img g caller e) nothing
