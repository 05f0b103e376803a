-- The test of a scratch file, taken apart and put together.
use Prim.Native.Nat.{ℕ, ◌/◌, ◌%◌}
use mathlib.Core.Path.{◌≡◌, ap}
use mathlib.Core.Bool.{true, false, not}
use lib.Dec.{eqb}
use borrow.Author.Tests.{eq-eqb, ne_eqb, eqb-true, eqb-false, not-true}
use Rattle.answers.proofs.RefusalsTests.{and_left, and_right, and_both, stop}
use Rattle.pack.specs.declared.Entry.{Entry}
use Rattle.asking.specs.declared.Right.TheVariants.{Delete}
use Rattle.asking.specs.RightsTest.{may}
use Rattle.asking.specs.OpensTest.{is_open}
use Rattle.finishing.specs.ScratchTest.{is_scratch}

-- what an entry is known for that passes it
pub record Passes (caller : ℕ) (x : Entry) : Type 0 where
  pub named : x.name1 ≡ 0 → ⊥
  pub own : x.uic ≡ caller
  pub unkept : (x.protect / 128) % 2 ≡ 0
  pub closed : is_open x ≡ false
  pub granted : may Delete caller x.uic x.protect ≡ true

module _ (caller : ℕ) (x : Entry) where
  pub scratch_passes : is_scratch caller x ≡ true → Passes caller x
  unfolding is_scratch
  scratch_passes is =
      let second = and_right (not (eqb x.name1 0)) _ is in
      let third = and_right (eqb x.uic caller) _ second in
      let fourth = and_right (eqb ((x.protect / 128) % 2) 0) _ third in
      record {
        named = eqb-false x.name1 0 (not-true _ (and_left (not (eqb x.name1 0)) _ is));
        own = eqb-true x.uic caller (and_left (eqb x.uic caller) _ second);
        unkept = eqb-true _ 0 (and_left (eqb ((x.protect / 128) % 2) 0) _ third);
        closed = not-true _ (and_left (not (is_open x)) _ fourth);
        granted = and_right (not (is_open x)) _ fourth;
      }

  pub passes_scratch : Passes caller x → is_scratch caller x ≡ true
  unfolding is_scratch
  passes_scratch p =
      and_both (ap not (ne_eqb x.name1 0 p.named))
      (and_both (eq-eqb x.uic caller p.own) (and_both (eq-eqb _ 0 p.unkept) (and_both (ap not p.closed) p.granted)))

  pub no_file : x.name1 ≡ 0 → false ≡ is_scratch caller x
  unfolding is_scratch
  no_file is = stop _ _ (ap not (eq-eqb x.name1 0 is))
