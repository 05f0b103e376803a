-- Whose a block is after the DELETs of all scratch files: their blocks are free, and every other block is whose it was.
use Prim.Native.Nat.{ℕ, ◌<◌}
use mathlib.Core.Path.{◌≡◌, refl, sym, ap, ◌∙◌}
use mathlib.Core.Bool.{Bool, true, false}
use mathlib.Core.List.{List}
use native.Mathlib.Omega.{arith}
use native.Mathlib.Decide.{dec_lt}
use Rattle.answers.proofs.RefusalsTests.{true_not_false}
use Rattle.pack.specs.declared.Geometry.{Geometry}
use Rattle.pack.specs.declared.Owner.TheVariants.{Free}
use Rattle.pack.specs.Geometry.{geometry_of, slots}
use Rattle.pack.specs.File.{count}
use Rattle.pack.specs.Entry.{entry_of, blocks_at}
use Rattle.pack.specs.Consistent.{held, Consistent}
use Rattle.pack.specs.Owner.{owner_of}
use Rattle.pack.proofs.ConsistentTotal.{total_same, total_each}
use Rattle.frame.specs.Framed.{OnMap}
use Rattle.frame.specs.Framing.{Framed}
use Rattle.pack.proofs.ConsistentHeld.{right_bodies}
use Rattle.frame.proofs.FramedStays.{entries_at, stated_framed, held_at, blocks_framed, system_unheld}
use Rattle.frame.proofs.FramedHeld.{held_apart, held_none}
use Rattle.frame.proofs.OwnerFramed.{owner_framed}
use Rattle.owners.proofs.OwnerPlaces.{place_none}
use Rattle.owners.proofs.EntryBlocks.{empty_reaches}
use Rattle.owners.proofs.OneOwner.{owner_free}
use Rattle.finishing.specs.ScratchTest.{is_scratch}
use Rattle.finishing.proofs.FinishSwept.{Behind, Swept}

module _ {img img' : List ℕ} {g : Geometry} {caller : ℕ} (stated : g ≡ geometry_of img) (right : Consistent img) (s : Swept img img' g caller 0 (slots g)) where
  -- the map's block is the system's, and so nobody's
  pub swept_framed : Framed (Behind img g caller 0) (OnMap g) img img' g
  swept_framed =
      record {
        kept = s.kept;
        apart = λ b on e inside other. held_none img g b e stated inside (system_unheld img g stated right b (omega (arith, on.0, on.1)));
      }

  -- an entry that passed has no blocks afterwards; another has its own
  gone_blocks : (b i : ℕ) → i < slots g → is_scratch caller (entry_of img g i) ≡ true → count b (blocks_at img' g i) ≡ 0
  gone_blocks b i within is = empty_reaches img' g b i (s.emptied i (omega arith) (omega (arith, within)) is)

  same_blocks : (i : ℕ) → i < slots g → is_scratch caller (entry_of img g i) ≡ false → blocks_at img' g i ≡ blocks_at img g i
  same_blocks i within not = blocks_framed stated right swept_framed i within (λ behind. true_not_false (sym behind.is ∙ not))

  pub behind_decided : (i : ℕ) → i < slots g → Dec (Behind img g caller 0 i)
  behind_decided i within = by (is_scratch caller (entry_of img g i)) refl
    where
      by : (test : Bool) → is_scratch caller (entry_of img g i) ≡ test → Dec (Behind img g caller 0 i)
      by true is = yes (record { low = omega arith; inside = within; is = is })
      by false is = no (λ behind. true_not_false (sym behind.is ∙ is))

  module _ (b e : ℕ) (inside : e < slots g) (is : is_scratch caller (entry_of img g e) ≡ true) (some : 0 < count b (blocks_at img g e)) where
    each_none : (i : ℕ) → i < slots g → count b (blocks_at img' g i) ≡ 0
    each_none i within = by (is_scratch caller (entry_of img g i)) refl
      where
        by : (test : Bool) → is_scratch caller (entry_of img g i) ≡ test → count b (blocks_at img' g i) ≡ 0
        by true passed = gone_blocks b i within passed
        by false not =
            ap (count b) (same_blocks i within not)
            ∙ held_apart img g b e i stated right inside within
            (λ same. true_not_false (sym is ∙ (ap (λ (j : ℕ). is_scratch caller (entry_of img g j)) same ∙ not))) some

    unheld : held img' b ≡ 0
    unheld =
        held_at img' g b (stated_framed stated right swept_framed)
        ∙ total_same (λ i. count b (blocks_at img' g i)) (λ i. 0) 0 (slots g) (λ i low high. each_none i (omega (arith, high)))
        ∙ omega (arith, total_each 0 0 (slots g))

    pub swept_free : owner_of img' b ≡ Free
    swept_free =
        let body = right_bodies img g e b (entries_at img g stated right e inside) some in
        (owner_free s.right b).1
        (omega (arith, body.0, ap (λ (h : Geometry). h.bodies.0) (stated_framed stated right swept_framed)), unheld)

  pub swept_owner : (b : ℕ) → ((i : ℕ) → i < slots g → is_scratch caller (entry_of img g i) ≡ true → count b (blocks_at img g i) ≡ 0)
      → owner_of img' b ≡ owner_of img b
  swept_owner b apart =
      owner_framed stated right swept_framed decided b
      (λ i within behind. (place_none b 0 _).1 (gone_blocks b i within behind.is) ∙ sym ((place_none b 0 _).1 (apart i within behind.is)))
    where
      decided : (i : ℕ) → Dec (Behind img g caller 0 i)
      decided i = elim (dec_lt i (slots g)) [
        | yes within ↦ behind_decided i within
        | no not ↦ no (λ behind. not behind.inside)
      ]
