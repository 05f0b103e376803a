-- Whose each block is after APPND: blocks of neither file keep their owner, and those of either are the first file's, in order.
use Prim.Native.Nat.{ℕ, ◌+◌, ◌<◌}
use mathlib.Core.Path.{◌≡◌, refl, sym, ap, subst, ◌∙◌}
use mathlib.Core.List.{List, ◌++◌}
use mathlib.Core.Logic.{inl, inr}
use native.Mathlib.Omega.{arith}
use lib.ListN.{length, get_or, length-append, get_or-append}
use lib.Seq.{get_or-append-add}
use Rattle.pack.specs.declared.Geometry.{Geometry}
use Rattle.pack.specs.declared.Key.{Key}
use Rattle.pack.specs.declared.Owner.TheVariants.{Held}
use Rattle.pack.specs.Geometry.{geometry_of}
use Rattle.pack.specs.File.{count}
use Rattle.pack.specs.Entry.{entry_of, blocks_at}
use Rattle.pack.specs.Owner.{place_from, owner_of}
use Rattle.asking.specs.Asked.{entry_no, file_of}
use Rattle.owners.proofs.OwnerPlaces.{place_none}
use Rattle.owners.proofs.EntryBlocks.{blocks_length}
use Rattle.owners.proofs.OneOwner.{owner_held, held_of}
use Rattle.frame.specs.Framing.{Either}
use Rattle.frame.proofs.FramedCompose.{either_decided}
use Rattle.frame.proofs.FramedStays.{geometry_framed}
use Rattle.frame.proofs.OwnerFramed.{owner_framed}
use Rattle.appending.specs.Appnd.{appnd}
use Rattle.appending.proofs.AppndEffect.{appnd_accepted, appnd_framed, appnd_blocks, appnd_count, appnd_none, appnd_by, appnd_consistent}

nowhere : (b : ℕ) (xs ys : List ℕ) → count b xs ≡ 0 → count b ys ≡ 0 → place_from b 0 xs ≡ place_from b 0 ys
nowhere b xs ys none none₂ = (place_none b 0 xs).1 none ∙ sym ((place_none b 0 ys).1 none₂)

module _ (img : List ℕ) (first second : Key) (caller : ℕ) where
  -- the measures, the two entries, and the image afterwards
  abbrev g : Geometry
  g = geometry_of img

  abbrev x : ℕ
  x = entry_no img first

  abbrev y : ℕ
  y = entry_no img second

  abbrev after : List ℕ
  after = (appnd img first second caller).image

  -- a block of neither file
  pub appnd_owner : (b : ℕ) → count b (blocks_at img g x) ≡ 0 → count b (blocks_at img g y) ≡ 0 → owner_of after b ≡ owner_of img b
  appnd_owner b none none₂ =
      appnd_by img first second caller (λ img'. owner_of img' b ≡ owner_of img b) refl
      (λ done.
      owner_framed refl (appnd_accepted img first second caller done).right (appnd_framed img first second caller done)
      (either_decided x y) b (λ e within is. place done e is))
    where
      place : (appnd img first second caller).code ≡ 0 → (e : ℕ) → Either x y e
          → place_from b 0 (blocks_at after g e) ≡ place_from b 0 (blocks_at img g e)
      place done e (inl is) =
          nowhere b _ _
          (ap (λ (i : ℕ). count b (blocks_at after g i)) is ∙ omega (arith, none, none₂, appnd_count img first second caller done b))
          (ap (λ (i : ℕ). count b (blocks_at img g i)) is ∙ none)
      place done e (inr is) =
          nowhere b _ _
          (ap (λ (i : ℕ). count b (blocks_at after g i)) is ∙ appnd_none img first second caller done b)
          (ap (λ (i : ℕ). count b (blocks_at img g i)) is ∙ none₂)

  module _ (done : (appnd img first second caller).code ≡ 0) where
    stated : g ≡ geometry_of after
    stated = sym (geometry_framed refl (appnd_accepted img first second caller done).right (appnd_framed img first second caller done))

    owned : (p b : ℕ) → p < length (blocks_at img g x ++ blocks_at img g y) → get_or (blocks_at img g x ++ blocks_at img g y) p 0 ≡ b
        → owner_of after b ≡ Held x (record { 0 = p })
    owned p b inside is =
        (owner_held (appnd_consistent img first second caller (appnd_accepted img first second caller done).right) b x p).1
        (held_of after g x p b stated (appnd_accepted img first second caller done).one.within
        (subst (λ (s : List ℕ). p < length s) (sym (appnd_blocks img first second caller done)) inside)
        (subst (λ (s : List ℕ). get_or s p 0 ≡ b) (sym (appnd_blocks img first second caller done)) is))

    -- a block of the first file stays where it was
    pub appnd_owner_first : (b p : ℕ) → owner_of img b ≡ Held x (record { 0 = p }) → owner_of after b ≡ Held x (record { 0 = p })
    appnd_owner_first b p is =
        let at = (owner_held (appnd_accepted img first second caller done).right b x p).0 is in
        owned p b (omega (arith, at.place, length-append (blocks_at img g x) (blocks_at img g y)))
        (get_or-append (blocks_at img g x) (blocks_at img g y) 0 p at.place ∙ at.is)

    -- a block of the second file comes behind those of the first
    pub appnd_owner_second : (b p : ℕ) → owner_of img b ≡ Held y (record { 0 = p })
        → owner_of after b ≡ Held x (record { 0 = (file_of img first).length + p })
    unfolding file_of
    appnd_owner_second b p is =
        let at = (owner_held (appnd_accepted img first second caller done).right b y p).0 is in
        let size : length (blocks_at img g x) ≡ (entry_of img g x).length = blocks_length img g x in
        owned ((entry_of img g x).length + p) b (omega (arith, at.place, size, length-append (blocks_at img g x) (blocks_at img g y)))
        (ap (λ (n : ℕ). get_or (blocks_at img g x ++ blocks_at img g y) (n + p) 0) (sym size)
        ∙ (get_or-append-add (blocks_at img g x) (blocks_at img g y) p 0 ∙ at.is))
