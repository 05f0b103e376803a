-- Whose a block of a consistent image is: what each answer of `owner_of` means, and that every block has one owner.
use Prim.Native.Nat.{ℕ, ◌+◌, ◌-◌, ◌≤◌, ◌<◌}
use mathlib.Core.Path.{◌≡◌, refl, sym, ap, subst, ◌∙◌}
use mathlib.Core.Logic.{◌⊎◌, inl, inr, ◌↔◌, ⊎_elim}
use mathlib.Core.Bool.{Bool, true, false, cond}
use mathlib.Core.List.{List}
use mathlib.Core.Option.{some}
use native.Mathlib.Omega.{arith}
use lib.Dec.{ltb}
use lib.ListN.{length, get_or}
use borrow.Author.Tests.{ltb-true, ltb-false}
use Rattle.pack.specs.declared.Place.{Place}
use Rattle.pack.specs.declared.Owner.{Owner}
use Rattle.pack.specs.declared.Owner.TheVariants.{System, Free, Held}
use Rattle.pack.specs.Geometry.{geometry_of, slots}
use Rattle.pack.specs.File.{count}
use Rattle.pack.specs.Entry.{blocks_at}
use Rattle.pack.specs.Consistent.{held, Consistent}
use Rattle.pack.specs.Owner.{place_from, holder, owner_of, HeldAt}
use Rattle.pack.proofs.FileCount.{count_at}
use Rattle.pack.proofs.ConsistentTotal.{total_has, total_two}
use Rattle.pack.specs.declared.Geometry.{Geometry}
use Rattle.owners.specs.OneOwner.{Unheld, HeldByOne, OneOwner}
use Rattle.owners.specs.OneOwner.OneOwner.{system, free, held_by}
use Rattle.owners.proofs.OwnerPlaces.{neither_below, Found, place_found, place_unique, Finds, holder_finds}
use Rattle.owners.proofs.EntryBlocks.{reaches_bodies}
use Rattle.owners.proofs.OwnerPlaces.Finds.{nobody, entry}

-- what `HeldAt` says, at measures that are those of the image
pub held_of : (img : List ℕ) (g : Geometry) (e p b : ℕ) → g ≡ geometry_of img → e < slots g → p < length (blocks_at img g e) → get_or (blocks_at img g e) p 0 ≡ b → HeldAt img e p b
held_of img g e p b stated within inside is =
    record {
      entry = subst (λ (h : Geometry). e < slots h) stated within;
      place = subst (λ (h : Geometry). p < length (blocks_at img h e)) stated inside;
      is = subst (λ (h : Geometry). get_or (blocks_at img h e) p 0 ≡ b) stated is;
    }

-- an entry that has a block reaches it
pub held_reaches : {img : List ℕ} {e p b : ℕ} → HeldAt img e p b → 0 < count b (blocks_at img (geometry_of img) e)
held_reaches {img} {e} {p} {b} at = count_at (blocks_at img (geometry_of img) e) p b at.place at.is

pub reaches_held : (img : List ℕ) (e b : ℕ) → e < slots (geometry_of img) → count b (blocks_at img (geometry_of img) e) ≤ held img b
unfolding held
reaches_held img e b inside = total_has (λ i. count b (blocks_at img (geometry_of img) i)) e 0 (slots (geometry_of img)) (omega arith) (omega arith)

reaches_two : (img : List ℕ) (e f b : ℕ) → e < f → f < slots (geometry_of img)
    → count b (blocks_at img (geometry_of img) e) + count b (blocks_at img (geometry_of img) f) ≤ held img b
unfolding held
reaches_two img e f b order inside =
    total_two (λ i. count b (blocks_at img (geometry_of img) i)) e f 0 (slots (geometry_of img)) (λ is. omega (arith, is)) (omega arith) (omega arith) (omega arith) (omega arith)

pub held_some : {img : List ℕ} {e p b : ℕ} → HeldAt img e p b → 0 < held img b
held_some {img} {e} {p} {b} at = omega (arith, held_reaches at, reaches_held img e b at.entry)

-- no file has what none reaches
pub unheld : (img : List ℕ) (b : ℕ) → held img b ≡ 0 → Unheld img b
unheld img b zeros = record { reached = zeros; nowhere = λ e p at. omega (arith, held_some at) }

found_held : (img : List ℕ) (e p b : ℕ) → e < slots (geometry_of img) → place_from b 0 (blocks_at img (geometry_of img) e) ≡ some p → HeldAt img e p b
found_held img e p b inside found =
    let there : Found b 0 p (blocks_at img (geometry_of img) e) = place_found b 0 p (blocks_at img (geometry_of img) e) found in
    let start : p - 0 ≡ p = omega arith in
    record { entry = inside; place = omega (arith, there.inside); is = ap (λ (i : ℕ). get_or (blocks_at img (geometry_of img) e) i 0) (sym start) ∙ there.is }

module _ {img : List ℕ} (right : Consistent img) where
  pub held_body : {e p b : ℕ} → HeldAt img e p b → ((geometry_of img).bodies.0 ≤ b) × (b < (geometry_of img).blocks)
  held_body {e} {p} {b} at = reaches_bodies b e right at.entry (held_reaches at)

  pub held_once : {e p b : ℕ} → HeldAt img e p b → held img b ≡ 1
  held_once {e} {p} {b} at = omega (arith, held_some at, right.once b)

  -- a block has no two holders: two entries that reach it, or one at two places, would hold it twice
  pub held_entry : {e p f q b : ℕ} → HeldAt img e p b → HeldAt img f q b → e ≡ f
  held_entry {e} {p} {f} {q} {b} at also =
      neither_below e f (λ before. omega (arith, reaches_two img e f b before also.entry, held_reaches at, held_reaches also, right.once b))
      (λ before. omega (arith, reaches_two img f e b before at.entry, held_reaches at, held_reaches also, right.once b))

  pub held_place : {e p q b : ℕ} → HeldAt img e p b → HeldAt img e q b → p ≡ q
  held_place {e} {p} {q} {b} at also =
      let once : count b (blocks_at img (geometry_of img) e) ≤ 1 = omega (arith, reaches_held img e b at.entry, right.once b) in
      place_unique (blocks_at img (geometry_of img) e) p q b once at.place also.place at.is also.is

  pub held_unique : {e p f q b : ℕ} → HeldAt img e p b → HeldAt img f q b → (f ≡ e) × (q ≡ p)
  held_unique {e} {p} {f} {q} {b} at also =
      let same : f ≡ e = held_entry also at in
      (same, held_place (subst (λ (i : ℕ). HeldAt img i q b) same also) at)

  pub held_one : {e p b : ℕ} → HeldAt img e p b → HeldByOne img e p b
  held_one at = record { reached = held_once at; at = at; only = λ f q also. held_unique at also }

  -- a block that no file reaches, or one that one file has at one place
  pub held_by_one : (b : ℕ) → Unheld img b ⊎ ((e : ℕ) × (p : ℕ) × HeldByOne img e p b)
  unfolding held
  held_by_one b = by (holder img (geometry_of img) b 0 (slots (geometry_of img))) (holder_finds img (geometry_of img) b 0 (slots (geometry_of img)))
    where
      by : (o : Owner) → Finds img (geometry_of img) b 0 (slots (geometry_of img)) o → Unheld img b ⊎ ((e : ℕ) × (p : ℕ) × HeldByOne img e p b)
      by o (nobody zeros) = inl (unheld img b zeros)
      by o (entry {i} {p} low high found) = inr (i, p, held_one (found_held img i p b (omega arith) found))

  system_unheld : {b : ℕ} → b < (geometry_of img).bodies.0 → Unheld img b
  system_unheld {b} below = ⊎_elim (λ none. none) (λ one. absurd (omega (arith, held_body one.2.at))) (held_by_one b)

  holder_one : {b : ℕ} {o : Owner} → (geometry_of img).bodies.0 ≤ b → Finds img (geometry_of img) b 0 (slots (geometry_of img)) o → OneOwner img b o
  unfolding held
  holder_one {b} body (nobody zeros) = free body (unheld img b zeros)
  holder_one {b} body (entry {i} {p} low high found) = held_by body (held_one (found_held img i p b (omega arith) found))

  -- Every block has one owner, and `owner_of` names it. A number past the pack comes out as free, since no file reaches it: who asks keeps b below the
  -- blocks in all, as `free_count` does.
  pub one_owner : (b : ℕ) → OneOwner img b (owner_of img b)
  unfolding owner_of
  one_owner b = by (ltb b (geometry_of img).bodies.0) refl
    where
      by : (below : Bool) → ltb b (geometry_of img).bodies.0 ≡ below
          → OneOwner img b (cond below System (holder img (geometry_of img) b 0 (slots (geometry_of img))))
      by true is = let below : b < (geometry_of img).bodies.0 = ltb-true b (geometry_of img).bodies.0 is in system below (system_unheld below)
      by false is = holder_one (ltb-false b (geometry_of img).bodies.0 is) (holder_finds img (geometry_of img) b 0 (slots (geometry_of img)))

  pub owner_system : (b : ℕ) → owner_of img b ≡ System ↔ b < (geometry_of img).bodies.0
  owner_system b = by (owner_of img b) (one_owner b)
    where
      by : (o : Owner) → OneOwner img b o → o ≡ System ↔ b < (geometry_of img).bodies.0
      by o (system below none) = (λ is. below, λ h. refl)
      by o (free body none) = (λ is. let never : ◌≡◌ {A = ℕ} 0 1 = cc in absurd (omega arith), λ h. absurd (omega arith))
      by o (held_by body one) = (λ is. let never : ◌≡◌ {A = ℕ} 0 1 = cc in absurd (omega arith), λ h. absurd (omega arith))

  -- "Free: above c and in no file."
  pub owner_free : (b : ℕ) → owner_of img b ≡ Free ↔ ((geometry_of img).bodies.0 ≤ b) × (held img b ≡ 0)
  owner_free b = by (owner_of img b) (one_owner b)
    where
      by : (o : Owner) → OneOwner img b o → o ≡ Free ↔ ((geometry_of img).bodies.0 ≤ b) × (held img b ≡ 0)
      by o (system below none) = (λ is. let never : ◌≡◌ {A = ℕ} 0 1 = cc in absurd (omega arith), λ h. absurd (omega arith))
      by o (free body none) = (λ is. (body, none.reached), λ h. refl)
      by o (held_by body one) = (λ is. let never : ◌≡◌ {A = ℕ} 0 1 = cc in absurd (omega arith), λ h. absurd (omega (arith, one.reached)))

  pub owner_held : (b e p : ℕ) → owner_of img b ≡ Held e (record { 0 = p }) ↔ HeldAt img e p b
  owner_held b e p = by (owner_of img b) (one_owner b)
    where
      by : (o : Owner) → OneOwner img b o → o ≡ Held e (record { 0 = p }) ↔ HeldAt img e p b
      by o (system below none) = (λ is. let never : ◌≡◌ {A = ℕ} 0 1 = cc in absurd (omega arith), λ at. absurd (none.nowhere e p at))
      by o (free body none) = (λ is. let never : ◌≡◌ {A = ℕ} 0 1 = cc in absurd (omega arith), λ at. absurd (none.nowhere e p at))
      by o (held_by {e = f} {p = q} body one) = (
        λ is. let same-entry : f ≡ e = cc in
            let places : ◌≡◌ {A = Place} (record { 0 = q }) (record { 0 = p }) = cc in
            let same_place : q ≡ p = ap (λ (x : Place). x.0) places in
            subst (λ (i : ℕ). HeldAt img i p b) same-entry (subst (λ (i : ℕ). HeldAt img f i b) same_place one.at),
        λ also. let same-entry : e ≡ f = (one.only e p also).0 in let same_place : p ≡ q = (one.only e p also).1 in (cc),
      )
