-- How often each block is held, where one named entry or two have changed: linear equations.
use Prim.Native.Nat.{ℕ, ◌+◌, ◌≤◌, ◌<◌}
use mathlib.Core.Path.{◌≡◌, sym, ap}
use mathlib.Core.List.{List}
use mathlib.Core.Logic.{◌⊎◌, inl, inr}
use native.Mathlib.Omega.{arith}
use native.Mathlib.Decide.{dec_lt}
use Rattle.pack.specs.declared.Geometry.{Geometry}
use Rattle.pack.specs.Geometry.{geometry_of, slots}
use Rattle.pack.specs.File.{count}
use Rattle.pack.specs.Entry.{blocks_at}
use Rattle.pack.specs.Consistent.{held, Consistent}
use Rattle.pack.specs.MapSays.{MapSays, marking}
use Rattle.pack.proofs.ConsistentTotal.{total_has, total_two, total_swap, total_swap_two}
use Rattle.frame.specs.Framed.{Only, Never, Kept}
use Rattle.frame.specs.Framing.{Either, Framed}
use Rattle.frame.proofs.FramedCompose.{neither}
use Rattle.pack.proofs.MapSays.{says_same}
use Rattle.frame.proofs.FramedStays.{held_at, stated_framed, blocks_framed}

-- what a file holds is held
pub held_has : (img : List ℕ) (g : Geometry) (b e : ℕ) → g ≡ geometry_of img → e < slots g → count b (blocks_at img g e) ≤ held img b
held_has img g b e stated within =
    omega (arith, held_at img g b stated, total_has (λ i. count b (blocks_at img g i)) e 0 (slots g) (omega arith) (omega arith))

pub held_has_two : (img : List ℕ) (g : Geometry) (b e f : ℕ) → g ≡ geometry_of img → e < slots g → f < slots g → (e ≡ f → ⊥)
    → count b (blocks_at img g e) + count b (blocks_at img g f) ≤ held img b
held_has_two img g b e f stated within within₂ other =
    omega (
      arith,
      held_at img g b stated,
      total_two (λ i. count b (blocks_at img g i)) e f 0 (slots g) other (omega arith) (omega arith) (omega arith) (omega arith),
    )

-- a block of one file of a consistent image is in no other file, and once in its own
pub held_apart : (img : List ℕ) (g : Geometry) (b e f : ℕ) → g ≡ geometry_of img → Consistent img → e < slots g → f < slots g → (e ≡ f → ⊥)
    → 0 < count b (blocks_at img g e) → count b (blocks_at img g f) ≡ 0
held_apart img g b e f stated consistent within within₂ other some = omega (arith, some, consistent.once b, held_has_two img g b e f stated within within₂ other)

pub held_once : (img : List ℕ) (g : Geometry) (b e : ℕ) → g ≡ geometry_of img → Consistent img → e < slots g → count b (blocks_at img g e) ≤ 1
held_once img g b e stated consistent within = omega (arith, consistent.once b, held_has img g b e stated within)

-- a block that is not held is in no file
pub held_none : (img : List ℕ) (g : Geometry) (b e : ℕ) → g ≡ geometry_of img → e < slots g → held img b ≡ 0 → count b (blocks_at img g e) ≡ 0
held_none img g b e stated within none = omega (arith, held_has img g b e stated within)

-- written blocks that are nobody's, or of the named files, are no other file's
pub framed_never : {Named : ℕ → Type 0} {img img' : List ℕ} {g : Geometry} → Kept Named Never img img' g → Framed Named Never img img' g
framed_never kept = record { kept = kept; apart = λ b written. absurd written }

pub framed_one : {Written : ℕ → Type 0} {img img' : List ℕ} {g : Geometry} {x : ℕ} → g ≡ geometry_of img → Consistent img → Kept (Only x) Written img img' g → x < slots g
    → ((b : ℕ) → Written b → (0 < count b (blocks_at img g x)) ⊎ (held img b ≡ 0)) → Framed (Only x) Written img img' g
framed_one {Written} {img} {img'} {g} {x} stated consistent kept within own =
    record { kept = kept; apart = λ b written e inside other. by b e inside other (own b written) }
  where
    by : (b e : ℕ) → e < slots g → (e ≡ x → ⊥) → (0 < count b (blocks_at img g x)) ⊎ (held img b ≡ 0) → count b (blocks_at img g e) ≡ 0
    by b e inside other (inl some) = held_apart img g b x e stated consistent within inside (λ is. other (sym is)) some
    by b e inside other (inr none) = held_none img g b e stated inside none

pub framed_two : {Written : ℕ → Type 0} {img img' : List ℕ} {g : Geometry} {x y : ℕ} → g ≡ geometry_of img → Consistent img → Kept (Either x y) Written img img' g
    → x < slots g → y < slots g → ((b : ℕ) → Written b → (0 < count b (blocks_at img g x)) ⊎ ((0 < count b (blocks_at img g y)) ⊎ (held img b ≡ 0)))
    → Framed (Either x y) Written img img' g
framed_two {Written} {img} {img'} {g} {x} {y} stated consistent kept within within₂ own =
    record { kept = kept; apart = λ b written e inside other. by b e inside other (own b written) }
  where
    by : (b e : ℕ) → e < slots g → (Either x y e → ⊥) → (0 < count b (blocks_at img g x)) ⊎ ((0 < count b (blocks_at img g y)) ⊎ (held img b ≡ 0))
        → count b (blocks_at img g e) ≡ 0
    by b e inside other (inl some) = held_apart img g b x e stated consistent within inside (λ is. other (inl (sym is))) some
    by b e inside other (inr (inl some)) = held_apart img g b y e stated consistent within₂ inside (λ is. other (inr (sym is))) some
    by b e inside other (inr (inr none)) = held_none img g b e stated inside none

-- one entry
module _
    {Written : ℕ → Type 0}
    {img img' : List ℕ}
    {g : Geometry}
    {x : ℕ}
    (stated : g ≡ geometry_of img)
    (consistent : Consistent img)
    (framed : Framed (Only x) Written img img' g)
    (within : x < slots g) where
  pub held_one : (b : ℕ) → held img' b + count b (blocks_at img g x) ≡ held img b + count b (blocks_at img' g x)
  held_one b =
      omega (
        arith,
        held_at img g b stated,
        held_at img' g b (stated_framed stated consistent framed),
        total_swap (λ e. count b (blocks_at img g e)) (λ e. count b (blocks_at img' g e)) x 0 (slots g)
            (λ e low high other. ap (count b) (blocks_framed stated consistent framed e (omega arith) other)) (omega arith) (omega arith),
      )

  -- its blocks are counted once each, and each was its own or nobody's
  pub once_one : ((b : ℕ) → count b (blocks_at img' g x) ≤ 1) → ((b : ℕ) → 0 < count b (blocks_at img' g x) → (0 < count b (blocks_at img g x)) ⊎ (held img b ≡ 0))
      → (b : ℕ) → held img' b ≤ 1
  once_one single own b =
      elim (dec_lt 0 (count b (blocks_at img' g x))) [
        | yes some ↦ by (own b some)
        | no none ↦ omega (arith, none, held_one b, consistent.once b)
      ]
    where
      by : (0 < count b (blocks_at img g x)) ⊎ (held img b ≡ 0) → held img' b ≤ 1
      by (inl before) = omega (arith, held_one b, single b, consistent.once b)
      by (inr free) = omega (arith, held_one b, single b)

  -- the map has a bit for each block that the entry has now and had not, and none for those that it had and has not
  pub map_one : {bit : ℕ → ℕ} → MapSays img' g bit → ((b : ℕ) → bit b + count b (blocks_at img g x) ≡ marking img g b + count b (blocks_at img' g x))
      → MapSays img' g (marking img' g)
  unfolding marking
  map_one says moved =
      says_same says
      (λ b. omega (arith, moved b, held_one b, held_at img g b stated, held_at img' g b (stated_framed stated consistent framed)))

-- two entries
module _
    {Written : ℕ → Type 0}
    {img img' : List ℕ}
    {g : Geometry}
    {x y : ℕ}
    (stated : g ≡ geometry_of img)
    (consistent : Consistent img)
    (framed : Framed (Either x y) Written img img' g)
    (within : x < slots g)
    (within₂ : y < slots g)
    (other : x ≡ y → ⊥) where
  pub held_two : (b : ℕ) → held img' b + (count b (blocks_at img g x) + count b (blocks_at img g y)) ≡ held img b + (count b (blocks_at img' g x) + count b (blocks_at img' g y))
  held_two b =
      omega (
        arith,
        held_at img g b stated,
        held_at img' g b (stated_framed stated consistent framed),
        total_swap_two (λ e. count b (blocks_at img g e)) (λ e. count b (blocks_at img' g e)) x y 0 (slots g) other
            (λ e low high not-x not-y. ap (count b) (blocks_framed stated consistent framed e (omega arith) (neither not-x not-y)))
            (omega arith) (omega arith) (omega arith) (omega arith),
      )

  pub map_two : {bit : ℕ → ℕ} → MapSays img' g bit
      → ((b : ℕ) → bit b + (count b (blocks_at img g x) + count b (blocks_at img g y)) ≡ marking img g b + (count b (blocks_at img' g x) + count b (blocks_at img' g y)))
      → MapSays img' g (marking img' g)
  unfolding marking
  map_two says moved =
      says_same says
      (λ b. omega (arith, moved b, held_two b, held_at img g b stated, held_at img' g b (stated_framed stated consistent framed)))

  -- together they hold no block more often than before
  pub once_two : ((b : ℕ) → count b (blocks_at img' g x) + count b (blocks_at img' g y) ≤ count b (blocks_at img g x) + count b (blocks_at img g y))
      → (b : ℕ) → held img' b ≤ 1
  once_two no_more b = omega (arith, held_two b, no_more b, consistent.once b)
