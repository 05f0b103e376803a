-- The place of a block in a list of blocks, and the entry whose file has it.
use Prim.Native.Nat.{ℕ, suc, zero, ◌+◌, ◌-◌, ◌≤◌, ◌<◌}
use mathlib.Core.Path.{◌≡◌, refl, sym, ◌∙◌}
use mathlib.Core.Logic.{◌↔◌}
use mathlib.Core.Bool.{Bool, true, false, cond}
use mathlib.Core.List.{List, [], ◌∷◌}
use mathlib.Core.Option.{Option, none, some}
use native.Mathlib.Omega.{arith}
use native.Mathlib.Decide.{dec_lt}
use lib.Dec.{eqb}
use lib.ListN.{length, get_or}
use borrow.Author.Tests.{eqb-true, eqb-false}
use Rattle.pack.specs.declared.Geometry.{Geometry}
use Rattle.pack.specs.declared.Owner.{Owner}
use Rattle.pack.specs.declared.Owner.TheVariants.{Free, Held}
use Rattle.pack.specs.File.{count}
use Rattle.pack.specs.Entry.{blocks_at}
use Rattle.pack.specs.Consistent.{total}
use Rattle.pack.specs.Owner.{place_from, held_or, holder}
use Rattle.pack.proofs.FileCount.{count_nil, count_same, count_other, count_two}

-- two numbers of which neither is below the other
pub neither_below : (a b : ℕ) → (a < b → ⊥) → (b < a → ⊥) → a ≡ b
neither_below a b not-less not_more = by (dec_lt a b) (dec_lt b a)
  where
    by : Dec (a < b) → Dec (b < a) → a ≡ b
    by (yes less) more = absurd (not-less less)
    by (no n) (yes more) = absurd (not_more more)
    by (no n) (no m) = omega (arith, n, m)

-- a place that is found is one of the list, and the block stands there
pub record Found (b q p : ℕ) (xs : List ℕ) : Type 0 where
  pub from : q ≤ p
  pub inside : p - q < length xs
  pub is : get_or xs (p - q) 0 ≡ b

pub place_found : (b q p : ℕ) (xs : List ℕ) → place_from b q xs ≡ some p → Found b q p xs
place_found b q p [] found = let never : ◌≡◌ {A = ℕ} 0 1 = cc in absurd (omega arith)
place_found b q p (x ∷ xs) found = by (eqb b x) refl found (place_found b (q + 1) p xs)
  where
    by : (here : Bool) → eqb b x ≡ here → cond here (some q) (place_from b (q + 1) xs) ≡ some p
        → (place_from b (q + 1) xs ≡ some p → Found b (q + 1) p xs) → Found b q p (x ∷ xs)
    by true here found later =
        let place : q ≡ p = cc in
        let none_between : p - q ≡ 0 = omega arith in
        record { from = omega arith; inside = omega arith; is = rw none_between (sym (eqb-true b x here)) }
    by false here found later =
        let behind : Found b (q + 1) p xs = later found in
        let next : p - q ≡ suc (p - (q + 1)) = omega arith in
        record { from = omega arith; inside = omega arith; is = rw next behind.is }

pub place_none : (b q : ℕ) (xs : List ℕ) → place_from b q xs ≡ none ↔ count b xs ≡ 0
place_none b q [] = (λ None-found. count_nil b, λ uncounted. refl)
place_none b q (x ∷ xs) = by (eqb b x) refl (place_none b (q + 1) xs)
  where
    by : (here : Bool) → eqb b x ≡ here → (place_from b (q + 1) xs ≡ none ↔ count b xs ≡ 0)
        → cond here (some q) (place_from b (q + 1) xs) ≡ none ↔ count b (x ∷ xs) ≡ 0
    by true here later = (
      λ None-found. let never : ◌≡◌ {A = ℕ} 0 1 = cc in absurd (omega arith),
      λ uncounted. absurd (omega (arith, count_same b x xs (eqb-true b x here))),
    )
    by false here later = (
      λ None-found. count_other b x xs (eqb-false b x here) ∙ later.0 None-found,
      λ uncounted. later.1 (sym (count_other b x xs (eqb-false b x here)) ∙ uncounted),
    )

-- what is counted once stands at one place
pub place_unique : (xs : List ℕ) (p q b : ℕ) → count b xs ≤ 1 → p < length xs → q < length xs → get_or xs p 0 ≡ b → get_or xs q 0 ≡ b → p ≡ q
place_unique xs p q b once p-inside q-inside is also =
    neither_below p q (λ before. omega (arith, count_two xs p q b before q-inside is also))
    (λ before. omega (arith, count_two xs q p b before p-inside also is))

-- whom `holder` finds among k entries from e on: nobody where no file reaches b, else an entry with a place of b
pub data Finds (img : List ℕ) (g : Geometry) (b e k : ℕ) : Owner → Type 0 where
  nobody : total (λ i. count b (blocks_at img g i)) e k ≡ 0 → Finds img g b e k Free
  entry : {i p : ℕ} → e ≤ i → i < e + k → place_from b 0 (blocks_at img g i) ≡ some p → Finds img g b e k (Held i (record { 0 = p }))

finds_more : {img : List ℕ} {g : Geometry} {b e k : ℕ} {o : Owner} → count b (blocks_at img g e) ≡ 0 → Finds img g b (e + 1) k o → Finds img g b e (suc k) o
unfolding total
finds_more uncounted (nobody zeros) = nobody (omega arith)
finds_more uncounted (entry {i} low high found) = entry {i = i} (omega arith) (omega arith) found

pub holder_finds : (img : List ℕ) (g : Geometry) (b e k : ℕ) → Finds img g b e k (holder img g b e k)
unfolding holder total
holder_finds img g b e zero = nobody refl
holder_finds img g b e (suc k) = by (place_from b 0 (blocks_at img g e)) refl (holder_finds img g b (e + 1) k)
  where
    by : (o : Option ℕ) → place_from b 0 (blocks_at img g e) ≡ o → Finds img g b (e + 1) k (holder img g b (e + 1) k)
        → Finds img g b e (suc k) (held_or e (holder img g b (e + 1) k) o)
    by none found later = finds_more ((place_none b 0 (blocks_at img g e)).0 found) later
    by (some p) found later = entry {i = e} (omega arith) (omega arith) found
