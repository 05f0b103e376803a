-- A map kept up where a file gives its blocks up: nobody holds them any more, and of every other block the map says what it said.
use Prim.Native.Nat.{ℕ, suc, ◌+◌, ◌-◌, ◌≤◌, ◌<◌}
use mathlib.Core.Path.{◌≡◌, refl, sym, ap, ◌∙◌}
use mathlib.Core.List.{List, [], ◌∷◌}
use native.Mathlib.Omega.{arith}
use native.Mathlib.Decide.{ℕ_discrete, dec_lt}
use lib.ListN.{length, get_or, set, length-set, get_or-eq_default}
use lib.Seq.{get_or-set_same, get_or-set_other}
use Rattle.pack.specs.declared.Geometry.{Geometry}
use Rattle.pack.specs.declared.Entry.{Entry}
use Rattle.pack.specs.File.{next_of, chain, blocks_of, count}
use Rattle.pack.specs.Consistent.{held}
use Rattle.pack.proofs.FileCount.{count_nil, count_same, count_other, count_more, count_split}
use Rattle.room.specs.RoomMap.{Says, unmarked}

-- The blocks of a file from block b on, `left` of them: giving up these is giving up what is left of all, and each has a place on the map.
pub record Giving (img : List ℕ) (g : Geometry) (kind : ℕ) (all map : List ℕ) (left b : ℕ) : Type 0 where
  pub gives : all ≡ unmarked map (chain (next_of img g kind) left b)
  pub inside : (z : ℕ) → 0 < count z (chain (next_of img g kind) left b) → z < g.blocks
  pub long : g.blocks ≤ length map

pub giving_start : {img map : List ℕ} {g : Geometry} (x : Entry) → ((z : ℕ) → 0 < count z (blocks_of img g x) → z < g.blocks) → g.blocks ≤ length map
    → Giving img g x.kind (unmarked map (chain (next_of img g x.kind) x.length x.first.0)) map x.length x.first.0
unfolding blocks_of
giving_start x inside long = record { gives = refl; inside = inside; long = long }

module _ {img all map : List ℕ} {g : Geometry} {kind left b : ℕ} (giving : Giving img g kind all map left b) where
  one_less : 0 < left → left ≡ suc (left - 1)
  one_less more = omega arith

  pub giving_block : 0 < left → b < g.blocks
  unfolding chain
  giving_block more =
      let here : 0 < count b (chain (next_of img g kind) left b) =
      rw (one_less more) (omega (arith, count_same b b (chain (next_of img g kind) (left - 1) (next_of img g kind b)) refl)) in
      giving.inside b here

  pub giving_next : 0 < left → (map' : List ℕ) → map' ≡ set map b 0 → (next : ℕ) → next ≡ next_of img g kind b → {less : ℕ} → less ≡ left - 1
      → Giving img g kind all map' less next
  unfolding chain unmarked
  giving_next more map' given next is fewer =
      rw fewer (record {
        gives = giving.gives ∙ ap (λ (k : ℕ). unmarked map (chain (next_of img g kind) k b)) (one_less more) ∙ rw (given, is);
        inside = λ z some. giving.inside z (rw (one_less more) (omega (
          arith,
          some,
          count_split z b (chain (next_of img g kind) (left - 1) (next_of img g kind b)),
          ap (λ (y : ℕ). count z (chain (next_of img g kind) (left - 1) y)) is,
        )));
        long = rw given (simp length-set giving.long);
      })

  pub giving_end : left ≤ 0 → map ≡ all
  unfolding chain unmarked
  giving_end over = let nothing : left ≡ 0 = omega arith in sym (giving.gives ∙ rw nothing)

-- what the map says of a block: of one that is given up that nobody holds it, of another what it said
unmarked_zero : (bs map : List ℕ) (z : ℕ) → get_or map z 0 ≡ 0 → get_or (unmarked map bs) z 0 ≡ 0
unfolding unmarked
unmarked_zero [] map z is = is
unmarked_zero (b ∷ bs) map z is = unmarked_zero bs (set map b 0) z (by (ℕ_discrete z b))
  where
    by : Dec (z ≡ b) → get_or (set map b 0) z 0 ≡ 0
    by (yes here) = elim (dec_lt b (length map)) [
      | yes inside ↦ ap (λ (y : ℕ). get_or (set map b 0) y 0) here ∙ get_or-set_same map b 0 0 inside
      | no outside ↦ let beyond : length (set map b 0) ≤ z = simp length-set (omega (arith, here, outside)) in get_or-eq_default (set map b 0) 0 beyond
    ]
    by (no other) = get_or-set_other map b z 0 0 other ∙ is

unmarked_here : (bs map : List ℕ) (z : ℕ) → z < length map → 0 < count z bs → get_or (unmarked map bs) z 0 ≡ 0
unfolding unmarked
unmarked_here [] map z inside some = absurd (omega (arith, some, count_nil z))
unmarked_here (b ∷ bs) map z inside some =
    elim (ℕ_discrete z b) [
      | yes here ↦ unmarked_zero bs (set map b 0) z (ap (λ (y : ℕ). get_or (set map b 0) y 0) here ∙ get_or-set_same map b 0 0 (omega (arith, inside, here)))
      | no other ↦ unmarked_here bs (set map b 0) z (simp length-set inside) (omega (arith, some, count_other z b bs other))
    ]

unmarked_else : (bs map : List ℕ) (z : ℕ) → count z bs ≡ 0 → get_or (unmarked map bs) z 0 ≡ get_or map z 0
unfolding unmarked
unmarked_else [] map z never = refl
unmarked_else (b ∷ bs) map z never =
    unmarked_else bs (set map b 0) z (omega (arith, never, count_more z b bs))
    ∙ get_or-set_other map b z 0 0 (λ here. omega (arith, never, count_same z b bs here))

pub unmarked_long : (bs map : List ℕ) → length (unmarked map bs) ≡ length map
unfolding unmarked
unmarked_long [] map = refl
unmarked_long (b ∷ bs) map = unmarked_long bs (set map b 0) ∙ length-set map b 0

-- blocks that were held once, and that nobody then holds
pub map_given : (img img' map bs : List ℕ) → Says map img → ((z : ℕ) → 0 < count z bs → z < length map)
    → ((z : ℕ) → held img z ≡ held img' z + count z bs) → ((z : ℕ) → held img z ≤ 1) → Says (unmarked map bs) img'
map_given img img' map bs says inside less once z = by (ℕ_discrete (count z bs) 0)
  where
    by : Dec (count z bs ≡ 0) → get_or (unmarked map bs) z 0 ≡ held img' z
    by (yes never) = unmarked_else bs map z never ∙ omega (arith, says z, less z, never)
    by (no some) =
        let more : 0 < count z bs = omega (arith, some) in
        unmarked_here bs map z (inside z more) more ∙ omega (arith, less z, once z, more)
