-- The system's blocks on a map: taken or given back they are as said, and all others as they were; they stay taken whatever else is taken.
use Prim.Native.Nat.{ℕ, suc, zero, ◌+◌, ◌≤◌, ◌<◌}
use mathlib.Core.Path.{◌≡◌, refl, sym, ap, ◌∙◌}
use mathlib.Core.List.{List, [], ◌∷◌, ◌++◌}
use native.Mathlib.Omega.{arith}
use native.Mathlib.Decide.{ℕ_discrete, dec_lt, dec_le}
use lib.ListN.{length, get_or, set, drop, replicate, length-set, get_or-eq_default}
use lib.Seq.{get_or-set_same, get_or-set_other}
use Rattle.std.proofs.lemmas.List.Edits.{fill_none, fill_more}
use Rattle.pack.specs.declared.Geometry.{Geometry}
use Rattle.consistency.specs.Walk.{mark, system_set, SystemTaken}

pub system_length : (map : List ℕ) (count taken : ℕ) → length (system_set map count taken) ≡ length map
unfolding system_set
system_length map zero taken = refl
system_length map (suc count) taken = length-set (system_set map count taken) count taken ∙ system_length map count taken

-- the first places of a map filled at once
pub system_fill : (map : List ℕ) (count taken : ℕ) → count ≤ length map → replicate count taken ++ drop count map ≡ system_set map count taken
unfolding system_set
system_fill map zero taken inside = sym (fill_none map taken)
system_fill map (suc count) taken inside =
    let next : suc count ≡ count + 1 = omega arith in
    ap (λ (n : ℕ). replicate n taken ++ drop n map) next
    ∙ (sym (fill_more count taken map (omega arith)) ∙ ap (λ (m : List ℕ). set m count taken) (system_fill map count taken (omega arith)))

module _ (map : List ℕ) (taken b : ℕ) where
  pub system_others : (count : ℕ) → count ≤ b → get_or (system_set map count taken) b 0 ≡ get_or map b 0
  unfolding system_set
  system_others zero low = refl
  system_others (suc count) low =
      get_or-set_other (system_set map count taken) count b taken 0 (λ same. omega (arith, same)) ∙ system_others count (omega arith)

  pub system_own : (count : ℕ) → count ≤ length map → b < count → get_or (system_set map count taken) b 0 ≡ taken
  unfolding system_set
  system_own zero long low = absurd (omega arith)
  system_own (suc count) long low =
      elim (ℕ_discrete b count) [
        | yes same ↦
            ap (λ (n : ℕ). get_or (set (system_set map count taken) count taken) n 0) same
            ∙ get_or-set_same (system_set map count taken) count taken 0 (omega (arith, system_length map count taken))
        | no other ↦ get_or-set_other (system_set map count taken) count b taken 0 other ∙ system_own count (omega arith) (omega (arith, other))
      ]

-- what is not taken with one block more was not taken before
untaken_set : (map : List ℕ) (x b : ℕ) → get_or (set map x 1) b 0 ≡ 0 → get_or map b 0 ≡ 0
untaken_set map x b none =
    elim (ℕ_discrete b x) [
      | yes same ↦ elim (dec_lt x (length map)) [
        | yes inside ↦ absurd (omega (arith, none, ap (λ (n : ℕ). get_or (set map x 1) n 0) same, get_or-set_same map x 1 0 inside))
        | no outside ↦ let beyond : length map ≤ b = omega (arith, same, outside) in get_or-eq_default map 0 beyond
      ]
      | no other ↦ sym (get_or-set_other map x b 1 0 other) ∙ none
    ]

untaken_mark : (map bs : List ℕ) (b : ℕ) → get_or (mark map bs) b 0 ≡ 0 → get_or map b 0 ≡ 0
unfolding mark
untaken_mark map [] b none = none
untaken_mark map (x ∷ xs) b none = untaken_set map x b (untaken_mark (set map x 1) xs b none)

module _ {map : List ℕ} {g : Geometry} where
  pub taken_set : (x : ℕ) → SystemTaken map g → SystemTaken (set map x 1) g
  taken_set x before = record { taken = λ b own none. before.taken b own (untaken_set map x b none) }

  pub taken_mark : (bs : List ℕ) (map' : List ℕ) → map' ≡ mark map bs → SystemTaken map g → SystemTaken map' g
  taken_mark bs map' is before =
      record { taken = λ b own none. before.taken b own (untaken_mark map bs b (sym (ap (λ (m : List ℕ). get_or m b 0) is) ∙ none)) }

  -- a block that is not taken is none of the system's
  pub untaken_body : SystemTaken map g → (b : ℕ) → get_or map b 0 ≡ 0 → g.bodies.0 ≤ b
  untaken_body before b none = elim (dec_le g.bodies.0 b) [ yes from ↦ from | no below ↦ absurd (before.taken b (omega (arith, below)) none) ]

pub system_taken : (map : List ℕ) (g : Geometry) → g.bodies.0 ≤ length map → (map' : List ℕ) → map' ≡ system_set map g.bodies.0 1 → SystemTaken map' g
system_taken map g long map' is =
    record { taken = λ b own none. omega (arith, none, ap (λ (m : List ℕ). get_or m b 0) is, system_own map 1 b g.bodies.0 long own) }
