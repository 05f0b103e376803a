-- What stands at a word of records, one behind the other.
use Prim.Native.Nat.{ℕ, suc, ◌≤◌, ◌<◌}
use mathlib.Core.Path.{◌≡◌, refl, sym, ap, ◌∙◌}
use mathlib.Core.List.{List, [], ◌∷◌, ◌++◌, append_assoc}
use native.Mathlib.Omega.{arith}
use lib.ListN.{length, drop}
use Rattle.command_writing.specs.Sayable.{EachSays, Each}
use Rattle.command_writing.specs.Sayable as Y
use Rattle.command_writing.specs.Standing.{joined, Taken, Never}

module _ {A : Type 0} {Says : A → Type 0} (words : A → List ℕ) {records : List ℕ} {at : ℕ} where
  pub taken_none : at ≤ length records → Taken (Each Says 0) (joined words) records at [] at
  unfolding joined
  taken_none fits =
      record {
        says = record { long = refl; all = Y.EachSays.end };
        stands = refl;
        within = fits;
        only = only;
      }
    where
      only : (other : List A) (rest : List ℕ) → Each Says 0 other → drop at records ≡ joined words other ++ rest → rest ≡ drop at records
      only [] rest e is = sym is
      only (v ∷ vs) rest e is = absurd (omega (arith, e.long))

module _ {A : Type 0} {Says : A → Type 0} {words : A → List ℕ} {records : List ℕ} {at : ℕ} where
  module _ {v : A} {middle : ℕ} (one : Taken Says words records at v middle) where
    behind : (other : A) (others : List A) (rest : List ℕ) → Says other → drop at records ≡ (words other ++ joined words others) ++ rest
        → drop middle records ≡ joined words others ++ rest
    behind other others rest says is = sym (one.only other (joined words others ++ rest) says (is ∙ append_assoc (words other) (joined words others) rest))

    module _ {many left : ℕ} (one_more : suc left ≡ many) where
      pub taken_more : {vs : List A} {end : ℕ} → Taken (Each Says left) (joined words) records middle vs end
          → Taken (Each Says many) (joined words) records at (v ∷ vs) end
      unfolding joined
      taken_more {vs} {end} all =
          record {
            says = record { long = omega (arith, all.says.long); all = Y.EachSays.more one.says all.says.all };
            stands = one.stands ∙ ap (λ (l : List ℕ). words v ++ l) all.stands ∙ sym (append_assoc (words v) (joined words vs) (drop end records));
            within = all.within;
            only = only;
          }
        where
          only : (other : List A) (rest : List ℕ) → Each Says many other → drop at records ≡ joined words other ++ rest → rest ≡ drop end records
          only [] rest e is = absurd (omega (arith, e.long))
          only (u ∷ us) rest e is = onward e.all
            where
              onward : EachSays Says (u ∷ us) → rest ≡ drop end records
              onward (Y.EachSays.more says others) =
                  all.only us rest (record { long = omega (arith, e.long); all = others }) (behind u us rest says is)

      pub never_more : Never (Each Says left) (joined words) records middle → Never (Each Says many) (joined words) records at
      unfolding joined
      never_more none = record { never = never }
        where
          never : (other : List A) (rest : List ℕ) → Each Says many other → drop at records ≡ joined words other ++ rest → ⊥
          never [] rest e is = omega (arith, e.long)
          never (u ∷ us) rest e is = onward e.all
            where
              onward : EachSays Says (u ∷ us) → ⊥
              onward (Y.EachSays.more says others) =
                  none.never us rest (record { long = omega (arith, e.long); all = others }) (behind u us rest says is)

  pub never_one : {many : ℕ} → 0 < many → Never Says words records at → Never (Each Says many) (joined words) records at
  unfolding joined
  never_one {many} least none = record { never = never }
    where
      never : (other : List A) (rest : List ℕ) → Each Says many other → drop at records ≡ joined words other ++ rest → ⊥
      never [] rest e is = omega (arith, e.long)
      never (u ∷ us) rest e is = onward e.all
        where
          onward : EachSays Says (u ∷ us) → ⊥
          onward (Y.EachSays.more says others) = none.never u (joined words us ++ rest) says (is ∙ append_assoc (words u) (joined words us) rest)
