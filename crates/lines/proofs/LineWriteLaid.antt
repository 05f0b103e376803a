-- Characters laid in a gather buffer: what is put for a character one byte after another, a text character by character, as the loops do it.
use Prim.Native.Nat.{ℕ, ◌+◌, ◌≤◌, ◌<◌}
use mathlib.Core.Path.{◌≡◌, refl, ap, subst, ◌∙◌}
use mathlib.Core.Bool.{Bool, true, false, cond}
use mathlib.Core.List.{List, [], ◌∷◌, ◌++◌}
use native.Mathlib.Omega.{arith}
use lib.Dec.{eqb}
use lib.ListN.{length, drop, get_or, set, drop_of_length-le}
use borrow.Author.Tests.{eqb-true}
use Rattle.pack.specs.declared.Geometry.{Geometry}
use Rattle.stream.specs.declared.Filling.{Filling}
use Rattle.stream.specs.Filling.{Layable, LaidByte, Writable, Laying, LaidWithin}
use Rattle.stream.proofs.FillingLoop.{laying_start, laying_layable, laying_next, part_writable, part_next}
use Rattle.lines.specs.LineWrite.{put_of, put_all}
use Rattle.lines.proofs.LineWrite.{put_append, put_next}

pub put_tab : (x : ℕ) → x ≡ 9 → put_of x ≡ x ∷ (127 ∷ [])
put_tab x is = rw is

pub put_form : (x : ℕ) → x ≡ 12 → put_of x ≡ x ∷ (0 ∷ [])
put_form x is = rw is

put_first : (x : ℕ) → put_of x ≡ x ∷ drop 1 (put_of x)
put_first x = by (eqb x 9) (eqb x 12) (eqb-true x 9) (eqb-true x 12)
  where
    by : (tab form : Bool) → (tab ≡ true → x ≡ 9) → (form ≡ true → x ≡ 12)
        → cond tab (9 ∷ (127 ∷ [])) (cond form (12 ∷ (0 ∷ [])) (x ∷ []))
        ≡ x ∷ drop 1 (cond tab (9 ∷ (127 ∷ [])) (cond form (12 ∷ (0 ∷ [])) (x ∷ [])))
    by true form t f = rw (t refl)
    by false true t f = rw (f refl)
    by false false t f = refl

-- a character: it is laid itself, and then what is put after it, if anything
module _ (x : ℕ) {g : Geometry} {e : ℕ} {img map gather : List ℕ} {at : Filling} (w : Writable img map g e gather at (put_of x)) where
  first_left : Laying g e img map gather at (put_of x) img map gather at (x ∷ drop 1 (put_of x))
  first_left = subst (Laying g e img map gather at (put_of x) img map gather at) (put_first x) laying_start

  pub character_layable : Layable img map g e gather at x
  character_layable = laying_layable w first_left

  module _ {gather' img' map' : List ℕ} {r : Filling} (laid : gather' ≡ set gather at.filled x) (one : LaidByte img map g e at gather' img' map' r) where
    behind_left : (after : List ℕ) → put_of x ≡ x ∷ after → Laying g e img map gather at (put_of x) img' map' gather' r after
    behind_left after is =
        subst (Laying g e img map gather at (put_of x) img' map' gather' r) (ap (drop 1) is) (laying_next first_left laid one)

    pub character_alone : put_of x ≡ x ∷ [] → Laying g e img map gather at (put_of x) img' map' gather' r []
    character_alone is = behind_left [] is

    module _ (y : ℕ) (is : put_of x ≡ x ∷ (y ∷ [])) where
      pub after_layable : Layable img' map' g e gather' r y
      after_layable = laying_layable w (behind_left (y ∷ []) is)

      pub after_laid : {gather'' img'' map'' : List ℕ} {r' : Filling} → gather'' ≡ set gather' r.filled y → LaidByte img' map' g e r gather'' img'' map'' r'
          → Laying g e img map gather at (put_of x) img'' map'' gather'' r' []
      after_laid again two = laying_next (behind_left (y ∷ []) is) again two

-- a part that is copied
pub part_copied : {g : Geometry} {e : ℕ} {img map gather : List ℕ} {at : Filling} {part gather' : List ℕ} {filled : ℕ} → put_all part ≡ part
    → LaidWithin gather at.filled part gather' filled []
    → Laying g e img map gather at (put_all part) img map gather' (record { filled = filled; from = at.from }) []
part_copied {g} {e} {img} {map} {at} alone laid = rw alone (laid.laying g e img map at.from)

-- a text, by an index
module _ (text : List ℕ) {g : Geometry} {e : ℕ} {img₀ map₀ gather₀ : List ℕ} {start : Filling} {img map gather : List ℕ} {at : Filling} {i : ℕ}
    (laying : Laying g e img₀ map₀ gather₀ start (put_all text) img map gather at (put_all (drop i text))) where
  module _ (inside : i < length text) where
    at_character : Laying g e img₀ map₀ gather₀ start (put_all text) img map gather at (put_of (get_or text i 0) ++ put_all (drop (i + 1) text))
    at_character = subst (Laying g e img₀ map₀ gather₀ start (put_all text) img map gather at) (put_next text i inside) laying

    pub text_writable : Writable img₀ map₀ g e gather₀ start (put_all text) → Writable img map g e gather at (put_of (get_or text i 0))
    text_writable w = part_writable (put_of (get_or text i 0)) (put_all (drop (i + 1) text)) at_character w

    pub text_next : {img' map' gather' : List ℕ} {r : Filling} → Laying g e img map gather at (put_of (get_or text i 0)) img' map' gather' r []
        → Laying g e img₀ map₀ gather₀ start (put_all text) img' map' gather' r (put_all (drop (i + 1) text))
    text_next one = part_next (put_of (get_or text i 0)) (put_all (drop (i + 1) text)) at_character one

  pub text_end : length text ≤ i → Laying g e img₀ map₀ gather₀ start (put_all text) img map gather at []
  unfolding put_all
  text_end over = subst (λ (s : List ℕ). Laying g e img₀ map₀ gather₀ start (put_all text) img map gather at (put_all s)) (drop_of_length-le text over) laying

-- and part by part, of those that are left
pub parts_start : {g : Geometry} {e : ℕ} {img map gather : List ℕ} {at : Filling} (text rest : List ℕ) → rest ≡ text
    → Laying g e img map gather at (put_all text) img map gather at (put_all rest)
parts_start text rest is = rw is laying_start

empty : (s : List ℕ) → length s ≡ 0 → s ≡ []
empty [] none = refl
empty (x ∷ s) none = absurd (omega arith)

module _ (text rest : List ℕ) {g : Geometry} {e : ℕ} {img₀ map₀ gather₀ : List ℕ} {start : Filling} {img map gather : List ℕ} {at : Filling}
    (laying : Laying g e img₀ map₀ gather₀ start (put_all text) img map gather at (put_all rest)) where
  pub parts_end : length rest ≡ 0 → Laying g e img₀ map₀ gather₀ start (put_all text) img map gather at []
  unfolding put_all
  parts_end none =
      subst (λ (s : List ℕ). Laying g e img₀ map₀ gather₀ start (put_all text) img map gather at (put_all s)) (empty rest none) laying

  module _ (part behind : List ℕ) (split : rest ≡ part ++ behind) where
    at_part : Laying g e img₀ map₀ gather₀ start (put_all text) img map gather at (put_all part ++ put_all behind)
    at_part = subst (Laying g e img₀ map₀ gather₀ start (put_all text) img map gather at) (ap put_all split ∙ put_append part behind) laying

    pub parts_writable : Writable img₀ map₀ g e gather₀ start (put_all text) → Writable img map g e gather at (put_all part)
    parts_writable w = part_writable (put_all part) (put_all behind) at_part w

    pub parts_next : {img' map' gather' : List ℕ} {r : Filling} → Laying g e img map gather at (put_all part) img' map' gather' r []
        → Laying g e img₀ map₀ gather₀ start (put_all text) img' map' gather' r (put_all behind)
    parts_next one = part_next (put_all part) (put_all behind) at_part one
