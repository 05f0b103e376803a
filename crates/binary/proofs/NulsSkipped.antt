-- NULs before a line, passed payload by payload: a part of NULs alone is passed whole, and any other has the place where the line begins.
use Prim.Native.Nat.{ℕ, suc, ◌+◌, ◌-◌, ◌≤◌, ◌<◌}
use mathlib.Core.Path.{◌≡◌, refl, sym, ap, ◌∙◌}
use mathlib.Core.Bool.{Bool, true, false, not, cond}
use mathlib.Core.List.{List, [], ◌∷◌, ◌++◌}
use native.Mathlib.Omega.{arith}
use lib.Dec.{eqb, ltb}
use borrow.Author.Tests.{ltb-false}
use Rattle.std.specs.Prelude.{Some, None, unwrap_or}
use Rattle.std.specs.declared.option.Option.{Option as Answered}
use Rattle.std.specs.List.{position_or_len}
use lib.ListN.{length, drop, length-append, length-drop, length-take}
use lib.Seq.{drop-append-add}
use Rattle.pack.specs.File.{link_of}
use Rattle.bodies.specs.BlockBytes.{part_of}
use Rattle.stream.specs.declared.Tail.{Tail}
use Rattle.stream.specs.Spot.{payloads_from}
use Rattle.stream.specs.Tail.{rest}
use Rattle.stream.proofs.SpotSteps.{spot_end}
use Rattle.stream.proofs.SpotPayload.{payload_inside, payload_split}
use Rattle.binary.specs.BinaryRead.{nuls_before, line_from}
use Rattle.binary.specs.Heading.{LineBegins, Skipping}
use Rattle.binary.proofs.BinaryProgress.{nuls_most}

nuls_none : nuls_before [] ≡ 0
unfolding nuls_before
nuls_none = refl

-- as the code's search for the place of another byte has it
pub nuls_placed : (part : List ℕ) → position_or_len (λ x. not (eqb x 0)) part ≡ nuls_before part
unfolding nuls_before
nuls_placed [] = refl
nuls_placed (x ∷ part) = by (eqb x 0) (nuls_placed part)
  where
    by : (nul : Bool) → position_or_len (λ x. not (eqb x 0)) part ≡ nuls_before part
        → cond (not (not nul)) (1 + position_or_len (λ x. not (eqb x 0)) part) 0 ≡ cond nul (suc (nuls_before part)) 0
    by true rest = omega (arith, rest)
    by false rest = refl

module _ (part : List ℕ) {place : Answered ℕ}
    (found : place ≡ cond (ltb (position_or_len (λ x. not (eqb x 0)) part) (length part)) (Some (position_or_len (λ x. not (eqb x 0)) part)) None) where
  pub nuls_found : unwrap_or place (length part) ≡ nuls_before part
  nuls_found = ap (λ (o : Answered ℕ). unwrap_or o (length part)) found ∙ by (ltb (position_or_len (λ x. not (eqb x 0)) part) (length part)) refl
    where
      by : (inside : Bool) → ltb (position_or_len (λ x. not (eqb x 0)) part) (length part) ≡ inside
          → unwrap_or (cond inside (Some (position_or_len (λ x. not (eqb x 0)) part)) None) (length part) ≡ nuls_before part
      by true inside = nuls_placed part
      by false inside = omega (arith, nuls_placed part, nuls_most part, ltb-false _ _ inside)

-- of two parts
pub nuls_within : (part more : List ℕ) → nuls_before part < length part → nuls_before (part ++ more) ≡ nuls_before part
unfolding nuls_before
nuls_within [] more less = absurd (omega arith)
nuls_within (x ∷ part) more less = by (eqb x 0) (nuls_within part more) less
  where
    by : (nul : Bool) → (nuls_before part < length part → nuls_before (part ++ more) ≡ nuls_before part) → cond nul (suc (nuls_before part)) 0 < suc (length part)
        → cond nul (suc (nuls_before (part ++ more))) 0 ≡ cond nul (suc (nuls_before part)) 0
    by true rest less = ap suc (rest (omega arith))
    by false rest less = refl

pub nuls_over : (part more : List ℕ) → nuls_before part ≡ length part → nuls_before (part ++ more) ≡ length part + nuls_before more
unfolding nuls_before
nuls_over [] more all = omega arith
nuls_over (x ∷ part) more all = by (eqb x 0) (nuls_over part more) all
  where
    by : (nul : Bool) → (nuls_before part ≡ length part → nuls_before (part ++ more) ≡ length part + nuls_before more)
        → cond nul (suc (nuls_before part)) 0 ≡ suc (length part) → cond nul (suc (nuls_before (part ++ more))) 0 ≡ suc (length part) + nuls_before more
    by true rest all = omega (arith, rest (omega arith))
    by false rest all = absurd (omega arith)

pub skip_start : {tail : Tail} → Skipping (rest tail) 0 tail
skip_start = record { whole = omega arith; more = omega arith; same = refl }

module _ {s : List ℕ} {nuls : ℕ} {tail : Tail} (skipping : Skipping s nuls tail) where
  -- nothing is left
  pub skip_end : tail.spot.left ≡ 0 → LineBegins s (record { nuls = nuls; line = tail })
  skip_end none =
      let empty : rest tail ≡ [] = spot_end tail.img.now tail.g tail.spot none in
      record {
        passed = omega (arith, skipping.more, ap nuls_before empty, nuls_none);
        stands = empty ∙ sym (skipping.same ∙ ap line_from empty ∙ nothing);
      }
    where
      nothing : line_from [] ≡ []
      nothing = (unfold nuls_before in refl)

  module _ (some : 0 < tail.spot.left) {here : ℕ} (counted : here ≡ nuls_before (part_of tail.img.now tail.spot.at (tail.spot.end - tail.spot.at))) where
    abbrev part : List ℕ
    part = part_of tail.img.now tail.spot.at (tail.spot.end - tail.spot.at)

    abbrev behind : List ℕ
    behind = payloads_from tail.img.now tail.g (tail.spot.left - 1) (link_of tail.img.now tail.g tail.spot.block.0)

    split : rest tail ≡ part ++ behind
    split = payload_split tail.standing some

    long : length part ≡ tail.spot.end - tail.spot.at
    long =
        let inside = payload_inside tail.standing some in
        omega (arith, length-take (tail.spot.end - tail.spot.at) (drop tail.spot.at tail.img.now), length-drop tail.spot.at tail.img.now, inside.0, inside.1)

    -- the NULs that were counted are of this payload
    pub skip_within : here ≤ length part → tail.spot.at + here ≤ tail.spot.end
    skip_within few = omega (arith, few, long, (payload_inside tail.standing some).0)

    pub skip_few : here ≤ length (rest tail)
    skip_few = omega (arith, counted, nuls_most part, ap length split ∙ length-append part behind)

    -- the line begins in this payload
    pub skip_found : tail.spot.at + here < tail.spot.end → (line : Tail) → rest line ≡ drop here (rest tail) → LineBegins s (record { nuls = nuls + here; line = line })
    skip_found before line on =
        let nuls_are : nuls_before (rest tail) ≡ here =
        ap nuls_before split ∙ nuls_within part behind (omega (arith, long, counted, before)) ∙ sym counted in
        record {
          passed = omega (arith, skipping.more, nuls_are);
          stands = on ∙ ap (λ (n : ℕ). drop n (rest tail)) (sym nuls_are) ∙ sym skipping.same;
        }

    -- it is NULs to its end
    pub skip_next : tail.spot.end ≤ tail.spot.at + here → here ≤ length part → (next : Tail) → rest next ≡ behind → Skipping s (nuls + here) next
    skip_next through few next stands =
        let all : nuls_before part ≡ length part = omega (arith, long, counted, through, few) in
        let over : nuls_before (rest tail) ≡ length part + nuls_before behind = ap nuls_before split ∙ nuls_over part behind all in
        let both : length (rest tail) ≡ length part + length behind = ap length split ∙ length-append part behind in
        record {
          whole = omega (arith, skipping.whole, both, ap length stands, counted, all);
          more = omega (arith, skipping.more, over, ap nuls_before stands, counted, all);
          same =
              skipping.same
              ∙ ap (λ (n : ℕ). drop n (rest tail)) over
              ∙ ap (λ (t : List ℕ). drop (length part + nuls_before behind) t) split
              ∙ drop-append-add part behind (nuls_before behind)
              ∙ ap line_from (sym stands);
        }

    -- what is left grows less
    pub skip_less : (next : Tail) → rest next ≡ behind → length (rest next) < length (rest tail)
    skip_less next stands =
        let inside = tail.standing.before some in
        omega (arith, ap length stands, ap length split ∙ length-append part behind, long, inside)
