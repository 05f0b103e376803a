-- A linked file with a block more, and two linked files made one: their blocks, and that the image stays consistent.
use Prim.Native.Nat.{ℕ, ◌+◌, ◌≤◌, ◌<◌}
use mathlib.Core.Path.{◌≡◌, sym, ap, subst, ◌∙◌}
use mathlib.Core.List.{List, [], ◌∷◌, ◌++◌}
use mathlib.Core.Logic.{◌⊎◌, inl, inr}
use native.Mathlib.Omega.{arith}
use native.Mathlib.Decide.{ℕ_discrete, dec_lt}
use Rattle.pack.specs.declared.Geometry.{Geometry}
use Rattle.pack.specs.Geometry.{geometry_of, slots}
use Rattle.pack.specs.File.{link_of, count}
use Rattle.pack.specs.Entry.{entry_of, blocks_at, RightEntry}
use Rattle.pack.specs.Consistent.{held, Consistent}
use Rattle.pack.specs.Owner.{FreeBlock}
use Rattle.pack.proofs.EntryRead.{empty_blocks}
use Rattle.pack.proofs.FileCount.{count_nil, count_same, count_other, count_append}
use Rattle.frame.specs.Framed.{Only}
use Rattle.frame.specs.Framing.{Either, Framed}
use Rattle.frame.specs.Framing.Distinct.{known}
use Rattle.frame.specs.Growth.{EndedChain, Grown, Joined}
use Rattle.pack.proofs.ConsistentHeld.{right_bodies, consistent_says}
use Rattle.frame.proofs.FramedStays.{entries_at, listed_framed, system_unheld, says_kept}
use Rattle.frame.proofs.FramedHeld.{held_once, held_none, framed_one, framed_two}
use Rattle.frame.proofs.FramedConsistent.{consistent_one, consistent_two}
use Rattle.frame.proofs.GrowthChain.{ended_first, ended_end, ended_same, ended_one, ended_join}
use Rattle.frame.proofs.GrowthResized.{linked_ended, resized_alike, resized_blocks, resized_right}

-- a block more
module _
    {Written : ℕ → Type 0}
    {img img' : List ℕ}
    {g : Geometry}
    {x b : ℕ}
    (stated : g ≡ geometry_of img)
    (consistent : Consistent img)
    (within : x < slots g)
    (linked : (entry_of img g x).kind ≡ 2)
    (free : FreeBlock img b)
    (grown : Grown Written img img' g x b) where
  right : RightEntry img g x
  right = entries_at img g stated consistent x within

  pub grown_framed : Framed (Only x) Written img img' g
  grown_framed = framed_one stated consistent grown.kept within (λ z written. by z (grown.own z written))
    where
      by : (z : ℕ) → (z ≡ b) ⊎ ((0 < count z (blocks_at img g x)) ⊎ (z < g.bodies.0)) → (0 < count z (blocks_at img g x)) ⊎ (held img z ≡ 0)
      by z (inl is) = inr (ap (held img) is ∙ free.nobody)
      by z (inr (inl some)) = inl some
      by z (inr (inr own)) = inr (system_unheld img g stated consistent z own)

  walked_grown : EndedChain (link_of img' g) (entry_of img' g x).first.0 (entry_of img' g x).length (entry_of img' g x).last.0 (blocks_at img g x ++ (b ∷ []))
  walked_grown =
      subst (λ (n : ℕ). EndedChain (link_of img' g) (entry_of img' g x).first.0 n (entry_of img' g x).last.0 (blocks_at img g x ++ (b ∷ []))) (sym grown.size)
      (ended_join (linked_ended img g x right linked) (ended_one (link_of img' g) b grown.end)
      (held_once img g (entry_of img g x).last.0 x stated consistent within) grown.links grown.joint
      (entry_of img' g x).first.0 (entry_of img' g x).last.0 grown.first grown.begun (λ none. absurd (omega (arith, none))) (λ some. grown.final))

  pub grown_blocks : blocks_at img' g x ≡ blocks_at img g x ++ (b ∷ [])
  grown_blocks = resized_blocks grown.resized right linked walked_grown

  count_grown : (z : ℕ) → count z (blocks_at img' g x) ≡ count z (blocks_at img g x) + count z (b ∷ [])
  count_grown z = ap (count z) grown_blocks ∙ count_append z (blocks_at img g x) (b ∷ [])

  not_held : count b (blocks_at img g x) ≡ 0
  not_held = held_none img g b x stated within free.nobody

  bodies : (z : ℕ) → 0 < count z (blocks_at img g x ++ (b ∷ [])) → (g.bodies.0 ≤ z) × (z < g.blocks)
  bodies z some = by (ℕ_discrete z b)
    where
      by : Dec (z ≡ b) → (g.bodies.0 ≤ z) × (z < g.blocks)
      by (yes is) =
          (omega (arith, is, free.body, ap (λ (h : Geometry). h.bodies.0) stated), omega (arith, is, free.below, ap (λ (h : Geometry). h.blocks) stated))
      by (no other) =
          right_bodies img g x z right (omega (arith, some, count_append z (blocks_at img g x) (b ∷ []), count_other z b [] other, count_nil z))

  pub grown_right : RightEntry img' g x
  grown_right = resized_right grown.resized right linked walked_grown (λ uic. (listed_framed stated consistent grown_framed uic).0) bodies

  pub grown_consistent : Consistent img'
  grown_consistent = consistent_one stated consistent grown_framed within grown_right (known (resized_alike grown.resized)) (λ z. single z (ℕ_discrete z b))
      (λ z some. own z some (ℕ_discrete z b)) grown.map (λ z. omega (arith, count_grown z))
    where
      single : (z : ℕ) → Dec (z ≡ b) → count z (blocks_at img' g x) ≤ 1
      single z (yes is) = omega (arith, count_grown z, count_same z b [] is, count_nil z, not_held, ap (λ (i : ℕ). count i (blocks_at img g x)) is)
      single z (no other) = omega (arith, count_grown z, count_other z b [] other, count_nil z, held_once img g z x stated consistent within)

      own : (z : ℕ) → 0 < count z (blocks_at img' g x) → Dec (z ≡ b) → (0 < count z (blocks_at img g x)) ⊎ (held img z ≡ 0)
      own z some (yes is) = inr (ap (held img) is ∙ free.nobody)
      own z some (no other) = inl (omega (arith, some, count_grown z, count_other z b [] other, count_nil z))

-- two files made one
module _
    {Written : ℕ → Type 0}
    {img img' : List ℕ}
    {g : Geometry}
    {x y : ℕ}
    (stated : g ≡ geometry_of img)
    (consistent : Consistent img)
    (within : x < slots g)
    (within₂ : y < slots g)
    (other : x ≡ y → ⊥)
    (linked : (entry_of img g x).kind ≡ 2)
    (linked₂ : (entry_of img g y).kind ≡ 2)
    (joined : Joined Written img img' g x y) where
  right_first : RightEntry img g x
  right_first = entries_at img g stated consistent x within

  right_second : RightEntry img g y
  right_second = entries_at img g stated consistent y within₂

  pub joined_framed : Framed (Either x y) Written img img' g
  joined_framed = framed_two stated consistent joined.kept within within₂ (λ z written. by z (joined.own z written))
    where
      by : (z : ℕ) → (0 < count z (blocks_at img g x)) ⊎ (0 < count z (blocks_at img g y))
          → (0 < count z (blocks_at img g x)) ⊎ ((0 < count z (blocks_at img g y)) ⊎ (held img z ≡ 0))
      by z (inl some) = inl some
      by z (inr some) = inr (inl some)

  first_walked : EndedChain (link_of img g) (entry_of img g x).first.0 (entry_of img g x).length (entry_of img g x).last.0 (blocks_at img g x)
  first_walked = linked_ended img g x right_first linked

  second_walked : EndedChain (link_of img g) (entry_of img g y).first.0 (entry_of img g y).length (entry_of img g y).last.0 (blocks_at img g y)
  second_walked = linked_ended img g y right_second linked₂

  -- where the second file has no block its first block is 0, and so is the link that the first file ends with
  joint : 0 < (entry_of img g x).length → link_of img' g (entry_of img g x).last.0 ≡ (entry_of img g y).first.0
  joint some = by (ℕ_discrete (entry_of img g y).length 0)
    where
      by : Dec ((entry_of img g y).length ≡ 0) → link_of img' g (entry_of img g x).last.0 ≡ (entry_of img g y).first.0
      by (yes none) = joined.alone some none ∙ ended_end first_walked some ∙ sym (ended_first second_walked none)
      by (no not) = joined.joint some (omega (arith, not))

  walked_joined : EndedChain (link_of img' g) (entry_of img' g x).first.0 (entry_of img' g x).length (entry_of img' g x).last.0 (blocks_at img g x ++ blocks_at img g y)
  walked_joined =
      subst (λ (n : ℕ). EndedChain (link_of img' g) (entry_of img' g x).first.0 n (entry_of img' g x).last.0 (blocks_at img g x ++ blocks_at img g y)) (sym joined.size)
      (ended_join first_walked (ended_same second_walked joined.second)
      (held_once img g (entry_of img g x).last.0 x stated consistent within) joined.links joint
      (entry_of img' g x).first.0 (entry_of img' g x).last.0 joined.first joined.begun joined.ended joined.final)

  pub joined_blocks : blocks_at img' g x ≡ blocks_at img g x ++ blocks_at img g y
  joined_blocks = resized_blocks joined.resized right_first linked walked_joined

  count_joined : (z : ℕ) → count z (blocks_at img' g x) ≡ count z (blocks_at img g x) + count z (blocks_at img g y)
  count_joined z = ap (count z) joined_blocks ∙ count_append z (blocks_at img g x) (blocks_at img g y)

  bodies_joined : (z : ℕ) → 0 < count z (blocks_at img g x ++ blocks_at img g y) → (g.bodies.0 ≤ z) × (z < g.blocks)
  bodies_joined z some = by (dec_lt 0 (count z (blocks_at img g x)))
    where
      by : Dec (0 < count z (blocks_at img g x)) → (g.bodies.0 ≤ z) × (z < g.blocks)
      by (yes first) = right_bodies img g x z right_first first
      by (no none) = right_bodies img g y z right_second (omega (arith, some, none, count_append z (blocks_at img g x) (blocks_at img g y)))

  pub joined_right : RightEntry img' g x
  joined_right = resized_right joined.resized right_first linked walked_joined (λ uic. (listed_framed stated consistent joined_framed uic).0) bodies_joined

  pub joined_consistent : Consistent img'
  joined_consistent =
      consistent_two stated consistent joined_framed within within₂ other joined_right (resized_alike joined.resized) joined.emptied
      (λ z. omega (arith, count_joined z)) (says_kept joined.kept written_bodies (consistent_says img g stated consistent))
      (λ z. omega (arith, count_joined z, ap (count z) (empty_blocks img' g y joined.emptied), count_nil z))
    where
      written_bodies : (z : ℕ) → Written z → g.bodies.0 ≤ z
      written_bodies z written = by (joined.own z written)
        where
          by : (0 < count z (blocks_at img g x)) ⊎ (0 < count z (blocks_at img g y)) → g.bodies.0 ≤ z
          by (inl some) = (right_bodies img g x z right_first some).0
          by (inr some) = (right_bodies img g y z right_second some).0
