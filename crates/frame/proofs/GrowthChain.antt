-- Chains that end in 0: what is known of one, the same one by other links, and one joined to another.
use Prim.Native.Nat.{ℕ, suc, zero, ◌+◌, ◌≤◌, ◌<◌}
use mathlib.Core.Path.{◌≡◌, refl, sym, ap, subst, ◌∙◌}
use mathlib.Core.List.{List, [], ◌∷◌, ◌++◌}
use native.Mathlib.Omega.{arith}
use Rattle.pack.specs.File.{chain, after, last_of, count}
use Rattle.frame.specs.Growth.{EndedChain}
use Rattle.frame.proofs.FileChainWays.{chain_none, after_none, last_none, last_any, last_in_law, after_last, chain_same, after_same, last_same, chain_join, after_join, last_join}

module _ {f : ℕ → ℕ} {first size final : ℕ} {blocks : List ℕ} (walked : EndedChain f first size final blocks) where
  -- without blocks
  pub ended_none : size ≡ 0 → blocks ≡ []
  ended_none none = sym walked.blocks ∙ chain_none f size first none

  pub ended_first : size ≡ 0 → first ≡ 0
  ended_first none = sym (after_none f size first none) ∙ walked.end

  pub ended_final : size ≡ 0 → final ≡ 0
  ended_final none = sym walked.last ∙ last_none f 0 size first none

  -- with blocks
  pub ended_last : 0 < size → 0 < count final blocks
  ended_last some = subst (λ (l : List ℕ). 0 < count final l) walked.blocks (last_in_law f 0 size first final some walked.last)

  pub ended_end : 0 < size → f final ≡ 0
  ended_end some = ap f (sym walked.last) ∙ sym (after_last f 0 size first some) ∙ walked.end

-- links that agree on the blocks
pub ended_same : {f f' : ℕ → ℕ} {first size final : ℕ} {blocks : List ℕ} → EndedChain f first size final blocks → ((x : ℕ) → 0 < count x blocks → f' x ≡ f x)
    → EndedChain f' first size final blocks
ended_same {f} {f'} {first} {size} {final} {blocks} walked agree =
    let here : (x : ℕ) → 0 < count x (chain f size first) → f' x ≡ f x = λ x some. agree x (omega (arith, some, ap (count x) walked.blocks)) in
    record {
      blocks = chain_same f f' size first here ∙ walked.blocks;
      end = after_same f f' size first here ∙ walked.end;
      last = last_same f f' 0 size first here ∙ walked.last;
    }

-- a single block
pub ended_one : (f : ℕ → ℕ) (b : ℕ) → f b ≡ 0 → EndedChain f b 1 b (b ∷ [])
unfolding chain after last_of
ended_one f b end = record { blocks = refl; end = end; last = refl }

-- a chain by f whose last block f' leads to the first block of another chain; one without blocks leaves the other's numbers
module _
    {f f' : ℕ → ℕ}
    {first size final : ℕ}
    {blocks : List ℕ}
    {first₂ size₂ final₂ : ℕ}
    {blocks₂ : List ℕ}
    (walked : EndedChain f first size final blocks)
    (walked₂ : EndedChain f' first₂ size₂ final₂ blocks₂)
    (once : count final blocks ≤ 1)
    (agree : (x : ℕ) → 0 < count x blocks → (x ≡ final → ⊥) → f' x ≡ f x)
    (joint : 0 < size → f' final ≡ first₂) where
  last_two : (k : ℕ) → size₂ ≡ k → (other last' : ℕ) → (size₂ ≡ 0 → last' ≡ other) → (0 < size₂ → last' ≡ final₂)
      → last_of f' other size₂ first₂ ≡ last'
  last_two zero is other last' ended going = last_none f' other size₂ first₂ is ∙ sym (ended is)
  last_two (suc k) is other last' ended going = last_any f' other 0 size₂ first₂ (omega arith) ∙ walked₂.last ∙ sym (going (omega arith))

  join_some : (k : ℕ) → size ≡ suc k → (first' last' : ℕ) → first' ≡ first → (size₂ ≡ 0 → last' ≡ final) → (0 < size₂ → last' ≡ final₂)
      → EndedChain f' first' (size + size₂) last' (blocks ++ blocks₂)
  join_some k is first' last' begins ended going =
      let sum : size + size₂ ≡ suc k + size₂ = omega (arith, is) in
      let here : chain f (suc k) first ≡ blocks = ap (λ (i : ℕ). chain f i first) (sym is) ∙ walked.blocks in
      let to : f' final ≡ first₂ = joint (omega (arith, is)) in
      let but : (x : ℕ) → 0 < count x (chain f (suc k) first) → (x ≡ final → ⊥) → f' x ≡ f x = λ x some other. agree x (omega (arith, some, ap (count x) here)) other in
      let end : last_of f 0 (suc k) first ≡ final = ap (λ (i : ℕ). last_of f 0 i first) (sym is) ∙ walked.last in
      let single : count final (chain f (suc k) first) ≤ 1 = omega (arith, once, ap (count final) here) in
      let made : EndedChain f' first (suc k + size₂) last' (blocks ++ blocks₂) =
      record {
        blocks = chain_join f f' final 0 k size₂ first but end single ∙ ap (λ (l : List ℕ). l ++ chain f' size₂ (f' final)) here
            ∙ ap (λ (b : ℕ). blocks ++ chain f' size₂ b) to ∙ ap (λ (l : List ℕ). blocks ++ l) walked₂.blocks;
        end = after_join f f' final 0 k size₂ first but end single ∙ ap (after f' size₂) to ∙ walked₂.end;
        last = last_join f f' final 0 0 k size₂ first but end single ∙ ap (last_of f' final size₂) to ∙ last_two size₂ refl final last' ended going;
      } in
      subst (λ (b : ℕ). EndedChain f' b (size + size₂) last' (blocks ++ blocks₂)) (sym begins)
      (subst (λ (n : ℕ). EndedChain f' first n last' (blocks ++ blocks₂)) (sym sum) made)

  join_none : size ≡ 0 → (first' last' : ℕ) → first' ≡ first₂ → (size₂ ≡ 0 → last' ≡ final) → (0 < size₂ → last' ≡ final₂)
      → EndedChain f' first' (size + size₂) last' (blocks ++ blocks₂)
  join_none is first' last' begins ended going =
      let sum : size + size₂ ≡ size₂ = omega (arith, is) in
      let zero-final : final ≡ 0 = ended_final walked is in
      let made : EndedChain f' first₂ size₂ last' ([] ++ blocks₂) =
      record {
        blocks = walked₂.blocks;
        end = walked₂.end;
        last = last_two size₂ refl 0 last' (λ none. ended none ∙ zero-final) going;
      } in
      subst (λ (l : List ℕ). EndedChain f' first' (size + size₂) last' (l ++ blocks₂)) (sym (ended_none walked is))
      (subst (λ (b : ℕ). EndedChain f' b (size + size₂) last' ([] ++ blocks₂)) (sym begins)
      (subst (λ (n : ℕ). EndedChain f' first₂ n last' ([] ++ blocks₂)) (sym sum) made))

  pub ended_join : (first' last' : ℕ) → (0 < size → first' ≡ first) → (size ≡ 0 → first' ≡ first₂) → (size₂ ≡ 0 → last' ≡ final)
      → (0 < size₂ → last' ≡ final₂)
      → EndedChain f' first' (size + size₂) last' (blocks ++ blocks₂)
  ended_join first' last' starts begins ended going = by size refl
    where
      by : (k : ℕ) → size ≡ k → EndedChain f' first' (size + size₂) last' (blocks ++ blocks₂)
      by zero is = join_none is first' last' (begins is) ended going
      by (suc k) is = join_some k is first' last' (starts (omega (arith, is))) ended going
