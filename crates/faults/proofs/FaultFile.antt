-- A fault named in a file's extent or chain is there.
use Prim.Native.Nat.{ℕ, suc, zero, ◌+◌, ◌-◌, ◌≤◌, ◌<◌}
use mathlib.Core.Path.{◌≡◌, refl, sym, ap, subst, ◌∙◌}
use mathlib.Core.List.{List}
use mathlib.Core.Logic.{◌⊎◌, inl, inr}
use native.Mathlib.Omega.{arith}
use native.Mathlib.Decide.{ℕ_discrete, dec_lt}
use Rattle.pack.specs.Geometry.{geometry_of, slots}
use Rattle.pack.specs.Entry.{Empty}
use Rattle.faults.specs.declared.ReportAnswer.{ReportAnswer}
use Rattle.faults.specs.Rules.{extent, link, loop, end, Holds, Body, chain_at}
use Rattle.faults.specs.Report.{links, reported, Reported, consistent, fault, right}
use Rattle.faults.specs.FirstFault.{AllHold, also}
use Rattle.faults.specs.FaultThere.{InUse, ChainBlock, Fault, wrong_extent, wrong_chain, wrong_link, leads_back, no_end}
use Rattle.faults.proofs.ReportedParts.{reported_split}
use Rattle.faults.proofs.ReportedRuns.{link_rules, links_fault, links_hold}
use Rattle.faults.proofs.RulesFile.{chain_body, chain_link}
use Rattle.faults.proofs.RulesEntry.{extent_order, end_order, chain_order, entry_here}
use Rattle.faults.proofs.RulesEntryRight.{sure}

-- one of the numbers below k, or none of them
pub below_sought : (P : ℕ → Type 0) → ((i : ℕ) → Dec (P i)) → (k : ℕ) → ((i : ℕ) × (i < k) × P i) ⊎ ((i : ℕ) → i < k → P i → ⊥)
below_sought P test zero = inr (λ i below. absurd (omega arith))
below_sought P test (suc k) = at (below_sought P test k) (test k)
  where
    at : ((i : ℕ) × (i < k) × P i) ⊎ ((i : ℕ) → i < k → P i → ⊥) → Dec (P k) → ((i : ℕ) × (i < suc k) × P i) ⊎ ((i : ℕ) → i < suc k → P i → ⊥)
    at (inl (i, below, p)) last = inl (i, omega arith, p)
    at (inr never) (yes p) = inl (k, omega arith, p)
    at (inr never) (no not_last) =
        inr (λ i below p. elim (ℕ_discrete i k) [ yes is ↦ not_last (subst P is p) | no other ↦ never i (omega (arith, other)) p ])

module _ (img : List ℕ) (e : ℕ) (inside : e < slots (geometry_of img)) where
  -- a rule that fails is of an entry in use
  pub in_use : {P : Type 0} → (Empty img (geometry_of img) e ⊎ P → ⊥) → InUse img e
  in_use fails = record { inside = inside; used = λ empty. fails (inl empty) }

  module _ (is : (entry_here img e).kind ≡ 1) where
    wrong : (w : ℕ) → (6 ≤ w) × (w ≤ 8) → (Holds img (extent e w) → ⊥) → Fault img (reported img (extent e w))
    wrong w between fails = wrong_extent e w (in_use fails) is between (λ holds. fails (inr (λ one. holds, λ two. absurd (omega (arith, two, is)))))

    pub extent_fault : {answer : ReportAnswer} → Reported img (extent_order e) answer → (answer.rule ≡ 0 → ⊥) → Fault img answer
    extent_fault (fault fails) some = wrong 6 (omega arith, omega arith) fails
    extent_fault (right six (fault fails)) some = wrong 7 (omega arith, omega arith) fails
    extent_fault (right six (right seven (fault fails))) some = wrong 8 (omega arith, omega arith) fails
    extent_fault (right six (right seven (right eight consistent))) some = absurd (some refl)

  module _ (is : (entry_here img e).kind ≡ 2) where
    wrong₂ : (w : ℕ) → (w ≡ 6) ⊎ (w ≡ 8) → (Holds img (extent e w) → ⊥) → Fault img (reported img (extent e w))
    wrong₂ w which fails = wrong_chain e w (in_use fails) is which (λ holds. fails (inr (λ one. absurd (omega (arith, one, is)), λ two. holds)))

    module _ (six : Holds img (extent e 6)) where
      -- a block of the chain, where the links before it are right
      block_at_law : InUse img e → (p : ℕ) → p < (entry_here img e).length → ((q : ℕ) → q < p → Holds img (link e q))
          → ChainBlock img e p (chain_at img (entry_here img e) p)
      block_at_law entry p within before =
          record {
            entry = entry;
            linked = is;
            within = within;
            is = refl;
            body = chain_body img (entry_here img e) is ((sure entry.used six).1 is) p within (λ q less. sure entry.used (before q less) (omega arith));
          }

      module _ (p : ℕ) (within : p + 1 < (entry_here img e).length) (before : (q : ℕ) → q < p → Holds img (link e q)) where
        link_wrong : (Holds img (link e p) → ⊥) → Fault img (reported img (link e p))
        link_wrong fails =
            wrong_link e p (chain_at img (entry_here img e) p) (block_at_law (in_use fails) p (omega arith) before) within
            (λ body. fails (inr (λ again. subst (Body (geometry_of img)) (sym (chain_link img (entry_here img e) is p)) body)))

        loop_wrong : Holds img (link e p) → (Holds img (loop e p) → ⊥) → Fault img (reported img (loop e p))
        loop_wrong holds fails =
            by
            (below_sought (λ (q : ℕ). chain_at img (entry_here img e) q ≡ chain_at img (entry_here img e) (p + 1))
            (λ q. ℕ_discrete (chain_at img (entry_here img e) q) (chain_at img (entry_here img e) (p + 1))) (p + 1))
          where
            body : Body (geometry_of img) (chain_at img (entry_here img e) (p + 1))
            body = sure (in_use fails).used holds within

            by : ((q : ℕ) × (q < p + 1) × (chain_at img (entry_here img e) q ≡ chain_at img (entry_here img e) (p + 1)))
                ⊎ ((q : ℕ) → q < p + 1 → chain_at img (entry_here img e) q ≡ chain_at img (entry_here img e) (p + 1) → ⊥)
                → Fault img (reported img (loop e p))
            by (inl (q, less, same)) =
                leads_back e q (p + 1) (chain_at img (entry_here img e) (p + 1)) less
                (record { entry = in_use fails; linked = is; within = omega arith; is = same; body = body })
                (record { entry = in_use fails; linked = is; within = within; is = refl; body = body })
            by (inr never) = absurd (fails (inr (λ again q below same. never q (omega arith) same)))

        pub link_fault : {answer : ReportAnswer} → Reported img (link_rules e p) answer → (answer.rule ≡ 0 → ⊥) → Fault img answer
        link_fault (fault fails) some = link_wrong fails
        link_fault (right holds (fault fails)) some = loop_wrong holds fails
        link_fault (right holds (right ahead consistent)) some = absurd (some refl)

      end_wrong : ((q : ℕ) → q + 1 < (entry_here img e).length → Holds img (link e q)) → (Holds img (end e) → ⊥) → Fault img (reported img (end e))
      end_wrong before fails =
          let some : 0 < (entry_here img e).length =
          elim (dec_lt 0 (entry_here img e).length) [ yes some ↦ some | no never ↦ absurd (fails (inr (λ again. absurd (never again)))) ] in
          let place : (entry_here img e).length - 1 + 1 ≡ (entry_here img e).length = omega (arith, some) in
          no_end e ((entry_here img e).length - 1) (chain_at img (entry_here img e) ((entry_here img e).length - 1))
          (block_at_law (in_use fails) ((entry_here img e).length - 1) (omega (arith, some)) (λ q less. before q (omega (arith, less)))) place
          (λ zero. fails (inr (λ again.
          ap (chain_at img (entry_here img e)) (sym place) ∙ (chain_link img (entry_here img e) is ((entry_here img e).length - 1) ∙ zero))))

      end_fault : ((q : ℕ) → q + 1 < (entry_here img e).length → Holds img (link e q)) → {answer : ReportAnswer} → Reported img (end_order e) answer
          → (answer.rule ≡ 0 → ⊥) → Fault img answer
      end_fault before (fault fails) some = wrong₂ 8 (inr refl) fails
      end_fault before (right eight (fault fails)) some = end_wrong before fails
      end_fault before (right eight (right ends consistent)) some = absurd (some refl)

      links_then_end : {answer : ReportAnswer} → (answer.rule ≡ 0 → ⊥)
          → Reported img (links e 0 ((entry_here img e).length - 1)) answer ⊎ (AllHold img (links e 0 ((entry_here img e).length - 1)) × Reported img (end_order e) answer)
          → Fault img answer
      links_then_end some (inl report) =
          let r = links_fault e 0 ((entry_here img e).length - 1) report some in
          link_fault r.at (omega (arith, r.high)) (λ q less. first_of (r.hold q (omega arith) less)) r.report some
        where
          first_of : {q : ℕ} → AllHold img (link_rules e q) → Holds img (link e q)
          first_of (also holds rest) = holds
      links_then_end some (inr (all, report)) =
          end_fault (λ q within. (links_hold e 0 ((entry_here img e).length - 1) all q (omega arith) (omega arith)).0) report some

    pub chain_fault : {answer : ReportAnswer} → Reported img (chain_order e (entry_here img e)) answer → (answer.rule ≡ 0 → ⊥) → Fault img answer
    chain_fault (fault fails) some = wrong₂ 6 (inl refl) fails
    chain_fault (right six rest) some =
        links_then_end six some (reported_split (links e 0 ((entry_here img e).length - 1)) (end_order e) rest some)
