-- The look at the file of an entry in use, return by return: an extent as it was sought, a chain without blocks, the links of a chain and its end.
use Prim.Native.Nat.{ℕ, ◌+◌, ◌-◌, ◌≤◌, ◌<◌}
use mathlib.Core.Path.{◌≡◌, refl, sym, ap, subst, ◌∙◌}
use mathlib.Core.Bool.{Bool, true, false}
use mathlib.Core.List.{List}
use mathlib.Core.Logic.{inr, ◌↔◌}
use native.Mathlib.Omega.{arith}
use lib.ListN.{get_or}
use Rattle.answers.proofs.RefusalsTests.{true_not_false}
use Rattle.std.specs.Prelude.{Some}
use Rattle.pack.specs.declared.Entry.{Entry}
use Rattle.pack.specs.declared.Geometry.{Geometry}
use Rattle.pack.specs.Geometry.{geometry_of}
use Rattle.pack.specs.File.{next_of}
use Rattle.pack.specs.Entry.{entry_of, Empty}
use Rattle.faults.specs.declared.ReportAnswer.{ReportAnswer}
use Rattle.faults.specs.Rules.{extent, link, loop, end, Holds, RightExtent, RightChain, Body, chain_at}
use Rattle.faults.specs.Report.{each, file_order, reported, nothing_wrong, Reported, consistent, fault, right}
use Rattle.faults.specs.Looking.{FirstWrong, Sought, ExtentRight, Here, Last}
use Rattle.faults.proofs.ReportedParts.{hold_each, all_reported, reported_append, reported_each}
use Rattle.faults.proofs.ReportedRuns.{hold_links}
use Rattle.faults.proofs.RulesEntry.{entry_here, extent_order, end_order, order_contiguous, order_linked}
use Rattle.faults.proofs.RulesEntryRight.{sure}
use Rattle.faults.proofs.ReportOrder.{chain_six, chain_link_wrong, chain_loop, chain_eight, chain_hold}
use Rattle.faults.proofs.LookedEntry.{here_used, here_in}
use Rattle.faults.proofs.LookedLinks.{Walked, next_place, walked_next}

pub no_body : {r : Bool} {A : Type 0} → (r ≡ true) ↔ A → r ≡ false → A → ⊥
no_body iff wrong holds = true_not_false (sym (iff.1 holds) ∙ wrong)

extents : (e : ℕ) → each (λ w. extent e w) 6 3 ≡ extent_order e
unfolding each
extents e = refl

-- of the entry in the image
module _ (img : List ℕ) (e : ℕ) (used : Empty img (geometry_of img) e → ⊥) where
  abbrev G : Geometry
  G = geometry_of img

  abbrev X : Entry
  X = entry_here img e

  abbrev File : ReportAnswer → Type 0
  File answer = Reported img (file_order e (entry_here img e)) answer

  -- a contiguous file
  module _ (is : X.kind ≡ 1) where
    extent_holds : {w : ℕ} → RightExtent G w X → Holds img (extent e w)
    extent_holds good = inr (λ one. good, λ two. absurd (omega (arith, two, is)))

    extent_told : {w : ℕ} → Sought (ExtentRight G X) 6 9 (Some w) → File (reported img (extent e w))
    extent_told {w} (first, less) =
        rw (order_contiguous e X is, ← extents e)
        (reported_each (λ w. extent e w) 6 3 w first.low (omega arith) (λ j low before. extent_holds (first.before j low before))
        (λ holds. first.wrong less ((sure used holds).0 is)))

    extent_fine : FirstWrong (ExtentRight G X) 6 9 9 → File nothing_wrong
    extent_fine first =
        rw (order_contiguous e X is, ← extents e)
        (all_reported (hold_each (λ w. extent e w) 6 3 (λ i low high. extent_holds (first.before i low (omega arith)))))

  -- a linked one
  module _ (is : X.kind ≡ 2) where
    other : X.kind ≡ 1 → ⊥
    other one = omega (arith, one, is)

    chain_holds : {w : ℕ} → RightChain img w X → Holds img (extent e w)
    chain_holds good = inr (λ one. absurd (other one), λ two. good)

    no_first : (X.length ≡ 0 → ⊥) → (Body G X.first.0 → ⊥) → File (reported img (extent e 6))
    no_first some wrong = chain_six img e other (λ holds. wrong (((sure used holds).1 is).first refl (omega (arith, some))))

    -- without blocks
    module _ (empty : X.length ≡ 0) where
      first_zero : (X.first.0 ≡ 0 → ⊥) → File (reported img (extent e 6))
      first_zero some = chain_six img e other (λ holds. some (((sure used holds).1 is).no_first refl empty))

      module _ (nil : X.first.0 ≡ 0) where
        six_none : Holds img (extent e 6)
        six_none =
            chain_holds (record {
              first = λ at some. absurd (omega (arith, some, empty));
              no_first = λ at none. nil;
              last = λ at. absurd (omega (arith, at));
              no_last = λ at. absurd (omega (arith, at));
            })

        links_none : (q : ℕ) → q + 1 < X.length → Holds img (link e q) × Holds img (loop e q)
        links_none q within = absurd (omega (arith, within, empty))

        last_zero : (X.last.0 ≡ 0 → ⊥) → File (reported img (extent e 8))
        last_zero some = chain_eight img e other six_none links_none (λ holds. some (((sure used holds).1 is).no_last refl empty))

        both_zero : X.last.0 ≡ 0 → File nothing_wrong
        both_zero nil-last =
            all_reported (chain_hold img e other six_none links_none
            (chain_holds (record {
              first = λ at. absurd (omega (arith, at));
              no_first = λ at. absurd (omega (arith, at));
              last = λ at place there. absurd (omega (arith, there, empty));
              no_last = λ at none. nil-last;
            }))
            (inr (λ some. absurd (omega (arith, some, empty)))))

    -- with blocks, walked as far as place p
    module _ {marks : List ℕ} {p b : ℕ} (walked : Walked img G X marks p b) where
      six_some : Holds img (extent e 6)
      six_some =
          chain_holds (record {
            first = λ at some. walked.first;
            no_first = λ at none. absurd (omega (arith, none, walked.within));
            last = λ at. absurd (omega (arith, at));
            no_last = λ at. absurd (omega (arith, at));
          })

      so_far : (q : ℕ) → q < p → Holds img (link e q) × Holds img (loop e q)
      so_far q less = (inr (λ within. walked.links q less), inr (λ within. walked.once q less))

      module _ (more : p + 1 < X.length) {next : ℕ} (next_is : chain_at img X (p + 1) ≡ next) where
        link_told : (Body G next → ⊥) → File (record { rule = 6; entry = e; word = 0; block = b })
        link_told wrong =
            subst (λ (c : ℕ). File (record { rule = 6; entry = e; word = 0; block = c })) walked.is
            (chain_link_wrong img e other six_some p more so_far (λ holds. wrong (subst (Body G) next_is (sure used holds more))))

        loop_told : {q : ℕ} → Body G next → q ≤ p → chain_at img X q ≡ next → File (record { rule = 7; entry = e; word = 0; block = next })
        loop_told {q} body before there =
            subst (λ (c : ℕ). File (record { rule = 7; entry = e; word = 0; block = c })) next_is
            (chain_loop img e other six_some p more so_far (inr (λ within. subst (Body G) (sym next_is) body))
            (λ holds. sure used holds more q before (there ∙ sym next_is)))

      links_told : X.length ≤ p + 1 → {answer : ReportAnswer} → Reported img (end_order e) answer → File answer
      links_told done report =
          rw (order_linked e X other)
          (right six_some
          (reported_append (hold_links e 0 (X.length - 1) (λ q low high. so_far q (omega (arith, high, walked.within, done)))) report))

  -- the last block
  module _ {b : ℕ} (last : Last img G X b) where
    eight : b ≡ X.last.0 → Holds img (extent e 8)
    eight there =
        chain_holds last.linked (record {
          first = λ at. absurd (omega (arith, at));
          no_first = λ at. absurd (omega (arith, at));
          last = λ at place long.
              let same : place ≡ last.place = omega (arith, long, last.long) in
              ap (chain_at img X) same ∙ (last.is ∙ there);
          no_last = λ at none. absurd (omega (arith, none, last.long));
        })

    last_told : (b ≡ X.last.0 → ⊥) → Reported img (end_order e) (reported img (extent e 8))
    last_told wrong = fault fails
      where
        fails : Holds img (extent e 8) → ⊥
        fails holds = wrong (sym last.is ∙ ((sure used holds).1 last.linked).last refl last.place last.long)

    module _ (there : b ≡ X.last.0) {behind : ℕ} (next_is : chain_at img X (last.place + 1) ≡ behind) where
      behind_is : chain_at img X X.length ≡ behind
      behind_is = ap (chain_at img X) (sym last.long) ∙ next_is

      end_told : (behind ≡ 0 → ⊥) → Reported img (end_order e) (record { rule = 8; entry = e; word = 0; block = b })
      end_told some =
          let place : X.length - 1 ≡ last.place = omega (arith, last.long) in
          subst (λ (c : ℕ). Reported img (end_order e) (record { rule = 8; entry = e; word = 0; block = c })) (ap (chain_at img X) place ∙ last.is)
          (right (eight there) (fault fails))
        where
          fails : Holds img (end e) → ⊥
          fails holds = some (sym behind_is ∙ sure used holds (omega (arith, last.long)))

      end_fine : behind ≡ 0 → Reported img (end_order e) nothing_wrong
      end_fine nil = let ends : Holds img (end e) = inr (λ some. behind_is ∙ nil) in right (eight there) (right ends consistent)

-- of what was read
module _ {img : List ℕ} {g : Geometry} {e : ℕ} {x : Entry} (h : Here img g e x) where
  abbrev Told : ReportAnswer → Type 0
  Told answer = Reported img (file_order e (entry_of img (geometry_of img) e)) answer

  module _ (is : x.kind ≡ 1) where
    contiguous : (entry_here img e).kind ≡ 1
    contiguous = here_in h (λ g x. x.kind ≡ 1) is

    pub told_extent : {w : ℕ} → Sought (ExtentRight g x) 6 9 (Some w) → Told (reported img (extent e w))
    told_extent {w} found = extent_told img e (here_used h) contiguous (here_in h (λ g x. Sought (ExtentRight g x) 6 9 (Some w)) found)

    pub fine_extent : FirstWrong (ExtentRight g x) 6 9 9 → Told nothing_wrong
    fine_extent first = extent_fine img e (here_used h) contiguous (here_in h (λ g x. FirstWrong (ExtentRight g x) 6 9 9) first)

  module _ (is : x.kind ≡ 2) where
    linked : (entry_here img e).kind ≡ 2
    linked = here_in h (λ g x. x.kind ≡ 2) is

    pub told_first : (x.length ≡ 0 → ⊥) → (Body g x.first.0 → ⊥) → Told (reported img (extent e 6))
    told_first some wrong =
        no_first img e (here_used h) linked (here_in h (λ g x. x.length ≡ 0 → ⊥) some) (here_in h (λ g x. Body g x.first.0 → ⊥) wrong)

    module _ (empty : x.length ≡ 0) where
      none_here : (entry_here img e).length ≡ 0
      none_here = here_in h (λ g x. x.length ≡ 0) empty

      pub told_none_first : (x.first.0 ≡ 0 → ⊥) → Told (reported img (extent e 6))
      told_none_first some = first_zero img e (here_used h) linked none_here (here_in h (λ g x. x.first.0 ≡ 0 → ⊥) some)

      module _ (nil : x.first.0 ≡ 0) where
        first_here : (entry_here img e).first.0 ≡ 0
        first_here = here_in h (λ g x. x.first.0 ≡ 0) nil

        pub told_none_last : (x.last.0 ≡ 0 → ⊥) → Told (reported img (extent e 8))
        told_none_last some = last_zero img e (here_used h) linked none_here first_here (here_in h (λ g x. x.last.0 ≡ 0 → ⊥) some)

        pub fine_none : x.last.0 ≡ 0 → Told nothing_wrong
        fine_none nil-last = both_zero img e (here_used h) linked none_here first_here (here_in h (λ g x. x.last.0 ≡ 0) nil-last)

    module _ {marks : List ℕ} {p b : ℕ} (walked : Walked img g x marks p b) where
      walked_here : Walked img (geometry_of img) (entry_here img e) marks p b
      walked_here = here_in h (λ g x. Walked img g x marks p b) walked

      module _ (more : p + 1 < x.length) {next : ℕ} (behind : next ≡ next_of img g 2 b) where
        more_here : p + 1 < (entry_here img e).length
        more_here = here_in h (λ g x. p + 1 < x.length) more

        next_here : chain_at img (entry_here img e) (p + 1) ≡ next
        next_here = here_in h (λ g x. chain_at img x (p + 1) ≡ next) (walked_next h.measures.is walked behind)

        pub told_link : (Body g next → ⊥) → Told (record { rule = 6; entry = e; word = 0; block = b })
        told_link wrong = link_told img e (here_used h) linked walked_here more_here next_here (here_in h (λ g x. Body g next → ⊥) wrong)

        pub told_loop : Body g next → (get_or marks next 0 ≡ 0 → ⊥) → Told (record { rule = 7; entry = e; word = 0; block = next })
        told_loop body taken =
            let stands = walked_here.places next taken in
            loop_told img e (here_used h) linked walked_here more_here next_here (here_in h (λ g x. Body g next) body)
            (omega (arith, stands.within)) stands.is

      pub told_links : x.length ≤ p + 1 → {answer : ReportAnswer} → Reported img (end_order e) answer → Told answer
      told_links done report = links_told img e (here_used h) linked walked_here (here_in h (λ g x. x.length ≤ p + 1) done) report

  module _ {b : ℕ} (last : Last img g x b) where
    last_here : Last img (geometry_of img) (entry_here img e) b
    last_here = here_in h (λ g x. Last img g x b) last

    pub told_last : (b ≡ x.last.0 → ⊥) → Reported img (end_order e) (reported img (extent e 8))
    told_last wrong = last_told img e (here_used h) last_here (here_in h (λ g x. b ≡ x.last.0 → ⊥) wrong)

    module _ (there : b ≡ x.last.0) {behind : ℕ} (link_is : behind ≡ next_of img g 2 b) where
      there_here : b ≡ (entry_here img e).last.0
      there_here = here_in h (λ g x. b ≡ x.last.0) there

      behind_here : chain_at img (entry_here img e) (last_here.place + 1) ≡ behind
      behind_here = next_place img (entry_here img e) _ last_here.is (link_is ∙ ap (λ (k : Geometry). next_of img k 2 b) (sym h.measures.is))

      pub told_end : (behind ≡ 0 → ⊥) → Reported img (end_order e) (record { rule = 8; entry = e; word = 0; block = b })
      told_end some = end_told img e (here_used h) last_here there_here behind_here some

      pub fine_end : behind ≡ 0 → Reported img (end_order e) nothing_wrong
      fine_end nil = end_fine img e (here_used h) last_here there_here behind_here nil
