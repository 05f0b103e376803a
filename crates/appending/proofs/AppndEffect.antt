-- What APPND promises: refusals change nothing, consistent images stay so, every block is held as often as before, other files are untouched, and the
-- joined file is the first's blocks and then the second's.
use Prim.Native.Nat.{ℕ, ◌+◌, ◌*◌, ◌<◌}
use mathlib.Core.Path.{◌≡◌, refl, sym, ap, subst, ◌∙◌}
use mathlib.Core.List.{List, [], ◌++◌}
use mathlib.Core.Logic.{inl, inr}
use native.Mathlib.Omega.{arith}
use native.Mathlib.Decide.{ℕ_discrete}
use lib.ListN.{get_or}
use Rattle.answers.specs.Refusals.{first_of}
use Rattle.words.specs.Word.{word_at}
use Rattle.pack.specs.declared.Geometry.{Geometry}
use Rattle.pack.specs.declared.Key.{Key}
use Rattle.pack.specs.Geometry.{geometry_of, slots, block_words, block_bytes}
use Rattle.pack.specs.File.{count}
use Rattle.pack.specs.Entry.{entry_of, blocks_at, Empty}
use Rattle.pack.specs.Consistent.{held, Consistent}
use Rattle.pack.specs.Key.{key_in, SameKey}
use Rattle.pack.specs.Untouched.{Untouched}
use Rattle.pack.proofs.HeaderRules.{header_sized}
use Rattle.pack.proofs.FileCount.{count_nil, count_append}
use Rattle.pack.proofs.EntryRead.{empty_blocks}
use Rattle.asking.specs.Outcome.{Outcome, settled, Unchanged}
use Rattle.asking.specs.Asked.{entry_no, file_of}
use Rattle.pack.specs.EntryWords.{clear_entry}
use Rattle.asking.proofs.Outcome.{refusal_keeps}
use Rattle.pack.proofs.KeySame.{key_single}
use Rattle.frame.specs.Framing.{Either, Framed}
use Rattle.frame.specs.Growth.{Joined}
use Rattle.pack.proofs.ConsistentHeld.{right_bodies}
use Rattle.frame.proofs.UntouchedFramed.{untouched_framed, untouched_refl}
use Rattle.frame.proofs.FramedCompose.{header_kept}
use Rattle.frame.proofs.FramedHeld.{held_two}
use Rattle.frame.proofs.GrowthConsistent.{joined_framed, joined_blocks, joined_consistent}
use Rattle.bodies.proofs.EntryChainLinked.{Joint}
use Rattle.appending.specs.AppndRows.{appnd_rows}
use Rattle.appending.specs.Appnd.{chain_joined, appnd}
use Rattle.bodies.specs.Payloads.{payloads_of}
use Rattle.appending.proofs.AppndAccepted.{Accepted, accepted}
use Rattle.appending.proofs.AppndAnswers.{appnd_success}
use Rattle.appending.proofs.AppndJoined.{joining, payload_same}
use Rattle.bodies.proofs.Payloads.{payloads_append, payloads_same}

module _ (img : List ℕ) (first second : Key) (caller : ℕ) where
  -- the measures, the two entries, and the image afterwards
  abbrev g : Geometry
  g = geometry_of img

  abbrev x : ℕ
  x = entry_no img first

  abbrev y : ℕ
  y = entry_no img second

  abbrev after : List ℕ
  after = (appnd img first second caller).image

  -- the code is that of the rows
  rows_code : first_of (appnd_rows img first second caller) ≡ (appnd img first second caller).code
  unfolding appnd settled
  rows_code = refl

  pub appnd_refused : ((appnd img first second caller).code ≡ 0 → ⊥) → Unchanged (appnd img first second caller) [] img []
  unfolding appnd
  appnd_refused = refusal_keeps (appnd_rows img first second caller) img [] _

  -- the two files became one
  module _ (done : (appnd img first second caller).code ≡ 0) where
    pub appnd_accepted : Accepted img first second
    appnd_accepted = accepted img first second caller (rows_code ∙ done)

    image_is : clear_entry (chain_joined img g x (entry_of img g x) (entry_of img g y)) g y ≡ after
    unfolding file_of
    image_is = sym (ap (λ (r : Outcome). r.image) (appnd_success img first second caller (rows_code ∙ done)))

    pub appnd_joined : Joined (Joint img g x) img after g x y
    appnd_joined =
        let a = appnd_accepted in
        subst (λ (img' : List ℕ). Joined (Joint img g x) img img' g x y) image_is
        (joining img g x y refl a.right (header_sized img a.right.header) a.one.within a.two.within a.other a.one.linked a.two.linked)

    -- "second entry cleared"
    pub appnd_cleared : Empty after g y
    appnd_cleared = appnd_joined.emptied

    pub appnd_framed : Framed (Either x y) (Joint img g x) img after g
    appnd_framed =
        let a = appnd_accepted in
        joined_framed refl a.right a.one.within a.two.within a.other a.one.linked a.two.linked appnd_joined

    -- the joined file has the blocks of the first and then those of the second
    pub appnd_blocks : blocks_at after g x ≡ blocks_at img g x ++ blocks_at img g y
    appnd_blocks =
        let a = appnd_accepted in
        joined_blocks refl a.right a.one.within a.two.within a.other a.one.linked a.two.linked appnd_joined

    pub appnd_count : (b : ℕ) → count b (blocks_at after g x) ≡ count b (blocks_at img g x) + count b (blocks_at img g y)
    appnd_count b = ap (count b) appnd_blocks ∙ count_append b (blocks_at img g x) (blocks_at img g y)

    -- and the second has none
    pub appnd_none : (b : ℕ) → count b (blocks_at after g y) ≡ 0
    appnd_none b = ap (count b) (empty_blocks after g y appnd_cleared) ∙ count_nil b

    payloads_kept : (e : ℕ) → e < slots g → payloads_of after g (blocks_at img g e) ≡ payloads_of img g (blocks_at img g e)
    payloads_kept e inside =
        let a = appnd_accepted in
        payloads_same img after g appnd_joined.kept.long (blocks_at img g e)
        (λ b reached i behind small.
        let body = right_bodies img g e b (a.right.entries e inside) reached in
        ap (λ (img' : List ℕ). get_or img' (b * block_bytes g + i) 0) (sym image_is)
        ∙ payload_same img g x y refl a.right (header_sized img a.right.header) a.one.within a.two.within a.other a.one.linked a.two.linked
        b i body.0 body.1 behind small)

    -- and their payloads likewise
    pub appnd_payloads : payloads_of after g (blocks_at after g x) ≡ payloads_of img g (blocks_at img g x) ++ payloads_of img g (blocks_at img g y)
    appnd_payloads =
        ap (payloads_of after g) appnd_blocks
        ∙ (payloads_append after g (blocks_at img g x) (blocks_at img g y)
        ∙ (ap (λ (s : List ℕ). s ++ payloads_of after g (blocks_at img g y)) (payloads_kept x appnd_accepted.one.within)
        ∙ ap (λ (s : List ℕ). payloads_of img g (blocks_at img g x) ++ s) (payloads_kept y appnd_accepted.two.within)))

  -- what holds of the image before, and of the one with the two files joined, holds of the image afterwards
  pub appnd_by : (P : List ℕ → Type 0) → P img → ((appnd img first second caller).code ≡ 0 → P after) → P after
  appnd_by P before written = by (ℕ_discrete (appnd img first second caller).code 0)
    where
      by : Dec ((appnd img first second caller).code ≡ 0) → P after
      by (yes done) = written done
      by (no refused) = subst P (sym (appnd_refused refused).same_image) before

  pub appnd_consistent : Consistent img → Consistent after
  appnd_consistent right =
      appnd_by Consistent right
      (λ done.
      let a = appnd_accepted done in
      joined_consistent refl right a.one.within a.two.within a.other a.one.linked a.two.linked (appnd_joined done))

  -- every block is held as often as before: what the first file has more, the second has no longer
  pub appnd_held : Consistent img → (b : ℕ) → held after b ≡ held img b
  appnd_held right b =
      appnd_by (λ img'. held img' b ≡ held img b) refl
      (λ done.
      let a = appnd_accepted done in
      omega (arith, held_two refl right (appnd_framed done) a.one.within a.two.within a.other b, appnd_count done b, appnd_none done b))

  -- no link, nor anything else, is written into block 0
  pub appnd_block_zero : (w : ℕ) → w < block_words g → word_at after w ≡ word_at img w
  appnd_block_zero w within = appnd_by (λ img'. word_at img' w ≡ word_at img w) refl (λ done. header_kept (appnd_joined done).kept w within)

  -- a file that the request does not name
  pub appnd_untouched : (key : Key) → (key ≡ first → ⊥) → (key ≡ second → ⊥) → Untouched key img after
  appnd_untouched key not_first not_second =
      appnd_by (Untouched key img) (untouched_refl key img)
      (λ done.
      let a = appnd_accepted done in
      untouched_framed refl a.right (appnd_framed done) key (λ e within is used keyed. named a e is keyed))
    where
      named : Accepted img first second → (e : ℕ) → Either x y e → SameKey (key_in (entry_of img g e)) key → ⊥
      named a e (inl is) keyed =
          not_first (key_single a.one.keyed (subst (λ (i : ℕ). SameKey (key_in (entry_of img g i)) key) is keyed))
      named a e (inr is) keyed =
          not_second (key_single a.two.keyed (subst (λ (i : ℕ). SameKey (key_in (entry_of img g i)) key) is keyed))
