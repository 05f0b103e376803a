-- A linked file whose entry has another first block, length and last block: if its chain is right, so is the entry.
use Prim.Native.Nat.{ℕ, ◌≤◌, ◌<◌}
use mathlib.Core.Path.{◌≡◌, refl, sym, ap, subst, ◌∙◌}
use mathlib.Core.List.{List}
use mathlib.Core.Logic.{◌⊎◌, inl, inr}
use native.Mathlib.Omega.{arith}
use lib.Dec.{ltb}
use Rattle.radix.specs.Names.{LegalName, LegalExtension}
use Rattle.pack.specs.declared.Geometry.{Geometry}
use Rattle.pack.specs.declared.Entry.{Entry}
use Rattle.pack.specs.Header.{Listed}
use Rattle.pack.specs.File.{link_of, next_of, chain, after, last_of, blocks_of, one, count}
use Rattle.pack.specs.Entry.{entry_word, entry_of, blocks_at, Contiguous, Linked, Used, RightEntry}
use Rattle.pack.specs.Key.{key_in, SameKey}
use Rattle.frame.specs.Growth.{EndedChain, Resized}

-- a linked file goes on by its links
linked_next : (img : List ℕ) (g : Geometry) (kind : ℕ) → kind ≡ 2 → next_of img g kind ≡ link_of img g
unfolding next_of
linked_next img g kind is = ap (next_of img g) is

-- an entry of kind 2 is in use
pub linked_used : (img : List ℕ) (g : Geometry) (e : ℕ) → RightEntry img g e → (entry_of img g e).kind ≡ 2 → Used img g e (entry_of img g e)
unfolding entry_of
linked_used img g e (inl empty) linked = absurd (omega (arith, linked, empty.zero 5 (omega arith)))
linked_used img g e (inr used) linked = used

linked_rules : (img : List ℕ) (g : Geometry) (x : Entry) → x.kind ≡ 2 → Contiguous x ⊎ Linked img g x → Linked img g x
linked_rules img g x linked (inl contiguous) = absurd (omega (arith, linked, contiguous.kind))
linked_rules img g x linked (inr rules) = rules

-- the chain of a linked file
pub linked_ended : (img : List ℕ) (g : Geometry) (e : ℕ) → RightEntry img g e → (entry_of img g e).kind ≡ 2
    → EndedChain (link_of img g) (entry_of img g e).first.0 (entry_of img g e).length (entry_of img g e).last.0 (blocks_at img g e)
unfolding blocks_of
linked_ended img g e right linked =
    let x = entry_of img g e in
    let rules : Linked img g (entry_of img g e) = linked_rules img g (entry_of img g e) linked (linked_used img g e right linked).kind in
    let next : next_of img g 2 ≡ link_of img g = linked_next img g 2 refl in
    record {
      blocks = ap (λ (f : ℕ → ℕ). chain f x.length x.first.0) (sym (linked_next img g x.kind linked));
      end = subst (λ (f : ℕ → ℕ). after f x.length x.first.0 ≡ 0) next rules.end;
      last = subst (λ (f : ℕ → ℕ). last_of f 0 x.length x.first.0 ≡ x.last.0) next rules.last;
    }

module _
    {img img' : List ℕ}
    {g : Geometry}
    {e : ℕ}
    (resized : Resized img img' g e) where
  same : (i : ℕ) → i < 16 → (i < 6) ⊎ (8 < i) → entry_word img' g e i ≡ entry_word img g e i
  same i small (inl low) = resized.words i small (λ is. omega (arith, is)) (λ is. omega (arith, is)) (λ is. omega (arith, is))
  same i small (inr high) = resized.words i small (λ is. omega (arith, is)) (λ is. omega (arith, is)) (λ is. omega (arith, is))

  pub resized_alike : SameKey (key_in (entry_of img' g e)) (key_in (entry_of img g e))
  unfolding entry_of
  resized_alike =
      record {
        name1 = same 0 (omega arith) (inl (omega arith));
        name2 = same 1 (omega arith) (inl (omega arith));
        extension = same 2 (omega arith) (inl (omega arith));
        uic = same 3 (omega arith) (inl (omega arith));
      }

  protect_same : (entry_of img' g e).protect ≡ (entry_of img g e).protect
  unfolding entry_of
  protect_same = same 4 (omega arith) (inl (omega arith))

  kind_same : (entry_of img' g e).kind ≡ (entry_of img g e).kind
  unfolding entry_of
  kind_same = same 5 (omega arith) (inl (omega arith))

  writer_same : (entry_of img' g e).writer ≡ (entry_of img g e).writer
  unfolding entry_of
  writer_same = same 9 (omega arith) (inr (omega arith))

  readers_same : (entry_of img' g e).readers ≡ (entry_of img g e).readers
  unfolding entry_of
  readers_same = same 10 (omega arith) (inr (omega arith))

  module _
      {blocks : List ℕ}
      (right : RightEntry img g e)
      (linked : (entry_of img g e).kind ≡ 2)
      (walked : EndedChain (link_of img' g) (entry_of img' g e).first.0 (entry_of img' g e).length (entry_of img' g e).last.0 blocks) where
    pub resized_blocks : blocks_at img' g e ≡ blocks
    unfolding blocks_of
    resized_blocks =
        ap (λ (f : ℕ → ℕ). chain f (entry_of img' g e).length (entry_of img' g e).first.0) (linked_next img' g (entry_of img' g e).kind (kind_same ∙ linked))
        ∙ walked.blocks

    linked_same : Linked img' g (entry_of img' g e)
    linked_same =
        let next : link_of img' g ≡ next_of img' g 2 = sym (linked_next img' g 2 refl) in
        record {
          kind = kind_same ∙ linked;
          end = subst (λ (f : ℕ → ℕ). after f (entry_of img' g e).length (entry_of img' g e).first.0 ≡ 0) next walked.end;
          last = subst (λ (f : ℕ → ℕ). last_of f 0 (entry_of img' g e).length (entry_of img' g e).first.0 ≡ (entry_of img' g e).last.0) next walked.last;
          writer = subst (λ (w : ℕ). (w ≡ 0) ⊎ ((w ≡ 2) ⊎ (w ≡ 3))) (sym writer_same)
              (linked_rules img g (entry_of img g e) linked (linked_used img g e right linked).kind).writer;
        }

    pub resized_right : ((uic : ℕ) → Listed img uic → Listed img' uic) → ((b : ℕ) → 0 < count b blocks → (g.bodies.0 ≤ b) × (b < g.blocks)) → RightEntry img' g e
    resized_right listed bodies =
        let used : Used img g e (entry_of img g e) = linked_used img g e right linked in
        inr
        (record {
          name = subst (λ (n : ℕ). LegalName n (entry_of img' g e).name2) (sym resized_alike.name1)
              (subst (LegalName (entry_of img g e).name1) (sym resized_alike.name2) used.name);
          extension = subst LegalExtension (sym resized_alike.extension) used.extension;
          uic = subst (Listed img') (sym resized_alike.uic) (listed (entry_of img g e).uic used.uic);
          protect = omega (arith, used.protect, protect_same);
          kind = inr linked_same;
          rest = λ i low high. same i high (inr (omega arith)) ∙ used.rest i low high;
          bodies = λ b some. bodies b (omega (arith, some, ap (count b) resized_blocks));
          opens = omega (arith, used.opens, readers_same, ap (λ (w : ℕ). one (ltb 0 w)) writer_same);
        })
