-- An entry that keeps its file and says something else about it, and one that is emptied: the image stays consistent.
use Prim.Native.Nat.{ℕ, ◌+◌, ◌≤◌, ◌<◌}
use mathlib.Core.Path.{◌≡◌, sym, ap, subst, ◌∙◌}
use mathlib.Core.List.{List}
use mathlib.Core.Logic.{◌⊎◌, inl, inr}
use native.Mathlib.Omega.{arith}
use Rattle.pack.specs.declared.Geometry.{Geometry}
use Rattle.pack.specs.declared.Entry.{Entry}
use Rattle.pack.specs.Geometry.{geometry_of, slots}
use Rattle.pack.specs.File.{next_of, chain, after, last_of, blocks_of, count}
use Rattle.pack.specs.Entry.{entry_of, blocks_at, Empty, Contiguous, Linked, Used, RightEntry}
use Rattle.pack.specs.Consistent.{Consistent}
use Rattle.pack.specs.MapSays.{MapSays, marking}
use Rattle.pack.proofs.FileCount.{count_nil}
use Rattle.pack.proofs.EntryRead.{empty_blocks}
use Rattle.pack.proofs.FileChain.{next_contiguous}
use Rattle.frame.specs.Framed.{Only, Never}
use Rattle.frame.specs.Framing.{Framed, Distinct}
use Rattle.frame.specs.Framing.Distinct.{emptied}
use Rattle.frame.specs.Described.{Described, Description}
use Rattle.frame.proofs.FileChainWays.{next_same, chain_same, after_same, last_same}
use Rattle.pack.proofs.ConsistentHeld.{right_bodies, consistent_says}
use Rattle.frame.proofs.FramedCompose.{link_kept}
use Rattle.frame.proofs.FramedStays.{header_segments, bodies_behind, entries_at, says_kept}
use Rattle.frame.proofs.FramedHeld.{held_once}
use Rattle.frame.proofs.FramedConsistent.{consistent_one}

-- the way from block to block stays where no body is written, and in a contiguous file in any case
pub next_unwritten : {Named : ℕ → Type 0} {img img' : List ℕ} {g : Geometry} → g ≡ geometry_of img → Consistent img → Framed Named Never img img' g
    → (e : ℕ) → e < slots g → (b : ℕ) → 0 < count b (blocks_at img g e) → (kind : ℕ) → next_of img' g kind b ≡ next_of img g kind b
next_unwritten {Named} {img} {img'} {g} stated consistent framed e within b some kind =
    let range = right_bodies img g e b (entries_at img g stated consistent e within) some in
    next_same img img' g kind b (link_kept framed.kept (header_segments img g stated consistent.header) b (omega (arith, range.0, bodies_behind img g stated)) (λ never. never))

pub next_extent : (img img' : List ℕ) (g : Geometry) (kind b : ℕ) → kind ≡ 1 → next_of img' g kind b ≡ next_of img g kind b
next_extent img img' g kind b is = next_contiguous img' g kind b is ∙ sym (next_contiguous img g kind b is)

-- what an entry in use says
pub used_description : (img : List ℕ) (g : Geometry) (e : ℕ) (x : Entry) → Used img g e x → Description img x
used_description img g e x used =
    record {
      name = used.name;
      extension = used.extension;
      uic = used.uic;
      protect = used.protect;
      contiguous = contiguous used.kind;
      linked = linked used.kind;
      opens = used.opens;
    }
  where
    contiguous : Contiguous x ⊎ Linked img g x → x.kind ≡ 1 → (x.writer ≡ 0) ⊎ (x.writer ≡ 1)
    contiguous (inl rules) is = rules.writer
    contiguous (inr rules) is = absurd (omega (arith, is, rules.kind))

    linked : Contiguous x ⊎ Linked img g x → x.kind ≡ 2 → (x.writer ≡ 0) ⊎ ((x.writer ≡ 2) ⊎ (x.writer ≡ 3))
    linked (inl rules) is = absurd (omega (arith, is, rules.kind))
    linked (inr rules) is = rules.writer

module _ {img img' : List ℕ} {g : Geometry} {e : ℕ} (described : Described img img' g e) where
  kind_same : (entry_of img' g e).kind ≡ (entry_of img g e).kind
  unfolding entry_of
  kind_same = described.file 5 (omega arith) (omega arith)

  first_same : (entry_of img' g e).first.0 ≡ (entry_of img g e).first.0
  unfolding entry_of
  first_same = described.file 6 (omega arith) (omega arith)

  length_same : (entry_of img' g e).length ≡ (entry_of img g e).length
  unfolding entry_of
  length_same = described.file 7 (omega arith) (omega arith)

  end_same : (entry_of img' g e).last.0 ≡ (entry_of img g e).last.0
  unfolding entry_of
  end_same = described.file 8 (omega arith) (omega arith)

  walk : (b : ℕ) → 0 < count b (chain (next_of img g (entry_of img g e).kind) (entry_of img g e).length (entry_of img g e).first.0)
      → next_of img' g (entry_of img g e).kind b ≡ next_of img g (entry_of img g e).kind b
  unfolding blocks_of
  walk = described.next

  pub described_blocks : blocks_at img' g e ≡ blocks_at img g e
  unfolding blocks_of
  described_blocks =
      ap (λ (k : ℕ). chain (next_of img' g k) (entry_of img' g e).length (entry_of img' g e).first.0) kind_same
      ∙ ap (λ (n : ℕ). chain (next_of img' g (entry_of img g e).kind) n (entry_of img' g e).first.0) length_same
      ∙ ap (chain (next_of img' g (entry_of img g e).kind) (entry_of img g e).length) first_same
      ∙ chain_same _ _ _ _ walk

  kind_right : Description img' (entry_of img' g e) → Contiguous (entry_of img g e) ⊎ Linked img g (entry_of img g e) → Contiguous (entry_of img' g e) ⊎ Linked img' g (entry_of img' g e)
  kind_right says (inl rules) =
      inl
      (record {
        kind = kind_same ∙ rules.kind;
        length = omega (arith, rules.length, length_same);
        last = omega (arith, rules.last, length_same, first_same, end_same);
        writer = says.contiguous (kind_same ∙ rules.kind);
      })
  kind_right says (inr rules) =
      let two = rules.kind in
      let along : (b : ℕ) → 0 < count b (chain (next_of img g 2) (entry_of img g e).length (entry_of img g e).first.0) → next_of img' g 2 b ≡ next_of img g 2 b =
      subst
      (λ (k : ℕ). (b : ℕ) → 0 < count b (chain (next_of img g k) (entry_of img g e).length (entry_of img g e).first.0) → next_of img' g k b ≡ next_of img g k b)
      two walk in
      inr
      (record {
        kind = kind_same ∙ rules.kind;
        end = ap (λ (n : ℕ). after (next_of img' g 2) n (entry_of img' g e).first.0) length_same
            ∙ ap (after (next_of img' g 2) (entry_of img g e).length) first_same
            ∙ after_same _ _ _ _ along ∙ rules.end;
        last = ap (λ (n : ℕ). last_of (next_of img' g 2) 0 n (entry_of img' g e).first.0) length_same
            ∙ ap (last_of (next_of img' g 2) 0 (entry_of img g e).length) first_same
            ∙ last_same _ _ 0 _ _ along ∙ rules.last ∙ sym end_same;
        writer = says.linked (kind_same ∙ rules.kind);
      })

  pub described_right : Used img g e (entry_of img g e) → Description img' (entry_of img' g e) → RightEntry img' g e
  described_right used says =
      inr
      (record {
        name = says.name;
        extension = says.extension;
        uic = says.uic;
        protect = says.protect;
        kind = kind_right says used.kind;
        rest = λ i low high. described.rest i low high ∙ used.rest i low high;
        bodies = λ b some. used.bodies b (omega (arith, some, ap (count b) described_blocks));
        opens = says.opens;
      })

module _
    {Written : ℕ → Type 0}
    {img img' : List ℕ}
    {g : Geometry}
    {x : ℕ}
    (stated : g ≡ geometry_of img)
    (consistent : Consistent img)
    (framed : Framed (Only x) Written img img' g)
    (within : x < slots g) where
  -- no block is taken or given up, and bodies alone are written
  pub consistent_described : Used img g x (entry_of img g x) → Described img img' g x → Description img' (entry_of img' g x) → Distinct img img' g x
      → ((b : ℕ) → Written b → g.bodies.0 ≤ b) → Consistent img'
  consistent_described used described says distinct bodies =
      consistent_one stated consistent framed within (described_right described used says) distinct
      (λ b. omega (arith, ap (count b) (described_blocks described), held_once img g b x stated consistent within))
      (λ b some. inl (omega (arith, some, ap (count b) (described_blocks described))))
      (says_kept framed.kept bodies (consistent_says img g stated consistent)) (λ b. omega (arith, ap (count b) (described_blocks described)))

  -- its blocks are given up: the map has no bit for them
  pub consistent_emptied : Empty img' g x → {bit : ℕ → ℕ} → MapSays img' g bit → ((b : ℕ) → bit b + count b (blocks_at img g x) ≡ marking img g b) → Consistent img'
  consistent_emptied empty says freed =
      consistent_one stated consistent framed within (inl empty) (emptied empty)
      (λ b. omega (arith, ap (count b) (empty_blocks img' g x empty), count_nil b))
      (λ b some. absurd (omega (arith, some, ap (count b) (empty_blocks img' g x empty), count_nil b)))
      says (λ b. omega (arith, freed b, ap (count b) (empty_blocks img' g x empty), count_nil b))
