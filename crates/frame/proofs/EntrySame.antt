-- An entry whose words are the same, with blocks whose bytes are the same: its file is the same and as right as before.
use Prim.Native.Nat.{ℕ, ◌+◌, ◌*◌, ◌<◌}
use mathlib.Core.Path.{◌≡◌, sym, ap, subst, ◌∙◌}
use mathlib.Core.List.{List}
use mathlib.Core.Logic.{◌⊎◌, inl, inr}
use native.Mathlib.Omega.{arith}
use lib.ListN.{get_or}
use Rattle.words.specs.Word.{word_at}
use Rattle.pack.specs.declared.Geometry.{Geometry}
use Rattle.pack.specs.Geometry.{block_at, block_bytes}
use Rattle.pack.specs.Header.{Listed}
use Rattle.pack.specs.File.{link_of, next_of, chain, blocks_of, count}
use Rattle.pack.specs.Entry.{entry_word, entry_of, blocks_at, Empty, Contiguous, Linked, Used, RightEntry}
use Rattle.frame.proofs.FileChainWays.{chain_same, after_same, last_same, next_same}

-- a word is its two bytes
pub word_same : (img img' : List ℕ) (w : ℕ) → get_or img' (2 * w) 0 ≡ get_or img (2 * w) 0 → get_or img' (2 * w + 1) 0 ≡ get_or img (2 * w + 1) 0 → word_at img' w ≡ word_at img w
unfolding word_at
word_same img img' w low high = omega (arith, low, high)

-- a link is the first two bytes of its block
pub link_same : (img img' : List ℕ) (g : Geometry) (b : ℕ) → 0 < g.segments.0
    → ((i : ℕ) → i < block_bytes g → get_or img' (b * block_bytes g + i) 0 ≡ get_or img (b * block_bytes g + i) 0) → link_of img' g b ≡ link_of img g b
unfolding link_of
link_same img img' g b some bytes =
    let low-place : b * block_bytes g + 0 ≡ 2 * block_at g b = omega arith in
    let high-place : b * block_bytes g + 1 ≡ 2 * block_at g b + 1 = omega arith in
    word_same img img' (block_at g b)
    (subst (λ (k : ℕ). get_or img' k 0 ≡ get_or img k 0) low-place (bytes 0 (omega arith)))
    (subst (λ (k : ℕ). get_or img' k 0 ≡ get_or img k 0) high-place (bytes 1 (omega arith)))

module _ (img img' : List ℕ) (g : Geometry) (e : ℕ) (words : (i : ℕ) → i < 16 → entry_word img' g e i ≡ entry_word img g e i) where
  pub entry_same : entry_of img' g e ≡ entry_of img g e
  unfolding entry_of
  entry_same =
      λ j. record {
        name1 = words 0 (omega arith) j;
        name2 = words 1 (omega arith) j;
        extension = words 2 (omega arith) j;
        uic = words 3 (omega arith) j;
        protect = words 4 (omega arith) j;
        kind = words 5 (omega arith) j;
        first = record { 0 = words 6 (omega arith) j };
        length = words 7 (omega arith) j;
        last = record { 0 = words 8 (omega arith) j };
        writer = words 9 (omega arith) j;
        readers = words 10 (omega arith) j;
      }

  pub empty_same : Empty img g e → Empty img' g e
  empty_same empty = record { zero = λ i within. words i within ∙ empty.zero i within }

  module _ (links : (b : ℕ) → 0 < count b (blocks_at img g e) → link_of img' g b ≡ link_of img g b) where
    steps : (kind b : ℕ) → 0 < count b (blocks_at img g e) → next_of img' g kind b ≡ next_of img g kind b
    steps kind b some = next_same img img' g kind b (links b some)

    file_same : blocks_of img' g (entry_of img g e) ≡ blocks_of img g (entry_of img g e)
    unfolding blocks_of
    file_same = chain_same _ _ _ _ (λ b some. steps (entry_of img g e).kind b some)

    pub blocks_same : blocks_at img' g e ≡ blocks_at img g e
    blocks_same = ap (blocks_of img' g) entry_same ∙ file_same

    of_kind : (kind : ℕ) → (entry_of img g e).kind ≡ kind → (b : ℕ) → 0 < count b (chain (next_of img g kind) (entry_of img g e).length (entry_of img g e).first.0)
        → next_of img' g kind b ≡ next_of img g kind b
    unfolding blocks_of
    of_kind kind is b some =
        steps kind b
        (omega (arith, some, ap (λ (k : ℕ). count b (chain (next_of img g k) (entry_of img g e).length (entry_of img g e).first.0)) is))

    kind_same : Contiguous (entry_of img g e) ⊎ Linked img g (entry_of img g e) → Contiguous (entry_of img g e) ⊎ Linked img' g (entry_of img g e)
    kind_same (inl contiguous) = inl contiguous
    kind_same (inr linked) =
        inr
        (record {
          kind = linked.kind;
          end = after_same _ _ _ _ (of_kind 2 linked.kind) ∙ linked.end;
          last = last_same _ _ 0 _ _ (of_kind 2 linked.kind) ∙ linked.last;
          writer = linked.writer;
        })

    pub right_same : ((uic : ℕ) → Listed img uic → Listed img' uic) → RightEntry img g e → RightEntry img' g e
    right_same listed (inl empty) = inl (empty_same empty)
    right_same listed (inr used) =
        inr
        (subst (Used img' g e) (sym entry_same)
        (record {
          name = used.name;
          extension = used.extension;
          uic = listed (entry_of img g e).uic used.uic;
          protect = used.protect;
          kind = kind_same used.kind;
          rest = λ i low high. words i high ∙ used.rest i low high;
          bodies = λ b some. used.bodies b (omega (arith, some, ap (count b) file_same));
          opens = used.opens;
        }))
