-- The rules of the size and of block 0 hold exactly if the header is right.
use Prim.Native.Nat.{ℕ, ◌*◌, ◌<◌}
use mathlib.Core.Path.{◌≡◌, refl, ap, sym, ◌∙◌}
use mathlib.Core.Bool.{Bool, true, false, cond}
use mathlib.Core.List.{List}
use native.Mathlib.Omega.{arith}
use lib.Dec.{eqb}
use borrow.Author.Tests.{ne_eqb, eqb-false}
use Rattle.words.specs.Word.{word_at}
use Rattle.pack.specs.Form.{segments_of}
use Rattle.pack.specs.Geometry.{geometry_of, segment_words, segment_bytes}
use Rattle.pack.specs.Header.{uic_count, RightHeader}
use Rattle.pack.proofs.FormBounds.{uics_fit}
use Rattle.pack.proofs.HeaderRules.{header_long}
use Rattle.faults.specs.Rules.{stated_segments, RightSize, RightWord}

-- where the form is known its segments are stated, and there are some in any case
pub stated_known : (form : ℕ) → 0 < segments_of form → stated_segments form ≡ segments_of form
unfolding stated_segments
stated_known form known =
    let other : segments_of form ≡ 0 → ⊥ = λ is. omega (arith, is, known) in
    simp (ne_eqb (segments_of form) 0 other)

pub stated_some : (form : ℕ) → 0 < stated_segments form
unfolding stated_segments
stated_some form = some (eqb (segments_of form) 0) refl
  where
    some : (a : Bool) → eqb (segments_of form) 0 ≡ a → 0 < cond a 4 (segments_of form)
    some true is = omega arith
    some false is = let other = eqb-false (segments_of form) 0 is in omega (arith, other)

-- the words of block 0 that are looked at
abbrev pub stated_words : List ℕ → ℕ
stated_words img = segment_words (stated_segments (word_at img 0))

pub header_words : (img : List ℕ) → RightSize img → ((w : ℕ) → w < stated_words img → RightWord img w) → RightHeader img
unfolding geometry_of
header_words img long words =
    let some = stated_some (word_at img 0) in
    let known = (words 0 (omega (arith, some))).form refl in
    let blocks = (words 1 (omega (arith, some))).blocks refl in
    let contents = (words 2 (omega (arith, some))).contents refl in
    let few = (words 3 (omega (arith, some))).uics refl in
    let is = stated_known (word_at img 0) known in
    let fit = uics_fit (word_at img 0) (uic_count img) known few in
    record {
      measured = record {
        known = known;
        blocks_least = blocks.0;
        blocks_most = blocks.1;
        contents_least = contents.0;
        contents_most = contents.1;
        room = contents.2;
        uics_most = few;
        size = long.whole ∙ ap (λ (k : ℕ). word_at img 1 * segment_bytes k) is;
      };
      uics = record {
        some = λ w low high. (words w (omega (arith, fit, is))).some low high;
        apart = λ v w low less high. (words w (omega (arith, fit, is))).apart v low less high;
      };
      rest = λ w low high. (words w (omega (arith, is))).rest low;
    }

module _ (img : List ℕ) (h : RightHeader img) where
  is : stated_segments (word_at img 0) ≡ segments_of (word_at img 0)
  is = stated_known (word_at img 0) h.measured.known

  pub header_size : RightSize img
  header_size =
      record {
        stated = omega (arith, header_long img h);
        whole = h.measured.size ∙ ap (λ (k : ℕ). word_at img 1 * segment_bytes k) (sym is);
      }

  pub header_word : (w : ℕ) → w < stated_words img → RightWord img w
  unfolding geometry_of
  header_word w inside =
      record {
        form = λ at. h.measured.known;
        blocks = λ at. (h.measured.blocks_least, h.measured.blocks_most);
        contents = λ at. (h.measured.contents_least, h.measured.contents_most, h.measured.room);
        uics = λ at. h.measured.uics_most;
        some = λ low high. h.uics.some w low high;
        apart = λ v low less high. h.uics.apart v w low less high;
        rest = λ low. h.rest w low (omega (arith, inside, is));
      }
