-- The look at block 0, return by return: the list of UICs, the rest, and what is told of an image whose header is not right.
use Prim.Native.Nat.{ℕ, suc, zero, ◌+◌, ◌-◌, ◌*◌, ◌≤◌, ◌<◌}
use mathlib.Core.Path.{◌≡◌, refl, sym, ap, subst, ◌∙◌}
use mathlib.Core.Bool.{true, false}
use mathlib.Core.List.{List}
use native.Mathlib.Omega.{arith}
use borrow.Author.Rules.{rules}
use native.Mathlib.Nat.{mul-le-mul, mul-le-mul_right}
use lib.ListN.{length}
use borrow.Author.Tests.{eq-eqb, ne_eqb}
use Rattle.std.specs.Prelude.{Option, Some, None, IsSome}
use Rattle.answers.proofs.RefusalsTests.{true_not_false}
use Rattle.words.specs.Word.{word_at}
use Rattle.pack.specs.Form.{segments_of}
use Rattle.pack.specs.Geometry.{segment_words, segment_bytes}
use Rattle.pack.specs.Header.{uic_count, RightHeader}
use Rattle.pack.specs.HeaderTest.{among}
use Rattle.pack.proofs.FormBounds.{uics_fit}
use Rattle.pack.proofs.HeaderTestWords.{among_is, is_among}
use Rattle.faults.specs.Rules.{size, header, stated_segments, RightSize, RightWord}
use Rattle.faults.specs.Report.{reported, Report}
use Rattle.faults.specs.Looking.{FirstWrong, Sought}
use Rattle.faults.proofs.RulesHeader.{stated_known, stated_words, header_words}
use Rattle.faults.proofs.ReportSmall.{stated_few}
use Rattle.faults.proofs.ReportOrder.{report_size, report_word}

-- the segments stated, as they are read
pub stated_none : (form : ℕ) {segments : ℕ} → segments ≡ segments_of form → segments ≡ 0 → 4 ≡ stated_segments form
unfolding stated_segments
stated_none form s none = sym (simp (eq-eqb (segments_of form) 0 (sym s ∙ none)))

pub stated_form : (form : ℕ) {segments : ℕ} → segments ≡ segments_of form → (segments ≡ 0 → ⊥) → segments ≡ stated_segments form
unfolding stated_segments
stated_form form s some = s ∙ sym (simp (ne_eqb (segments_of form) 0 (λ none. some (s ∙ none))))

module _ (img : List ℕ) where
  -- a word of the list of UICs
  module _ {w end : ℕ} (low : 4 ≤ w) (inside : w < end) (is : end ≡ 4 + uic_count img) {uic : ℕ} (u : uic ≡ word_at img w) where
    pub uic_again : among img uic 4 (w - 4) ≡ true → RightWord img w → ⊥
    uic_again there right =
        let a = among_is img uic 4 (w - 4) there in
        right.apart a.at a.low (omega (arith, a.high)) (omega arith) (a.is ∙ u)

    pub uic_right : (uic ≡ 0 → ⊥) → among img uic 4 (w - 4) ≡ false → RightWord img w
    uic_right some apart =
        record {
          form = λ at. absurd (omega (arith, at));
          blocks = λ at. absurd (omega (arith, at));
          contents = λ at. absurd (omega (arith, at));
          uics = λ at. absurd (omega (arith, at));
          some = λ from high none. some (u ∙ none);
          apart = λ v from less high same. true_not_false (sym (is_among img uic 4 (w - 4) v from (omega arith) (same ∙ sym u)) ∙ apart);
          rest = λ from. absurd (omega arith);
        }

  -- a word behind it
  module _ {w from : ℕ} (low : from ≤ w) (is : from ≡ 4 + uic_count img) {word : ℕ} (u : word ≡ word_at img w) where
    pub rest_wrong : (word ≡ 0 → ⊥) → RightWord img w → ⊥
    rest_wrong some right = some (u ∙ right.rest (omega arith))

    pub rest_right : word ≡ 0 → RightWord img w
    rest_right none =
        record {
          form = λ at. absurd (omega (arith, at));
          blocks = λ at. absurd (omega (arith, at));
          contents = λ at. absurd (omega (arith, at));
          uics = λ at. absurd (omega (arith, at));
          some = λ above high. absurd (omega arith);
          apart = λ v above less high. absurd (omega arith);
          rest = λ above. sym u ∙ none;
        }

  -- block 0 stands in an image of the right size
  pub block_room : RightSize img → 2 * stated_words img ≤ length img
  block_room right = by (word_at img 1) refl
    where
      by : (n : ℕ) → word_at img 1 ≡ n → 2 * stated_words img ≤ length img
      by zero is = absurd (omega (arith, right.stated, right.whole, is, ap (λ (n : ℕ). n * segment_bytes (stated_segments (word_at img 0))) is))
      by (suc n) is =
          let one : 1 ≤ suc n = omega arith in
          omega (
            arith,
            right.whole,
            ap (λ (n : ℕ). n * segment_bytes (stated_segments (word_at img 0))) is,
            mul-le-mul_right (segment_bytes (stated_segments (word_at img 0))) one,
          )

  -- where the measures are right the list of UICs stands in block 0
  pub list_room : FirstWrong (RightWord img) 0 4 4 → 4 + uic_count img ≤ stated_words img
  list_room measure =
      let known = (measure.before 0 (omega arith) (omega arith)).form refl in
      let few = (measure.before 3 (omega arith) (omega arith)).uics refl in
      omega (arith, uics_fit (word_at img 0) (uic_count img) known few, stated_known (word_at img 0) known)

  -- the size
  pub size_short : length img < 4 → Report img (reported img size)
  size_short short = report_size (λ right. omega (arith, right.stated, short))

  module _ {form blocks segments bytes : ℕ} (f : form ≡ word_at img 0) (s : segments ≡ stated_segments form) (k : blocks ≡ word_at img 1) (b : bytes ≡ segment_bytes segments) where
    stated_bytes : blocks * bytes ≡ word_at img 1 * segment_bytes (stated_segments (word_at img 0))
    stated_bytes = rw (k, b, s, f)

    pub size_other : (length img ≡ blocks * bytes → ⊥) → Report img (reported img size)
    size_other other = report_size (λ right. other (right.whole ∙ sym stated_bytes))

    pub size_right : 4 ≤ length img → length img ≡ blocks * bytes → RightSize img
    size_right long is = record { stated = long; whole = is ∙ stated_bytes }

    pub words_stated : {words : ℕ} → words ≡ segment_words segments → words ≡ stated_words img
    words_stated is = is ∙ rw (s, f)

  -- a word of it is wrong where the header is not right
  pub word_there : (RightHeader img → ⊥) → RightSize img → {end : ℕ} → end ≡ stated_words img → (found : Option ℕ) → Sought (RightWord img) 0 end found → IsSome found
  word_there wrong long is (Some w) sought = search rules
  word_there wrong long is None sought = absurd (wrong (header_words img long (λ v inside. sought.before v (omega arith) (omega (arith, inside, is)))))

  pub header_told : RightSize img → {end : ℕ} → end ≡ stated_words img → (found : Option ℕ) → Sought (RightWord img) 0 end found → {w : ℕ} → found ≡ Some w
      → Report img (reported img (header w))
  header_told long {end} is found sought {w} there = by (subst (Sought (RightWord img) 0 end) there sought)
    where
      by : FirstWrong (RightWord img) 0 end w × (w < end) → Report img (reported img (header w))
      by (first, inside) = report_word long w (omega (arith, inside, is)) (λ v less. first.before v (omega arith) less) (first.wrong inside)

pub stated_small : (form : ℕ) {segments : ℕ} → segments ≡ stated_segments form → segments ≤ 4
stated_small form s = omega (arith, s, stated_few form)

-- the size stated is few enough to count
pub size_fits : {blocks segments bytes : ℕ} → blocks < 65536 → segments ≤ 4 → bytes ≡ segment_bytes segments → blocks * bytes ≤ 65536 * 512
size_fits {blocks} {segments} {bytes} few small is =
    let most : bytes ≤ 512 = omega (arith, is, small) in
    let fewer : blocks ≤ 65536 = omega arith in
    mul-le-mul fewer most
