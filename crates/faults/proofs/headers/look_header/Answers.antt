-- Rests on `LookedHeader`: the size, or the first wrong word, of which there is one where the header is not right.
use native.Mathlib.Omega.{arith}
use Rattle.faults.proofs.LookedHeader.{size_short, size_other, size_right, size_fits, stated_small, words_stated, word_there, header_told}
use Rattle.faults.proofs.headers.look_header.Goals as goal

pub returns-then-img-lt4 : goal.returns-then-img-lt4
returns-then-img-lt4 c = size_short _ c.if-img-lt4.true

pub bytes-requires : goal.bytes-requires
bytes-requires c = stated_small _ c.stated-segments.ensures

pub overflow_mul-word_at : goal.overflow_mul-word_at
overflow_mul-word_at c = omega (arith, size_fits c.word_at-2.ensures.upper_bound (stated_small _ c.stated-segments.ensures) c.bytes.ensures)

pub returns-then-img-word_at : goal.returns-then-img-word_at
returns-then-img-word_at c = size_other _ c.word_at.ensures.value c.stated-segments.ensures c.word_at-2.ensures.value
    c.bytes.ensures c.if-img-word_at.true

pub words-requires : goal.words-requires
words-requires c = stated_small _ c.stated-segments.ensures

pub unwrap-requires : goal.unwrap-requires
unwrap-requires c = word_there _ c.requires
    (size_right _ c.word_at.ensures.value c.stated-segments.ensures c.word_at-2.ensures.value c.bytes.ensures c.if-img-lt4.false c.if-img-word_at.false)
    (words_stated _ c.word_at.ensures.value c.stated-segments.ensures c.word_at-2.ensures.value c.bytes.ensures c.words.ensures) _ c.wrong_word.ensures

pub returns : goal.returns
returns c = header_told _
    (size_right _ c.word_at.ensures.value c.stated-segments.ensures c.word_at-2.ensures.value c.bytes.ensures c.if-img-lt4.false c.if-img-word_at.false)
    (words_stated _ c.word_at.ensures.value c.stated-segments.ensures c.word_at-2.ensures.value c.bytes.ensures c.words.ensures) _ c.wrong_word.ensures
    c.unwrap.ensures
