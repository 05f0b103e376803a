-- Rests on the contract of `word_at`: each field is the word that the layout says.
use Rattle.many.specs.Layout.{record_at}
use Rattle.many.proofs.record_at.Goals as goal

pub returns : goal.returns
unfolding record_at
returns c = λ j.
    record {
      request = c.word_at-request.ensures.value j;
      caller = c.word_at-caller.ensures.value j;
      name1 = c.word_at-name1.ensures.value j;
      name2 = c.word_at-name2.ensures.value j;
      extension = c.word_at-extension.ensures.value j;
      uic = c.word_at-uic.ensures.value j;
      word6 = c.word_at-word6.ensures.value j;
      word7 = c.word_at-word7.ensures.value j;
      word8 = c.word_at-word8.ensures.value j;
      word9 = c.word_at-word9.ensures.value j;
    }
