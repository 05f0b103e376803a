-- The examples of formatted binary lines, computed.
use Rattle.binary.proofs.BinaryExamples as Shown
use Rattle.promises.specs.BinaryExamples.{BinaryExamples}

pub binary_examples : BinaryExamples
binary_examples =
    record {
      stored = Shown.stored;
      stored_empty = Shown.stored_empty;
      right = Shown.read_right;
      surplus = Shown.read_surplus;
      kept = Shown.read_stopped;
      rest = Shown.read_rest;
      kept_at_end = Shown.read_full;
      nothing_more = Shown.read_nothing_more;
      sum_wrong = Shown.read_sum_wrong;
      surplus_wrong = Shown.read_surplus_wrong;
      first_wrong = Shown.read_format;
      first_there = Shown.first_there;
      count3 = Shown.count_3;
      count4 = Shown.count_4;
      count516 = Shown.count_516;
      count517 = Shown.count_517;
      cut1 = Shown.cut_1;
      cut2 = Shown.cut_2;
      cut3 = Shown.cut_3;
      no_sum = Shown.read_no_sum;
      surplus_ended = Shown.read_ended_short;
      ended_before = Shown.read_ended_before;
    }
