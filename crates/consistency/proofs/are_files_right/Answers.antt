-- Rests on `ConsistentTestFiles`: where the entries are right, what they left on the lent map is what the pack's map must say.
use mathlib.Core.Path.{sym, ◌∙◌}
use Rattle.answers.proofs.RefusalsTests.{true_not_false}
use Rattle.consistency.proofs.ConsistentTestFiles.{files_system, files_wrong, files_marks, files_by_map}
use Rattle.consistency.proofs.are_files_right.Goals as goal

pub are_entries_right-requires : goal.are_entries_right-requires
are_entries_right-requires c = record {
  right_header = c.requires.right_header;
  blocks_in_bounds =
      (c.requires.map_value.1, files_system c.args.view.sized c.requires.map_value.0 c.requires.map_value.1);
}

pub returns-then-not-are_entries_right : goal.returns-then-not-are_entries_right
returns-then-not-are_entries_right c = let wrong = sym c.are_entries_right.ensures.value ∙ c.if-not-are_entries_right.true in
    record { value = files_wrong c.args.view.sized c.requires.map_value.0 c.requires.map_value.1 wrong; map_after = λ is. true_not_false (sym is) }

pub is_map_right-requires : goal.is_map_right-requires
is_map_right-requires c = let good = c.if-not-are_entries_right.false in
    record {
      marks = files_marks c.args.view.sized c.requires.map_value.0 c.requires.map_value.1 (sym c.are_entries_right.ensures.value ∙ good)
          (c.are_entries_right.ensures.map_after good) c.requires.map_value.2;
    }

pub returns : goal.returns
returns c = let good = c.if-not-are_entries_right.false in
    let marked = c.are_entries_right.ensures.map_after good in
    record {
      value = c.is_map_right.ensures ∙ files_by_map c.args.view.sized c.requires.map_value.0 c.requires.map_value.1 (sym c.are_entries_right.ensures.value ∙ good)
          marked;
      map_after = λ right. marked;
    }
