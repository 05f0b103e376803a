-- Means: the rows of tests of linked add; `code_iff` (promises) ties them to the propositions of the paper.
use Rattle.std.specs.Prelude.{ℕ, Bool, not, ◌||◌, List, [], ◌∷◌, ◌++◌, eqb, ltb}
use Rattle.answers.specs.Refusals.{Row, row}
use Rattle.pack.specs.declared.Entry.{Entry}
use Rattle.pack.specs.declared.Key.{Key}
use Rattle.pack.specs.Owner.{free_count}
use Rattle.asking.specs.declared.Right.TheVariants.{Write}
use Rattle.asking.specs.AskedStage.{file_rows}
use Rattle.asking.specs.Asked.{file_of}
use Rattle.asking.specs.Access.{access_rows}

-- "writer 2 or 3"
abbrev pub open_for_adding : Entry → Bool
open_for_adding x = eqb x.writer 2 || eqb x.writer 3

-- "Linked add: payload of 510, write right, writer 2 or 3", of no contiguous file, whose kind is 1; behind its access, "42: no free block":
-- fewer blocks are free than are needed. `wrong` says that an argument is wrong.
unfoldable pub linked_add_rows : List ℕ → Key → ℕ → Bool → ℕ → List Row
linked_add_rows img key caller wrong needed =
    file_rows img key wrong
    ++ (access_rows (file_of img key) caller Write 1 (not (open_for_adding (file_of img key))) ++ (row (ltb (free_count img) needed) 0o42 ∷ []))
