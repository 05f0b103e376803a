-- Means: what the code says of a fault by its kind, in the numbers of the report: the rule, and the entry, the word and the block that it names.
use Rattle.std.specs.Prelude.{ℕ, Option, Some, None, Result, Ok, Err, ⊤}
use Rattle.faults.specs.declared.Fault.{Fault}
use Rattle.faults.specs.declared.Fault.TheVariants.{Size, Header, Field, SameName, Extent, Link, Loop, End, Shared, Map}
use Rattle.faults.specs.declared.ReportAnswer.{ReportAnswer}
use Rattle.faults.specs.Report.{nothing_wrong}

-- the number of the rule
abbrev pub rule_of : Fault → ℕ
rule_of Size = 1
rule_of (Header w) = 2
rule_of (Field e w) = 3
rule_of (SameName e) = 4
rule_of (Extent e w) = 5
rule_of (Link e b) = 6
rule_of (Loop e b) = 7
rule_of (End e b) = 8
rule_of (Shared e b) = 9
rule_of (Map b) = 10

-- what it names, if it does
abbrev pub entry_named : Fault → Option ℕ
entry_named Size = None
entry_named (Header w) = None
entry_named (Field e w) = Some e
entry_named (SameName e) = Some e
entry_named (Extent e w) = Some e
entry_named (Link e b) = Some e
entry_named (Loop e b) = Some e
entry_named (End e b) = Some e
entry_named (Shared e b) = Some e
entry_named (Map b) = None

-- "Two entries of one name are reported at the later one, with word 3"
abbrev pub word_named : Fault → Option ℕ
word_named Size = None
word_named (Header w) = Some w
word_named (Field e w) = Some w
word_named (SameName e) = Some 3
word_named (Extent e w) = Some w
word_named (Link e b) = None
word_named (Loop e b) = None
word_named (End e b) = None
word_named (Shared e b) = None
word_named (Map b) = None

abbrev pub block_named : Fault → Option ℕ
block_named Size = None
block_named (Header w) = None
block_named (Field e w) = None
block_named (SameName e) = None
block_named (Extent e w) = None
block_named (Link e b) = Some b
block_named (Loop e b) = Some b
block_named (End e b) = Some b
block_named (Shared e b) = Some b
block_named (Map b) = Some b

-- all four, 0 where it names none
abbrev pub numbers_of : Fault → ReportAnswer
numbers_of Size = record { rule = 1; entry = 0; word = 0; block = 0 }
numbers_of (Header w) = record { rule = 2; entry = 0; word = w; block = 0 }
numbers_of (Field e w) = record { rule = 3; entry = e; word = w; block = 0 }
numbers_of (SameName e) = record { rule = 4; entry = e; word = 3; block = 0 }
numbers_of (Extent e w) = record { rule = 5; entry = e; word = w; block = 0 }
numbers_of (Link e b) = record { rule = 6; entry = e; word = 0; block = b }
numbers_of (Loop e b) = record { rule = 7; entry = e; word = 0; block = b }
numbers_of (End e b) = record { rule = 8; entry = e; word = 0; block = b }
numbers_of (Shared e b) = record { rule = 9; entry = e; word = 0; block = b }
numbers_of (Map b) = record { rule = 10; entry = 0; word = 0; block = b }

-- what a stage answers: rule 0 where it found no fault
abbrev pub report_in : Result ⊤ Fault → ReportAnswer
report_in (Ok fine) = nothing_wrong
report_in (Err fault) = numbers_of fault
