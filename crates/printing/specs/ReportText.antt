-- What the program `report` prints of an image, document 02 §6: one line.
use Rattle.std.specs.Prelude.{ℕ, ◌≤◌, ◌<◌, Bool, cond, ◌&&◌, List, [], ◌++◌, eqb, leb, length}
use Rattle.words.specs.Text.{bytes}
use Rattle.faults.specs.declared.ReportAnswer.{ReportAnswer}
use Rattle.faults.specs.Report.{Report}
use Rattle.printing.specs.Listing.{newline, five, longest, refused_line}

-- the name of a rule behind a blank: of those that name a block, and of the others, of which rule 3 has none
unfoldable pub chain_rule_name : ℕ → List ℕ
chain_rule_name rule =
    cond (eqb rule 6) (bytes " LINK")
    (cond (eqb rule 7) (bytes " LOOP")
    (cond (eqb rule 8) (bytes " END") (cond (eqb rule 9) (bytes " SHARED") (cond (eqb rule 10) (bytes " MAP") []))))

unfoldable pub rule_name : ℕ → List ℕ
rule_name rule =
    cond (eqb rule 1) (bytes " SIZE")
    (cond (eqb rule 2) (bytes " HEADER") (cond (eqb rule 4) (bytes " NAME") (cond (eqb rule 5) (bytes " EXTENT") (chain_rule_name rule))))

-- a number that the rule names, in five decimal digits behind what it is
unfoldable pub member : Bool → List ℕ → ℕ → List ℕ
member named what number = cond named (what ++ five number) []

-- an entry by rules 3 to 9; a word by rules 2 to 5; a block from rule 6 on
-- FAULT SIZE; FAULT HEADER WORD 00003; FAULT ENTRY 00012 WORD 00004; FAULT NAME ENTRY 00007 WORD 00003; FAULT LINK ENTRY 00003 BLOCK 00012; FAULT MAP BLOCK 00017
unfoldable pub fault_line : ReportAnswer → List ℕ
fault_line answer =
    bytes "FAULT"
    ++ (rule_name answer.rule
    ++ (member (leb 3 answer.rule && leb answer.rule 9) (bytes " ENTRY ") answer.entry
    ++ (member (leb 2 answer.rule && leb answer.rule 5) (bytes " WORD ") answer.word
    ++ (member (leb 6 answer.rule) (bytes " BLOCK ") answer.block ++ newline))))

-- rule 0 is CONSISTENT
unfoldable pub report_text : ReportAnswer → List ℕ
report_text answer = cond (eqb answer.rule 0) (bytes "CONSISTENT" ++ newline) (fault_line answer)

-- "The report is a second program too, for standard input of up to 65536 bytes; longer input prints `REFUSED 40`."
pub data ReportPrints (img : List ℕ) : List ℕ → Type 0 where
  too_long : longest < length img → ReportPrints img refused_line
  told : {answer : ReportAnswer} → length img ≤ longest → Report img answer → ReportPrints img (report_text answer)
