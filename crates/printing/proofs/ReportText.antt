-- The text of a report in the pieces that the code puts one behind another; one text for every image; the lines that are shown.
use Prim.Native.Nat.{ℕ, ◌≤◌}
use mathlib.Core.Path.{◌≡◌, refl, ap, subst}
use mathlib.Core.List.{List, ◌++◌}
use native.Mathlib.Omega.{arith}
use lib.ListN.{length}
use borrow.Author.Tests.{ne_eqb}
use Rattle.words.specs.Text.{bytes}
use Rattle.faults.specs.declared.Fault.{Fault}
use Rattle.faults.specs.declared.ReportAnswer.{ReportAnswer}
use Rattle.faults.specs.declared.Fault.TheVariants.{Size, Header, Field, SameName, Extent, Link, Loop, End, Shared, Map}
use Rattle.faults.specs.Named.{rule_of, entry_named, word_named, block_named, numbers_of}
use Rattle.faults.proofs.ReportConsistent.{report_one}
use Rattle.printing.specs.Listing.{newline}
use Rattle.printing.specs.Put.{Put}
use Rattle.printing.specs.ReportText.{chain_rule_name, rule_name, member, fault_line, report_text, ReportPrints, too_long, told}
use Rattle.printing.specs.ReportPieces.{member_text, longest_report, PrintedReport}
use Rattle.printing.proofs.Put.{put_first}

-- the pieces of a fault's line, of what it names and in its numbers
fault_pieces : (fault : Fault) → bytes "FAULT"
    ++ (rule_name (rule_of fault) ++ (member_text (bytes " ENTRY ") (entry_named fault) ++ (member_text (bytes " WORD ") (word_named fault)
    ++ (member_text (bytes " BLOCK ") (block_named fault) ++ newline)))) ≡ fault_line (numbers_of fault)
unfolding fault_line member
fault_pieces Size = refl
fault_pieces (Header w) = refl
fault_pieces (Field e w) = refl
fault_pieces (SameName e) = refl
fault_pieces (Extent e w) = refl
fault_pieces (Link e b) = refl
fault_pieces (Loop e b) = refl
fault_pieces (End e b) = refl
fault_pieces (Shared e b) = refl
fault_pieces (Map b) = refl

module _ (fault : Fault) {s t : List ℕ} {i j : ℕ} where
  pub put_fault_line : Put s t i j
      (bytes "FAULT"
      ++ (rule_name (rule_of fault) ++ (member_text (bytes " ENTRY ") (entry_named fault) ++ (member_text (bytes " WORD ") (word_named fault)
      ++ (member_text (bytes " BLOCK ") (block_named fault) ++ newline)))))
      → Put s t i j (fault_line (numbers_of fault))
  put_fault_line put = subst (Put s t i j) (fault_pieces fault) put

pub put_faulty : (answer : ReportAnswer) {s t : List ℕ} {i j : ℕ} → (answer.rule ≡ 0 → ⊥) → Put s t i j (fault_line answer) → Put s t i j (report_text answer)
unfolding report_text
put_faulty answer some put = rw (ne_eqb answer.rule 0 some) put

-- a report put at the start of a buffer is all that it is to hold
pub printed : {img s t text : List ℕ} {k : ℕ} → ReportPrints img text → Put s t 0 k text → k ≤ longest_report → longest_report ≤ length s → PrintedReport img s t k
printed {img} {s} {t} {text} prints put short room =
    let first = put_first put (omega arith) in
    record { text = text; prints = prints; long = first.0; whole = first.1; fits = short }

-- one text for every image
pub prints_one : {img a b : List ℕ} → ReportPrints img a → ReportPrints img b → a ≡ b
prints_one (too_long long) (too_long again) = refl
prints_one (too_long long) (told short report) = absurd (omega (arith, long, short))
prints_one (told short report) (too_long long) = absurd (omega (arith, long, short))
prints_one {img} (told short report) (told again report₂) = ap report_text (report_one img _ _ report report₂)

-- the lines that are shown
pub shown_consistent : report_text (record { rule = 0; entry = 0; word = 0; block = 0 }) ≡ bytes "CONSISTENT" ++ newline
unfolding report_text
shown_consistent = refl

pub shown_size : report_text (record { rule = 1; entry = 0; word = 0; block = 0 }) ≡ bytes "FAULT SIZE" ++ newline
unfolding report_text fault_line rule_name member
shown_size = refl

pub shown_header : report_text (record { rule = 2; entry = 0; word = 3; block = 0 }) ≡ bytes "FAULT HEADER WORD 00003" ++ newline
unfolding report_text fault_line rule_name member
shown_header = refl

pub shown_entry : report_text (record { rule = 3; entry = 12; word = 4; block = 0 }) ≡ bytes "FAULT ENTRY 00012 WORD 00004" ++ newline
unfolding report_text fault_line rule_name chain_rule_name member
shown_entry = refl

pub shown_name_law : report_text (record { rule = 4; entry = 7; word = 3; block = 0 }) ≡ bytes "FAULT NAME ENTRY 00007 WORD 00003" ++ newline
unfolding report_text fault_line rule_name member
shown_name_law = refl

pub shown_link : report_text (record { rule = 6; entry = 3; word = 0; block = 12 }) ≡ bytes "FAULT LINK ENTRY 00003 BLOCK 00012" ++ newline
unfolding report_text fault_line rule_name chain_rule_name member
shown_link = refl

pub shown_map : report_text (record { rule = 10; entry = 0; word = 0; block = 17 }) ≡ bytes "FAULT MAP BLOCK 00017" ++ newline
unfolding report_text fault_line rule_name chain_rule_name member
shown_map = refl
