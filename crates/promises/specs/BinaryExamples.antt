-- Formatted binary lines by example: the stored line of the data 5, 6 and 7, and each status that reading gives.
use Rattle.std.specs.Prelude.{◌≡◌, [], ◌∷◌}
use Rattle.lines.specs.declared.LineMode.TheVariants.{Normal, Special}
use Rattle.binary.specs.BinaryLine.{binary_line}
use Rattle.binary.specs.BinaryRead.{header_of, cut, wrong, counts, binary_found}

pub record BinaryExamples : Type 0 where
  -- "bytes 1 and 0, a count word of 4 plus the data bytes, low byte first, the data, then one byte that makes the sum of all of them 0 modulo 256"
  pub stored : binary_line (5 ∷ (6 ∷ (7 ∷ []))) ≡ 1 ∷ (0 ∷ (7 ∷ (0 ∷ (5 ∷ (6 ∷ (7 ∷ (230 ∷ [])))))))
  pub stored_empty : binary_line [] ≡ 1 ∷ (0 ∷ (4 ∷ (0 ∷ (251 ∷ []))))
  -- status 0; "NULs before a line are skipped", and are passed
  pub right : binary_found Normal 8 0 0 (0 ∷ (1 ∷ (0 ∷ (7 ∷ (0 ∷ (5 ∷ (6 ∷ (7 ∷ (230 ∷ (9 ∷ []))))))))))
      ≡ record { laid = 5 ∷ (6 ∷ (7 ∷ [])); count = 3; status = 0; passed = 9; to_come = 0; sum = 0 }
  -- status 1, "a short buffer": "normal lays surplus bytes over the last, counts them and verifies"
  pub surplus : binary_found Normal 2 0 0 (1 ∷ (0 ∷ (7 ∷ (0 ∷ (5 ∷ (6 ∷ (7 ∷ (230 ∷ []))))))))
      ≡ record { laid = 5 ∷ (7 ∷ []); count = 3; status = 1; passed = 8; to_come = 0; sum = 0 }
  -- "special keeps the rest ..; the length still to come and the sum so far are given back and passed in again", and the rest is read
  pub kept : binary_found Special 2 0 0 (1 ∷ (0 ∷ (7 ∷ (0 ∷ (5 ∷ (6 ∷ (7 ∷ (230 ∷ []))))))))
      ≡ record { laid = 5 ∷ (6 ∷ []); count = 2; status = 1; passed = 6; to_come = 1; sum = 19 }
  pub rest : binary_found Normal 1 1 19 (7 ∷ (230 ∷ [])) ≡ record { laid = 7 ∷ []; count = 1; status = 0; passed = 2; to_come = 0; sum = 0 }
  -- special stops where the buffer is full, though the bytes end there too, and is told so by the next read
  pub kept_at_end : binary_found Special 2 0 0 (1 ∷ (0 ∷ (7 ∷ (0 ∷ (5 ∷ (6 ∷ []))))))
      ≡ record { laid = 5 ∷ (6 ∷ []); count = 2; status = 1; passed = 6; to_come = 1; sum = 19 }
  pub nothing_more : binary_found Special 2 1 19 [] ≡ record { laid = []; count = 0; status = 64; passed = 0; to_come = 0; sum = 0 }
  -- "Bit 1 is a wrong sum": status 2, and 3 where a normal read is short too
  pub sum_wrong : binary_found Special 3 0 0 (1 ∷ (0 ∷ (7 ∷ (0 ∷ (5 ∷ (6 ∷ (8 ∷ (230 ∷ []))))))))
      ≡ record { laid = 5 ∷ (6 ∷ (8 ∷ [])); count = 3; status = 2; passed = 8; to_come = 0; sum = 0 }
  pub surplus_wrong : binary_found Normal 1 0 0 (1 ∷ (0 ∷ (7 ∷ (0 ∷ (5 ∷ (6 ∷ (8 ∷ (230 ∷ []))))))))
      ≡ record { laid = 8 ∷ []; count = 3; status = 3; passed = 8; to_come = 0; sum = 0 }
  -- "bit 2 a wrong first word or a count not 4 to 516, where nothing is laid down and the position stays"
  pub first_wrong : binary_found Normal 8 0 0 (0 ∷ (0 ∷ (1 ∷ (1 ∷ [])))) ≡ record { laid = []; count = 0; status = 4; passed = 0; to_come = 0; sum = 0 }
  -- a first word that is there is judged, though the count word is cut
  pub first_there : header_of (2 ∷ (0 ∷ (7 ∷ []))) ≡ wrong
  pub count3 : header_of (1 ∷ (0 ∷ (3 ∷ (0 ∷ [])))) ≡ wrong
  pub count4 : header_of (1 ∷ (0 ∷ (4 ∷ (0 ∷ [])))) ≡ counts 0
  pub count516 : header_of (1 ∷ (0 ∷ (4 ∷ (2 ∷ [])))) ≡ counts 512
  pub count517 : header_of (1 ∷ (0 ∷ (5 ∷ (2 ∷ [])))) ≡ wrong
  -- "bit 6 the data ending first, even inside a header word (then not bit 2)"; 65 where a normal read is short too
  pub cut1 : header_of (2 ∷ []) ≡ cut
  pub cut2 : header_of (1 ∷ (0 ∷ [])) ≡ cut
  pub cut3 : header_of (1 ∷ (0 ∷ (255 ∷ []))) ≡ cut
  pub no_sum : binary_found Special 3 0 0 (1 ∷ (0 ∷ (7 ∷ (0 ∷ (5 ∷ (6 ∷ (7 ∷ [])))))))
      ≡ record { laid = 5 ∷ (6 ∷ (7 ∷ [])); count = 3; status = 64; passed = 7; to_come = 0; sum = 0 }
  pub surplus_ended : binary_found Normal 2 0 0 (1 ∷ (0 ∷ (7 ∷ (0 ∷ (5 ∷ (6 ∷ []))))))
      ≡ record { laid = 5 ∷ (6 ∷ []); count = 2; status = 65; passed = 6; to_come = 0; sum = 0 }
  pub ended_before : binary_found Normal 3 0 0 (1 ∷ (0 ∷ (9 ∷ (0 ∷ (5 ∷ (6 ∷ []))))))
      ≡ record { laid = 5 ∷ (6 ∷ []); count = 2; status = 64; passed = 6; to_come = 0; sum = 0 }
