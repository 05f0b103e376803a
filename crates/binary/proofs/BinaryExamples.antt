-- Formatted binary lines, worked out: one stored line, every status, and headers cut at each byte.
use mathlib.Core.Path.{◌≡◌, refl}
use mathlib.Core.List.{[], ◌∷◌}
use Rattle.lines.specs.declared.LineMode.TheVariants.{Normal, Special}
use Rattle.binary.specs.BinaryLine.{sum_of, binary_line}
use Rattle.binary.specs.BinaryRead.{nuls_before, count_read, header_of, cut, wrong, counts, data_found, headed, binary_found}

-- 1 + 0 + 7 + 0 + 5 + 6 + 7 is 26
pub stored : binary_line (5 ∷ (6 ∷ (7 ∷ []))) ≡ 1 ∷ (0 ∷ (7 ∷ (0 ∷ (5 ∷ (6 ∷ (7 ∷ (230 ∷ [])))))))
unfolding binary_line sum_of
stored = refl

pub stored_empty : binary_line [] ≡ 1 ∷ (0 ∷ (4 ∷ (0 ∷ (251 ∷ []))))
unfolding binary_line sum_of
stored_empty = refl

-- status 0, a NUL before the line
pub read_right : binary_found Normal 8 0 0 (0 ∷ (1 ∷ (0 ∷ (7 ∷ (0 ∷ (5 ∷ (6 ∷ (7 ∷ (230 ∷ (9 ∷ []))))))))))
    ≡ record { laid = 5 ∷ (6 ∷ (7 ∷ [])); count = 3; status = 0; passed = 9; to_come = 0; sum = 0 }
unfolding sum_of nuls_before count_read header_of data_found headed binary_found
read_right = refl

-- status 1: surplus laid over the last; or kept, and read on, by a normal read too
pub read_surplus : binary_found Normal 2 0 0 (1 ∷ (0 ∷ (7 ∷ (0 ∷ (5 ∷ (6 ∷ (7 ∷ (230 ∷ []))))))))
    ≡ record { laid = 5 ∷ (7 ∷ []); count = 3; status = 1; passed = 8; to_come = 0; sum = 0 }
unfolding sum_of nuls_before count_read header_of data_found headed binary_found
read_surplus = refl

pub read_stopped : binary_found Special 2 0 0 (1 ∷ (0 ∷ (7 ∷ (0 ∷ (5 ∷ (6 ∷ (7 ∷ (230 ∷ []))))))))
    ≡ record { laid = 5 ∷ (6 ∷ []); count = 2; status = 1; passed = 6; to_come = 1; sum = 19 }
unfolding sum_of nuls_before count_read header_of data_found headed binary_found
read_stopped = refl

pub read_rest : binary_found Normal 1 1 19 (7 ∷ (230 ∷ [])) ≡ record { laid = 7 ∷ []; count = 1; status = 0; passed = 2; to_come = 0; sum = 0 }
unfolding sum_of data_found binary_found
read_rest = refl

-- special stops where the buffer is full, even if nothing follows
pub read_full : binary_found Special 2 0 0 (1 ∷ (0 ∷ (7 ∷ (0 ∷ (5 ∷ (6 ∷ []))))))
    ≡ record { laid = 5 ∷ (6 ∷ []); count = 2; status = 1; passed = 6; to_come = 1; sum = 19 }
unfolding sum_of nuls_before count_read header_of data_found headed binary_found
read_full = refl

pub read_nothing_more : binary_found Special 2 1 19 [] ≡ record { laid = []; count = 0; status = 64; passed = 0; to_come = 0; sum = 0 }
unfolding sum_of data_found binary_found
read_nothing_more = refl

-- status 2, and 3 in normal mode
pub read_sum_wrong : binary_found Special 3 0 0 (1 ∷ (0 ∷ (7 ∷ (0 ∷ (5 ∷ (6 ∷ (8 ∷ (230 ∷ []))))))))
    ≡ record { laid = 5 ∷ (6 ∷ (8 ∷ [])); count = 3; status = 2; passed = 8; to_come = 0; sum = 0 }
unfolding sum_of nuls_before count_read header_of data_found headed binary_found
read_sum_wrong = refl

pub read_surplus_wrong : binary_found Normal 1 0 0 (1 ∷ (0 ∷ (7 ∷ (0 ∷ (5 ∷ (6 ∷ (8 ∷ (230 ∷ []))))))))
    ≡ record { laid = 8 ∷ []; count = 3; status = 3; passed = 8; to_come = 0; sum = 0 }
unfolding sum_of nuls_before count_read header_of data_found headed binary_found
read_surplus_wrong = refl

-- status 4: a first word that is there and wrong though nothing follows; a count of 3 and one of 517; the position stays before the NULs
pub read_format : binary_found Normal 8 0 0 (0 ∷ (0 ∷ (1 ∷ (1 ∷ [])))) ≡ record { laid = []; count = 0; status = 4; passed = 0; to_come = 0; sum = 0 }
unfolding sum_of nuls_before count_read header_of data_found headed binary_found
read_format = refl

pub first_there : header_of (2 ∷ (0 ∷ (7 ∷ []))) ≡ wrong
unfolding count_read header_of
first_there = refl

pub count_3 : header_of (1 ∷ (0 ∷ (3 ∷ (0 ∷ [])))) ≡ wrong
unfolding count_read header_of
count_3 = refl

pub count_4 : header_of (1 ∷ (0 ∷ (4 ∷ (0 ∷ [])))) ≡ counts 0
unfolding count_read header_of
count_4 = refl

pub count_516 : header_of (1 ∷ (0 ∷ (4 ∷ (2 ∷ [])))) ≡ counts 512
unfolding count_read header_of
count_516 = refl

pub count_517 : header_of (1 ∷ (0 ∷ (5 ∷ (2 ∷ [])))) ≡ wrong
unfolding count_read header_of
count_517 = refl

-- status 64: a header cut at each byte, a first byte that could be no header too
pub cut_1 : header_of (2 ∷ []) ≡ cut
unfolding count_read header_of
cut_1 = refl

pub cut_2 : header_of (1 ∷ (0 ∷ [])) ≡ cut
unfolding count_read header_of
cut_2 = refl

pub cut_3 : header_of (1 ∷ (0 ∷ (255 ∷ []))) ≡ cut
unfolding count_read header_of
cut_3 = refl

-- the last byte of the line missing; and 65 in normal mode, where the buffer is full and more was to come
pub read_no_sum : binary_found Special 3 0 0 (1 ∷ (0 ∷ (7 ∷ (0 ∷ (5 ∷ (6 ∷ (7 ∷ [])))))))
    ≡ record { laid = 5 ∷ (6 ∷ (7 ∷ [])); count = 3; status = 64; passed = 7; to_come = 0; sum = 0 }
unfolding sum_of nuls_before count_read header_of data_found headed binary_found
read_no_sum = refl

pub read_ended_short : binary_found Normal 2 0 0 (1 ∷ (0 ∷ (7 ∷ (0 ∷ (5 ∷ (6 ∷ []))))))
    ≡ record { laid = 5 ∷ (6 ∷ []); count = 2; status = 65; passed = 6; to_come = 0; sum = 0 }
unfolding sum_of nuls_before count_read header_of data_found headed binary_found
read_ended_short = refl

pub read_ended_before : binary_found Normal 3 0 0 (1 ∷ (0 ∷ (9 ∷ (0 ∷ (5 ∷ (6 ∷ []))))))
    ≡ record { laid = 5 ∷ (6 ∷ []); count = 2; status = 64; passed = 6; to_come = 0; sum = 0 }
unfolding sum_of nuls_before count_read header_of data_found headed binary_found
read_ended_before = refl
