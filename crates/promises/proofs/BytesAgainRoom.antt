-- Where the free blocks hold bytes, and nothing else speaks against adding them, nothing speaks against any part of them, nor against the ending call.
use Prim.Native.Nat.{ℕ, ◌+◌, ◌-◌, ◌*◌, ◌/◌, ◌≤◌, ◌<◌}
use mathlib.Core.Path.{◌≡◌, refl, sym, ap, subst, ◌∙◌}
use mathlib.Core.Bool.{Bool, true, false, cond}
use mathlib.Core.List.{List, ◌++◌, append_assoc}
use native.Mathlib.Nat.{div-lt_iff_lt-mul}
use native.Mathlib.Omega.{arith}
use lib.Dec.{eqb}
use lib.ListN.{length, length-append, length-replicate}
use borrow.Author.Tests.{eqb-false}
use Rattle.answers.specs.Refusals.{first_of}
use Rattle.pack.specs.declared.Key.{Key}
use Rattle.pack.specs.Geometry.{geometry_of, payload_bytes}
use Rattle.pack.specs.Owner.{free_count}
use Rattle.owners.proofs.OwnerSearch.{measured_sized}
use Rattle.bodies.specs.BufferSizes.{wrong_payload}
use Rattle.bodies.proofs.BufferSizes.{payload_fits}
use Rattle.adding.specs.LinkedAddRows.{linked_add_rows}
use Rattle.adding.proofs.LinkedAddStage.{linked_add_clear}
use Rattle.stream.specs.Gather.{gathered}
use Rattle.stream.proofs.Gather.{gathered_count}
use Rattle.lines.specs.LineWriting.{line_end}
use Rattle.promises.specs.GivenWhen.{GivesCode}
use Rattle.promises.specs.Codes.{AddingCases, OtherPayload}
use Rattle.promises.proofs.GivenWhen.{last_given}
use Rattle.promises.proofs.CodesTests.{above}
use Rattle.promises.proofs.CodesBlocks.{sized, adding_code}
use Rattle.promises.proofs.BytesAgainLaid.{Clear, BytesAdded, clear_front, clear_behind}
use Rattle.promises.proofs.BytesAgainCalls.{nuls_to, clear_ending}

-- bytes that the free blocks hold, and NULs that do not fill another
few_blocks_law : (size filled bytes nuls free : ℕ) → filled + bytes ≤ free * size → nuls < size → (filled + (bytes + nuls)) / size ≤ free
few_blocks_law size filled bytes nuls free enough few =
    let all : ℕ = filled + (bytes + nuls) in
    let below : all / size < free + 1 = (div-lt_iff_lt-mul {k = size} {x = all} {y = free + 1} (omega (arith, few))).1 (omega (arith, enough, few)) in
    omega (arith, below)

nuls_few : (size filled : ℕ) → 0 < size → length (nuls_to size filled) < size
nuls_few size filled some = rw (length-replicate {A = ℕ} (cond (eqb filled 0) 0 (size - filled)) 0) (by (eqb filled 0) refl)
  where
    by : (none : Bool) → eqb filled 0 ≡ none → cond none 0 (size - filled) < size
    by true is = some
    by false is = omega (arith, some, eqb-false filled 0 is)

-- a linked file that is open for adding, with the right to write, and a gather buffer of the size asked: with enough free blocks no row is given
module _ (img : List ℕ) (key : Key) (caller : ℕ) (gather : List ℕ)
    (open-cases : GivesCode (AddingCases img key caller (OtherPayload img gather)) 0) where
  rows_none : (needed : ℕ) → needed ≤ free_count img → first_of (linked_add_rows img key caller (wrong_payload img gather) needed) ≡ 0
  rows_none needed enough =
      (last_given (free_count img < needed) 0o42 (AddingCases img key caller (OtherPayload img gather)) refl
      (adding_code img key caller _ _ (sized (length gather) (payload_bytes (geometry_of img))) needed _ (λ right good. above (free_count img) needed)) open-cases).1
      (λ few. omega (arith, few, enough))

  -- the payloads have a size, and the buffer has it
  sizes : (length gather ≡ payload_bytes (geometry_of img)) × (0 < payload_bytes (geometry_of img))
  sizes =
      let file = (linked_add_clear img key caller (wrong_payload img gather) 0 (rows_none 0 (omega arith))).0.file in
      (payload_fits img gather (geometry_of img) file.argument refl, omega (arith, (measured_sized file.right file.measures).some))

  -- "room enough", behind what the buffer holds
  module _ (filled : ℕ) (within : filled < payload_bytes (geometry_of img)) (bytes : List ℕ)
      (room : filled + length bytes ≤ free_count img * payload_bytes (geometry_of img)) where
    abbrev last : ℕ
    last = (gathered (payload_bytes (geometry_of img)) gather filled bytes).filled

    abbrev nuls : List ℕ
    nuls = nuls_to (payload_bytes (geometry_of img)) last

    enough : length (gathered (payload_bytes (geometry_of img)) gather filled (bytes ++ nuls)).full ≤ free_count img
    enough =
        rw (gathered_count (payload_bytes (geometry_of img)) gather filled within sizes.0 (bytes ++ nuls), length-append bytes nuls)
        (few_blocks_law (payload_bytes (geometry_of img)) filled (length bytes) (length nuls) (free_count img) room (nuls_few (payload_bytes (geometry_of img)) last sizes.1))

    pub whole_clear : Clear key caller (geometry_of img) img gather filled (bytes ++ nuls)
    whole_clear =
        let needed : ℕ = length (gathered (payload_bytes (geometry_of img)) gather filled (bytes ++ nuls)).full in
        let passed = rows_none needed enough in
        record {
          measures = refl;
          rows = ap (λ (wrong : Bool). first_of (linked_add_rows img key caller wrong needed)) (sym (linked_add_clear img key caller _ _ passed).0.file.argument) ∙ passed;
          whole = sizes.0;
          room = within;
        }

    -- on the way: nothing speaks against the next part of what is left
    pub part_clear : {front img' gather' : List ℕ} {filled' : ℕ} → BytesAdded key caller (geometry_of img) img gather filled front img' gather' filled'
        → (part left : List ℕ) → front ++ (part ++ left) ≡ bytes → Clear key caller (geometry_of img) img' gather' filled' part
    part_clear {front} added part left is =
        let parts : front ++ (part ++ (left ++ nuls)) ≡ bytes ++ nuls =
        ap (λ (s : List ℕ). front ++ s) (sym (append_assoc part left nuls)) ∙ sym (append_assoc front (part ++ left) nuls) ∙ ap (λ (s : List ℕ). s ++ nuls) is in
        clear_front part (left ++ nuls)
        (clear_behind front (part ++ (left ++ nuls)) added (subst (Clear key caller (geometry_of img) img gather filled) (sym parts) whole_clear))

    -- "an ending call fills the last with NUL, or adds none at 0"
    pub bytes_ended : {img' gather' : List ℕ} {filled' : ℕ} → BytesAdded key caller (geometry_of img) img gather filled bytes img' gather' filled'
        → (line_end img' key caller gather' filled').code ≡ 0
    bytes_ended {img'} {gather'} {filled'} added =
        clear_ending {g = geometry_of img}
        (subst (λ (n : ℕ). Clear key caller (geometry_of img) img' gather' filled' (nuls_to (payload_bytes (geometry_of img)) n)) (sym added.next)
        (clear_behind bytes nuls added whole_clear))
