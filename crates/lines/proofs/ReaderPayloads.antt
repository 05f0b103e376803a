-- A line read on payload by payload, as the loop over the blocks has it: what each payload needs, and the end of the line, of the block and of the file.
use Prim.Native.Nat.{ℕ, ◌+◌, ◌-◌, ◌≤◌, ◌<◌}
use mathlib.Core.Path.{◌≡◌, refl, sym, ap, ◌∙◌}
use mathlib.Core.Bool.{true, false}
use mathlib.Core.List.{List, []}
use native.Mathlib.Omega.{arith}
use lib.Dec.{leb}
use lib.ListN.{length, drop, length-append, length-take, length-drop}
use Rattle.std.specs.Prelude.{Some, None}
use Rattle.pack.specs.File.{link_of}
use Rattle.bodies.specs.BlockBytes.{part_of}
use Rattle.stream.specs.declared.Tail.{Tail}
use Rattle.stream.specs.Spot.{payloads_from, most_bytes}
use Rattle.stream.specs.Tail.{rest}
use Rattle.stream.proofs.SpotSteps.{spot_end}
use Rattle.lines.specs.declared.LineMode.{LineMode}
use Rattle.lines.specs.declared.line_read.Reader.{Reader}
use Rattle.lines.specs.LineRead.{status_bit}
use Rattle.lines.specs.LineSteps.{LineState, read_from, read_on_from, at_end}
use Rattle.lines.specs.Reader.{state_of, state_ended, Following}
use Rattle.lines.proofs.LineSteps.{read_parts, part_ended, part_unended, part_end, file_ended, file_unended}
use Rattle.stream.proofs.SpotPayload.{payload_inside, payload_split}

pub follow_start : {mode : LineMode} {most : ℕ} {buffer : List ℕ} {tail : Tail} → length buffer ≡ most
    → length (rest tail) ≤ most_bytes → Following mode most (read_from mode most buffer 0 0 (rest tail)) buffer 0 0 tail
follow_start long few = record { long = long; few = omega arith; room = omega (arith, few); same = refl }

module _ {mode : LineMode} {most : ℕ} {whole : LineState} {buffer : List ℕ} {count passed : ℕ} {tail : Tail}
    (following : Following mode most whole buffer count passed tail) where
  -- no block is left
  pub follow_over : tail.spot.left ≤ 0 → {status : ℕ} → status ≡ status_bit (leb (length buffer) count) 1
      → record { buffer = buffer; count = count; status = 64 + status; passed = passed; ended = true } ≡ at_end most whole
  follow_over none told =
      let end : whole ≡ record { buffer = buffer; count = count; status = 0; passed = passed; ended = false } =
      following.same ∙ ap (read_from mode most buffer count passed) (spot_end tail.img.now tail.g tail.spot (omega arith)) ∙ part_end mode most buffer count passed [] 0 (omega arith) in
      rw (told, following.long, end) (sym (file_unended most buffer count 0 passed))

  module _ (some : 0 < tail.spot.left) where
    abbrev part : List ℕ
    part = part_of tail.img.now tail.spot.at (tail.spot.end - tail.spot.at)

    abbrev behind : List ℕ
    behind = payloads_from tail.img.now tail.g (tail.spot.left - 1) (link_of tail.img.now tail.g tail.spot.block.0)

    -- what `read_payload` asks
    pub follow_ready : 0 < most → (0 < length buffer) × (count ≤ passed) × (passed ≤ most_bytes) × (length part ≤ most_bytes)
    follow_ready room =
        let standing = tail.standing in
        let size : length part ≤ tail.spot.end - tail.spot.at = omega (arith, length-take (tail.spot.end - tail.spot.at) (drop tail.spot.at tail.img.now)) in
        let sized = standing.chained.sized in (
          omega (arith, following.long),
          following.few,
          omega (arith, following.room),
          omega (arith, size, standing.from some, standing.close some, sized.few),
        )

    module _ {buffer' : List ℕ} (r : Reader) (read : state_of buffer' r ≡ read_from mode (length buffer) buffer count passed part) where
      both : whole ≡ read_on_from mode most (state_of buffer' r) behind
      both =
          following.same
          ∙ ap (read_from mode most buffer count passed) (payload_split tail.standing some)
          ∙ read_parts mode most buffer count passed part behind
          ∙ ap (λ (s : LineState). read_on_from mode most s behind) (sym (read ∙ ap (λ (n : ℕ). read_from mode n buffer count passed part) following.long))

      pub follow_ended : {status : ℕ} → r.ended ≡ Some status
          → state_ended buffer' (record { count = r.count; status = status; position = r.passed }) ≡ at_end most whole
      follow_ended {status} ended =
          rw (both, ended, part_ended most buffer' r.count status r.passed mode behind) (sym (file_ended most buffer' r.count status r.passed))

      -- the next block's payload
      pub follow_next : r.ended ≡ None → length buffer' ≡ length buffer → (r.count ≤ r.passed) × (r.passed ≤ passed + length part)
          → {next : Tail} → rest next ≡ behind → Following mode most whole buffer' r.count r.passed next
      follow_next ended kept bounds {next} stands =
          let split = ap length (payload_split tail.standing some) in
          let sum = length-append part behind in
          let long = ap (λ (s : List ℕ). length s) stands in
          record {
            long = kept ∙ following.long;
            few = bounds.0;
            room = omega (arith, following.room, bounds.1, split, sum, long);
            same =
                both
                ∙ rw ended (part_unended most buffer' r.count 0 r.passed mode behind)
                ∙ ap (read_from mode most buffer' r.count r.passed) (sym stands);
          }

    pub follow_less : (next : Tail) → rest next ≡ behind → length (rest next) < length (rest tail)
    follow_less next stands =
        let split = ap length (payload_split tail.standing some) in
        let sum = length-append part behind in
        let long = ap (λ (s : List ℕ). length s) stands in
        let inside = payload_inside tail.standing some in
        let size = length-take (tail.spot.end - tail.spot.at) (drop tail.spot.at tail.img.now) in
        let far = length-drop tail.spot.at tail.img.now in
        omega (arith, split, sum, long, inside, size, far, tail.standing.before some)
