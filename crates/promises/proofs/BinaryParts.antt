-- A line read in parts, request by request, is the line read at once with a buffer that is large enough; and with any buffers the parts come to an end.
use Prim.Native.Nat.{ℕ, suc, ◌+◌, ◌%◌, ◌≤◌, ◌<◌}
use mathlib.Core.Path.{◌≡◌, refl, sym, ap, subst, ◌∙◌}
use mathlib.Core.Bool.{Bool, false}
use mathlib.Core.List.{List, [], ◌∷◌, ◌++◌}
use native.Mathlib.Omega.{arith}
use lib.Dec.{eqb}
use lib.ListN.{length, take, drop, get_or, length-append}
use lib.Seq.{take-append_seam}
use borrow.Author.Tests.{ne_eqb, le-ltb}
use Rattle.pack.specs.declared.Key.{Key}
use Rattle.pack.specs.Geometry.{geometry_of}
use Rattle.asking.specs.declared.Right.TheVariants.{Read}
use Rattle.asking.specs.Asked.{entry_no, file_of}
use Rattle.asking.specs.Outcome.{Outcome}
use Rattle.asking.proofs.AccessStage.{Reached}
use Rattle.stream.specs.BytesReading.{bytes_behind}
use Rattle.lines.specs.declared.LineMode.{LineMode}
use Rattle.lines.specs.declared.LineMode.TheVariants.{Normal, Special}
use Rattle.lines.specs.LineReadingRows.{wrong_reading}
use Rattle.lines.specs.LineReading.{mode_of}
use Rattle.binary.specs.BinaryRead.{BinaryFound, binary_found}
use Rattle.binary.specs.BinaryReadingRows.{wrong_asking}
use Rattle.binary.specs.BinaryReading.{binary_outcome, binary_read}
use Rattle.binary.specs.InParts.{joined, InParts}
use Rattle.binary.specs.InParts as Bytes
use Rattle.binary.proofs.BinaryGiven.{laid_length, special_count, special_given_none, normal_given_none}
use Rattle.binary.proofs.InParts as Parts
use Rattle.binary.proofs.BinaryReadingStage.{right_given, BinaryAsked, asked_room, asked_given, binary_read_clear, binary_read_given, binary_read_done}
use Rattle.binary.proofs.BinaryAgain.{bytes_next, binary_read_again}
use Rattle.promises.specs.BinaryAgain.{PartsRead, last_part, one_part}

-- a mode that there is, and a buffer
pub right_reading : (mode : ℕ) (buffer : List ℕ) → mode ≤ 1 → 0 < length buffer → wrong_reading mode buffer ≡ false
right_reading mode buffer small lent = rw (ne_eqb (length buffer) 0 (λ none. omega (arith, none, lent)), le-ltb 1 mode small)

-- where one reading has code 0, so has one with another buffer, in either mode
module _ (img : List ℕ) (key : Key) (caller mode position to_come sum : ℕ) (buffer : List ℕ)
    (success : (binary_read img key caller mode position to_come sum buffer).code ≡ 0) where
  pub read_otherwise : (mode' : ℕ) (buffer' : List ℕ) → mode' ≤ 1 → 0 < length buffer'
      → binary_read img key caller mode' position to_come sum buffer'
      ≡ binary_outcome img position buffer' (binary_found (mode_of mode') (length buffer') to_come sum (bytes_behind img key position))
  read_otherwise mode' buffer' small lent = binary_read_given asked position (binary_read_clear img key caller mode position to_come sum buffer success).1
    where
      first : BinaryAsked img key caller mode to_come sum buffer (geometry_of img) (entry_no img key) (file_of img key)
      first = (binary_read_clear img key caller mode position to_come sum buffer success).0

      again : wrong_asking mode' to_come sum buffer' ≡ false
      again =
          let given = asked_given first in
          rw (right_reading mode' buffer' small lent) (right_given to_come sum given.0 given.1 given.2)

      asked : BinaryAsked img key caller mode' to_come sum buffer' (geometry_of img) (entry_no img key) (file_of img key)
      asked =
          record {
            reached =
                subst (λ (b : Bool). Reached img key b caller Read 1 (λ y. eqb y.readers 0) (geometry_of img) (entry_no img key) (file_of img key))
                (first.reached.file.argument ∙ sym again) first.reached;
          }

-- the bytes laid, as many as are counted
counted : (mode : LineMode) (most to_come sum : ℕ) (s : List ℕ) → 0 < most → (binary_found mode most to_come sum s).count ≤ most
    → length (binary_found mode most to_come sum s).laid ≡ (binary_found mode most to_come sum s).count
counted mode most to_come sum s some fits = omega (arith, laid_length mode most to_come sum s some, fits)

special_counted : (most to_come sum : ℕ) (s : List ℕ) → 0 < most
    → length (binary_found Special most to_come sum s).laid ≡ (binary_found Special most to_come sum s).count
special_counted most to_come sum s some = counted Special most to_come sum s some (special_count most to_come sum s)

-- a part that is read to the end has as many
even_counted : (mode : LineMode) (most to_come sum : ℕ) (s : List ℕ) → 0 < most → to_come ≤ 512 → (binary_found mode most to_come sum s).status % 2 ≡ 0
    → length (binary_found mode most to_come sum s).laid ≡ (binary_found mode most to_come sum s).count
even_counted mode most to_come sum s some few even =
    let one = Parts.parts_are_one 512 (omega arith) few (Bytes.last_part {mosts = λ i. most} mode some even) in
    rw one (special_counted 512 to_come sum s (omega arith))

-- what a call answers, of what is found; its buffer has a byte, and at most 511 were to come
record Answered (found : BinaryFound) (position to_come : ℕ) (buffer : List ℕ) (count status next more so_far : ℕ) (after : List ℕ) : Type 0 where
  count_is : count ≡ found.count
  status_is : status ≡ found.status
  next_is : next ≡ position + found.passed
  more_is : more ≡ found.to_come
  so_far_is : so_far ≡ found.sum
  after_is : after ≡ found.laid ++ drop (length found.laid) buffer
  lent : 0 < length buffer
  few : to_come ≤ 512

call_answered : (img : List ℕ) (key : Key) (caller mode position to_come sum : ℕ) (buffer : List ℕ) {count status next more so_far : ℕ} {after : List ℕ}
    → binary_read img key caller mode position to_come sum buffer
    ≡ record { code = 0; numbers = count ∷ (status ∷ (next ∷ (more ∷ (so_far ∷ [])))); image = img; buffer = after }
    → Answered (binary_found (mode_of mode) (length buffer) to_come sum (bytes_behind img key position)) position to_come buffer count status next more so_far after
call_answered img key caller mode position to_come sum buffer is =
    let success = ap (λ (o : Outcome). o.code) is in
    let same = sym is ∙ binary_read_done img key caller mode position to_come sum buffer success in
    let asked = (binary_read_clear img key caller mode position to_come sum buffer success).0 in
    record {
      count_is = ap (λ (o : Outcome). get_or o.numbers 0 0) same;
      status_is = ap (λ (o : Outcome). get_or o.numbers 1 0) same;
      next_is = ap (λ (o : Outcome). get_or o.numbers 2 0) same;
      more_is = ap (λ (o : Outcome). get_or o.numbers 3 0) same;
      so_far_is = ap (λ (o : Outcome). get_or o.numbers 4 0) same;
      after_is = ap (λ (o : Outcome). o.buffer) same;
      lent = asked_room asked;
      few = omega (arith, (asked_given asked).0);
    }

-- the first bytes of a buffer that was laid over
laid_first : {found : BinaryFound} {position to_come : ℕ} {buffer : List ℕ} {count status next more so_far : ℕ} {after : List ℕ}
    → Answered found position to_come buffer count status next more so_far after → length found.laid ≡ found.count → take count after ≡ found.laid
laid_first {found} {buffer = buffer} a long =
    rw (a.after_is, a.count_is)
    (ap (λ (n : ℕ). take n (found.laid ++ drop (length found.laid) buffer)) (sym long) ∙ take-append_seam found.laid (drop (length found.laid) buffer))

-- what the calls come to, of the bytes from the position on
record PartsFound (img : List ℕ) (key : Key) (buffers : ℕ → List ℕ) (position to_come sum : ℕ) (laid : List ℕ) (status next : ℕ) : Type 0 where
  found : BinaryFound
  parts : InParts (λ i. length (buffers i)) to_come sum (bytes_behind img key position) found
  laid_is : found.laid ≡ laid
  count_is : found.count ≡ length laid
  status_is : found.status ≡ status
  next_is : position + found.passed ≡ next
  nothing_more : (found.to_come ≡ 0) × (found.sum ≡ 0)

same_parts : {mosts : ℕ → ℕ} {n n' m m' : ℕ} {s s' : List ℕ} {f : BinaryFound} → n ≡ n' → m ≡ m' → s ≡ s' → InParts mosts n m s f → InParts mosts n' m' s' f
same_parts {mosts} {n} {n'} {m} {m'} {s} {s'} {f} a b c parts =
    subst (λ (k : ℕ). InParts mosts k m' s' f) a (subst (λ (k : ℕ). InParts mosts n k s' f) b (subst (λ (t : List ℕ). InParts mosts n m t f) c parts))

parts_found : (img : List ℕ) (key : Key) (caller : ℕ) {buffers : ℕ → List ℕ} {position to_come sum : ℕ} {laid : List ℕ} {status next : ℕ}
    → PartsRead img key caller buffers position to_come sum laid status next → PartsFound img key buffers position to_come sum laid status next
parts_found img key caller (last_part {buffers} {position} {to_come} {sum} mode is even) =
    let a = call_answered img key caller mode position to_come sum (buffers 0) is in
    let here = binary_found (mode_of mode) (length (buffers 0)) to_come sum (bytes_behind img key position) in
    let even-here : here.status % 2 ≡ 0 = ap (λ (n : ℕ). n % 2) (sym a.status_is) ∙ even in
    let long = even_counted (mode_of mode) (length (buffers 0)) to_come sum (bytes_behind img key position) a.lent a.few even-here in
    record {
      found = here;
      parts = Bytes.last_part {mosts = λ i. length (buffers i)} (mode_of mode) a.lent even-here;
      laid_is = sym (laid_first a long);
      count_is = sym long ∙ ap length (sym (laid_first a long));
      status_is = sym a.status_is;
      next_is = sym a.next_is;
      nothing_more = (sym a.more_is, sym a.so_far_is);
    }
parts_found img key caller (one_part {buffers} {position} {to_come} {sum} {laid = laid} is rest) =
    let a = call_answered img key caller 1 position to_come sum (buffers 0) is in
    let here = binary_found Special (length (buffers 0)) to_come sum (bytes_behind img key position) in
    let r = parts_found img key caller rest in
    let long = special_counted (length (buffers 0)) to_come sum (bytes_behind img key position) a.lent in
    let success = ap (λ (o : Outcome). o.code) is in
    let on = ap (bytes_behind img key) a.next_is ∙ bytes_next img key caller 1 position to_come sum (buffers 0) success in
    record {
      found = joined here r.found;
      parts = Bytes.one_part {mosts = λ i. length (buffers i)} {rest = r.found} a.lent (sym a.status_is)
          (same_parts a.more_is a.so_far_is on r.parts);
      laid_is = rw (laid_first a long, r.laid_is);
      count_is = rw (laid_first a long, length-append here.laid laid, long, r.count_is);
      status_is = r.status_is;
      next_is = omega (arith, r.next_is, a.next_is);
      nothing_more = r.nothing_more;
    }

-- the first call had code 0
first_success : (img : List ℕ) (key : Key) (caller : ℕ) {buffers : ℕ → List ℕ} {position to_come sum : ℕ} {laid : List ℕ} {status next : ℕ}
    → PartsRead img key caller buffers position to_come sum laid status next
    → (mode : ℕ) × ((binary_read img key caller mode position to_come sum (buffers 0)).code ≡ 0) × (to_come ≤ 512)
first_success img key caller (last_part {buffers} {position} {to_come} {sum} mode is even) =
    (mode, ap (λ (o : Outcome). o.code) is, (call_answered img key caller mode position to_come sum (buffers 0) is).few)
first_success img key caller (one_part {buffers} {position} {to_come} {sum} is rest) =
    (1, ap (λ (o : Outcome). o.code) is, (call_answered img key caller 1 position to_come sum (buffers 0) is).few)

module _ (img : List ℕ) (key : Key) (caller : ℕ) where
  -- "special keeps the rest and does not verify until its last part is read": all parts come to what one special read with a buffer from 512 gives
  pub binary_parts_one : {buffers : ℕ → List ℕ} {position to_come sum : ℕ} {laid : List ℕ} {status next : ℕ}
      → PartsRead img key caller buffers position to_come sum laid status next → (buffer : List ℕ) → 512 ≤ length buffer
      → binary_read img key caller 1 position to_come sum buffer
      ≡ record { code = 0; numbers = length laid ∷ (status ∷ (next ∷ (0 ∷ (0 ∷ [])))); image = img; buffer = laid ++ drop (length laid) buffer }
  binary_parts_one {buffers} {position} {to_come} {sum} parts buffer large =
      let first = first_success img key caller parts in
      let r = parts_found img key caller parts in
      let one = Parts.parts_are_one (length buffer) large first.2 r.parts in
      read_otherwise img key caller first.0 position to_come sum (buffers 0) first.1 1 buffer (omega arith) (omega (arith, large))
      ∙ ap (binary_outcome img position buffer) (sym one)
      ∙ told r buffer
    where
      told : {buffers : ℕ → List ℕ} {position to_come sum : ℕ} {laid : List ℕ} {status next : ℕ}
          → (r : PartsFound img key buffers position to_come sum laid status next) (buffer : List ℕ)
          → binary_outcome img position buffer r.found
          ≡ record { code = 0; numbers = length laid ∷ (status ∷ (next ∷ (0 ∷ (0 ∷ [])))); image = img; buffer = laid ++ drop (length laid) buffer }
      told r buffer = rw (r.laid_is, r.count_is, r.status_is, r.next_is, r.nothing_more.0, r.nothing_more.1)

  none_given : (mode : LineMode) (most to_come sum : ℕ) (s : List ℕ) → (binary_found mode most to_come sum s).status % 2 ≡ 0
      → ((binary_found mode most to_come sum s).to_come ≡ 0) × ((binary_found mode most to_come sum s).sum ≡ 0)
  none_given Normal most to_come sum s even = normal_given_none most to_come sum s
  none_given Special most to_come sum s even = special_given_none most to_come sum s (λ one. omega (arith, even, ap (λ (n : ℕ). n % 2) one))

  -- where a call from here has code 0, with whatever buffer: a last part, and a part with parts behind it
  module _ (buffers : ℕ → List ℕ) (some : 0 < length (buffers 0)) (mode position to_come sum : ℕ) (buffer : List ℕ)
      (success : (binary_read img key caller mode position to_come sum buffer).code ≡ 0) where
    abbrev AsParts : Type 0
    AsParts = (laid : List ℕ) × (status : ℕ) × (next : ℕ) × PartsRead img key caller buffers position to_come sum laid status next

    as_last : (number : ℕ) → number ≤ 1 → (binary_found (mode_of number) (length (buffers 0)) to_come sum (bytes_behind img key position)).status % 2 ≡ 0 → AsParts
    as_last number small even =
        let is = read_otherwise img key caller mode position to_come sum buffer success number (buffers 0) small some in
        let none = none_given (mode_of number) (length (buffers 0)) to_come sum (bytes_behind img key position) even in
        (_, _, _, last_part number (rw (none.0, none.1) at is) even)

    as_part : (binary_found Special (length (buffers 0)) to_come sum (bytes_behind img key position)).status ≡ 1
        → ((laid : List ℕ) × (status : ℕ) × (next : ℕ)
        × PartsRead img key caller (λ i. buffers (suc i)) (position + (binary_found Special (length (buffers 0)) to_come sum (bytes_behind img key position)).passed)
        (binary_found Special (length (buffers 0)) to_come sum (bytes_behind img key position)).to_come
        (binary_found Special (length (buffers 0)) to_come sum (bytes_behind img key position)).sum laid status next)
        → AsParts
    as_part one rest =
        let is = read_otherwise img key caller mode position to_come sum buffer success 1 (buffers 0) (omega arith) some in
        (_, _, _, one_part (rw one at is) rest.3)

  parts_asked : {mosts : ℕ → ℕ} {to_come sum : ℕ} {s : List ℕ} {f : BinaryFound} → InParts mosts to_come sum s f
      → (buffers : ℕ → List ℕ) → ((i : ℕ) → mosts i ≡ length (buffers i))
      → (position : ℕ) → s ≡ bytes_behind img key position → (mode : ℕ) (buffer : List ℕ) → (binary_read img key caller mode position to_come sum buffer).code ≡ 0
      → (laid : List ℕ) × (status : ℕ) × (next : ℕ) × PartsRead img key caller buffers position to_come sum laid status next
  parts_asked (Bytes.last_part {to_come = to_come} {sum = sum} Normal some even) buffers long position here mode buffer success =
      as_last buffers (rw (← long 0) some) mode position to_come sum buffer success 0 (omega arith) (rw (← here, ← long 0) even)
  parts_asked (Bytes.last_part {to_come = to_come} {sum = sum} Special some even) buffers long position here mode buffer success =
      as_last buffers (rw (← long 0) some) mode position to_come sum buffer success 1 (omega arith) (rw (← here, ← long 0) even)
  parts_asked (Bytes.one_part {mosts = mosts} {to_come = to_come} {sum = sum} {s = s} some one rest) buffers long position here mode buffer success =
      let lent : 0 < length (buffers 0) = rw (← long 0) some in
      let found = binary_found Special (mosts 0) to_come sum s in
      let first = ap (λ (o : Outcome). o.code) (read_otherwise img key caller mode position to_come sum buffer success 1 (buffers 0) (omega arith) lent) in
      let on : drop found.passed s ≡ bytes_behind img key (position + found.passed) =
      rw (here, long 0) (sym (bytes_next img key caller 1 position to_come sum (buffers 0) first)) in
      let again : (binary_read img key caller 1 (position + found.passed) found.to_come found.sum (buffers 0)).code ≡ 0 =
      rw (here, long 0) (ap (λ (o : Outcome). o.code)
      (binary_read_again img key caller 1 position to_come sum (buffers 0) first 1 (buffers 0) (right_reading 1 (buffers 0) (omega arith) lent))) in
      as_part buffers lent mode position to_come sum buffer success (rw (← here, ← long 0) one)
      (rw (← here, ← long 0) (parts_asked rest (λ i. buffers (suc i)) (λ i. long (suc i)) (position + found.passed) on 1 (buffers 0) again))

  -- and with whatever buffers of at least one byte, the calls come to an end
  pub binary_parts_end : (buffers : ℕ → List ℕ) → ((i : ℕ) → 0 < length (buffers i)) → (position to_come sum : ℕ)
      → (binary_read img key caller 1 position to_come sum (buffers 0)).code ≡ 0
      → (laid : List ℕ) × (status : ℕ) × (next : ℕ) × PartsRead img key caller buffers position to_come sum laid status next
  binary_parts_end buffers lent position to_come sum success =
      let few = (asked_given (binary_read_clear img key caller 1 position to_come sum (buffers 0) success).0).0 in
      let parts = Parts.parts_end (λ i. length (buffers i)) lent to_come sum (bytes_behind img key position) (omega (arith, few)) in
      parts_asked parts.1 buffers (λ i. refl) position refl 1 (buffers 0) success
